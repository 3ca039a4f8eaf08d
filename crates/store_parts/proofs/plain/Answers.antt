-- Both sums over the bytes that were passed. Assumes nothing.
use mathlib.Core.Path.{refl, ap, subst}
use mathlib.Core.List.{List}
use Prim.Native.Nat.{ℕ, ◌+◌, ◌*◌}
use native.Mathlib.Omega.{arith}
use lib.ListN.{get_or}
use Rattle.mem_words.specs.Words.{length_words}
use Rattle.mem_tallies.specs.Tallies.{Looked, Tallied, marks_many, tallied_none, tallied_more, tallied_all}
use Rattle.store_parts.specs.declared.Among.TheVariants.{Others}
use Rattle.store_parts.specs.Counting.{word_parts}
use Rattle.store_parts.specs.Pieces.{odd_one, parts_few, odds_few}
use Rattle.store_parts.proofs.plain.Goals as goal

pub overflow_mul-j : goal.overflow_mul-j
overflow_mul-j c = omega (arith, c.requires.inside, length_words c.args.ws.now)

pub loop-k-init : goal.loop-k-init
loop-k-init c = (omega arith, tallied_none (word_parts Others) c.args.ws.now c.args.i, tallied_none odd_one c.args.ws.now c.args.i)

pub overflow_add-x : goal.overflow_add-x
overflow_add-x c = omega (arith, c.requires.inside, length_words c.args.ws.now)

pub bounds-m-k : goal.bounds-m-k
bounds-m-k c = omega (arith, marks_many c.requires.marks)

pub bounds-ws-x : goal.bounds-ws-x
bounds-ws-x c = omega (arith, c.requires.inside, length_words c.args.ws.now)

pub overflow_add-x-in-loop-k : goal.overflow_add-x-in-loop-k
overflow_add-x-in-loop-k c = omega (arith, c.requires.inside, length_words c.args.ws.now)

pub bounds-ws-x-in-loop-k : goal.bounds-ws-x-in-loop-k
bounds-ws-x-in-loop-k c = omega (arith, c.requires.inside, length_words c.args.ws.now)

pub overflow_add-x-in-loop-k-2 : goal.overflow_add-x-in-loop-k-2
overflow_add-x-in-loop-k-2 c = omega (arith, c.requires.inside, length_words c.args.ws.now)

pub bounds-ws-x-in-loop-k-2 : goal.bounds-ws-x-in-loop-k-2
bounds-ws-x-in-loop-k-2 c = omega (arith, c.requires.inside, length_words c.args.ws.now)

pub overflow_add-s : goal.overflow_add-s
overflow_add-s c = omega (arith, parts_few c.loop-k.invariant.0 c.loop-k.invariant.1, c.one-s.ensures.1)

pub bounds-m-k-in-loop-k : goal.bounds-m-k-in-loop-k
bounds-m-k-in-loop-k c = omega (arith, marks_many c.requires.marks)

pub bounds-ws-x-in-loop-k-3 : goal.bounds-ws-x-in-loop-k-3
bounds-ws-x-in-loop-k-3 c = omega (arith, c.requires.inside, length_words c.args.ws.now)

pub overflow_add-x-in-loop-k-3 : goal.overflow_add-x-in-loop-k-3
overflow_add-x-in-loop-k-3 c = omega (arith, c.requires.inside, length_words c.args.ws.now)

pub bounds-ws-x-in-loop-k-4 : goal.bounds-ws-x-in-loop-k-4
bounds-ws-x-in-loop-k-4 c = omega (arith, c.requires.inside, length_words c.args.ws.now)

pub overflow_add-x-in-loop-k-4 : goal.overflow_add-x-in-loop-k-4
overflow_add-x-in-loop-k-4 c = omega (arith, c.requires.inside, length_words c.args.ws.now)

pub bounds-ws-x-in-loop-k-5 : goal.bounds-ws-x-in-loop-k-5
bounds-ws-x-in-loop-k-5 c = omega (arith, c.requires.inside, length_words c.args.ws.now)

pub overflow_add-q : goal.overflow_add-q
overflow_add-q c = omega (arith, odds_few c.loop-k.invariant.0 c.loop-k.invariant.2, c.odd-q.ensures.1)

pub loop-k-preserved : goal.loop-k-preserved
loop-k-preserved c =
    let o : Looked c.args.ws.now c.args.i c.loop-k.k (get_or c.args.m.now c.loop-k.k 0) (get_or c.args.ws.now (3 * c.args.i + c.loop-k.k) 0) (get_or c.args.ws.now (3 * c.args.i + c.loop-k.k + 1) 0) (get_or c.args.ws.now (3 * c.args.i + c.loop-k.k + 2) 0) = record { inside = c.requires.inside; near = omega arith; mark = ap (λ (l : List ℕ). get_or l c.loop-k.k 0) c.requires.marks; class = refl; low = refl; high = refl } in
    (omega arith, tallied_more c.loop-k.invariant.1 o c.one-s.ensures.0, tallied_more c.loop-k.invariant.2 o c.odd-q.ensures.0)

pub returns : goal.returns
returns c = record { parts = tallied_all (omega (arith, c.loop-k.invariant.0)) c.loop-k.invariant.1; even = subst (λ (n : ℕ). Tallied odd_one c.args.ws.now c.args.i 48 n) (omega arith) (tallied_all (omega (arith, c.loop-k.invariant.0)) c.loop-k.invariant.2) }
