-- What begins in the bytes that were passed. Assumes nothing.
use mathlib.Core.Path.{refl, ap}
use Prim.Native.Nat.{ℕ}
use native.Mathlib.Omega.{arith}
use lib.ListN.{get_or}
use Rattle.mem_words.specs.Words.{length_words}
use Rattle.mem_tallies.specs.Tallies.{marks_many, tallied_none, tallied_more, tallied_all}
use mathlib.Core.List.{List}
use Rattle.rule_places.specs.Pieces.{place_one, tally_few}
use Rattle.rule_places.proofs.places.Goals as goal

pub overflow_mul-j : goal.overflow_mul-j
overflow_mul-j c = omega (arith, c.requires.inside, length_words c.args.ws.now)

pub loop-k-init : goal.loop-k-init
loop-k-init c = (omega arith, tallied_none place_one c.args.ws.now c.args.i)

pub overflow_add-x : goal.overflow_add-x
overflow_add-x c = omega (arith, c.requires.inside, length_words c.args.ws.now)

pub bounds-m-k : goal.bounds-m-k
bounds-m-k c = omega (arith, marks_many c.requires.marks)

pub bounds-ws-x : goal.bounds-ws-x
bounds-ws-x c = omega (arith, c.requires.inside, length_words c.args.ws.now)

pub overflow_add-x-in-loop-k : goal.overflow_add-x-in-loop-k
overflow_add-x-in-loop-k c = omega (arith, c.requires.inside, length_words c.args.ws.now)

pub bounds-ws-x-in-loop-k : goal.bounds-ws-x-in-loop-k
bounds-ws-x-in-loop-k c = omega (arith, c.requires.inside, length_words c.args.ws.now)

pub overflow_add-x-in-loop-k-2 : goal.overflow_add-x-in-loop-k-2
overflow_add-x-in-loop-k-2 c = omega (arith, c.requires.inside, length_words c.args.ws.now)

pub bounds-ws-x-in-loop-k-2 : goal.bounds-ws-x-in-loop-k-2
bounds-ws-x-in-loop-k-2 c = omega (arith, c.requires.inside, length_words c.args.ws.now)

pub overflow_add-s : goal.overflow_add-s
overflow_add-s c = omega (arith, tally_few c.loop-k.invariant.0 c.loop-k.invariant.1, c.one-s.ensures.1)

pub loop-k-preserved : goal.loop-k-preserved
loop-k-preserved c = (
  omega arith,
  tallied_more c.loop-k.invariant.1
      (record { inside = c.requires.inside; near = omega arith; mark = ap (λ (l : List ℕ). get_or l c.loop-k.k 0) c.requires.marks; class = refl; low = refl; high = refl })
      c.one-s.ensures.0,
)

pub returns : goal.returns
returns c = tallied_all (omega (arith, c.loop-k.invariant.0)) c.loop-k.invariant.1
