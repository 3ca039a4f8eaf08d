use mathlib.Core.Path.{refl, sym, ap, subst}
use mathlib.Core.List.{List}
use Prim.Native.Nat.{ℕ, ◌-◌, ◌≤◌, ◌<◌}
use native.Mathlib.Omega.{arith}
use lib.ListN.{length, get_or}
use Rattle.mem_numbers.specs.Numbers.{triples, length_triples}
use Rattle.read_phrases.specs.Codes.{kind_inside}
use Rattle.read_statements.specs.Statements.{CanTurn}
use Rattle.read_statements.proofs.Following.{closing_start, follow_comma, follow_done, can_turn, follow_turned, follow_odd, follow_close, unmoved}
use Rattle.read_statements.proofs.follow.Goals as goal

pub loop-h-init : goal.loop-h-init
loop-h-init c = (refl, closing_start _ _ _ _ c.requires)

pub overflow_add-result : goal.overflow_add-result
overflow_add-result c = let i = kind_inside (triples c.args.codes.now) c.loop-h.i (omega (arith, sym c.kind_at-k.ensures, c.if-k-eq5.true)) in omega (arith, length_triples c.args.codes.now)

pub returns-then-k-eq5 : goal.returns-then-k-eq5
returns-then-k-eq5 c = unmoved (triples c.args.codes.now) c.args.stack.now _ c.args.at c.args.h _ c.loop-h.invariant.0 (follow_comma _ _ _ _ _ _ c.requires c.loop-h.invariant.1 _ c.kind_at-k.ensures c.if-k-eq5.true)

pub returns-then-d-eq0 : goal.returns-then-d-eq0
returns-then-d-eq0 c = unmoved (triples c.args.codes.now) c.args.stack.now _ c.args.at c.args.h _ c.loop-h.invariant.0 (follow_done _ _ _ _ _ _ c.requires c.loop-h.invariant.1 _ c.kind_at-k.ensures c.if-k-eq5.false c.if-d-eq0.true)

pub turn-requires : goal.turn-requires
turn-requires c = subst (λ (S : List ℕ). CanTurn (triples c.args.codes.now) S c.loop-h.i c.loop-h.d) (sym c.loop-h.invariant.0) (can_turn _ _ _ _ _ _ c.requires c.loop-h.invariant.1 _ c.kind_at-k.ensures c.if-k-eq5.false c.if-k-ne4.true c.if-d-eq0.false)

pub returns-then-k-ne4 : goal.returns-then-k-ne4
returns-then-k-ne4 c = follow_turned (triples c.args.codes.now) c.args.stack.now c.args.at c.args.h _ _ c.requires c.loop-h.invariant.1 _ _ _ c.loop-h.invariant.0 c.turn.ensures

pub overflow_sub-d : goal.overflow_sub-d
overflow_sub-d c = let z = c.if-d-eq0.false in omega arith

pub bounds-stack-d : goal.bounds-stack-d
bounds-stack-d c = let a = c.loop-h.invariant.1.height in let e = ap length c.loop-h.invariant.0 in omega (arith, c.requires.height)

pub returns-then-stack-d-gt1 : goal.returns-then-stack-d-gt1
returns-then-stack-d-gt1 c = unmoved (triples c.args.codes.now) c.args.stack.now _ c.args.at c.args.h _ c.loop-h.invariant.0 (follow_odd _ _ _ _ _ _ c.requires c.loop-h.invariant.1 _ c.kind_at-k.ensures c.if-k-ne4.false c.if-d-eq0.false (subst (λ (S : List ℕ). 1 < get_or S (c.loop-h.d - 1) 0) c.loop-h.invariant.0 c.if-stack-d-gt1.true))

pub overflow_add-i : goal.overflow_add-i
overflow_add-i c = let i = kind_inside (triples c.args.codes.now) c.loop-h.i (omega (arith, sym c.kind_at-k.ensures, c.if-k-ne4.false)) in omega (arith, length_triples c.args.codes.now)

pub loop-h-smaller : goal.loop-h-smaller
loop-h-smaller c = let i = kind_inside (triples c.args.codes.now) c.loop-h.i (omega (arith, sym c.kind_at-k.ensures, c.if-k-ne4.false)) in omega arith

pub loop-h-preserved : goal.loop-h-preserved
loop-h-preserved c = (c.loop-h.invariant.0, follow_close _ _ _ _ _ _ c.requires c.loop-h.invariant.1 _ c.kind_at-k.ensures c.if-k-ne4.false c.if-d-eq0.false (subst (λ (S : List ℕ). get_or S (c.loop-h.d - 1) 0 ≤ 1) c.loop-h.invariant.0 c.if-stack-d-gt1.false))
