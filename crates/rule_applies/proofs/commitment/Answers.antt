-- By the operator, the guard and what stands beside it. Assumes nothing.
use Prim.Native.Nat.{ℕ}
use Rattle.mem_words.specs.Words.{words}
use Rattle.mem_sorts.specs.declared.Kind.TheVariants.{Commit}
use Rattle.rule_effects.specs.Conditions.{kind_at}
use mathlib.Core.Path.{refl, ap, ◌∙◌}
use native.Mathlib.Omega.{arith}
use Rattle.rule_applies.specs.Asking.{holds, fails, left_holds, right_decides, asks_8}
use Rattle.rule_applies.proofs.commitment.Goals as goal

pub opening_of-a-requires : goal.opening_of-a-requires
opening_of-a-requires c = c.requires

pub overflow_add-i : goal.overflow_add-i
overflow_add-i c = omega (arith, c.count-c.ensures.small, c.count-c.ensures.is, c.requires)

pub solved-requires : goal.solved-requires
solved-requires c = omega (arith, c.requires)

pub has_left-requires : goal.has_left-requires
has_left-requires c = c.requires

pub overflow_add-result : goal.overflow_add-result
overflow_add-result c = omega (arith, c.count-c.ensures.small, c.count-c.ensures.is, c.requires)

pub returns-then-has_left : goal.returns-then-has_left
unfolding asks_8
returns-then-has_left c = holds _ _ _ _ (c.is_kind.ensures ∙ ap (λ (j : ℕ). kind_at (words c.args.ws.now) j Commit) c.opening_of-a.ensures.0) c.if-is_kind.true (holds _ _ _ _ c.solved.ensures c.if-solved.true (left_holds _ _ _ _ _ c.has_left.ensures c.if-has_left.true refl))

pub has_right-requires : goal.has_right-requires
has_right-requires c = c.requires

pub overflow_add-result-then-has_right : goal.overflow_add-result-then-has_right
overflow_add-result-then-has_right c = omega (arith, c.count-c.ensures.small, c.count-c.ensures.is, c.requires)

pub returns-then-has_right : goal.returns-then-has_right
unfolding asks_8
returns-then-has_right c = holds _ _ _ _ (c.is_kind.ensures ∙ ap (λ (j : ℕ). kind_at (words c.args.ws.now) j Commit) c.opening_of-a.ensures.0) c.if-is_kind.true (holds _ _ _ _ c.solved.ensures c.if-solved.true (right_decides _ _ _ _ _ c.has_left.ensures c.if-has_left.false (holds _ _ _ _ c.has_right.ensures c.if-has_right.true refl)))

pub returns-then-solved : goal.returns-then-solved
unfolding asks_8
returns-then-solved c = holds _ _ _ _ (c.is_kind.ensures ∙ ap (λ (j : ℕ). kind_at (words c.args.ws.now) j Commit) c.opening_of-a.ensures.0) c.if-is_kind.true (holds _ _ _ _ c.solved.ensures c.if-solved.true (right_decides _ _ _ _ _ c.has_left.ensures c.if-has_left.false (fails _ _ _ c.has_right.ensures c.if-has_right.false)))

pub returns-then-is_kind : goal.returns-then-is_kind
unfolding asks_8
returns-then-is_kind c = holds _ _ _ _ (c.is_kind.ensures ∙ ap (λ (j : ℕ). kind_at (words c.args.ws.now) j Commit) c.opening_of-a.ensures.0) c.if-is_kind.true (fails _ _ _ c.solved.ensures c.if-solved.false)

pub returns : goal.returns
unfolding asks_8
returns c = fails _ _ _ (c.is_kind.ensures ∙ ap (λ (j : ℕ). kind_at (words c.args.ws.now) j Commit) c.opening_of-a.ensures.0) c.if-is_kind.false
