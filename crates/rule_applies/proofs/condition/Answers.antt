-- By the operator, the guard and what stands to its right. Assumes nothing.
use Prim.Native.Nat.{ℕ}
use Rattle.mem_words.specs.Words.{words}
use Rattle.mem_sorts.specs.declared.Kind.TheVariants.{Cond}
use Rattle.rule_effects.specs.Conditions.{kind_at}
use mathlib.Core.Path.{refl, ap, ◌∙◌}
use native.Mathlib.Omega.{arith}
use Rattle.rule_applies.specs.Asking.{holds, fails, asks_7}
use Rattle.rule_applies.proofs.condition.Goals as goal

pub opening_of-a-requires : goal.opening_of-a-requires
opening_of-a-requires c = c.requires

pub overflow_add-i : goal.overflow_add-i
overflow_add-i c = omega (arith, c.count-c.ensures.small, c.count-c.ensures.is, c.requires)

pub solved-requires : goal.solved-requires
solved-requires c = omega (arith, c.requires)

pub has_right-requires : goal.has_right-requires
has_right-requires c = c.requires

pub overflow_add-result : goal.overflow_add-result
overflow_add-result c = omega (arith, c.count-c.ensures.small, c.count-c.ensures.is, c.requires)

pub returns-then-has_right : goal.returns-then-has_right
unfolding asks_7
returns-then-has_right c = holds _ _ _ _ (c.is_kind.ensures ∙ ap (λ (j : ℕ). kind_at (words c.args.ws.now) j Cond) c.opening_of-a.ensures.0) c.if-is_kind.true (holds _ _ _ _ c.solved.ensures c.if-solved.true (holds _ _ _ _ c.has_right.ensures c.if-has_right.true refl))

pub returns-then-solved : goal.returns-then-solved
unfolding asks_7
returns-then-solved c = holds _ _ _ _ (c.is_kind.ensures ∙ ap (λ (j : ℕ). kind_at (words c.args.ws.now) j Cond) c.opening_of-a.ensures.0) c.if-is_kind.true (holds _ _ _ _ c.solved.ensures c.if-solved.true (fails _ _ _ c.has_right.ensures c.if-has_right.false))

pub returns-then-is_kind : goal.returns-then-is_kind
unfolding asks_7
returns-then-is_kind c = holds _ _ _ _ (c.is_kind.ensures ∙ ap (λ (j : ℕ). kind_at (words c.args.ws.now) j Cond) c.opening_of-a.ensures.0) c.if-is_kind.true (fails _ _ _ c.solved.ensures c.if-solved.false)

pub returns : goal.returns
unfolding asks_7
returns c = fails _ _ _ (c.is_kind.ensures ∙ ap (λ (j : ℕ). kind_at (words c.args.ws.now) j Cond) c.opening_of-a.ensures.0) c.if-is_kind.false
