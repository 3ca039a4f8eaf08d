-- Laws of the definitions of specs/Kinds.
use Rattle.std.specs.Prelude.{◌≡◌, refl, Bool, cond, List, ℕ, zero, suc}
use Rattle.std.proofs.Common.{ap, ◌∙◌}
use Rattle.mem_words.specs.declared.Word.{Word}
use Rattle.mem_sorts.specs.declared.Kind.TheVariants.{Or}
use Rattle.rule_words.specs.Scans.{around}
use Rattle.rule_effects.specs.Conditions.{kind_at}
use Rattle.rule_kinds.specs.Kinds.{or_takes}

pub or_within : (W : List Word) (i : ℕ) (b : Bool) → (i ≡ 0 → ⊥) → b ≡ kind_at W (around W i) Or → cond b 8 9 ≡ or_takes W i
unfolding or_takes
or_within W zero b n e = absurd (n refl)
or_within W (suc i) b n e = ap (λ (x : Bool). cond x 8 9) e

pub or_found : (W : List Word) (i a r : ℕ) (b : Bool) → (i ≡ 0 → ⊥) → a ≡ around W i → b ≡ kind_at W a Or → r ≡ cond b 8 9 → r ≡ or_takes W i
or_found W i a r b n e f g = g ∙ or_within W i b n (f ∙ ap (λ (j : ℕ). kind_at W j Or) e)
