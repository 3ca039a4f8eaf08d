-- Rule 5 by the positions that were found before. Assumes nothing.
use Rattle.std.specs.Prelude.{◌≡◌, refl, List, [], ◌∷◌, ◌++◌, ℕ, ◌+◌, ◌≤◌, get_or, take, drop}
use Rattle.std.proofs.Common.{ap, ap₂, sym, ◌∙◌}
use Rattle.mem_words.specs.declared.Word.{Word}
use Rattle.mem_words.specs.declared.Word.TheVariants.{Place, Bad}
use Rattle.mem_words.specs.Words.{Small}
use Rattle.mem_sorts.specs.declared.Kind.{Kind}
use Rattle.mem_sorts.specs.Shapes.{kind_small}
use Rattle.rule_words.specs.Scans.{close}
use Rattle.rule_effects.specs.Effects.{box_of, fresh_5, effect_5}
use Rattle.rule_clauses.specs.Going.{left, hidden}

pub small_place : (k : Kind) → Small (Place k)
small_place k = record { value = kind_small k }

pub fresh_5_is : (W : List Word) (i : ℕ) → fresh_5 W i ≡ hidden W (i + 2)
unfolding fresh_5 hidden
fresh_5_is W i = refl

pub effect_5_is : (W : List Word) (i next z : ℕ) (k : Kind) → k ≡ box_of (get_or W (i + 1) Bad) → z ≡ close W (i + 1) → take i W ++ ((Place k ∷ []) ++ (left W (i + 2) next ++ drop (z + 1) W)) ≡ effect_5 W i next
unfolding effect_5 left
effect_5_is W i next z k p q = ap₂ (λ (x : Kind) (y : ℕ). take i W ++ (Place x ∷ (left W (i + 2) next ++ drop (y + 1) W))) p q
