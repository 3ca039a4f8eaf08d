-- Rule 2 by the positions that were found before. Assumes nothing.
use Rattle.std.specs.Prelude.{◌≡◌, refl, List, ◌++◌, map, ℕ, ◌+◌, take, drop}
use Rattle.std.proofs.Common.{ap, ap₂, sym, ◌∙◌}
use Rattle.mem_words.specs.declared.Word.{Word}
use Rattle.mem_copies.specs.Open.{open_word}
use Rattle.rule_words.specs.Scans.{close}
use Rattle.rule_words.specs.Pieces.{cut}
use Rattle.rule_effects.specs.Effects.{called, body_of, effect_2}

pub effect_2_is : (W D : List Word) (i v b o : ℕ) → b ≡ body_of W D i → v ≡ close W (i + 1) → o ≡ close D b
    → take (i + 1) W ++ (map (open_word (cut (i + 3) v W)) (cut b (o + 1) D) ++ drop (v + 1) W) ≡ effect_2 W D i
unfolding effect_2 called
effect_2_is W D i v b o p q t = ap₂ (λ (x y : ℕ). take (i + 1) W ++ (map (open_word (cut (i + 3) x W)) (cut b (y + 1) D) ++ drop (x + 1) W)) q t ∙ ap (called W D i (close W (i + 1))) p
