-- Rule 4 by the positions that were found before. Assumes nothing.
use Rattle.std.specs.Prelude.{◌≡◌, refl, List, [], ◌∷◌, ◌++◌, map, ℕ, ◌+◌, get_or, take, drop}
use Rattle.std.proofs.Common.{ap, ap₂, sym, ◌∙◌}
use Rattle.mem_words.specs.declared.Word.{Word}
use Rattle.mem_words.specs.declared.Word.TheVariants.{Bad}
use Rattle.mem_copies.specs.Open.{open_word}
use Rattle.rule_words.specs.Scans.{close, around}
use Rattle.rule_words.specs.Pieces.{cut}
use Rattle.rule_effects.specs.Effects.{number_in, frees, revealed, fresh_4, effect_4}

pub revealed_is : (W : List Word) (i n next u s : ℕ) → take u W ++ (frees next n ++ (cut u (i + 1) W ++ (map (open_word (frees next n)) (cut (i + 3) s W) ++ drop (s + 1) W))) ≡ revealed W i n next u s
unfolding revealed
revealed_is W i n next u s = refl

pub fresh_4_is : (W : List Word) (i n : ℕ) → n ≡ number_in (get_or W (i + 2) Bad) → n ≡ fresh_4 W i
unfolding fresh_4
fresh_4_is W i n e = e

pub effect_4_is : (W : List Word) (i next n a u s : ℕ) → n ≡ number_in (get_or W (i + 2) Bad) → a ≡ around W i → u ≡ close W (a + 1) → s ≡ close W (i + 1) → revealed W i n next u s ≡ effect_4 W i next
unfolding effect_4 fresh_4
effect_4_is W i next n a u s e p q t =
    ap₂ (λ (x y : ℕ). revealed W i x next y s) e (q ∙ ap (λ (x : ℕ). close W (x + 1)) p) ∙ ap (revealed W i (number_in (get_or W (i + 2) Bad)) next (close W (around W i + 1))) t
