-- One clause opened: what code appends is its guarded goal. Assumes nothing.
use Rattle.std.specs.Prelude.{◌≡◌, refl, List, [], ◌∷◌, ◌++◌, map, ℕ, ◌+◌}
use Rattle.mem_words.specs.declared.Word.{Word}
use Rattle.mem_words.specs.declared.Word.TheVariants.{End, Place, Inner}
use Rattle.mem_sorts.specs.declared.Kind.TheVariants.{And, Guarded, Member}
use Rattle.mem_sorts.specs.declared.Sort.TheVariants.{Locals, Store}
use Rattle.mem_copies.specs.Open.{open_word}
use Rattle.rule_words.specs.Pieces.{cut}
use Rattle.rule_effects.specs.Effects.{guarded_one}

pub guarded_one_is : (W : List Word) (j g b : ℕ) (F : List Word)
    → (Place Guarded ∷ Place And ∷ []) ++ ((Inner Locals ∷ []) ++ (F ++ ((End ∷ Inner Store ∷ []) ++ ((End ∷ Place Member ∷ []) ++ (map (open_word F) (cut (j + 2) g W) ++ ((End ∷ End ∷ []) ++ (map (open_word F) (cut g b W) ++ (End ∷ []))))))))
    ≡ guarded_one W j g b F
unfolding guarded_one
guarded_one_is W j g b F = refl
