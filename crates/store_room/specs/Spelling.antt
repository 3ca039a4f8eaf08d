-- Ranges of words that hold the words of stores. Assumes nothing.
use Rattle.std.specs.Prelude.{◌≡◌, List, [], ◌∷◌, ℕ, ◌+◌, ◌≤◌, length}
use Rattle.constraint.specs.Constraint.{Store}
use Rattle.akl.specs.Base.{Name}
use Rattle.mem_words.specs.declared.Word.{Word}
use Rattle.mem_copies.specs.Runs.{run}
use Rattle.store_words.specs.Boxes.{store_words}
use Rattle.rule_ranges.specs.Ranges.{Range}

-- the range holds the words of the store
pub record Spelled (num : Name → ℕ) (W : List Word) (r : Range) (σ : Store) : Type 0 where
  pub within : r.from + r.len ≤ length W
  pub words : run r.from r.len W ≡ store_words num σ []

-- each range holds those of one store, in the order of both lists
abbrev pub SpelledAll : (Name → ℕ) → List Word → List Range → List Store → Type 0
SpelledAll num W [] [] = Unit {0}
SpelledAll num W [] (σ ∷ σs) = ⊥
SpelledAll num W (r ∷ rs) [] = ⊥
SpelledAll num W (r ∷ rs) (σ ∷ σs) = Spelled num W r σ × SpelledAll num W rs σs
