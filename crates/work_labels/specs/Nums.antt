-- The numbers of labels that words hold. Assumes nothing.
use Rattle.std.specs.Prelude.{◌≡◌, List, ℕ, ◌<◌, get_or}
use Rattle.constraint.specs.Tree.{Label}
use Rattle.mem_words.specs.declared.Word.{Word}
use Rattle.mem_words.specs.declared.Word.TheVariants.{Bad}
use Rattle.solve_fields.specs.Read.{num_of}

-- every number of the words is below m
pub record Nums (W : List Word) (m : ℕ) : Type 0 where
  pub low : (i : ℕ) → num_of (get_or W i Bad) < m

-- labels with different numbers below m are different: what the reader says of the numbers of names
abbrev pub DistinctBelow : ℕ → (ℕ → Label) → Type 0
DistinctBelow m lab = (i j : ℕ) → i < m → j < m → lab i ≡ lab j → i ≡ j

-- the same labels below m
abbrev pub AgreeBelow : ℕ → (ℕ → Label) → (ℕ → Label) → Type 0
AgreeBelow m lab lab' = (i : ℕ) → i < m → lab i ≡ lab' i
