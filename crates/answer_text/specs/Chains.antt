-- A way down through the tables: variables, each an argument in the term of the one before. Assumes nothing.
use Rattle.std.specs.Prelude.{◌≡◌, List, ℕ, suc, ◌/◌, ◌%◌, ◌<◌, get_or}
use Rattle.constraint.specs.Constraint.{In}
use Rattle.mem_words.specs.declared.Word.{Word}
use Rattle.solve_fields.specs.Read.{args_at}
use Rattle.solve_explores.specs.Search.{cell_of}

-- the first h of them
pub record Chain (W : List Word) (P T : List ℕ) (K : ℕ → ℕ) (h : ℕ) : Type 0 where
  pub bound : (s : ℕ) → s < h → cell_of T (K s) % 4 ≡ 2
  pub linked : (s : ℕ) → suc s < h → In (K (suc s)) (args_at W (get_or P (cell_of T (K s) / 256) 0))
