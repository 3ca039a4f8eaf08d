-- Applications that end within the words of the log: words behind them change none. Assumes nothing.
use Rattle.std.specs.Prelude.{◌≡◌, List, ◌++◌, ℕ, ◌<◌, get_or}
use Rattle.mem_words.specs.declared.Word.{Word}
use Rattle.solve_fields.specs.Read.{label_at, args_at}

pub record Closed (W : List Word) (P : List ℕ) (a : ℕ) : Type 0 where
  pub label : (R : List Word) (j : ℕ) → j < a → label_at (W ++ R) (get_or P j 0) ≡ label_at W (get_or P j 0)
  pub args : (R : List Word) (j : ℕ) → j < a → args_at (W ++ R) (get_or P j 0) ≡ args_at W (get_or P j 0)
