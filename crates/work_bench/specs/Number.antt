-- The answers of `judge` as numbers. Assumes nothing.
use Rattle.std.specs.Prelude.{◌≡◌, ℕ}
use Rattle.work_judge.specs.declared.Judged.{Judged}
use Rattle.work_judge.specs.declared.Judged.TheVariants.{Unfit, NoSpace, Silent, Loudly}

abbrev pub number : Judged → ℕ
number Unfit = 0
number NoSpace = 1
number Silent = 2
number Loudly = 3

-- n is the number of an answer that is right.
pub record Numbered (Right : Judged → Type 0) (n : ℕ) : Type 0 where
  pub answer : Judged
  pub is : n ≡ number answer
  pub right : Right answer
