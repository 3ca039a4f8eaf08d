-- The number of what a word begins, as the definitions have it. Assumes nothing.
use Rattle.std.specs.Prelude.{ℕ}
use Rattle.solve_begins.specs.declared.Begun.{Begun}
use Rattle.solve_begins.specs.declared.Begun.TheVariants.{Nothing, Fail, Equation, Application}

abbrev pub number : Begun → ℕ
number Nothing = 0
number Fail = 1
number Equation = 2
number Application = 3
