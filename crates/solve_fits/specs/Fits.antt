-- Whether the variables of words have cells. Assumes nothing.
use Rattle.std.specs.Prelude.{Bool, true, false, List, ℕ}
use Rattle.mem_words.specs.declared.Word.{Word}
use Rattle.solve_fields.specs.Read.{Vars}

-- every variable is below the limit, or not
abbrev pub Bounded : List Word → ℕ → Bool → Type 0
Bounded W limit true = Vars W limit
Bounded W limit false = Vars W limit → ⊥
