-- Words that have no other variables than those of a list, each counted once. Assumes nothing.
use Rattle.std.specs.Prelude.{List, ℕ, get_or}
use Rattle.constraint.specs.Constraint.{In}
use Rattle.mem_words.specs.declared.Word.{Word}
use Rattle.mem_words.specs.declared.Word.TheVariants.{Bad}
use Rattle.solve_fields.specs.Read.{var_of}

-- every variable of the words is in vs, and so is 0, which any other word is read as
pub record Drawn (W : List Word) (vs : List ℕ) : Type 0 where
  pub at : (i : ℕ) → In (var_of (get_or W i Bad)) vs
