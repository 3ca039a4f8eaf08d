-- What a table of names says of a number: it is that of a constructor, of a predicate's name, of a definition. Assumes nothing.
use Rattle.std.specs.Prelude.{◌≡◌, List, Bool, ◌&&◌, ◌||◌, ℕ, ◌<◌, ltb, length}
use Rattle.akl.specs.Base.{is_some}
use Rattle.akl.specs.Syntax.{Program, defined}
use Rattle.akl.specs.WellFormed.{spelled_name, spelled_digits, spelled_predicate}
use Rattle.read_nodes.specs.Spell.{named}
use Rattle.store_form.specs.State.{number_in}

unfoldable pub con_in : List ℕ → ℕ → Bool
con_in N i = ltb i (length N) && (spelled_name (named N i) || spelled_digits (named N i))

unfoldable pub pred_in : List ℕ → ℕ → Bool
pred_in N i = ltb i (length N) && spelled_predicate (named N i)

unfoldable pub def_in : List ℕ → Program → ℕ → ℕ → Bool
def_in N P p k = ltb p (length N) && is_some (defined P (named N p) k)

-- each node's name has its number
abbrev pub Own : List ℕ → Type 0
Own N = (j : ℕ) → j < length N → number_in N (named N j) ≡ j
