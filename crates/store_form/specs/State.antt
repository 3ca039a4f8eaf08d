-- What a store holds, and what that means by the definitions. Assumes nothing.
use Rattle.std.specs.Prelude.{List, ◌∷◌, map, Bool, ℕ, zero, suc, length}
use Rattle.akl.specs.Base.{Name, same, if}
use Rattle.akl.specs.Syntax.{Program}
use Rattle.akl.specs.Configuration.{Config}
use Rattle.akl.specs.WellFormed.{well_formed}
use Rattle.read_nodes.specs.Spell.{named}
use Rattle.store_form.specs.Sizes.{two_bytes}

-- The table of names is a trie: node 0 is the root, the empty name; the cell of each other node, in their order, is its parent's
-- number * 256 + the last byte of its name. The start makes it and no step changes it. The query's variables are given by the
-- numbers of their names.
pub record State : Type 0 where
  pub cells : List ℕ
  pub program : Program
  pub variables : List ℕ
  pub config : Config

-- the table with its root
abbrev pub table : State → List ℕ
table s = 0 ∷ s.cells

-- how many nodes it has
abbrev pub node_count : State → ℕ
node_count s = suc (length s.cells)

-- The number of a name: the first node that has it among k from i on; none has the number 65,536, which no word holds.
unfoldable pub number_from : ℕ → ℕ → List ℕ → Name → ℕ
number_from zero i N f = two_bytes
number_from (suc k) i N f = if (same (named N i) f) i (number_from k (suc i) N f)

unfoldable pub number_in : List ℕ → Name → ℕ
number_in N f = number_from (length N) 0 N f

-- What a state means.
abbrev pub program_of : State → Program
program_of s = s.program

abbrev pub names_of : State → List Name
names_of s = map (named (table s)) s.variables

abbrev pub config_of : State → Config
config_of s = s.config

-- "A store is well formed when ..": by the definitions, of what it means
abbrev pub well_formed_state : ℕ → State → Bool
well_formed_state limit s = well_formed limit (program_of s) (names_of s) (config_of s)
