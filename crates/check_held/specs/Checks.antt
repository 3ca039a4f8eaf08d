-- What has to be checked of bytes, so that they hold a well-formed state: each field is one test on the bytes or on what they are
-- cut into. b is the store's slice as it was lent; what stands behind the documented length is not looked at. Assumes nothing.
use Rattle.std.specs.Prelude.{◌≡◌, List, [], map, ℕ, ◌+◌, ◌*◌, ◌<◌, ◌≤◌, T, length, get_or, take, drop}
use Rattle.constraint.specs.Solve.{distinct}
use Rattle.akl.specs.Base.{all}
use Rattle.akl.specs.Limits.{most_query_variables}
use Rattle.akl.specs.Syntax.{Program}
use Rattle.akl.specs.Configuration.{goal, Node, Config}
use Rattle.akl.specs.WellFormed.{well_formed}
use Rattle.layout.specs.Layout.{program_words}
use Rattle.mem_numbers.specs.Numbers.{triples}
use Rattle.mem_words.specs.declared.Word.{Word}
use Rattle.mem_words.specs.Words.{words}
use Rattle.read_nodes.specs.Spell.{named}
use Rattle.store_words.specs.Boxes.{node_words}
use Rattle.store_form.specs.Sizes.{form_number, most_nodes, most_program_words, most_together, part_words, two_bytes, header_length, program_start, variables_start, config_start, store_length}
use Rattle.store_form.specs.State.{State, number_in}
use Rattle.store_form.specs.Holding.{lowered, below, piece}
use Rattle.check_zeros.specs.Zeros.{Zeros}

-- The header's numbers: the form, the counts of nodes, of the program's words, of variables, of the configuration's words, the next number.
unfoldable pub numbers_in : List ℕ → List ℕ
numbers_in b = triples (take header_length b)

abbrev pub nodes_in : List ℕ → ℕ
nodes_in b = get_or (numbers_in b) 1 0

abbrev pub rules_in : List ℕ → ℕ
rules_in b = get_or (numbers_in b) 2 0

abbrev pub variables_in : List ℕ → ℕ
variables_in b = get_or (numbers_in b) 3 0

abbrev pub words_in : List ℕ → ℕ
words_in b = get_or (numbers_in b) 4 0

abbrev pub next_in : List ℕ → ℕ
next_in b = get_or (numbers_in b) 5 0

-- What is counted: the table of names, the words of the program, the query's variables, the words of the configuration.
unfoldable pub names_at : List ℕ → List ℕ
names_at b = triples (piece header_length (nodes_in b) b)

unfoldable pub rules_at : List ℕ → List Word
rules_at b = words (piece (program_start (nodes_in b)) (rules_in b) b)

unfoldable pub variables_at : List ℕ → List ℕ
variables_at b = triples (piece variables_start (variables_in b) b)

unfoldable pub words_at : List ℕ → List Word
words_at b = words (piece config_start (words_in b) b)

abbrev pub config_with : List ℕ → Node goal → Config
config_with b n = record { root = n; next = next_in b }

-- the state, of a program and a configuration that have these words
abbrev pub state_with : List ℕ → Program → Node goal → State
state_with b P n = record { cells = drop 1 (names_at b); program = P; variables = variables_at b; config = config_with b n }

-- The header's numbers h are within their bounds.
pub record Counts (limit : ℕ) (h : List ℕ) : Type 0 where
  pub form : get_or h 0 0 ≡ form_number
  pub root : 1 ≤ get_or h 1 0
  pub nodes : get_or h 1 0 ≤ most_nodes
  pub rules : get_or h 2 0 ≤ most_program_words
  pub together : get_or h 1 0 + get_or h 2 0 ≤ most_together
  pub variables : get_or h 3 0 ≤ most_query_variables
  pub words : get_or h 4 0 ≤ part_words * limit
  pub next : get_or h 5 0 < two_bytes

-- What is not used of each region is zero: behind the program, which stands behind the names; behind the variables; behind the
-- configuration.
pub record Unused (limit : ℕ) (b : List ℕ) : Type 0 where
  pub rules : Zeros b (program_start (nodes_in b) + 3 * rules_in b) variables_start
  pub variables : Zeros b (variables_start + 3 * variables_in b) config_start
  pub words : Zeros b (config_start + 3 * words_in b) (store_length limit)

-- The table of names is a trie with its root first, and the query's variables are nodes of it.
pub record Table (b : List ℕ) : Type 0 where
  pub root : get_or (names_at b) 0 0 ≡ 0
  pub lower : T (lowered 1 (drop 1 (names_at b)))
  pub apart : T (distinct (drop 1 (names_at b)))
  pub known : T (all (below (nodes_in b)) (variables_at b))

-- Everything: the bytes are those of this program and this configuration, which are well formed.
pub record Checks (limit : ℕ) (b : List ℕ) (P : Program) (n : Node goal) : Type 0 where
  pub long : store_length limit ≤ length b
  pub counts : Counts limit (numbers_in b)
  pub unused : Unused limit b
  pub table : Table b
  pub rules : rules_at b ≡ program_words (number_in (names_at b)) P
  pub words : words_at b ≡ node_words (number_in (names_at b)) n []
  pub formed : T (well_formed limit P (map (named (names_at b)) (variables_at b)) (config_with b n))
