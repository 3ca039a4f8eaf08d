-- When bytes hold a state, and the state that bytes hold. Assumes nothing.
use Rattle.std.specs.Prelude.{◌≡◌, List, [], ◌∷◌, Bool, true, ◌&&◌, ℕ, suc, ◌+◌, ◌*◌, ◌/◌, ◌<◌, ◌≤◌, T, leb, ltb, length, get_or, take, drop}
use Rattle.std.proofs.Math.Option.{Option, some}
use Rattle.constraint.specs.Solve.{distinct}
use Rattle.akl.specs.Base.{all, same, when, ◌>>=◌}
use Rattle.akl.specs.Limits.{most_query_variables}
use Rattle.akl.specs.Configuration.{goal}
use Rattle.layout.specs.Reading.{read_program}
use Rattle.mem_numbers.specs.Numbers.{triples}
use Rattle.mem_words.specs.declared.Word.{Word}
use Rattle.mem_words.specs.Words.{words, value_of}
use Rattle.read_nodes.specs.Spell.{named}
use Rattle.store_words.specs.Reading.{read_node}
use Rattle.store_form.specs.Sizes.{most_nodes, most_program_words, most_together, part_words, two_bytes, header_length, program_start, variables_start, config_start}
use Rattle.store_form.specs.State.{State, node_count}
use Rattle.store_form.specs.Form.{rules_words, config_words, store_bytes}

-- each cell's parent is below its node, the first cell's node being i
unfoldable pub lowered : ℕ → List ℕ → Bool
lowered i [] = true
lowered i (c ∷ l) = ltb (c / 256) i && lowered (suc i) l

-- a word's value has two bytes; so a name in it stands in the table
unfoldable pub small_word : Word → Bool
small_word w = ltb (value_of w) two_bytes

abbrev pub below : ℕ → ℕ → Bool
below n x = ltb x n

-- A state that has bytes: what is used fits the regions; every node's parent is below it and no two nodes have the same parent and
-- byte, so that different numbers are those of different names; every name stands in the table.
pub record Fits (limit : ℕ) (s : State) : Type 0 where
  pub nodes : node_count s ≤ most_nodes
  pub lower : T (lowered 1 s.cells)
  pub apart : T (distinct s.cells)
  pub rules : length (rules_words s) ≤ most_program_words
  pub together : node_count s + length (rules_words s) ≤ most_together
  pub rules_small : T (all small_word (rules_words s))
  pub variables : length s.variables ≤ most_query_variables
  pub known : T (all (below (node_count s)) s.variables)
  pub words : length (config_words s) ≤ part_words * limit
  pub words_small : T (all small_word (config_words s))
  pub next : s.config.next < two_bytes

-- Bytes hold a state exactly when they are its bytes.
pub record Holds (limit : ℕ) (b : List ℕ) (s : State) : Type 0 where
  pub is : b ≡ store_bytes limit s
  pub fits : Fits limit s

-- the same as a test
unfoldable pub fits : ℕ → State → Bool
fits limit s =
    leb (node_count s) most_nodes
    && lowered 1 s.cells
    && distinct s.cells
    && leb (length (rules_words s)) most_program_words
    && leb (node_count s + length (rules_words s)) most_together
    && all small_word (rules_words s)
    && leb (length s.variables) most_query_variables
    && all (below (node_count s)) s.variables
    && leb (length (config_words s)) (part_words * limit)
    && all small_word (config_words s)
    && ltb s.config.next two_bytes

-- the state of a table N, words W of a program, variables v, words C of a configuration and a next number
unfoldable pub built : List ℕ → List Word → List ℕ → List Word → ℕ → Option State
built N W v C n =
    read_program (named N) W >>= λ P.
    read_node (named N) goal C >>= λ r.
    some (record { cells = drop 1 N; program = P; variables = v; config = record { root = r.0; next = n } })

-- n numbers or words from the byte o on, as bytes
unfoldable pub piece : ℕ → ℕ → List ℕ → List ℕ
piece o n b = take (3 * n) (drop o b)

-- by the counts h of the header
unfoldable pub parsed : List ℕ → List ℕ → Option State
parsed h b =
    built (triples (piece header_length (get_or h 1 0) b)) (words (piece (program_start (get_or h 1 0)) (get_or h 2 0) b)) (triples (piece variables_start (get_or h 3 0) b))
    (words (piece config_start (get_or h 4 0) b)) (get_or h 5 0)

-- the state that bytes hold: the only one that could have these bytes, if it has them
unfoldable pub read_store : ℕ → List ℕ → Option State
read_store limit b = parsed (triples (take header_length b)) b >>= λ s. when (fits limit s && same b (store_bytes limit s)) s
