-- The bytes of a state:
--
--   header          six numbers: the form, the counts of nodes, of the program's words, of the query's variables and of the
--                   configuration's words, and the next fresh number
--   names           the cells of the nodes, the root's 0 first
--   program         its words (layout: Layout)
--   variables       the numbers of the names of the query's variables
--   configuration   its words (store_words: Boxes)
--
-- Numbers and words have three bytes, numbers the low byte first. The program's words stand right behind the names, with zeros up to
-- where the variables begin; variables and configuration have their lengths, with zeros behind what is used.
-- Assumes nothing.
use Rattle.std.specs.Prelude.{List, [], ◌∷◌, ◌++◌, ℕ, ◌-◌, ◌/◌, ◌%◌, length, replicate}
use Rattle.layout.specs.Layout.{program_words}
use Rattle.mem_words.specs.declared.Word.{Word}
use Rattle.mem_words.specs.Form.{bytes_of}
use Rattle.store_words.specs.Boxes.{node_words}
use Rattle.store_form.specs.Sizes.{form_number, program_length, variables_length, config_length}
use Rattle.store_form.specs.State.{State, table, node_count, number_in}

unfoldable pub number_bytes : ℕ → List ℕ → List ℕ
number_bytes v r = v % 256 ∷ v / 256 % 256 ∷ v / 65536 % 256 ∷ r

unfoldable pub numbers_bytes : List ℕ → List ℕ
numbers_bytes [] = []
numbers_bytes (v ∷ l) = number_bytes v (numbers_bytes l)

-- a region of n bytes that begins with l, before r
unfoldable pub region : ℕ → List ℕ → List ℕ → List ℕ
region n l r = l ++ (replicate (n - length l) 0 ++ r)

-- the words of the program and of the configuration, names by their numbers in the table
unfoldable pub rules_words : State → List Word
rules_words s = program_words (number_in (table s)) s.program

unfoldable pub config_words : State → List Word
config_words s = node_words (number_in (table s)) s.config.root []

unfoldable pub header : State → List ℕ
header s = form_number ∷ node_count s ∷ length (rules_words s) ∷ length s.variables ∷ length (config_words s) ∷ s.config.next ∷ []

-- the bytes of a state, for configurations of at most `limit` parts
unfoldable pub store_bytes : ℕ → State → List ℕ
store_bytes limit s =
    numbers_bytes (header s)
    ++ (numbers_bytes (table s)
    ++ region (program_length (node_count s)) (bytes_of (rules_words s))
    (region variables_length (numbers_bytes s.variables)
    (region (config_length limit) (bytes_of (config_words s)) [])))
