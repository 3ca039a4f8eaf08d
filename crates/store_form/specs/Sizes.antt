-- The lengths of a store's regions, each in one place. Assumes nothing.
use Rattle.std.specs.Prelude.{ℕ, ◌+◌, ◌-◌, ◌*◌, ◌/◌}
use Rattle.akl.specs.Limits.{program_bytes, query_bytes, most_query_variables}

-- the number of this form, the first number in a store; in form 1 the names and the program had a region each
abbrev pub form_number : ℕ
form_number = 2

-- how many numbers the header has: the form, the counts of nodes, program words, variables and configuration words, the next fresh number
abbrev pub header_numbers : ℕ
header_numbers = 6

-- nodes of names: the root, four for each of `true` and `fail`, at most one for each byte of the texts
unfoldable pub most_nodes : ℕ
most_nodes = 9 + program_bytes + query_bytes

-- words of a program: at most five for two bytes of its text, as in `p,p,p`
unfoldable pub most_program_words : ℕ
most_program_words = 5 * program_bytes / 2

-- both together: five words come from a name and the mark behind it, and no mark makes a node; so nine nodes, one for each byte of
-- the query's text, and at most three nodes and words for a byte of the program's, as in `p,q,r`
unfoldable pub most_together : ℕ
most_together = 9 + query_bytes + 3 * program_bytes

-- words of a configuration for each part: a member that is an atom with 8 arguments has as many
abbrev pub part_words : ℕ
part_words = 14

-- "numbers stay at or below 65,534": numbers and words' values have two bytes
abbrev pub two_bytes : ℕ
two_bytes = 65536

-- Bytes. A number and a word have three.
unfoldable pub header_length : ℕ
header_length = 3 * header_numbers

-- what n nodes leave to the program of the region that it shares with the names
unfoldable pub program_length : ℕ → ℕ
program_length n = 3 * (most_together - n)

unfoldable pub variables_length : ℕ
variables_length = 3 * most_query_variables

unfoldable pub config_length : ℕ → ℕ
config_length limit = 3 * (part_words * limit)

-- where the regions begin, the program's behind n nodes
unfoldable pub program_start : ℕ → ℕ
program_start n = header_length + 3 * n

unfoldable pub variables_start : ℕ
variables_start = header_length + 3 * most_together

unfoldable pub config_start : ℕ
config_start = variables_start + variables_length

-- the documented length of a store for configurations of so many parts
unfoldable pub store_length : ℕ → ℕ
store_length limit = config_start + config_length limit
