-- The limits of document 01, each in one place.
use Rattle.std.specs.Prelude.{ℕ}

-- "program or steps over 16,384 bytes, query over 4,096"
abbrev pub program_bytes : ℕ
program_bytes = 16384

abbrev pub steps_bytes : ℕ
steps_bytes = 16384

abbrev pub query_bytes : ℕ
query_bytes = 4096

-- "Both have 1 to 32 bytes": names and variables
abbrev pub name_bytes : ℕ
name_bytes = 32

-- "over 128 definitions, 8 parameters or arguments, 16 query variables, depth 32"
abbrev pub most_definitions : ℕ
most_definitions = 128

abbrev pub most_arguments : ℕ
most_arguments = 8

abbrev pub most_query_variables : ℕ
most_query_variables = 16

abbrev pub most_depth : ℕ
most_depth = 32

-- "fresh numbers would pass 65,534"
abbrev pub last_number : ℕ
last_number = 65534

-- "A configuration has at most 2,048" parts. The definitions take the limit as an argument.
abbrev pub most_parts : ℕ
most_parts = 2048

-- "three decimal numbers below 2^32"
abbrev pub step_number : ℕ
step_number = 4294967296

-- "It lends 4,096 bytes per answer"
abbrev pub answer_bytes : ℕ
answer_bytes = 4096
