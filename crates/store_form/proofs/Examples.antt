-- The store of document 01's record at its start, computed.
use mathlib.Core.Path.{◌≡◌, refl}
use mathlib.Core.List.{List, [], ◌∷◌}
use mathlib.Core.Bool.{true, false}
use mathlib.Core.Option.{some}
use Prim.Native.Nat.{ℕ, ◌+◌, ◌*◌}
use native.Mathlib.Omega.{arith}
use lib.Dec.{T}
use Rattle.akl.specs.Base.{bytes, Result, refused, ok}
use Rattle.akl.specs.Limits.{most_parts}
use Rattle.akl.specs.Computed.{everything}
use Rattle.akl.specs.Syntax.{Program}
use Rattle.akl.specs.Reader.{Query, read_program, read_query}
use Rattle.akl.specs.Configuration.{or, nil, start_config}
use Rattle.mem_words.specs.declared.Word.{Word}
use Rattle.mem_words.specs.declared.Word.TheVariants.{End, Free, Level, Num, Place, Inner}
use Rattle.mem_sorts.specs.declared.Kind.TheVariants.{Or, And, Member}
use Rattle.mem_sorts.specs.declared.Sort.TheVariants.{Locals, Store, True, App, Call, Clause, AskWait}
use Rattle.layout.specs.Layout.{var_word, vars_words, ask, con_words, stmt_words, program_words}
use Rattle.read_nodes.specs.Spell.{spell, named}
use Rattle.store_words.specs.Boxes.{local_words, store_words, node_words}
use Rattle.store_form.specs.Sizes.{most_nodes, most_program_words, most_together}
use Rattle.store_form.specs.State.{State, number_from, number_in, names_of, well_formed_state}
use Rattle.store_form.specs.Form.{number_bytes, numbers_bytes, region, rules_words, config_words, header, store_bytes}
use Rattle.store_form.specs.Holding.{lowered, small_word, fits, read_store}
use Rattle.store_form.proofs.Reading.{fits_says, store_back}

-- a node by its parent and its byte
abbrev cell : ℕ → ℕ → ℕ
cell p x = p * 256 + x

-- the nodes of `true`, `fail`, `amend` (number 13), `K` (14), `kept` (18) and `new` (21), as the reader makes them
abbrev cells : List ℕ
cells =
    cell 0 116 ∷ cell 1 114 ∷ cell 2 117 ∷ cell 3 101
    ∷ cell 0 102 ∷ cell 5 97 ∷ cell 6 105 ∷ cell 7 108
    ∷ cell 0 97 ∷ cell 9 109 ∷ cell 10 101 ∷ cell 11 110 ∷ cell 12 100
    ∷ cell 0 75
    ∷ cell 0 107 ∷ cell 15 101 ∷ cell 16 112 ∷ cell 17 116
    ∷ cell 0 110 ∷ cell 19 101 ∷ cell 20 119
    ∷ []

-- a state without rules, where a text is refused
abbrev nothing : State
nothing = record { cells = []; program = []; variables = []; config = record { root = or nil; next = 0 } }

abbrev started : Program → Result Query → State
started P (refused n) = nothing
started P (ok q) = record { cells = cells; program = P; variables = 14 ∷ []; config = start_config q }

abbrev begun : Result Program → List ℕ → State
begun (refused n) query = nothing
begun (ok P) query = started P (read_query P query)

unfoldable pub record_state : State
record_state = begun (read_program (bytes "amend(K) := (K = kept ? true ; K = new ? true).\n")) (bytes "amend(K).\n")

-- its query's one variable is K
pub record_names : names_of record_state ≡ bytes "K" ∷ []
unfolding everything record_state named spell
record_names = refl

-- the words of its configuration, and of its program
pub record_config : config_words record_state ≡ Place Or ∷ Place And ∷ Inner Locals ∷ Free 0 ∷ End ∷ Inner Store ∷ End ∷ Place Member ∷ Inner Call ∷ Num 13 ∷ Free 0 ∷ End ∷ End ∷ End ∷ End ∷ []
unfolding everything record_state named spell config_words number_in number_from node_words local_words store_words stmt_words vars_words var_word
record_config = refl

abbrev program_laid : List Word
program_laid =
    Num 13 ∷ Num 1
    ∷ Inner AskWait
    ∷ Inner Clause ∷ Num 0 ∷ Inner App ∷ Level 0 ∷ Num 18 ∷ End ∷ Inner True ∷ End ∷ End
    ∷ Inner Clause ∷ Num 0 ∷ Inner App ∷ Level 0 ∷ Num 21 ∷ End ∷ Inner True ∷ End ∷ End
    ∷ End
    ∷ []

pub record_program : rules_words record_state ≡ program_laid
unfolding everything record_state named spell rules_words number_in number_from program_words stmt_words con_words vars_words var_word ask
record_program = refl

-- its header: the form, 22 nodes, 22 words of the program, one variable, 15 words of the configuration, next number 1
pub record_header : header record_state ≡ 2 ∷ 22 ∷ 22 ∷ 1 ∷ 15 ∷ 1 ∷ []
unfolding everything record_state named spell header rules_words config_words number_in number_from program_words node_words local_words store_words stmt_words con_words vars_words var_word ask
record_header = refl

-- numbers in bytes, and a region with zeros behind what is used
pub small_bytes : (numbers_bytes (1 ∷ cell 5 97 ∷ 70000 ∷ []) ≡ 1 ∷ 0 ∷ 0 ∷ 97 ∷ 5 ∷ 0 ∷ 112 ∷ 17 ∷ 1 ∷ []) × (region 5 (7 ∷ 8 ∷ []) (9 ∷ []) ≡ 7 ∷ 8 ∷ 0 ∷ 0 ∷ 0 ∷ 9 ∷ [])
unfolding numbers_bytes number_bytes region
small_bytes = (refl, refl)

-- it is well formed, and has bytes
pub record_formed : T (well_formed_state most_parts record_state)
unfolding everything record_state named spell
record_formed = tt

record_fits : T (fits most_parts record_state)
unfolding everything record_state named spell fits lowered small_word most_nodes most_program_words most_together rules_words config_words number_in number_from program_words node_words local_words store_words stmt_words con_words vars_words var_word ask
record_fits = tt

-- and is read back from them
pub record_read : read_store most_parts (store_bytes most_parts record_state) ≡ some record_state
record_read = store_back most_parts (omega arith) record_state ((fits_says most_parts record_state).0 record_fits)

-- A table does not fit where a node's parent is not below it, or where two nodes have the same parent and byte.
abbrev with_cells : List ℕ → State
with_cells l = record { cells = l; program = []; variables = []; config = record { root = or nil; next = 0 } }

pub refuses_tables : (fits most_parts (with_cells (cell 0 97 ∷ cell 1 98 ∷ [])) ≡ true) × (fits most_parts (with_cells (cell 1 97 ∷ [])) ≡ false) × (fits most_parts (with_cells (cell 0 97 ∷ cell 0 97 ∷ [])) ≡ false)
unfolding everything fits lowered small_word most_nodes most_program_words most_together rules_words config_words program_words node_words
refuses_tables = (refl, refl, refl)

-- nor a name that the table does not have, a variable's name that is none of its numbers, or a number of three bytes
abbrev with_rest : List ℕ → ℕ → State
with_rest xs n = record { cells = 97 ∷ []; program = []; variables = xs; config = record { root = or nil; next = n } }

pub refuses_rest : (fits most_parts (with_rest (1 ∷ []) 1) ≡ true) × (fits most_parts (with_rest (2 ∷ []) 1) ≡ false) × (fits most_parts (with_rest (1 ∷ []) 65536) ≡ false)
unfolding everything fits lowered small_word most_nodes most_program_words most_together rules_words config_words program_words node_words
refuses_rest = (refl, refl, refl)
