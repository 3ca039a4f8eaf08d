-- Words of small configurations, computed: the number of a name is its first byte.
use mathlib.Core.Path.{◌≡◌, refl}
use mathlib.Core.List.{List, [], ◌∷◌}
use mathlib.Core.Option.{some, none}
use Prim.Native.Nat.{ℕ}
use lib.ListN.{length}
use Rattle.constraint.specs.Constraint.{cfail, ceq, capp, ctrue}
use Rattle.akl.specs.Base.{Name, bytes, Result, refused, ok}
use Rattle.akl.specs.Computed.{everything}
use Rattle.akl.specs.Syntax.{Program, number, wait, cond, commit, atom, call}
use Rattle.akl.specs.Reader.{read_program, read_query}
use Rattle.akl.specs.Configuration.{goal, member, Node, or, and, stmt, choice_box, guard, nil, cons, one, start_config}
use Rattle.akl.specs.Parts.{parts, statement_parts}
use Rattle.mem_words.specs.declared.Word.{Word}
use Rattle.mem_words.specs.declared.Word.TheVariants.{End, Free, Level, Num, Place, Inner, Bad}
use Rattle.mem_sorts.specs.declared.Kind.TheVariants.{Or, And, Guarded, Member, Wait, Cond, Commit}
use Rattle.mem_sorts.specs.declared.Sort.TheVariants.{Locals, Store, True, Fail, Eq, App, Call}
use Rattle.layout.specs.Layout.{var_word, vars_words, con_words, stmt_words}
use Rattle.layout.specs.Reading.{an_end, a_number, a_var, an_opening, vars_from, inside, stmt_from, read_stmt}
use Rattle.store_words.specs.Boxes.{box_kind, local_words, store_words, node_words}
use Rattle.store_words.specs.Reading.{a_place, locals_in, store_in, locals_from, a_free, all_free, free_con, a_con, some_cons, cons_from, read_locals, read_cons, opened_node, some_nodes, node_from, read_node}
use Rattle.store_words.specs.Contexts.{places_in, place_at}

abbrev byte : Name → ℕ
byte [] = 0
byte (x ∷ l) = x

abbrev letter : ℕ → Name
letter x = x ∷ []

-- the words of the start of a program text and a query text; none where they are refused
abbrev begun : Result Program → List ℕ → List Word
begun (refused n) query = []
begun (ok P) query = elim (read_query P query) as (λ r. List Word) [ refused n ↦ [] | ok q ↦ node_words byte (start_config q).root [] ]

-- The record of document 01: its start.
pub record_start : begun (read_program (bytes "amend(K) := (K = kept ? true ; K = new ? true).\n")) (bytes "amend(K).\n") ≡ Place Or ∷ Place And ∷ Inner Locals ∷ Free 0 ∷ End ∷ Inner Store ∷ End ∷ Place Member ∷ Inner Call ∷ Num 97 ∷ Free 0 ∷ End ∷ End ∷ End ∷ End ∷ []
unfolding everything node_words local_words store_words stmt_words vars_words var_word
record_start = refl

-- An and-box with a store, a member, and a choice-box whose guarded goals have a failed guard and a solved one.
abbrev small : Node goal
small = or (cons (and (0 ∷ 1 ∷ []) (ceq 0 1 ∷ capp 1 (bytes "f") (0 ∷ []) ∷ cfail ∷ []) (cons (stmt (atom ctrue)) (cons (choice_box cond (cons (guard (or nil) (call (bytes "p") (number 0 ∷ []))) (cons (guard (and (2 ∷ []) [] nil) (atom cfail)) nil))) nil))) (cons (or nil) nil))

abbrev small_words : List Word
small_words =
    Place Or
    ∷ Place And
    ∷ Inner Locals ∷ Free 0 ∷ Free 1 ∷ End
    ∷ Inner Store ∷ Inner Eq ∷ Free 0 ∷ Free 1 ∷ End ∷ Inner App ∷ Free 1 ∷ Num 102 ∷ Free 0 ∷ End ∷ Inner Fail ∷ End ∷ End
    ∷ Place Member ∷ Inner True ∷ End ∷ End
    ∷ Place Cond
    ∷ Place Guarded ∷ Place Or ∷ End ∷ Inner Call ∷ Num 112 ∷ Free 0 ∷ End ∷ End
    ∷ Place Guarded ∷ Place And ∷ Inner Locals ∷ Free 2 ∷ End ∷ Inner Store ∷ End ∷ End ∷ Inner Fail ∷ End ∷ End
    ∷ End
    ∷ End
    ∷ Place Or ∷ End
    ∷ End
    ∷ []

pub laid : node_words byte small [] ≡ small_words
unfolding everything node_words local_words store_words box_kind stmt_words con_words vars_words var_word
laid = refl

pub read : read_node letter goal small_words ≡ some (small, [])
unfolding everything read_node node_from opened_node some_nodes a_place read_locals locals_in locals_from read_cons store_in cons_from some_cons a_con free_con all_free a_free read_stmt stmt_from inside an_opening an_end a_number a_var vars_from
read = refl

-- place 5 is the or-box in the first guard, place 8 the last or-box
pub found : (place_at small_words 5 ≡ 25) × (place_at small_words 8 ≡ 45) × (places_in small_words ≡ 9)
unfolding place_at places_in
found = (refl, refl, refl)

-- The three operators open choice-boxes of different kinds.
pub choices : node_words byte (choice_box wait nil) (node_words byte (choice_box cond nil) (node_words byte (choice_box commit nil) [])) ≡ Place Wait ∷ End ∷ Place Cond ∷ End ∷ Place Commit ∷ End ∷ []
unfolding node_words box_kind
choices = refl

-- A member that is one atom with 8 arguments: one part, 14 words. An or-box with an and-box, a local and nothing else: 9 words.
abbrev longest : Node member
longest = stmt (atom (capp (number 0) (bytes "f") (number 0 ∷ number 0 ∷ number 0 ∷ number 0 ∷ number 0 ∷ number 0 ∷ number 0 ∷ number 0 ∷ [])))

pub most : (parts longest ≡ 1) × (length (node_words byte longest []) ≡ 14) × (length (node_words byte (or (one (and (0 ∷ []) [] nil))) []) ≡ 9)
unfolding parts statement_parts node_words local_words store_words stmt_words con_words vars_words
most = (refl, refl, refl)

-- Refused: locals behind the store; a member without its End; a store without its bracket; a level in a store; a guarded goal in an
-- or-box; a statement where a choice-box's guarded goal should stand; a bad word.
pub refuses_order : read_node letter goal (Place And ∷ Inner Store ∷ End ∷ Inner Locals ∷ End ∷ End ∷ []) ≡ none
unfolding read_node node_from opened_node a_place read_locals locals_in an_opening
refuses_order = refl

pub refuses_open : read_node letter member (Place Member ∷ Inner True ∷ End ∷ []) ≡ none
unfolding read_node node_from opened_node a_place read_stmt stmt_from inside an_opening an_end
refuses_open = refl

pub refuses_no_store : read_node letter goal (Place And ∷ Inner Locals ∷ End ∷ End ∷ []) ≡ none
unfolding read_node node_from opened_node a_place read_locals locals_in locals_from read_cons an_opening
refuses_no_store = refl

pub refuses_level : read_node letter goal (Place And ∷ Inner Locals ∷ End ∷ Inner Store ∷ Inner Eq ∷ Free 0 ∷ Level 0 ∷ End ∷ End ∷ End ∷ []) ≡ none
unfolding read_node node_from opened_node a_place read_locals locals_in locals_from read_cons store_in cons_from some_cons a_con free_con a_free read_stmt stmt_from inside an_opening an_end a_var
refuses_level = refl

pub refuses_guarded : read_node letter goal (Place Or ∷ Place Guarded ∷ Place Or ∷ End ∷ Inner True ∷ End ∷ End ∷ End ∷ []) ≡ none
unfolding read_node node_from opened_node some_nodes a_place
refuses_guarded = refl

pub refuses_member : read_node letter member (Place Wait ∷ Place Member ∷ Inner True ∷ End ∷ End ∷ End ∷ []) ≡ none
unfolding read_node node_from opened_node some_nodes a_place
refuses_member = refl

pub refuses_bad : read_node letter goal (Place Or ∷ Bad ∷ []) ≡ none
unfolding read_node node_from opened_node some_nodes a_place
refuses_bad = refl
