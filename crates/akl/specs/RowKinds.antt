-- The kinds of rows that the table has (Rows.antt), and how each is computed. What a row expects is worked out by hand from
-- document 01.
use Rattle.std.specs.Prelude.{List, [], Bool, true, false, not, ℕ, eqb}
use Prim.Native.String.{String}
use Rattle.constraint.specs.Constraint.{Con, capp, Store}
use Rattle.constraint.specs.Solve.{satisfiable?, quiet?}
use Rattle.akl.specs.Base.{Name, bytes, same, Result, refused, ok}
use Rattle.akl.specs.Limits.{most_parts}
use Rattle.akl.specs.Syntax.{number, wait, atom, Program}
use Rattle.akl.specs.Reader.{read_program, read_query}
use Rattle.akl.specs.StepsText.{Step, read_steps}
use Rattle.akl.specs.Configuration.{goal, member, Node, or, and, stmt, choice_box, guard, Nodes, one, Config}
use Rattle.akl.specs.Parts.{parts}
use Rattle.akl.specs.Step.{step}
use Rattle.akl.specs.Answers.{answer}
use Rattle.akl.specs.Record.{start, Checked, checked_run, runcheck}
use Rattle.akl.specs.WellFormed.{well_formed}

pub data Row : Type 0 where
  -- the store is satisfiable, or not
  satisfiable : Store → Bool → Row
  -- with these locals, for this environment, the store is quiet, or not
  quiet : List ℕ → Store → Store → Bool → Row
  -- the refusal of a program text; of a query text for a program text; of a steps text; 0 for none
  program_text : List ℕ → ℕ → Row
  query_text : List ℕ → List ℕ → ℕ → Row
  steps_text : List ℕ → ℕ → Row
  -- the refusal of the start of a query, with a limit on parts
  starts : ℕ → List ℕ → ℕ → Row
  -- the refusal of a step on a configuration, with a limit on parts
  steps_from : ℕ → Config → Step → ℕ → Row
  -- the refusal of rules, query and steps before any step is tried, with a limit on parts
  texts_refused : ℕ → String → String → String → ℕ → Row
  -- rules, query and steps: the record that is printed
  prints : String → String → String → String → Row
  -- rules, query and steps, then the answer of a number in a slice of a length: the refusal
  answers : String → String → String → ℕ → ℕ → ℕ → Row
  -- a program, the names of the query's variables and a configuration are well formed, with a limit on parts, or not
  formed_with : ℕ → Program → List Name → Config → Bool → Row
  -- how many parts a configuration has
  has_parts : Node goal → ℕ → Row

abbrev pub agree : Bool → Bool → Bool
agree true b = b
agree false b = not b

abbrev pub refusal : {A : Type 0} → Result A → ℕ
refusal (refused n) = n
refusal (ok a) = 0

abbrev pub query_refusal : List ℕ → List ℕ → ℕ
query_refusal rules text = elim (read_program rules) [ refused n ↦ n | ok P ↦ refusal (read_query P text) ]

abbrev pub start_refusal : ℕ → List ℕ → ℕ
start_refusal limit text = elim (read_query [] text) [ refused n ↦ n | ok q ↦ refusal (start limit q) ]

abbrev pub answer_refusal : Result Checked → ℕ → ℕ → ℕ
answer_refusal (refused r) n m = r
answer_refusal (ok c) n m = refusal (answer c.variables c.run.config.root n m)

abbrev pub shows : Row → Bool
shows (satisfiable σ b) = agree b (satisfiable? σ)
shows (quiet vs e σ b) = agree b (quiet? vs e σ)
shows (program_text t n) = eqb (refusal (read_program t)) n
shows (query_text p t n) = eqb (query_refusal p t) n
shows (steps_text t n) = eqb (refusal (read_steps t)) n
shows (starts limit t n) = eqb (start_refusal limit t) n
shows (steps_from limit c s n) = eqb (refusal (step limit [] c s)) n
shows (texts_refused limit p q s n) = eqb (refusal (checked_run limit (bytes p) (bytes q) (bytes s))) n
shows (prints p q s r) = same (runcheck (bytes p) (bytes q) (bytes s)) (bytes r)
shows (answers p q s n m r) = eqb (answer_refusal (checked_run most_parts (bytes p) (bytes q) (bytes s)) n m) r
shows (formed_with limit P xs c b) = agree b (well_formed limit P xs c)
shows (has_parts n k) = eqb (parts n) k

-- A program, a configuration and a step that is accepted: the configuration that it leads to, whole.
pub data Lead : Type 0 where
  leads : Program → Config → Step → Config → Lead

abbrev pub outcome : Lead → Result Config
outcome (leads P c s d) = step most_parts P c s

abbrev pub due : Lead → Result Config
due (leads P c s d) = ok d

-- ---------------------------------------------------------------------------------------------
-- Words that rows share.

-- Variables x, y, z.
abbrev pub x : ℕ
x = 0

abbrev pub y : ℕ
y = 1

abbrev pub z : ℕ
z = 2

infix 20 ◌is◌
abbrev pub ◌is◌ : ℕ → String → Con ℕ
v is f = capp v (bytes f) []

abbrev pub top_box : List ℕ → Store → Nodes member → Node goal
top_box vs σ ms = or (one (and vs σ ms))

abbrev pub config : Node goal → ℕ → Config
config n k = record { root = n; next = k }

abbrev pub take : ℕ → ℕ → ℕ → Step
take r p a = record { rule = r; place = p; argument = a }

-- a member that says v = a
abbrev pub says : ℕ → Node member
says v = stmt (atom (capp (number v) (bytes "a") []))

-- a choice-box with one guarded goal whose body mentions v
abbrev pub asks : Node goal → ℕ → Node member
asks g v = choice_box wait (one (guard g (atom (capp (number v) (bytes "a") []))))
