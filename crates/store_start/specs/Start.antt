-- The state at the start of a query, from what the reader of texts leaves: a table N of cells of names with m nodes, words R of the
-- program, a of them, numbers Q of the names of the query's variables, v of them, words G of the query's statement, b of them.
-- Assumes nothing.
use Rattle.std.specs.Prelude.{◌≡◌, List, [], ◌∷◌, ◌++◌, map, ℕ, ◌+◌, ◌≤◌, ◌<◌, T, length, take, drop}
use Rattle.std.proofs.Math.Option.{some}
use Rattle.akl.specs.Base.{Name, size, range, all, ok}
use Rattle.akl.specs.Token.{Token, tokens}
use Rattle.akl.specs.Syntax.{Program}
use Rattle.akl.specs.Reader.{Query, read_program, read_query}
use Rattle.akl.specs.Configuration.{start_config}
use Rattle.mem_words.specs.declared.Word.{Word}
use Rattle.mem_words.specs.declared.Word.TheVariants.{End, Place, Inner}
use Rattle.mem_words.specs.Form.{AllSmall}
use Rattle.mem_sorts.specs.declared.Kind.TheVariants.{Or, And, Member}
use Rattle.mem_sorts.specs.declared.Sort.TheVariants.{Locals, Store}
use Rattle.layout.specs.Layout.{stmt_words, program_words}
use Rattle.read_nodes.specs.Spell.{named, Lower}
use Rattle.read_lexed.specs.Marks.{marks}
use Rattle.store_words.specs.Boxes.{local_words}
use Rattle.store_form.specs.Sizes.{most_nodes}
use Rattle.store_form.specs.State.{State}
use Rattle.store_form.specs.Holding.{below}

-- what the reader leaves of two texts that it does not refuse
pub record Left (text query N : List ℕ) (R : List Word) (Q : List ℕ) (G : List Word) (a v b m : ℕ) (P : Program) (q : Query) : Type 0 where
  pub reads_program : read_program text ≡ ok P
  pub reads_query : read_query P query ≡ ok q
  -- there is a root, and the counts are within the tables
  pub root : 1 ≤ m
  pub nodes : m ≤ length N
  pub names : length N ≤ most_nodes
  -- nine nodes at first, and at most one for each byte of the texts, one less for each mark of the program
  pub few : (ts : List Token) → tokens text ≡ some ts → m + marks ts ≤ 9 + length text + length query
  -- a parent is lower; numbers of names below m and names are one-to-one
  pub parents : Lower N m
  pub apart : (i j : ℕ) → i < m → j < m → named N i ≡ named N j → i ≡ j
  -- the query's variables
  pub variables : map (named N) (take v Q) ≡ q.variables
  pub known : T (all (below m) (take v Q))
  -- words of which each has two bytes for its value
  pub rules_words : (num : Name → ℕ) → ((i : ℕ) → i < m → num (named N i) ≡ i) → take a R ≡ program_words num P
  pub goal_words : (num : Name → ℕ) → ((i : ℕ) → i < m → num (named N i) ≡ i) → take b G ≡ stmt_words num q.statement []
  pub rules_small : AllSmall (take a R)
  pub goal_small : AllSmall (take b G)

-- the state
abbrev pub start_state : List ℕ → ℕ → Program → List ℕ → ℕ → Query → State
start_state N m P Q v q = record { cells = drop 1 (take m N); program = P; variables = take v Q; config = start_config q }

-- the words of its configuration: the or-box, the and-box with the query's variables, the query's words W as its one member
unfoldable pub start_words : Query → List Word → List Word
start_words q W = Place Or ∷ Place And ∷ Inner Locals ∷ local_words (range 0 (size q.variables)) (End ∷ Inner Store ∷ End ∷ Place Member ∷ (W ++ (End ∷ End ∷ End ∷ [])))
