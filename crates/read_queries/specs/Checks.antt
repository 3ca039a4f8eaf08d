-- What the tokens L of a query come to. B, S, Q are the tables of bindings, of saved values and of query variables, D the
-- definitions' heads, O the words.
use Rattle.std.specs.Prelude.{◌≡◌, ◌⊎◌, List, [], ◌++◌, map, true, ℕ, ◌+◌, ◌*◌, ◌/◌, ◌≤◌, ◌<◌, ltb, length, get_or, take}
use Rattle.std.proofs.Math.Option.{some, none}
use Rattle.constraint.specs.Constraint.{In}
use Rattle.akl.specs.Base.{Name, size, least}
use Rattle.akl.specs.Limits.{most_query_variables}
use Rattle.akl.specs.Grammar.{Statement}
use Rattle.akl.specs.Parse.{parse_query}
use Rattle.akl.specs.Reader.{fault, statement_faults, query_variables, statement_of}
use Rattle.mem_words.specs.declared.Word.{Word}
use Rattle.read_phrases.specs.Codes.{Known, number_at, toks}
use Rattle.read_phrases.specs.Phrases.{Reserved}
use Rattle.layout.specs.Layout.{stmt_words}
use Rattle.read_pieces.specs.Reads.{Spelling, heads, around}
use Rattle.refusals.specs.Refusals.{number_of}
use Rattle.read_queries.specs.declared.Queried.{Queried}
use Rattle.read_queries.specs.declared.Queried.TheVariants.{Read, Refused, Short}

pub record CanCheck (L B Q D : List ℕ) : Type 0 where
  pub known : Known L
  pub ids : (i : ℕ) → i < length L → number_at L i < length B
  pub cells : length B ≤ 65536
  pub few : length L < 60000
  pub order : 16 ≤ length Q
  pub heads : (c : ℕ) → In c D → c / 256 < length B

module _ (L B S Q D : List ℕ) (O : List Word) (names : ℕ) where
  -- the refusals due in the statement t
  abbrev pub due : (ℕ → Name) → Statement → List ℕ
  due w t = fault 3 (ltb most_query_variables (size (query_variables t))) ++ statement_faults t (around true (heads w D) [] 0)

  -- what holds of the query's statement, whatever the names' numbers spell
  abbrev pub Whole : ((ℕ → Name) → (Name → ℕ) → Statement → Type 0) → Type 0
  Whole P = (w : ℕ → Name) (num : Name → ℕ) (t : Statement) → Reserved w L → Spelling w num (length B) → parse_query (toks w L 0) ≡ some t → P w num t

  -- nothing is due; its variables and its words
  pub record Fine (Q' : List ℕ) (O' : List Word) (v k : ℕ) (w : ℕ → Name) (num : Name → ℕ) (t : Statement) : Type 0 where
    pub none_due : least (due w t) ≡ none
    pub variables : map w (take v Q') ≡ query_variables t
    pub words : take k O' ≡ stmt_words num (statement_of t (query_variables t) []) []

  abbrev pub Checked : List ℕ → List Word → Queried → Type 0
  Checked Q' O' (Read v k m) = (m ≡ names) × (v ≤ length Q') × (k ≤ length O') × Whole (λ w num t. Fine Q' O' v k w num t) × ((i : ℕ) → i < v → get_or Q' i 0 < length B)
  Checked Q' O' (Refused r) = Whole (λ w num t. least (due w t) ≡ some (number_of r))
  Checked Q' O' Short = (length O < 4 * length L + 8) ⊎ (length S < length L)

  pub record CheckedTo (Q' : List ℕ) (O' : List Word) (r : Queried) : Type 0 where
    pub order : length Q' ≡ length Q
    pub out : length O' ≡ length O
    pub answer : Checked Q' O' r
