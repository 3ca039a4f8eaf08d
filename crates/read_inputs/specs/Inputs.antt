-- What a program text and a query text come to: document 01's refusal, those of the program before those of the query; or the
-- program and the query by the definitions, as words. N' are the cells of the names, D' the definitions' heads, R' their words,
-- Q' the numbers of the query variables' names, G' the words of the query's statement.
use Rattle.std.specs.Prelude.{◌≡◌, ◌⊎◌, List, [], map, ℕ, ◌+◌, ◌*◌, ◌-◌, ◌/◌, ◌≤◌, ◌<◌, length, get_or, take, drop, replicate}
use Rattle.std.proofs.Math.Option.{some}
use Rattle.constraint.specs.Constraint.{In}
use Rattle.akl.specs.Base.{Name, refused, ok}
use Rattle.akl.specs.Syntax.{Program}
use Rattle.akl.specs.Token.{Token, tokens}
use Rattle.akl.specs.Reader.{Query, read_program, read_query}
use Rattle.mem_words.specs.declared.Word.{Word}
use Rattle.read_nodes.specs.Spell.{named}
use Rattle.read_nodes.specs.Trie.{Roomy}
use Rattle.read_lexed.specs.Marks.{marks}
use Rattle.layout.specs.Layout.{stmt_words, program_words}
use Rattle.read_pieces.specs.Reads.{Spelling, heads}
use Rattle.refusals.specs.Refusals.{number_of}
use Rattle.read_inputs.specs.declared.Inputs.{Inputs}
use Rattle.read_inputs.specs.declared.Inputs.TheVariants.{Read, Refused, Short}

-- both were read: d definitions in a words, v variables, a statement of b words, m nodes of names
pub record Loaded (text query N' D' : List ℕ) (R' : List Word) (Q' : List ℕ) (G' : List Word) (d a v b m : ℕ) : Type 0 where
  pub program : Program
  pub goal : Query
  pub reads_program : read_program text ≡ ok program
  pub reads_query : read_query program query ≡ ok goal
  -- the counts are within the tables
  pub room : (d ≤ length D') × (a ≤ length R') × (v ≤ length Q') × (b ≤ length G') × (m ≤ length N')
  -- beside the nine nodes that are there at first, at most one for each byte of the texts, and one less for each mark of the program
  pub few : (ts : List Token) → tokens text ≡ some ts → m + marks ts ≤ 9 + length text + length query
  -- the names are a trie: there is a root, and a parent is lower
  pub root : 1 ≤ m
  pub parents : (i : ℕ) → 0 < i → i < m → get_or N' i 0 / 256 < i
  -- the numbers of the query's variables are numbers of names, and so are those in the heads
  pub used : (i : ℕ) → i < v → get_or Q' i 0 < m
  pub numbers : (c : ℕ) → In c (take d D') → c / 256 < m
  -- numbers of names below m and names are one-to-one
  pub apart : (i j : ℕ) → i < m → j < m → named N' i ≡ named N' j → i ≡ j
  pub heads : heads (named N') (take d D') ≡ map (λ d. (d.name, d.arity)) program
  pub variables : map (named N') (take v Q') ≡ goal.variables
  pub rules_words : (num : Name → ℕ) → Spelling (named N') num m → take a R' ≡ program_words num program
  pub goal_words : (num : Name → ℕ) → Spelling (named N') num m → take b G' ≡ stmt_words num goal.statement []

-- sizes at which no table is too short
pub record Ample (text query N D : List ℕ) (R : List Word) (Q : List ℕ) (G : List Word) (K H S T B Z : List ℕ) : Type 0 where
  pub names : Roomy N H S (9 + length text + length query)
  pub heads : 128 ≤ length D
  pub rules : 4 * length text + 8 ≤ length R
  pub order : 16 ≤ length Q
  pub goal : 4 * length query + 8 ≤ length G
  pub codes : (length text ≤ length K) × (length query ≤ length K)
  pub stack : (length text ≤ length T) × (length query ≤ length T)
  pub binds : 9 + length text + length query ≤ length B
  pub saves : (length text ≤ length Z) × (length query ≤ length Z)

module _ (text query N D : List ℕ) (R : List Word) (Q : List ℕ) (G : List Word) (K H S T B Z : List ℕ) (N' D' : List ℕ) (R' : List Word) (Q' : List ℕ) (G' : List Word) where
  abbrev pub Answer : Inputs → Type 0
  Answer (Read d a v b m) = Loaded text query N' D' R' Q' G' d a v b m
  Answer (Refused r) = (read_program text ≡ refused (number_of r)) ⊎ ((P : Program) × (read_program text ≡ ok P) × (read_query P query ≡ refused (number_of r)))
  Answer Short = Ample text query N D R Q G K H S T B Z → ⊥

  pub record InputsTo (r : Inputs) : Type 0 where
    pub answer : Answer r

-- what is zero of an output's bytes b': where both texts were read, those behind the n in use; where there is a refusal, or a table is
-- too short, all
abbrev pub Cleared : Inputs → (ℕ → ℕ → ℕ → ℕ → ℕ → ℕ) → List ℕ → List ℕ → Type 0
Cleared (Read d a v k m) n b b' = drop (n d a v k m) b' ≡ replicate (length b - n d a v k m) 0
Cleared (Refused r) n b b' = b' ≡ replicate (length b) 0
Cleared Short n b b' = b' ≡ replicate (length b) 0

-- the outputs: cells of names, heads, words of the program, query variables, words of the query. In use are 3 bytes for each of the m
-- cells, d heads, a words and k words that were counted, and 2 for each of the v variables
pub record Outputs (r : Inputs) (c c' h h' u u' o o' g g' : List ℕ) : Type 0 where
  pub cells : Cleared r (λ d a v k m. 3 * m) c c'
  pub heads : Cleared r (λ d a v k m. 3 * d) h h'
  pub rules : Cleared r (λ d a v k m. 3 * a) u u'
  pub order : Cleared r (λ d a v k m. 2 * v) o o'
  pub goal : Cleared r (λ d a v k m. 3 * k) g g'
