-- What a query's bytes come to: the definition's refusal, or its query, with the variables' names in Q' and the words of its
-- statement in O'. N, H, S are the trie of names, D the heads of the program's definitions.
use Rattle.std.specs.Prelude.{◌≡◌, List, [], map, ℕ, ◌+◌, ◌*◌, ◌/◌, ◌≤◌, ◌<◌, length, get_or, take}
use Rattle.constraint.specs.Constraint.{In}
use Rattle.akl.specs.Base.{Name, refused, ok}
use Rattle.akl.specs.Limits.{query_bytes}
use Rattle.akl.specs.Syntax.{Program}
use Rattle.akl.specs.Reader.{Query, read_query}
use Rattle.mem_words.specs.declared.Word.{Word}
use Rattle.read_nodes.specs.Spell.{named}
use Rattle.read_nodes.specs.Trie.{Grown, Roomy, Kept}
use Rattle.layout.specs.Layout.{stmt_words}
use Rattle.read_pieces.specs.Reads.{Spelling, heads}
use Rattle.read_lexicon.specs.Lexicon.{Lexicon}
use Rattle.refusals.specs.Refusals.{number_of}
use Rattle.read_queries.specs.declared.Queried.{Queried}
use Rattle.read_queries.specs.declared.Queried.TheVariants.{Read, Refused, Short}

pub record CanQuery (N H S : List ℕ) (n : ℕ) (D : List ℕ) : Type 0 where
  pub lexicon : Lexicon N H S n
  pub heads : (c : ℕ) → In c D → c / 256 < n

-- D has the name and the arity of each of the program's definitions
abbrev pub Heads : List ℕ → List ℕ → Program → Type 0
Heads N D P = heads (named N) D ≡ map (λ d. (d.name, d.arity)) P

-- the statement q was read: its variables and its words
pub record Says (N' : List ℕ) (O' : List Word) (Q' : List ℕ) (v k m : ℕ) (q : Query) : Type 0 where
  pub variables : map (named N') (take v Q') ≡ q.variables
  pub words : (num : Name → ℕ) → Spelling (named N') num m → take k O' ≡ stmt_words num q.statement []

pub record Taken (text N : List ℕ) (n : ℕ) (D N' H' S' : List ℕ) (O' : List Word) (Q' : List ℕ) (v k m : ℕ) : Type 0 where
  pub lexicon : Lexicon N' H' S' m
  pub grown : Grown N n N' m
  -- at most a node for each byte
  pub nodes : m ≤ n + length text
  pub few : v ≤ length Q'
  pub inside : k ≤ length O'
  -- the numbers of its variables are numbers of names
  pub used : (i : ℕ) → i < v → get_or Q' i 0 < m
  pub says : (P : Program) → Heads N D P → (q : Query) × (read_query P text ≡ ok q) × Says N' O' Q' v k m q

-- sizes at which no table is too short: an entry for each byte, 4 words for each and 8
pub record Ample (text K N H S T : List ℕ) (n : ℕ) (O : List Word) (B Z Q : List ℕ) : Type 0 where
  pub codes : length text ≤ length K
  pub stack : length text ≤ length T
  pub nodes : Roomy N H S (n + length text)
  pub binds : n + length text ≤ length B
  pub saves : length text ≤ length Z
  pub order : 16 ≤ length Q
  pub words : 4 * length text + 8 ≤ length O

module _ (text K N H S T : List ℕ) (n : ℕ) (D : List ℕ) (O : List Word) (B Z Q : List ℕ) (N' H' S' : List ℕ) (O' : List Word) (Q' : List ℕ) where
  abbrev pub Answer : Queried → Type 0
  Answer (Read v k m) = Taken text N n D N' H' S' O' Q' v k m
  Answer (Refused r) = (P : Program) → Heads N D P → read_query P text ≡ refused (number_of r)
  Answer Short = (length text ≤ query_bytes) × (Ample text K N H S T n O B Z Q → ⊥)

  pub record QueryTo (r : Queried) : Type 0 where
    pub kept : Kept N H S N' H' S'
    pub answer : Answer r
