-- What the functions of the reader hand back. A piece of a text is a statement, a simple statement, a bracket's inside, a
-- clause or the other clauses; each is read, checked and written alike.
use Rattle.std.specs.Prelude.{◌≡◌, ◌⊎◌, List, [], ◌∷◌, ◌++◌, map, Bool, true, false, not, ℕ, suc, ◌+◌, ◌*◌, ◌/◌, ◌%◌, ◌≤◌, ◌<◌, length, get_or, take}
use Rattle.std.proofs.Math.Option.{Option, some, none}
use Rattle.constraint.specs.Constraint.{In}
use Rattle.akl.specs.Base.{Name, once, size, if}
use Rattle.akl.specs.Token.{Token}
use Rattle.akl.specs.Syntax.{Op, Stmt, Clauses, clause, no_more}
use Rattle.akl.specs.Grammar.{Statement, Simple, Bracket, Clause, written, Others}
use Rattle.akl.specs.Parse as parse
use Rattle.akl.specs.Reader.{Around, fault, mixed, same_operator, operator_of, statement_faults, simple_faults, bracket_faults, clause_faults, others_faults, statement_free, simple_free, bracket_free, clause_free, others_free, statement_of, simple_of, bracket_of, clause_of, others_of}
use Rattle.mem_words.specs.declared.Word.{Word}
use Rattle.mem_words.specs.declared.Word.TheVariants.{End, Num, Inner, Bad}
use Rattle.mem_sorts.specs.declared.Sort.TheVariants.{Clause as ClauseSort}
use Rattle.descent.specs.Descent.{the_statement, the_simple, the_bracket, the_others, the_clause}
use Rattle.read_phrases.specs.Codes.{Known, kind_at, number_at, toks}
use Rattle.read_phrases.specs.Phrases.{Reserved}
use Rattle.read_scopes.specs.Scopes.{Bound}
use Rattle.layout.specs.Layout.{stmt_words, clauses_words}
use Rattle.read_pieces.specs.Effect.{Effect}
use Rattle.read_pieces.specs.declared.Read.{Read}
use Rattle.read_pieces.specs.declared.Read.TheVariants.{Done, Three, Odd, Full}

-- ---------------------------------------------------------------------------------------------
-- The five pieces.

pub data Piece : Type 0 where
  a_statement a_simple a_bracket : Piece
  a_clause some_others : Op → Piece

abbrev pub Tree : Piece → Type 0
Tree a_statement = Statement
Tree a_simple = Simple
Tree a_bracket = Bracket
Tree (a_clause op) = Clause
Tree (some_others op) = Others

-- how it is read
abbrev pub reading : (p : Piece) → List Token → parse.Read (Tree p)
reading a_statement = the_statement
reading a_simple = the_simple
reading a_bracket = the_bracket
reading (a_clause op) = the_clause
reading (some_others op) = the_others

-- the refusals due in it; a clause's operator must be that of the first
abbrev pub faults : (p : Piece) → Tree p → Around → List ℕ
faults a_statement t a = statement_faults t a
faults a_simple t a = simple_faults t a
faults a_bracket t a = bracket_faults t a
faults (a_clause op) t a = fault 7 (not (same_operator op (operator_of t))) ++ clause_faults t a
faults (some_others op) t a = fault 7 (mixed op t) ++ others_faults t a

-- its free occurrences
abbrev pub free : (p : Piece) → Tree p → List Name → List Name
free a_statement t bs = statement_free t bs
free a_simple t bs = simple_free t bs
free a_bracket t bs = bracket_free t bs
free (a_clause op) t bs = clause_free t bs
free (some_others op) t bs = others_free t bs

-- its words
abbrev pub laid : (p : Piece) → (Name → ℕ) → Tree p → List Name → List Name → List Word → List Word
laid a_statement num t bs qs r = stmt_words num (statement_of t qs bs) r
laid a_simple num t bs qs r = stmt_words num (simple_of t qs bs) r
laid a_bracket num t bs qs r = stmt_words num (bracket_of t qs bs) r
laid (a_clause op) num t bs qs r = clauses_words num (clause_of t qs bs no_more) r
laid (some_others op) num t bs qs r = clauses_words num (others_of t qs bs) r

-- ---------------------------------------------------------------------------------------------
-- The tables.

-- the definitions that program atoms may name: a number for each, its name's number and its parameters
abbrev pub heads : (ℕ → Name) → List ℕ → List (Name × ℕ)
heads w D = map (λ c. (w (c / 256), c % 256)) D

-- around a piece: in a query any variable may stand free
abbrev pub bound : Bool → List Name → Option (List Name)
bound true bs = none
bound false bs = some bs

abbrev pub around : Bool → List (Name × ℕ) → List Name → ℕ → Around
around query hs bs d = record { definitions = hs; bound = bound query bs; depth = d }

-- a spelling of the names' numbers below m, and numbers for names
pub record Spelling (w : ℕ → Name) (num : Name → ℕ) (m : ℕ) : Type 0 where
  pub back : (i : ℕ) → i < m → num (w i) ≡ i

-- the bound names are E, outermost first
pub record Scope (B E : List ℕ) (level : ℕ) : Type 0 where
  pub bound : Bound B E
  pub size : length E ≡ level
  pub below : (x : ℕ) → In x E → x < length B

pub record CanRead (L B S Q D : List ℕ) (O : List Word) (at k q level : ℕ) : Type 0 where
  pub known : Known L
  pub ids : (i : ℕ) → i < length L → number_at L i < length B
  pub cells : length B ≤ 65536
  pub few : length L < 60000
  pub before : level ≤ at
  pub inside : at ≤ length L
  pub order : 16 ≤ length Q
  pub most : q ≤ 16
  pub used : (i : ℕ) → i < q → get_or Q i 0 < length B
  pub out : k ≤ length O
  pub heads : (c : ℕ) → In c D → c / 256 < length B

-- ---------------------------------------------------------------------------------------------
-- The answers.

-- how many words more than four for each token a piece takes at most, with 8 to spare, and how many more it asks for
abbrev pub spare : Piece → ℕ
spare a_statement = 8
spare a_simple = 7
spare a_bracket = 12
spare (a_clause op) = 8
spare (some_others op) = 8

abbrev pub slack : Piece → ℕ
slack a_statement = 8
slack a_simple = 7
slack a_bracket = 11
slack (a_clause op) = 11
slack (some_others op) = 8

module _ (p : Piece) (query : Bool) (L B S Q D : List ℕ) (O : List Word) (at k q level depth : ℕ) where
  -- what holds of the piece for every spelling and scope
  abbrev pub Says : ((w : ℕ → Name) (num : Name → ℕ) (E : List ℕ) → Type 0) → Type 0
  Says P = (w : ℕ → Name) (num : Name → ℕ) (E : List ℕ) → Reserved w L → Spelling w num (length B) → Scope B E level → P w num E

  pub record Finished (B' S' Q' : List ℕ) (O' : List Word) (at' k' q' f : ℕ) : Type 0 where
    pub forward : at ≤ at'
    pub inside : at' ≤ length L
    pub more : q ≤ q'
    pub most : q' ≤ 16
    pub used : (i : ℕ) → i < q' → get_or Q' i 0 < length B
    pub few : k' + 4 * at + 8 ≤ k + 4 * at' + spare p
    pub out : k' ≤ length O'
    pub long_o : length O' ≡ length O
    pub cells : B' ≡ B
    pub saves : (i : ℕ) → i < level → get_or S' i 0 ≡ get_or S i 0
    pub long_s : length S' ≡ length S
    pub long_q : length Q' ≡ length Q
    pub says : Says (λ w num E. (t : Tree p) × (reading p (toks w L at) ≡ some (t, toks w L at')) × Effect query (map w (take q Q)) O k (map w (take q' Q')) O' k' f (faults p t (around query (heads w D) (map w E) depth)) (free p t (map w E)) (laid p num t (map w E)))

  -- refusal 3 is due, or the query has too many variables
  abbrev pub TooMuch : (w : ℕ → Name) (E : List ℕ) → Tree p → Type 0
  TooMuch w E t = In 3 (faults p t (around query (heads w D) (map w E) depth)) ⊎ ((query ≡ true) × (16 < size (once (map w (take q Q)) (free p t (map w E)))))

  abbrev pub ReadTo : List ℕ → List ℕ → List ℕ → List Word → Read → Type 0
  ReadTo B' S' Q' O' (Done at' k' q' f) = Finished B' S' Q' O' at' k' q' f
  ReadTo B' S' Q' O' Three = Says (λ w num E. (t : Tree p) (us : List Token) → reading p (toks w L at) ≡ some (t, us) → TooMuch w E t)
  ReadTo B' S' Q' O' Odd = Says (λ w num E. reading p (toks w L at) ≡ none)
  ReadTo B' S' Q' O' Full = (length O + 4 * at < k + 4 * length L + slack p) ⊎ (length S < length L)
