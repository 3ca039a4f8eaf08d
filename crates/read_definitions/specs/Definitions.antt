-- Definitions read, checked and written as words. L is the table of tokens; B, S, Q those of bindings, saved values and query
-- variables; D the heads of all definitions; O the words.
use Rattle.std.specs.Prelude.{◌≡◌, ◌⊎◌, List, [], ◌∷◌, ℕ, ◌+◌, ◌*◌, ◌/◌, ◌≤◌, ◌<◌, length}
use Rattle.std.proofs.Math.Option.{some, none}
use Rattle.constraint.specs.Constraint.{In}
use Rattle.akl.specs.Base.{Name, size, flat, ◌>>=◌}
use Rattle.akl.specs.Token.{Token, full_stop}
use Rattle.akl.specs.Grammar.{Definition}
use Rattle.akl.specs.Parse.{after, parse_program}
use Rattle.akl.specs.Reader.{definition_faults, statement_of}
use Rattle.mem_words.specs.declared.Word.{Word}
use Rattle.mem_words.specs.declared.Word.TheVariants.{Num}
use Rattle.descent.specs.Descent.{the_statement, the_definition}
use Rattle.read_phrases.specs.Codes.{Known, number_at, toks}
use Rattle.read_phrases.specs.Phrases.{names, Reserved}
use Rattle.layout.specs.Layout.{stmt_words}
use Rattle.read_emits.specs.Out.{Wrote}
use Rattle.read_pieces.specs.Worst.{Lowest}
use Rattle.read_pieces.specs.Reads.{heads, Spelling, Scope}
use Rattle.read_pieces.specs.declared.Read.{Read}
use Rattle.read_pieces.specs.declared.Read.TheVariants.{Done, Three, Odd, Full}
use Rattle.read_definitions.specs.declared.Opening.{Opening}
use Rattle.read_definitions.specs.declared.Opening.TheVariants as opening

-- ---------------------------------------------------------------------------------------------
-- What stands before the body.

pub record Opened (L : List ℕ) (at name count body : ℕ) : Type 0 where
  pub is : name ≡ number_at L at
  pub few : count ≤ 8
  pub place : ((count ≡ 0) × (body ≡ at + 2)) ⊎ ((1 ≤ count) × (body ≡ at + 2 * count + 3))
  pub inside : body ≤ length L
  pub reads : (w : ℕ → Name) → Reserved w L → the_definition (toks w L at) ≡ (the_statement (toks w L body) >>= λ s. after full_stop s.1 >>= λ v. some (record { head = w (number_at L at); parameters = names w L count (at + 2); statement = s.0 }, v))

abbrev pub OpeningTo : List ℕ → ℕ → Opening → Type 0
OpeningTo L at (opening.To name count body) = Opened L at name count body
OpeningTo L at opening.Many = (w : ℕ → Name) → Reserved w L → (d : Definition) (us : List Token) → the_definition (toks w L at) ≡ some (d, us) → 8 < size d.parameters
OpeningTo L at opening.Odd = (w : ℕ → Name) → Reserved w L → the_definition (toks w L at) ≡ none

-- ---------------------------------------------------------------------------------------------
-- One definition.

-- its words, before what follows
unfoldable pub definition_words : (Name → ℕ) → Definition → List Word → List Word
definition_words num d r = Num (num d.head) ∷ Num (size d.parameters) ∷ stmt_words num (statement_of d.statement [] d.parameters) r

module _ (L B S Q D : List ℕ) (O : List Word) (at k : ℕ) where
  -- what holds for every spelling, where no name is bound
  abbrev pub Says : ((ℕ → Name) → (Name → ℕ) → Type 0) → Type 0
  Says P = (w : ℕ → Name) (num : Name → ℕ) → Reserved w L → Spelling w num (length B) → Scope B [] 0 → P w num

  pub record Finished (B' S' Q' : List ℕ) (O' : List Word) (at' k' f : ℕ) : Type 0 where
    pub forward : at < at'
    pub inside : at' ≤ length L
    pub few : k' + 4 * at ≤ k + 4 * at'
    pub out : k' ≤ length O'
    pub long_o : length O' ≡ length O
    pub cells : B' ≡ B
    pub long_s : length S' ≡ length S
    pub long_q : length Q' ≡ length Q
    pub says : Says (λ w num. (d : Definition) × (the_definition (toks w L at) ≡ some (d, toks w L at')) × Lowest f (definition_faults (heads w D) d) × Wrote O k O' k' (definition_words num d))

  abbrev pub Answer : List ℕ → List ℕ → List ℕ → List Word → Read → Type 0
  Answer B' S' Q' O' (Done at' k' q f) = Finished B' S' Q' O' at' k' f
  Answer B' S' Q' O' Three = Says (λ w num. (d : Definition) (us : List Token) → the_definition (toks w L at) ≡ some (d, us) → In 3 (definition_faults (heads w D) d))
  Answer B' S' Q' O' Odd = Says (λ w num. the_definition (toks w L at) ≡ none)
  Answer B' S' Q' O' Full = (length O + 4 * at < k + 4 * length L + 8) ⊎ (length S < length L)

  pub record Defines (B' S' Q' : List ℕ) (O' : List Word) (r : Read) : Type 0 where
    pub to : Answer B' S' Q' O' r

-- ---------------------------------------------------------------------------------------------
-- All of them.

pub record CanBodies (L B Q D : List ℕ) : Type 0 where
  pub known : Known L
  pub ids : (i : ℕ) → i < length L → number_at L i < length B
  pub cells : length B ≤ 65536
  pub few : length L < 60000
  pub order : 16 ≤ length Q
  pub heads : (c : ℕ) → In c D → c / 256 < length B

unfoldable pub definitions_words : (Name → ℕ) → List Definition → List Word → List Word
definitions_words num [] r = r
definitions_words num (d ∷ ds) r = definition_words num d (definitions_words num ds r)

module _ (L B S Q D : List ℕ) (O : List Word) where
  -- what holds of the program ds, for every spelling, where no name is bound
  abbrev pub Whole : ((ℕ → Name) → (Name → ℕ) → List Definition → Type 0) → Type 0
  Whole P = (w : ℕ → Name) (num : Name → ℕ) (ds : List Definition) → Reserved w L → Spelling w num (length B) → Scope B [] 0 → parse_program (toks w L 0) ≡ some ds → P w num ds

  abbrev pub BodiesTo : List Word → Read → Type 0
  BodiesTo O' (Done at k q f) = (k ≤ length O') × Whole (λ w num ds. Lowest f (flat (definition_faults (heads w D)) ds) × Wrote O 0 O' k (definitions_words num ds))
  BodiesTo O' Three = Whole (λ w num ds. In 3 (flat (definition_faults (heads w D)) ds))
  BodiesTo O' Odd = Whole (λ w num ds. ⊥)
  BodiesTo O' Full = (length O < 4 * length L + 8) ⊎ (length S < length L)

  pub record Bodies (O' : List Word) (r : Read) : Type 0 where
    pub to : BodiesTo O' r
