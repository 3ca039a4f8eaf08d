-- What the phrases of a table of tokens are, by the grammar. w says what a name's number spells.
use Rattle.std.specs.Prelude.{◌≡◌, refl, ◌⊎◌, List, [], ◌∷◌, ◌++◌, ℕ, zero, suc, ◌+◌, ◌*◌, ◌≤◌, ◌<◌, eqb, length}
use Rattle.std.proofs.Common.{ap, sym, ◌∙◌, inl, inr}
use Rattle.std.proofs.Math.Option.{some, none}
use Rattle.constraint.specs.Constraint.{Con, ctrue, cfail, ceq, capp}
use Rattle.akl.specs.Base.{Name, bytes, same}
use Rattle.akl.specs.Token.{open_bracket}
use Rattle.akl.specs.Grammar.{constraint, program}
use Rattle.akl.specs.Parse.{after}
use Rattle.descent.specs.Descent.{the_variables, the_arguments, the_hidden, the_simple}
use Rattle.read_phrases.specs.Codes.{Known, kind_at, number_at, toks}
use Rattle.read_phrases.specs.declared.Phrase.{Phrase}
use Rattle.read_phrases.specs.declared.Phrase.TheVariants.{To, Odd}
use Rattle.read_phrases.specs.declared.Constraint.{Constraint}
use Rattle.read_phrases.specs.declared.Constraint.TheVariants.{True, Fail, Same, Made}
use Rattle.read_phrases.specs.declared.Simple.{Simple}
use Rattle.read_phrases.specs.declared.Simple.TheVariants.{Atom, Program, Bracket, Odd as Nothing}

-- the names at every second token from i on, so many
unfoldable pub names : (ℕ → Name) → List ℕ → ℕ → ℕ → List Name
names w L zero i = []
names w L (suc m) i = w (number_at L i) ∷ names w L m (i + 2)

-- one variable or more
pub record VariablesRead (L : List ℕ) (at rest count : ℕ) : Type 0 where
  pub many : 1 ≤ count
  pub place : rest + 1 ≡ at + 2 * count
  pub inside : rest ≤ length L
  pub reads : (w : ℕ → Name) → the_variables (toks w L at) ≡ some (names w L count at, toks w L rest)

abbrev pub VariablesTo : List ℕ → ℕ → Phrase → Type 0
VariablesTo L at (To rest count) = VariablesRead L at rest count
VariablesTo L at Odd = (w : ℕ → Name) → the_variables (toks w L at) ≡ none

-- arguments, or none at all: they are left out, or lie between two brackets
pub record ArgumentsRead (L : List ℕ) (at rest count : ℕ) : Type 0 where
  pub place : ((count ≡ 0) × (rest ≡ at)) ⊎ ((1 ≤ count) × (rest ≡ at + 2 * count + 1) × (rest ≤ length L))
  pub reads : (w : ℕ → Name) → the_arguments (toks w L at) ≡ some (names w L count (at + 1), toks w L rest)

abbrev pub ArgumentsTo : List ℕ → ℕ → Phrase → Type 0
ArgumentsTo L at (To rest count) = ArgumentsRead L at rest count
ArgumentsTo L at Odd = (w : ℕ → Name) → the_arguments (toks w L at) ≡ none

-- a hidden list with its colon, or none at all
pub record HiddenRead (L : List ℕ) (at rest count : ℕ) : Type 0 where
  pub place : ((count ≡ 0) × (rest ≡ at)) ⊎ ((1 ≤ count) × (rest ≡ at + 2 * count) × (rest ≤ length L))
  pub reads : (w : ℕ → Name) → the_hidden (toks w L at) ≡ some (names w L count at, toks w L rest)

abbrev pub HiddenTo : List ℕ → ℕ → Phrase → Type 0
HiddenTo L at (To rest count) = HiddenRead L at rest count
HiddenTo L at Odd = (w : ℕ → Name) → the_hidden (toks w L at) ≡ none

-- the names `true` and `fail` have the numbers 4 and 8, and no others have them
pub record Reserved (w : ℕ → Name) (L : List ℕ) : Type 0 where
  pub true : (i : ℕ) → kind_at L i ≡ 0 → same (w (number_at L i)) (bytes "true") ≡ eqb (number_at L i) 4
  pub fail : (i : ℕ) → kind_at L i ≡ 0 → same (w (number_at L i)) (bytes "fail") ≡ eqb (number_at L i) 8

-- the constraint that each kind stands for
abbrev pub con_of : (ℕ → Name) → List ℕ → Constraint → Con Name
con_of w L True = ctrue
con_of w L Fail = cfail
con_of w L (Same x y) = ceq (w x) (w y)
con_of w L (Made x f first count) = capp (w x) (w f) (names w L count first)

-- a simple statement was read up to `rest`
pub record Read (L : List ℕ) (at rest : ℕ) : Type 0 where
  pub behind : at < rest
  pub inside : rest ≤ length L

-- where its names stand
pub record SameAt (L : List ℕ) (at rest x y : ℕ) : Type 0 where
  pub left : x ≡ number_at L at
  pub right : y ≡ number_at L (at + 2)
  pub end : rest ≡ at + 3

pub record MadeAt (L : List ℕ) (at rest x f i count : ℕ) : Type 0 where
  pub var : x ≡ number_at L at
  pub label : f ≡ number_at L (at + 2)
  pub first : i ≡ at + 4
  pub start : at + 3 ≤ rest
  pub end : 1 ≤ count → rest ≡ at + 2 * count + 4

pub record ProgramAt (L : List ℕ) (at rest p i count : ℕ) : Type 0 where
  pub name : p ≡ number_at L at
  pub first : i ≡ at + 2
  pub end : 1 ≤ count → rest ≡ at + 2 * count + 2

abbrev pub Stands : List ℕ → ℕ → ℕ → Constraint → Type 0
Stands L at rest True = Unit
Stands L at rest Fail = Unit
Stands L at rest (Same x y) = SameAt L at rest x y
Stands L at rest (Made x f first count) = MadeAt L at rest x f first count

abbrev pub SimpleAt : List ℕ → ℕ → Simple → Type 0
SimpleAt L at (Atom kind rest) = Read L at rest × ((w : ℕ → Name) → Reserved w L → the_simple (toks w L at) ≡ some (constraint (con_of w L kind), toks w L rest)) × Stands L at rest kind
SimpleAt L at (Program name first count rest) = Read L at rest × ((w : ℕ → Name) → Reserved w L → the_simple (toks w L at) ≡ some (program (w name) (names w L count first), toks w L rest)) × ProgramAt L at rest name first count
SimpleAt L at (Bracket inside) = (at < length L) × (inside ≡ at + 1) × ((w : ℕ → Name) → after open_bracket (toks w L at) ≡ some (toks w L inside))
SimpleAt L at Nothing = (w : ℕ → Name) → Reserved w L → the_simple (toks w L at) ≡ none

-- what begins an equation, and what begins with a name
pub record CanEquate (L : List ℕ) (at : ℕ) : Type 0 where
  pub known : Known L
  pub var : kind_at L at ≡ 2
  pub sign : kind_at L (at + 1) ≡ 9

pub record CanName (L : List ℕ) (at : ℕ) : Type 0 where
  pub known : Known L
  pub name : kind_at L at ≡ 0
