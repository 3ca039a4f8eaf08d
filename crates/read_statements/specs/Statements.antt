-- Statements in a table of tokens, read with a stack: what is asked, and what is handed back. Assumes nothing.
use Rattle.std.specs.Prelude.{◌≡◌, List, [], ◌∷◌, ℕ, zero, suc, ◌+◌, ◌≤◌, ◌<◌, length, get_or}
use Rattle.std.proofs.Math.Option.{some, none}
use Rattle.akl.specs.Base.{Name}
use Rattle.akl.specs.Grammar.{Statement}
use Rattle.akl.specs.Parse.{Read}
use Rattle.descent.specs.Descent.{the_statement}
use Rattle.descent.specs.Frames.{Opens, Reached}
use Rattle.read_phrases.specs.Codes.{Known, kind_at, toks}
use Rattle.read_phrases.specs.Phrases.{Reserved}
use Rattle.read_statements.specs.declared.Onward.{Onward}
use Rattle.read_statements.specs.declared.Onward.TheVariants.{Next, Done}
use Rattle.read_statements.specs.declared.Unparsed.{Unparsed}
use Rattle.read_statements.specs.declared.Unparsed.TheVariants.{Odd, Short}
use Rattle.std.specs.Prelude as std

-- the lowest d entries of the stack are the open brackets, the innermost on top
unfoldable pub frames : List ℕ → ℕ → List ℕ
frames S zero = []
frames S (suc d) = get_or S d 0 ∷ frames S d

-- what an answer says of the outer statement G
abbrev pub Says : (ℕ → Name) → List ℕ → List ℕ → Read Statement → std.Result Onward Unparsed → Type 0
Says w L S G (std.Ok (Next at height)) = Opens (frames S height) (toks w L at) G
Says w L S G (std.Ok (Done rest)) = (t : Statement) × (G ≡ some (t, toks w L rest))
Says w L S G (std.Err Odd) = G ≡ none
Says w L S G (std.Err Short) = Unit {0}

-- a turn moves forward, and opens a bracket at most for each token
abbrev pub Forward : List ℕ → List ℕ → ℕ → ℕ → std.Result Onward Unparsed → Type 0
Forward L S at h (std.Ok (Next i height)) = (at < i) × (i ≤ length L) × (height + at ≤ h + i) × (height ≤ length S)
Forward L S at h (std.Ok (Done rest)) = (at ≤ rest) × (rest ≤ length L)
Forward L S at h (std.Err Odd) = Unit {0}
Forward L S at h (std.Err Short) = (length S ≤ h) × (at < length L)

-- behind a simple statement
pub record Followed (L S : List ℕ) (at h : ℕ) (S' : List ℕ) (r : std.Result Onward Unparsed) : Type 0 where
  pub long : length S' ≡ length S
  pub forward : Forward L S at h r
  pub says : (w : ℕ → Name) (G : Read Statement) → Reached (frames S h) (toks w L at) G → Says w L S' G r

-- at a simple statement
pub record Stepped (L S : List ℕ) (at h : ℕ) (S' : List ℕ) (r : std.Result Onward Unparsed) : Type 0 where
  pub long : length S' ≡ length S
  pub forward : Forward L S at h r
  pub says : (w : ℕ → Name) (G : Read Statement) → Reserved w L → Opens (frames S h) (toks w L at) G → Says w L S' G r

pub record CanFollow (L S : List ℕ) (at h : ℕ) : Type 0 where
  pub height : h ≤ length S
  pub inside : at ≤ length L

-- a bracket is open and no comma and no closing bracket comes
pub record CanTurn (L S : List ℕ) (at h : ℕ) : Type 0 where
  pub inner : 1 ≤ h
  pub height : h ≤ length S
  pub comma : kind_at L at ≡ 5 → ⊥
  pub close : kind_at L at ≡ 4 → ⊥

pub record CanStep (L S : List ℕ) (h : ℕ) : Type 0 where
  pub known : Known L
  pub height : h ≤ length S

-- a whole statement: where it ends; there is none; or the stack is shorter than the table
abbrev pub StatementTo : List ℕ → List ℕ → ℕ → std.Result ℕ Unparsed → Type 0
StatementTo L S at (std.Ok rest) = (at ≤ rest) × (rest ≤ length L) × ((w : ℕ → Name) → Reserved w L → (t : Statement) × (the_statement (toks w L at) ≡ some (t, toks w L rest)))
StatementTo L S at (std.Err Odd) = (w : ℕ → Name) → Reserved w L → the_statement (toks w L at) ≡ none
StatementTo L S at (std.Err Short) = length S < length L
