-- Whether a table of tokens is of the grammar, with the open brackets on a stack of bytes.
use Rattle.std.specs.Prelude.{◌≡◌, List, ℕ, ◌≤◌, ◌<◌, length}
use Rattle.std.proofs.Math.Option.{some, none}
use Rattle.akl.specs.Base.{Name}
use Rattle.akl.specs.Grammar.{Statement, Definition}
use Rattle.akl.specs.Parse.{parse_query, parse_program}
use Rattle.descent.specs.Descent.{the_definition}
use Rattle.read_phrases.specs.Codes.{toks}
use Rattle.read_phrases.specs.Phrases.{Reserved}
use Rattle.read_statements.specs.declared.Unparsed.{Unparsed}
use Rattle.read_statements.specs.declared.Unparsed.TheVariants.{Odd, Short}
use Rattle.std.specs.Prelude as std

-- a whole query, and a whole program
abbrev pub QueryIs : List ℕ → List ℕ → std.Result (Unit {0}) Unparsed → Type 0
QueryIs L S (std.Ok u) = (w : ℕ → Name) → Reserved w L → (t : Statement) × (parse_query (toks w L 0) ≡ some t)
QueryIs L S (std.Err Odd) = (w : ℕ → Name) → Reserved w L → parse_query (toks w L 0) ≡ none
QueryIs L S (std.Err Short) = length S < length L

abbrev pub ProgramIs : List ℕ → List ℕ → std.Result (Unit {0}) Unparsed → Type 0
ProgramIs L S (std.Ok u) = (w : ℕ → Name) → Reserved w L → (ds : List Definition) × (parse_program (toks w L 0) ≡ some ds)
ProgramIs L S (std.Err Odd) = (w : ℕ → Name) → Reserved w L → parse_program (toks w L 0) ≡ none
ProgramIs L S (std.Err Short) = length S < length L

-- a definition: where it ends, and it is one; there is none; or the stack is shorter than the table
abbrev pub DefinitionTo : List ℕ → List ℕ → ℕ → std.Result ℕ Unparsed → Type 0
DefinitionTo L S at (std.Ok rest) = (at < rest) × (rest ≤ length L) × ((w : ℕ → Name) → Reserved w L → (d : Definition) × (the_definition (toks w L at) ≡ some (d, toks w L rest)))
DefinitionTo L S at (std.Err Odd) = (w : ℕ → Name) → Reserved w L → the_definition (toks w L at) ≡ none
DefinitionTo L S at (std.Err Short) = length S < length L
