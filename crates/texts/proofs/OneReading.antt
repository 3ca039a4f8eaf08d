-- The reader's definition accepts exactly the printed tokens of trees, and each has one reading.
use mathlib.Core.Path.{◌≡◌, refl, ap, sym, ◌∙◌, subst}
use mathlib.Core.Logic.{◌↔◌}
use mathlib.Core.List.{List, [], ◌∷◌}
use mathlib.Core.Option.{Option, some, none, some-injective}
use Prim.Native.Nat.{ℕ}
use Rattle.akl.specs.Token.{Token, tokens}
use Rattle.akl.specs.Grammar.{Statement, Definition}
use Rattle.texts.specs.Printing.{query_tokens, program_tokens}
use Rattle.akl.specs.Parse.{parse_query, parse_program}
use Rattle.texts.specs.Spelled.{SpelledTokens}
use Rattle.texts.specs.Writable.{Writable, WritableProgram}
use Rattle.texts.proofs.TokensSpelled.{tokens_spelled}
use Rattle.texts.proofs.ReadPrints.{query_prints, program_prints}
use Rattle.texts.proofs.PrintsRead.{query_reads, program_reads}

-- The tokens of a query text are read as s exactly when they are the tokens of s.
pub query_reading : (text : List ℕ) (ts : List Token) (s : Statement) → tokens text ≡ some ts → (parse_query ts ≡ some s) ↔ (Writable s × (ts ≡ query_tokens s))
query_reading text ts s e = (query_prints ts s (tokens_spelled text ts e), λ h. ap parse_query h.1 ∙ query_reads s h.0)

pub program_reading : (text : List ℕ) (ts : List Token) (ds : List Definition) → tokens text ≡ some ts → (parse_program ts ≡ some ds) ↔ (WritableProgram ds × (ts ≡ program_tokens ds))
program_reading text ts ds e = (program_prints ts ds (tokens_spelled text ts e), λ h. ap parse_program h.1 ∙ program_reads ds h.0)

-- Two trees with the same tokens are the same.
pub one_query : (s t : Statement) → Writable s → Writable t → query_tokens s ≡ query_tokens t → s ≡ t
one_query s t a b e = some-injective s t (sym (query_reads s a) ∙ ap parse_query e ∙ query_reads t b)

pub one_program : (ds es : List Definition) → WritableProgram ds → WritableProgram es → program_tokens ds ≡ program_tokens es → ds ≡ es
one_program ds es a b e = some-injective ds es (sym (program_reads ds a) ∙ ap parse_program e ∙ program_reads es b)
