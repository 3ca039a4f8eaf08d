-- The numbers that the program writes are document 01's refusals. Assumes nothing.
use mathlib.Core.Path.{◌≡◌, ap, ◌∙◌}
use mathlib.Core.List.{List}
use mathlib.Core.Option.{some}
use Prim.Native.Nat.{ℕ}
use native.Mathlib.Omega.{arith}
use Rattle.akl.specs.Base.{refused}
use Rattle.akl.specs.Limits.{program_bytes, query_bytes}
use Rattle.akl.specs.Syntax.{Program}
use Rattle.akl.specs.Parse.{parse_query, parse_program}
use Rattle.akl.specs.Reader.{read_program, read_query}
use Rattle.read_texts.specs.declared.Readable.{Readable}
use Rattle.read_texts.specs.declared.Readable.TheVariants.{Yes, Long, Odd, Short}
use Rattle.read_texts.specs.Texts.{refusal}
use Rattle.read_texts.proofs.Refusals.{query_long, query_odd, program_long, program_odd}
use Rattle.read_textcheck.specs.Checked.{Checked}

some_once : {A : Type 0} (a b : A) → some a ≡ some b → a ≡ b
some_once a b e = cc

pub query_says : (P : Program) (text : List ℕ) (r : Readable) (i : ℕ) → Checked query_bytes parse_query text r → refusal r ≡ some i → read_query P text ≡ refused i
query_says P text (Yes k m) i Z e = absurd (let z : ◌≡◌ {A = ℕ} 0 1 = cc in omega arith)
query_says P text Long i Z e = query_long P text Z ∙ ap refused (some_once 1 i e)
query_says P text Odd i Z e = query_odd P text Z.0 Z.1 ∙ ap refused (some_once 2 i e)
query_says P text Short i Z e = absurd Z

pub program_says : (text : List ℕ) (r : Readable) (i : ℕ) → Checked program_bytes parse_program text r → refusal r ≡ some i → read_program text ≡ refused i
program_says text (Yes k m) i Z e = absurd (let z : ◌≡◌ {A = ℕ} 0 1 = cc in omega arith)
program_says text Long i Z e = program_long text Z ∙ ap refused (some_once 1 i e)
program_says text Odd i Z e = program_odd text Z.0 Z.1 ∙ ap refused (some_once 2 i e)
program_says text Short i Z e = absurd Z
