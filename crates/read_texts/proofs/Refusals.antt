-- The answers on texts, as document 01's refusals: what is too long or not of the grammar is refused with 1 or 2, and what is
-- accepted is read on to the checks of its tree. Assumes nothing.
use mathlib.Core.Path.{◌≡◌, refl, ap, sym, ◌∙◌}
use mathlib.Core.Bool.{Bool, true, false}
use mathlib.Core.List.{List, [], map}
use mathlib.Core.Option.{Option, some, none}
use Prim.Native.Nat.{ℕ, ◌+◌, ◌<◌, ◌≤◌}
use native.Mathlib.Omega.{arith}
use lib.Dec.{ltb}
use lib.ListN.{length}
use borrow.Author.Tests.{lt-ltb, le-ltb}
use Rattle.akl.specs.Base.{size, if, ◌>>=◌, Result, refused, ok}
use Rattle.akl.specs.Limits.{program_bytes, query_bytes}
use Rattle.akl.specs.Syntax.{Program}
use Rattle.akl.specs.Token.{tokens}
use Rattle.akl.specs.Grammar.{Statement, Definition}
use Rattle.akl.specs.Parse.{parse_query, parse_program}
use Rattle.akl.specs.Reader.{Query, checked, definition_of, program_faults, query_faults, query_variables, statement_of, read_program, read_query}
use Rattle.read_tokens.specs.Runs.{size_length}
use Rattle.read_nodes.specs.Trie.{Roomy}
use Rattle.read_texts.specs.declared.Readable.{Readable}
use Rattle.read_texts.specs.declared.Readable.TheVariants.{Yes, Long, Odd, Short}
use Rattle.read_texts.specs.Texts.{refusal, Answered}

-- the reader's order: the length first, then the tree
read : {A B : Type 0} → ℕ → List ℕ → Option A → (A → Result B) → Result B
read limit text o f = if (ltb limit (size text)) (refused 1) (elim o [ none ↦ refused 2 | some t ↦ f t ])

read_long : {A B : Type 0} (limit : ℕ) (text : List ℕ) (o : Option A) (f : A → Result B) → limit < length text → read limit text o f ≡ refused 1
unfolding read
read_long {A} {B} limit text o f h =
    ap (λ (b : Bool). if {A = Result B} b (refused 1) (elim o as (λ z. Result B) [ none ↦ refused 2 | some t ↦ f t ])) (lt-ltb limit (size text) (omega (arith, size_length text)))

read_short : {A B : Type 0} (limit : ℕ) (text : List ℕ) (o p : Option A) (f : A → Result B) → length text ≤ limit → o ≡ p → read limit text o f ≡ elim p [ none ↦ refused 2 | some t ↦ f t ]
unfolding read
read_short {A} {B} limit text o p f h e =
    ap (λ (b : Bool). if {A = Result B} b (refused 1) (elim o as (λ z. Result B) [ none ↦ refused 2 | some t ↦ f t ])) (le-ltb limit (size text) (omega (arith, size_length text)))
    ∙ ap (λ (o : Option A). elim o as (λ z. Result B) [ none ↦ refused 2 | some t ↦ f t ]) e

some_once : {A : Type 0} (a b : A) → some a ≡ some b → a ≡ b
some_once a b e = cc

query_is : (P : Program) (text : List ℕ) → read_query P text ≡ read query_bytes text (tokens text >>= parse_query) (λ s. checked (query_faults P s) (record { variables = query_variables s; statement = statement_of s (query_variables s) [] }))
unfolding read read_query
query_is P text = refl

program_is : (text : List ℕ) → read_program text ≡ read program_bytes text (tokens text >>= parse_program) (λ ds. checked (program_faults ds) (map definition_of ds))
unfolding read read_program
program_is text = refl

-- each refusal by its cause
pub query_long : (P : Program) (text : List ℕ) → query_bytes < length text → read_query P text ≡ refused 1
query_long P text h = query_is P text ∙ read_long query_bytes text (tokens text >>= parse_query) _ h

pub query_odd : (P : Program) (text : List ℕ) → length text ≤ query_bytes → (tokens text >>= parse_query) ≡ none → read_query P text ≡ refused 2
query_odd P text h e = query_is P text ∙ read_short query_bytes text (tokens text >>= parse_query) none _ h e

pub program_long : (text : List ℕ) → program_bytes < length text → read_program text ≡ refused 1
program_long text h = program_is text ∙ read_long program_bytes text (tokens text >>= parse_program) _ h

pub program_odd : (text : List ℕ) → length text ≤ program_bytes → (tokens text >>= parse_program) ≡ none → read_program text ≡ refused 2
program_odd text h e = program_is text ∙ read_short program_bytes text (tokens text >>= parse_program) none _ h e

module _ {text K N H S D K' N' H' S' : List ℕ} {n : ℕ} where
  -- the refusals of a query, 1 and 2
  pub query_refused : (P : Program) (r : Readable) (i : ℕ) → Answered query_bytes parse_query text K N H S n D K' N' H' S' r → refusal r ≡ some i → read_query P text ≡ refused i
  query_refused P (Yes k m) i Z e = absurd (let z : ◌≡◌ {A = ℕ} 0 1 = cc in omega arith)
  query_refused P Long i Z e = query_long P text Z.answer ∙ ap refused (some_once 1 i e)
  query_refused P Odd i Z e = query_odd P text Z.answer.0 Z.answer.1 ∙ ap refused (some_once 2 i e)
  query_refused P Short i Z e = absurd (let z : ◌≡◌ {A = ℕ} 0 1 = cc in omega arith)

  -- those of a program
  pub program_refused : (r : Readable) (i : ℕ) → Answered program_bytes parse_program text K N H S n D K' N' H' S' r → refusal r ≡ some i → read_program text ≡ refused i
  program_refused (Yes k m) i Z e = absurd (let z : ◌≡◌ {A = ℕ} 0 1 = cc in omega arith)
  program_refused Long i Z e = program_long text Z.answer ∙ ap refused (some_once 1 i e)
  program_refused Odd i Z e = program_odd text Z.answer.0 Z.answer.1 ∙ ap refused (some_once 2 i e)
  program_refused Short i Z e = absurd (let z : ◌≡◌ {A = ℕ} 0 1 = cc in omega arith)

  -- what is accepted goes on to its tree's faults
  pub query_accepted : (P : Program) (k m : ℕ) (Z : Answered query_bytes parse_query text K N H S n D K' N' H' S' (Yes k m)) → let s = Z.answer.tree in read_query P text ≡ checked (query_faults P s) (record { variables = query_variables s; statement = statement_of s (query_variables s) [] })
  query_accepted P k m Z = query_is P text ∙ read_short query_bytes text (tokens text >>= parse_query) (some Z.answer.tree) _ Z.answer.fits Z.answer.reads

  pub program_accepted : (k m : ℕ) (Z : Answered program_bytes parse_program text K N H S n D K' N' H' S' (Yes k m)) → let ds = Z.answer.tree in read_program text ≡ checked (program_faults ds) (map definition_of ds)
  program_accepted k m Z = program_is text ∙ read_short program_bytes text (tokens text >>= parse_program) (some Z.answer.tree) _ Z.answer.fits Z.answer.reads
