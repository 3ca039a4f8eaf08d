-- Texts that are too long are refused with 1, whatever follows the first byte too many. Assumes nothing.
use mathlib.Core.Path.{◌≡◌, refl, sym, ap, ◌∙◌, subst}
use mathlib.Core.List.{List, map}
use mathlib.Core.Option.{some, none}
use mathlib.Core.Bool.{Bool, true, false}
use Prim.Native.Nat.{ℕ, zero, suc, ◌+◌, ◌≤◌, ◌<◌}
use native.Mathlib.Omega.{arith}
use borrow.Author.Tests.{lt-ltb}
use lib.Dec.{ltb}
use lib.ListN.{length, take}
use lib.Seq.{length-take-le}
use Rattle.akl.specs.Base.{Result, refused, ok, if, size, ◌>>=◌}
use Rattle.akl.specs.Limits.{query_bytes, program_bytes, most_parts}
use Rattle.akl.specs.Syntax.{Program}
use Rattle.akl.specs.Token.{tokens}
use Rattle.akl.specs.Parse.{parse_program}
use Rattle.akl.specs.Reader.{Query, checked, program_faults, definition_of, read_program, read_query}
use Rattle.texts.specs.Readable.{query_of}
use Rattle.texts.proofs.Reading.{read_query_is}
use Rattle.store_words.proofs.Sizes.{size_length}
use Rattle.store_calls.specs.Outcomes.{slices_short}
use Rattle.store_lent.specs.Lent.{working_bytes}
use Rattle.start_outcome.specs.Outcome.{query_refusal, program_refusal, start_refusal, Started, StoreAfter, StartTo}
use Rattle.start_outcome.proofs.Settling.{program_refused}

query_long : (P : Program) (query : List ℕ) → 4096 < length query → read_query P query ≡ refused 1
query_long P query h = read_query_is P query ∙ ap (λ (b : Bool). if b (refused 1) (query_of P query)) (lt-ltb query_bytes (size query) (omega (arith, size_length query)))

program_long : (text : List ℕ) → 16384 < length text → read_program text ≡ refused 1
unfolding read_program
program_long text h = ap (λ (b : Bool). if b (refused 1) (elim (tokens text >>= parse_program) as (λ z. Result Program) [ none ↦ refused 2 | some ds ↦ checked (program_faults ds) (map definition_of ds) ])) (lt-ltb program_bytes (size text) (omega (arith, size_length text)))

-- a program that is too long
pub long_program : (text query L : List ℕ) (w : ℕ) → 16384 < length text → StartTo text query L w L 1
long_program text query L w h = record { refusal = program_refused text query L w 1 (program_long text h); store = refl }

refused_not : {A : Type 0} (n : ℕ) (a : A) → ◌≡◌ {A = Result A} (refused n) (ok a) → ⊥
refused_not n a q = let z : ◌≡◌ {A = ℕ} 0 1 = cc in omega arith

-- both refuse alike
alike : (limit : ℕ) (short : Bool) (q₁ q₂ : List ℕ) (o : Result Program) → ((P : Program) → read_query P q₁ ≡ read_query P q₂) → program_refusal limit short q₁ o ≡ program_refusal limit short q₂ o
alike limit short q₁ q₂ (refused n) h = refl
alike limit short q₁ q₂ (ok P) h = ap (query_refusal limit short) (h P)

-- a query that is too long, cut behind its first byte too many
pub cut_query : (text query L X : List ℕ) (w r : ℕ) → 4096 < length query → StartTo text (take 4097 query) L w X r → StartTo text query L w X r
unfolding start_refusal
cut_query text query L X w r h s =
    let k : length (take 4097 query) ≡ 4097 = length-take-le 4097 query (omega arith) in
    let j : 4096 < length (take 4097 query) = omega (arith, k) in
    record {
      refusal = s.refusal ∙ alike most_parts (slices_short most_parts working_bytes L w) (take 4097 query) query (read_program text) (λ P. query_long P (take 4097 query) j ∙ sym (query_long P query h));
      store = after r s.store j;
    }
  where
    after : (n : ℕ) → StoreAfter most_parts text (take 4097 query) L X n → 4096 < length (take 4097 query) → StoreAfter most_parts text query L X n
    after zero S j = absurd (refused_not 1 S.goal (sym (query_long S.program (take 4097 query) j) ∙ S.reads_query))
    after (suc n) S j = S
