-- A query that is read is within its limit.
use mathlib.Core.Path.{◌≡◌, refl, sym, ◌∙◌}
use mathlib.Core.List.{List}
use mathlib.Core.Bool.{Bool, true, false, not}
use Prim.Native.Nat.{ℕ, ◌≤◌}
use native.Mathlib.Omega.{arith}
use lib.Dec.{T, ltb, nltb→le}
use lib.ListN.{length}
use Rattle.akl.specs.Base.{Result, refused, ok, if, size}
use Rattle.akl.specs.Limits.{query_bytes}
use Rattle.akl.specs.Syntax.{Program}
use Rattle.akl.specs.Reader.{Query, read_query}
use Rattle.texts.specs.Readable.{query_of}
use Rattle.texts.proofs.Reading.{read_query_is}
use Rattle.store_texts.proofs.Programs.{size_length}

refused_not : {A : Type 0} (n : ℕ) (a : A) → ◌≡◌ {A = Result A} (refused n) (ok a) → ⊥
refused_not n a q = let z : ◌≡◌ {A = ℕ} 0 1 = cc in omega arith

not_so : (b : Bool) → b ≡ false → T (not b)
not_so true e = absurd (let z : ◌≡◌ {A = ℕ} 0 1 = cc in omega arith)
not_so false e = tt

pub query_short : (P : Program) (text : List ℕ) (q : Query) → read_query P text ≡ ok q → length text ≤ query_bytes
query_short P text q e = go (ltb query_bytes (size text)) refl (sym (read_query_is P text) ∙ e)
  where
    go : (b : Bool) → ltb query_bytes (size text) ≡ b → if b (refused 1) (query_of P text) ≡ ok q → length text ≤ query_bytes
    go true p r = absurd (refused_not 1 q r)
    go false p r = omega (arith, size_length text, nltb→le query_bytes (size text) (not_so (ltb query_bytes (size text)) p))
