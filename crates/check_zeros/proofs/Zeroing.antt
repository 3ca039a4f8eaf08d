-- Bytes met one after another. Assumes nothing.
use mathlib.Core.Path.{◌≡◌, ap, sym, ◌∙◌}
use mathlib.Core.List.{List}
use Prim.Native.Nat.{ℕ, ◌+◌, ◌<◌, ◌≤◌}
use native.Mathlib.Omega.{arith}
use native.Mathlib.Decide.{ℕ_discrete, dec_lt}
use lib.ListN.{get_or}
use Rattle.check_zeros.specs.Zeros.{Zeros, OneIf, Tallied, ZeroTo}

pub tallied_none : (b : List ℕ) (i : ℕ) → Tallied b i 0 0
tallied_none b i = record { small = omega arith; is = λ e j g h. absurd (omega arith) }

pub tallied_more : {b : List ℕ} {i k s x r : ℕ} → Tallied b i k s → x ≡ get_or b (i + k) 0 → OneIf x r → Tallied b i (k + 1) (s + r)
tallied_more {b} {i} {k} {s} {x} {r} T e o = record {
  small = omega (arith, T.small, o.small);
  is = λ z j g h. go j g h (omega (arith, z)) (omega (arith, z)) (ℕ_discrete j (i + k));
}
  where
    go : (j : ℕ) → i ≤ j → j < i + (k + 1) → s ≡ 0 → r ≡ 0 → Dec (j ≡ i + k) → get_or b j 0 ≡ 0
    go j g h u v (yes q) = ap (λ (m : ℕ). get_or b m 0) q ∙ sym e ∙ o.is v
    go j g h u v (no q) = T.is u j g (omega arith)

pub zero_none : (b : List ℕ) (a e : ℕ) → a ≤ e → ZeroTo b a e a
zero_none b a e h = record { low = omega arith; high = h; zero = λ j g l. absurd (omega arith) }

pub zero_piece : {b : List ℕ} {a e i r : ℕ} → ZeroTo b a e i → i + 128 ≤ e → Tallied b i 128 r → r ≡ 0 → ZeroTo b a e (i + 128)
zero_piece {b} {a} {e} {i} {r} Z h T z = record { low = omega (arith, Z.low); high = h; zero = λ j g l. go j g l (dec_lt j i) }
  where
    go : (j : ℕ) → a ≤ j → j < i + 128 → Dec (j < i) → get_or b j 0 ≡ 0
    go j g l (yes q) = Z.zero j g q
    go j g l (no q) = T.is z j (omega arith) l

pub zero_more : {b : List ℕ} {a e i x : ℕ} → ZeroTo b a e i → i < e → x ≡ get_or b i 0 → x ≡ 0 → ZeroTo b a e (i + 1)
zero_more {b} {a} {e} {i} {x} Z h q z = record { low = omega (arith, Z.low); high = omega arith; zero = λ j g l. go j g l (ℕ_discrete j i) }
  where
    go : (j : ℕ) → a ≤ j → j < i + 1 → Dec (j ≡ i) → get_or b j 0 ≡ 0
    go j g l (yes u) = ap (λ (m : ℕ). get_or b m 0) u ∙ sym q ∙ z
    go j g l (no u) = Z.zero j g (omega arith)

pub zero_all : {b : List ℕ} {a e i : ℕ} → ZeroTo b a e i → e ≤ i → Zeros b a e
zero_all Z h j g l = Z.zero j g (omega arith)
