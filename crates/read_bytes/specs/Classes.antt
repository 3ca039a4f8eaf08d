-- The class of a byte, by ranges: a test that is computed over the bytes of a range, and what it shows. Assumes nothing.
use Rattle.std.specs.Prelude.{◌≡◌, refl, Bool, true, false, ◌&&◌, ◌||◌, ℕ, zero, suc, ◌+◌, ◌≤◌, ◌<◌, eqb, leb, T}
use Rattle.std.proofs.Common.{ap, sym, ◌∙◌, arith, eqb→eq, eqb-true, leb-true}
use Rattle.std.proofs.lemmas.Bool.{eqb-false}
use Rattle.akl.specs.Base.{if}
use Rattle.akl.specs.Token.{Class, small, capital, digit, underscore, blank, mark, other, class_of, digit_class, within}

-- the classes as numbers, so that a test can compare them
unfoldable pub number : Class → ℕ
number small = 0
number capital = 1
number digit = 2
number underscore = 3
number blank = 4
number mark = 5
number other = 6

numbered : ℕ → Class
numbered zero = small
numbered (suc zero) = capital
numbered (suc (suc zero)) = digit
numbered (suc (suc (suc zero))) = underscore
numbered (suc (suc (suc (suc zero)))) = blank
numbered (suc (suc (suc (suc (suc zero))))) = mark
numbered (suc (suc (suc (suc (suc (suc n)))))) = other

number_once : (k : Class) → numbered (number k) ≡ k
unfolding number numbered
number_once small = refl
number_once capital = refl
number_once digit = refl
number_once underscore = refl
number_once blank = refl
number_once mark = refl
number_once other = refl

-- the n bytes from `from` on, `hole` aside, are of class k
unfoldable pub all_of : ℕ → Class → ℕ → ℕ → Bool
all_of zero k hole from = true
all_of (suc n) k hole from = (eqb from hole || eqb (number k) (number (class_of from))) && all_of n k hole (suc from)

both : (a b : Bool) → T (a && b) → T a × T b
both true b t = (tt, t)
both false b t = absurd t

one : (a b : Bool) → T (a || b) → (T a → ⊥) → T b
one true b t n = absurd (n tt)
one false b t n = t

-- so is each byte of that range
pub in_range : (n : ℕ) (k : Class) (hole from : ℕ) → T (all_of n k hole from) → (x : ℕ) → from ≤ x → x < from + n → (x ≡ hole → ⊥) → k ≡ class_of x
unfolding all_of
in_range zero k hole from t x h g e = absurd (omega arith)
in_range (suc n) k hole from t x h g e =
    go (eqb from x) refl (in_range n k hole (suc from) (both (eqb from hole || eqb (number k) (number (class_of from))) (all_of n k hole (suc from)) t).1 x)
  where
    here : from ≡ x → k ≡ class_of from
    here q =
        sym (number_once k)
        ∙ ap numbered (eqb→eq (number k) (number (class_of from)) (one (eqb from hole) (eqb (number k) (number (class_of from))) (both (eqb from hole || eqb (number k) (number (class_of from))) (all_of n k hole (suc from)) t).0 (λ z. e (sym q ∙ eqb→eq from hole z))))
        ∙ number_once (class_of from)

    go : (b : Bool) → eqb from x ≡ b → (suc from ≤ x → x < suc from + n → (x ≡ hole → ⊥) → k ≡ class_of x) → k ≡ class_of x
    go true q r = let p = eqb-true from x q in here p ∙ ap class_of p
    go false q r = r (omega (arith, eqb-false from x q)) (omega arith) e

no : false ≡ true → ⊥
no e = let z : ◌≡◌ {A = ℕ} 0 1 = cc in omega arith

both_true : (a b : Bool) → (a && b) ≡ true → (a ≡ true) × (b ≡ true)
both_true true b e = (refl, e)
both_true false b e = absurd (no e)

-- a digit lies between `0` and `9`
pub digit_byte : (x : ℕ) → digit_class (class_of x) ≡ true → (48 ≤ x) × (x ≤ 57)
unfolding class_of
digit_byte x e =
    let w = both_true (leb 48 x) (leb x 57) (go (within 97 122 x) (within 65 90 x) (within 48 57 x) (eqb x 95) (eqb x 32 || eqb x 9 || eqb x 10) (within 40 41 x || within 44 46 x || within 58 59 x || within 61 63 x || eqb x 124) e) in
    (leb-true 48 x w.0, leb-true x 57 w.1)
  where
    go : (a b c d f g : Bool) → digit_class (if a small (if b capital (if c digit (if d underscore (if f blank (if g mark other)))))) ≡ true → c ≡ true
    go true b c d f g e = absurd (no e)
    go false true c d f g e = absurd (no e)
    go false false true d f g e = refl
    go false false false true f g e = absurd (no e)
    go false false false false true g e = absurd (no e)
    go false false false false false true e = absurd (no e)
    go false false false false false false e = absurd (no e)
