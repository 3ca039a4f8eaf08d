-- Names are the same exactly when they are spelled the same.
use mathlib.Core.Path.{◌≡◌, refl, ap₂}
use mathlib.Core.Bool.{Bool, true, false, ◌&&◌}
use mathlib.Core.List.{[], ◌∷◌}
use Prim.Native.Nat.{ℕ}
use native.Mathlib.Omega.{arith}
use lib.Dec.{T, eqb}
use borrow.Author.Tests.{eq-eqb, eqb-true}
use Rattle.akl.specs.Base.{Name, same}

pub same_refl : (x : Name) → same x x ≡ true
unfolding same
same_refl [] = refl
same_refl (a ∷ x) = ap₂ ◌&&◌ (eq-eqb a a refl) (same_refl x)

pub same_eq : (x y : Name) → same x y ≡ true → x ≡ y
unfolding same
same_eq [] [] t = refl
same_eq [] (b ∷ y) t = absurd (let z : ◌≡◌ {A = ℕ} 0 1 = cc in omega arith)
same_eq (a ∷ x) [] t = absurd (let z : ◌≡◌ {A = ℕ} 0 1 = cc in omega arith)
same_eq (a ∷ x) (b ∷ y) t = go (eqb a b) refl t (same_eq x y)
  where
    go : (e : Bool) → eqb a b ≡ e → e && same x y ≡ true → (same x y ≡ true → x ≡ y) → a ∷ x ≡ b ∷ y
    go true e t f = ap₂ ◌∷◌ (eqb-true a b e) (f t)
    go false e t f = absurd (let z : ◌≡◌ {A = ℕ} 0 1 = cc in omega arith)

-- the same of `T`
holds : (b : Bool) → T b → b ≡ true
holds false t = elim t [ ]
holds true t = refl

held : (b : Bool) → b ≡ true → T b
held true e = tt
held false e = absurd (let z : ◌≡◌ {A = ℕ} 0 1 = cc in omega arith)

pub same_eq_T : (x y : Name) → T (same x y) → x ≡ y
same_eq_T x y t = same_eq x y (holds (same x y) t)

pub same_refl_T : (x : Name) → T (same x x)
same_refl_T x = held (same x x) (same_refl x)
