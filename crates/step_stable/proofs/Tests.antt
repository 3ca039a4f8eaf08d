-- Tests over lists.
use mathlib.Core.Path.{◌≡◌, refl, sym, subst}
use mathlib.Core.Logic.{inl, inr}
use mathlib.Core.List.{List, [], ◌∷◌}
use mathlib.Core.Bool.{Bool, true, false, ◌&&◌, ◌||◌, not}
use mathlib.Core.Option.{some, some-injective}
use Prim.Native.Nat.{ℕ, zero, suc, ◌<◌}
use native.Mathlib.Omega.{arith}
use lib.Dec.{T}
use Rattle.constraint.proofs.Lists.{or_T}
use Rattle.akl.specs.Base.{nth, size, any, all}
use Rattle.accept.proofs.PlaceLaws.{no_place}

pub same_truth : (a b : Bool) → (T a → T b) → (T b → T a) → a ≡ b
same_truth true true f g = refl
same_truth true false f g = absurd (f tt)
same_truth false true f g = absurd (g tt)
same_truth false false f g = refl

pub is_true : (b : Bool) → T b → b ≡ true
is_true true t = refl
is_true false t = absurd t

pub is_false : (b : Bool) → (T b → ⊥) → b ≡ false
is_false true f = absurd (f tt)
is_false false f = refl

pub nth_some : {A : Type 0} (l : List A) (j : ℕ) → j < size l → (x : A) × (nth l j ≡ some x)
unfolding nth size
nth_some [] j h = absurd (omega arith)
nth_some (y ∷ l) zero h = (y, refl)
nth_some (y ∷ l) (suc j) h = nth_some l j (omega arith)

pub nth_below : {A : Type 0} (l : List A) (j : ℕ) (x : A) → nth l j ≡ some x → j < size l
unfolding nth size
nth_below [] j x e = absurd (no_place x e)
nth_below (y ∷ l) zero x e = omega arith
nth_below (y ∷ l) (suc j) x e = let h = nth_below l j x e in omega (arith, h)

pub any_nth : {A : Type 0} (p : A → Bool) (l : List A) → T (any p l) → (j : ℕ) × (x : A) × (nth l j ≡ some x) × T (p x)
unfolding any nth
any_nth {A = A} p [] h = elim h [ ]
any_nth p (y ∷ l) h = elim ((or_T (p y) (any p l)).0 h) [ inl t ↦ (0, y, refl, t) | inr t ↦ let w = any_nth p l t in (suc w.0, w.1, w.2, w.3) ]

pub nth_any : {A : Type 0} (p : A → Bool) (l : List A) (j : ℕ) (x : A) → nth l j ≡ some x → T (p x) → T (any p l)
unfolding any nth
nth_any p [] j x e t = absurd (no_place x e)
nth_any p (y ∷ l) zero x e t = (or_T (p y) (any p l)).1 (inl (subst (λ z. T (p z)) (sym (some-injective y x e)) t))
nth_any p (y ∷ l) (suc j) x e t = (or_T (p y) (any p l)).1 (inr (nth_any p l j x e t))

-- none has the one property and all have the other: none has the one or lacks the other
pub none_and_all : {A : Type 0} (f g : A → Bool) (l : List A) → not (any f l) && all g l ≡ not (any (λ x. f x || not (g x)) l)
unfolding any all
none_and_all f g [] = refl
none_and_all f g (x ∷ l) = go (f x) (g x) (any f l) (all g l) (any (λ y. f y || not (g y)) l) (none_and_all f g l)
  where
    go : (a b c d u : Bool) → not c && d ≡ not u → not (a || c) && (b && d) ≡ not ((a || not b) || u)
    go true true c d u e = refl
    go true false c d u e = refl
    go false true c d u e = e
    go false false c d u e = and_no (not c)
      where
        and_no : (c : Bool) → c && false ≡ false
        and_no true = refl
        and_no false = refl
