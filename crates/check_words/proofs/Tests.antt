-- Laws of tests on lists of numbers: membership, disjoint and distinct lists.
use mathlib.Core.Path.{◌≡◌, refl, ap, ap₂, sym, ◌∙◌}
use mathlib.Core.List.{List, [], ◌∷◌, ◌++◌}
use mathlib.Core.Bool.{Bool, true, false, ◌&&◌, ◌||◌, not}
use Prim.Native.Nat.{ℕ}
use native.Mathlib.Omega.{arith}
use lib.Dec.{eqb}
use borrow.Author.Tests.{eq-eqb, eqb-true, eqb-false, ne_eqb}
use Rattle.constraint.specs.Solve.{elem, distinct}
use Rattle.akl.specs.Base.{all, any}
use Rattle.akl.specs.WellFormed.{disjoint}
use Rattle.check_words.proofs.Walks.{and_assoc}

pub or_assoc : (a b c : Bool) → ((a || b) || c) ≡ (a || (b || c))
or_assoc true b c = refl
or_assoc false b c = refl

pub or_false : (a : Bool) → (a || false) ≡ a
or_false true = refl
or_false false = refl

pub or_swap : (a b : Bool) → (a || b) ≡ (b || a)
or_swap true true = refl
or_swap true false = refl
or_swap false true = refl
or_swap false false = refl

pub not_or : (a b : Bool) → not (a || b) ≡ (not a && not b)
not_or true b = refl
not_or false b = refl

-- (a b) (c d) as (a c) (b d)
pub and_mix : (a b c d : Bool) → ((a && b) && (c && d)) ≡ ((a && c) && (b && d))
and_mix true true c d = refl
and_mix true false true d = refl
and_mix true false false d = refl
and_mix false b c d = refl

pub elem_append : (x : ℕ) (a b : List ℕ) → elem x (a ++ b) ≡ (elem x a || elem x b)
unfolding elem
elem_append x [] b = refl
elem_append x (y ∷ a) b = ap (λ (t : Bool). eqb x y || t) (elem_append x a b) ∙ sym (or_assoc (eqb x y) (elem x a) (elem x b))

pub all_ext : {A : Type 0} (p q : A → Bool) (l : List A) → ((x : A) → p x ≡ q x) → all p l ≡ all q l
unfolding all
all_ext p q [] h = refl
all_ext p q (x ∷ l) h = ap₂ (λ (a b : Bool). a && b) (h x) (all_ext p q l h)

pub all_and : {A : Type 0} (p q : A → Bool) (l : List A) → all (λ x. p x && q x) l ≡ (all p l && all q l)
unfolding all
all_and p q [] = refl
all_and p q (x ∷ l) = ap (λ (t : Bool). (p x && q x) && t) (all_and p q l) ∙ and_mix (p x) (q x) (all p l) (all q l)

pub both_true : (a b : Bool) → (a && b) ≡ true → (a ≡ true) × (b ≡ true)
both_true true b e = (refl, e)
both_true false b e = absurd (let z : ◌≡◌ {A = ℕ} 0 1 = cc in omega arith)

-- what passes a test, and is in a list that passes it
pub all_elem : (p : ℕ → Bool) (l : List ℕ) (x : ℕ) → all p l ≡ true → elem x l ≡ true → p x ≡ true
unfolding all elem
all_elem p [] x h e = absurd (let z : ◌≡◌ {A = ℕ} 0 1 = cc in omega arith)
all_elem p (y ∷ l) x h e = go (eqb x y) refl (λ k. all_elem p l x (both_true (p y) (all p l) h).1 k)
  where
    go : (b : Bool) → eqb x y ≡ b → (elem x l ≡ true → p x ≡ true) → p x ≡ true
    go true q k = ap p (eqb-true x y q) ∙ (both_true (p y) (all p l) h).0
    go false q k = k (sym (ap (λ (b : Bool). b || elem x l) q) ∙ e)

turn : (x y : ℕ) → eqb x y ≡ eqb y x
turn x y = go (eqb x y) refl
  where
    go : (b : Bool) → eqb x y ≡ b → eqb x y ≡ eqb y x
    go true q = q ∙ sym (eq-eqb y x (sym (eqb-true x y q)))
    go false q = q ∙ sym (ne_eqb y x (λ e. eqb-false x y q (sym e)))

-- no member of one list is in the other
pub apart_cons : (y : ℕ) (a b : List ℕ) → all (λ x. not (elem x (y ∷ a))) b ≡ (not (elem y b) && all (λ x. not (elem x a)) b)
unfolding all elem
apart_cons y a [] = refl
apart_cons y a (x ∷ b) =
    ap₂ (λ (s t : Bool). s && t) (not_or (eqb x y) (elem x a) ∙ ap (λ (s : Bool). not s && not (elem x a)) (turn x y)) (apart_cons y a b)
    ∙ and_mix (not (eqb y x)) (not (elem x a)) (not (elem y b)) (all (λ z. not (elem z a)) b)
    ∙ ap (λ (s : Bool). s && (not (elem x a) && all (λ z. not (elem z a)) b)) (sym (not_or (eqb y x) (elem y b)))

pub disjoint_all : (a b : List ℕ) → disjoint a b ≡ all (λ x. not (elem x a)) b
unfolding disjoint any all elem
disjoint_all [] b = sym (none b)
  where
    none : (b : List ℕ) → all (λ x. not (elem x [])) b ≡ true
    none [] = refl
    none (x ∷ b) = none b
disjoint_all (y ∷ a) b = not_or (elem y b) (any (λ x. elem x b) a) ∙ ap (λ (t : Bool). not (elem y b) && t) (disjoint_all a b) ∙ sym (apart_cons y a b)

pub none_equal : (x : ℕ) (l : List ℕ) → all (λ z. not (eqb z x)) l ≡ not (elem x l)
unfolding all elem
none_equal x [] = refl
none_equal x (y ∷ l) = ap₂ (λ (s t : Bool). not s && t) (turn y x) (none_equal x l) ∙ sym (not_or (eqb x y) (elem x l))

-- a test that may be left out for those that passed it before
pub passed_before : (g : ℕ → Bool) (a b : List ℕ) → (all g a && all (λ x. elem x a || g x) b) ≡ (all g a && all g b)
passed_before g a b = go (all g a) refl
  where
    one : all g a ≡ true → (x : ℕ) → (elem x a || g x) ≡ g x
    one h x = which (elem x a) refl
      where
        which : (t : Bool) → elem x a ≡ t → (elem x a || g x) ≡ g x
        which true e = ap (λ (t : Bool). t || g x) e ∙ sym (all_elem g a x h e)
        which false e = ap (λ (t : Bool). t || g x) e

    go : (t : Bool) → all g a ≡ t → (t && all (λ x. elem x a || g x) b) ≡ (t && all g b)
    go true e = all_ext (λ x. elem x a || g x) g b (one e)
    go false e = refl

-- the same tests in another order
pub strict_mix : (n x a d b : Bool) → ((n && x) && (a && (d && b))) ≡ (((n && d) && x) && (a && b))
strict_mix true true true true b = refl
strict_mix true true true false b = refl
strict_mix true true false true b = refl
strict_mix true true false false b = refl
strict_mix true false true true b = refl
strict_mix true false true false b = refl
strict_mix true false false true b = refl
strict_mix true false false false b = refl
strict_mix false true true true b = refl
strict_mix false true true false b = refl
strict_mix false true false true b = refl
strict_mix false true false false b = refl
strict_mix false false true true b = refl
strict_mix false false true false b = refl
strict_mix false false false true b = refl
strict_mix false false false false b = refl

pub local_mix : (s n d e a m r : Bool) → ((s && n) && (((d && (e && a)) && m) && r)) ≡ ((((e && d) && (s && a)) && (n && m)) && r)
local_mix true true true true true m r = refl
local_mix true true true true false m r = refl
local_mix true true true false true m r = refl
local_mix true true true false false m r = refl
local_mix true true false true true m r = refl
local_mix true true false true false m r = refl
local_mix true true false false true m r = refl
local_mix true true false false false m r = refl
local_mix true false true true true m r = refl
local_mix true false true true false m r = refl
local_mix true false true false true m r = refl
local_mix true false true false false m r = refl
local_mix true false false true true m r = refl
local_mix true false false true false m r = refl
local_mix true false false false true m r = refl
local_mix true false false false false m r = refl
local_mix false true true true true m r = refl
local_mix false true true true false m r = refl
local_mix false true true false true m r = refl
local_mix false true true false false m r = refl
local_mix false true false true true m r = refl
local_mix false true false true false m r = refl
local_mix false true false false true m r = refl
local_mix false true false false false m r = refl
local_mix false false true true true m r = refl
local_mix false false true true false m r = refl
local_mix false false true false true m r = refl
local_mix false false true false false m r = refl
local_mix false false false true true m r = refl
local_mix false false false true false m r = refl
local_mix false false false false true m r = refl
local_mix false false false false false m r = refl

pub box_mix : (v m a d b r : Bool) → ((v && m) && ((a && (d && b)) && r)) ≡ ((((v && d) && a) && (m && b)) && r)
box_mix true true true true b r = refl
box_mix true true true false b r = refl
box_mix true true false true b r = refl
box_mix true true false false b r = refl
box_mix true false true true b r = refl
box_mix true false true false b r = refl
box_mix true false false true b r = refl
box_mix true false false false b r = refl
box_mix false true true true b r = refl
box_mix false true true false b r = refl
box_mix false true false true b r = refl
box_mix false true false false b r = refl
box_mix false false true true b r = refl
box_mix false false true false b r = refl
box_mix false false false true b r = refl
box_mix false false false false b r = refl
