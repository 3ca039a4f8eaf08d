-- Laws of the decision's lists of variables.
use mathlib.Core.Path.{◌≡◌, refl, ap, sym, ◌∙◌, subst}
use mathlib.Core.Logic.{◌↔◌, ◌⊎◌, inl, inr}
use mathlib.Core.List.{List, [], ◌∷◌, ◌++◌, map}
use mathlib.Core.Option.{Option, some, none}
use mathlib.Core.Bool.{Bool, true, false, ◌&&◌, ◌||◌, not}
use Prim.Native.Nat.{ℕ, suc, ◌≤◌, ◌<◌}
use native.Mathlib.Omega.{arith}
use lib.ListN.{length}
use lib.Dec.{T, eqb, eqb→eq, eqb_refl}
use Rattle.constraint.specs.Constraint.{In}
use Rattle.constraint.specs.Solve.{elem, nub, distinct, keep, all?}

-- nothing is not something
pub none_some : {A : Type 0} {x : A} → ◌≡◌ {A = Option A} none (some x) → ⊥
none_some {A} z = let b : ◌≡◌ {A = ℕ} 0 1 = ap (λ (o : Option A). elim o as (λ v. ℕ) [ none ↦ 0 | some x ↦ 1 ]) z in omega arith

-- a Boolean is true or not
pub both : (b : Bool) → T b ⊎ (T b → ⊥)
both true = inl tt
both false = inr (λ h. h)

pub and_T : (a b : Bool) → T (a && b) ↔ (T a × T b)
and_T true b = (λ h. (tt, h), λ h. h.1)
and_T false b = (λ h. absurd h, λ h. absurd h.0)

pub not_T : (b : Bool) → T (not b) ↔ (T b → ⊥)
not_T true = (λ h n. h, λ h. h tt)
not_T false = (λ h n. n, λ h. tt)

pub or_T : (a b : Bool) → T (a || b) ↔ (T a ⊎ T b)
or_T true b = (λ h. inl tt, λ h. tt)
or_T false b = (λ h. inr h, λ h. elim h [ inl a ↦ absurd a | inr c ↦ c ])

pub eqb_T : (x y : ℕ) → T (eqb x y) ↔ (x ≡ y)
eqb_T x y = (λ h. eqb→eq x y h, λ e. subst (λ z. T (eqb x z)) e (eqb_refl x))

pub elem_In : (x : ℕ) (l : List ℕ) → T (elem x l) ↔ In x l
unfolding elem
elem_In x [] = (λ h. h, λ h. h)
elem_In x (y ∷ l) =
    let ih = elem_In x l in
    (λ h. elim ((or_T (eqb x y) (elem x l)).0 h) [ inl a ↦ inl ((eqb_T x y).0 a) | inr b ↦ inr (ih.0 b) ], λ h. (or_T (eqb x y) (elem x l)).1 (elim h [ inl e ↦ inl ((eqb_T x y).1 e) | inr i ↦ inr (ih.1 i) ]))

-- keep p l: those of l for which p is true
pub keep_In : (p : ℕ → Bool) (x : ℕ) (l : List ℕ) → In x (keep p l) ↔ (In x l × T (p x))
unfolding keep
keep_In p x [] = (λ h. absurd h, λ h. h.0)
keep_In p x (y ∷ l) = go (p y) refl (keep_In p x l)
  where
    go : (b : Bool) → p y ≡ b → In x (keep p l) ↔ (In x l × T (p x)) → In x (elim b [ true ↦ y ∷ keep p l | false ↦ keep p l ]) ↔ (((x ≡ y) ⊎ In x l) × T (p x))
    go true e ih = (λ h. elim h [ inl q ↦ (inl q, subst (λ z. T (p z)) (sym q) (subst T (sym e) tt)) | inr i ↦ (inr (ih.0 i).0, (ih.0 i).1) ], λ h. elim h.0 [ inl q ↦ inl q | inr i ↦ inr (ih.1 (i, h.1)) ])
    go false e ih = (λ h. (inr (ih.0 h).0, (ih.0 h).1), λ h. k h.0 h.1)
      where
        k : (x ≡ y) ⊎ In x l → T (p x) → In x (keep p l)
        k (inl q) t = absurd (subst T (ap p q ∙ e) t)
        k (inr i) t = ih.1 (i, t)

pub keep_length : (p : ℕ → Bool) (l : List ℕ) → length (keep p l) ≤ length l
unfolding keep
keep_length p [] = omega arith
keep_length p (y ∷ l) = go (p y) (keep_length p l)
  where
    go : (b : Bool) → length (keep p l) ≤ length l → length {A = ℕ} (elim b as (λ c. List ℕ) [ true ↦ y ∷ keep p l | false ↦ keep p l ]) ≤ suc (length l)
    go true h = omega arith
    go false h = omega arith

-- nothing was dropped, or the list is shorter
pub keep_all : (p : ℕ → Bool) (l : List ℕ) → ((x : ℕ) → In x l → T (p x)) ⊎ (length (keep p l) < length l)
unfolding keep
keep_all p [] = inl (λ x i. absurd i)
keep_all p (y ∷ l) = go (p y) refl (keep_all p l) (keep_length p l)
  where
    go : (b : Bool) → p y ≡ b → ((x : ℕ) → In x l → T (p x)) ⊎ (length (keep p l) < length l) → length (keep p l) ≤ length l → ((x : ℕ) → In x (y ∷ l) → T (p x)) ⊎ (length {A = ℕ} (elim b as (λ c. List ℕ) [ true ↦ y ∷ keep p l | false ↦ keep p l ]) < suc (length l))
    go true e (inl h) m = inl (λ x i. elim i [ inl q ↦ subst (λ z. T (p z)) (sym q) (subst T (sym e) tt) | inr j ↦ h x j ])
    go true e (inr h) m = inr (omega arith)
    go false e r m = inr (omega arith)

pub all_In : (p : ℕ → Bool) (l : List ℕ) → T (all? p l) ↔ ((x : ℕ) → In x l → T (p x))
unfolding all?
all_In p [] = (λ h x i. absurd i, λ h. tt)
all_In p (y ∷ l) =
    let ih = all_In p l in
    (λ h x i. elim i [ inl q ↦ subst (λ z. T (p z)) (sym q) ((and_T (p y) (all? p l)).0 h).0 | inr j ↦ ih.0 ((and_T (p y) (all? p l)).0 h).1 x j ], λ h. (and_T (p y) (all? p l)).1 (h y (inl refl), ih.1 (λ x i. h x (inr i))))

pub map_In : (f : ℕ → ℕ) (x : ℕ) (l : List ℕ) → In x l → In (f x) (map f l)
map_In f x [] i = elim i [ ]
map_In f x (y ∷ l) (inl e) = inl (ap f e)
map_In f x (y ∷ l) (inr i) = inr (map_In f x l i)

pub map_out : (f : ℕ → ℕ) (z : ℕ) (l : List ℕ) → In z (map f l) → (x : ℕ) × In x l × (z ≡ f x)
map_out f z [] i = elim i [ ]
map_out f z (y ∷ l) (inl e) = (y, inl refl, e)
map_out f z (y ∷ l) (inr i) = let w = map_out f z l i in (w.0, inr w.1, w.2)

pub distinct_cons : (x : ℕ) (l : List ℕ) → T (distinct (x ∷ l)) ↔ ((In x l → ⊥) × T (distinct l))
unfolding distinct
distinct_cons x l =
    let a = and_T (not (elem x l)) (distinct l) in
    let n = not_T (elem x l) in
    let e = elem_In x l in
    (λ h. (λ i. n.0 (a.0 h).0 (e.1 i), (a.0 h).1), λ h. a.1 (n.1 (λ t. h.0 (e.0 t)), h.1))

-- the images of the list are distinct: f is injective on it
pub distinct_inj : (f : ℕ → ℕ) (l : List ℕ) → T (distinct (map f l)) → (x y : ℕ) → In x l → In y l → f x ≡ f y → x ≡ y
distinct_inj f [] h x y i _ e = elim i [ ]
distinct_inj f (z ∷ l) h x y (inl a) (inl b) e = a ∙ sym b
distinct_inj f (z ∷ l) h x y (inl a) (inr j) e = absurd (((distinct_cons (f z) (map f l)).0 h).0 (subst (λ w. In w (map f l)) (sym e ∙ ap f a) (map_In f y l j)))
distinct_inj f (z ∷ l) h x y (inr i) (inl b) e = absurd (((distinct_cons (f z) (map f l)).0 h).0 (subst (λ w. In w (map f l)) (e ∙ ap f b) (map_In f x l i)))
distinct_inj f (z ∷ l) h x y (inr i) (inr j) e = distinct_inj f l ((distinct_cons (f z) (map f l)).0 h).1 x y i j e

pub inj_distinct : (f : ℕ → ℕ) (l : List ℕ) → T (distinct l) → ((x y : ℕ) → In x l → In y l → f x ≡ f y → x ≡ y) → T (distinct (map f l))
unfolding distinct
inj_distinct f [] d h = tt
inj_distinct f (z ∷ l) d h = (distinct_cons (f z) (map f l)).1 (new, inj_distinct f l ((distinct_cons z l).0 d).1 (λ x y i j e. h x y (inr i) (inr j) e))
  where
    new : In (f z) (map f l) → ⊥
    new i =
        let w = map_out f (f z) l i in
        ((distinct_cons z l).0 d).0 (subst (λ y. In y l) (sym (h z w.0 (inl refl) (inr w.1) w.2)) w.1)

pub nub_In : (x : ℕ) (l : List ℕ) → In x (nub l) ↔ In x l
unfolding nub
nub_In x [] = (λ h. h, λ h. h)
nub_In x (y ∷ l) = go (elem y (nub l)) refl (nub_In x l)
  where
    go : (b : Bool) → elem y (nub l) ≡ b → In x (nub l) ↔ In x l → In x (elim b [ true ↦ nub l | false ↦ y ∷ nub l ]) ↔ ((x ≡ y) ⊎ In x l)
    go true e ih = (λ h. inr (ih.0 h), λ h. elim h [ inl q ↦ subst (λ z. In z (nub l)) (sym q) ((elem_In y (nub l)).0 (subst T (sym e) tt)) | inr i ↦ ih.1 i ])
    go false e ih = (λ h. elim h [ inl q ↦ inl q | inr i ↦ inr (ih.0 i) ], λ h. elim h [ inl q ↦ inl q | inr i ↦ inr (ih.1 i) ])

pub nub_distinct : (l : List ℕ) → T (distinct (nub l))
unfolding nub distinct
nub_distinct [] = tt
nub_distinct (y ∷ l) = go (elem y (nub l)) refl (nub_distinct l)
  where
    go : (b : Bool) → elem y (nub l) ≡ b → T (distinct (nub l)) → T (distinct (elim b [ true ↦ nub l | false ↦ y ∷ nub l ]))
    go true e ih = ih
    go false e ih = (distinct_cons y (nub l)).1 (λ i. subst T e ((elem_In y (nub l)).1 i), ih)

pub keep_distinct : (p : ℕ → Bool) (l : List ℕ) → T (distinct l) → T (distinct (keep p l))
unfolding keep distinct
keep_distinct p [] d = tt
keep_distinct p (y ∷ l) d = go (p y) (keep_distinct p l ((distinct_cons y l).0 d).1)
  where
    go : (b : Bool) → T (distinct (keep p l)) → T (distinct (elim b [ true ↦ y ∷ keep p l | false ↦ keep p l ]))
    go true ih = (distinct_cons y (keep p l)).1 (λ i. ((distinct_cons y l).0 d).0 ((keep_In p y l).0 i).0, ih)
    go false ih = ih

-- in a join of two lists
pub In-append : (x : ℕ) (a b : List ℕ) → In x (a ++ b) ↔ (In x a ⊎ In x b)
In-append x [] b = (λ h. inr h, λ h. elim h [ inl i ↦ absurd i | inr i ↦ i ])
In-append x (y ∷ a) b =
    let ih = In-append x a b in
    (λ h. elim h [ inl e ↦ inl (inl e) | inr i ↦ elim (ih.0 i) [ inl j ↦ inl (inr j) | inr j ↦ inr j ] ], λ h. elim h [ inl i ↦ elim i [ inl e ↦ inl e | inr j ↦ inr (ih.1 (inl j)) ] | inr j ↦ inr (ih.1 (inr j)) ])
