-- The lowest refusal of a list, and 8 where there is none.
use Rattle.std.specs.Prelude.{◌≡◌, refl, ◌⊎◌, List, [], ◌∷◌, ◌++◌, Bool, true, false, ◌||◌, ℕ, zero, suc, ◌+◌, ◌≤◌, ◌<◌, leb}
use Rattle.std.proofs.Common.{ap, sym, ◌∙◌, subst, inl, inr, arith, leb-true, leb-false}
use Rattle.std.proofs.Math.Option.{Option, some, none}
use Rattle.constraint.specs.Constraint.{In}
use Rattle.akl.specs.Base.{if, least}
use Rattle.akl.specs.Reader.{fault}

-- f is the lowest of fs, or 8 and there are none
pub record Lowest (f : ℕ) (fs : List ℕ) : Type 0 where
  pub least : (x : ℕ) → In x fs → f ≤ x
  pub found : ((f < 8) × In f fs) ⊎ ((f ≡ 8) × (fs ≡ []))

-- one of two, and no higher than the other
abbrev pub Lower : ℕ → ℕ → ℕ → Type 0
Lower a b r = ((r ≡ a) × (a ≤ b)) ⊎ ((r ≡ b) × (b ≤ a))

-- ---------------------------------------------------------------------------------------------
-- Laws.

pub in_left : (x : ℕ) (l m : List ℕ) → In x l → In x (l ++ m)
in_left x [] m h = absurd h
in_left x (y ∷ l) m (inl e) = inl e
in_left x (y ∷ l) m (inr h) = inr (in_left x l m h)

pub in_right : (x : ℕ) (l m : List ℕ) → In x m → In x (l ++ m)
in_right x [] m h = h
in_right x (y ∷ l) m h = inr (in_right x l m h)

pub in_both : (x : ℕ) (l m : List ℕ) → In x (l ++ m) → In x l ⊎ In x m
in_both x [] m h = inr h
in_both x (y ∷ l) m (inl e) = inl (inl e)
in_both x (y ∷ l) m (inr h) = elim (in_both x l m h) [ inl a ↦ inl (inr a) | inr a ↦ inr a ]

pub lowest_none : Lowest 8 []
lowest_none = record { least = λ x h. absurd h; found = inr (refl, refl) }

pub lowest_one : (n : ℕ) → n < 8 → Lowest n (n ∷ [])
lowest_one n h = record { least = λ x i. elim i [ inl e ↦ omega (arith, e) | inr z ↦ absurd z ]; found = inl (h, inl refl) }

-- a fault that is due, and one that is not
pub lowest_fault : (n : ℕ) (b : Bool) → n < 8 → b ≡ true → Lowest n (fault n b)
lowest_fault n true h e = lowest_one n h
lowest_fault n false h e = absurd (let z : ◌≡◌ {A = ℕ} 0 1 = ap (λ (b : Bool). if b 1 0) e in omega arith)

pub lowest_fine : (n : ℕ) (b : Bool) → b ≡ false → Lowest 8 (fault n b)
lowest_fine n true e = absurd (let z : ◌≡◌ {A = ℕ} 1 0 = ap (λ (b : Bool). if b 1 0) e in omega arith)
lowest_fine n false e = lowest_none

pub lowest_both : (f g r : ℕ) (fs gs : List ℕ) → Lowest f fs → Lowest g gs → Lower f g r → Lowest r (fs ++ gs)
lowest_both f g r fs gs a b (inl q) = record { least = λ x i. elim (in_both x fs gs i) [ inl h ↦ omega (arith, q.0, a.least x h) | inr h ↦ omega (arith, q.0, q.1, b.least x h) ]; found = go a.found b.found }
  where
    go : ((f < 8) × In f fs) ⊎ ((f ≡ 8) × (fs ≡ [])) → ((g < 8) × In g gs) ⊎ ((g ≡ 8) × (gs ≡ [])) → ((r < 8) × In r (fs ++ gs)) ⊎ ((r ≡ 8) × (fs ++ gs ≡ []))
    go (inl h) z = inl (omega (arith, q.0, h.0), subst (λ (x : ℕ). In x (fs ++ gs)) (sym q.0) (in_left f fs gs h.1))
    go (inr h) (inl z) = absurd (omega (arith, q.1, h.0, z.0))
    go (inr h) (inr z) = inr (q.0 ∙ h.0, ap (λ (l : List ℕ). l ++ gs) h.1 ∙ z.1)
lowest_both f g r fs gs a b (inr q) = record { least = λ x i. elim (in_both x fs gs i) [ inl h ↦ omega (arith, q.0, q.1, a.least x h) | inr h ↦ omega (arith, q.0, b.least x h) ]; found = go a.found b.found }
  where
    go : ((f < 8) × In f fs) ⊎ ((f ≡ 8) × (fs ≡ [])) → ((g < 8) × In g gs) ⊎ ((g ≡ 8) × (gs ≡ [])) → ((r < 8) × In r (fs ++ gs)) ⊎ ((r ≡ 8) × (fs ++ gs ≡ []))
    go z (inl h) = inl (omega (arith, q.0, h.0), subst (λ (x : ℕ). In x (fs ++ gs)) (sym q.0) (in_right g fs gs h.1))
    go (inl z) (inr h) = absurd (omega (arith, q.1, h.0, z.0))
    go (inr z) (inr h) = inr (q.0 ∙ h.0, ap (λ (l : List ℕ). l ++ gs) z.1 ∙ h.1)

-- what the definitions report: one of them that no other is below
abbrev Reported : List ℕ → Type 0
Reported fs = ((least fs ≡ none) × (fs ≡ [])) ⊎ ((y : ℕ) × (least fs ≡ some y) × In y fs × ((x : ℕ) → In x fs → y ≤ x))

reported : (fs : List ℕ) → Reported fs
unfolding least
reported [] = inl (refl, refl)
reported (x ∷ fs) = go (reported fs)
  where
    first : Option ℕ → Option ℕ
    first o = elim o as (λ z. Option ℕ) [ none ↦ some x | some y ↦ some (if (leb x y) x y) ]

    by : (y : ℕ) (b : Bool) → leb x y ≡ b → In y fs → ((z : ℕ) → In z fs → y ≤ z) → In (if b x y) (x ∷ fs) × ((z : ℕ) → In z (x ∷ fs) → if b x y ≤ z)
    by y true e h l = let v = leb-true x y e in (inl refl, λ z i. elim i [ inl q ↦ omega (arith, q) | inr q ↦ omega (arith, l z q) ])
    by y false e h l = let v = leb-false x y e in (inr h, λ z i. elim i [ inl q ↦ omega (arith, q) | inr q ↦ l z q ])

    go : Reported fs → Reported (x ∷ fs)
    go (inl q) = inr (x, ap first q.0, inl refl, λ z i. elim i [ inl e ↦ omega (arith, e) | inr h ↦ absurd (subst (In z) q.1 h) ])
    go (inr q) = (let r = by q.0 (leb x q.0) refl q.2 q.3 in inr (if (leb x q.0) x q.0, ap first q.1, r.0, r.1))

pub lowest_refused : (f : ℕ) (fs : List ℕ) → Lowest f fs → f < 8 → least fs ≡ some f
lowest_refused f fs h l = go h.found (reported fs)
  where
    go : ((f < 8) × In f fs) ⊎ ((f ≡ 8) × (fs ≡ [])) → Reported fs → least fs ≡ some f
    go (inr z) r = absurd (omega (arith, z.0))
    go (inl z) (inl r) = absurd (subst (In f) r.1 z.1)
    go (inl z) (inr r) = (let a = h.least r.0 r.2 in let b = r.3 f z.1 in let e : r.0 ≡ f = omega arith in r.1 ∙ ap (λ (n : ℕ). some n) e)

pub lowest_fits : (f : ℕ) (fs : List ℕ) → Lowest f fs → f ≡ 8 → least fs ≡ none
unfolding least
lowest_fits f fs h e = go h.found
  where
    go : ((f < 8) × In f fs) ⊎ ((f ≡ 8) × (fs ≡ [])) → least fs ≡ none
    go (inl z) = absurd (omega (arith, z.0))
    go (inr z) = ap least z.1

-- lists with the same members have the same lowest
pub record Alike (fs gs : List ℕ) : Type 0 where
  pub to : (x : ℕ) → In x fs → In x gs
  pub from : (x : ℕ) → In x gs → In x fs

no_members : (fs : List ℕ) → ((x : ℕ) → In x fs → ⊥) → fs ≡ []
no_members [] h = refl
no_members (x ∷ fs) h = absurd (h x (inl refl))

pub lowest_alike : (f : ℕ) (fs gs : List ℕ) → Alike fs gs → Lowest f fs → Lowest f gs
lowest_alike f fs gs a h = record { least = λ x i. h.least x (a.from x i); found = elim h.found [ inl z ↦ inl (z.0, a.to f z.1) | inr z ↦ inr (z.0, no_members gs (λ x i. subst (In x) z.1 (a.from x i))) ] }

pub alike_swap : (l m n : List ℕ) → Alike (l ++ (m ++ n)) (m ++ (l ++ n))
alike_swap l m n = record { to = λ x h. elim (in_both x l (m ++ n) h) [ inl i ↦ in_right x m (l ++ n) (in_left x l n i) | inr i ↦ elim (in_both x m n i) [ inl j ↦ in_left x m (l ++ n) j | inr j ↦ in_right x m (l ++ n) (in_right x l n j) ] ]; from = λ x h. elim (in_both x m (l ++ n) h) [ inl i ↦ in_right x l (m ++ n) (in_left x m n i) | inr i ↦ elim (in_both x l n i) [ inl j ↦ in_left x l (m ++ n) j | inr j ↦ in_right x l (m ++ n) (in_right x m n j) ] ] }

pub alike_turn : (l m : List ℕ) → Alike (l ++ m) (m ++ l)
alike_turn l m = record { to = λ x h. elim (in_both x l m h) [ inl i ↦ in_right x m l i | inr i ↦ in_left x m l i ]; from = λ x h. elim (in_both x m l h) [ inl i ↦ in_right x l m i | inr i ↦ in_left x l m i ] }

pub alike_then : {l m n : List ℕ} → Alike l m → Alike m n → Alike l n
alike_then a b = record { to = λ x h. b.to x (a.to x h); from = λ x h. a.from x (b.from x h) }

pub alike_same : {l m : List ℕ} → l ≡ m → Alike l m
alike_same {l} {m} e = record { to = λ x h. subst (In x) e h; from = λ x h. subst (In x) (sym e) h }

pub alike_behind : (l m n : List ℕ) → Alike m n → Alike (l ++ m) (l ++ n)
alike_behind l m n a = record { to = λ x h. elim (in_both x l m h) [ inl i ↦ in_left x l n i | inr i ↦ in_right x l n (a.to x i) ]; from = λ x h. elim (in_both x l n h) [ inl i ↦ in_left x l m i | inr i ↦ in_right x l m (a.from x i) ] }

-- one fault or another
pub alike_or : (n : ℕ) (a b : Bool) (l : List ℕ) → Alike (fault n a ++ (fault n b ++ l)) (fault n (a || b) ++ l)
alike_or n true b l = record { to = λ x h. elim h [ inl e ↦ inl e | inr i ↦ elim (in_both x (fault n b) l i) [ inl j ↦ one b j | inr j ↦ inr j ] ]; from = λ x h. elim h [ inl e ↦ inl e | inr i ↦ inr (in_right x (fault n b) l i) ] }
  where
    one : (c : Bool) {x : ℕ} → In x (fault n c) → In x (n ∷ l)
    one true (inl e) = inl e
    one true (inr z) = absurd z
    one false z = absurd z
alike_or n false b l = record { to = λ x h. h; from = λ x h. h }
