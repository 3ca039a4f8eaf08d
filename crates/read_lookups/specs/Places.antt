-- Lists of names, by their numbers: the names of a list of tokens, the place of a name, and names that are there twice.
-- Assumes nothing.
use Rattle.std.specs.Prelude.{◌≡◌, refl, List, [], ◌∷◌, ◌++◌, Bool, true, false, ◌||◌, ℕ, zero, suc, ◌+◌, ◌*◌, ◌/◌, ◌<◌, ◌≤◌, eqb, length, get_or, take}
use Rattle.std.proofs.Common.{ap, ap₂, sym, ◌∙◌, add-one, arith, take-suc, eqb-true, eq-eqb, ne_eqb}
use Rattle.std.proofs.lemmas.Bool.{eqb-false}

-- the names at every second token from i on, so many
unfoldable pub ids : List ℕ → ℕ → ℕ → List ℕ
ids L zero i = []
ids L (suc m) i = get_or L i 0 / 256 ∷ ids L m (i + 2)

-- a place among the names behind, or that of the first name if it is the one, or none
abbrev pub behind : ℕ → Bool → ℕ
behind zero true = 1
behind zero false = 0
behind (suc n) b = suc (suc n)

-- 1 + the position of the last x, or 0
unfoldable pub place : ℕ → List ℕ → ℕ
place x [] = 0
place x (y ∷ l) = behind (place x l) (eqb x y)

unfoldable pub among : ℕ → List ℕ → Bool
among x [] = false
among x (y ∷ l) = eqb x y || among x l

-- some name is there twice
unfoldable pub repeated : List ℕ → Bool
repeated [] = false
repeated (x ∷ l) = among x l || repeated l

-- ---------------------------------------------------------------------------------------------
-- The names of a list.

pub ids_none : (L : List ℕ) (i : ℕ) → ids L 0 i ≡ []
unfolding ids
ids_none L i = refl

pub length_ids : (L : List ℕ) (m i : ℕ) → length (ids L m i) ≡ m
unfolding ids
length_ids L zero i = refl
length_ids L (suc m) i = ap suc (length_ids L m (i + 2))

ids_suc : (m : ℕ) (L : List ℕ) (i : ℕ) → ids L (suc m) i ≡ ids L m i ++ ((get_or L (i + 2 * m) 0 / 256) ∷ [])
unfolding ids
ids_suc zero L i = let z : i ≡ i + 2 * 0 = omega arith in ap (λ (j : ℕ). (get_or L j 0 / 256) ∷ []) z
ids_suc (suc m) L i =
    let z : i + 2 + 2 * m ≡ i + 2 * suc m = omega arith in
    ap (λ (l : List ℕ). (get_or L i 0 / 256) ∷ l) (ids_suc m L (i + 2) ∙ ap (λ (j : ℕ). ids L m (i + 2) ++ ((get_or L j 0 / 256) ∷ [])) z)

-- one name more
pub ids_more : (L : List ℕ) (m i : ℕ) → ids L (m + 1) i ≡ ids L m i ++ ((get_or L (i + 2 * m) 0 / 256) ∷ [])
ids_more L m i = ap (λ (k : ℕ). ids L k i) (add-one m) ∙ ids_suc m L i

-- past the end any small code has the same name
pub name_default : (L : List ℕ) (i d : ℕ) → d < 256 → get_or L i d / 256 ≡ get_or L i 0 / 256
name_default [] i d h = omega arith
name_default (x ∷ L) zero d h = refl
name_default (x ∷ L) (suc i) d h = name_default L i d h

-- ---------------------------------------------------------------------------------------------
-- Places.

behind_le : (n : ℕ) (b : Bool) → behind n b ≤ suc n
behind_le zero true = omega arith
behind_le zero false = omega arith
behind_le (suc n) b = omega arith

behind_some : (n : ℕ) (b : Bool) → 0 < n → behind n b ≡ suc n
behind_some zero b h = absurd (omega arith)
behind_some (suc n) b h = refl

pub place_none : (x : ℕ) → place x [] ≡ 0
unfolding place
place_none x = refl

pub place_le : (x : ℕ) (l : List ℕ) → place x l ≤ length l
unfolding place
place_le x [] = omega arith
place_le x (y ∷ l) = let a = place_le x l in let b = behind_le (place x l) (eqb x y) in omega arith

-- one name more: it has the last place, and the others keep theirs
pub place_new : (x : ℕ) (l : List ℕ) → place x (l ++ (x ∷ [])) ≡ suc (length l)
unfolding place
place_new x [] = ap (behind 0) (eq-eqb x x refl)
place_new x (y ∷ l) = ap (λ (n : ℕ). behind n (eqb x y)) (place_new x l)

pub place_old : (x y : ℕ) (l : List ℕ) → (x ≡ y → ⊥) → place x (l ++ (y ∷ [])) ≡ place x l
unfolding place
place_old x y [] h = ap (behind 0) (ne_eqb x y h)
place_old x y (z ∷ l) h = ap (λ (n : ℕ). behind n (eqb x z)) (place_old x y l h)

place_some : (x : ℕ) (l : List ℕ) → among x l ≡ true → 0 < place x l
unfolding place among
place_some x [] e = absurd (let z : ◌≡◌ {A = ℕ} 0 1 = cc in omega arith)
place_some x (y ∷ l) e = go (eqb x y) (place x l) e (place_some x l)
  where
    go : (b : Bool) (n : ℕ) → b || among x l ≡ true → (among x l ≡ true → 0 < n) → 0 < behind n b
    go true zero e f = omega arith
    go true (suc n) e f = omega arith
    go false zero e f = f e
    go false (suc n) e f = omega arith

place_zero : (x : ℕ) (l : List ℕ) → among x l ≡ false → place x l ≡ 0
unfolding place among
place_zero x [] e = refl
place_zero x (y ∷ l) e = go (eqb x y) e (place_zero x l)
  where
    go : (b : Bool) → b || among x l ≡ false → (among x l ≡ false → place x l ≡ 0) → behind (place x l) b ≡ 0
    go true e f = absurd (let z : ◌≡◌ {A = ℕ} 0 1 = cc in omega arith)
    go false e f = ap (λ (n : ℕ). behind n false) (f e)

-- a name's place tells whether it is among the last names
pub place_inner : (x : ℕ) (E F : List ℕ) → among x F ≡ true → length E < place x (E ++ F)
unfolding place
place_inner x [] F e = place_some x F e
place_inner x (y ∷ E) F e =
    let a = place_inner x E F e in
    let b = behind_some (place x (E ++ F)) (eqb x y) (omega arith) in
    omega arith

pub place_outer : (x : ℕ) (E F : List ℕ) → among x F ≡ false → place x (E ++ F) ≤ length E
unfolding place
place_outer x [] F e = let a = place_zero x F e in omega arith
place_outer x (y ∷ E) F e = let a = place_outer x E F e in let b = behind_le (place x (E ++ F)) (eqb x y) in omega arith

pub inner_among : (x : ℕ) (E F : List ℕ) → length E < place x (E ++ F) → among x F ≡ true
inner_among x E F h = go (among x F) refl
  where
    go : (b : Bool) → among x F ≡ b → among x F ≡ true
    go true e = e
    go false e = let a = place_outer x E F e in absurd (omega arith)

pub outer_among : (x : ℕ) (E F : List ℕ) → place x (E ++ F) ≤ length E → among x F ≡ false
outer_among x E F h = go (among x F) refl
  where
    go : (b : Bool) → among x F ≡ b → among x F ≡ false
    go true e = let a = place_inner x E F e in absurd (omega arith)
    go false e = e

-- ---------------------------------------------------------------------------------------------
-- Names among others.

eqb_sym : (x y : ℕ) → eqb x y ≡ eqb y x
eqb_sym x y = go (eqb x y) refl
  where
    go : (b : Bool) → eqb x y ≡ b → eqb x y ≡ eqb y x
    go true e = e ∙ sym (eq-eqb y x (sym (eqb-true x y e)))
    go false e = e ∙ sym (ne_eqb y x (λ q. eqb-false x y e (sym q)))

or_comm : (a b : Bool) → a || b ≡ b || a
or_comm true true = refl
or_comm true false = refl
or_comm false true = refl
or_comm false false = refl

or_swap : (a b c d : Bool) → (a || b) || (c || d) ≡ (b || c) || (a || d)
or_swap true true c d = refl
or_swap true false true d = refl
or_swap true false false d = refl
or_swap false true c d = refl
or_swap false false true d = refl
or_swap false false false d = refl

among_snoc : (x y : ℕ) (l : List ℕ) → among x (l ++ (y ∷ [])) ≡ among x l || eqb x y
unfolding among
among_snoc x y [] = or_comm (eqb x y) false
among_snoc x y (z ∷ l) = ap (λ (b : Bool). eqb x z || b) (among_snoc x y l) ∙ or_assoc (eqb x z) (among x l) (eqb x y)
  where
    or_assoc : (a b c : Bool) → a || (b || c) ≡ (a || b) || c
    or_assoc true b c = refl
    or_assoc false b c = refl

-- one name more
pub repeated_more : (x : ℕ) (l : List ℕ) → repeated (l ++ (x ∷ [])) ≡ among x l || repeated l
unfolding repeated among
repeated_more x [] = refl
repeated_more x (y ∷ l) =
    ap₂ ◌||◌ (among_snoc y x l) (repeated_more x l)
    ∙ or_swap (among y l) (eqb y x) (among x l) (repeated l)
    ∙ ap (λ (b : Bool). (b || among x l) || (among y l || repeated l)) (eqb_sym y x)

pub repeated_none : repeated [] ≡ false
unfolding repeated
repeated_none = refl

-- a search from the front
pub among_none : (x : ℕ) (D : List ℕ) → among x (take 0 D) ≡ false
unfolding among
among_none x D = refl

pub among_past : (x : ℕ) (D : List ℕ) (i : ℕ) → i < length D → among x (take i D) ≡ false → (get_or D i 0 ≡ x → ⊥) → among x (take (i + 1) D) ≡ false
among_past x D i h a n =
    ap (λ (k : ℕ). among x (take k D)) (add-one i)
    ∙ ap (among x) (take-suc D i 0 h)
    ∙ among_snoc x (get_or D i 0) (take i D)
    ∙ ap₂ ◌||◌ a (ne_eqb x (get_or D i 0) (λ e. n (sym e)))

pub among_at : (x : ℕ) (D : List ℕ) (k i : ℕ) → i < k → k ≤ length D → get_or D i 0 ≡ x → among x (take k D) ≡ true
unfolding among
among_at x [] k i g h e = absurd (omega arith)
among_at x (y ∷ D) zero i g h e = absurd (omega arith)
among_at x (y ∷ D) (suc k) zero g h e = ap (λ (b : Bool). b || among x (take k D)) (eq-eqb x y (sym e))
among_at x (y ∷ D) (suc k) (suc i) g h e = ap (λ (b : Bool). eqb x y || b) (among_at x D k i (omega arith) (omega arith) e) ∙ or_comm (eqb x y) true
