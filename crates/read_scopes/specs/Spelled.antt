-- Names by their numbers and names as they are spelled: places, repetitions and searches agree where w spells the numbers
-- concerned apart. Assumes nothing.
use Rattle.std.specs.Prelude.{◌≡◌, refl, List, [], ◌∷◌, map, Bool, true, false, ◌&&◌, ◌||◌, ℕ, zero, suc, ◌+◌, ◌*◌, ◌/◌, ◌<◌, ◌≤◌, eqb, length, get_or, take}
use Rattle.std.proofs.Common.{ap, ap₂, sym, ◌∙◌, inl, inr, arith, eqb-true, eq-eqb}
use Rattle.std.proofs.Math.Option.{Option, some, none}
use Rattle.std.proofs.lemmas.Bool.{eqb-false}
use Rattle.constraint.specs.Constraint.{In}
use Rattle.akl.proofs.Names.{same_refl, same_eq}
use Rattle.akl.specs.Base.{Name, same, any, repeats, first, last, if, ◌>>=◌}
use Rattle.akl.specs.Base as akl
use Rattle.read_lookups.specs.Places.{ids, behind, place, among, repeated}
use Rattle.read_scopes.specs.Scopes.{Bound}
use Rattle.read_lookups.specs.Finding.{FirstAt, FoundAt}
use Rattle.std.specs.Prelude as std
use Rattle.read_lookups.specs.declared.Variable.{Variable}

-- w spells x otherwise than each other number of l
abbrev pub Own : (ℕ → Name) → ℕ → List ℕ → Type 0
Own w x l = (y : ℕ) → In y l → w x ≡ w y → x ≡ y

-- a place as a position
abbrev pub position : ℕ → Option ℕ
position zero = none
position (suc n) = some n

-- two numbers that w spells apart
same_name : (w : ℕ → Name) (x y : ℕ) → (w x ≡ w y → x ≡ y) → same (w x) (w y) ≡ eqb x y
same_name w x y h = go (eqb x y) refl (same (w x) (w y)) refl
  where
    go : (b : Bool) → eqb x y ≡ b → (s : Bool) → same (w x) (w y) ≡ s → s ≡ b
    go true e true f = refl
    go false e false f = refl
    go true e false f = sym f ∙ ap (λ (z : ℕ). same (w x) (w z)) (sym (eqb-true x y e)) ∙ same_refl (w x)
    go false e true f = absurd (eqb-false x y e (h (same_eq (w x) (w y) f)))

pub among_names : (w : ℕ → Name) (x : ℕ) (l : List ℕ) → Own w x l → akl.among (w x) (map w l) ≡ among x l
unfolding among akl.among any
among_names w x [] h = refl
among_names w x (y ∷ l) h = ap₂ ◌||◌ (same_name w x y (h y (inl refl))) (among_names w x l (λ z i. h z (inr i)))

pub repeated_names : (w : ℕ → Name) (l : List ℕ) → ((x : ℕ) → In x l → Own w x l) → repeats (map w l) ≡ repeated l
unfolding repeated repeats
repeated_names w [] h = refl
repeated_names w (x ∷ l) h = ap₂ ◌||◌ (among_names w x l (λ y i. h x (inl refl) y (inr i))) (repeated_names w l (λ y i z k. h y (inr i) z (inr k)))

pub place_last : (w : ℕ → Name) (x : ℕ) (E : List ℕ) → Own w x E → last (w x) (map w E) ≡ position (place x E)
unfolding place last
place_last w x [] h = refl
place_last w x (y ∷ l) h = go (last (w x) (map w l)) (place x l) (place_last w x l (λ z i. h z (inr i))) (same (w x) (w y)) (eqb x y) (same_name w x y (h y (inl refl)))
  where
    go : (o : Option ℕ) (n : ℕ) → o ≡ position n → (s b : Bool) → s ≡ b → elim o [ none ↦ if s (some 0) none | some i ↦ some (suc i) ] ≡ position (behind n b)
    go o zero e s true q = ap₂ (λ (o : Option ℕ) (s : Bool). elim o [ none ↦ if s (some 0) none | some i ↦ some (suc i) ]) e q
    go o zero e s false q = ap₂ (λ (o : Option ℕ) (s : Bool). elim o [ none ↦ if s (some 0) none | some i ↦ some (suc i) ]) e q
    go o (suc n) e s b q = ap (λ (o : Option ℕ). elim o [ none ↦ if s (some 0) none | some i ↦ some (suc i) ]) e

-- what the table says of a name
pub level_last : (w : ℕ → Name) (x : ℕ) {B E : List ℕ} → Bound B E → x < length B → Own w x E → last (w x) (map w E) ≡ position (get_or B x 0)
level_last w x {B} {E} b h o = place_last w x E o ∙ ap position (sym (b.each x h))

-- where a number of a list stands
pub in_take : (y : ℕ) (O : List ℕ) (k : ℕ) → In y (take k O) → (j : ℕ) × (j < k) × (j < length O) × (get_or O j 0 ≡ y)
in_take y [] zero h = absurd h
in_take y [] (suc k) h = absurd h
in_take y (x ∷ O) zero h = absurd h
in_take y (x ∷ O) (suc k) (inl e) = (0, omega arith, omega arith, sym e)
in_take y (x ∷ O) (suc k) (inr h) = let q = in_take y O k h in (suc q.0, omega (arith, q.1), omega (arith, q.2), q.3)

pub in_ids : (y : ℕ) (m : ℕ) (L : List ℕ) (i : ℕ) → In y (ids L m i) → (j : ℕ) × (j < m) × (get_or L (i + 2 * j) 0 / 256 ≡ y)
unfolding ids
in_ids y zero L i h = absurd h
in_ids y (suc m) L i (inl e) = let z : i + 2 * 0 ≡ i = omega arith in (0, omega arith, ap (λ (k : ℕ). get_or L k 0 / 256) z ∙ sym e)
in_ids y (suc m) L i (inr h) =
    let q = in_ids y m L (i + 2) h in
    let z : i + 2 * suc q.0 ≡ i + 2 + 2 * q.0 = omega arith in
    (suc q.0, omega (arith, q.1), ap (λ (k : ℕ). get_or L k 0 / 256) z ∙ q.2)

-- the first position
pub found_first : (w : ℕ → Name) (O : List ℕ) (k x i : ℕ) → k ≤ length O → FirstAt O k x i → Own w x (take k O) → first (w x) (map w (take k O)) ≡ some i
unfolding first
found_first w [] k x i h f o = absurd (omega (arith, f.inside))
found_first w (y ∷ O) zero x i h f o = absurd (omega (arith, f.inside))
found_first w (y ∷ O) (suc k) x zero h f o = ap (λ (b : Bool). if b (some 0) (first (w x) (map w (take k O)) >>= λ j. some (suc j))) (ap (λ (z : ℕ). same (w x) (w z)) f.is ∙ same_refl (w x))
found_first w (y ∷ O) (suc k) x (suc i) h f o =
    ap₂ (λ (b : Bool) (r : Option ℕ). if b (some 0) (r >>= λ j. some (suc j)))
    (apart w x y (λ e. f.earlier 0 (omega arith) e) (o y (inl refl)))
    (found_first w O k x i (omega arith) (record { inside = omega (arith, f.inside); is = f.is; earlier = λ j l e. f.earlier (suc j) (omega arith) e }) (λ z q. o z (inr q)))
  where
    apart : (w : ℕ → Name) (x y : ℕ) → (y ≡ x → ⊥) → (w x ≡ w y → x ≡ y) → same (w x) (w y) ≡ false
    apart w x y n h = same_name w x y h ∙ go (eqb x y) refl
      where
        go : (b : Bool) → eqb x y ≡ b → b ≡ false
        go true e = absurd (n (sym (eqb-true x y e)))
        go false e = refl

pub absent_first : (w : ℕ → Name) (O : List ℕ) (k x : ℕ) → k ≤ length O → ((j : ℕ) → j < k → get_or O j 0 ≡ x → ⊥) → Own w x (take k O) → first (w x) (map w (take k O)) ≡ none
unfolding first
absent_first w O zero x h n o = refl
absent_first w [] (suc k) x h n o = absurd (omega arith)
absent_first w (y ∷ O) (suc k) x h n o =
    ap₂ (λ (b : Bool) (r : Option ℕ). if b (some 0) (r >>= λ j. some (suc j)))
    (same_name w x y (o y (inl refl)) ∙ go (eqb x y) refl)
    (absent_first w O k x (omega arith) (λ j l e. n (suc j) (omega arith) e) (λ z q. o z (inr q)))
  where
    go : (b : Bool) → eqb x y ≡ b → b ≡ false
    go true e = absurd (n 0 (omega arith) (sym (eqb-true x y e)))
    go false e = refl

-- the answer of a search, as a position
abbrev pub answer : std.Option Variable → Option ℕ
answer (std.Some v) = some v.0
answer std.None = none

pub number_first : (w : ℕ → Name) (O : List ℕ) (k x : ℕ) (r : std.Option Variable) → k ≤ length O → FoundAt O k x r → Own w x (take k O) → first (w x) (map w (take k O)) ≡ answer r
number_first w O k x (std.Some v) h f o = found_first w O k x v.0 h f o
number_first w O k x std.None h f o = absent_first w O k x h f o
