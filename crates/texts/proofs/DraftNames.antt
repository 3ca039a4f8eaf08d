-- The names of levels and numbers in a draft: spelled as variables, each its own, and found where they are looked up.
use mathlib.Core.Path.{◌≡◌, refl, ap, sym, ◌∙◌, subst}
use mathlib.Core.Logic.{◌⊎◌, inl, inr}
use mathlib.Core.List.{List, [], ◌∷◌, ◌++◌, map, tail-eq_of_cons-eq}
use mathlib.Core.Bool.{Bool, true, false}
use mathlib.Core.Option.{Option, some, none}
use Prim.Native.Nat.{ℕ, zero, suc, ◌+◌, ◌/◌, ◌%◌, ◌≤◌, ◌<◌}
use native.Mathlib.Omega.{arith}
use lib.Dec.{T, leb}
use Rattle.constraint.proofs.Lists.{and_T, or_T}
use Rattle.akl.specs.Base.{Name, size, same, among, any, all, repeats, first, last, range, if, ◌>>=◌}
use Rattle.akl.specs.Limits.{name_bytes}
use Rattle.akl.specs.Token.{class_of, word_class}
use Rattle.akl.specs.WellFormed.{spelled_variable}
use Rattle.texts.specs.Spelled.{Variables}
use Rattle.texts.specs.Draft.{low_digits, level_name, number_name, power, most_names, level_names, number_names}
use Rattle.akl.proofs.Names.{same_eq_T as same_eq, same_refl_T as same_refl}
use Rattle.theory.proofs.Locals.{size_map, size_range}

-- ---------------------------------------------------------------------------------------------
-- Spelling.

digit_word : (d : ℕ) → d < 10 → T (word_class (class_of (48 + d)))
unfolding class_of
digit_word zero l = tt
digit_word (suc zero) l = tt
digit_word (suc (suc zero)) l = tt
digit_word (suc (suc (suc zero))) l = tt
digit_word (suc (suc (suc (suc zero)))) l = tt
digit_word (suc (suc (suc (suc (suc zero))))) l = tt
digit_word (suc (suc (suc (suc (suc (suc zero)))))) l = tt
digit_word (suc (suc (suc (suc (suc (suc (suc zero))))))) l = tt
digit_word (suc (suc (suc (suc (suc (suc (suc (suc zero)))))))) l = tt
digit_word (suc (suc (suc (suc (suc (suc (suc (suc (suc zero))))))))) l = tt
digit_word (suc (suc (suc (suc (suc (suc (suc (suc (suc (suc d)))))))))) l = absurd (omega arith)

digits_words : (w x : ℕ) → T (all (λ c. word_class (class_of c)) (low_digits w x))
unfolding low_digits all
digits_words zero x = tt
digits_words (suc w) x = (and_T (word_class (class_of (48 + x % 10))) (all (λ c. word_class (class_of c)) (low_digits w (x / 10)))).1 (digit_word (x % 10) (omega arith), digits_words w (x / 10))

digits_size : (w x : ℕ) → size (low_digits w x) ≡ w
unfolding low_digits size
digits_size zero x = refl
digits_size (suc w) x = ap suc (digits_size w (x / 10))

digits_own : (w x y : ℕ) → x < power w → y < power w → low_digits w x ≡ low_digits w y → x ≡ y
unfolding low_digits power
digits_own zero x y a b e = omega arith
digits_own (suc w) x y a b e =
    let h : 48 + x % 10 ≡ 48 + y % 10 = cc e in
    let t : low_digits w (x / 10) ≡ low_digits w (y / 10) = cc e in
    let q = digits_own w (x / 10) (y / 10) (omega arith) (omega arith) t in
    omega arith

pub level_spelled : (l : ℕ) → T (spelled_variable (level_name l))
unfolding spelled_variable level_name class_of all size
level_spelled l = (and_T (all (λ c. word_class (class_of c)) (low_digits 31 l)) (leb (suc (size (low_digits 31 l))) name_bytes)).1 (digits_words 31 l, subst (λ k. T (leb (suc k) name_bytes)) (sym (digits_size 31 l)) tt)

pub number_spelled : (x : ℕ) → T (spelled_variable (number_name x))
unfolding spelled_variable number_name class_of all size
number_spelled x = (and_T (all (λ c. word_class (class_of c)) (low_digits 31 x)) (leb (suc (size (low_digits 31 x))) name_bytes)).1 (digits_words 31 x, subst (λ k. T (leb (suc k) name_bytes)) (sym (digits_size 31 x)) tt)

level_own : (x y : ℕ) → x < most_names → y < most_names → T (same (level_name x) (level_name y)) → x ≡ y
unfolding level_name most_names
level_own x y a b t = digits_own 31 x y a b (tail-eq_of_cons-eq (same_eq (level_name x) (level_name y) t))

number_own : (x y : ℕ) → x < most_names → y < most_names → T (same (number_name x) (number_name y)) → x ≡ y
unfolding number_name most_names
number_own x y a b t = digits_own 31 x y a b (tail-eq_of_cons-eq (same_eq (number_name x) (number_name y) t))

-- no number is named as a level
number_no_level : (x l : ℕ) → T (same (number_name x) (level_name l)) → ⊥
unfolding number_name level_name same
number_no_level x l t = t

-- ---------------------------------------------------------------------------------------------
-- Lists of names.

last_none : (x : Name) (l : List Name) → (T (among x l) → ⊥) → last x l ≡ none
unfolding last among any
last_none x [] n = refl
last_none x (y ∷ l) n = go (same x y) (λ t. n ((or_T (same x y) (any (same x) l)).1 (inl t))) (last x l) (last_none x l (λ t. n ((or_T (same x y) (any (same x) l)).1 (inr t))))
  where
    go : (b : Bool) → (T b → ⊥) → (o : Option ℕ) → o ≡ none → ◌≡◌ {A = Option ℕ} (elim o as (λ z. Option ℕ) [ none ↦ if b (some 0) none | some i ↦ some (suc i) ]) none
    go true m o e = absurd (m tt)
    go false m o e = ap (λ (p : Option ℕ). elim p as (λ z. Option ℕ) [ none ↦ none | some i ↦ some (suc i) ]) e

-- a level's name is one of those from n only if it is one of them
level_among : (m n l : ℕ) → l < most_names → n + m ≤ most_names → T (among (level_name l) (level_names n m)) → n ≤ l
unfolding level_names range among any
level_among zero n l a b t = absurd t
level_among (suc m) n l a b t = go ((or_T (same (level_name l) (level_name n)) (any (same (level_name l)) (map level_name (range (suc n) m)))).0 t) (λ u. level_among m (suc n) l a (omega arith) u)
  where
    go : T (same (level_name l) (level_name n)) ⊎ T (any (same (level_name l)) (map level_name (range (suc n) m))) → (T (any (same (level_name l)) (map level_name (range (suc n) m))) → suc n ≤ l) → n ≤ l
    go (inl u) ih = let e = level_own l n a (omega arith) u in omega arith
    go (inr u) ih = omega (arith, ih u)

number_not_among : (m n x : ℕ) → T (among (number_name x) (level_names n m)) → ⊥
unfolding level_names range among any
number_not_among zero n x t = t
number_not_among (suc m) n x t = go ((or_T (same (number_name x) (level_name n)) (any (same (number_name x)) (map level_name (range (suc n) m)))).0 t) (λ u. number_not_among m (suc n) x u)
  where
    go : T (same (number_name x) (level_name n)) ⊎ T (any (same (number_name x)) (map level_name (range (suc n) m))) → (T (any (same (number_name x)) (map level_name (range (suc n) m))) → ⊥) → ⊥
    go (inl u) ih = number_no_level x n u
    go (inr u) ih = ih u

pub levels_differ : (m n : ℕ) → n + m ≤ most_names → T (repeats (level_names n m)) → ⊥
unfolding level_names range repeats
levels_differ zero n b t = t
levels_differ (suc m) n b t = go ((or_T (among (level_name n) (map level_name (range (suc n) m))) (repeats (map level_name (range (suc n) m)))).0 t) (λ u. levels_differ m (suc n) (omega arith) u)
  where
    out : T (among (level_name n) (level_names (suc n) m)) → ⊥
    out u = let h = level_among m (suc n) n (omega arith) (omega arith) u in omega arith

    go : T (among (level_name n) (map level_name (range (suc n) m))) ⊎ T (repeats (map level_name (range (suc n) m))) → (T (repeats (map level_name (range (suc n) m))) → ⊥) → ⊥
    go (inl u) ih = out u
    go (inr u) ih = ih u

-- the level at position i
level_at : (m n i : ℕ) → i < m → n + m ≤ most_names → last (level_name (n + i)) (level_names n m) ≡ some i
unfolding level_names range last
level_at zero n i l b = absurd (omega arith)
level_at (suc m) n zero l b = here (last (level_name (n + 0)) (level_names (suc n) m)) (last_none (level_name (n + 0)) (level_names (suc n) m) out) (same (level_name (n + 0)) (level_name n)) (subst (λ k. T (same (level_name k) (level_name n))) same_place (same_refl (level_name n)))
  where
    same_place : n ≡ n + 0
    same_place = omega arith

    out : T (among (level_name (n + 0)) (level_names (suc n) m)) → ⊥
    out u = let h = level_among m (suc n) (n + 0) (omega arith) (omega arith) u in omega arith

    here : (o : Option ℕ) → o ≡ none → (b : Bool) → T b → ◌≡◌ {A = Option ℕ} (elim o as (λ z. Option ℕ) [ none ↦ if b (some 0) none | some j ↦ some (suc j) ]) (some 0)
    here o e false t = elim t [ ]
    here o e true t = ap (λ (p : Option ℕ). elim p as (λ z. Option ℕ) [ none ↦ some 0 | some j ↦ some (suc j) ]) e
level_at (suc m) n (suc i) l b = there (last (level_name (n + suc i)) (level_names (suc n) m)) (subst (λ k. last (level_name k) (level_names (suc n) m) ≡ some i) next (level_at m (suc n) i (omega arith) (omega arith)))
  where
    next : suc n + i ≡ n + suc i
    next = omega arith

    there : (o : Option ℕ) → o ≡ some i → ◌≡◌ {A = Option ℕ} (elim o as (λ z. Option ℕ) [ none ↦ if (same (level_name (n + suc i)) (level_name n)) (some 0) none | some j ↦ some (suc j) ]) (some (suc i))
    there o e = ap (λ (p : Option ℕ). elim p as (λ z. Option ℕ) [ none ↦ if (same (level_name (n + suc i)) (level_name n)) (some 0) none | some j ↦ some (suc j) ]) e

pub level_found : (n l : ℕ) → l < n → n ≤ most_names → last (level_name l) (level_names 0 n) ≡ some l
level_found n l a b = subst (λ k. last (level_name k) (level_names 0 n) ≡ some l) here (level_at n 0 l a (omega arith))
  where
    here : 0 + l ≡ l
    here = omega arith

-- .. and it is one of them
level_one_of : (m n i : ℕ) → i < m → T (among (level_name (n + i)) (level_names n m))
unfolding level_names range among any
level_one_of zero n i l = absurd (omega arith)
level_one_of (suc m) n zero l = (or_T (same (level_name (n + 0)) (level_name n)) (any (same (level_name (n + 0))) (map level_name (range (suc n) m)))).1 (inl (subst (λ k. T (same (level_name k) (level_name n))) here (same_refl (level_name n))))
  where
    here : n ≡ n + 0
    here = omega arith
level_one_of (suc m) n (suc i) l = (or_T (same (level_name (n + suc i)) (level_name n)) (any (same (level_name (n + suc i))) (map level_name (range (suc n) m)))).1 (inr (subst (λ k. T (any (same (level_name k)) (map level_name (range (suc n) m)))) next (level_one_of m (suc n) i (omega arith))))
  where
    next : suc n + i ≡ n + suc i
    next = omega arith

pub level_in : (n l : ℕ) → l < n → T (among (level_name l) (level_names 0 n))
level_in n l a = subst (λ k. T (among (level_name k) (level_names 0 n))) here (level_one_of n 0 l a)
  where
    here : 0 + l ≡ l
    here = omega arith

pub number_not_found : (n x : ℕ) → last (number_name x) (level_names 0 n) ≡ none
number_not_found n x = last_none (number_name x) (level_names 0 n) (number_not_among n 0 x)

number_at : (m n i : ℕ) → i < m → n + m ≤ most_names → first (number_name (n + i)) (map number_name (range n m)) ≡ some i
unfolding range first
number_at zero n i l b = absurd (omega arith)
number_at (suc m) n zero l b = here (same (number_name (n + 0)) (number_name n)) (subst (λ k. T (same (number_name k) (number_name n))) same_place (same_refl (number_name n)))
  where
    same_place : n ≡ n + 0
    same_place = omega arith

    here : (b : Bool) → T b → if b (some 0) (first (number_name (n + 0)) (map number_name (range (suc n) m)) >>= λ j. some (suc j)) ≡ some 0
    here false t = elim t [ ]
    here true t = refl
number_at (suc m) n (suc i) l b = there (same (number_name (n + suc i)) (number_name n)) other (subst (λ k. first (number_name k) (map number_name (range (suc n) m)) ≡ some i) next (number_at m (suc n) i (omega arith) (omega arith)))
  where
    next : suc n + i ≡ n + suc i
    next = omega arith

    other : T (same (number_name (n + suc i)) (number_name n)) → ⊥
    other t = let e = number_own (n + suc i) n (omega arith) (omega arith) t in omega arith

    there : (c : Bool) → (T c → ⊥) → first (number_name (n + suc i)) (map number_name (range (suc n) m)) ≡ some i → if c (some 0) (first (number_name (n + suc i)) (map number_name (range (suc n) m)) >>= λ j. some (suc j)) ≡ some (suc i)
    there true k e = absurd (k tt)
    there false k e = ap (λ o. o >>= λ j. some (suc j)) e

pub number_found : (n x : ℕ) → x < n → n ≤ most_names → first (number_name x) (number_names n) ≡ some x
unfolding number_names
number_found n x a b = subst (λ k. first (number_name k) (map number_name (range 0 n)) ≡ some x) here (number_at n 0 x a (omega arith))
  where
    here : 0 + x ≡ x
    here = omega arith

-- The names bound by n variables and those of a hidden list of m within.
pub levels_join : (n a m : ℕ) → level_names a n ++ level_names (a + n) m ≡ level_names a (n + m)
unfolding level_names range
levels_join zero a m = λ i. map level_name (range (here i) (none_more i))
  where
    here : a + 0 ≡ a
    here = omega arith

    none_more : m ≡ 0 + m
    none_more = omega arith
levels_join (suc n) a m = ap (λ (l : List Name). level_name a ∷ l) ((λ i. map level_name (range (suc a) n) ++ map level_name (range (next i) m)) ∙ levels_join n (suc a) m) ∙ ap (λ k. map level_name (range a k)) one_more
  where
    next : a + suc n ≡ suc a + n
    next = omega arith

    one_more : suc (n + m) ≡ suc n + m
    one_more = omega arith

pub levels_within : (n m : ℕ) → level_names 0 n ++ level_names n m ≡ level_names 0 (n + m)
levels_within n m = subst (λ k. level_names 0 n ++ level_names k m ≡ level_names 0 (n + m)) here (levels_join n 0 m)
  where
    here : 0 + n ≡ n
    here = omega arith

pub levels_size : (n m : ℕ) → size (level_names n m) ≡ m
unfolding level_names
levels_size n m = size_map level_name (range n m) ∙ size_range n m

pub numbers_size : (n : ℕ) → size (number_names n) ≡ n
unfolding number_names
numbers_size n = size_map number_name (range 0 n) ∙ size_range 0 n

pub levels_spelled : (m n : ℕ) → Variables (level_names n m)
unfolding level_names range
levels_spelled zero n = tt
levels_spelled (suc m) n = (level_spelled n, levels_spelled m (suc n))

pub numbers_spelled : (m n : ℕ) → Variables (map number_name (range n m))
unfolding range
numbers_spelled zero n = tt
numbers_spelled (suc m) n = (number_spelled n, numbers_spelled m (suc n))

number_among : (m n l : ℕ) → l < most_names → n + m ≤ most_names → T (among (number_name l) (map number_name (range n m))) → n ≤ l
unfolding range among any
number_among zero n l a b t = absurd t
number_among (suc m) n l a b t = go ((or_T (same (number_name l) (number_name n)) (any (same (number_name l)) (map number_name (range (suc n) m)))).0 t) (λ u. number_among m (suc n) l a (omega arith) u)
  where
    go : T (same (number_name l) (number_name n)) ⊎ T (any (same (number_name l)) (map number_name (range (suc n) m))) → (T (any (same (number_name l)) (map number_name (range (suc n) m))) → suc n ≤ l) → n ≤ l
    go (inl u) ih = let e = number_own l n a (omega arith) u in omega arith
    go (inr u) ih = omega (arith, ih u)

pub numbers_differ : (m n : ℕ) → n + m ≤ most_names → T (repeats (map number_name (range n m))) → ⊥
unfolding range repeats
numbers_differ zero n b t = t
numbers_differ (suc m) n b t = go ((or_T (among (number_name n) (map number_name (range (suc n) m))) (repeats (map number_name (range (suc n) m)))).0 t) (λ u. numbers_differ m (suc n) (omega arith) u)
  where
    out : T (among (number_name n) (map number_name (range (suc n) m))) → ⊥
    out u = let h = number_among m (suc n) n (omega arith) (omega arith) u in omega arith

    go : T (among (number_name n) (map number_name (range (suc n) m))) ⊎ T (repeats (map number_name (range (suc n) m))) → (T (repeats (map number_name (range (suc n) m))) → ⊥) → ⊥
    go (inl u) ih = out u
    go (inr u) ih = ih u
