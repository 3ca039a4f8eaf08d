-- Positions of places are in the order of the places' numbers.
use mathlib.Core.Path.{◌≡◌, refl, ap, sym}
use mathlib.Core.Bool.{Bool, true, false}
use mathlib.Core.List.{List, [], ◌∷◌, ◌++◌}
use Prim.Native.Nat.{ℕ, ◌+◌, ◌<◌, ◌≤◌}
use native.Mathlib.Omega.{arith}
use lib.Dec.{leb, ltb}
use lib.ListN.{length, get_or, drop}
use borrow.Author.Tests.{ltb-true, ltb-false, leb-true, leb-false, lt-ltb, le-ltb, le-leb, lt-leb}
use Rattle.mem_words.specs.declared.Word.{Word}
use Rattle.mem_words.specs.declared.Word.TheVariants.{End, Free, Level, Num, Place, Inner, Bad}
use Rattle.store_words.specs.Contexts.{places_in}

-- ---------------------------------------------------------------------------------------------
-- A longer front has as many places, and more where one begins behind the shorter.

one_in : Word → ℕ
one_in End = 0
one_in (Free v) = 0
one_in (Level v) = 0
one_in (Num v) = 0
one_in (Place k) = 1
one_in (Inner s) = 0
one_in Bad = 0

places_cons : (w : Word) (r : List Word) → places_in (w ∷ r) ≡ one_in w + places_in r
unfolding places_in one_in
places_cons End r = omega arith
places_cons (Free v) r = omega arith
places_cons (Level v) r = omega arith
places_cons (Num v) r = omega arith
places_cons (Place k) r = omega arith
places_cons (Inner s) r = omega arith
places_cons Bad r = omega arith

pub places_append : (a b : List Word) → places_in (a ++ b) ≡ places_in a + places_in b
unfolding places_in
places_append [] b = omega arith
places_append (w ∷ a) b = omega (arith, places_cons w (a ++ b), places_cons w a, places_append a b)

first_is : (a b : Word) (A B : List Word) → a ∷ A ≡ b ∷ B → a ≡ b
first_is a b A B e = ap (λ (l : List Word). get_or l 0 Bad) e

rest_is : (a b : Word) (A B : List Word) → a ∷ A ≡ b ∷ B → A ≡ B
rest_is a b A B e = ap (λ (l : List Word). drop 1 l) e

pub as_many : (A B R S : List Word) → A ++ R ≡ B ++ S → length A ≤ length B → places_in A ≤ places_in B
unfolding places_in
as_many [] B R S e h = omega arith
as_many (a ∷ A) [] R S e h = absurd (omega arith)
as_many (a ∷ A) (b ∷ B) R S e h =
    let p = as_many A B R S (rest_is a b (A ++ R) (B ++ S) e) (omega arith) in
    let q = ap one_in (first_is a b (A ++ R) (B ++ S) e) in
    omega (arith, p, q, places_cons a A, places_cons b B)

pub more : (A B R S : List Word) (k : _) → A ++ (Place k ∷ R) ≡ B ++ S → length A < length B → places_in A < places_in B
unfolding places_in one_in
more [] [] R S k e h = absurd (omega arith)
more [] (b ∷ B) R S k e h =
    let q : 1 ≡ one_in b = ap one_in (first_is (Place k) b R (B ++ S) e) in
    omega (arith, q, places_cons b B)
more (a ∷ A) [] R S k e h = absurd (omega arith)
more (a ∷ A) (b ∷ B) R S k e h =
    let p = more A B R S k (rest_is a b (A ++ (Place k ∷ R)) (B ++ S) e) (omega arith) in
    let q = ap one_in (first_is a b (A ++ (Place k ∷ R)) (B ++ S) e) in
    omega (arith, p, q, places_cons a A, places_cons b B)

-- ---------------------------------------------------------------------------------------------
-- Comparisons that agree.

pub same_leb : (a b c d : ℕ) → (a ≤ b → c ≤ d) → (b < a → d < c) → leb a b ≡ leb c d
same_leb a b c d f g = go (leb a b) refl
  where
    go : (t : Bool) → leb a b ≡ t → t ≡ leb c d
    go true e = sym (le-leb c d (f (leb-true a b e)))
    go false e = sym (lt-leb c d (g (leb-false a b e)))

pub same_ltb : (a b c d : ℕ) → (a < b → c < d) → (b ≤ a → d ≤ c) → ltb a b ≡ ltb c d
same_ltb a b c d f g = go (ltb a b) refl
  where
    go : (t : Bool) → ltb a b ≡ t → t ≡ ltb c d
    go true e = sym (lt-ltb c d (f (ltb-true a b e)))
    go false e = sym (le-ltb c d (g (ltb-false a b e)))
