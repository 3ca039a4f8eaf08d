-- That names pass, number by number. Assumes nothing.
use mathlib.Core.Path.{◌≡◌, refl, ap, sym, ◌∙◌, subst}
use mathlib.Core.Logic.{◌⊎◌, inl, inr}
use mathlib.Core.List.{List, [], ◌∷◌, map}
use mathlib.Core.Bool.{Bool, true, false, ◌&&◌, not}
use Prim.Native.Nat.{ℕ, zero, suc, ◌+◌, ◌<◌, ◌≤◌}
use native.Mathlib.Omega.{arith}
use native.Mathlib.Decide.{ℕ_discrete}
use lib.Dec.{T, leb, eqb, le→leb, lt→ltb, ltb→lt}
use lib.ListN.{length, get_or, take}
use Rattle.constraint.proofs.Lists.{and_T, or_T, not_T, eqb_T}
use Rattle.akl.specs.Base.{Name, all, any, size, same, among, repeats}
use Rattle.akl.specs.Limits.{most_query_variables}
use Rattle.akl.specs.WellFormed.{spelled_variable, names_pass}
use Rattle.akl.proofs.Names.{same_eq_T, same_refl_T}
use Rattle.read_nodes.specs.Spell.{named, named_once}
use Rattle.read_lookups.specs.Places as places
use Rattle.store_form.specs.Holding.{below}
use Rattle.check_links.specs.Links.{Nodes}
use Rattle.check_distinct.specs.Apart.{Apart}
use Rattle.check_namekinds.specs.Kinds.{bit, kind_variable}
use Rattle.check_querynames.specs.Variables.{CanName, NamesPass}

-- the same, number by number, for the first i of them
pub record Passing (N v : List ℕ) (i : ℕ) : Type 0 where
  pub known : (j : ℕ) → j < i → get_or v j 0 < length N
  pub spelled : (j : ℕ) → j < i → T (spelled_variable (named N (get_or v j 0)))
  pub differ : (j k : ℕ) → j < i → k < i → get_or v j 0 ≡ get_or v k 0 → j ≡ k

-- ---------------------------------------------------------------------------------------------
-- From lists to positions, and back.

at_all : {A : Type 0} (p : A → Bool) (f : ℕ → A) (v : List ℕ) → T (all p (map f v)) → (j : ℕ) → j < length v → T (p (f (get_or v j 0)))
unfolding all
at_all p f [] t j h = absurd (omega arith)
at_all p f (x ∷ v) t zero h = ((and_T (p (f x)) (all p (map f v))).0 t).0
at_all p f (x ∷ v) t (suc j) h = at_all p f v ((and_T (p (f x)) (all p (map f v))).0 t).1 j (omega arith)

all_at : {A : Type 0} (p : A → Bool) (f : ℕ → A) (v : List ℕ) → ((j : ℕ) → j < length v → T (p (f (get_or v j 0)))) → T (all p (map f v))
unfolding all
all_at p f [] g = tt
all_at p f (x ∷ v) g = (and_T (p (f x)) (all p (map f v))).1 (g 0 (omega arith), all_at p f v (λ j h. g (suc j) (omega arith)))

map_self : (v : List ℕ) → map (λ (x : ℕ). x) v ≡ v
map_self [] = refl
map_self (x ∷ v) = ap (λ (t : List ℕ). x ∷ t) (map_self v)

size_map : (f : ℕ → Name) (v : List ℕ) → size (map f v) ≡ length v
unfolding size
size_map f [] = refl
size_map f (x ∷ v) = ap suc (size_map f v)

-- a name is among those of a list exactly when it is that of some position
among_at : (f : ℕ → Name) (w : Name) (v : List ℕ) (j : ℕ) → j < length v → w ≡ f (get_or v j 0) → T (among w (map f v))
unfolding among any
among_at f w [] j h e = absurd (omega arith)
among_at f w (x ∷ v) zero h e = (or_T (same w (f x)) (any (same w) (map f v))).1 (inl (subst (λ (u : Name). T (same w u)) e (same_refl_T w)))
among_at f w (x ∷ v) (suc j) h e = (or_T (same w (f x)) (any (same w) (map f v))).1 (inr (among_at f w v j (omega arith) e))

at_among : (f : ℕ → Name) (w : Name) (v : List ℕ) → T (among w (map f v)) → (j : ℕ) × (j < length v) × (w ≡ f (get_or v j 0))
unfolding among any
at_among f w [] t = absurd t
at_among f w (x ∷ v) t = go ((or_T (same w (f x)) (any (same w) (map f v))).0 t) (at_among f w v)
  where
    go : T (same w (f x)) ⊎ T (any (same w) (map f v)) → (T (any (same w) (map f v)) → (j : ℕ) × (j < length v) × (w ≡ f (get_or v j 0))) → (j : ℕ) × (j < suc (length v)) × (w ≡ f (get_or (x ∷ v) j 0))
    go (inl e) r = (0, omega arith, same_eq_T w (f x) e)
    go (inr e) r = let z = r e in (suc z.0, omega (arith, z.1), z.2)

-- names repeat exactly when two positions have the same
once_at : (f : ℕ → Name) (v : List ℕ) → ((j k : ℕ) → j < length v → k < length v → f (get_or v j 0) ≡ f (get_or v k 0) → j ≡ k) → T (repeats (map f v)) → ⊥
unfolding repeats
once_at f [] g t = t
once_at f (x ∷ v) g t = go ((or_T (among (f x) (map f v)) (repeats (map f v))).0 t) (once_at f v (λ j k a b e. let z = g (suc j) (suc k) (omega arith) (omega arith) e in omega (arith, z)))
  where
    go : T (among (f x) (map f v)) ⊎ T (repeats (map f v)) → (T (repeats (map f v)) → ⊥) → ⊥
    go (inl a) r = let z = at_among f (f x) v a in let y = g 0 (suc z.0) (omega arith) (omega (arith, z.1)) z.2 in omega (arith, y)
    go (inr a) r = r a

at_once : (f : ℕ → Name) (v : List ℕ) → (T (repeats (map f v)) → ⊥) → (j k : ℕ) → j < length v → k < length v → f (get_or v j 0) ≡ f (get_or v k 0) → j ≡ k
unfolding repeats
at_once f [] n j k a b e = absurd (omega arith)
at_once f (x ∷ v) n zero zero a b e = refl
at_once f (x ∷ v) n zero (suc k) a b e = absurd (n ((or_T (among (f x) (map f v)) (repeats (map f v))).1 (inl (among_at f (f x) v k (omega arith) e))))
at_once f (x ∷ v) n (suc j) zero a b e = absurd (n ((or_T (among (f x) (map f v)) (repeats (map f v))).1 (inl (among_at f (f x) v j (omega arith) (sym e)))))
at_once f (x ∷ v) n (suc j) (suc k) a b e = ap suc (at_once f v (λ t. n ((or_T (among (f x) (map f v)) (repeats (map f v))).1 (inr t))) j k (omega arith) (omega arith) e)

-- ---------------------------------------------------------------------------------------------
-- What is decided.

-- different nodes have different names
names_differ : {N : List ℕ} → Nodes N → Apart N → (i j : ℕ) → i < length N → j < length N → named N i ≡ named N j → i ≡ j
names_differ {N} K A i j a b e = named_once i i j N (length N) K.rooted.lower A (omega arith) a b e

three : (a b c : Bool) → T a → T b → T c → T (a && b && c)
three a b c x y z = (and_T (a && b) c).1 ((and_T a b).1 (x, y), z)

pub passing_all : {N K v : List ℕ} {i : ℕ} → CanName N K v → length v ≤ i → Passing N v i → NamesPass N v
unfolding names_pass
passing_all {N} {K} {v} {i} C h P = record {
  known = subst (λ (l : List ℕ). T (all (below (length N)) l)) (map_self v) (all_at (below (length N)) (λ (x : ℕ). x) v (λ j g. lt→ltb (get_or v j 0) (length N) (P.known j (omega arith))));
  pass = three (leb (size (map (named N) v)) most_query_variables) (not (repeats (map (named N) v))) (all spelled_variable (map (named N) v))
      (le→leb (size (map (named N) v)) most_query_variables (omega (arith, size_map (named N) v, C.most)))
      ((not_T (repeats (map (named N) v))).1 (once_at (named N) v differ))
      (all_at spelled_variable (named N) v (λ j g. P.spelled j (omega arith)));
}
  where
    differ : (j k : ℕ) → j < length v → k < length v → named N (get_or v j 0) ≡ named N (get_or v k 0) → j ≡ k
    differ j k a b e = P.differ j k (omega arith) (omega arith) (names_differ C.nodes C.apart (get_or v j 0) (get_or v k 0) (P.known j (omega arith)) (P.known k (omega arith)) e)

pub passed_at : {N v : List ℕ} → NamesPass N v → Passing N v (length v)
unfolding names_pass
passed_at {N} {v} P =
    let c = (and_T (leb (size (map (named N) v)) most_query_variables && not (repeats (map (named N) v))) (all spelled_variable (map (named N) v))).0 P.pass in
    let b = (and_T (leb (size (map (named N) v)) most_query_variables) (not (repeats (map (named N) v)))).0 c.0 in
    record {
      known = λ j h. ltb→lt (get_or v j 0) (length N) (at_all (below (length N)) (λ (x : ℕ). x) v (subst (λ (l : List ℕ). T (all (below (length N)) l)) (sym (map_self v)) P.known) j h);
      spelled = λ j h. at_all spelled_variable (named N) v c.1 j h;
      differ = λ j k h g e. at_once (named N) v ((not_T (repeats (map (named N) v))).0 b.1) j k h g (ap (named N) e);
    }

-- ---------------------------------------------------------------------------------------------
-- The loop.

pub passing_none : (N v : List ℕ) → Passing N v 0
passing_none N v = record { known = λ j h. absurd (omega arith); spelled = λ j h. absurd (omega arith); differ = λ j k h g e. absurd (omega arith) }

-- a number is among the first i exactly when it is at a position
listed_at : (v : List ℕ) (i x j : ℕ) → j < i → j < length v → get_or v j 0 ≡ x → T (places.among x (take i v))
unfolding places.among
listed_at [] i x j h g e = absurd (omega arith)
listed_at (y ∷ v) zero x j h g e = absurd (omega arith)
listed_at (y ∷ v) (suc i) x zero h g e = (or_T (eqb x y) (places.among x (take i v))).1 (inl ((eqb_T x y).1 (sym e)))
listed_at (y ∷ v) (suc i) x (suc j) h g e = (or_T (eqb x y) (places.among x (take i v))).1 (inr (listed_at v i x j (omega arith) (omega arith) e))

at_listed : (v : List ℕ) (i x : ℕ) → T (places.among x (take i v)) → (j : ℕ) × (j < i) × (get_or v j 0 ≡ x)
unfolding places.among
at_listed [] zero x t = absurd t
at_listed [] (suc i) x t = absurd t
at_listed (y ∷ v) zero x t = absurd t
at_listed (y ∷ v) (suc i) x t = go ((or_T (eqb x y) (places.among x (take i v))).0 t) (at_listed v i x)
  where
    go : T (eqb x y) ⊎ T (places.among x (take i v)) → (T (places.among x (take i v)) → (j : ℕ) × (j < i) × (get_or v j 0 ≡ x)) → (j : ℕ) × (j < suc i) × (get_or (y ∷ v) j 0 ≡ x)
    go (inl e) r = (0, omega arith, sym ((eqb_T x y).0 e))
    go (inr e) r = let z = r e in (suc z.0, omega (arith, z.1), z.2)

holds : (b : Bool) → b ≡ true → T b
holds b e = subst T (sym e) tt

bit_one : (b : Bool) → 1 ≤ bit b → T b
bit_one true h = tt
bit_one false h = absurd (omega arith)

bit_true : (b : Bool) → T b → bit b ≡ 1
bit_true false t = elim t [ ]
bit_true true t = refl

-- a kind of 4 and more is that of a variable's name
spelled_by : {N K v : List ℕ} → CanName N K v → (x k : ℕ) → x < length N → k ≡ get_or K x 0 → 4 ≤ k → T (spelled_variable (named N x))
spelled_by {N} C x k h e g = let z = kind_variable (named N x) in let y = C.kinds x h in bit_one (spelled_variable (named N x)) (omega arith)

kind_by : {N K v : List ℕ} → CanName N K v → (x k : ℕ) → x < length N → k ≡ get_or K x 0 → T (spelled_variable (named N x)) → 4 ≤ k
kind_by {N} C x k h e t = let z = kind_variable (named N x) in let y = C.kinds x h in let w = bit_true (spelled_variable (named N x)) t in omega arith

pub passing_more : {N K v : List ℕ} {i x k : ℕ} {b : Bool} → CanName N K v → Passing N v i → i < length v → x ≡ get_or v i 0 → x < length N → k ≡ get_or K x 0 → 4 ≤ k → b ≡ places.among x (take i v) → b ≡ false → Passing N v (i + 1)
passing_more {N} {K} {v} {i} {x} {k} {b} C P iv e h f g a n = record {
  known = λ j l. kn j l (ℕ_discrete j i);
  spelled = λ j l. sp j l (ℕ_discrete j i);
  differ = λ j m l o q. df j m l o q (ℕ_discrete j i) (ℕ_discrete m i);
}
  where
    new : (j : ℕ) → j < i → get_or v j 0 ≡ get_or v i 0 → ⊥
    new j l q = subst T (sym a ∙ n) (listed_at v i x j l (omega arith) (q ∙ sym e))

    kn : (j : ℕ) → j < i + 1 → Dec (j ≡ i) → get_or v j 0 < length N
    kn j l (yes z) = let q : get_or v j 0 ≡ get_or v i 0 = ap (λ (m : ℕ). get_or v m 0) z in omega arith
    kn j l (no z) = P.known j (omega arith)

    sp : (j : ℕ) → j < i + 1 → Dec (j ≡ i) → T (spelled_variable (named N (get_or v j 0)))
    sp j l (yes z) = subst (λ (y : ℕ). T (spelled_variable (named N y))) (e ∙ ap (λ (m : ℕ). get_or v m 0) (sym z)) (spelled_by C x k h f g)
    sp j l (no z) = P.spelled j (omega arith)

    df : (j m : ℕ) → j < i + 1 → m < i + 1 → get_or v j 0 ≡ get_or v m 0 → Dec (j ≡ i) → Dec (m ≡ i) → j ≡ m
    df j m l o q (yes y) (yes z) = y ∙ sym z
    df j m l o q (yes y) (no z) = absurd (new m (omega arith) (sym q ∙ ap (λ (p : ℕ). get_or v p 0) y))
    df j m l o q (no y) (yes z) = absurd (new j (omega arith) (q ∙ ap (λ (p : ℕ). get_or v p 0) z))
    df j m l o q (no y) (no z) = P.differ j m (omega arith) (omega arith) q

-- where one fails, all do
pub unknown : {N v : List ℕ} {i x : ℕ} → i < length v → x ≡ get_or v i 0 → length N ≤ x → NamesPass N v → ⊥
unknown {N} {v} {i} {x} h e g P = let z = (passed_at P).known i h in omega arith

pub unspelled : {N K v : List ℕ} {i x k : ℕ} → CanName N K v → i < length v → x ≡ get_or v i 0 → x < length N → k ≡ get_or K x 0 → k < 4 → NamesPass N v → ⊥
unspelled {N} {K} {v} {i} {x} {k} C h e g f l P = let z = kind_by C x k g f (subst (λ (y : ℕ). T (spelled_variable (named N y))) (sym e) ((passed_at P).spelled i h)) in omega arith

pub twice : {N v : List ℕ} {i x : ℕ} {b : Bool} → i < length v → x ≡ get_or v i 0 → b ≡ places.among x (take i v) → b ≡ true → NamesPass N v → ⊥
twice {N} {v} {i} {x} {b} h e a t P =
    let z = at_listed v i x (holds (places.among x (take i v)) (sym a ∙ t)) in
    let y = (passed_at P).differ z.0 i (omega (arith, z.1)) h (z.2 ∙ e) in
    omega (arith, y, z.1)
