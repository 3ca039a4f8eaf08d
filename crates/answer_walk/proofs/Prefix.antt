-- A list of unknowns only grows at its end, so that a class that was met keeps its number. Assumes nothing.
use mathlib.Core.Path.{◌≡◌, refl, ap, sym, ◌∙◌, subst}
use mathlib.Core.Logic.{◌⊎◌, inl, inr}
use mathlib.Core.List.{List, [], ◌∷◌, ◌++◌, append_assoc, append-nil}
use mathlib.Core.Bool.{Bool, true, false, ◌||◌}
use Prim.Native.Nat.{ℕ, suc}
use lib.Dec.{T, eqb}
use Rattle.constraint.specs.Constraint.{In}
use Rattle.constraint.specs.Solve.{elem}
use Rattle.constraint.proofs.Lists.{eqb_T}
use Rattle.akl.specs.Base.{Name, bytes, size, decimal, if}
use Rattle.akl.specs.Answers.{Term, unbound, built, Terms, no_terms, more_terms, terms, unknowns, unknowns_all, position, term_text, arguments_text, rest_text, bindings_text}
use Rattle.runs.proofs.Shows.{Seen, SeenAll, all_seen_all}
use Rattle.answer_walk.specs.Walk.{met}

-- l is s and more behind it
pub record Grows (s l : List ℕ) : Type 0 where
  pub more : List ℕ
  pub is : l ≡ s ++ more

pub grows_refl : (s : List ℕ) → Grows s s
grows_refl s = record { more = []; is = sym (append-nil s) }

pub grows_then : {s l k : List ℕ} → Grows s l → Grows l k → Grows s k
grows_then {s} {l} {k} g h = record { more = g.more ++ h.more; is = h.is ∙ ap (λ (z : List ℕ). z ++ h.more) g.is ∙ append_assoc s g.more h.more }

grows_one : (b : Bool) (r : ℕ) (s : List ℕ) → Grows s (if b s (s ++ (r ∷ [])))
grows_one true r s = grows_refl s
grows_one false r s = record { more = r ∷ []; is = refl }

mutual
  unfolding unknowns

  pub unknowns_grow : (t : Term) (s : List ℕ) → Grows s (unknowns t s)
  unknowns_grow (unbound r) s = grows_one (elem r s) r s
  unknowns_grow (built f ts) s = unknowns_all_grow ts s

  pub unknowns_all_grow : (ts : Terms) (s : List ℕ) → Grows s (unknowns_all ts s)
  unknowns_all_grow no_terms s = grows_refl s
  unknowns_all_grow (more_terms t ts) s = grows_then (unknowns_grow t s) (unknowns_all_grow ts (unknowns t s))

pub met_grow : (f : ℕ → Term) (fs : List (List ℕ)) (s : List ℕ) → Grows s (met f fs s)
unfolding met
met_grow f [] s = grows_refl s
met_grow f (ys ∷ fs) s = grows_then (unknowns_all_grow (terms f ys) s) (met_grow f fs (unknowns_all (terms f ys) s))

-- ---------------------------------------------------------------------------------------------
-- A class that was met keeps its number.

pub position_front : (r : ℕ) (s more : List ℕ) → In r s → position r (s ++ more) ≡ position r s
unfolding position
position_front r [] more i = elim i [ ]
position_front r (x ∷ s) more i = go (eqb r x) (eqb_T r x).1 i (position_front r s more)
  where
    go : (b : Bool) → (r ≡ x → T b) → (r ≡ x) ⊎ In r s → (In r s → position r (s ++ more) ≡ position r s) → if b 0 (suc (position r (s ++ more))) ≡ if b 0 (suc (position r s))
    go true e j ih = refl
    go false e (inl q) ih = absurd (e q)
    go false e (inr j) ih = ap suc (ih j)

pub position_kept : {s l : List ℕ} (r : ℕ) → Grows s l → In r s → position r l ≡ position r s
position_kept {s} {l} r g i = ap (position r) g.is ∙ position_front r s g.more i

-- and one that was not, when it is put behind the others, gets their count
pub position_new : (r : ℕ) (s : List ℕ) → elem r s ≡ false → position r (s ++ (r ∷ [])) ≡ size s
unfolding position size elem
position_new r [] e = go (eqb r r) ((eqb_T r r).1 refl)
  where
    go : (b : Bool) → T b → ◌≡◌ {A = ℕ} (if b 0 1) 0
    go true t = refl
    go false t = absurd t
position_new r (x ∷ s) e = go (eqb r x) e (position_new r s)
  where
    go : (b : Bool) → (b || elem r s) ≡ false → (elem r s ≡ false → position r (s ++ (r ∷ [])) ≡ size s) → if b 0 (suc (position r (s ++ (r ∷ [])))) ≡ suc (size s)
    go true q ih = absurd (subst T q tt)
    go false q ih = ap suc (ih q)

-- ---------------------------------------------------------------------------------------------
-- So the text of terms whose unknowns were all met does not change when there are more.

mutual
  unfolding term_text

  pub text_kept : (t : Term) (s l : List ℕ) → Grows s l → Seen t s → term_text t l ≡ term_text t s
  text_kept (unbound r) s l g i = ap (λ (n : ℕ). bytes "_" ++ decimal n) (position_kept r g i)
  text_kept (built f ts) s l g i = ap (λ (z : List ℕ). f ++ z) (arguments_kept ts s l g i)

  arguments_kept : (ts : Terms) (s l : List ℕ) → Grows s l → SeenAll ts s → arguments_text ts l ≡ arguments_text ts s
  arguments_kept no_terms s l g i = refl
  arguments_kept (more_terms t ts) s l g i = λ j. bytes "(" ++ text_kept t s l g i.0 j ++ rest_kept ts s l g i.1 j

  rest_kept : (ts : Terms) (s l : List ℕ) → Grows s l → SeenAll ts s → rest_text ts l ≡ rest_text ts s
  rest_kept no_terms s l g i = refl
  rest_kept (more_terms t ts) s l g i = λ j. bytes "," ++ text_kept t s l g i.0 j ++ rest_kept ts s l g i.1 j

seen_one : (t : Term) (s : List ℕ) → Seen t (unknowns t s)
unfolding unknowns
seen_one t s = (all_seen_all (more_terms t no_terms) s).0

-- a term's text by the unknowns that are met when it is written
pub text_then : (t : Term) (s l : List ℕ) → Grows (unknowns t s) l → term_text t l ≡ term_text t (unknowns t s)
text_then t s l g = text_kept t (unknowns t s) l g (seen_one t s)

-- the bindings of an answer, one after the other: the number of each unknown is known when it is written
pub bindings_one : (x : Name) (t : Term) (s : List ℕ) → bindings_text (x ∷ []) (more_terms t no_terms) (unknowns_all (more_terms t no_terms) s) ≡ x ++ bytes " = " ++ term_text t (unknowns t s)
unfolding bindings_text unknowns
bindings_one x t s = refl

pub bindings_more : (x y : Name) (xs : List Name) (t : Term) (ts : Terms) (s : List ℕ) → bindings_text (x ∷ (y ∷ xs)) (more_terms t ts) (unknowns_all (more_terms t ts) s) ≡ x ++ bytes " = " ++ term_text t (unknowns t s) ++ bytes ", " ++ bindings_text (y ∷ xs) ts (unknowns_all ts (unknowns t s))
unfolding bindings_text unknowns
bindings_more x y xs t ts s = ap (λ (z : List ℕ). x ++ bytes " = " ++ z ++ bytes ", " ++ bindings_text (y ∷ xs) ts (unknowns_all ts (unknowns t s))) (text_then t s (unknowns_all ts (unknowns t s)) (unknowns_all_grow ts (unknowns t s)))
