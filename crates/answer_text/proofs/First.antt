-- Unknowns by first appearance: what was seen stays, and meeting it again adds nothing. Assumes nothing.
use mathlib.Core.Path.{◌≡◌, refl, ap, sym, ◌∙◌, subst}
use mathlib.Core.Logic.{◌⊎◌, inl, inr}
use mathlib.Core.List.{List, [], ◌∷◌, ◌++◌, append_assoc, append-nil}
use mathlib.Core.Bool.{Bool, true, false}
use Prim.Native.Nat.{ℕ, suc, ◌<◌}
use native.Mathlib.Omega.{arith}
use lib.Dec.{T, eqb, eqb→eq, eqb_refl}
use Rattle.constraint.specs.Constraint.{In}
use Rattle.constraint.specs.Solve.{elem}
use Rattle.constraint.proofs.Lists.{elem_In}
use Rattle.theory.specs.Scope.{Sub}
use Rattle.akl.specs.Base.{bytes, decimal, size, if}
use Rattle.akl.specs.Answers.{Term, unbound, built, Terms, no_terms, more_terms, terms, unknowns, unknowns_all, position, term_text, arguments_text, rest_text}
use Rattle.runs.proofs.Shows.{Seen, SeenAll, all_seen_all}

-- ---------------------------------------------------------------------------------------------
-- A single unknown.

pub unknown_old : (r : ℕ) (seen : List ℕ) → In r seen → unknowns (unbound r) seen ≡ seen
unfolding unknowns
unknown_old r seen i = go (elem r seen) ((elem_In r seen).1 i)
  where
    go : (b : Bool) → T b → if b seen (seen ++ (r ∷ [])) ≡ seen
    go false t = elim t [ ]
    go true t = refl

pub unknown_new : (r : ℕ) (seen : List ℕ) → (In r seen → ⊥) → unknowns (unbound r) seen ≡ seen ++ (r ∷ [])
unfolding unknowns
unknown_new r seen n = go (elem r seen) (λ t. n ((elem_In r seen).0 t))
  where
    go : (b : Bool) → (T b → ⊥) → if b seen (seen ++ (r ∷ [])) ≡ seen ++ (r ∷ [])
    go true m = absurd (m tt)
    go false m = refl

-- its number is kept by what comes behind, and a new one has the next number
pub position_old : (r : ℕ) (a b : List ℕ) → In r a → position r (a ++ b) ≡ position r a
unfolding position
position_old r [] b i = elim i [ ]
position_old r (x ∷ a) b i = go (eqb r x) (λ e. subst (λ z. T (eqb r z)) e (eqb_refl r)) i (λ j. position_old r a b j)
  where
    go : (c : Bool) → (r ≡ x → T c) → (r ≡ x) ⊎ In r a → (In r a → position r (a ++ b) ≡ position r a) → if c 0 (suc (position r (a ++ b))) ≡ if c 0 (suc (position r a))
    go true g j ih = refl
    go false g (inl e) ih = absurd (g e)
    go false g (inr j) ih = ap suc (ih j)

pub position_less : (r : ℕ) (a : List ℕ) → In r a → position r a < size a
unfolding position size
position_less r [] i = elim i [ ]
position_less r (x ∷ a) i = go (eqb r x) (λ e. subst (λ z. T (eqb r z)) e (eqb_refl r)) i (λ j. position_less r a j)
  where
    go : (c : Bool) → (r ≡ x → T c) → (r ≡ x) ⊎ In r a → (In r a → position r a < size a) → if c 0 (suc (position r a)) < suc (size a)
    go true g j ih = omega arith
    go false g (inl e) ih = absurd (g e)
    go false g (inr j) ih = omega (arith, ih j)

pub position_new : (r : ℕ) (a b : List ℕ) → (In r a → ⊥) → position r (a ++ (r ∷ b)) ≡ size a
unfolding position size
position_new r [] b n = go (eqb r r) (eqb_refl r)
  where
    go : (c : Bool) → T c → if c 0 (suc (position r b)) ≡ 0
    go false t = elim t [ ]
    go true t = refl
position_new r (x ∷ a) b n = go (eqb r x) (λ t. n (inl (eqb→eq r x t))) (position_new r a b (λ i. n (inr i)))
  where
    go : (c : Bool) → (T c → ⊥) → position r (a ++ (r ∷ b)) ≡ size a → if c 0 (suc (position r (a ++ (r ∷ b)))) ≡ suc (size a)
    go true m e = absurd (m tt)
    go false m e = ap suc e

-- ---------------------------------------------------------------------------------------------
-- Terms.

mutual
  pub seen_wider : (t : Term) (a b : List ℕ) → Sub a b → Seen t a → Seen t b
  seen_wider (unbound r) a b s h = s r h
  seen_wider (built f ts) a b s h = seen_wider_all ts a b s h

  pub seen_wider_all : (ts : Terms) (a b : List ℕ) → Sub a b → SeenAll ts a → SeenAll ts b
  seen_wider_all no_terms a b s h = tt
  seen_wider_all (more_terms t ts) a b s h = (seen_wider t a b s h.0, seen_wider_all ts a b s h.1)

-- every unknown of the term is seen behind it
pub all_seen : (t : Term) (seen : List ℕ) → Seen t (unknowns t seen)
unfolding unknowns
all_seen t seen = (all_seen_all (more_terms t no_terms) seen).0

mutual
  unfolding unknowns

  -- a term whose unknowns are all seen adds nothing
  pub seen_same : (t : Term) (seen : List ℕ) → Seen t seen → unknowns t seen ≡ seen
  seen_same (unbound r) seen i = unknown_old r seen i
  seen_same (built f ts) seen i = seen_same_all ts seen i

  pub seen_same_all : (ts : Terms) (seen : List ℕ) → SeenAll ts seen → unknowns_all ts seen ≡ seen
  seen_same_all no_terms seen i = refl
  seen_same_all (more_terms t ts) seen i = ap (unknowns_all ts) (seen_same t seen i.0) ∙ seen_same_all ts seen i.1

pub unknowns_again : (t : Term) (seen : List ℕ) → unknowns t (unknowns t seen) ≡ unknowns t seen
unknowns_again t seen = seen_same t (unknowns t seen) (all_seen t seen)

pub unknowns_all_again : (ts : Terms) (seen : List ℕ) → unknowns_all ts (unknowns_all ts seen) ≡ unknowns_all ts seen
unknowns_all_again ts seen = seen_same_all ts (unknowns_all ts seen) (all_seen_all ts seen)

-- one list after another
pub terms_append_unknowns : (f : ℕ → Term) (xs ys : List ℕ) (seen : List ℕ) → unknowns_all (terms f (xs ++ ys)) seen ≡ unknowns_all (terms f ys) (unknowns_all (terms f xs) seen)
unfolding terms unknowns
terms_append_unknowns f [] ys seen = refl
terms_append_unknowns f (x ∷ xs) ys seen = terms_append_unknowns f xs ys (unknowns (f x) seen)

pub terms_append_seen : (f : ℕ → Term) (xs ys seen : List ℕ) → SeenAll (terms f xs) seen → SeenAll (terms f ys) seen → SeenAll (terms f (xs ++ ys)) seen
unfolding terms
terms_append_seen f [] ys seen a b = b
terms_append_seen f (x ∷ xs) ys seen a b = (a.0, terms_append_seen f xs ys seen a.1 b)

-- what was seen stays in front
mutual
  unfolding unknowns

  pub grows : (t : Term) (seen : List ℕ) → (r : List ℕ) × (unknowns t seen ≡ seen ++ r)
  grows (unbound r) seen = go (elem r seen)
    where
      go : (b : Bool) → (k : List ℕ) × (if b seen (seen ++ (r ∷ [])) ≡ seen ++ k)
      go true = ([], sym (append-nil seen))
      go false = (r ∷ [], refl)
  grows (built f ts) seen = grows_all ts seen

  pub grows_all : (ts : Terms) (seen : List ℕ) → (r : List ℕ) × (unknowns_all ts seen ≡ seen ++ r)
  grows_all no_terms seen = ([], sym (append-nil seen))
  grows_all (more_terms t ts) seen =
      let a = grows t seen in
      let b = grows_all ts (unknowns t seen) in
      (a.0 ++ b.0, b.1 ∙ ap (λ (z : List ℕ). z ++ b.0) a.1 ∙ append_assoc seen a.0 b.0)

-- ---------------------------------------------------------------------------------------------
-- What is seen behind a term does not change its text.

mutual
  unfolding term_text

  pub text_stable : (t : Term) (a b : List ℕ) → Seen t a → term_text t (a ++ b) ≡ term_text t a
  text_stable (unbound r) a b i = ap (λ (n : ℕ). bytes "_" ++ decimal n) (position_old r a b i)
  text_stable (built f ts) a b i = ap (λ (z : List ℕ). f ++ z) (arguments_stable ts a b i)

  pub arguments_stable : (ts : Terms) (a b : List ℕ) → SeenAll ts a → arguments_text ts (a ++ b) ≡ arguments_text ts a
  arguments_stable no_terms a b i = refl
  arguments_stable (more_terms t ts) a b i = λ j. bytes "(" ++ text_stable t a b i.0 j ++ rest_stable ts a b i.1 j

  pub rest_stable : (ts : Terms) (a b : List ℕ) → SeenAll ts a → rest_text ts (a ++ b) ≡ rest_text ts a
  rest_stable no_terms a b i = refl
  rest_stable (more_terms t ts) a b i = λ j. bytes "," ++ text_stable t a b i.0 j ++ rest_stable ts a b i.1 j
