-- Terms numbered by first appearance that have the same trees are the same.
use mathlib.Core.Path.{◌≡◌, refl, ap, sym, ◌∙◌, subst}
use mathlib.Core.Logic.{◌↔◌, ◌⊎◌, inl, inr}
use mathlib.Core.List.{List, [], ◌∷◌, ◌++◌, append_assoc, append-nil}
use mathlib.Core.Bool.{Bool, true, false, ◌&&◌, ◌||◌}
use mathlib.Core.Option.{Option, some, none}
use Prim.Native.Nat.{ℕ, zero, suc, ◌+◌, ◌≤◌, ◌<◌}
use native.Mathlib.Decide.{ℕ_discrete}
use native.Mathlib.Omega.{arith}
use lib.Dec.{T, eqb, eqb→eq, eqb_refl}
use Rattle.constraint.specs.Tree.{Label, Tree, Forest, node, fnil, fcons}
use Rattle.constraint.specs.Constraint.{Asg, trees, In}
use Rattle.constraint.specs.Solve.{elem}
use Rattle.constraint.proofs.Lists.{elem_In, In-append}
use Rattle.akl.specs.Base.{size, range, if}
use Rattle.akl.specs.Answers.{Term, unbound, built, Terms, no_terms, more_terms, terms, unknowns, unknowns_all, position}
use Rattle.akl.specs.Token.{class_of}
use Rattle.akl.specs.WellFormed.{spelled_name, spelled_digits}
use Rattle.runs.specs.Shown.{Spelled, SpelledTerm, SpelledTerms, tree_of, forest_of, FitsText, numbered_term, numbered_terms}

-- ---------------------------------------------------------------------------------------------
-- Numbered by first appearance: read from the left, each unknown is one of the n met before, or is n itself.

abbrev mutual
  pub Numbered : Term → ℕ → ℕ → Type 0
  Numbered (unbound i) n m = ((i < n) × (m ≡ n)) ⊎ ((i ≡ n) × (m ≡ suc n))
  Numbered (built f ts) n m = NumberedAll ts n m

  pub NumberedAll : Terms → ℕ → ℕ → Type 0
  NumberedAll no_terms n m = m ≡ n
  NumberedAll (more_terms t ts) n m = (k : ℕ) × Numbered t n k × NumberedAll ts k m

-- a list begins with another
abbrev Prefix : List ℕ → List ℕ → Type 0
Prefix a l = (r : List ℕ) × (l ≡ a ++ r)

prefix_then : (a b : List ℕ) (l : List ℕ) → Prefix a b → Prefix b l → Prefix a l
prefix_then a b l p q = (p.0 ++ q.0, q.1 ∙ ap (λ (z : List ℕ). z ++ q.0) p.1 ∙ append_assoc a p.0 q.0)

prefix_same : (a : List ℕ) → Prefix a a
prefix_same a = ([], sym (append-nil a))

mutual
  unfolding unknowns

  grows : (t : Term) (seen : List ℕ) → Prefix seen (unknowns t seen)
  grows (unbound r) seen = go (elem r seen)
    where
      go : (b : Bool) → Prefix seen (if b seen (seen ++ (r ∷ [])))
      go true = prefix_same seen
      go false = (r ∷ [], refl)
  grows (built f ts) seen = grows_all ts seen

  grows_all : (ts : Terms) (seen : List ℕ) → Prefix seen (unknowns_all ts seen)
  grows_all no_terms seen = prefix_same seen
  grows_all (more_terms t ts) seen = prefix_then seen (unknowns t seen) (unknowns_all ts (unknowns t seen)) (grows t seen) (grows_all ts (unknowns t seen))

position_in : (r : ℕ) (a b : List ℕ) → In r a → (position r (a ++ b) ≡ position r a) × (position r a < size a)
unfolding position size
position_in r [] b i = elim i [ ]
position_in r (x ∷ a) b i = go (eqb r x) (λ e. subst (λ z. T (eqb r z)) e (eqb_refl r)) i (λ j. position_in r a b j)
  where
    go : (c : Bool) → (r ≡ x → T c) → (r ≡ x) ⊎ In r a → (In r a → (position r (a ++ b) ≡ position r a) × (position r a < size a)) → (if c 0 (suc (position r (a ++ b))) ≡ if c 0 (suc (position r a))) × (if c 0 (suc (position r a)) < suc (size a))
    go true g j ih = (refl, omega arith)
    go false g (inl e) ih = absurd (g e)
    go false g (inr j) ih = (ap suc (ih j).0, omega (arith, (ih j).1))

position_new : (r : ℕ) (a b : List ℕ) → (In r a → ⊥) → position r (a ++ (r ∷ b)) ≡ size a
unfolding position size
position_new r [] b n = go (eqb r r) (eqb_refl r)
  where
    go : (c : Bool) → T c → if c 0 (suc (position r b)) ≡ 0
    go false t = elim t [ ]
    go true t = refl
position_new r (x ∷ a) b n = go (eqb r x) (λ t. n (inl (eqb→eq r x t))) (position_new r a b (λ i. n (inr i)))
  where
    go : (c : Bool) → (T c → ⊥) → position r (a ++ (r ∷ b)) ≡ size a → if c 0 (suc (position r (a ++ (r ∷ b)))) ≡ suc (size a)
    go true m e = absurd (m tt)
    go false m e = ap suc e

size_snoc : (a : List ℕ) (r : ℕ) → size (a ++ (r ∷ [])) ≡ suc (size a)
unfolding size
size_snoc [] r = refl
size_snoc (x ∷ a) r = ap suc (size_snoc a r)

mutual
  unfolding unknowns numbered_term

  numbered : (t : Term) (seen l : List ℕ) → Prefix (unknowns t seen) l → Numbered (numbered_term t l) (size seen) (size (unknowns t seen))
  numbered (unbound r) seen l p = go (elem r seen) refl p
    where
      go : (b : Bool) → elem r seen ≡ b → Prefix (if b seen (seen ++ (r ∷ []))) l → ((position r l < size seen) × (size (if b seen (seen ++ (r ∷ []))) ≡ size seen)) ⊎ ((position r l ≡ size seen) × (size (if b seen (seen ++ (r ∷ []))) ≡ suc (size seen)))
      go true e p =
          let h = position_in r seen p.0 ((elem_In r seen).0 (subst T (sym e) tt)) in
          inl (subst (λ z. z < size seen) (sym (ap (position r) p.1 ∙ h.0)) h.1, refl)
      go false e p = inr (ap (position r) (p.1 ∙ append_assoc seen (r ∷ []) p.0) ∙ position_new r seen p.0 (λ i. subst T e ((elem_In r seen).1 i)), size_snoc seen r)
  numbered (built f ts) seen l p = numbered_all ts seen l p

  pub numbered_all : (ts : Terms) (seen l : List ℕ) → Prefix (unknowns_all ts seen) l → NumberedAll (numbered_terms ts l) (size seen) (size (unknowns_all ts seen))
  numbered_all no_terms seen l p = refl
  numbered_all (more_terms t ts) seen l p = (size (unknowns t seen), numbered t seen l (prefix_then (unknowns t seen) (unknowns_all ts (unknowns t seen)) l (grows_all ts (unknowns t seen)) p), numbered_all ts (unknowns t seen) l p)

-- ---------------------------------------------------------------------------------------------
-- Labels that a text may show.

-- A constant of its own for each unknown, whose label no text can have.
own : Asg
own i = node (0 ∷ i ∷ []) fnil

own_inj : (i j : ℕ) → own i ≡ own j → i ≡ j
unfolding own
own_inj i j e = cc e

not_spelled : (i : ℕ) → Spelled (0 ∷ i ∷ []) → ⊥
unfolding spelled_name spelled_digits class_of
not_spelled i h = h

own_not : (i : ℕ) (f : Label) (ts : Forest) → Spelled f → own i ≡ node f ts → ⊥
unfolding own
own_not i f ts h e = not_spelled i (subst Spelled (sym label) h)
  where
    label : 0 ∷ i ∷ [] ≡ f
    label = cc e

node_label : (f g : Label) (a b : Forest) → node f a ≡ node g b → (f ≡ g) × (a ≡ b)
node_label f g a b e = (cc e, cc e)

cons_parts : (t u : Tree) (a b : Forest) → fcons t a ≡ fcons u b → (t ≡ u) × (a ≡ b)
cons_parts t u a b e = (cc e, cc e)

-- ---------------------------------------------------------------------------------------------
-- Each is the other with some terms for its unknowns: then they are the same.

module _ (τ τ' : Asg) where
  -- the n unknowns met so far stand for themselves
  abbrev Themselves : ℕ → Type 0
  Themselves n = (i : ℕ) → i < n → (τ i ≡ own i) × (τ' i ≡ own i)

  unknown_case : (i j n a b : ℕ) → Numbered (unbound i) n a → Numbered (unbound j) n b → Themselves n → own i ≡ τ j → own j ≡ τ' i → (i ≡ j) × ((a ≡ b) × Themselves a)
  unknown_case i j n a b (inl x) (inl y) h e f = (own_inj i j (e ∙ (h j y.0).0), (x.1 ∙ sym y.1, λ k l. h k (omega (arith, x.1))))
  unknown_case i j n a b (inl x) (inr y) h e f = absurd (clash (own_inj j i (f ∙ (h i x.0).1)))
    where
      clash : j ≡ i → ⊥
      clash q = omega (arith, x.0, y.0)
  unknown_case i j n a b (inr x) (inl y) h e f = absurd (clash (own_inj i j (e ∙ (h j y.0).0)))
    where
      clash : i ≡ j → ⊥
      clash q = omega (arith, x.0, y.0)
  unknown_case i j n a b (inr x) (inr y) h e f = (same, (x.1 ∙ sym y.1, λ k l. go k l (ℕ_discrete k n)))
    where
      same : i ≡ j
      same = x.0 ∙ sym y.0

      go : (k : ℕ) → k < a → Dec (k ≡ n) → (τ k ≡ own k) × (τ' k ≡ own k)
      go k l (yes q) = (subst (λ z. τ z ≡ own z) (y.0 ∙ sym q) (sym e ∙ ap own same), subst (λ z. τ' z ≡ own z) (x.0 ∙ sym q) (sym f ∙ ap own (sym same)))
      go k l (no m) = h k (omega (arith, x.1))

  mutual
    same_term : (s t : Term) (n a b : ℕ) → Numbered s n a → Numbered t n b → SpelledTerm s → SpelledTerm t → Themselves n → tree_of s own ≡ tree_of t τ → tree_of t own ≡ tree_of s τ' → (s ≡ t) × ((a ≡ b) × Themselves a)
    same_term (unbound i) (unbound j) n a b x y p q h e f = let w = unknown_case i j n a b x y h e f in (ap unbound w.0, w.1)
    same_term (unbound i) (built g ts) n a b x y p q h e f = absurd (own_not i g (forest_of ts τ) q.0 e)
    same_term (built g ss) (unbound j) n a b x y p q h e f = absurd (own_not j g (forest_of ss τ') p.0 f)
    same_term (built f₁ ss) (built g ts) n a b x y p q h e f =
        let l = node_label f₁ g (forest_of ss own) (forest_of ts τ) e in
        let r = node_label g f₁ (forest_of ts own) (forest_of ss τ') f in
        let w = same_terms ss ts n a b x y p.1 q.1 h l.1 r.1 in
        ((λ i. built (l.0 i) (w.0 i)), w.1)

    same_terms : (ss ts : Terms) (n a b : ℕ) → NumberedAll ss n a → NumberedAll ts n b → SpelledTerms ss → SpelledTerms ts → Themselves n → forest_of ss own ≡ forest_of ts τ → forest_of ts own ≡ forest_of ss τ' → (ss ≡ ts) × ((a ≡ b) × Themselves a)
    same_terms no_terms no_terms n a b x y p q h e f = (refl, (x ∙ sym y, λ k l. h k (omega (arith, x))))
    same_terms no_terms (more_terms t ts) n a b x y p q h e f = absurd (nil_cons e)
      where
        nil_cons : {u : Tree} {us : Forest} → fnil ≡ fcons u us → ⊥
        nil_cons z = let y : ◌≡◌ {A = ℕ} 0 1 = cc in omega arith
    same_terms (more_terms s ss) no_terms n a b x y p q h e f = absurd (nil_cons f)
      where
        nil_cons : {u : Tree} {us : Forest} → fnil ≡ fcons u us → ⊥
        nil_cons z = let y : ◌≡◌ {A = ℕ} 0 1 = cc in omega arith
    same_terms (more_terms s ss) (more_terms t ts) n a b x y p q h e f =
        let l = cons_parts (tree_of s own) (tree_of t τ) (forest_of ss own) (forest_of ts τ) e in
        let r = cons_parts (tree_of t own) (tree_of s τ') (forest_of ts own) (forest_of ss τ') f in
        let w = same_term s t n x.0 y.0 x.1 y.1 p.0 q.0 h l.0 r.0 in
        let v = same_terms ss ts x.0 a b x.2 (subst (λ k. NumberedAll ts k b) (sym w.1.0) y.2) p.1 q.1 w.1.1 l.1 r.1 in
        ((λ i. more_terms (w.0 i) (v.0 i)), v.1)

-- the trees of numbered terms of variables, as an assignment's
forest_range : (f : ℕ → Term) (l : List ℕ) (τ : Asg) (ys : List ℕ) → forest_of (numbered_terms (terms f ys) l) τ ≡ trees (λ y. tree_of (numbered_term (f y) l) τ) ys
unfolding terms numbered_term
forest_range f l τ [] = refl
forest_range f l τ (y ∷ ys) = ap (fcons (tree_of (numbered_term (f y) l) τ)) (forest_range f l τ ys)

module _ (q : ℕ) (f g : ℕ → Term) where
  abbrev lf : List ℕ
  lf = unknowns_all (terms f (range 0 q)) []

  abbrev lg : List ℕ
  lg = unknowns_all (terms g (range 0 q)) []

  abbrev S : Terms
  S = numbered_terms (terms f (range 0 q)) lf

  abbrev U : Terms
  U = numbered_terms (terms g (range 0 q)) lg

  -- Two lists of shown terms that the same trees fit are the same.
  pub same_fit : SpelledTerms S → SpelledTerms U → ((ρ : Asg) → FitsText q S ρ ↔ FitsText q U ρ) → S ≡ U
  unfolding size
  same_fit p u h =
      let ρ : Asg = λ y. tree_of (numbered_term (f y) lf) own in
      let π : Asg = λ y. tree_of (numbered_term (g y) lg) own in
      let a = (h ρ).0 (own, sym (forest_range f lf own (range 0 q))) in
      let b = (h π).1 (own, sym (forest_range g lg own (range 0 q))) in
      (same_terms a.0 b.0 S U 0 (size lf) (size lg) (numbered_all (terms f (range 0 q)) [] lf (prefix_same lf)) (numbered_all (terms g (range 0 q)) [] lg (prefix_same lg)) p u (λ i l. absurd (none i l)) (forest_range f lf own (range 0 q) ∙ a.1) (forest_range g lg own (range 0 q) ∙ b.1)).0
    where
      none : (i : ℕ) → i < 0 → ⊥
      none i l = omega arith
