-- Unknowns numbered by first appearance: the trees that fit are the same, and the text is that of the numbered terms.
-- Assumes nothing.
use mathlib.Core.Path.{◌≡◌, refl, ap, sym, ◌∙◌, subst}
use mathlib.Core.Logic.{◌↔◌, ◌⊎◌, inl, inr}
use mathlib.Core.List.{List, [], ◌∷◌, ◌++◌}
use mathlib.Core.Bool.{Bool, true, false}
use Prim.Native.Nat.{ℕ, zero, suc}
use lib.Dec.{T, eqb, eqb→eq, eqb_refl}
use Rattle.constraint.specs.Tree.{node, fcons}
use Rattle.constraint.specs.Constraint.{Asg, In}
use Rattle.akl.specs.Base.{Name, bytes, if}
use Rattle.akl.specs.Answers.{Term, unbound, built, Terms, no_terms, more_terms, unknowns_all, position, term_text, arguments_text, rest_text, bindings_text, line_text}
use Rattle.runs.specs.Shown.{tree_of, forest_of, FitsText, numbered_term, numbered_terms, term_bytes, arguments_bytes, rest_bytes, bindings_bytes, line_bytes}
use Rattle.runs.proofs.Shows.{Seen, SeenAll, all_seen_all}

-- the class at a position
unfoldable at_position : ℕ → List ℕ → ℕ
at_position i [] = 0
at_position zero (x ∷ l) = x
at_position (suc i) (x ∷ l) = at_position i l

position_at : (r : ℕ) (l : List ℕ) → In r l → at_position (position r l) l ≡ r
unfolding at_position position
position_at r [] i = elim i [ ]
position_at r (x ∷ l) i = go (eqb r x) (λ t. eqb→eq r x t) (λ e. subst (λ z. T (eqb r z)) e (eqb_refl r)) i (λ j. position_at r l j)
  where
    go : (b : Bool) → (T b → r ≡ x) → (r ≡ x → T b) → (r ≡ x) ⊎ In r l → (In r l → at_position (position r l) l ≡ r) → at_position (if b 0 (suc (position r l))) (x ∷ l) ≡ r
    go true f g j ih = sym (f tt)
    go false f g (inl e) ih = absurd (g e)
    go false f g (inr j) ih = ih j

mutual
  unfolding numbered_term

  -- trees for positions, or for classes
  tree_numbered : (t : Term) (l : List ℕ) (τ σ : Asg) → ((r : ℕ) → In r l → τ (position r l) ≡ σ r) → Seen t l → tree_of (numbered_term t l) τ ≡ tree_of t σ
  tree_numbered (unbound r) l τ σ h i = h r i
  tree_numbered (built f ts) l τ σ h i = ap (node f) (forest_numbered ts l τ σ h i)

  forest_numbered : (ts : Terms) (l : List ℕ) (τ σ : Asg) → ((r : ℕ) → In r l → τ (position r l) ≡ σ r) → SeenAll ts l → forest_of (numbered_terms ts l) τ ≡ forest_of ts σ
  forest_numbered no_terms l τ σ h i = refl
  forest_numbered (more_terms t ts) l τ σ h i = λ j. fcons (tree_numbered t l τ σ h i.0 j) (forest_numbered ts l τ σ h i.1 j)

pub numbered_iff : (q : ℕ) (ts : Terms) (ρ : Asg) → FitsText q (numbered_terms ts (unknowns_all ts [])) ρ ↔ FitsText q ts ρ
numbered_iff q ts ρ = (λ w. ((λ r. w.0 (position r l)), w.1 ∙ forest_numbered ts l w.0 (λ r. w.0 (position r l)) (λ r i. refl) seen), λ w. ((λ i. w.0 (at_position i l)), w.1 ∙ sym (forest_numbered ts l (λ i. w.0 (at_position i l)) w.0 (λ r i. ap w.0 (position_at r l i)) seen)))
  where
    l : List ℕ
    l = unknowns_all ts []

    seen : SeenAll ts l
    seen = all_seen_all ts []

mutual
  unfolding term_text term_bytes numbered_term

  text_term : (t : Term) (l : List ℕ) → term_text t l ≡ term_bytes (numbered_term t l)
  text_term (unbound r) l = refl
  text_term (built f ts) l = ap (λ (z : List ℕ). f ++ z) (text_arguments ts l)

  text_arguments : (ts : Terms) (l : List ℕ) → arguments_text ts l ≡ arguments_bytes (numbered_terms ts l)
  text_arguments no_terms l = refl
  text_arguments (more_terms t ts) l = λ i. bytes "(" ++ text_term t l i ++ text_rest ts l i

  text_rest : (ts : Terms) (l : List ℕ) → rest_text ts l ≡ rest_bytes (numbered_terms ts l)
  text_rest no_terms l = refl
  text_rest (more_terms t ts) l = λ i. bytes "," ++ text_term t l i ++ text_rest ts l i

text_bindings : (xs : List Name) (ts : Terms) (l : List ℕ) → bindings_text xs ts l ≡ bindings_bytes xs (numbered_terms ts l)
unfolding bindings_text bindings_bytes numbered_term
text_bindings [] ts l = refl
text_bindings (x ∷ []) no_terms l = refl
text_bindings (x ∷ (y ∷ xs)) no_terms l = refl
text_bindings (x ∷ []) (more_terms t ts) l = ap (λ (z : List ℕ). x ++ bytes " = " ++ z) (text_term t l)
text_bindings (x ∷ (y ∷ xs)) (more_terms t ts) l = λ i. x ++ bytes " = " ++ text_term t l i ++ bytes ", " ++ text_bindings (y ∷ xs) ts l i

pub text_line : (xs : List Name) (ts : Terms) → line_text xs ts ≡ line_bytes xs (numbered_terms ts (unknowns_all ts []))
text_line [] ts = refl
text_line (x ∷ xs) ts = text_bindings (x ∷ xs) ts (unknowns_all ts [])
