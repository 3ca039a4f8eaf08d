-- Terms that the same trees fit as spelled terms do are spelled themselves: so nothing need be known of the labels in
-- the tables. Assumes nothing.
use mathlib.Core.Path.{◌≡◌, refl, ap, sym, ◌∙◌, subst}
use mathlib.Core.List.{List, [], ◌∷◌}
use Prim.Native.Nat.{ℕ}
use Rattle.constraint.specs.Tree.{Tree, Forest, node, fnil, fcons}
use Rattle.constraint.specs.Constraint.{Asg, trees}
use Rattle.akl.specs.Base.{all, size, range}
use Rattle.akl.specs.Answers.{Term, unbound, built, Terms, no_terms, more_terms, terms}
use Rattle.akl.specs.Token.{class_of}
use Rattle.akl.specs.WellFormed.{spelled_name, spelled_digits}
use Rattle.runs.specs.Shown.{Spelled, SpelledTerm, SpelledTerms, tree_of, forest_of, FitsText, numbered_term, numbered_terms}

-- trees whose labels are spelled
abbrev mutual
  SpelledTree : Tree → Type 0
  SpelledTree (node f ts) = Spelled f × SpelledForest ts

  SpelledForest : Forest → Type 0
  SpelledForest fnil = Unit {0}
  SpelledForest (fcons t ts) = SpelledTree t × SpelledForest ts

-- one constant for every unknown: the digit 0
nought : Asg
nought i = node (48 ∷ []) fnil

nought_spelled : (i : ℕ) → SpelledTree (nought i)
unfolding nought spelled_name spelled_digits class_of all size
nought_spelled i = (tt, tt)

mutual
  tree_spelled : (t : Term) (τ : Asg) → ((i : ℕ) → SpelledTree (τ i)) → SpelledTerm t → SpelledTree (tree_of t τ)
  tree_spelled (unbound i) τ h w = h i
  tree_spelled (built f ts) τ h w = (w.0, forest_spelled ts τ h w.1)

  forest_spelled : (ts : Terms) (τ : Asg) → ((i : ℕ) → SpelledTree (τ i)) → SpelledTerms ts → SpelledForest (forest_of ts τ)
  forest_spelled no_terms τ h w = tt
  forest_spelled (more_terms t ts) τ h w = (tree_spelled t τ h w.0, forest_spelled ts τ h w.1)

mutual
  spelled_term : (t : Term) (τ : Asg) → SpelledTree (tree_of t τ) → SpelledTerm t
  spelled_term (unbound i) τ w = tt
  spelled_term (built f ts) τ w = (w.0, spelled_terms ts τ w.1)

  spelled_terms : (ts : Terms) (τ : Asg) → SpelledForest (forest_of ts τ) → SpelledTerms ts
  spelled_terms no_terms τ w = tt
  spelled_terms (more_terms t ts) τ w = (spelled_term t τ w.0, spelled_terms ts τ w.1)

-- the trees of numbered terms of variables, as an assignment's
forest_range : (f : ℕ → Term) (l : List ℕ) (τ : Asg) (ys : List ℕ) → forest_of (numbered_terms (terms f ys) l) τ ≡ trees (λ y. tree_of (numbered_term (f y) l) τ) ys
unfolding terms numbered_term
forest_range f l τ [] = refl
forest_range f l τ (y ∷ ys) = ap (fcons (tree_of (numbered_term (f y) l) τ)) (forest_range f l τ ys)

pub fit_spelled : (q : ℕ) (f : ℕ → Term) (l : List ℕ) (us : Terms) → SpelledTerms (numbered_terms (terms f (range 0 q)) l) → ((ρ : Asg) → FitsText q (numbered_terms (terms f (range 0 q)) l) ρ → FitsText q us ρ) → SpelledTerms us
fit_spelled q f l us w h =
    let e = forest_range f l nought (range 0 q) in
    let k = h (λ y. tree_of (numbered_term (f y) l) nought) (nought, sym e) in
    spelled_terms us k.0 (subst SpelledForest (e ∙ k.1) (forest_spelled (numbered_terms (terms f (range 0 q)) l) nought nought_spelled w))
