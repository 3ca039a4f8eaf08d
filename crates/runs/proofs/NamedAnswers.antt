-- Answers over trees labelled with names: what an answer allows, the trees that fit its text, and which answers have the same
-- text are the same as over trees with any labels.
use mathlib.Core.Path.{◌≡◌, refl, ap, sym, ◌∙◌, subst}
use mathlib.Core.Logic.{◌↔◌, ◌⊎◌, inl, inr}
use mathlib.Core.List.{List, [], ◌∷◌}
use Prim.Native.Nat.{ℕ, ◌≤◌, max}
use native.Mathlib.Omega.{arith}
use Rattle.constraint.specs.Tree.{node, fcons}
use Rattle.constraint.specs.Constraint.{Con, ctrue, cfail, ceq, capp, Store, Asg, trees}
use Rattle.akl.specs.Base.{Name, size, range}
use Rattle.akl.specs.Answers.{Answer, Term, unbound, built, Terms, no_terms, more_terms, answer_text}
use Rattle.theory.specs.Meaning.{hidden_locals}
use Rattle.theory.specs.Named.{NamedTree, NamedForest, NamedAsg, NamedCon, NamedStore, NamedChoice}
use Rattle.theory.proofs.NamedTrees.{relabel, relabels, relabel_named, relabels_same, to_name, to_name_named, to_name_same, choice_named, longest, own_names, own_names_named, own_names_choice, spelled_is_named}
use Rattle.runs.specs.Calls.{Allows, AnswerIn, AllowedBy}
use Rattle.runs.specs.Shown.{Fair, SpelledCon, SpelledStore, tree_of, forest_of, FitsText, shown_terms}
use Rattle.runs.proofs.SameText.{text_solutions, same_text_iff}

con_named : (c : Con ℕ) → SpelledCon c → NamedCon c
con_named ctrue h = tt
con_named cfail h = tt
con_named (ceq x y) h = tt
con_named (capp x f ys) h = spelled_is_named f h

store_named : (σ : Store) → SpelledStore σ → NamedStore σ
store_named [] h = tt
store_named (c ∷ σ) h = (con_named c h.0, store_named σ h.1)

-- What an answer allows, with trees labelled with names for its locals but the query's.
abbrev pub NamedAllows : ℕ → Answer → Asg → Type 0
NamedAllows q a ρ = NamedChoice (hidden_locals q a.0) a.1 ρ

pub allows_named : (q : ℕ) (a : Answer) → Fair a → (ρ : Asg) → NamedAsg ρ → Allows q a ρ ↔ NamedAllows q a ρ
allows_named q a f ρ r = choice_named (hidden_locals q a.0) a.1 ρ (store_named a.1 f.labels) r

-- What some answer of a list allows.
abbrev pub NamedAllowedBy : ℕ → List Answer → Asg → Type 0
NamedAllowedBy q [] ρ = ⊥
NamedAllowedBy q (a ∷ bs) ρ = NamedAllows q a ρ ⊎ NamedAllowedBy q bs ρ

pub allowed_by_named : (q : ℕ) (bs : List Answer) → ((a : Answer) → AnswerIn a bs → Fair a) → (ρ : Asg) → NamedAsg ρ → AllowedBy q bs ρ ↔ NamedAllowedBy q bs ρ
allowed_by_named q [] f ρ r = (λ h. h, λ h. h)
allowed_by_named q (a ∷ bs) f ρ r =
    let x = allows_named q a (f a (inl refl)) ρ r in
    let y = allowed_by_named q bs (λ b i. f b (inr i)) ρ r in
    (λ h. elim h [ inl k ↦ inl (x.0 k) | inr k ↦ inr (y.0 k) ], λ h. elim h [ inl k ↦ inl (x.1 k) | inr k ↦ inr (y.1 k) ])

-- An assignment of any trees is allowed exactly when it is with names of their own for its labels.
allows_own : (q n : ℕ) (a : Answer) → Fair a → longest a.1 ≤ n → (ρ : Asg) → Allows q a ρ ↔ NamedAllows q a (own_names n ρ)
allows_own q n a f l ρ =
    let o = own_names_choice n (hidden_locals q a.0) ρ a.1 l (store_named a.1 f.labels) in
    let c = allows_named q a f (own_names n ρ) (own_names_named n ρ) in
    (λ h. c.0 (o.1 h), λ h. o.0 (c.1 h))

-- "have the same solutions", of trees labelled with names
abbrev pub SameNamed : ℕ → Answer → Answer → Type 0
SameNamed q a b = (ρ : Asg) → NamedAsg ρ → NamedAllows q a ρ ↔ NamedAllows q b ρ

pub same_solutions_named : (q : ℕ) (a b : Answer) → Fair a → Fair b → ((ρ : Asg) → Allows q a ρ ↔ Allows q b ρ) ↔ SameNamed q a b
same_solutions_named q a b f g = (to_it, from_it)
  where
    n : ℕ
    n = max (longest a.1) (longest b.1)

    to_it : ((ρ : Asg) → Allows q a ρ ↔ Allows q b ρ) → SameNamed q a b
    to_it h ρ r = (λ k. (allows_named q b g ρ r).0 ((h ρ).0 ((allows_named q a f ρ r).1 k)), λ k. (allows_named q a f ρ r).0 ((h ρ).1 ((allows_named q b g ρ r).1 k)))

    from_it : SameNamed q a b → (ρ : Asg) → Allows q a ρ ↔ Allows q b ρ
    from_it h ρ =
        let x = allows_own q n a f (omega arith) ρ in
        let y = allows_own q n b g (omega arith) ρ in
        let z = h (own_names n ρ) (own_names_named n ρ) in
        (λ k. y.1 (z.0 (x.0 k)), λ k. x.1 (z.1 (y.0 k)))

-- "two answers of a query have the same text exactly when they have the same solutions"
pub same_text_named : (xs : List Name) (a b : Answer) → Fair a → Fair b → (answer_text xs a ≡ answer_text xs b) ↔ SameNamed (size xs) a b
same_text_named xs a b f g =
    let s = same_text_iff xs a b f g in
    let n = same_solutions_named (size xs) a b f g in
    (λ e. n.0 (s.0 e), λ h. s.1 (n.1 h))

-- ---------------------------------------------------------------------------------------------
-- "The trees that fit the text, with any trees for `_0`, `_1` and so on": trees labelled with names.

abbrev pub NamedFits : ℕ → Terms → Asg → Type 0
NamedFits q ts ρ = (τ : Asg) × NamedAsg τ × (trees ρ (range 0 q) ≡ forest_of ts τ)

trees_named : (ρ : Asg) (ys : List ℕ) → NamedAsg ρ → NamedForest (trees ρ ys)
trees_named ρ [] r = tt
trees_named ρ (y ∷ ys) r = (r y, trees_named ρ ys r)

mutual
  unfolding relabel

  term_names : (t : Term) (τ : Asg) → NamedTree (tree_of t τ) → relabel (tree_of t τ) to_name ≡ tree_of t (λ i. relabel (τ i) to_name)
  term_names (unbound i) τ h = refl
  term_names (built f ts) τ h = λ i. node (to_name_same f h.0 i) (terms_names ts τ h.1 i)

  terms_names : (ts : Terms) (τ : Asg) → NamedForest (forest_of ts τ) → relabels (forest_of ts τ) to_name ≡ forest_of ts (λ i. relabel (τ i) to_name)
  terms_names no_terms τ h = refl
  terms_names (more_terms t ts) τ h = λ i. fcons (term_names t τ h.0 i) (terms_names ts τ h.1 i)

fits_named : (q : ℕ) (ts : Terms) (ρ : Asg) → NamedAsg ρ → FitsText q ts ρ ↔ NamedFits q ts ρ
fits_named q ts ρ r = (λ h. (λ i. relabel (h.0 i) to_name, λ i. relabel_named (h.0 i) to_name to_name_named, sym (relabels_same (trees ρ (range 0 q)) to_name to_name_same (trees_named ρ (range 0 q) r)) ∙ ap (λ u. relabels u to_name) h.1 ∙ terms_names ts h.0 (subst NamedForest h.1 (trees_named ρ (range 0 q) r))), λ h. (h.0, h.2))

pub text_solutions_named : (xs : List Name) (a : Answer) → Fair a → (ρ : Asg) → NamedAsg ρ → NamedFits (size xs) (shown_terms (size xs) a) ρ ↔ NamedAllows (size xs) a ρ
text_solutions_named xs a f ρ r =
    let t = text_solutions xs a f ρ in
    let n = fits_named (size xs) (shown_terms (size xs) a) ρ r in
    let w = allows_named (size xs) a f ρ r in
    (λ h. w.0 (t.0 (n.1 h)), λ h. n.0 (t.1 (w.1 h)))
