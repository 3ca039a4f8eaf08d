-- A goal depends on the variables around it, and on the query's, alone.
use mathlib.Core.Path.{◌≡◌, refl, ap, sym, ◌∙◌, subst}
use mathlib.Core.Logic.{◌↔◌, ◌⊎◌, inl, inr}
use mathlib.Core.List.{List, [], ◌∷◌, ◌++◌}
use Prim.Native.Nat.{ℕ, zero, suc, ◌≤◌, ◌<◌}
use native.Mathlib.Omega.{arith}
use native.Mathlib.Decide.{dec_lt}
use lib.Dec.{T, leb, leb→le, le→leb}
use Rattle.constraint.specs.Constraint.{Con, Store, Asg, Sats, In, Off, vars, vars_all}
use Rattle.constraint.specs.Solve.{keep}
use Rattle.constraint.proofs.Lists.{In-append, keep_In}
use Rattle.constraint.proofs.Trees.{dec_in, sat_agree}
use Rattle.constraint.proofs.Entail.{mix, mix_in, mix_out}
use Rattle.akl.specs.Syntax.{Stmt}
use Rattle.akl.specs.Configuration.{Kind, goal, Node, or, and, stmt, choice_box, guard, Nodes, nil, cons}
use Rattle.theory.specs.Meaning.{Model, Holds, hidden_locals, nothing, HoldsWith, All, Any}
use Rattle.akl.specs.WellFormed.{numbers}
use Rattle.theory.specs.Scope.{Sub, Fits, Shared, SharedAll, Ok, OkAll}
use Rattle.theory.proofs.Statements.{On, on_left, on_right, holds_on}

pub sats_on : (ρ ρ' : Asg) (σ : Store) → On (vars_all σ) ρ ρ' → Sats ρ σ → Sats ρ' σ
unfolding vars_all
sats_on ρ ρ' [] o s = tt
sats_on ρ ρ' (c ∷ σ) o s = (sat_agree ρ ρ' c (on_left (vars c) (vars_all σ) ρ ρ' o) s.0, sats_on ρ ρ' σ (on_right (vars c) (vars_all σ) ρ ρ' o) s.1)

-- the locals that are hidden
pub hidden_In : (q x : ℕ) (vs : List ℕ) → In x (hidden_locals q vs) ↔ (In x vs × (q ≤ x))
hidden_In q x vs =
    let k = keep_In (leb q) x vs in
    (λ i. ((k.0 i).0, leb→le q x (k.0 i).1), λ h. k.1 (h.0, le→leb q x h.1))

-- the two agree on xs and on the query's variables
abbrev pub Agree : ℕ → List ℕ → Asg → Asg → Type 0
Agree q xs ρ ρ' = (x : ℕ) → In x xs ⊎ (x < q) → ρ x ≡ ρ' x

pub agree_sym : (q : ℕ) (xs : List ℕ) (ρ ρ' : Asg) → Agree q xs ρ ρ' → Agree q xs ρ' ρ
agree_sym q xs ρ ρ' a x h = sym (a x h)

pub agree_on : (q : ℕ) (xs ys : List ℕ) (ρ ρ' : Asg) → Agree q xs ρ ρ' → Sub ys xs → On ys ρ ρ'
agree_on q xs ys ρ ρ' a s x i = a x (inl (s x i))

pub nothing_fits : {k : Kind} (n : Node k) (xs : List ℕ) → Fits xs n nothing
unfolding numbers
nothing_fits n xs x i = absurd i

-- ρ₁ differs from ρ on the hidden locals vs; then ρ', changed to ρ₁ there, agrees with ρ₁ on more
carried : (q : ℕ) (xs vs : List ℕ) (ρ ρ' ρ₁ : Asg) → Agree q xs ρ ρ' → Off (hidden_locals q vs) ρ ρ₁ → Agree q (xs ++ vs) ρ₁ (mix (hidden_locals q vs) ρ' ρ₁)
carried q xs vs ρ ρ' ρ₁ a o x h = go (dec_in x (hidden_locals q vs))
  where
    known : ¬ In x (hidden_locals q vs) → In x xs ⊎ In x vs → In x xs ⊎ (x < q)
    known n (inl i) = inl i
    known n (inr i) = inr (below (dec_lt x q))
      where
        below : Dec (x < q) → x < q
        below (yes l) = l
        below (no m) = absurd (n ((hidden_In q x vs).1 (i, omega arith)))

    outer : ¬ In x (hidden_locals q vs) → In x (xs ++ vs) ⊎ (x < q) → In x xs ⊎ (x < q)
    outer n (inl i) = known n ((In-append x xs vs).0 i)
    outer n (inr l) = inr l

    go : Dec (In x (hidden_locals q vs)) → ρ₁ x ≡ mix (hidden_locals q vs) ρ' ρ₁ x
    go (yes i) = sym (mix_in (hidden_locals q vs) ρ' ρ₁ x i)
    go (no n) = sym (o x n) ∙ a x (outer n h) ∙ mix_out (hidden_locals q vs) ρ' ρ₁ x n

-- what fits, as a set of variables that the two agree on
fits_and : (q : ℕ) (xs vs : List ℕ) (ρ ρ' : Asg) (b : Stmt) → ((x : ℕ) → In x (numbers b) → In x xs ⊎ In x vs) → Agree q (xs ++ vs) ρ ρ' → On (numbers b) ρ ρ'
fits_and q xs vs ρ ρ' b f a x i = a x (inl ((In-append x xs vs).1 (f x i)))

fits_none : (q : ℕ) (xs : List ℕ) (ρ ρ' : Asg) (b : Stmt) → ((x : ℕ) → In x (numbers b) → In x xs ⊎ ⊥) → Agree q xs ρ ρ' → On (numbers b) ρ ρ'
fits_none q xs ρ ρ' b f a x i = a x (elim (f x i) [ inl j ↦ inl j | inr e ↦ absurd e ])

module _ (Q : Model) (q : ℕ) where
  mutual
    pub goal_on : {k : Kind} (n : Node k) (N : ℕ) (xs : List ℕ) → Ok n N xs → (b : Stmt) → Fits xs n b → (ρ ρ' : Asg) → Agree q xs ρ ρ' → HoldsWith n Q q ρ b → HoldsWith n Q q ρ' b
    goal_on (or ns) N xs w b f ρ ρ' a h = any_on ns N xs w b f ρ ρ' a h
    goal_on (and vs σ ms) N xs w b f ρ ρ' a h =
        let ρ₂ = mix (hidden_locals q vs) ρ' h.0 in
        let c = carried q xs vs ρ ρ' h.0 a h.1 in
        (ρ₂, mix_out (hidden_locals q vs) ρ' h.0, sats_on h.0 ρ₂ σ (agree_on q (xs ++ vs) (vars_all σ) h.0 ρ₂ c w.3) h.2, all_on ms N (xs ++ vs) w.4 h.0 ρ₂ c h.3, holds_on Q h.0 ρ₂ b [] (fits_and q xs vs h.0 ρ₂ b f c) h.4)
    goal_on (stmt s) N xs w b f ρ ρ' a h = (holds_on Q ρ ρ' s [] (agree_on q xs (numbers s) ρ ρ' a w) h.0, holds_on Q ρ ρ' b [] (fits_none q xs ρ ρ' b f a) h.1)
    goal_on (choice_box op gs) N xs w b f ρ ρ' a h = (some_on gs N xs w ρ ρ' a h.0, holds_on Q ρ ρ' b [] (fits_none q xs ρ ρ' b f a) h.1)
    goal_on (guard g c) N xs w b f ρ ρ' a h = (goal_on g N xs w.0 c w.1 ρ ρ' a h.0, holds_on Q ρ ρ' b [] (fits_none q xs ρ ρ' b f a) h.1)

    pub all_on : {k : Kind} (ns : Nodes k) (N : ℕ) (xs : List ℕ) → OkAll ns N xs → (ρ ρ' : Asg) → Agree q xs ρ ρ' → All ns Q q ρ → All ns Q q ρ'
    all_on nil N xs w ρ ρ' a h = tt
    all_on (cons n ns) N xs w ρ ρ' a h = (goal_on n N xs w.0 nothing (nothing_fits n xs) ρ ρ' a h.0, all_on ns N xs w.1 ρ ρ' a h.1)

    pub any_on : {k : Kind} (ns : Nodes k) (N : ℕ) (xs : List ℕ) → OkAll ns N xs → (b : Stmt) → ((x : ℕ) → In x (numbers b) → In x xs ⊎ SharedAll ns x) → (ρ ρ' : Asg) → Agree q xs ρ ρ' → Any ns Q q ρ b → Any ns Q q ρ' b
    any_on nil N xs w b f ρ ρ' a h = h
    any_on (cons n ns) N xs w b f ρ ρ' a (inl h) = inl (goal_on n N xs w.0 b (λ x i. elim (f x i) [ inl j ↦ inl j | inr s ↦ inr s.0 ]) ρ ρ' a h)
    any_on (cons n ns) N xs w b f ρ ρ' a (inr h) = inr (any_on ns N xs w.1 b (λ x i. elim (f x i) [ inl j ↦ inl j | inr s ↦ inr s.1 ]) ρ ρ' a h)

    some_on : {k : Kind} (ns : Nodes k) (N : ℕ) (xs : List ℕ) → OkAll ns N xs → (ρ ρ' : Asg) → Agree q xs ρ ρ' → Any ns Q q ρ nothing → Any ns Q q ρ' nothing
    some_on nil N xs w ρ ρ' a h = h
    some_on (cons n ns) N xs w ρ ρ' a (inl h) = inl (goal_on n N xs w.0 nothing (nothing_fits n xs) ρ ρ' a h)
    some_on (cons n ns) N xs w ρ ρ' a (inr h) = inr (some_on ns N xs w.1 ρ ρ' a h)
