-- Stable goals in the sense of source 000, section 4.5: whatever constraints that are compatible with the environment are
-- added around a stable goal, environment failure does not become applicable in it.
use mathlib.Core.Path.{◌≡◌, refl, sym, ◌∙◌, subst}
use mathlib.Core.Logic.{inl}
use mathlib.Core.List.{List, [], ◌∷◌, ◌++◌}
use Prim.Native.Nat.{ℕ}
use native.Mathlib.Omega.{arith}
use Rattle.constraint.specs.Tree.{node, fnil}
use Rattle.constraint.specs.Constraint.{capp, Store, Sats, Satisfiable, Quiet, In, vars_all}
use Rattle.constraint.proofs.Entail.{sats_append, mix, mix_in, mix_out}
use Rattle.akl.specs.Base.{Name}
use Rattle.akl.specs.Syntax.{Program}
use Rattle.akl.specs.Configuration.{Kind, Node, Ctx, plug, env, Config}
use Rattle.akl.specs.Places.{at}
use Rattle.theory.specs.Scope.{Ok}
use Rattle.theory.specs.Formed.{Formed}
use Rattle.theory.proofs.Agreement.{sats_on}
use Rattle.theory.proofs.OwnVariables.{around_apart}
use Rattle.accept.specs.Inner.{BoxIn, LocalIn}
use Rattle.accept.specs.Accepts.{Stable}
use Rattle.accept.proofs.Inner.{locals_iff}

-- the store mentions no local inside the goal
abbrev pub Without : {k : Kind} → Node k → Store → Type 0
Without n θ = (x : ℕ) → LocalIn n x → In x (vars_all θ) → ⊥

-- in a well-formed configuration the environment of a goal does not
pub around_without : (limit : ℕ) (P : Program) (xs : List Name) (c : Config) {k : Kind} (χ : Ctx k) (n : Node k) → Formed limit P xs c →
    plug χ n ≡ c.root → Without n (env χ)
around_without limit P xs c χ n f e x l i =
    around_apart χ n c.next (subst (λ z. Ok z c.next []) (sym e) f.scopes) x ((locals_iff n x).1 l) i

-- τ is what is added: it is compatible with the environment and does not mention the goal's locals. Then the stores down to each
-- and-box of the goal still have a solution with both: rule 9 does not apply there.
pub stable_stays : (limit : ℕ) (P : Program) (xs : List Name) (c : Config) {k : Kind} (χ : Ctx k) (n : Node k) (τ : Store) → Formed limit P xs c →
    plug χ n ≡ c.root → Stable P c (at χ n) → Without n τ → Satisfiable (env χ ++ τ) →
    (ws : List ℕ) (θ : Store) → BoxIn k n ws θ → Satisfiable ((env χ ++ τ) ++ θ)
stable_stays limit P xs c χ n τ f e h dt w ws θ b =
    let ρ = w.0 in
    let s = (sats_append ρ (env χ) τ).0 w.1 in
    let r = h.1 ws θ b ρ s.0 in
    let kept : (ϕ : Store) → Without n ϕ → Sats ρ ϕ → Sats r.0 ϕ = λ ϕ d t. sats_on ρ r.0 ϕ (λ x i. r.1 x (λ l. d x l i)) t in
    let around = kept (env χ) (around_without limit P xs c χ n f e) s.0 in
    (r.0, (sats_append r.0 (env χ ++ τ) θ).1 ((sats_append r.0 (env χ) τ).1 (around, kept τ dt s.1), r.2))

-- That τ does not mention them is needed: the goal's local 0 is a in the goal, quietly, and b in what is added.
pub locals_needed : ((vs : List ℕ) (e τ σ : Store) → Quiet vs e σ → Satisfiable (e ++ τ) → Satisfiable ((e ++ σ) ++ τ)) → ⊥
locals_needed h =
    let w = h (0 ∷ []) [] (capp 0 (2 ∷ []) [] ∷ []) (capp 0 (1 ∷ []) [] ∷ []) quiet ((λ x. node (2 ∷ []) fnil), (refl, tt)) in
    differ (sym w.1.0 ∙ w.1.1.0)
  where
    quiet : Quiet (0 ∷ []) [] (capp 0 (1 ∷ []) [] ∷ [])
    quiet ρ s = (mix (0 ∷ []) ρ (λ x. node (1 ∷ []) fnil), mix_out (0 ∷ []) ρ (λ x. node (1 ∷ []) fnil), (mix_in (0 ∷ []) ρ (λ x. node (1 ∷ []) fnil) 0 (inl refl), tt))

    differ : node (1 ∷ []) fnil ≡ node (2 ∷ []) fnil → ⊥
    differ q = let z : ◌≡◌ {A = ℕ} 1 2 = cc in omega arith
