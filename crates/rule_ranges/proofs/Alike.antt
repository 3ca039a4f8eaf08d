-- Stores that have the same solutions and the same fresh variables. The order of stores does not matter to either.
use mathlib.Core.Path.{◌≡◌, refl, subst}
use mathlib.Core.Logic.{◌↔◌}
use mathlib.Core.Bool.{Bool, true, false}
use mathlib.Core.List.{List, [], ◌∷◌, ◌++◌}
use Prim.Native.Nat.{ℕ}
use lib.Dec.{T}
use Rattle.constraint.specs.Constraint.{Asg, Store, Sats, Satisfiable, Quiet, Fresh}
use Rattle.constraint.specs.Solve.{satisfiable?, quiet?}
use Rattle.constraint.proofs.Trees.{sats_off}
use Rattle.constraint.proofs.Entail.{sats_append}
use Rattle.constraint.proofs.Decision.{satisfiable_iff}
use Rattle.constraint.proofs.Renamed.{quiet_iff}
use Rattle.mem_numbers.specs.Decides.{Decides}

pub record Alike (σ τ : Store) : Type 0 where
  pub sats : (ρ : Asg) → Sats ρ σ ↔ Sats ρ τ
  pub fresh : (vs : List ℕ) → Fresh vs σ ↔ Fresh vs τ

pub fresh_append : (vs : List ℕ) (a b : Store) → Fresh vs (a ++ b) ↔ (Fresh vs a × Fresh vs b)
fresh_append vs [] b = (λ s. (tt, s), λ p. p.1)
fresh_append vs (c ∷ a) b =
    let ih = fresh_append vs a b in
    (λ s. ((s.0, (ih.0 s.1).0), (ih.0 s.1).1), λ p. (p.0.0, ih.1 (p.0.1, p.1)))

pub alike_same : {σ τ : Store} → σ ≡ τ → Alike σ τ
alike_same {σ} {τ} e = subst (λ (z : Store). Alike σ z) e (record { sats = λ ρ. (λ s. s, λ s. s); fresh = λ vs. (λ f. f, λ f. f) })

-- a store before others, or behind them
pub alike_turned : (σ : Store) {τ e : Store} → Alike τ e → Alike (σ ++ τ) (e ++ σ)
alike_turned σ {τ} {e} h = record {
  sats = λ ρ. (λ s. let p = (sats_append ρ σ τ).0 s in (sats_append ρ e σ).1 ((h.sats ρ).0 p.1, p.0), λ s. let p = (sats_append ρ e σ).0 s in (sats_append ρ σ τ).1 (p.1, (h.sats ρ).1 p.0));
  fresh = λ vs. (λ s. let p = (fresh_append vs σ τ).0 s in (fresh_append vs e σ).1 ((h.fresh vs).0 p.1, p.0), λ s. let p = (fresh_append vs e σ).0 s in (fresh_append vs σ τ).1 (p.1, (h.fresh vs).1 p.0));
}

-- ---------------------------------------------------------------------------------------------
-- An answer that decides what a test decides is the test's.

pub same_answer : (r b : Bool) {P Q : Type 0} → Decides P r → (T b ↔ Q) → (P ↔ Q) → r ≡ b
same_answer true true d t p = refl
same_answer true false d t p = absurd (t.1 (p.0 d))
same_answer false true d t p = absurd (d (p.1 (t.0 tt)))
same_answer false false d t p = refl

-- a test's own answer
pub answered : (b : Bool) {P : Type 0} → (T b ↔ P) → Decides P b
answered true t = t.0 tt
answered false t = t.1

pub same_satisfiable : {σ τ : Store} {r : Bool} → Alike σ τ → Decides (Satisfiable σ) r → r ≡ satisfiable? τ
same_satisfiable {σ} {τ} {r} h d = same_answer r (satisfiable? τ) d (satisfiable_iff τ) (λ w. (w.0, (h.sats w.0).0 w.1), λ w. (w.0, (h.sats w.0).1 w.1))

-- e is the environment, θ what is asked; the answer is that of θ with the environment, if the locals are not in it
pub same_quiet : (vs : List ℕ) {e e' : Store} (θ θ' : Store) {r : Bool} → Alike e e' → ((ρ : Asg) → Sats ρ e → (Sats ρ θ ↔ Sats ρ θ')) → Fresh vs e → Decides (Quiet vs e θ) r → r ≡ quiet? vs e' θ'
same_quiet vs {e} {e'} θ θ' {r} h t f d =
    same_answer r (quiet? vs e' θ') d (quiet_iff vs e' θ') (
      λ q ρ s. let a = (h.sats ρ).1 s in let w = q ρ a in (w.0, w.1, (t w.0 (sats_off vs ρ w.0 e f w.1 a)).0 w.2),
      λ q ρ a. let w = q ρ ((h.sats ρ).0 a) in (w.0, w.1, (t w.0 (sats_off vs ρ w.0 e f w.1 a)).1 w.2),
    )
