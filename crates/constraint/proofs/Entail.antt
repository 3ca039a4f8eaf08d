-- When a guard's store is quiet: the criterion on the solved forms of the environment (E) and of both (F).
use mathlib.Core.Path.{◌≡◌, refl, ap, sym, ◌∙◌}
use mathlib.Core.Logic.{◌↔◌}
use mathlib.Core.List.{List, [], ◌∷◌, ◌++◌}
use Prim.Native.Nat.{ℕ}
use lib.ListN.{length}
use native.Mathlib.Omega.{arith}
use native.Mathlib.Decide.{ℕ_discrete}
use Rattle.constraint.specs.Tree.{Label, node, fnil}
use Rattle.constraint.specs.Constraint.{Asg, trees, In, Store, Sats, Off, Quiet, Fresh}
use Rattle.constraint.specs.Solve.{Bnd, free, fun}
use Rattle.constraint.proofs.Form.{Form, build, at, Solves, Ranked, Of}
use Rattle.constraint.proofs.Trees.{dec_in, sats_off, node_label}
use Rattle.constraint.proofs.Forms.{solution, solution_free, solution_solves, solution_unique}

pub sats_append : (ρ : Asg) (a b : Store) → Sats ρ (a ++ b) ↔ (Sats ρ a × Sats ρ b)
sats_append ρ [] b = (λ s. (tt, s), λ p. p.1)
sats_append ρ (c ∷ a) b =
    let ih = sats_append ρ a b in
    (λ s. ((s.0, (ih.0 s.1).0), (ih.0 s.1).1), λ p. (p.0.0, ih.1 (p.0.1, p.1)))

abbrev pub if {ℓ κ} : {P : Type ℓ} {A : Type κ} → Dec P → A → A → A
if (yes p) a b = a
if (no n) a b = b

pub if_yes {ℓ κ} : {P : Type ℓ} {A : Type κ} (d : Dec P) (a b : A) → P → if d a b ≡ a
if_yes (yes q) a b p = refl
if_yes (no n) a b p = absurd (n p)

pub if_no {ℓ κ} : {P : Type ℓ} {A : Type κ} (d : Dec P) (a b : A) → ¬ P → if d a b ≡ b
if_no (yes q) a b n = absurd (n q)
if_no (no m) a b n = refl

-- ρ' on vs, ρ elsewhere
unfoldable pub mix : List ℕ → Asg → Asg → Asg
mix vs ρ ρ' x = if (dec_in x vs) (ρ' x) (ρ x)

pub mix_out : (vs : List ℕ) (ρ ρ' : Asg) → Off vs ρ (mix vs ρ ρ')
unfolding mix
mix_out vs ρ ρ' x n = sym (if_no (dec_in x vs) (ρ' x) (ρ x) n)

pub mix_in : (vs : List ℕ) (ρ ρ' : Asg) (x : ℕ) → In x vs → mix vs ρ ρ' x ≡ ρ' x
unfolding mix
mix_in vs ρ ρ' x i = if_yes (dec_in x vs) (ρ' x) (ρ x) i

-- x stands for an unbound class of E and is no local
abbrev pub Par : Form → List ℕ → ℕ → Type 0
Par E vs x = (at E x ≡ free) × (E.rep x ≡ x) × ¬ In x vs

pub record Apart (E F : Form) (vs : List ℕ) : Type 0 where
  pub keeps : (x : ℕ) → Par E vs x → at F x ≡ free
  pub owner : ℕ → ℕ
  pub owned : (x : ℕ) → Par E vs x → owner (F.rep x) ≡ x

longer : (f : Label) → 0 ∷ f ≡ f → ⊥
longer f e = omega (arith, ap length e)

module _ (vs : List ℕ) (env σ : Store) (E F : Form) (is_e : Of E env) (is_f : Of F (env ++ σ)) (fr : Fresh vs env) (RE : Ranked E) where
  pub quiet_if : Ranked F → Apart E F vs → Quiet vs env σ
  quiet_if RF A ρ s = (ρ₁, off, both.1)
    where
      π : Asg
      π z = ρ (A.owner z)

      ρ₁ : Asg
      ρ₁ = solution F RF π

      both : Sats ρ₁ env × Sats ρ₁ σ
      both = (sats_append ρ₁ env σ).0 ((is_f ρ₁).1 (solution_solves F RF π))

      ρ₂ : Asg
      ρ₂ = mix vs ρ ρ₁

      s₂ : Sats ρ₂ env
      s₂ = sats_off vs ρ ρ₂ env fr (mix_out vs ρ ρ₁) s

      agree : (x : ℕ) → at E x ≡ free → E.rep x ≡ x → ρ₂ x ≡ ρ₁ x
      agree x a r = go (dec_in x vs)
        where
          go : Dec (In x vs) → ρ₂ x ≡ ρ₁ x
          go (yes i) = mix_in vs ρ ρ₁ x i
          go (no n) =
              let p : Par E vs x = (a, r, n) in
              sym (mix_out vs ρ ρ₁ x n) ∙ ap ρ (sym (A.owned x p)) ∙ sym (solution_free F RF π x (A.keeps x p))

      off : Off vs ρ ρ₁
      off x n = mix_out vs ρ ρ₁ x n ∙ solution_unique E RE ρ₂ ρ₁ ((is_e ρ₂).0 s₂) ((is_e ρ₁).0 both.0) agree x

  module _ (q : Quiet vs env σ) where
    -- a choice for the unbound classes of E reaches a solution of F that agrees on what is no local
    pub reach : (π : Asg) → (ρ' : Asg) × Solves ρ' F × ((x : ℕ) → Par E vs x → π x ≡ ρ' x)
    reach π = (w.0, (is_f w.0).0 ((sats_append w.0 env σ).1 (sats_off vs ρ w.0 env fr w.1 sρ, w.2)), same)
      where
        ρ : Asg
        ρ = solution E RE π

        sρ : Sats ρ env
        sρ = (is_e ρ).1 (solution_solves E RE π)

        w : (ρ' : Asg) × Off vs ρ ρ' × Sats ρ' σ
        w = q ρ sρ

        same : (x : ℕ) → Par E vs x → π x ≡ w.0 x
        same x p = ap π (sym p.1) ∙ sym (solution_free E RE π x p.0) ∙ w.1 x p.2

    pub quiet_keeps : (x : ℕ) → Par E vs x → at F x ≡ free
    quiet_keeps x p = go (at F x) refl
      where
        go : (b : Bnd) → at F x ≡ b → at F x ≡ free
        go free e = e
        go (fun f ys) e =
            let w = reach (λ z. node (0 ∷ f) fnil) in
            let k : node (0 ∷ f) fnil ≡ node f (trees w.0 ys) = w.2 x p ∙ w.1 x ∙ ap (build w.0 (w.0 (F.rep x))) e in
            absurd (longer f (node_label k))

    pub quiet_apart : (x y : ℕ) → Par E vs x → Par E vs y → F.rep x ≡ F.rep y → x ≡ y
    quiet_apart x y p p' e = go (ℕ_discrete x y)
      where
        go : Dec (x ≡ y) → x ≡ y
        go (yes d) = d
        go (no n) =
            let w = reach (λ z. if (ℕ_discrete z x) (node [] fnil) (node (0 ∷ []) fnil)) in
            let px : node [] fnil ≡ w.0 x = sym (if_yes (ℕ_discrete x x) _ _ refl) ∙ w.2 x p in
            let py : node (0 ∷ []) fnil ≡ w.0 y = sym (if_no (ℕ_discrete y x) _ _ (λ d. n (sym d))) ∙ w.2 y p' in
            let xy : w.0 x ≡ w.0 y = w.1 x ∙ ap (λ r. build w.0 (w.0 r) (F.bnd r)) e ∙ sym (w.1 y) in
            absurd (longer [] (sym (node_label (px ∙ xy ∙ sym py))))
