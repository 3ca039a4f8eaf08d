-- A solver's steps at the level of forms, stated pointwise: for an association list and for arrays alike.
use mathlib.Core.Path.{◌≡◌, refl, ap, sym, ◌∙◌, subst}
use mathlib.Core.Logic.{◌↔◌, if_pos, if_neg}
use Prim.Native.Nat.{ℕ}
use native.Mathlib.Decide.{ℕ_discrete}
use Rattle.constraint.specs.Tree.{node}
use Rattle.constraint.specs.Constraint.{Asg, trees}
use Rattle.constraint.specs.Solve.{Bnd, free, fun}
use Rattle.constraint.proofs.Form.{Form, Solves, build}
use Rattle.constraint.specs.Solve.{to}

-- the variable has the tree that its binding says
unfoldable pub Holds : Asg → ℕ → Bnd → Type 0
Holds ρ v free = Unit {0}
Holds ρ v (fun f ys) = ρ v ≡ node f (trees ρ ys)

pub holds_of : (ρ : Asg) (v : ℕ) (b : Bnd) → ρ v ≡ build ρ (ρ v) b → Holds ρ v b
unfolding Holds
holds_of ρ v free e = tt
holds_of ρ v (fun f ys) e = e

pub build_of : (ρ : Asg) (v : ℕ) (b : Bnd) → Holds ρ v b → ρ v ≡ build ρ (ρ v) b
unfolding Holds
build_of ρ v free h = refl
build_of ρ v (fun f ys) h = h

move : (ρ : Asg) (v w : ℕ) (b : Bnd) → ρ v ≡ ρ w → Holds ρ v b → Holds ρ w b
unfolding Holds
move ρ v w free e h = tt
move ρ v w (fun f ys) e h = sym e ∙ h

-- a solution by halves
abbrev pub Half₁ : Asg → Form → Type 0
Half₁ ρ F = (x : ℕ) → ρ x ≡ ρ (F.rep x)

abbrev pub Half₂ : Asg → Form → Type 0
Half₂ ρ F = (x : ℕ) → Holds ρ (F.rep x) (F.bnd (F.rep x))

pub halves : (ρ : Asg) (F : Form) → Solves ρ F ↔ (Half₁ ρ F × Half₂ ρ F)
halves ρ F = (λ h. (rp h, λ x. holds_of ρ (F.rep x) _ (at_rep h x)), λ h x. h.0 x ∙ build_of ρ (F.rep x) _ (h.1 x))
  where
    at_rep : Solves ρ F → (x : ℕ) → ρ (F.rep x) ≡ build ρ (ρ (F.rep x)) (F.bnd (F.rep x))
    at_rep h x = h (F.rep x) ∙ ap (λ v. build ρ (ρ v) (F.bnd v)) (F.idem x)

    rp : Solves ρ F → (x : ℕ) → ρ x ≡ ρ (F.rep x)
    rp h x = h x ∙ sym (at_rep h x)

-- x = y, in different classes: the class of x goes into that of y, and what bound x's is then asked of y's
module _ (F F' : Form) (x y : ℕ) (ne : F.rep y ≡ F.rep x → ⊥) (hr : (z : ℕ) → F'.rep z ≡ to F.rep (F.rep x) (F.rep y) z) (hb : (z : ℕ) → (z ≡ F.rep x → ⊥) → F'.bnd z ≡ F.bnd z) where
  near : (z : ℕ) → F.rep z ≡ F.rep x → F'.rep z ≡ F.rep y
  near z i = hr z ∙ if_pos (ℕ_discrete (F.rep z) (F.rep x)) i _ _

  far : (z : ℕ) → (F.rep z ≡ F.rep x → ⊥) → F'.rep z ≡ F.rep z
  far z n = hr z ∙ if_neg (ℕ_discrete (F.rep z) (F.rep x)) n _ _

  pub merge_sem : (ρ : Asg) → (Solves ρ F × (ρ x ≡ ρ y)) ↔ (Solves ρ F' × Holds ρ (F.rep y) (F.bnd (F.rep x)))
  merge_sem ρ = (to_it, from_it)
    where
      to_it : Solves ρ F × (ρ x ≡ ρ y) → Solves ρ F' × Holds ρ (F.rep y) (F.bnd (F.rep x))
      to_it s = ((halves ρ F').1 (λ z. go₁ z (ℕ_discrete (F.rep z) (F.rep x)), λ z. go₂ z (ℕ_discrete (F.rep z) (F.rep x))), move ρ (F.rep x) (F.rep y) _ ab (h₂ x))
        where
          h₁ : Half₁ ρ F
          h₁ = ((halves ρ F).0 s.0).0

          h₂ : Half₂ ρ F
          h₂ = ((halves ρ F).0 s.0).1

          ab : ρ (F.rep x) ≡ ρ (F.rep y)
          ab = sym (h₁ x) ∙ s.1 ∙ h₁ y

          go₁ : (z : ℕ) → Dec (F.rep z ≡ F.rep x) → ρ z ≡ ρ (F'.rep z)
          go₁ z (yes i) = h₁ z ∙ ap ρ i ∙ ab ∙ ap ρ (sym (near z i))
          go₁ z (no n) = h₁ z ∙ ap ρ (sym (far z n))

          go₂ : (z : ℕ) → Dec (F.rep z ≡ F.rep x) → Holds ρ (F'.rep z) (F'.bnd (F'.rep z))
          go₂ z (yes i) = rw (near z i, hb (F.rep y) ne) (h₂ y)
          go₂ z (no n) = rw (far z n, hb (F.rep z) n) (h₂ z)

      from_it : Solves ρ F' × Holds ρ (F.rep y) (F.bnd (F.rep x)) → Solves ρ F × (ρ x ≡ ρ y)
      from_it s = ((halves ρ F).1 (k₁, λ z. k₂ z (ℕ_discrete (F.rep z) (F.rep x))), k₁ x ∙ ab ∙ sym (k₁ y))
        where
          h₁ : Half₁ ρ F'
          h₁ = ((halves ρ F').0 s.0).0

          h₂ : Half₂ ρ F'
          h₂ = ((halves ρ F').0 s.0).1

          ab : ρ (F.rep x) ≡ ρ (F.rep y)
          ab = h₁ (F.rep x) ∙ ap ρ (near (F.rep x) (F.idem x))

          k₁ : Half₁ ρ F
          k₁ z = go (ℕ_discrete (F.rep z) (F.rep x))
            where
              go : Dec (F.rep z ≡ F.rep x) → ρ z ≡ ρ (F.rep z)
              go (yes i) = h₁ z ∙ ap ρ (near z i) ∙ sym ab ∙ ap ρ (sym i)
              go (no n) = h₁ z ∙ ap ρ (far z n)

          k₂ : (z : ℕ) → Dec (F.rep z ≡ F.rep x) → Holds ρ (F.rep z) (F.bnd (F.rep z))
          k₂ z (yes i) = rw i (move ρ (F.rep y) (F.rep x) _ (sym ab) s.1)
          k₂ z (no n) = subst (λ b. Holds ρ (F.rep z) b) (hb (F.rep z) n) (subst (λ v. Holds ρ v (F'.bnd v)) (far z n) (h₂ z))

-- v, an unbound representative, is bound
module _ (F F' : Form) (v : ℕ) (b : Bnd) (rv : F.rep v ≡ v) (fr : F.bnd v ≡ free) (hr : (z : ℕ) → F'.rep z ≡ F.rep z) (hv : F'.bnd v ≡ b) (hb : (z : ℕ) → (z ≡ v → ⊥) → F'.bnd z ≡ F.bnd z) where
  pub put_sem : (ρ : Asg) → (Solves ρ F × Holds ρ v b) ↔ Solves ρ F'
  unfolding Holds
  put_sem ρ = (to_it, from_it)
    where
      to_it : Solves ρ F × Holds ρ v b → Solves ρ F'
      to_it s = (halves ρ F').1 (λ z. ((halves ρ F).0 s.0).0 z ∙ ap ρ (sym (hr z)), λ z. rw (hr z) (go z (ℕ_discrete (F.rep z) v)))
        where
          go : (z : ℕ) → Dec (F.rep z ≡ v) → Holds ρ (F.rep z) (F'.bnd (F.rep z))
          go z (yes i) = rw (i, hv) s.1
          go z (no n) = rw (hb (F.rep z) n) (((halves ρ F).0 s.0).1 z)

      from_it : Solves ρ F' → Solves ρ F × Holds ρ v b
      from_it s = ((halves ρ F).1 (λ z. h.0 z ∙ ap ρ (hr z), λ z. go z (ℕ_discrete (F.rep z) v)), subst (Holds ρ v) hv (subst (λ w. Holds ρ w (F'.bnd w)) (hr v ∙ rv) (h.1 v)))
        where
          h : Half₁ ρ F' × Half₂ ρ F'
          h = (halves ρ F').0 s

          go : (z : ℕ) → Dec (F.rep z ≡ v) → Holds ρ (F.rep z) (F.bnd (F.rep z))
          go z (yes i) = rw (i, fr) tt
          go z (no n) = subst (Holds ρ (F.rep z)) (hb (F.rep z) n) (subst (λ w. Holds ρ w (F'.bnd w)) (hr z) (h.1 z))
