-- Solved forms: a ranked one has exactly one solution for any trees of its free classes; a stuck one has none.
use mathlib.Core.Path.{◌≡◌, refl, ap, sym, ◌∙◌}
use mathlib.Core.List.{List}
use Prim.Native.Nat.{ℕ, zero, suc, ◌<◌}
use native.Mathlib.Omega.{arith}
use Rattle.constraint.specs.Tree.{Label, Tree, node, tree_size}
use Rattle.constraint.specs.Constraint.{Asg, In}
use Rattle.constraint.specs.Solve.{Bnd, free, fun}
use Rattle.constraint.proofs.Form.{Form, build, at, Solves, Below, Ranked, Stuck}
use Rattle.constraint.proofs.Trees.{arg_le, trees_agree}

-- a stuck form has no solution: each tree of S has a smaller one of S below it
pub stuck_none : (F : Form) → Stuck F → (ρ : Asg) → Solves ρ F → ⊥
unfolding tree_size
stuck_none F s ρ h = go (suc (tree_size (ρ s.some_one))) s.some_one s.holds (omega arith)
  where
    smaller : (x y : ℕ) (f : Label) (ys : List ℕ) → at F x ≡ fun f ys → In y ys → tree_size (ρ y) < tree_size (ρ x)
    smaller x y f ys e i = rw (h x, e) (omega (arith, arg_le ρ y ys i))

    go : (n : ℕ) (x : ℕ) → s.S x → tree_size (ρ x) < n → ⊥
    go zero x m l = omega arith
    go (suc n) x m l =
        let w = s.next x m in
        go n w.2 w.5 (omega (arith, smaller x w.2 w.0 w.1 w.3 w.4))

pub at_rep : (F : Form) (x : ℕ) → at F (F.rep x) ≡ at F x
at_rep F x = ap F.bnd (F.idem x)

module _ (F : Form) (R : Ranked F) where
  -- the tree of x down to depth n, the unbound classes having theirs from π
  val : Asg → ℕ → Asg
  val π zero x = π x
  val π (suc n) x = build (val π n) (π (F.rep x)) (at F x)

  build_agree : (ρ ρ' : Asg) (t : Tree) (k : ℕ) (b : Bnd) → Below R.rk k b → ((y : ℕ) → R.rk y < k → ρ y ≡ ρ' y) → build ρ t b ≡ build ρ' t b
  build_agree ρ ρ' t k free w h = refl
  build_agree ρ ρ' t k (fun f ys) w h = ap (node f) (trees_agree ρ ρ' ys (λ y i. h y (w y i)))

  stable : (π : Asg) (n m x : ℕ) → R.rk x < n → R.rk x < m → val π n x ≡ val π m x
  unfolding val
  stable π zero m x a b = absurd (omega arith)
  stable π (suc n) zero x a b = absurd (omega arith)
  stable π (suc n) (suc m) x a b = build_agree (val π n) (val π m) (π (F.rep x)) (R.rk x) (at F x) (R.down x) (λ y l. stable π n m y (omega arith) (omega arith))

  -- every choice for the unbound classes extends to a solution
  pub solution : Asg → Asg
  solution π = val π R.top

  pub solution_eq : (π : Asg) (x : ℕ) → solution π x ≡ build (solution π) (π (F.rep x)) (at F x)
  unfolding solution val
  solution_eq π x = stable π R.top (suc R.top) x (R.low x) (omega (arith, R.low x))

  pub solution_free : (π : Asg) (x : ℕ) → at F x ≡ free → solution π x ≡ π (F.rep x)
  solution_free π x e = solution_eq π x ∙ ap (build (solution π) (π (F.rep x))) e

  pub solution_solves : (π : Asg) → Solves (solution π) F
  solution_solves π x = go (at F x) refl
    where
      go : (b : Bnd) → at F x ≡ b → solution π x ≡ build (solution π) (solution π (F.rep x)) (at F x)
      go free e = rw e (solution_free π x e ∙ ap π (sym (F.idem x)) ∙ sym (solution_free π (F.rep x) (at_rep F x ∙ e)))
      go (fun f ys) e = solution_eq π x ∙ rw e

  -- a solution is determined by the trees of the unbound classes
  pub solution_unique : (ρ ρ' : Asg) → Solves ρ F → Solves ρ' F → ((x : ℕ) → at F x ≡ free → F.rep x ≡ x → ρ x ≡ ρ' x) → (x : ℕ) → ρ x ≡ ρ' x
  solution_unique ρ ρ' s s' h x = go R.top x (R.low x)
    where
      go : (n x : ℕ) → R.rk x < n → ρ x ≡ ρ' x
      go zero x l = absurd (omega arith)
      go (suc n) x l = s x ∙ by_cases (at F x) refl (R.down x) (λ y k. go n y k) ∙ sym (s' x)
        where
          by_cases : (b : Bnd) → at F x ≡ b → Below R.rk (R.rk x) b → ((y : ℕ) → R.rk y < n → ρ y ≡ ρ' y) → build ρ (ρ (F.rep x)) b ≡ build ρ' (ρ' (F.rep x)) b
          by_cases free e w ih = h (F.rep x) (at_rep F x ∙ e) (F.idem x)
          by_cases (fun f ys) e w ih = ap (node f) (trees_agree ρ ρ' ys (λ y i. ih y (omega (arith, w y i))))
