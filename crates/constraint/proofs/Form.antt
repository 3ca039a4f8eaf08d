-- A form: the representative of each variable's class, and what each representative is bound to.
use mathlib.Core.Path.{◌≡◌}
use mathlib.Core.Logic.{◌↔◌}
use mathlib.Core.List.{List}
use Prim.Native.Nat.{ℕ, ◌<◌}
use Rattle.constraint.specs.Tree.{Label, Tree, node}
use Rattle.constraint.specs.Constraint.{Asg, trees, In, Store, Sats}
use Rattle.constraint.specs.Solve.{Bnd, free, fun, St, find}

pub record Form : Type 0 where
  pub rep : ℕ → ℕ
  pub bnd : ℕ → Bnd
  pub idem : (x : ℕ) → rep (rep x) ≡ rep x

-- what a class's tree is: t where it is unbound
abbrev pub build : Asg → Tree → Bnd → Tree
build ρ t free = t
build ρ t (fun f ys) = node f (trees ρ ys)

abbrev pub at : Form → ℕ → Bnd
at F x = F.bnd (F.rep x)

abbrev pub Solves : Asg → Form → Type 0
Solves ρ F = (x : ℕ) → ρ x ≡ build ρ (ρ (F.rep x)) (at F x)

-- the arguments of a binding have lower rank than k
abbrev pub Below : (ℕ → ℕ) → ℕ → Bnd → Type 0
Below rk k free = Unit {0}
Below rk k (fun f ys) = (y : ℕ) → In y ys → rk y < k

pub record Ranked (F : Form) : Type 0 where
  pub rk : ℕ → ℕ
  pub top : ℕ
  pub low : (x : ℕ) → rk x < top
  pub down : (x : ℕ) → Below rk (rk x) (at F x)

pub record Stuck (F : Form) : Type 1 where
  pub S : ℕ → Type 0
  pub some_one : ℕ
  pub holds : S some_one
  pub next : (x : ℕ) → S x → (f : Label) × (ys : List ℕ) × (y : ℕ) × (at F x ≡ fun f ys) × In y ys × S y

-- the form has the solutions of the store
abbrev pub Of : Form → Store → Type 0
Of F σ = (ρ : Asg) → Sats ρ σ ↔ Solves ρ F

-- the form of a state of the decision
abbrev pub form : St → Form
form s = record { rep = s.rep; bnd = λ x. find x s.bs; idem = s.idem }
