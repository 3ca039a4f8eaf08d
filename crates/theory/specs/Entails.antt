-- One node entails another where an environment holds: whatever trees make the first hold, together with a body that it is
-- the guard of, make the second hold with that body. Both are as they may stand where xs are the variables around.
use Rattle.std.specs.Prelude.{List, ℕ}
use Rattle.constraint.specs.Constraint.{Store, Asg, Sats, vars_all}
use Rattle.akl.specs.Syntax.{Stmt}
use Rattle.akl.specs.Configuration.{Kind, Node}
use Rattle.theory.specs.Meaning.{Model, HoldsWith}
use Rattle.theory.specs.Scope.{Sub, Below, Fits, Ok}

abbrev pub Entails : Model → ℕ → ℕ → ℕ → List ℕ → Store → {k : Kind} → Node k → Node k → Type 0
Entails Q q N N' xs θ n n' = Ok n N xs → Ok n' N' xs → Below xs N → Below xs N' → Sub (vars_all θ) xs → (ρ : Asg) → Sats ρ θ → (b : Stmt) → Fits xs n b → Fits xs n' b → HoldsWith n Q q ρ b → HoldsWith n' Q q ρ b
