-- No local inside a node stands in a constraint that is stored around it.
use mathlib.Core.Path.{◌≡◌, subst}
use mathlib.Core.Logic.{inl, inr}
use mathlib.Core.List.{List, [], ◌∷◌}
use Prim.Native.Nat.{ℕ}
use Rattle.constraint.specs.Constraint.{Store, Fresh, vars, vars_all}
use Rattle.constraint.proofs.Lists.{In-append}
use Rattle.akl.specs.Configuration.{Kind, goal, Node, Ctx, plug, env}
use Rattle.akl.specs.Stability.{locals}
use Rattle.theory.specs.Scope.{Disjoint, Ok}
use Rattle.theory.specs.Formed.{Formed}
use Rattle.theory.proofs.OwnVariables.{around_apart}
use Rattle.theory.proofs.Reflect.{formed_iff}
use Rattle.store_form.specs.State.{State, program_of, names_of, config_of}
use Rattle.store_steps.specs.After.{Stands}

pub fresh_apart : (vs : List ℕ) (σ : Store) → Disjoint vs (vars_all σ) → Fresh vs σ
unfolding vars_all
fresh_apart vs [] d = tt
fresh_apart vs (c ∷ σ) d = (λ x i j. d x j ((In-append x (vars c) (vars_all σ)).1 (inl i)), fresh_apart vs σ (λ x i j. d x i ((In-append x (vars c) (vars_all σ)).1 (inr j))))

-- a well-formed state, part by part
pub formed_state : (limit : ℕ) (s : State) → Stands limit s → Formed limit (program_of s) (names_of s) (config_of s)
formed_state limit s h = (formed_iff limit (program_of s) (names_of s) (config_of s)).0 h.formed

module _ (limit : ℕ) (s : State) (h : Stands limit s) {k : Kind} (χ : Ctx k) (n : Node k) (e : s.config.root ≡ plug χ n) where
  placed_ok : Ok (plug χ n) s.config.next []
  placed_ok = subst (λ (g : Node goal). Ok g s.config.next []) e (formed_state limit s h).scopes

  pub fresh : Fresh (locals n) (env χ)
  fresh = fresh_apart (locals n) (env χ) (around_apart χ n s.config.next placed_ok)
