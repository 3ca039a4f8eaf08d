-- The start of a query: well formed, with exactly the query's solutions.
use mathlib.Core.Path.{◌≡◌, refl, ap, sym, ◌∙◌, subst}
use mathlib.Core.Logic.{◌↔◌, ◌⊎◌, inl, inr}
use mathlib.Core.List.{List, [], ◌∷◌, ◌++◌}
use mathlib.Core.Bool.{Bool, true, false, ◌&&◌}
use Prim.Native.Nat.{ℕ, zero, suc, ◌+◌, ◌≤◌, ◌<◌}
use native.Mathlib.Omega.{arith}
use lib.Dec.{T}
use Rattle.constraint.specs.Constraint.{Asg, In, Off, vars_all}
use Rattle.constraint.specs.Solve.{distinct}
use Rattle.constraint.proofs.Lists.{and_T, In-append}
use Rattle.akl.specs.Base.{Name, size, all, range, Result, ok}
use Rattle.akl.specs.Syntax.{Stmt, Program}
use Rattle.akl.specs.Reader.{Query}
use Rattle.akl.specs.Configuration.{Kind, goal, Node, or, and, stmt, Nodes, nil, cons, one, Config, start_config}
use Rattle.akl.specs.Limits.{last_number}
use Rattle.akl.specs.Parts.{parts}
use Rattle.akl.specs.Stability.{locals}
use Rattle.theory.specs.Meaning.{Atoms, Holds, hidden_locals, nothing, HoldsWith, Solution, QuerySolution}
use Rattle.akl.specs.WellFormed.{numbers, program_passes, names_pass, is_or, statements_pass}
use Rattle.akl.specs.Record.{start}
use Rattle.theory.specs.Scope.{Sub, Disjoint, Below, Ok, OkAll, Apart}
use Rattle.theory.specs.Formed.{QueryLocal, Formed, QueryFits}
use Rattle.theory.proofs.Statements.{holds_on}
use Rattle.theory.proofs.Agreement.{hidden_In}
use Rattle.theory.proofs.Locals.{range_In, In-range}
use Rattle.theory.proofs.RuleKeeps.{distinct_range}
use Rattle.theory.proofs.Passing.{Passes}
use Rattle.theory.proofs.Closed.{any_number}
use Rattle.theory.proofs.InContext.{Pass, pass_cons, pass_and}
use Rattle.accept.proofs.Accepted.{limits_iff}

module _ (P : Program) (good : T (program_passes P)) (q : Query) (f : QueryFits P q) where
  abbrev n : ℕ
  n = size q.variables

  abbrev root₀ : Node goal
  root₀ = or (one (and (range 0 n) [] (one (stmt q.statement))))

  start_ok : Ok root₀ n []
  unfolding vars_all locals
  start_ok = ((distinct_range 0 [] 0 n, (λ x i. omega (arith, range_In x 0 n i)), (λ x i j. j), (λ x i. absurd i), ((λ x i. In-range x 0 n (omega arith) (omega (arith, f.own x i))), tt), ((λ x i j. absurd i), tt)), tt)

  start_pass : Pass P root₀
  unfolding statements_pass all
  start_pass = (pass_cons P (and (range 0 n) [] (one (stmt q.statement))) nil).1 ((pass_and P (range 0 n) [] (one (stmt q.statement))).1 (tt, (pass_cons P (stmt q.statement) nil).1 (f.passes, tt)), tt)

  -- The start is well formed.
  pub start_formed : (limit : ℕ) (c : Config) → start limit q ≡ ok c → Formed limit P q.variables c
  unfolding start start_config locals
  start_formed limit c e = subst (Formed limit P q.variables) l.0 (record { program = good; names = f.names; top_or = tt; statements = start_pass; scopes = start_ok; query = (((λ x i. i), (λ x i. absurd i)), tt); above = omega arith; last = l.1; fit = l.2 })
    where
      l : (start_config q ≡ c) × ((start_config q).next ≤ suc last_number) × (parts (start_config q).root ≤ limit)
      l = (limits_iff limit (start_config q) c).0 e

  hides_none : (x : ℕ) → In x (hidden_locals n (range 0 n)) → ⊥
  hides_none x i = none (range_In x 0 n ((hidden_In n x (range 0 n)).0 i).0) ((hidden_In n x (range 0 n)).0 i).1
    where
      none : (0 ≤ x) × (x < 0 + n) → n ≤ x → ⊥
      none a b = omega arith

  -- It has exactly the query's solutions.
  pub start_solutions : (limit : ℕ) (c : Config) → start limit q ≡ ok c → (ρ : Asg) → Solution P n c ρ ↔ QuerySolution P q ρ
  unfolding start start_config
  start_solutions limit c e ρ = subst (λ d. Solution P n d ρ ↔ QuerySolution P q ρ) ((limits_iff limit (start_config q) c).0 e).0 (to_it, from_it)
    where
      to_it : HoldsWith root₀ (Atoms P) n ρ nothing → Holds q.statement (Atoms P) ρ []
      to_it (inr i) = elim i [ ]
      to_it (inl h) = holds_on (Atoms P) h.0 ρ q.statement [] (λ x i. sym (h.1 x (hides_none x))) h.3.0.0

      from_it : Holds q.statement (Atoms P) ρ [] → HoldsWith root₀ (Atoms P) n ρ nothing
      from_it h = inl (ρ, (λ x m. refl), tt, ((h, tt), tt), tt)
