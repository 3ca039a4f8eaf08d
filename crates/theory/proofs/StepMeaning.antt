-- No transition adds a solution; none but those of rules 7 and 8 loses one: for the goal that is rewritten, where its
-- environment holds.
use mathlib.Core.Path.{◌≡◌, refl, ap, sym, ◌∙◌, subst}
use mathlib.Core.Logic.{◌↔◌, ◌⊎◌, inl, inr}
use mathlib.Core.List.{List, [], ◌∷◌, ◌++◌}
use Prim.Native.Nat.{ℕ, zero, suc, ◌+◌, ◌≤◌}
use lib.Dec.{T}
use Rattle.constraint.specs.Constraint.{Store}
use Rattle.akl.specs.Base.{size}
use Rattle.akl.specs.Syntax.{Op, wait, cond, commit, Stmt, atom, call, Program}
use Rattle.akl.specs.Configuration.{Kind, goal, member, guarded, Node, or, and, stmt, choice_box, guard, Nodes, nil, cons, ◌+n◌, one, failure, Ctx, env}
use Rattle.akl.specs.Places.{Place}
use Rattle.theory.specs.Meaning.{Atoms}
use Rattle.akl.specs.WellFormed.{program_passes, statements_pass}
use Rattle.theory.specs.Scope.{scope}
use Rattle.theory.specs.Entails.{Entails}
use Rattle.theory.specs.Transition.{Transition, constraint_atom, program_atom, composition, hiding, choosing, promotion, condition, committing, environment_failure, goal_failure, guard_failure, splitting, distribution, flattening}
use Rattle.theory.proofs.RuleMeaning.{atom_to, atom_from, comp_to, comp_from, condition_from, commit_from, failure_to, failure_from, empty_to, gone_to, gone_from, split_to, split_from, distribute_to, distribute_from, flatten_to, flatten_from}
use Rattle.theory.proofs.LocalMeaning.{call_to, call_from, hide_to, hide_from, choose_to, choose_from, promote_to, promote_from}
use Rattle.theory.proofs.Passing.{body_no_numbers}
use Rattle.theory.proofs.InContext.{Pass}
use Rattle.theory.proofs.StepKeeps.{closed_atom, closed_call, pass_member}

module _ (P : Program) (good : T (program_passes P)) (q N : ℕ) (above : q ≤ N) where
  pub gains_none : {r : ℕ} {pl : Place} {k : Kind} {χ : Ctx k} {n n' : Node k} {N' : ℕ} → Transition P N r pl k χ n n' N' → Pass P n → Entails (Atoms P) q N' N (scope χ) (env χ) n' n
  unfolding statements_pass
  gains_none (constraint_atom χ vs σ l r c) h = atom_from (Atoms P) q (scope χ) (env χ) vs σ l r c (closed_atom P c (pass_member P vs σ l r (atom c) h).2) N N
  gains_none (program_atom χ p xs b e) h = call_from P q (scope χ) (env χ) p xs b e (closed_call P p xs h) (body_no_numbers P good p (size xs) b e) N N
  gains_none (composition χ vs σ l r a b) h = comp_from (Atoms P) q (scope χ) (env χ) vs σ l r a b N N
  gains_none (hiding χ vs σ l r n a) h = hide_from (Atoms P) q N above (scope χ) (env χ) vs σ l r n a (N + n)
  gains_none (choosing χ op cs) h = choose_from (Atoms P) q N above (scope χ) (env χ) op cs _
  gains_none (promotion χ ws θ l r op vs σ b e) h = promote_from (Atoms P) q N (scope χ) (env χ) ws θ l r op vs σ b N
  gains_none (condition χ l r vs σ b e s) h = condition_from (Atoms P) q (scope χ) (env χ) cond l r (guard (and vs σ nil) b) N N
  gains_none (committing χ l r vs σ b e s) h = commit_from (Atoms P) q (scope χ) (env χ) commit l r (guard (and vs σ nil) b) N N
  gains_none (environment_failure χ vs σ ms u) h = failure_from (Atoms P) q (scope χ) (env χ) (and vs σ ms) N N
  gains_none (goal_failure χ vs σ l r op) h = failure_from (Atoms P) q (scope χ) (env χ) (and vs σ (l +n cons (choice_box op nil) r)) N N
  gains_none (guard_failure χ op l r b) h = gone_from (Atoms P) q (scope χ) (env χ) op l r b N N
  gains_none (splitting χ vs σ l r us τ b t ts) h = split_from (Atoms P) q (scope χ) (env χ) vs σ l r wait (guard (and us τ nil) b) (cons t ts) N N
  gains_none (distribution χ op l r g gs b) h = distribute_from (Atoms P) q (scope χ) (env χ) op l r g gs b N N
  gains_none (flattening χ l r ns) h = flatten_from (Atoms P) q (scope χ) (env χ) l r ns N N

  pub loses_none : {r : ℕ} {pl : Place} {k : Kind} {χ : Ctx k} {n n' : Node k} {N' : ℕ} → Transition P N r pl k χ n n' N' → ¬ (r ≡ 7) → ¬ (r ≡ 8) → Pass P n → Entails (Atoms P) q N N' (scope χ) (env χ) n n'
  unfolding statements_pass
  loses_none (constraint_atom χ vs σ l r c) x y h = atom_to (Atoms P) q (scope χ) (env χ) vs σ l r c (closed_atom P c (pass_member P vs σ l r (atom c) h).2) N N
  loses_none (program_atom χ p xs b e) x y h = call_to P q (scope χ) (env χ) p xs b e (closed_call P p xs h) (body_no_numbers P good p (size xs) b e) N N
  loses_none (composition χ vs σ l r a b) x y h = comp_to (Atoms P) q (scope χ) (env χ) vs σ l r a b N N
  loses_none (hiding χ vs σ l r n a) x y h = hide_to (Atoms P) q N above (scope χ) (env χ) vs σ l r n a (N + n)
  loses_none (choosing χ op cs) x y h = choose_to (Atoms P) q N above (scope χ) (env χ) op cs _
  loses_none (promotion χ ws θ l r op vs σ b e) x y h = promote_to (Atoms P) q N (scope χ) (env χ) ws θ l r op vs σ b N
  loses_none (condition χ l r vs σ b e s) x y h = absurd (x refl)
  loses_none (committing χ l r vs σ b e s) x y h = absurd (y refl)
  loses_none (environment_failure χ vs σ ms u) x y h = failure_to (Atoms P) q (scope χ) (env χ) vs σ ms u N N
  loses_none (goal_failure χ vs σ l r op) x y h = empty_to (Atoms P) q (scope χ) (env χ) vs σ l r op N N
  loses_none (guard_failure χ op l r b) x y h = gone_to (Atoms P) q (scope χ) (env χ) op l r b N N
  loses_none (splitting χ vs σ l r us τ b t ts) x y h = split_to (Atoms P) q (scope χ) (env χ) vs σ l r wait (guard (and us τ nil) b) (cons t ts) N N
  loses_none (distribution χ op l r g gs b) x y h = distribute_to (Atoms P) q (scope χ) (env χ) op l r g gs b N N
  loses_none (flattening χ l r ns) x y h = flatten_to (Atoms P) q (scope χ) (env χ) l r ns N N
