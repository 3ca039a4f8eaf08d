-- A configuration's solutions, and a query's, depend on the trees for the query's variables alone. And what is stored around a
-- node mentions the variables around it, and none of its locals.
use mathlib.Core.Path.{◌≡◌, refl, sym}
use mathlib.Core.Logic.{◌↔◌, ◌⊎◌, inl, inr}
use mathlib.Core.List.{List, [], ◌∷◌, ◌++◌}
use Prim.Native.Nat.{ℕ, ◌<◌}
use Rattle.constraint.specs.Constraint.{Asg, In, vars_all}
use Rattle.akl.specs.Base.{Name, size}
use Rattle.akl.specs.Syntax.{Program}
use Rattle.akl.specs.Reader.{Query}
use Rattle.akl.specs.Configuration.{Kind, Node, or, and, choice_box, guard, cons, ◌+n◌, Ctx, top, in_or, in_and, in_choice, in_guard, plug, env, Config}
use Rattle.akl.specs.Stability.{locals}
use Rattle.theory.specs.Meaning.{Atoms, nothing, Solution, QuerySolution, SameBelow}
use Rattle.theory.specs.Scope.{Sub, Disjoint, Ok, scope}
use Rattle.theory.specs.Formed.{Formed, QueryFits}
use Rattle.theory.proofs.Statements.{holds_on}
use Rattle.theory.proofs.Agreement.{nothing_fits, goal_on}
use Rattle.theory.proofs.Lists.{ok_mid}
use Rattle.theory.proofs.Context.{vars_within}
use Rattle.theory.proofs.Scopes.{ok_apart}

same_sym : (q : ℕ) (ρ ρ' : Asg) → SameBelow q ρ ρ' → SameBelow q ρ' ρ
same_sym q ρ ρ' a x l = sym (a x l)

one_way : (limit : ℕ) (P : Program) (xs : List Name) (c : Config) → Formed limit P xs c → (ρ ρ' : Asg) → SameBelow (size xs) ρ ρ' →
    Solution P (size xs) c ρ → Solution P (size xs) c ρ'
one_way limit P xs c f ρ ρ' a h = goal_on (Atoms P) (size xs) c.root c.next [] f.scopes nothing (nothing_fits c.root []) ρ ρ' (λ x i. elim i [ inl e ↦ absurd e | inr l ↦ a x l ]) h

pub solution_own : (limit : ℕ) (P : Program) (xs : List Name) (c : Config) → Formed limit P xs c → (ρ ρ' : Asg) → SameBelow (size xs) ρ ρ' →
    Solution P (size xs) c ρ ↔ Solution P (size xs) c ρ'
solution_own limit P xs c f ρ ρ' a = (one_way limit P xs c f ρ ρ' a, one_way limit P xs c f ρ' ρ (same_sym (size xs) ρ ρ' a))

pub query_own : (P : Program) (query : Query) → QueryFits P query → (ρ ρ' : Asg) → SameBelow (size query.variables) ρ ρ' →
    QuerySolution P query ρ ↔ QuerySolution P query ρ'
query_own P query f ρ ρ' a = (holds_on (Atoms P) ρ ρ' query.statement [] (λ x i. a x (f.own x i)), holds_on (Atoms P) ρ' ρ query.statement [] (λ x i. sym (a x (f.own x i))))

-- ---------------------------------------------------------------------------------------------
-- Around a node.

-- the node is as it may stand there, and the environment mentions variables around it
pub around_ok : {k : Kind} (χ : Ctx k) (n : Node k) (N : ℕ) → Ok (plug χ n) N [] → Ok n N (scope χ) × Sub (vars_all (env χ)) (scope χ)
unfolding plug env scope vars_all
around_ok top n N w = (w, λ x i. i)
around_ok (in_or χ l r) n N w = let h = around_ok χ (or (l +n cons n r)) N w in (ok_mid l r n N (scope χ) h.0, h.1)
around_ok (in_and χ vs σ l r) n N w =
    let h = around_ok χ (and vs σ (l +n cons n r)) N w in
    (ok_mid l r n N (scope χ ++ vs) h.0.4, vars_within (env χ) σ (scope χ) vs h.1 h.0.3)
around_ok (in_choice χ op l r) n N w = let h = around_ok χ (choice_box op (l +n cons n r)) N w in (ok_mid l r n N (scope χ) h.0, h.1)
around_ok (in_guard χ b) n N w = let h = around_ok χ (guard n b) N w in (h.0.0, h.1)

-- none of them is a local of the node
pub around_apart : {k : Kind} (χ : Ctx k) (n : Node k) (N : ℕ) → Ok (plug χ n) N [] → Disjoint (locals n) (vars_all (env χ))
around_apart χ n N w x i j = let h = around_ok χ n N w in ok_apart n N (scope χ) h.0 x i (h.1 x j)
