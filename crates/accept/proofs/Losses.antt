-- Rules 7 and 8 do lose solutions: an example of each. The query `(true -> X = b ; X = a -> true).`, and the same with `|`,
-- after its guards were solved.
use mathlib.Core.Path.{◌≡◌, refl, ap, sym, ◌∙◌, subst}
use mathlib.Core.Logic.{◌↔◌, ◌⊎◌, inl, inr}
use mathlib.Core.List.{List, [], ◌∷◌, ◌++◌}
use mathlib.Core.Option.{Option, some, none}
use Prim.Native.Nat.{ℕ, zero, suc}
use native.Mathlib.Omega.{arith}
use Rattle.constraint.specs.Tree.{Tree, node, fnil}
use Rattle.constraint.specs.Constraint.{Asg, capp, ctrue}
use Rattle.akl.specs.Base.{bytes, bytes_from, Result, ok}
use Rattle.akl.specs.Syntax.{number, Op, cond, commit, atom}
use Rattle.akl.specs.StepsText.{Step}
use Rattle.akl.specs.Configuration.{goal, guarded, Node, or, and, choice_box, guard, Nodes, nil, cons, one, Config}
use Rattle.akl.specs.Step.{step}
use Rattle.constraint.specs.Solve.{keep}
use Rattle.theory.specs.Meaning.{Atoms, nothing, Any, Solution}
use Rattle.akl.specs.Computed.{everything}

a : Tree
a = node (97 ∷ []) fnil

b : Tree
b = node (98 ∷ []) fnil

first : Node guarded
first = guard (and [] [] nil) (atom (capp (number 0) (98 ∷ []) []))

second : Node guarded
second = guard (and [] (capp 0 (97 ∷ []) [] ∷ []) nil) (atom ctrue)

config : Op → Nodes guarded → Config
config op gs = record { root = or (one (and (0 ∷ []) [] (one (choice_box op gs)))); next = 1 }

both : Op → Config
both op = config op (cons first (one second))

only : Op → Config
only op = config op (one first)

seven : step 99 [] (both cond) (record { rule = 7; place = 3; argument = 0 }) ≡ ok (only cond)
unfolding everything both only config first second
seven = refl

eight : step 99 [] (both commit) (record { rule = 8; place = 3; argument = 0 }) ≡ ok (only commit)
unfolding everything both only config first second
eight = refl

-- X = a is a solution before, and none after
all_a : Asg
all_a x = a

had : (op : Op) → Solution [] 1 (both op) all_a
unfolding both config first second all_a a
had op = inl (all_a, (λ x n. refl), tt, ((inr (inl ((all_a, (λ x n. refl), (refl, tt), tt, tt), tt)), tt), tt), tt)

a_not_b : a ≡ b → ⊥
unfolding a b
a_not_b e = let z : ◌≡◌ {A = ℕ} 97 98 = cc e in omega arith

lost : (op : Op) → Solution [] 1 (only op) all_a → ⊥
unfolding only config first all_a keep b
lost op (inr i) = elim i [ ]
lost op (inl h) = go h.3.0.0
  where
    ρ : Asg
    ρ = h.0

    go : Any (one first) (Atoms []) 1 ρ nothing → ⊥
    go (inr i) = elim i [ ]
    go (inl g) = a_not_b (h.1 0 (λ i. i) ∙ g.0.1 0 (λ i. i) ∙ g.0.4)

-- Each loses a solution.
pub record Loses (r : ℕ) : Type 0 where
  pub before : Config
  pub after : Config
  pub place : ℕ
  pub accepted : step 99 [] before (record { rule = r; place = place; argument = 0 }) ≡ ok after
  pub trees : Asg
  pub solution : Solution [] 1 before trees
  pub no_solution : Solution [] 1 after trees → ⊥

pub condition_loses : Loses 7
condition_loses = record { before = both cond; after = only cond; place = 3; accepted = seven; trees = all_a; solution = had cond; no_solution = lost cond }

pub commit_loses : Loses 8
commit_loses = record { before = both commit; after = only commit; place = 3; accepted = eight; trees = all_a; solution = had commit; no_solution = lost commit }
