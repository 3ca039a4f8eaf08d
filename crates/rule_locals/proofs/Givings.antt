-- What is marked where variables were given a mark. Assumes nothing.
use mathlib.Core.Path.{◌≡◌, ◌∙◌}
use mathlib.Core.List.{List, []}
use Prim.Native.Nat.{ℕ}
use native.Mathlib.Omega.{arith}
use native.Mathlib.Decide.{ℕ_discrete}
use lib.ListN.{get_or}
use Rattle.constraint.specs.Constraint.{In}
use Rattle.constraint.proofs.Trees.{dec_in}
use Rattle.solve_quiet.specs.Owners.{Outer}
use Rattle.solve_quiet.specs.Solver.{Marking}
use Rattle.work_tables.specs.Tables.{locals_of}
use Rattle.rule_locals.specs.Inside.{Given}

-- what is not marked has no mark
outer : (l : List ℕ) (x : ℕ) → ((Outer l x → ⊥) → ⊥) → Outer l x
outer l x h = go (ℕ_discrete (get_or l x 0) 0)
  where
    go : Dec (get_or l x 0 ≡ 0) → Outer l x
    go (yes e) = e
    go (no e) = absurd (h e)

module _ {L X vs : List ℕ} where
  -- none was marked, now those are
  pub marked_now : Given L vs 1 X → Marking (locals_of L) [] → Marking (locals_of X) vs
  marked_now g m = λ x. (λ i o. omega (arith, g.inside x i, o), λ n. go x n (dec_in x vs))
    where
      go : (x : ℕ) → (Outer (locals_of X) x → ⊥) → Dec (In x vs) → In x vs
      go x n (yes i) = i
      go x n (no i) = absurd (n (g.others x i ∙ outer (locals_of L) x (λ o. (m x).1 o)))

  -- those were marked, now none is
  pub unmarked_now : Given L vs 0 X → Marking (locals_of L) vs → Marking (locals_of X) []
  unmarked_now g m = λ x. (λ i. absurd i, λ n. n (go x (dec_in x vs)))
    where
      go : (x : ℕ) → Dec (In x vs) → Outer (locals_of X) x
      go x (yes i) = g.inside x i
      go x (no i) = g.others x i ∙ outer (locals_of L) x (λ o. i ((m x).1 o))
