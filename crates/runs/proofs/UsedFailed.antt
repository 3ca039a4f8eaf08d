-- Closed uses of demand 3 on a run that fails, and on one with a commit step.
use mathlib.Core.Path.{◌≡◌, refl, ap, sym, ◌∙◌, subst}
use mathlib.Core.Logic.{◌↔◌, ◌⊎◌, inl, inr}
use mathlib.Core.List.{List, [], ◌∷◌, ◌++◌}
use Prim.Native.Nat.{ℕ, zero, suc}
use Rattle.constraint.specs.Tree.{Tree, node, fnil}
use Rattle.constraint.specs.Constraint.{Asg, capp}
use Rattle.akl.specs.Base.{bytes, size}
use Rattle.akl.specs.StepsText.{Step}
use Rattle.akl.specs.Reader.{Query, read_query}
use Rattle.akl.specs.Configuration.{Config}
use Rattle.akl.specs.Step.{steps}
use Rattle.akl.specs.Record.{start}
use Rattle.akl.specs.Answers.{failed, final}
use Rattle.akl.specs.Computed.{everything}
use Rattle.theory.specs.Meaning.{Solution, QuerySolution}
use Rattle.runs.specs.Calls.{Call, one_step, steps_text, ask_answer, ask_state, move, after_calls, calls_moves, steps_moves}
use Rattle.runs.specs.Outcomes.{refusal, accepted, shown, stands, outcomes}
use Rattle.runs.specs.RunHolds.{RunHolds}
use Rattle.runs.proofs.Demand3.{demand_3}
use Rattle.runs.proofs.Used.{query_of, config_of, line}

-- ---------------------------------------------------------------------------------------------
-- A failed run.

unfoldable pub q₁ : Query
q₁ = query_of (read_query [] (bytes "X = a, X = b."))

unfoldable pub c₁ : Config
c₁ = config_of (start 2048 q₁)

unfoldable pub ks₁ : List Call
ks₁ = steps_text (bytes "3 2 0\n1 2 0\n9 1 0\n") ∷ one_step (line 1 2 0) ∷ steps_text (bytes "9 1 0\n14 1 0\n") ∷ ask_state ∷ ask_answer 1 99 ∷ []

held : (ks : List Call) → RunHolds 2048 [] q₁ c₁ ks
unfolding everything q₁ c₁ query_of config_of
held ks = demand_3 [] (bytes "X = a, X = b.") [] q₁ c₁ refl refl refl ks

pub failed_outcomes : outcomes 2048 [] q₁.variables c₁ ks₁ ≡ accepted 2 13 ∷ accepted 1 0 ∷ accepted 2 0 ∷ stands failed ∷ refusal 16 ∷ []
unfolding everything q₁ c₁ ks₁ query_of config_of after_calls outcomes
failed_outcomes = refl

-- It is failed and has no answer, so the query has no solution.
pub used_failed : (ρ : Asg) → ¬ QuerySolution [] q₁ ρ
unfolding everything q₁ c₁ ks₁ query_of config_of after_calls calls_moves steps_moves
used_failed ρ s = ((held ks₁).answers_exact (tt, (tt, (tt, (tt, (tt, tt))))) tt ρ).1 s

-- ---------------------------------------------------------------------------------------------
-- A run with a commit step, and more steps behind it.

unfoldable pub q₂ : Query
q₂ = query_of (read_query [] (bytes "(true | X = a ; true | X = b)."))

unfoldable pub c₂ : Config
c₂ = config_of (start 2048 q₂)

unfoldable pub ks₂ : List Call
ks₂ = steps_text (bytes "5 2 0\n1 5 0\n8 3 0\n") ∷ one_step (line 6 2 0) ∷ one_step (line 1 2 0) ∷ []

held_commit : (ks : List Call) → RunHolds 2048 [] q₂ c₂ ks
unfolding everything q₂ c₂ query_of config_of
held_commit ks = demand_3 [] (bytes "(true | X = a ; true | X = b).") [] q₂ c₂ refl refl refl ks

pub commit_outcomes : outcomes 2048 [] q₂.variables c₂ (ks₂ ++ (ask_answer 1 99 ∷ ask_state ∷ [])) ≡ accepted 3 0 ∷ accepted 1 0 ∷ accepted 1 0 ∷ shown (bytes "X = a") ∷ stands final ∷ []
unfolding everything q₂ c₂ ks₂ query_of config_of after_calls outcomes
commit_outcomes = refl

unfoldable pub ran₂ : List Step → Config
ran₂ ss = (steps 2048 [] c₂ 0 ss).config

unfoldable pub told₂ : Config
told₂ = ran₂ (line 5 2 0 ∷ line 1 5 0 ∷ [])

unfoldable pub committed : Config
committed = ran₂ (line 5 2 0 ∷ line 1 5 0 ∷ line 8 3 0 ∷ [])

unfoldable pub promoted : Config
promoted = ran₂ (line 5 2 0 ∷ line 1 5 0 ∷ line 8 3 0 ∷ line 6 2 0 ∷ [])

-- The commit step adds no solution; the promotion behind it neither adds nor loses one.
pub used_commit : (ρ : Asg) → Solution [] 1 committed ρ → Solution [] 1 told₂ ρ
unfolding everything q₂ c₂ ks₂ query_of config_of after_calls calls_moves steps_moves ran₂ told₂ committed
used_commit ρ = ((held_commit ks₂).each_step 2 (move told₂ (line 8 3 0) committed) refl).adds_none ρ

pub used_behind : (ρ : Asg) → Solution [] 1 committed ρ ↔ Solution [] 1 promoted ρ
unfolding everything q₂ c₂ ks₂ query_of config_of after_calls calls_moves steps_moves ran₂ committed promoted
used_behind ρ = let w = (held_commit ks₂).each_step 3 (move committed (line 6 2 0) promoted) refl in (w.loses_none tt ρ, w.adds_none ρ)

-- What its answer allows satisfies the query.
pub used_sound : (ρ : Asg) → ρ 0 ≡ node (bytes "a") fnil → QuerySolution [] q₂ ρ
unfolding everything q₂ c₂ ks₂ query_of config_of after_calls
used_sound ρ e = (held_commit ks₂).answers_sound (0 ∷ [], capp 0 (bytes "a") [] ∷ []) (inl refl) ρ (ρ, (λ x i. refl), (e, tt))
