-- The environment, then the walk. Assumes nothing.
use mathlib.Core.List.{[]}
use native.Mathlib.Omega.{arith}
use Rattle.mem_words.specs.Words.{words}
use Rattle.rule_solve.proofs.Idling.{marks_kept, can_return}
use Rattle.step_walk.proofs.Answers.{goal_first}
use Rattle.step_walk.proofs.Beginning.{env_can, stood_first, env_returns, env_none}
use Rattle.step_walk.proofs.Ending.{over_walk, over_marks}
use Rattle.step_guards.proofs.Resting.{rest_unguarded, rest_boxless, asks_first}
use Rattle.step_guards.proofs.guards_rest.Goals as goal

pub returns-then-unguarded : goal.returns-then-unguarded
returns-then-unguarded c = (rest_unguarded (words c.args.t.now) c.args.g c.requires.1 c.unguarded.result c.unguarded.ensures c.if-unguarded.true, c.requires.0)

pub tell_from-r-requires : goal.tell_from-r-requires
tell_from-r-requires c = (omega (arith, goal_first (words c.args.t.now) c.args.g c.requires.1, c.requires.1.whole), env_can (words c.args.t.now) _ c.args.g c.requires.0.walk c.requires.1)

pub walk-requires : goal.walk-requires
walk-requires c = (c.requires.1, asks_first (stood_first (words c.args.t.now) _ c.args.g c.requires.0.walk c.requires.1 _ _ _ _ c.tell_from-r.result c.in-All.is c.tell_from-r.ensures) (marks_kept [] c.tell_from-r.ensures.rest c.requires.0.unmarked))

pub back-requires : goal.back-requires
back-requires c = can_return (env_returns (words c.args.t.now) _ c.args.g c.requires.0.walk c.requires.1 _ _ c.tell_from-r.result c.in-Failed.is c.tell_from-r.ensures) _ _ (omega arith) (omega arith)

pub returns-in-All : goal.returns-in-All
returns-in-All c = c.walk.ensures

pub returns-in-Failed : goal.returns-in-Failed
returns-in-Failed c = (
  rest_boxless (words c.args.t.now) c.args.g c.boxless.result (env_none (words c.args.t.now) _ c.args.g c.requires.0.walk c.requires.1 _ _ c.tell_from-r.result c.boxless.result c.in-Failed.is c.tell_from-r.ensures c.boxless.ensures) c.boxless.ensures,
  record { walk = over_walk (env_returns (words c.args.t.now) _ c.args.g c.requires.0.walk c.requires.1 _ _ c.tell_from-r.result c.in-Failed.is c.tell_from-r.ensures) _ c.back.ensures; unmarked = over_marks [] c.back.ensures (marks_kept [] c.tell_from-r.ensures.rest c.requires.0.unmarked) },
)
