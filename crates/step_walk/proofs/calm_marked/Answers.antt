-- The environment, then the walk. Assumes nothing.
use native.Mathlib.Omega.{arith}
use Rattle.mem_words.specs.Words.{words}
use Rattle.rule_ranges.specs.Ranges.{locals_at}
use Rattle.rule_solve.proofs.Idling.{marks_kept, can_return}
use Rattle.step_walk.proofs.Answers.{goal_first}
use Rattle.step_walk.proofs.Beginning.{env_can, walks_first, env_returns, env_none}
use Rattle.step_walk.proofs.Ending.{over_walk, over_marks}
use Rattle.step_walk.proofs.calm_marked.Goals as goal

pub tell_from-r-requires : goal.tell_from-r-requires
tell_from-r-requires c = (omega (arith, goal_first (words c.args.t.now) c.args.g c.requires.2, c.requires.2.whole), env_can (words c.args.t.now) _ c.args.g c.requires.0 c.requires.2)

pub walk-requires : goal.walk-requires
walk-requires c = (c.requires.2, walks_first (words c.args.t.now) _ c.args.g c.requires.0 c.requires.2 _ _ _ _ c.tell_from-r.result c.in-All.is c.tell_from-r.ensures c.requires.1)

pub back-requires : goal.back-requires
back-requires c = can_return (env_returns (words c.args.t.now) _ c.args.g c.requires.0 c.requires.2 _ _ c.tell_from-r.result c.in-Failed.is c.tell_from-r.ensures) _ _ (omega arith) (omega arith)

pub returns-in-All : goal.returns-in-All
returns-in-All c = c.walk.ensures

pub returns-in-Failed : goal.returns-in-Failed
returns-in-Failed c = (
  env_none (words c.args.t.now) _ c.args.g c.requires.0 c.requires.2 _ _ c.tell_from-r.result c.boxless.result c.in-Failed.is c.tell_from-r.ensures c.boxless.ensures,
  over_walk (env_returns (words c.args.t.now) _ c.args.g c.requires.0 c.requires.2 _ _ c.tell_from-r.result c.in-Failed.is c.tell_from-r.ensures) _ c.back.ensures,
  over_marks (locals_at (words c.args.t.now) c.args.g) c.back.ensures (marks_kept (locals_at (words c.args.t.now) c.args.g) c.tell_from-r.ensures.rest c.requires.1),
)
