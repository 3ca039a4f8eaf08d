-- The environment, the stores, and the test; then all is taken back. Assumes nothing.
use native.Mathlib.Omega.{arith}
use Rattle.mem_words.specs.Words.{words, length_words}
use Rattle.rule_solve.proofs.Idling.{can_return}
use Rattle.rule_solve.proofs.Quieting.{goal_can, goal_returns, goal_hopeless, stores_can, stores_returns, stores_hopeless, stores_quiet, stores_return, stores_silent, stores_loud, stores_room}
use Rattle.rule_solve.proofs.quiet_marked.Goals as goal

pub tell_from-r-requires : goal.tell_from-r-requires
tell_from-r-requires c = (omega (arith, c.requires.order, c.requires.low), goal_can (words c.args.t.now) _ c.args.g c.args.j c.requires)

pub overflow_add-j : goal.overflow_add-j
overflow_add-j c = omega (arith, c.requires.low, length_words c.args.t.now)

pub tell_from-q-requires : goal.tell_from-q-requires
tell_from-q-requires c = (omega (arith, c.requires.low), stores_can (words c.args.t.now) _ c.args.g c.args.j c.requires _ _ _ _ c.tell_from-r.result c.in-All.is c.tell_from-r.ensures)

pub quiet-c-requires : goal.quiet-c-requires
quiet-c-requires c = stores_quiet (words c.args.t.now) _ c.args.g c.args.j c.requires _ _ _ _ c.tell_from-r.result c.in-All.is c.tell_from-r.ensures _ _ _ _ c.tell_from-q.result c.in-All-q.is c.tell_from-q.ensures

pub back-requires : goal.back-requires
back-requires c = can_return (stores_return (words c.args.t.now) _ c.args.g c.args.j c.requires _ _ _ _ c.tell_from-r.result c.in-All.is c.tell_from-r.ensures _ _ _ _ c.tell_from-q.result c.in-All-q.is c.tell_from-q.ensures _ c.quiet-c.result c.quiet-c.ensures.0 c.quiet-c.ensures.1 c.quiet-c.ensures.2) _ _ (omega arith) (omega arith)

pub back-requires-in-Failed-q : goal.back-requires-in-Failed-q
back-requires-in-Failed-q c = can_return (stores_returns (words c.args.t.now) _ c.args.g c.args.j c.requires _ _ _ _ c.tell_from-r.result c.in-All.is c.tell_from-r.ensures _ _ c.tell_from-q.result c.in-Failed-q.is c.tell_from-q.ensures) _ _ (omega arith) (omega arith)

pub back-requires-in-Failed : goal.back-requires-in-Failed
back-requires-in-Failed c = can_return (goal_returns (words c.args.t.now) _ c.args.g c.args.j c.requires _ _ c.tell_from-r.result c.in-Failed.is c.tell_from-r.ensures) _ _ (omega arith) (omega arith)

pub returns-in-Silent : goal.returns-in-Silent
returns-in-Silent c = stores_silent (words c.args.t.now) _ c.args.g c.args.j c.requires _ _ _ _ c.tell_from-r.result c.in-All.is c.tell_from-r.ensures _ _ _ _ c.tell_from-q.result c.in-All-q.is c.tell_from-q.ensures _ c.quiet-c.result c.quiet-c.ensures.0 c.quiet-c.ensures.1 c.quiet-c.ensures.2 _ c.back.ensures c.in-Silent.is

pub returns-in-Loudly : goal.returns-in-Loudly
returns-in-Loudly c = stores_loud (words c.args.t.now) _ c.args.g c.args.j c.requires _ _ _ _ c.tell_from-r.result c.in-All.is c.tell_from-r.ensures _ _ _ _ c.tell_from-q.result c.in-All-q.is c.tell_from-q.ensures _ c.quiet-c.result c.quiet-c.ensures.0 c.quiet-c.ensures.1 c.quiet-c.ensures.2 _ c.back.ensures c.in-Loudly.is

pub returns-in-NoSpace : goal.returns-in-NoSpace
returns-in-NoSpace c = stores_room (words c.args.t.now) _ c.args.g c.args.j c.requires _ _ _ _ c.tell_from-r.result c.in-All.is c.tell_from-r.ensures _ _ _ _ c.tell_from-q.result c.in-All-q.is c.tell_from-q.ensures _ c.quiet-c.result c.quiet-c.ensures.0 c.quiet-c.ensures.1 c.quiet-c.ensures.2 _ c.back.ensures c.in-NoSpace.is

pub returns-in-Failed-q : goal.returns-in-Failed-q
returns-in-Failed-q c = stores_hopeless (words c.args.t.now) _ c.args.g c.args.j c.requires _ _ _ _ c.tell_from-r.result c.in-All.is c.tell_from-r.ensures _ _ c.tell_from-q.result c.in-Failed-q.is c.tell_from-q.ensures _ c.back-in-Failed-q.ensures

pub returns-in-Failed : goal.returns-in-Failed
returns-in-Failed c = goal_hopeless (words c.args.t.now) _ c.args.g c.args.j c.requires _ _ c.tell_from-r.result c.in-Failed.is c.tell_from-r.ensures _ c.back-in-Failed.ensures
