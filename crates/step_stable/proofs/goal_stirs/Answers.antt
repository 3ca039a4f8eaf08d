-- An and-box, or asked. Assumes nothing.
use native.Mathlib.Omega.{arith}
use Rattle.mem_words.specs.Words.{words}
use Rattle.step_stable.proofs.Pieces.{goal_order, own_and_box, not_and_box, own_asked}
use Rattle.step_stable.proofs.goal_stirs.Goals as goal

pub returns-then-is_kind : goal.returns-then-is_kind
returns-then-is_kind c = (own_and_box c.is_kind.ensures c.if-is_kind.true, c.requires.0)

pub unrest_at-requires : goal.unrest_at-requires
unrest_at-requires c = (c.requires.0, c.requires.1, omega arith, goal_order c.requires.1, not_and_box (words c.args.t.now) c.args.g c.is_kind.ensures c.if-is_kind.false)

pub returns : goal.returns
returns c = (own_asked c.unrest_at.ensures.0, c.unrest_at.ensures.1)
