-- It is solved, and the solver answers. Assumes nothing.
use native.Mathlib.Omega.{arith}
use Rattle.answer_boxes.proofs.Solved.{goal_inside, can_solve, answer_solved, answer_unsolved}
use Rattle.answer_boxes.proofs.answer_at.Goals as goal

pub solved-requires : goal.solved-requires
solved-requires c = omega (arith, goal_inside c.requires.1)

pub sat_at-requires : goal.sat_at-requires
sat_at-requires c = (c.requires.0, (can_solve _ c.solved.ensures c.if-solved.true c.requires.1).roomy, goal_inside c.requires.1, (can_solve _ c.solved.ensures c.if-solved.true c.requires.1).room)

pub returns-then-solved : goal.returns-then-solved
returns-then-solved c = (answer_solved _ c.sat_at.result c.solved.ensures c.if-solved.true c.sat_at.ensures.0, c.sat_at.ensures.1)

pub returns : goal.returns
returns c = (answer_unsolved _ c.solved.ensures c.if-solved.false, c.requires.0)
