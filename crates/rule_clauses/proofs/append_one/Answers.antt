-- The positions in it. Assumes nothing.
use native.Mathlib.Omega.{arith}
use Rattle.mem_words.specs.Words.{words, length_words}
use Rattle.rule_build.specs.Built.{appended_as}
use Rattle.rule_clauses.specs.Going.{goal_is}
use Rattle.rule_clauses.proofs.append_one.Goals as goal

pub overflow_add-j : goal.overflow_add-j
overflow_add-j c = omega (arith, length_words c.args.ws.now, c.requires.0)

pub overflow_add-g : goal.overflow_add-g
overflow_add-g c = omega (arith, length_words c.args.ws.now, c.end_of-g.ensures.1)

pub overflow_add-g-2 : goal.overflow_add-g-2
overflow_add-g-2 c = omega (arith, length_words c.args.ws.now, c.end_of-g.ensures.1)

pub overflow_add-b : goal.overflow_add-b
overflow_add-b c = omega (arith, length_words c.args.ws.now, c.end_of-b.ensures.1)

pub append_clause-requires : goal.append_clause-requires
append_clause-requires c = (c.requires.0, c.requires.2)

pub returns : goal.returns
returns c = appended_as _ (goal_is (words c.args.ws.now) c.args.j _ _ c.args.next c.args.n c.end_of-g.ensures.0 c.end_of-b.ensures.0 c.requires.1) c.append_clause.ensures
