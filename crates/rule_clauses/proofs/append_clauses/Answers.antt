-- What is left from where the loop stands is appended to what is there. Assumes nothing.
use mathlib.Core.Path.{refl, ◌∙◌}
use native.Mathlib.Omega.{arith}
use Rattle.mem_words.specs.Words.{words}
use Rattle.rule_words.proofs.Loops.{close_inside}
use Rattle.rule_clauses.specs.Going.{begun, numbers_fit, one_more, at_last, at_end}
use Rattle.rule_clauses.proofs.append_clauses.Goals as goal

pub loop-j-init : goal.loop-j-init
loop-j-init c = (c.count-c.ensures.is, refl, begun _ _ _ _ _)

pub append_one-k-requires : goal.append_one-k-requires
append_one-k-requires c = (omega (arith, c.loop-j.invariant.0), c.number_at-n.ensures.0, numbers_fit _ _ _ c.loop-j.invariant.2 c.word_at-w.ensures.is c.starts_clause.ensures c.if-starts_clause.true c.number_at-n.ensures.0 c.requires)

pub overflow_add-x : goal.overflow_add-x
overflow_add-x c = omega (arith, numbers_fit _ _ _ c.loop-j.invariant.2 c.word_at-w.ensures.is c.starts_clause.ensures c.if-starts_clause.true c.number_at-n.ensures.0 c.requires)

pub loop-j-smaller : goal.loop-j-smaller
loop-j-smaller c = omega (arith, c.loop-j.invariant.0, c.end_of-e.ensures.0, c.end_of-e.ensures.1, close_inside (words c.args.ws.now) c.loop-j.j (omega (arith, c.loop-j.invariant.0)))

pub loop-j-preserved : goal.loop-j-preserved
loop-j-preserved c = (c.loop-j.invariant.0, c.append_one-k.auto.out ∙ c.loop-j.invariant.1, one_more _ _ _ _ _ _ c.loop-j.invariant.2 c.word_at-w.ensures.is c.starts_clause.ensures c.if-starts_clause.true c.number_at-n.ensures.0 c.end_of-e.ensures.0 c.append_one-k.ensures)

pub returns-else-starts_clause : goal.returns-else-starts_clause
returns-else-starts_clause c = at_last _ _ c.loop-j.invariant.2 c.word_at-w.ensures.is c.starts_clause.ensures c.if-starts_clause.false

pub returns : goal.returns
returns c = at_end c.loop-j.invariant.2 (omega (arith, c.loop-j.invariant.0))
