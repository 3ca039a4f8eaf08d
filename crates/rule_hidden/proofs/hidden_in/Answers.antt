-- What is counted and what is left are all. Assumes nothing.
use native.Mathlib.Omega.{arith}
use Rattle.mem_words.specs.Words.{words}
use Rattle.rule_words.proofs.Loops.{close_inside}
use Rattle.rule_hidden.specs.Counting.{counted_none, counted_one, too_many, counted_last, counted_all}
use Rattle.rule_hidden.proofs.hidden_in.Goals as goal

pub loop-j-init : goal.loop-j-init
loop-j-init c = (c.count-c.ensures.is, omega arith, counted_none _ _)

pub returns-then-t-gt65536 : goal.returns-then-t-gt65536
returns-then-t-gt65536 c = too_many c.loop-j.invariant.2 (omega arith)

pub overflow_add-t : goal.overflow_add-t
overflow_add-t c = omega (arith, c.number_at-n.ensures.1)

pub loop-j-smaller : goal.loop-j-smaller
loop-j-smaller c = omega (arith, c.loop-j.invariant.0, c.end_of-e.ensures.0, c.end_of-e.ensures.1, close_inside (words c.args.ws.now) c.loop-j.j (omega (arith, c.loop-j.invariant.0)))

pub loop-j-preserved : goal.loop-j-preserved
loop-j-preserved c = (c.loop-j.invariant.0, omega (arith, c.number_at-n.ensures.1), counted_one _ _ _ _ c.loop-j.invariant.2 c.word_at-w.ensures.is c.starts_clause.ensures c.if-starts_clause.true c.number_at-n.ensures.0 c.end_of-e.ensures.0)

pub returns-else-starts_clause : goal.returns-else-starts_clause
returns-else-starts_clause c = counted_last _ _ c.loop-j.invariant.2 c.word_at-w.ensures.is c.starts_clause.ensures c.if-starts_clause.false

pub returns : goal.returns
returns c = counted_all c.loop-j.invariant.2 (omega (arith, c.loop-j.invariant.0))
