-- One word after another. Assumes nothing.
use native.Mathlib.Omega.{arith}
use Rattle.mem_words.specs.Words.{words, length_words}
use Rattle.work_tables.specs.Tables.{laid_after}
use Rattle.rule_locals.proofs.Words.{marked_none, marked_next, marked_all, var_low}
use Rattle.rule_locals.proofs.give_inside.Goals as goal

pub loop-j-init : goal.loop-j-init
loop-j-init c = (c.requires.0, c.end_at-e.ensures, marked_none _ _ _ _ _)

pub get-x-requires : goal.get-x-requires
get-x-requires c = omega (arith, c.loop-j.invariant.1.end)

pub mark_word-requires : goal.mark_word-requires
mark_word-requires c = (laid_after c.loop-j.invariant.0 c.loop-j.invariant.2.given.rest, var_low (words c.args.t.now) c.loop-j.j c.get-x.result c.requires.1 c.get-x.ensures.is, c.requires.2)

pub overflow_add-j : goal.overflow_add-j
overflow_add-j c = omega (arith, c.loop-j.invariant.1.end, length_words c.args.t.now)

pub loop-j-smaller : goal.loop-j-smaller
loop-j-smaller c = omega arith

pub loop-j-preserved : goal.loop-j-preserved
loop-j-preserved c = (c.loop-j.invariant.0, c.loop-j.invariant.1, marked_next _ _ _ _ _ _ _ _ _ _ c.get-x.result (omega arith) c.loop-j.invariant.1.end c.get-x.ensures.is c.behind_word-b.ensures c.mark_word.ensures c.loop-j.invariant.2)

pub returns : goal.returns
returns c = marked_all _ _ _ _ _ _ _ _ (omega arith) c.loop-j.invariant.1 c.loop-j.invariant.2
