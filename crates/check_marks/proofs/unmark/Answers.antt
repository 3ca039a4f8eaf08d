-- One local at a time. Assumes nothing.
use native.Mathlib.Omega.{arith}
use Rattle.mem_words.specs.Words.{words}
use Rattle.work_tables.specs.Tables.{laid_after}
use Rattle.check_kinds.specs.Seen.{seen_last, seen_first, seen_small}
use Rattle.check_marks.specs.Marking.{named_same, named_then, unmark_first, unmark_end, unmark_past, unmark_on}
use Rattle.check_marks.proofs.unmark.Goals as goal

pub count-n-requires : goal.count-n-requires
count-n-requires c = tt

pub loop-j-init : goal.loop-j-init
loop-j-init c = (c.requires, named_same, unmark_first (words c.args.ws.now) c.args.work.now c.args.at)

pub get-w-requires : goal.get-w-requires
get-w-requires c = omega (arith, c.count-n.ensures.is)

pub returns-in_default : goal.returns-in_default
returns-in_default c = unmark_end (seen_last (words c.args.ws.now) c.loop-j.j c.get-w.result (omega (arith, c.count-n.ensures.is)) c.get-w.ensures c.variable.ensures c.in_default.is) c.loop-j.invariant.2 c.loop-j.invariant.1

pub name_get-v-requires : goal.name_get-v-requires
name_get-v-requires c = record { laid = c.loop-j.invariant.0; inside = seen_small c.get-w.result c.variable.ensures c.in-Some.x c.in-Some.is c.get-w.ensures.small }

pub overflow_mul-v : goal.overflow_mul-v
overflow_mul-v c = omega (arith, c.name_get-v.ensures.small)

pub name_put-requires : goal.name_put-requires
name_put-requires c = record { laid = c.loop-j.invariant.0; inside = seen_small c.get-w.result c.variable.ensures c.in-Some.x c.in-Some.is c.get-w.ensures.small; small = omega (arith, c.name_get-v.ensures.small) }

pub loop-j-preserved : goal.loop-j-preserved
loop-j-preserved c = (laid_after c.loop-j.invariant.0 c.name_put.ensures.rest, named_then c.loop-j.invariant.1 c.name_put.ensures, unmark_on c.name_get-v.result c.loop-j.invariant.0 (seen_first (words c.args.ws.now) c.loop-j.j c.get-w.result (omega (arith, c.count-n.ensures.is)) c.get-w.ensures c.variable.ensures c.in-Some.x c.in-Some.is) (seen_small c.get-w.result c.variable.ensures c.in-Some.x c.in-Some.is c.get-w.ensures.small) c.name_get-v.ensures.is c.name_put.ensures c.loop-j.invariant.2)

pub returns : goal.returns
returns c = unmark_past (omega (arith, c.count-n.ensures.is)) c.loop-j.invariant.2 c.loop-j.invariant.1
