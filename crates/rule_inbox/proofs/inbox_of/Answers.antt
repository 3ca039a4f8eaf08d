-- From where the scan stands it finds what it finds from i. Assumes nothing.
use native.Mathlib.Omega.{arith}
use Rattle.mem_words.specs.Words.{words}
use Rattle.rule_inbox.specs.Looking.{looked_none, ends_at, looked_over, looked_other, looked_found, looked_alone, looked_past}
use Rattle.rule_inbox.proofs.inbox_of.Goals as goal

pub loop-j-init : goal.loop-j-init
loop-j-init c = looked_none (words c.args.ws.now) c.args.i c.count-n.result c.count-n.ensures.is

pub overflow_sub-j : goal.overflow_sub-j
overflow_sub-j c = omega arith

pub get-w-requires : goal.get-w-requires
get-w-requires c = omega (arith, c.loop-j.invariant.before, c.requires)

pub settled-requires : goal.settled-requires
settled-requires c = (omega (arith, c.loop-j.invariant.before, c.requires), c.loop-j.invariant.noted)

pub returns-then-is_bracket : goal.returns-then-is_bracket
returns-then-is_bracket c = looked_found c.get-w.result c.is_bracket.result c.loop-j.invariant (omega arith) c.get-w.ensures.is c.is_bracket.ensures c.if-is_bracket.true c.settled.ensures

pub begin_of-o-requires : goal.begin_of-o-requires
begin_of-o-requires c = ends_at (words c.args.ws.now) _ c.get-w.result c.is_end.result (omega (arith, c.loop-j.invariant.before, c.requires)) c.get-w.ensures.is c.is_end.ensures c.if-is_end.true

pub scanned-requires : goal.scanned-requires
scanned-requires c = omega arith

pub returns-then-o-j : goal.returns-then-o-j
returns-then-o-j c = looked_alone c.loop-j.invariant (omega arith) c.begin_of-o.ensures c.if-o-j.true c.scanned.ensures

pub loop-j-smaller-then-is_end : goal.loop-j-smaller-then-is_end
loop-j-smaller-then-is_end c = omega (arith, c.begin_of-o.ensures.within)

pub loop-j-preserved-then-is_end : goal.loop-j-preserved-then-is_end
loop-j-preserved-then-is_end c = looked_over c.loop-j.invariant (omega arith) c.begin_of-o.ensures c.if-o-j.false

pub loop-j-smaller : goal.loop-j-smaller
loop-j-smaller c = omega arith

pub loop-j-preserved : goal.loop-j-preserved
loop-j-preserved c = looked_other c.get-w.result c.is_bracket.result c.is_end.result c.loop-j.invariant (omega arith) c.get-w.ensures.is c.is_bracket.ensures c.if-is_bracket.false c.is_end.ensures c.if-is_end.false

pub scanned-requires-2 : goal.scanned-requires-2
scanned-requires-2 c = omega arith

pub returns : goal.returns
returns c = looked_past c.loop-j.invariant (omega arith) c.scanned-2.ensures
