-- From where the scan stands the scan forwards ends at c. Assumes nothing.
use native.Mathlib.Omega.{arith}
use Rattle.mem_words.specs.Words.{words, length_words}
use Rattle.rule_inbox.specs.Backwards.{back_none, back_end, back_opening, back_other, back_begun, back_past}
use Rattle.rule_inbox.proofs.begin_of.Goals as goal

pub loop-j-init : goal.loop-j-init
loop-j-init c = back_none (words c.args.ws.now) c.args.c c.requires

pub get-w-requires : goal.get-w-requires
get-w-requires c = omega (arith, c.loop-j.invariant.before, c.loop-j.invariant.inside)

pub returns-then-d-eq0 : goal.returns-then-d-eq0
returns-then-d-eq0 c = back_begun (words c.args.ws.now) c.args.c c.loop-j.j c.loop-j.d c.get-w.result c.is_bracket.result c.loop-j.invariant (omega arith) c.get-w.ensures.is c.is_bracket.ensures c.if-is_bracket.true (omega arith)

pub overflow_sub-d : goal.overflow_sub-d
overflow_sub-d c = omega arith

pub loop-j-preserved-then-is_bracket : goal.loop-j-preserved-then-is_bracket
loop-j-preserved-then-is_bracket c = back_opening (words c.args.ws.now) c.args.c c.loop-j.j c.loop-j.d c.get-w.result c.is_bracket.result c.loop-j.invariant (omega arith) c.get-w.ensures.is c.is_bracket.ensures c.if-is_bracket.true c.if-d-eq0.false

pub overflow_add-d : goal.overflow_add-d
overflow_add-d c = omega (arith, c.loop-j.invariant.few, c.loop-j.invariant.inside, length_words c.args.ws.now)

pub loop-j-preserved-then-is_end : goal.loop-j-preserved-then-is_end
loop-j-preserved-then-is_end c = back_end (words c.args.ws.now) c.args.c c.loop-j.j c.loop-j.d c.get-w.result c.is_end.result c.loop-j.invariant (omega arith) c.get-w.ensures.is c.is_end.ensures c.if-is_end.true

pub loop-j-preserved : goal.loop-j-preserved
loop-j-preserved c = back_other (words c.args.ws.now) c.args.c c.loop-j.j c.loop-j.d c.get-w.result c.is_bracket.result c.is_end.result c.loop-j.invariant (omega arith) c.get-w.ensures.is c.is_bracket.ensures c.if-is_bracket.false c.is_end.ensures c.if-is_end.false

pub returns : goal.returns
returns c = back_past (words c.args.ws.now) c.args.c c.loop-j.j c.loop-j.d c.loop-j.invariant (omega arith)
