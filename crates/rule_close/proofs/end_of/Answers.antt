-- From where the scan stands there are as many words left to the End as it takes from here. Assumes nothing.
use mathlib.Core.Path.{refl, sym, ◌∙◌}
use native.Mathlib.Omega.{arith}
use Rattle.mem_words.specs.Words.{words, length_words}
use Rattle.rule_words.proofs.Loops.{close_inside, close_past, upto_hit, upto_on, upto_end, deeper_le}
use Rattle.rule_close.proofs.end_of.Goals as goal

pub returns-then-n-i : goal.returns-then-n-i
returns-then-n-i c = (c.count-n.ensures.is ∙ sym (close_past (words c.args.ws.now) c.args.i (omega arith)), omega arith)

pub loop-j-init : goal.loop-j-init
loop-j-init c = (omega arith, omega arith, omega arith, refl)

pub get-w-requires : goal.get-w-requires
get-w-requires c = omega arith

pub returns-then-is_closing : goal.returns-then-is_closing
returns-then-is_closing c =
    let lp = c.loop-j in
    (omega (arith, close_inside (words c.args.ws.now) c.args.i (omega arith), upto_hit (words c.args.ws.now) lp.j lp.d c.get-w.result c.is_closing.result (omega arith) c.get-w.ensures.is c.is_closing.ensures c.if-is_closing.true), omega arith)

pub depth_after-d-requires : goal.depth_after-d-requires
depth_after-d-requires c = omega (arith, length_words c.args.ws.now)

pub loop-j-preserved : goal.loop-j-preserved
loop-j-preserved c =
    let lp = c.loop-j in
    (omega arith, omega arith, omega (arith, c.depth_after-d.ensures, deeper_le c.get-w.result lp.d), omega (arith, lp.invariant.3, upto_on (words c.args.ws.now) lp.j lp.d c.depth_after-d.result c.get-w.result c.is_closing.result (omega arith) c.get-w.ensures.is c.is_closing.ensures c.if-is_closing.false c.depth_after-d.ensures))

pub returns : goal.returns
returns c =
    let lp = c.loop-j in
    (omega (arith, close_inside (words c.args.ws.now) c.args.i (omega arith), upto_end (words c.args.ws.now) lp.j lp.d (omega arith)), omega arith)
