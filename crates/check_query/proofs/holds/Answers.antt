-- What stands before j is looked at. Assumes nothing.
use mathlib.Core.Path.{refl}
use native.Mathlib.Omega.{arith}
use Rattle.mem_words.specs.Words.{words}
use Rattle.check_kinds.specs.Seen.{seen_last, seen_first}
use Rattle.check_query.specs.Steps.{look_none, look_found, look_on, look_past}
use Rattle.check_query.proofs.holds.Goals as goal

pub loop-j-init : goal.loop-j-init
loop-j-init c = record { answer = refl }

pub returns-in_default : goal.returns-in_default
returns-in_default c = look_none c.loop-j.invariant (seen_last (words c.args.ws.now) c.loop-j.j c.get-w.result (omega (arith, c.count-n.ensures.is)) c.get-w.ensures c.variable.ensures c.in_default.is)

pub returns-then-v-x : goal.returns-then-v-x
returns-then-v-x c = look_found c.loop-j.invariant (seen_first (words c.args.ws.now) c.loop-j.j c.get-w.result (omega (arith, c.count-n.ensures.is)) c.get-w.ensures c.variable.ensures c.in-Some.v c.in-Some.is) (omega (arith, c.if-v-x.true))

pub loop-j-preserved : goal.loop-j-preserved
loop-j-preserved c = look_on c.loop-j.invariant (seen_first (words c.args.ws.now) c.loop-j.j c.get-w.result (omega (arith, c.count-n.ensures.is)) c.get-w.ensures c.variable.ensures c.in-Some.v c.in-Some.is) (λ e. c.if-v-x.false (omega (arith, e)))

pub returns : goal.returns
returns c = look_past (omega (arith, c.count-n.ensures.is)) c.loop-j.invariant
