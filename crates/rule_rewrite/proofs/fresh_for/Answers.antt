-- By the rule's number. Assumes nothing.
use native.Mathlib.Omega.{arith}
use Rattle.mem_words.specs.Words.{words, length_words}
use Rattle.rule_rewrite.proofs.Chosen.{counts_4, counts_5, counts_none}
use Rattle.rule_rewrite.proofs.fresh_for.Goals as goal

pub overflow_add-i : goal.overflow_add-i
overflow_add-i c = omega (arith, length_words c.args.ws.now)

pub returns-then-r-eq4 : goal.returns-then-r-eq4
returns-then-r-eq4 c = counts_4 (words c.args.ws.now) c.args.i c.args.r (omega arith) c.number_at.ensures.0 c.number_at.ensures.1

pub overflow_add-i-then-r-eq5 : goal.overflow_add-i-then-r-eq5
overflow_add-i-then-r-eq5 c = omega (arith, length_words c.args.ws.now)

pub returns-then-r-eq5 : goal.returns-then-r-eq5
returns-then-r-eq5 c = counts_5 (words c.args.ws.now) c.args.i c.args.r (omega arith) c.hidden_in.ensures

pub returns : goal.returns
returns c = counts_none (words c.args.ws.now) c.args.i c.args.r (λ h. omega arith) (λ h. omega arith)
