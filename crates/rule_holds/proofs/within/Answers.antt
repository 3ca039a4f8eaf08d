-- By where the goal ends. Assumes nothing.
use native.Mathlib.Omega.{arith}
use Rattle.mem_words.specs.Words.{words}
use Rattle.rule_holds.specs.Holding.{before_it, behind_it, inside_it}
use Rattle.rule_holds.proofs.within.Goals as goal

pub returns-then-j-g : goal.returns-then-j-g
returns-then-j-g c = before_it (words c.args.ws.now) c.args.g c.args.j (omega arith)

pub returns-then-e-j : goal.returns-then-e-j
returns-then-e-j c = behind_it (words c.args.ws.now) c.args.g c.args.j _ (omega arith) c.end_of-e.ensures.0 (omega arith)

pub returns : goal.returns
returns c = inside_it (words c.args.ws.now) c.args.g c.args.j _ (omega arith) c.end_of-e.ensures.0 (omega arith)
