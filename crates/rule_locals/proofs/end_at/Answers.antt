-- Behind the bracket's end, or all words. Assumes nothing.
use native.Mathlib.Omega.{arith}
use Rattle.mem_words.specs.Words.{words}
use Rattle.rule_locals.proofs.Words.{ends_behind, ends_with}
use Rattle.rule_locals.proofs.end_at.Goals as goal

pub returns-then-e-n : goal.returns-then-e-n
returns-then-e-n c = ends_behind (words c.args.t.now) c.args.g c.end_of-e.result c.end_of-e.ensures.0 (omega (arith, c.count-n.ensures.is))

pub returns : goal.returns
returns c = ends_with (words c.args.t.now) c.args.g c.end_of-e.result c.count-n.result c.count-n.ensures.is c.end_of-e.ensures.0 (omega arith)
