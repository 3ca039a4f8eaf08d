use native.Mathlib.Omega.{arith}
use Rattle.mem_words.specs.Words.{words, length_words}
use Rattle.mem_copies.specs.Runs.{run}
use Rattle.mem_copies.specs.Open.{open_low, open_high, open_keep}
use Rattle.mem_copies.proofs.opened.Goals as goal

pub overflow_add-v : goal.overflow_add-v
overflow_add-v c = omega (arith, length_words c.args.vs.now, c.requires.inside)

pub get-requires : goal.get-requires
get-requires c = omega (arith, c.requires.inside)

pub returns-in-End : goal.returns-in-End
returns-in-End c = open_keep (run c.args.v c.args.n (words c.args.vs.now)) _ _ c.in-End.is tt c.requires.small

pub returns-in-Free : goal.returns-in-Free
returns-in-Free c = open_keep (run c.args.v c.args.n (words c.args.vs.now)) _ _ c.in-Free.is tt c.requires.small

pub returns-then-l-n : goal.returns-then-l-n
returns-then-l-n c = open_low (words c.args.vs.now) c.args.v c.args.n _ _ _ c.in-Level.is (omega arith) c.requires.inside c.get.ensures

pub returns-else-l-n : goal.returns-else-l-n
returns-else-l-n c = open_high (words c.args.vs.now) c.args.v c.args.n _ _ c.in-Level.is (omega arith) c.requires.inside c.requires.small

pub returns-in-Num : goal.returns-in-Num
returns-in-Num c = open_keep (run c.args.v c.args.n (words c.args.vs.now)) _ _ c.in-Num.is tt c.requires.small

pub returns-in-Place : goal.returns-in-Place
returns-in-Place c = open_keep (run c.args.v c.args.n (words c.args.vs.now)) _ _ c.in-Place.is tt c.requires.small

pub returns-in-Inner : goal.returns-in-Inner
returns-in-Inner c = open_keep (run c.args.v c.args.n (words c.args.vs.now)) _ _ c.in-Inner.is tt c.requires.small

pub returns-in-Bad : goal.returns-in-Bad
returns-in-Bad c = open_keep (run c.args.v c.args.n (words c.args.vs.now)) _ _ c.in-Bad.is tt c.requires.small
