use mathlib.Core.Path.{ap}
use native.Mathlib.Omega.{arith}
use Rattle.mem_words.specs.Words.{words}
use Rattle.solve_fields.specs.Read.{var_of}
use Rattle.solve_fits.proofs.Fitting.{vars_all, vars_not, low_more}
use Rattle.solve_fits.proofs.vars_below.Goals as goal

pub returns-then-limit-eq0 : goal.returns-then-limit-eq0
returns-then-limit-eq0 c = vars_not (words c.args.t.now) c.args.limit 0 (omega arith)

pub loop-i-init : goal.loop-i-init
loop-i-init c = (omega arith, λ k l. absurd (omega arith))

pub get-requires : goal.get-requires
get-requires c = omega (arith, c.count-n.ensures.is)

pub returns-then-limit-v : goal.returns-then-limit-v
returns-then-limit-v c = vars_not (words c.args.t.now) c.args.limit c.loop-i.i (omega (arith, c.var_of-v.ensures, ap var_of c.get.ensures.is))

pub loop-i-preserved : goal.loop-i-preserved
loop-i-preserved c = (omega arith, low_more (words c.args.t.now) c.args.limit c.loop-i.i c.loop-i.invariant.1 (omega (arith, c.var_of-v.ensures, ap var_of c.get.ensures.is)))

pub returns : goal.returns
returns c = vars_all (words c.args.t.now) c.args.limit c.loop-i.i c.loop-i.invariant.1 (omega (arith, c.count-n.ensures.is)) (omega arith)
