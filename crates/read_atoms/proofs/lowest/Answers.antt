use Rattle.read_atoms.specs.Answers.{fault_free, fault_bound}
use Rattle.read_atoms.proofs.lowest.Goals as goal

pub returns-then-free : goal.returns-then-free
returns-then-free c = fault_free c.args.low c.if-free.true c.lower.ensures

pub returns : goal.returns
returns c = fault_bound c.args.low c.if-free.false
