use Rattle.mem_numbers.specs.Numbers.{triples}
use Rattle.read_atoms.specs.Subjects.{missing_yes, missing_no}
use Rattle.read_atoms.proofs.missing.Goals as goal

pub returns-then-listed : goal.returns-then-listed
returns-then-listed c = missing_yes c.args.head (triples c.args.heads.now) c.count-n.ensures.is c.listed.ensures c.if-listed.true

pub returns : goal.returns
returns c = missing_no c.args.head (triples c.args.heads.now) c.count-n.ensures.is c.listed.ensures c.if-listed.false
