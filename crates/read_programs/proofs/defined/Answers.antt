use native.Mathlib.Omega.{arith}
use Rattle.read_pieces.specs.Worst.{lowest_fault, lowest_fine}
use Rattle.read_programs.proofs.defined.Goals as goal

pub returns-then-twice : goal.returns-then-twice
returns-then-twice c = lowest_fault 4 c.args.twice (omega arith) c.if-twice.true

pub returns : goal.returns
returns c = lowest_fine 4 c.args.twice c.if-twice.false
