-- The header, and then what it leaves unused. Assumes nothing.
use native.Mathlib.Omega.{arith}
use Rattle.mem_numbers.specs.Decides.{decided_yes, decided_no}
use Rattle.check_held.specs.Checks.{numbers_in, Unused}
use Rattle.check_bytes.proofs.Regions.{at_end, read_counted, read_wrong}
use Rattle.check_bytes.proofs.bytes.Goals as goal

pub read-r-requires : goal.read-r-requires
read-r-requires c = (omega (arith, at_end c.args.parts, c.requires.long), c.requires.parts)

pub unused-requires : goal.unused-requires
unused-requires c = (c.requires, read_counted c.args.parts (numbers_in c.args.store.now) c.read-r.result c.in-Counted.h c.in-Counted.is c.read-r.ensures)

pub returns-then-unused : goal.returns-then-unused
returns-then-unused c = (read_counted c.args.parts (numbers_in c.args.store.now) c.read-r.result c.in-Counted.h c.in-Counted.is c.read-r.ensures, decided_yes {P = Unused c.args.parts c.args.store.now} c.unused.result c.if-unused.true c.unused.ensures)

pub returns-else-unused : goal.returns-else-unused
returns-else-unused c = λ k. decided_no {P = Unused c.args.parts c.args.store.now} c.unused.result c.if-unused.false c.unused.ensures

pub returns-in-Wrong : goal.returns-in-Wrong
returns-in-Wrong c = λ k u. read_wrong c.args.parts (numbers_in c.args.store.now) c.read-r.result c.in-Wrong.is c.read-r.ensures k
