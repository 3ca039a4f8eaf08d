-- `read_textcheck::program` meets its contract: the tables have room for every text. Assumes nothing.
use native.Mathlib.Omega.{arith}
use Rattle.akl.specs.Limits.{program_bytes}
use Rattle.akl.specs.Parse.{parse_program}
use Rattle.read_textcheck.specs.Checked.{wide, begun, lexicon, checked}
use Rattle.read_textcheck.proofs.program.Goals as goal

pub returns-then-not-reserve : goal.returns-then-not-reserve
returns-then-not-reserve c = begun (wide c.codes_space-codes.result c.cells_space-cells.result c.links_space-heads.result c.links_space-nexts.result c.stack_space-stack.result c.codes_space-codes.ensures c.cells_space-cells.ensures c.links_space-heads.ensures c.links_space-nexts.ensures c.stack_space-stack.ensures) c.reserve.result c.reserve.ensures (c.if-not-reserve.true)

pub program_text-requires : goal.program_text-requires
program_text-requires c = lexicon (wide c.codes_space-codes.result c.cells_space-cells.result c.links_space-heads.result c.links_space-nexts.result c.stack_space-stack.result c.codes_space-codes.ensures c.cells_space-cells.ensures c.links_space-heads.ensures c.links_space-nexts.ensures c.stack_space-stack.ensures) c.reserve.ensures (c.if-not-reserve.false)

pub returns : goal.returns
returns c = checked (wide c.codes_space-codes.result c.cells_space-cells.result c.links_space-heads.result c.links_space-nexts.result c.stack_space-stack.result c.codes_space-codes.ensures c.cells_space-cells.ensures c.links_space-heads.ensures c.links_space-nexts.ensures c.stack_space-stack.ensures) program_bytes parse_program c.program_text.result (omega arith) c.reserve.ensures c.program_text.ensures
