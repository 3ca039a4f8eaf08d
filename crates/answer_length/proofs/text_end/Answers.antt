-- The length, or the traversal where it may not fit four bytes. Assumes nothing.
use native.Mathlib.Omega.{arith}
use Rattle.mem_numbers.specs.Numbers.{triples}
use Rattle.work_tables.specs.Tables.{cells_of, pos_of, log_of}
use Rattle.answer_known.specs.Known.{counted_of}
use Rattle.answer_line.specs.Lined.{whole}
use Rattle.answer_length.proofs.Lengthening.{ends_there}
use Rattle.answer_length.proofs.text_end.Goals as goal

pub line_length-requires : goal.line_length-requires
line_length-requires c = (c.requires.0, c.requires.1, omega arith, c.requires.2, c.requires.3)

pub returns-then-out-lt4294967294 : goal.returns-then-out-lt4294967294
returns-then-out-lt4294967294 c = (ends_there (whole (triples c.args.table.now) (triples c.args.vars.now) (log_of c.args.used c.args.w.now) (pos_of c.args.w.now) (cells_of c.args.w.now)) c.args.out.now c.line_length.ensures.0, c.line_length.ensures.1)

pub line-requires : goal.line-requires
line-requires c = (c.requires.0, c.requires.1, c.requires.2, c.requires.3)

pub returns : goal.returns
returns c = (c.line.ensures.0, counted_of c.line.ensures.1)
