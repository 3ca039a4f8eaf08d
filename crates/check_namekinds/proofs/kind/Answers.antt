-- By the way the name is spelled, and whether it is reserved. Assumes nothing.
use native.Mathlib.Omega.{arith}
use Rattle.mem_numbers.specs.Numbers.{triples}
use Rattle.check_namekinds.proofs.Kinding.{kind_none, kind_digits, kind_other, kind_true, kind_fail, kind_name, true_bytes, fail_bytes}
use Rattle.check_namekinds.proofs.kind.Goals as goal

pub returns-then-f-eq0 : goal.returns-then-f-eq0
returns-then-f-eq0 c = kind_none (triples c.args.cells.now) c.args.i c.args.s c.requires c.if-f-eq0.true

pub returns-then-f-eq2 : goal.returns-then-f-eq2
returns-then-f-eq2 c = kind_digits (triples c.args.cells.now) c.args.i c.args.s c.requires c.if-f-eq2.true

pub returns-then-f-gt2 : goal.returns-then-f-gt2
returns-then-f-gt2 c = kind_other (triples c.args.cells.now) c.args.i c.args.s c.requires (omega arith)

pub spelled-requires : goal.spelled-requires
spelled-requires c = (c.requires.lower, c.requires.node)

pub returns-then-spelled : goal.returns-then-spelled
returns-then-spelled c = kind_true (triples c.args.cells.now) c.args.i c.args.s c.requires (omega arith) _ c.spelled.result true_bytes c.spelled.ensures c.if-spelled.true

pub spelled-requires-2 : goal.spelled-requires-2
spelled-requires-2 c = (c.requires.lower, c.requires.node)

pub returns-then-spelled-2 : goal.returns-then-spelled-2
returns-then-spelled-2 c = kind_fail (triples c.args.cells.now) c.args.i c.args.s c.requires (omega arith) _ c.spelled-2.result fail_bytes c.spelled-2.ensures c.if-spelled-2.true

pub returns : goal.returns
returns c = kind_name (triples c.args.cells.now) c.args.i c.args.s c.requires (omega arith) _ _ c.spelled.result c.spelled-2.result true_bytes fail_bytes c.spelled.ensures c.spelled-2.ensures c.if-spelled.false c.if-spelled-2.false
