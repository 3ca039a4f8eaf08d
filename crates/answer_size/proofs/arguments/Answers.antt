-- The invariant: what is added and what is to come is the sum. Assumes nothing.
use native.Mathlib.Omega.{arith}
use Rattle.work_tables.specs.Tables.{cells_of, pos_of, log_of}
use Rattle.answer_stack.specs.Slots.{numbers_of}
use Rattle.answer_known.specs.Known.{known_of}
use Rattle.answer_size.proofs.Sizing.{add_none, add_can, add_next, add_done, word_inside}
use Rattle.answer_size.proofs.arguments.Goals as goal

pub loop-v-init : goal.loop-v-init
loop-v-init c = add_none (log_of c.args.used c.args.w.now) (pos_of c.args.w.now) (cells_of c.args.w.now) (numbers_of c.args.w.now) (known_of c.args.w.now) c.args.m c.args.a c.args.from

pub peek-v-requires : goal.peek-v-requires
peek-v-requires c = (c.requires.0, c.requires.1)

pub plus-requires : goal.plus-requires
plus-requires c = omega (arith, c.requires.2)

pub returns-then-not-is_var : goal.returns-then-not-is_var
returns-then-not-is_var c = add_done c.args.a c.is_var.result c.peek-v.ensures c.is_var.ensures (c.if-not-is_var.true) c.plus.ensures c.loop-v.invariant

pub measure-l-requires : goal.measure-l-requires
measure-l-requires c = (c.requires.0, c.requires.2, add_can c.args.a c.is_var.result c.peek-v.ensures c.is_var.ensures (c.if-not-is_var.false) c.var_of.ensures c.requires.4 c.loop-v.invariant)

pub plus-b-requires : goal.plus-b-requires
plus-b-requires c = omega (arith, c.requires.2)

pub plus-acc-requires : goal.plus-acc-requires
plus-acc-requires c = omega (arith, c.requires.2)

pub overflow_add-i : goal.overflow_add-i
overflow_add-i c = omega (arith, c.requires.1.most, word_inside c.args.used _ c.is_var.result c.requires.0 c.requires.1 c.peek-v.ensures c.is_var.ensures (c.if-not-is_var.false))

pub loop-v-smaller : goal.loop-v-smaller
loop-v-smaller c = omega (arith, word_inside c.args.used _ c.is_var.result c.requires.0 c.requires.1 c.peek-v.ensures c.is_var.ensures (c.if-not-is_var.false))

pub loop-v-preserved : goal.loop-v-preserved
loop-v-preserved c = add_next c.args.a c.is_var.result c.peek-v.ensures c.is_var.ensures (c.if-not-is_var.false) c.var_of.ensures c.measure-l.ensures c.plus-b.ensures c.plus-acc.ensures c.loop-v.invariant
