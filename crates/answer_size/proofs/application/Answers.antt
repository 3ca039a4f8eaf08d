-- The label, and the arguments if there are any. Assumes nothing.
use native.Mathlib.Omega.{arith}
use Rattle.solve_fields.specs.Read.{args_at}
use Rattle.answer_turn.proofs.Reading.{low_label}
use Rattle.answer_size.proofs.Sizing.{all_none, all_some}
use Rattle.answer_size.proofs.application.Goals as goal

pub overflow_add-p : goal.overflow_add-p
overflow_add-p c = omega (arith, c.requires.3)

pub peek-requires : goal.peek-requires
peek-requires c = (c.requires.0, c.requires.1)

pub name_length-n-requires : goal.name_length-n-requires
name_length-n-requires c = (c.requires.4.names, low_label c.peek.ensures c.num_of-g.ensures c.requires.4.labels)

pub plus-a-requires : goal.plus-a-requires
plus-a-requires c = omega (arith, c.requires.2)

pub overflow_add-p-2 : goal.overflow_add-p-2
overflow_add-p-2 c = omega (arith, c.requires.3)

pub peek-v-requires : goal.peek-v-requires
peek-v-requires c = (c.requires.0, c.requires.1)

pub returns-then-not-is_var : goal.returns-then-not-is_var
returns-then-not-is_var c = all_none c.is_var.result c.peek.ensures c.num_of-g.ensures c.name_length-n.ensures c.plus-a.ensures c.peek-v.ensures c.is_var.ensures (c.if-not-is_var.true)

pub overflow_add-p-3 : goal.overflow_add-p-3
overflow_add-p-3 c = omega (arith, c.requires.3)

pub arguments-requires : goal.arguments-requires
unfolding args_at
arguments-requires c = (c.requires.0, c.requires.1, c.requires.2, omega (arith, c.requires.3), c.requires.5)

pub returns : goal.returns
returns c = all_some c.is_var.result c.requires.4 c.peek.ensures c.num_of-g.ensures c.name_length-n.ensures c.plus-a.ensures c.peek-v.ensures c.is_var.ensures (c.if-not-is_var.false) c.arguments.ensures
