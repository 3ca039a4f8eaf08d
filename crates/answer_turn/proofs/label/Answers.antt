-- The label, and the first argument if there is one. Assumes nothing.
use native.Mathlib.Omega.{arith}
use Rattle.work_tables.specs.Tables.{length_pos}
use Rattle.answer_stack.specs.Slots.{same_answered, length_begun}
use Rattle.answer_stack.proofs.Slots.{length_places}
use Rattle.answer_turn.proofs.Reading.{low_label, did_label, did_open, room_for}
use Rattle.answer_turn.proofs.label.Goals as goal

pub overflow_add-p : goal.overflow_add-p
overflow_add-p c = omega (arith, c.requires.4.small)

pub peek-requires : goal.peek-requires
peek-requires c = (c.requires.0, c.requires.1)

pub name-a-requires : goal.name-a-requires
name-a-requires c = (c.requires.2.names, low_label c.peek.ensures c.num_of-g.ensures c.requires.2.labels)

pub overflow_add-p-2 : goal.overflow_add-p-2
overflow_add-p-2 c = omega (arith, c.requires.4.small)

pub peek-v-requires : goal.peek-v-requires
peek-v-requires c = (c.requires.0, c.requires.1)

pub returns-then-not-is_var : goal.returns-then-not-is_var
returns-then-not-is_var c = (did_label c.requires.2 c.is_var.result c.requires.4 c.peek.ensures c.num_of-g.ensures c.peek-v.ensures c.is_var.ensures (c.if-not-is_var.true) c.name-a.ensures, same_answered)

pub push-requires : goal.push-requires
push-requires c = record { laid = c.requires.0; inside = omega (arith, room_for c.requires.2 c.requires.3 c.requires.4, length_pos c.requires.0); place = c.requires.4.small; begun = omega arith }

pub overflow_add-result : goal.overflow_add-result
overflow_add-result c = omega (arith, room_for c.requires.2 c.requires.3 c.requires.4, length_pos c.requires.0)

pub returns : goal.returns
returns c = (did_open c.requires.2 c.is_var.result c.requires.4 c.peek.ensures c.num_of-g.ensures c.peek-v.ensures c.is_var.ensures (c.if-not-is_var.false) c.var_of.ensures c.name-a.ensures c.byte-b.ensures c.push.ensures.place c.push.ensures.begun c.push.ensures.number (omega (arith, room_for c.requires.2 c.requires.3 c.requires.4, length_pos c.requires.0, length_places c.requires.0)) (omega (arith, room_for c.requires.2 c.requires.3 c.requires.4, length_pos c.requires.0, length_begun c.requires.0)), c.push.ensures.rest)
