-- The next argument, or none. Assumes nothing.
use native.Mathlib.Omega.{arith}
use Rattle.work_tables.specs.Tables.{length_pos}
use Rattle.answer_stack.specs.Slots.{same_answered, length_begun}
use Rattle.answer_turn.proofs.Reading.{did_comma, did_close, height_for, begun_small}
use Rattle.answer_turn.proofs.behind.Goals as goal

pub overflow_sub-i : goal.overflow_sub-i
overflow_sub-i c = omega (arith, c.requires.4)

pub place_get-p-requires : goal.place_get-p-requires
place_get-p-requires c = record { laid = c.requires.0; inside = omega (arith, c.requires.4, height_for c.requires.2 c.requires.3, length_pos c.requires.0) }

pub begun_get-k-requires : goal.begun_get-k-requires
begun_get-k-requires c = record { laid = c.requires.0; inside = omega (arith, c.requires.4, height_for c.requires.2 c.requires.3, length_pos c.requires.0) }

pub overflow_add-p : goal.overflow_add-p
overflow_add-p c = omega (arith, c.place_get-p.ensures.small, c.begun_get-k.ensures.small)

pub overflow_add-p-2 : goal.overflow_add-p-2
overflow_add-p-2 c = omega (arith, c.place_get-p.ensures.small, c.begun_get-k.ensures.small)

pub peek-v-requires : goal.peek-v-requires
peek-v-requires c = (c.requires.0, c.requires.1)

pub returns-then-not-is_var : goal.returns-then-not-is_var
returns-then-not-is_var c = (did_close c.requires.2 c.is_var.result (omega (arith, c.requires.4)) c.place_get-p.ensures.is c.begun_get-k.ensures.is c.peek-v.ensures c.is_var.ensures (c.if-not-is_var.true) c.byte-b.ensures, same_answered)

pub overflow_add-k : goal.overflow_add-k
overflow_add-k c = omega (arith, c.begun_get-k.ensures.small)

pub begun_put-requires : goal.begun_put-requires
begun_put-requires c = record { laid = c.requires.0; inside = omega (arith, c.requires.4, height_for c.requires.2 c.requires.3, length_pos c.requires.0); small = begun_small c.args.used c.place_get-p.result c.begun_get-k.result c.is_var.result c.requires.0 c.requires.1 c.peek-v.ensures c.is_var.ensures (c.if-not-is_var.false) }

pub returns : goal.returns
returns c = (did_comma c.requires.2 c.is_var.result (omega (arith, c.requires.4)) c.place_get-p.ensures.is c.begun_get-k.ensures.is c.peek-v.ensures c.is_var.ensures (c.if-not-is_var.false) c.var_of.ensures c.byte-b-2.ensures c.begun_put.ensures.place c.begun_put.ensures.begun c.begun_put.ensures.number (omega (arith, c.requires.4, height_for c.requires.2 c.requires.3, length_pos c.requires.0, length_begun c.requires.0)), c.begun_put.ensures.rest)
