-- The next argument, or none. Assumes nothing.
use native.Mathlib.Omega.{arith}
use Rattle.mem_parts.specs.Parts.{outside_then}
use Rattle.work_tables.specs.Tables.{laid_after, length_pos}
use Rattle.answer_known.specs.Known.{counted_of}
use Rattle.answer_turn.proofs.Reading.{begun_small}
use Rattle.answer_visit.proofs.Reading.{top_high, top_low, close_can, did_close, next_can, did_next, close_small}
use Rattle.answer_visit.proofs.Searching.{can_begin_to, begun_at}
use Rattle.answer_visit.proofs.behind.Goals as goal

pub overflow_sub-i : goal.overflow_sub-i
overflow_sub-i c = omega (arith, c.requires.5)

pub place_get-k-requires : goal.place_get-k-requires
place_get-k-requires c = record { laid = c.requires.0; inside = omega (arith, c.requires.5, top_high c.requires.3 c.requires.5 c.requires.4, length_pos c.requires.0) }

pub begun_get-n-requires : goal.begun_get-n-requires
begun_get-n-requires c = record { laid = c.requires.0; inside = omega (arith, c.requires.5, top_high c.requires.3 c.requires.5 c.requires.4, length_pos c.requires.0) }

pub pos_get-p-requires : goal.pos_get-p-requires
pos_get-p-requires c = record { laid = c.requires.0; inside = omega (arith, top_low c.requires.3 _ (omega (arith, c.requires.5)) c.place_get-k.ensures.is c.requires.4, length_pos c.requires.0) }

pub overflow_add-p : goal.overflow_add-p
overflow_add-p c = omega (arith, c.pos_get-p.ensures.small)

pub overflow_add-p-2 : goal.overflow_add-p-2
overflow_add-p-2 c = omega (arith, c.pos_get-p.ensures.small, c.begun_get-n.ensures.small)

pub peek-v-requires : goal.peek-v-requires
peek-v-requires c = (c.requires.0, c.requires.1)

pub application-l-requires : goal.application-l-requires
application-l-requires c = (c.requires.0, c.requires.1, c.requires.2, c.pos_get-p.ensures.small, c.requires.3, close_can c.requires.3 c.args.w.now _ c.begun_get-n.result c.args.at.count c.is_var.result (omega (arith, c.requires.5)) c.place_get-k.ensures.is c.begun_get-n.ensures.is c.pos_get-p.ensures.is c.peek-v.ensures c.is_var.ensures (c.if-not-is_var.true) c.requires.4)

pub overflow_add-l : goal.overflow_add-l
overflow_add-l c = omega (arith, close_small c.requires.3 c.args.w.now _ c.begun_get-n.result c.args.at.count c.is_var.result (omega (arith, c.requires.5)) c.place_get-k.ensures.is c.begun_get-n.ensures.is c.pos_get-p.ensures.is c.peek-v.ensures c.is_var.ensures c.requires.2 (c.if-not-is_var.true) c.requires.4 c.application-l.ensures)

pub known_put-requires : goal.known_put-requires
known_put-requires c = record { laid = c.requires.0; inside = omega (arith, top_low c.requires.3 _ (omega (arith, c.requires.5)) c.place_get-k.ensures.is c.requires.4, length_pos c.requires.0); small = close_small c.requires.3 c.args.w.now _ c.begun_get-n.result c.args.at.count c.is_var.result (omega (arith, c.requires.5)) c.place_get-k.ensures.is c.begun_get-n.ensures.is c.pos_get-p.ensures.is c.peek-v.ensures c.is_var.ensures c.requires.2 (c.if-not-is_var.true) c.requires.4 c.application-l.ensures }

pub returns-then-not-is_var : goal.returns-then-not-is_var
returns-then-not-is_var c = (did_close c.requires.3 c.args.w.now _ c.begun_get-n.result c.args.at.count c.is_var.result (omega (arith, c.requires.5)) c.place_get-k.ensures.is c.begun_get-n.ensures.is c.pos_get-p.ensures.is c.peek-v.ensures c.is_var.ensures c.requires.0 (omega (arith, top_low c.requires.3 _ (omega (arith, c.requires.5)) c.place_get-k.ensures.is c.requires.4, length_pos c.requires.0)) (c.if-not-is_var.true) c.application-l.ensures c.known_put.ensures, c.known_put.ensures.rest)

pub overflow_add-n : goal.overflow_add-n
overflow_add-n c = omega (arith, c.begun_get-n.ensures.small)

pub begun_put-requires : goal.begun_put-requires
begun_put-requires c = record { laid = c.requires.0; inside = omega (arith, c.requires.5, top_high c.requires.3 c.requires.5 c.requires.4, length_pos c.requires.0); small = begun_small c.args.used c.pos_get-p.result c.begun_get-n.result c.is_var.result c.requires.0 c.requires.1 c.peek-v.ensures c.is_var.ensures (c.if-not-is_var.false) }

pub begin-requires : goal.begin-requires
begin-requires c = (laid_after c.requires.0 c.begun_put.ensures.rest, can_begin_to c.args.used c.requires.1 c.requires.0 c.begun_put.ensures.rest (next_can c.requires.3 c.args.w.now _ c.begun_get-n.result c.args.at.count c.is_var.result (omega (arith, c.requires.5)) c.place_get-k.ensures.is c.begun_get-n.ensures.is c.pos_get-p.ensures.is c.peek-v.ensures c.is_var.ensures c.requires.0 (omega (arith, c.requires.5, top_high c.requires.3 c.requires.5 c.requires.4, length_pos c.requires.0)) (c.if-not-is_var.false) c.var_of.ensures c.begun_put.ensures c.requires.4))

pub returns : goal.returns
returns c = (did_next c.requires.3 c.args.w.now _ c.begun_get-n.result c.args.at.count c.is_var.result (omega (arith, c.requires.5)) c.place_get-k.ensures.is c.begun_get-n.ensures.is c.pos_get-p.ensures.is c.peek-v.ensures c.is_var.ensures c.requires.0 (omega (arith, c.requires.5, top_high c.requires.3 c.requires.5 c.requires.4, length_pos c.requires.0)) (c.if-not-is_var.false) c.var_of.ensures c.begun_put.ensures c.args.m (begun_at c.args.used c.requires.1 c.requires.0 c.begun_put.ensures.rest c.begin.ensures.0), counted_of (outside_then c.begun_put.ensures.rest c.begin.ensures.1))
