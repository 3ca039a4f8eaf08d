-- Nothing, or the range of its store. Assumes nothing.
use native.Mathlib.Omega.{arith}
use Rattle.mem_words.specs.Words.{words, length_words}
use Rattle.rule_tells.proofs.Stepping.{box_other, box_can, box_sub, box_all, box_none, box_room}
use Rattle.rule_tells.proofs.tell_box.Goals as goal

pub returns-then-not-is_kind : goal.returns-then-not-is_kind
returns-then-not-is_kind c = box_other (words c.args.t.now) _ c.args.o _ _ _ c.is_kind.result c.is_kind.ensures (c.if-not-is_kind.true)

pub overflow_add-o : goal.overflow_add-o
overflow_add-o c = omega (arith, c.requires.0, length_words c.args.t.now)

pub overflow_add-u : goal.overflow_add-u
overflow_add-u c = omega (arith, c.end_of-u.ensures.1, length_words c.args.t.now)

pub overflow_add-from : goal.overflow_add-from
overflow_add-from c = omega (arith, c.end_of-u.ensures.1, length_words c.args.t.now)

pub overflow_sub-len : goal.overflow_sub-len
overflow_sub-len c = box_sub (words c.args.t.now) _ c.args.o _ _ _ c.end_of-u.result c.end_of-e.result c.is_kind.result c.is_kind.ensures (c.if-not-is_kind.false) c.end_of-u.ensures.0 c.end_of-e.ensures.0 c.requires.1

pub deeper-r-requires : goal.deeper-r-requires
deeper-r-requires c = box_can (words c.args.t.now) _ c.args.o _ _ _ c.end_of-u.result c.end_of-e.result c.is_kind.result c.is_kind.ensures (c.if-not-is_kind.false) c.end_of-u.ensures.0 c.end_of-e.ensures.0 c.requires.1

pub overflow_add-k : goal.overflow_add-k
overflow_add-k c = omega (arith, (box_can (words c.args.t.now) _ c.args.o _ _ _ c.end_of-u.result c.end_of-e.result c.is_kind.result c.is_kind.ensures (c.if-not-is_kind.false) c.end_of-u.ensures.0 c.end_of-e.ensures.0 c.requires.1).room)

pub overflow_add-result : goal.overflow_add-result
overflow_add-result c = omega (arith, (box_can (words c.args.t.now) _ c.args.o _ _ _ c.end_of-u.result c.end_of-e.result c.is_kind.result c.is_kind.ensures (c.if-not-is_kind.false) c.end_of-u.ensures.0 c.end_of-e.ensures.0 c.requires.1).room)

pub returns-in-All : goal.returns-in-All
returns-in-All c = box_all (words c.args.t.now) _ c.args.o _ _ _ c.end_of-u.result c.end_of-e.result c.is_kind.result c.is_kind.ensures (c.if-not-is_kind.false) c.end_of-u.ensures.0 c.end_of-e.ensures.0 c.requires.1 _ _ _ _ c.in-All.is c.deeper-r.ensures

pub returns-in-Failed : goal.returns-in-Failed
returns-in-Failed c = box_none (words c.args.t.now) _ c.args.o _ _ _ c.end_of-u.result c.end_of-e.result c.is_kind.result c.is_kind.ensures (c.if-not-is_kind.false) c.end_of-u.ensures.0 c.end_of-e.ensures.0 c.requires.1 _ _ _ _ c.in-Failed.is c.deeper-r.ensures

pub returns-in-NoRoom : goal.returns-in-NoRoom
returns-in-NoRoom c = box_room (words c.args.t.now) _ c.args.o _ _ _ c.end_of-u.result c.end_of-e.result c.is_kind.result c.is_kind.ensures (c.if-not-is_kind.false) c.end_of-u.ensures.0 c.end_of-e.ensures.0 c.requires.1 _ _ _ _ c.in-NoRoom.is c.deeper-r.ensures
