-- Its store told, an entry for the stack. Assumes nothing.
use native.Mathlib.Omega.{arith}
use Rattle.mem_words.specs.Words.{words, length_words}
use Rattle.mem_parts.specs.Parts.{outside_then, outside_wide, cut_right}
use Rattle.work_tables.specs.Tables.{locals_of, laid_after}
use Rattle.step_turn.proofs.Entering.{enter_can, enter_none, push_can, enter_done, enter_locals}
use Rattle.step_turn.proofs.enter.Goals as goal

pub overflow_add-j : goal.overflow_add-j
overflow_add-j c = omega (arith, c.requires.0.low, c.requires.0.can.whole, length_words c.args.t.now)

pub tell_from-r-requires : goal.tell_from-r-requires
tell_from-r-requires c = (omega (arith, c.requires.0.low, c.requires.0.can.whole), enter_can (words c.args.t.now) c.requires.0.goal _ _ c.args.j _ _ _ _ _ c.requires.0.can c.requires.0.stood c.requires.0.low c.requires.1)

pub push-requires : goal.push-requires
push-requires c = push_can (words c.args.t.now) c.requires.0.goal _ _ c.args.j _ _ _ _ _ c.requires.0.can c.requires.0.stood c.requires.0.low c.requires.1 _ _ _ _ c.tell_from-r.result c.in-All.is c.tell_from-r.ensures

pub overflow_add-result : goal.overflow_add-result
overflow_add-result c = omega (arith, (push_can (words c.args.t.now) c.requires.0.goal _ _ c.args.j _ _ _ _ _ c.requires.0.can c.requires.0.stood c.requires.0.low c.requires.1 _ _ _ _ c.tell_from-r.result c.in-All.is c.tell_from-r.ensures).inside)

pub returns-in-All : goal.returns-in-All
returns-in-All c = record {
  goes = λ g o h s l. enter_done (words c.args.t.now) g o _ c.args.j _ _ _ _ _ h s l c.requires.1 _ _ _ _ c.tell_from-r.result c.in-All.is c.tell_from-r.ensures _ c.push.ensures;
  locals = enter_locals (words c.args.t.now) c.requires.0.goal _ _ c.args.j _ _ _ _ _ c.requires.0.can c.requires.0.stood c.requires.0.low c.requires.1 _ _ _ _ c.tell_from-r.result c.in-All.is c.tell_from-r.ensures _ c.push.ensures;
  rest = outside_then (outside_wide 0 466944 (omega arith) (omega arith) c.tell_from-r.ensures.rest) (outside_wide 0 466944 (omega arith) (omega arith) c.push.ensures.rest);
  laid = laid_after (push_can (words c.args.t.now) c.requires.0.goal _ _ c.args.j _ _ _ _ _ c.requires.0.can c.requires.0.stood c.requires.0.low c.requires.1 _ _ _ _ c.tell_from-r.result c.in-All.is c.tell_from-r.ensures).laid c.push.ensures.rest;
}

pub returns-in-Failed : goal.returns-in-Failed
unfolding locals_of
returns-in-Failed c = record {
  goes = λ g o h s l. enter_none (words c.args.t.now) g o _ c.args.j _ _ _ _ _ h s l c.requires.1 _ _ c.tell_from-r.result c.in-Failed.is c.tell_from-r.ensures;
  locals = cut_right 335872 401408 (omega arith) c.tell_from-r.ensures.rest;
  rest = outside_wide 0 466944 (omega arith) (omega arith) c.tell_from-r.ensures.rest;
  laid = laid_after c.requires.0.stood.at.walk.laid c.tell_from-r.ensures.rest;
}
