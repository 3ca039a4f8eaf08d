-- The range of the answer's store, told from the start. Assumes nothing.
use native.Mathlib.Omega.{arith}
use Rattle.mem_words.specs.Words.{words, length_words}
use Rattle.call_answer.proofs.Telling.{range_sub, answer_inside, code_can, code_all, code_failed, code_full}
use Rattle.call_answer.proofs.tell.Goals as goal

pub zero-requires : goal.zero-requires
zero-requires c = record { le = omega arith; fits = omega (arith, c.requires.0.long) }

pub overflow_add-j : goal.overflow_add-j
overflow_add-j c = omega (arith, answer_inside c.requires.1, length_words c.args.t.now)

pub overflow_add-u : goal.overflow_add-u
overflow_add-u c = omega (arith, c.end_of-u.ensures.1, length_words c.args.t.now)

pub overflow_add-from : goal.overflow_add-from
overflow_add-from c = omega (arith, c.end_of-u.ensures.1, length_words c.args.t.now)

pub overflow_sub-len : goal.overflow_sub-len
overflow_sub-len c = range_sub c.end_of-u.result c.end_of-e.result c.end_of-u.ensures.0 c.end_of-e.ensures.0 c.requires.1

pub enter-r-requires : goal.enter-r-requires
enter-r-requires c = code_can (words c.args.t.now) c.args.j c.end_of-u.result c.end_of-e.result c.end_of-u.ensures.0 c.end_of-e.ensures.0 _ _ c.args.w.now c.requires.0 c.zero.ensures c.requires.1

pub overflow_add-result : goal.overflow_add-result
overflow_add-result c = omega (arith, c.end_of-e.ensures.1, length_words c.args.t.now)

pub returns-in-All : goal.returns-in-All
returns-in-All c = code_all (words c.args.t.now) c.args.j c.end_of-u.result c.end_of-e.result c.end_of-u.ensures.0 c.end_of-e.ensures.0 _ _ _ c.requires.0 c.zero.ensures c.requires.1 _ _ _ c.enter-r.result c.enter-r.ensures c.in-All.is (omega arith)

pub returns-in-Failed : goal.returns-in-Failed
returns-in-Failed c = code_failed (words c.args.t.now) c.args.j c.end_of-u.result c.end_of-e.result c.end_of-u.ensures.0 c.end_of-e.ensures.0 _ _ _ c.requires.0 c.zero.ensures c.requires.1 _ _ _ c.enter-r.result c.enter-r.ensures c.in-Failed.is

pub returns-in-NoRoom : goal.returns-in-NoRoom
returns-in-NoRoom c = code_full (words c.args.t.now) c.args.j c.end_of-u.result c.end_of-e.result c.end_of-u.ensures.0 c.end_of-e.ensures.0 _ _ _ c.requires.0 c.zero.ensures c.requires.1 _ _ _ c.enter-r.result c.enter-r.ensures c.in-NoRoom.is
