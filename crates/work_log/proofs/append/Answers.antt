-- The copy, then the end. Assumes nothing.
use mathlib.Core.Path.{refl}
use native.Mathlib.Omega.{arith}
use Rattle.mem_words.specs.Words.{words}
use Rattle.work_log.specs.Logs.{appended, copy_room}
use Rattle.work_log.proofs.append.Goals as goal

pub overflow_mul-a : goal.overflow_mul-a
overflow_mul-a c = omega (arith, c.requires.room)

pub overflow_add-a : goal.overflow_add-a
overflow_add-a c = omega (arith, c.requires.room)

pub overflow_mul-b : goal.overflow_mul-b
overflow_mul-b c = omega (arith, c.requires.room)

pub overflow_add-b : goal.overflow_add-b
overflow_add-b c = omega (arith, c.requires.room)

pub overflow_add-e : goal.overflow_add-e
overflow_add-e c = omega (arith, c.requires.room)

pub copy_in-requires : goal.copy_in-requires
copy_in-requires c = (omega arith, omega (arith, c.requires.room, c.requires.laid.long), record { source = c.requires.source; room = copy_room c.args.used c.args.n c.args.w.now c.requires })

pub zero-requires : goal.zero-requires
zero-requires c = record { le = omega arith; fits = omega (arith, c.requires.room, c.requires.laid.long, c.copy_in.ensures.rest.long) }

pub returns : goal.returns
returns c = appended (words c.args.t.now) c.args.w.now c.copy_in.new.w _ c.args.used c.args.from c.args.n _ _ _ refl refl refl c.requires c.copy_in.ensures c.zero.ensures
