-- The answers are laws of `Answers`, at the walk of the mark. Assumes nothing.
use mathlib.Core.Path.{refl}
use mathlib.Core.Bool.{true, false}
use Rattle.mem_words.specs.Words.{words}
use Rattle.work_tables.specs.Tables.{log_of, pos_of, cells_of}
use Rattle.work_judge.proofs.Answers.{can_test, against_cyclic, can_push_after, pushed_as, solved_as, can_quiet, against_silent, against_loud, against_full, against_clash, against_stop}
use Rattle.work_judge.proofs.against.Goals as goal

pub satisfiable-requires : goal.satisfiable-requires
satisfiable-requires c = can_test c.requires

pub returns-then-not-satisfiable : goal.returns-then-not-satisfiable
returns-then-not-satisfiable c = against_cyclic (words c.args.t.now) c.args.w.now c.args.used c.args.n c.args.a c.args.from c.args.len c.satisfiable.result (c.if-not-satisfiable.true) c.satisfiable.ensures.0

pub push-o-requires : goal.push-o-requires
push-o-requires c = can_push_after c.requires c.satisfiable.ensures.1

pub quiet-c-requires : goal.quiet-c-requires
quiet-c-requires c = can_quiet _ refl c.requires c.satisfiable.ensures.1 (pushed_as (words c.args.t.now) c.satisfiable.new.w c.push-o.new.w c.args.used c.args.n c.args.a c.args.from c.args.len c.push-o.result _ c.in-All.is c.push-o.ensures)

pub returns-in-Silent : goal.returns-in-Silent
returns-in-Silent c = against_silent (words c.args.t.now) c.args.w.now c.satisfiable.new.w c.push-o.new.w c.args.used c.args.n c.args.a c.args.from c.args.len c.satisfiable.ensures.1 (can_push_after c.requires c.satisfiable.ensures.1) (solved_as (log_of c.args.used c.args.w.now) (pos_of c.args.w.now) (cells_of c.args.w.now) c.satisfiable.result true (c.if-not-satisfiable.false) c.satisfiable.ensures.0) _ _ _ refl (pushed_as (words c.args.t.now) c.satisfiable.new.w c.push-o.new.w c.args.used c.args.n c.args.a c.args.from c.args.len c.push-o.result _ c.in-All.is c.push-o.ensures) c.quiet-c.result c.in-Silent.is c.quiet-c.ensures.0

pub returns-in-Loudly : goal.returns-in-Loudly
returns-in-Loudly c = against_loud (words c.args.t.now) c.args.w.now c.satisfiable.new.w c.push-o.new.w c.args.used c.args.n c.args.a c.args.from c.args.len c.satisfiable.ensures.1 (can_push_after c.requires c.satisfiable.ensures.1) (solved_as (log_of c.args.used c.args.w.now) (pos_of c.args.w.now) (cells_of c.args.w.now) c.satisfiable.result true (c.if-not-satisfiable.false) c.satisfiable.ensures.0) _ _ _ refl (pushed_as (words c.args.t.now) c.satisfiable.new.w c.push-o.new.w c.args.used c.args.n c.args.a c.args.from c.args.len c.push-o.result _ c.in-All.is c.push-o.ensures) c.quiet-c.result c.in-Loudly.is c.quiet-c.ensures.0

pub returns-in-NoSpace : goal.returns-in-NoSpace
returns-in-NoSpace c = against_full (words c.args.t.now) c.args.w.now c.satisfiable.new.w c.push-o.new.w c.args.used c.args.n c.args.a c.args.from c.args.len c.satisfiable.ensures.1 (can_push_after c.requires c.satisfiable.ensures.1) (solved_as (log_of c.args.used c.args.w.now) (pos_of c.args.w.now) (cells_of c.args.w.now) c.satisfiable.result true (c.if-not-satisfiable.false) c.satisfiable.ensures.0) _ _ _ refl (pushed_as (words c.args.t.now) c.satisfiable.new.w c.push-o.new.w c.args.used c.args.n c.args.a c.args.from c.args.len c.push-o.result _ c.in-All.is c.push-o.ensures) c.quiet-c.result c.in-NoSpace.is c.quiet-c.ensures.0

pub returns-in-Failed : goal.returns-in-Failed
returns-in-Failed c = against_clash (words c.args.t.now) c.args.w.now c.satisfiable.new.w c.push-o.new.w c.args.used c.args.n c.args.a c.args.from c.args.len c.satisfiable.ensures.1 (can_push_after c.requires c.satisfiable.ensures.1) (solved_as (log_of c.args.used c.args.w.now) (pos_of c.args.w.now) (cells_of c.args.w.now) c.satisfiable.result true (c.if-not-satisfiable.false) c.satisfiable.ensures.0) _ _ (pushed_as (words c.args.t.now) c.satisfiable.new.w c.push-o.new.w c.args.used c.args.n c.args.a c.args.from c.args.len c.push-o.result _ c.in-Failed.is c.push-o.ensures)

pub returns-in-NoRoom : goal.returns-in-NoRoom
returns-in-NoRoom c = against_stop (words c.args.t.now) c.args.w.now c.satisfiable.new.w c.push-o.new.w c.args.used c.args.n c.args.a c.args.from c.args.len c.satisfiable.ensures.1 (can_push_after c.requires c.satisfiable.ensures.1) (solved_as (log_of c.args.used c.args.w.now) (pos_of c.args.w.now) (cells_of c.args.w.now) c.satisfiable.result true (c.if-not-satisfiable.false) c.satisfiable.ensures.0) _ _ (pushed_as (words c.args.t.now) c.satisfiable.new.w c.push-o.new.w c.args.used c.args.n c.args.a c.args.from c.args.len c.push-o.result _ c.in-NoRoom.is c.push-o.ensures)
