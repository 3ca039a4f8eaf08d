-- The copy, then what is told from it. Assumes nothing.
use mathlib.Core.Path.{◌∙◌, subst}
use mathlib.Core.List.{List}
use Prim.Native.Nat.{ℕ, ◌+◌}
use native.Mathlib.Omega.{arith}
use Rattle.mem_words.specs.declared.Word.{Word}
use Rattle.mem_words.specs.Words.{words}
use Rattle.mem_parts.specs.Parts.{outside_then, outside_wide}
use Rattle.solve_tells.specs.Tells.{Telling, apps_in, range_of}
use Rattle.work_tables.specs.Tables.{cells_of, vars_of, olds_of, pos_of, log_of, laid_after, noted_log}
use Rattle.work_walk.specs.Pushes.{can_push, logged_at}
use Rattle.work_walk.proofs.push.Goals as goal

pub append-requires : goal.append-requires
append-requires c = c.requires.room

pub overflow_add-k : goal.overflow_add-k
overflow_add-k c = omega (arith, c.requires.room.room)

pub overflow_add-e : goal.overflow_add-e
overflow_add-e c = omega (arith, c.requires.room.room)

pub tell-requires : goal.tell-requires
tell-requires c = (laid_after c.requires.room.laid c.append.ensures.rest, record { most = omega (arith, c.requires.room.room) }, can_push (words c.args.t.now) c.args.w.now c.append.new.w c.args.used c.args.n c.args.a c.args.from c.args.len c.requires c.append.ensures)

pub returns : goal.returns
returns c =
    let Y = c.append.new.w in
    let X = c.tell.new.w in
    record {
      told = subst (λ (W : List Word). Telling W (pos_of c.args.w.now) (cells_of c.args.w.now) (vars_of c.args.w.now) (olds_of c.args.w.now) c.args.n c.args.a (apps_in W c.args.used (c.args.used + c.args.len)) (range_of W c.args.used (c.args.used + c.args.len)) (pos_of X) (cells_of X) (vars_of X) (olds_of X) c.tell.result) c.append.ensures.log
          (logged_at (λ (P T Z C : List ℕ). Telling (log_of (c.args.used + c.args.len + 3) Y) P T Z C c.args.n c.args.a (apps_in (log_of (c.args.used + c.args.len + 3) Y) c.args.used (c.args.used + c.args.len)) (range_of (log_of (c.args.used + c.args.len + 3) Y) c.args.used (c.args.used + c.args.len)) (pos_of X) (cells_of X) (vars_of X) (olds_of X) c.tell.result) c.requires.room.laid c.append.ensures.rest c.tell.ensures.0);
      log = noted_log (c.args.used + c.args.len + 3) c.tell.ensures.1 ∙ c.append.ensures.log;
      ahead = c.tell.ensures.2;
      rest = outside_then (outside_wide 16384 335872 (omega arith) (omega arith) c.append.ensures.rest) (outside_wide 16384 335872 (omega arith) (omega arith) c.tell.ensures.1);
    }
