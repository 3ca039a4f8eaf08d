-- The laws are those of `solve_tells`, at the tables of the slice. Assumes nothing.
use Rattle.std.proofs.lemmas.Result.{err_from_is_err_and}
use Prim.Native.Nat.{ℕ, ◌+◌}
use native.Mathlib.Omega.{arith}
use mathlib.Core.List.{List}
use Rattle.mem_words.specs.declared.Word.{Word}
use Rattle.mem_parts.specs.Parts.{outside_then}
use Rattle.work_tables.specs.Tables.{cells_of, vars_of, olds_of, pos_of, log_of, laid_after, moved_at, moved_to}
use Rattle.constraint.specs.Tree.{Label}
use Rattle.constraint.specs.Constraint.{Asg}
use Rattle.constraint.proofs.FormSteps.{Holds}
use Rattle.solve_fields.specs.Read.{tab_of}
use Rattle.solve_tells.specs.Steps.{CanSettle, Settling}
use Rattle.solve_tells.proofs.Taking.{taken_held, held_stop, can_settle, taking_settled}
use Rattle.work_takes.proofs.apply.Goals as goal

pub hold-requires : goal.hold-requires
hold-requires c = (c.requires.0, c.requires.1, record { sound = c.requires.2.sound; var = c.requires.2.inx; used = c.requires.2.usedx; app = c.requires.2.app; apps = c.requires.2.apps; size = c.requires.2.size })

pub settle-requires : goal.settle-requires
settle-requires c = (laid_after c.requires.0 c.hold.ensures.1, c.requires.1, moved_to c.args.used (λ (W : List Word) (P : List ℕ). CanSettle W P (cells_of c.hold.new.w) (vars_of c.hold.new.w) (olds_of c.hold.new.w) c.args.n c.in_ok-held.held) c.hold.ensures.1 (can_settle (log_of c.args.used c.args.w.now) (pos_of c.args.w.now) (cells_of c.args.w.now) (vars_of c.args.w.now) (olds_of c.args.w.now) c.args.n (c.args.k + 1) (λ (lab : ℕ → Label) (ρ : Asg). Holds ρ c.args.x.0 (tab_of lab (log_of c.args.used c.args.w.now) (pos_of c.args.w.now) c.args.k)) _ _ _ _ (taken_held (log_of c.args.used c.args.w.now) (pos_of c.args.w.now) (cells_of c.args.w.now) (vars_of c.args.w.now) (olds_of c.args.w.now) c.args.n c.args.x.0 c.args.k _ _ _ _ c.hold.result c.hold.ensures.0 c.in_ok-held.was) c.requires.2.sound c.requires.2.apps c.requires.2.size (omega (arith, c.requires.2.app))))

pub returns : goal.returns
returns c = (taking_settled (log_of c.args.used c.args.w.now) (pos_of c.args.w.now) (cells_of c.args.w.now) (vars_of c.args.w.now) (olds_of c.args.w.now) c.args.n (c.args.k + 1) (λ (lab : ℕ → Label) (ρ : Asg). Holds ρ c.args.x.0 (tab_of lab (log_of c.args.used c.args.w.now) (pos_of c.args.w.now) c.args.k)) _ _ _ _ (taken_held (log_of c.args.used c.args.w.now) (pos_of c.args.w.now) (cells_of c.args.w.now) (vars_of c.args.w.now) (olds_of c.args.w.now) c.args.n c.args.x.0 c.args.k _ _ _ _ c.hold.result c.hold.ensures.0 c.in_ok-held.was) _ _ _ c.settle.result (moved_at c.args.used (λ (W : List Word) (P : List ℕ). Settling W P (cells_of c.hold.new.w) (vars_of c.hold.new.w) (olds_of c.hold.new.w) c.args.n c.in_ok-held.held (cells_of c.settle.new.w) (vars_of c.settle.new.w) (olds_of c.settle.new.w) c.settle.result) c.hold.ensures.1 c.settle.ensures.0), outside_then c.hold.ensures.1 c.settle.ensures.1)

pub returns-in_err-held : goal.returns-in_err-held
returns-in_err-held c = let p = err_from_is_err_and c.from_residual.result c.from_residual.ensures.1 in rw (p.1, p.2) (held_stop (log_of c.args.used c.args.w.now) (pos_of c.args.w.now) (cells_of c.args.w.now) (vars_of c.args.w.now) (olds_of c.args.w.now) c.args.n c.args.x.0 c.args.k _ _ _ (c.args.k + 1) c.hold.result c.hold.ensures.0 c.in_err-held.field-0.0 c.in_err-held.was, c.hold.ensures.1)
