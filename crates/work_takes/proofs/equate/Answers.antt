-- The laws are those of `solve_tells`, at the tables of the slice. Assumes nothing.
use mathlib.Core.Path.{◌≡◌, subst}
use mathlib.Core.Bool.{Bool, true, false}
use Prim.Native.Nat.{ℕ}
use native.Mathlib.Omega.{arith}
use mathlib.Core.List.{List}
use Rattle.mem_words.specs.declared.Word.{Word}
use Rattle.mem_parts.specs.Parts.{outside_then}
use Rattle.work_tables.specs.Tables.{cells_of, vars_of, olds_of, pos_of, log_of, laid_after, same_moved, moved_at, moved_to}
use Rattle.constraint.specs.Tree.{Label}
use Rattle.constraint.specs.Constraint.{Asg}
use Rattle.solve_tells.specs.Steps.{Room, CanSettle, Settling}
use Rattle.solve_tells.proofs.Trails.{step_none}
use Rattle.solve_tells.proofs.Taking.{taken_joined, can_settle, taking_settled}
use Rattle.work_takes.proofs.equate.Goals as goal

pub roomy-requires : goal.roomy-requires
roomy-requires c = (c.requires.0, c.requires.2.sound.fit_x)

pub returns-then-not-roomy : goal.returns-then-not-roomy
returns-then-not-roomy c = ((step_none (log_of c.args.used c.args.w.now) (cells_of c.args.w.now) (vars_of c.args.w.now) (olds_of c.args.w.now) c.args.n c.requires.2.sound, subst (λ (r : Bool). Room (vars_of c.args.w.now) (olds_of c.args.w.now) c.args.n r) (c.if-not-roomy.true) c.roomy.ensures), same_moved)

pub join-m-requires : goal.join-m-requires
join-m-requires c = let h = (subst (λ (r : Bool). Room (vars_of c.args.w.now) (olds_of c.args.w.now) c.args.n r) (c.if-not-roomy.false) c.roomy.ensures) in (c.requires.0, record { up = c.requires.2.sound.up; inx = c.requires.2.inx; iny = c.requires.2.iny; room_x = h.0; room_c = h.1 })

pub settle-requires : goal.settle-requires
settle-requires c = let h = (subst (λ (r : Bool). Room (vars_of c.args.w.now) (olds_of c.args.w.now) c.args.n r) (c.if-not-roomy.false) c.roomy.ensures) in (laid_after c.requires.0 c.join-m.ensures.rest, c.requires.1, moved_to c.args.used (λ (W : List Word) (P : List ℕ). CanSettle W P (cells_of c.join-m.new.w) (vars_of c.join-m.new.w) (olds_of c.join-m.new.w) c.args.n c.join-m.result) c.join-m.ensures.rest (can_settle (log_of c.args.used c.args.w.now) (pos_of c.args.w.now) (cells_of c.args.w.now) (vars_of c.args.w.now) (olds_of c.args.w.now) c.args.n 0 (λ (lab : ℕ → Label) (ρ : Asg). ρ c.args.x.0 ≡ ρ c.args.y.0) _ _ _ c.join-m.result (taken_joined (log_of c.args.used c.args.w.now) (pos_of c.args.w.now) (cells_of c.args.w.now) (vars_of c.args.w.now) (olds_of c.args.w.now) c.args.n c.args.x.0 c.args.y.0 _ _ _ c.join-m.result c.join-m.ensures.joined c.requires.2.usedx c.requires.2.usedy c.requires.2.sound.within h.0 h.1) c.requires.2.sound c.requires.2.apps c.requires.2.size (omega arith)))

pub returns : goal.returns
returns c = let h = (subst (λ (r : Bool). Room (vars_of c.args.w.now) (olds_of c.args.w.now) c.args.n r) (c.if-not-roomy.false) c.roomy.ensures) in (taking_settled (log_of c.args.used c.args.w.now) (pos_of c.args.w.now) (cells_of c.args.w.now) (vars_of c.args.w.now) (olds_of c.args.w.now) c.args.n 0 (λ (lab : ℕ → Label) (ρ : Asg). ρ c.args.x.0 ≡ ρ c.args.y.0) _ _ _ c.join-m.result (taken_joined (log_of c.args.used c.args.w.now) (pos_of c.args.w.now) (cells_of c.args.w.now) (vars_of c.args.w.now) (olds_of c.args.w.now) c.args.n c.args.x.0 c.args.y.0 _ _ _ c.join-m.result c.join-m.ensures.joined c.requires.2.usedx c.requires.2.usedy c.requires.2.sound.within h.0 h.1) _ _ _ c.settle.result (moved_at c.args.used (λ (W : List Word) (P : List ℕ). Settling W P (cells_of c.join-m.new.w) (vars_of c.join-m.new.w) (olds_of c.join-m.new.w) c.args.n c.join-m.result (cells_of c.settle.new.w) (vars_of c.settle.new.w) (olds_of c.settle.new.w) c.settle.result) c.join-m.ensures.rest c.settle.ensures.0), outside_then c.join-m.ensures.rest c.settle.ensures.1)
