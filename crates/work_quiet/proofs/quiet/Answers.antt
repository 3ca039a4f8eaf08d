-- The laws are those of `solve_quiet`, at the tables of the slice. Assumes nothing.
use Rattle.solve_quiet.specs.Owners.{CanLookAll, Looking}
use Rattle.work_quiet.specs.Quiets.{kept_undone, kept_searched}
use mathlib.Core.Path.{ap, ◌∙◌, subst}
use Rattle.std.specs.Prelude.{Err}
use mathlib.Core.Bool.{Bool, true, false}
use Prim.Native.Nat.{ℕ}
use mathlib.Core.List.{List}
use Rattle.mem_parts.specs.Parts.{outside_then}
use Rattle.work_tables.specs.Tables.{cells_of, vars_of, olds_of, pos_of, log_of, locals_of, laid_after, searched_tried, moved_tried, looked_at, looked_to}
use Rattle.solve_quiet.proofs.Owning.{went_apart}
use Rattle.solve_explores.specs.Since.{TestedSince}
use Rattle.solve_quiet.proofs.Quietness.{calmed_cyclic, calmed_joint, calmed_apart, calmed_none, kept_back, can_undo, marks_apart, marks_joint, loud_joint, marks_full, full_place}
use Rattle.work_quiet.proofs.quiet.Goals as goal

pub acyclic_since-requires : goal.acyclic_since-requires
acyclic_since-requires c = (c.requires.0, c.requires.1, record { fits = c.requires.2.fits; le = c.requires.2.looks.le; fit_x = c.requires.2.looks.fit_x; vars = c.requires.2.looks.olds })

pub returns-then-not-acyclic_since : goal.returns-then-not-acyclic_since
returns-then-not-acyclic_since c = (calmed_cyclic (log_of c.args.used c.args.w.now) (locals_of c.args.w.now) (pos_of c.args.w.now) (cells_of c.args.w.now) (vars_of c.args.w.now) (olds_of c.args.w.now) c.args.n c.args.a c.args.from c.requires.2.state.sound.up (subst (λ (r : Bool). TestedSince (log_of c.args.used c.args.w.now) (pos_of c.args.w.now) (cells_of c.args.w.now) (vars_of c.args.w.now) (olds_of c.args.w.now) c.args.n c.args.a c.args.from r) (c.if-not-acyclic_since.true) c.acyclic_since.ensures.0), kept_searched c.args.n c.acyclic_since.ensures.1, searched_tried c.acyclic_since.ensures.1)

pub own_all-o-requires : goal.own_all-o-requires
own_all-o-requires c = (laid_after c.requires.0 c.acyclic_since.ensures.1, looked_to (λ (L T X C : List ℕ). CanLookAll L T X C c.args.from c.args.n) c.acyclic_since.ensures.1 c.requires.2.looks)

pub undo-requires : goal.undo-requires
undo-requires c = (laid_after (laid_after c.requires.0 c.acyclic_since.ensures.1) c.own_all-o.ensures.1, can_undo (cells_of c.args.w.now) (vars_of c.args.w.now) (olds_of c.args.w.now) c.args.n _ _ _ _ (marks_apart (locals_of c.args.w.now) (cells_of c.args.w.now) (vars_of c.args.w.now) (olds_of c.args.w.now) c.args.from c.args.n _ _ _ c.args.n _ c.own_all-o.result (looked_at (λ (L T X C : List ℕ). Looking L T X C c.args.from c.args.n (cells_of c.own_all-o.new.w) (vars_of c.own_all-o.new.w) (olds_of c.own_all-o.new.w) c.args.n c.own_all-o.result) c.acyclic_since.ensures.1 c.own_all-o.ensures.0) c.in-Ok.is))

pub undo-requires-in-Err-Joint : goal.undo-requires-in-Err-Joint
undo-requires-in-Err-Joint c = (laid_after (laid_after c.requires.0 c.acyclic_since.ensures.1) c.own_all-o.ensures.1, can_undo (cells_of c.args.w.now) (vars_of c.args.w.now) (olds_of c.args.w.now) c.args.n _ _ _ _ (marks_joint (locals_of c.args.w.now) (cells_of c.args.w.now) (vars_of c.args.w.now) (olds_of c.args.w.now) c.args.from c.args.n _ _ _ c.args.n _ c.own_all-o.result (looked_at (λ (L T X C : List ℕ). Looking L T X C c.args.from c.args.n (cells_of c.own_all-o.new.w) (vars_of c.own_all-o.new.w) (olds_of c.own_all-o.new.w) c.args.n c.own_all-o.result) c.acyclic_since.ensures.1 c.own_all-o.ensures.0) (c.in-Err-Joint.is ∙ ap Err (rw c.in-Err-Joint.is at c.in-Err-Joint.field-0-is))))

pub undo-requires-in-Err-NoPlace : goal.undo-requires-in-Err-NoPlace
undo-requires-in-Err-NoPlace c = (laid_after (laid_after c.requires.0 c.acyclic_since.ensures.1) c.own_all-o.ensures.1, can_undo (cells_of c.args.w.now) (vars_of c.args.w.now) (olds_of c.args.w.now) c.args.n _ _ _ _ (marks_full (locals_of c.args.w.now) (cells_of c.args.w.now) (vars_of c.args.w.now) (olds_of c.args.w.now) c.args.from c.args.n _ _ _ c.args.n _ c.own_all-o.result (looked_at (λ (L T X C : List ℕ). Looking L T X C c.args.from c.args.n (cells_of c.own_all-o.new.w) (vars_of c.own_all-o.new.w) (olds_of c.own_all-o.new.w) c.args.n c.own_all-o.result) c.acyclic_since.ensures.1 c.own_all-o.ensures.0) (c.in-Err-NoPlace.is ∙ ap Err (rw c.in-Err-NoPlace.is at c.in-Err-NoPlace.field-0-is))))

pub returns-in-Ok : goal.returns-in-Ok
returns-in-Ok c = (calmed_apart (log_of c.args.used c.args.w.now) (locals_of c.args.w.now) (pos_of c.args.w.now) (cells_of c.args.w.now) (vars_of c.args.w.now) (olds_of c.args.w.now) c.args.n c.args.a c.args.from c.requires.2.state.sound.up (subst (λ (r : Bool). TestedSince (log_of c.args.used c.args.w.now) (pos_of c.args.w.now) (cells_of c.args.w.now) (vars_of c.args.w.now) (olds_of c.args.w.now) c.args.n c.args.a c.args.from r) (c.if-not-acyclic_since.false) c.acyclic_since.ensures.0) _ _ _ _ (went_apart (locals_of c.args.w.now) (cells_of c.args.w.now) (vars_of c.args.w.now) (olds_of c.args.w.now) c.args.from c.args.n _ _ _ c.args.n _ c.own_all-o.result (looked_at (λ (L T X C : List ℕ). Looking L T X C c.args.from c.args.n (cells_of c.own_all-o.new.w) (vars_of c.own_all-o.new.w) (olds_of c.own_all-o.new.w) c.args.n c.own_all-o.result) c.acyclic_since.ensures.1 c.own_all-o.ensures.0) c.in-Ok.is), kept_undone (kept_back (cells_of c.args.w.now) (vars_of c.args.w.now) (olds_of c.args.w.now) c.args.n _ _ _ _ _ (marks_apart (locals_of c.args.w.now) (cells_of c.args.w.now) (vars_of c.args.w.now) (olds_of c.args.w.now) c.args.from c.args.n _ _ _ c.args.n _ c.own_all-o.result (looked_at (λ (L T X C : List ℕ). Looking L T X C c.args.from c.args.n (cells_of c.own_all-o.new.w) (vars_of c.own_all-o.new.w) (olds_of c.own_all-o.new.w) c.args.n c.own_all-o.result) c.acyclic_since.ensures.1 c.own_all-o.ensures.0) c.in-Ok.is) c.undo.ensures.cells) c.undo.ensures, outside_then (outside_then (searched_tried c.acyclic_since.ensures.1) (moved_tried c.own_all-o.ensures.1)) (moved_tried c.undo.ensures.rest))

pub returns-in-Err-Joint : goal.returns-in-Err-Joint
returns-in-Err-Joint c = (calmed_joint (log_of c.args.used c.args.w.now) (locals_of c.args.w.now) (pos_of c.args.w.now) (cells_of c.args.w.now) (vars_of c.args.w.now) (olds_of c.args.w.now) c.args.n c.args.a c.args.from c.requires.2.state.sound.up (loud_joint (locals_of c.args.w.now) (cells_of c.args.w.now) (vars_of c.args.w.now) (olds_of c.args.w.now) c.args.from c.args.n _ _ _ c.args.n _ c.own_all-o.result (looked_at (λ (L T X C : List ℕ). Looking L T X C c.args.from c.args.n (cells_of c.own_all-o.new.w) (vars_of c.own_all-o.new.w) (olds_of c.own_all-o.new.w) c.args.n c.own_all-o.result) c.acyclic_since.ensures.1 c.own_all-o.ensures.0) (c.in-Err-Joint.is ∙ ap Err (rw c.in-Err-Joint.is at c.in-Err-Joint.field-0-is))), kept_undone (kept_back (cells_of c.args.w.now) (vars_of c.args.w.now) (olds_of c.args.w.now) c.args.n _ _ _ _ _ (marks_joint (locals_of c.args.w.now) (cells_of c.args.w.now) (vars_of c.args.w.now) (olds_of c.args.w.now) c.args.from c.args.n _ _ _ c.args.n _ c.own_all-o.result (looked_at (λ (L T X C : List ℕ). Looking L T X C c.args.from c.args.n (cells_of c.own_all-o.new.w) (vars_of c.own_all-o.new.w) (olds_of c.own_all-o.new.w) c.args.n c.own_all-o.result) c.acyclic_since.ensures.1 c.own_all-o.ensures.0) (c.in-Err-Joint.is ∙ ap Err (rw c.in-Err-Joint.is at c.in-Err-Joint.field-0-is))) c.undo-in-Err-Joint.ensures.cells) c.undo-in-Err-Joint.ensures, outside_then (outside_then (searched_tried c.acyclic_since.ensures.1) (moved_tried c.own_all-o.ensures.1)) (moved_tried c.undo-in-Err-Joint.ensures.rest))

pub returns-in-Err-NoPlace : goal.returns-in-Err-NoPlace
returns-in-Err-NoPlace c = (calmed_none (log_of c.args.used c.args.w.now) (locals_of c.args.w.now) (pos_of c.args.w.now) (cells_of c.args.w.now) (vars_of c.args.w.now) (olds_of c.args.w.now) c.args.n c.args.a c.args.from _ _ _ _ c.requires.2.state (marks_full (locals_of c.args.w.now) (cells_of c.args.w.now) (vars_of c.args.w.now) (olds_of c.args.w.now) c.args.from c.args.n _ _ _ c.args.n _ c.own_all-o.result (looked_at (λ (L T X C : List ℕ). Looking L T X C c.args.from c.args.n (cells_of c.own_all-o.new.w) (vars_of c.own_all-o.new.w) (olds_of c.own_all-o.new.w) c.args.n c.own_all-o.result) c.acyclic_since.ensures.1 c.own_all-o.ensures.0) (c.in-Err-NoPlace.is ∙ ap Err (rw c.in-Err-NoPlace.is at c.in-Err-NoPlace.field-0-is))) (full_place (locals_of c.args.w.now) (cells_of c.args.w.now) (vars_of c.args.w.now) (olds_of c.args.w.now) c.args.from c.args.n _ _ _ c.args.n _ c.own_all-o.result (looked_at (λ (L T X C : List ℕ). Looking L T X C c.args.from c.args.n (cells_of c.own_all-o.new.w) (vars_of c.own_all-o.new.w) (olds_of c.own_all-o.new.w) c.args.n c.own_all-o.result) c.acyclic_since.ensures.1 c.own_all-o.ensures.0) (c.in-Err-NoPlace.is ∙ ap Err (rw c.in-Err-NoPlace.is at c.in-Err-NoPlace.field-0-is))), kept_undone (kept_back (cells_of c.args.w.now) (vars_of c.args.w.now) (olds_of c.args.w.now) c.args.n _ _ _ _ _ (marks_full (locals_of c.args.w.now) (cells_of c.args.w.now) (vars_of c.args.w.now) (olds_of c.args.w.now) c.args.from c.args.n _ _ _ c.args.n _ c.own_all-o.result (looked_at (λ (L T X C : List ℕ). Looking L T X C c.args.from c.args.n (cells_of c.own_all-o.new.w) (vars_of c.own_all-o.new.w) (olds_of c.own_all-o.new.w) c.args.n c.own_all-o.result) c.acyclic_since.ensures.1 c.own_all-o.ensures.0) (c.in-Err-NoPlace.is ∙ ap Err (rw c.in-Err-NoPlace.is at c.in-Err-NoPlace.field-0-is))) c.undo-in-Err-NoPlace.ensures.cells) c.undo-in-Err-NoPlace.ensures, outside_then (outside_then (searched_tried c.acyclic_since.ensures.1) (moved_tried c.own_all-o.ensures.1)) (moved_tried c.undo-in-Err-NoPlace.ensures.rest))
