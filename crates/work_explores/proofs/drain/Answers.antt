-- The laws are those of `solve_explores`, at the tables of the slice. Assumes nothing.
use mathlib.Core.Path.{◌≡◌, sym, ap, ◌∙◌, subst}
use Prim.Native.Nat.{ℕ, ◌+◌, ◌-◌, ◌<◌}
use native.Mathlib.Omega.{arith}
use lib.ListN.{length, get_or}
use mathlib.Core.List.{List}
use Rattle.mem_words.specs.declared.Word.{Word}
use Rattle.mem_parts.specs.Parts.{outside_then}
use Rattle.work_tables.specs.Tables.{cells_of, pos_of, log_of, marks_of, stack_of, dones_of, laid_after, same_searched, searched_at, searched_to, got_pos, length_mark, length_stack, length_done, length_pos}
use Rattle.solve_explores.specs.Search.{ChildAt, CanLook, Leads, Search, Marked, left}
use Rattle.solve_explores.specs.declared.Child.TheVariants.{Last, Open}
use Rattle.solve_explores.proofs.Searching.{pushed}
use Rattle.solve_explores.proofs.Finding.{advanced, passed, led_inside, cycle, left_push, left_pop, left_next, marked_same, marked_store, drained_done, stack_room, settled_open, settled_done, leads_app}
use Rattle.work_tables.specs.Writes.{done_mates}
use Rattle.mem_numbers.specs.Stored.{Stored}
use Rattle.work_explores.specs.Passing.{pass_mates}
use Rattle.solve_tells.proofs.Meeting.{var_inside}
use Rattle.work_explores.proofs.drain.Goals as goal

pub loop-h-init : goal.loop-h-init
loop-h-init c = (c.requires.0, same_searched, marked_same (marks_of c.args.w.now), c.requires.2.search)

pub overflow_sub-top : goal.overflow_sub-top
overflow_sub-top c = omega arith

pub stack_get-j-requires : goal.stack_get-j-requires
stack_get-j-requires c = record { laid = c.loop-h.invariant.0; inside = omega (arith, c.loop-h.invariant.3.count, c.loop-h.invariant.3.two, c.requires.2.fits.fit_k, length_stack c.loop-h.invariant.0, length_stack c.requires.0) }

pub done_get-i-requires : goal.done_get-i-requires
done_get-i-requires c = record { laid = c.loop-h.invariant.0; inside = omega (arith, c.loop-h.invariant.3.count, c.loop-h.invariant.3.two, c.requires.2.fits.fit_d, length_done c.loop-h.invariant.0, length_done c.requires.0) }

pub pos_get-p-requires : goal.pos_get-p-requires
pos_get-p-requires c = record { laid = c.loop-h.invariant.0; inside = omega (arith, (subst (λ (x : ℕ). x < c.args.a) (sym c.stack_get-j.ensures.is) (c.loop-h.invariant.3.inside (c.loop-h.h - 1) (omega arith))), c.requires.2.fits.fit_p, length_pos c.requires.0) }

pub overflow_add-p : goal.overflow_add-p
overflow_add-p c = omega (arith, c.pos_get-p.ensures.small)

pub overflow_add-p-in-loop-h : goal.overflow_add-p-in-loop-h
overflow_add-p-in-loop-h c = omega (arith, c.done_get-i.ensures.small, c.pos_get-p.ensures.small)

pub look-d-requires : goal.look-d-requires
look-d-requires c = (c.loop-h.invariant.0, c.requires.1, searched_to c.args.used (λ (W : List Word) (P T : List ℕ). CanLook W T) c.loop-h.invariant.1 c.requires.2.fits.look)

pub mark_put-requires : goal.mark_put-requires
mark_put-requires c = record { laid = c.loop-h.invariant.0; inside = (omega (arith, (subst (λ (x : ℕ). x < c.args.a) (sym c.stack_get-j.ensures.is) (c.loop-h.invariant.3.inside (c.loop-h.h - 1) (omega arith))), c.requires.2.fits.fit_m, length_mark c.loop-h.invariant.0, length_mark c.requires.0)); small = omega (arith, c.loop-h.invariant.3.count, c.requires.2.fits.few) }

pub overflow_add-clock : goal.overflow_add-clock
overflow_add-clock c = omega (arith, c.loop-h.invariant.3.count, c.requires.2.fits.few)

pub pass-requires : goal.pass-requires
pass-requires c = let g = laid_after c.loop-h.invariant.0 c.mark_put.ensures.rest in record { laid = g; inside = omega (arith, c.loop-h.invariant.3.count, c.loop-h.invariant.3.two, c.requires.2.fits.fit_d, length_done c.requires.0); small = λ p. omega (arith, ap (λ (D : List ℕ). get_or D (c.loop-h.h - 1 - 1) 0) c.mark_put.ensures.done, led_inside (log_of c.args.used c.args.w.now) (pos_of c.args.w.now) (cells_of c.args.w.now) (marks_of c.loop-h.w) (stack_of c.loop-h.w) (dones_of c.loop-h.w) c.args.a c.loop-h.h c.loop-h.clock c.loop-h.invariant.3 (c.loop-h.h - 1) c.stack_get-j.result c.done_get-i.result (omega arith) c.stack_get-j.ensures.is p, c.requires.2.fits.long) }

pub loop-h-smaller-in-Last : goal.loop-h-smaller-in-Last
loop-h-smaller-in-Last c = pass_mates (λ (M K : List ℕ). left (length (log_of c.args.used c.args.w.now)) M (dones_of c.pass.new.w) c.args.a (c.loop-h.h - 1) < left (length (log_of c.args.used c.args.w.now)) (marks_of c.loop-h.w) (dones_of c.loop-h.w) c.args.a c.loop-h.h) c.pass.ensures (left_pop (length (log_of c.args.used c.args.w.now)) c.args.a c.stack_get-j.result c.loop-h.clock c.loop-h.h (c.loop-h.h - 1) (marks_of c.loop-h.w) _ (dones_of c.loop-h.w) _ c.mark_put.ensures.mark (omega (arith, (subst (λ (x : ℕ). x < c.args.a) (sym c.stack_get-j.ensures.is) (c.loop-h.invariant.3.inside (c.loop-h.h - 1) (omega arith))), c.requires.2.fits.fit_m, length_mark c.loop-h.invariant.0, length_mark c.requires.0)) (λ z. omega (arith, ap (λ (x : ℕ). get_or (marks_of c.loop-h.w) x 0) c.stack_get-j.ensures.is, c.loop-h.invariant.3.grey (c.loop-h.h - 1) (omega arith))) (λ z. omega (arith, c.loop-h.invariant.3.two)) (omega arith))

pub loop-h-preserved-in-Last : goal.loop-h-preserved-in-Last
loop-h-preserved-in-Last c = let x = pass_mates (λ (M K : List ℕ). Marked (marks_of c.args.w.now) M × Search (log_of c.args.used c.args.w.now) (pos_of c.args.w.now) (cells_of c.args.w.now) M K (dones_of c.pass.new.w) c.args.a (c.loop-h.h - 1) (c.loop-h.clock + 1)) c.pass.ensures (marked_store (marks_of c.args.w.now) (marks_of c.loop-h.w) _ c.stack_get-j.result c.loop-h.clock c.loop-h.invariant.2 c.mark_put.ensures.mark (omega (arith, (subst (λ (x : ℕ). x < c.args.a) (sym c.stack_get-j.ensures.is) (c.loop-h.invariant.3.inside (c.loop-h.h - 1) (omega arith))), c.requires.2.fits.fit_m, length_mark c.loop-h.invariant.0, length_mark c.requires.0)) (λ z. omega (arith, c.loop-h.invariant.3.two)), subst (λ (K : List ℕ). Search (log_of c.args.used c.args.w.now) (pos_of c.args.w.now) (cells_of c.args.w.now) (marks_of c.mark_put.new.w) K (dones_of c.pass.new.w) c.args.a (c.loop-h.h - 1) (c.loop-h.clock + 1)) (sym c.mark_put.ensures.stack) (passed (log_of c.args.used c.args.w.now) (pos_of c.args.w.now) (cells_of c.args.w.now) (marks_of c.loop-h.w) (stack_of c.loop-h.w) (dones_of c.loop-h.w) c.args.a c.loop-h.h c.loop-h.clock c.loop-h.invariant.3 (c.loop-h.h - 1) c.stack_get-j.result c.done_get-i.result (omega arith) c.stack_get-j.ensures.is c.done_get-i.ensures.is (subst (λ (x : ℕ). ChildAt (log_of c.args.used c.args.w.now) (cells_of c.args.w.now) x Last) (ap (λ (x : ℕ). x + 3 + c.done_get-i.result) (got_pos c.loop-h.invariant.1 c.pos_get-p.ensures).is) (subst (ChildAt (log_of c.args.used c.args.w.now) (cells_of c.args.w.now) (c.pos_get-p.result + 3 + c.done_get-i.result)) c.in-Last.is (searched_at c.args.used (λ (W : List Word) (P T : List ℕ). ChildAt W T (c.pos_get-p.result + 3 + c.done_get-i.result) c.look-d.result) c.loop-h.invariant.1 c.look-d.ensures))) c.requires.2.fits.apps _ c.mark_put.ensures.mark (omega (arith, (subst (λ (x : ℕ). x < c.args.a) (sym c.stack_get-j.ensures.is) (c.loop-h.invariant.3.inside (c.loop-h.h - 1) (omega arith))), c.requires.2.fits.fit_m, length_mark c.loop-h.invariant.0, length_mark c.requires.0)) _ (λ p. subst (λ (D : List ℕ). Stored D (c.loop-h.h - 1 - 1) (get_or D (c.loop-h.h - 1 - 1) 0 + 1) (dones_of c.pass.new.w)) c.mark_put.ensures.done (c.pass.ensures.some p)) (λ z. c.pass.ensures.none z ∙ c.mark_put.ensures.done) (omega (arith, c.loop-h.invariant.3.count, c.loop-h.invariant.3.two, c.requires.2.fits.fit_d, length_done c.loop-h.invariant.0, length_done c.requires.0)))) in (laid_after (laid_after c.loop-h.invariant.0 c.mark_put.ensures.rest) c.pass.ensures.rest, outside_then (outside_then c.loop-h.invariant.1 c.mark_put.ensures.rest) c.pass.ensures.rest, x.0, x.1)

pub overflow_add-i : goal.overflow_add-i
overflow_add-i c = omega (arith, c.done_get-i.ensures.small)

pub done_put-requires : goal.done_put-requires
done_put-requires c = let e = (subst (λ (x : ℕ). ChildAt (log_of c.args.used c.args.w.now) (cells_of c.args.w.now) x Open) (ap (λ (x : ℕ). x + 3 + c.done_get-i.result) (got_pos c.loop-h.invariant.1 c.pos_get-p.ensures).is) (subst (ChildAt (log_of c.args.used c.args.w.now) (cells_of c.args.w.now) (c.pos_get-p.result + 3 + c.done_get-i.result)) c.in-Open.is (searched_at c.args.used (λ (W : List Word) (P T : List ℕ). ChildAt W T (c.pos_get-p.result + 3 + c.done_get-i.result) c.look-d.result) c.loop-h.invariant.1 c.look-d.ensures))) in record { laid = c.loop-h.invariant.0; inside = omega (arith, c.loop-h.invariant.3.count, c.loop-h.invariant.3.two, c.requires.2.fits.fit_d, length_done c.loop-h.invariant.0, length_done c.requires.0); small = omega (arith, var_inside (log_of c.args.used c.args.w.now) (get_or (pos_of c.args.w.now) c.stack_get-j.result 0 + 3 + c.done_get-i.result) e.var, c.requires.2.fits.long) }

pub loop-h-smaller-in-Open : goal.loop-h-smaller-in-Open
loop-h-smaller-in-Open c = let e = (subst (λ (x : ℕ). ChildAt (log_of c.args.used c.args.w.now) (cells_of c.args.w.now) x Open) (ap (λ (x : ℕ). x + 3 + c.done_get-i.result) (got_pos c.loop-h.invariant.1 c.pos_get-p.ensures).is) (subst (ChildAt (log_of c.args.used c.args.w.now) (cells_of c.args.w.now) (c.pos_get-p.result + 3 + c.done_get-i.result)) c.in-Open.is (searched_at c.args.used (λ (W : List Word) (P T : List ℕ). ChildAt W T (c.pos_get-p.result + 3 + c.done_get-i.result) c.look-d.result) c.loop-h.invariant.1 c.look-d.ensures))) in done_mates (λ (M K : List ℕ). left (length (log_of c.args.used c.args.w.now)) M (dones_of c.done_put.new.w) c.args.a c.loop-h.h < left (length (log_of c.args.used c.args.w.now)) (marks_of c.loop-h.w) (dones_of c.loop-h.w) c.args.a c.loop-h.h) c.done_put.ensures (left_next (length (log_of c.args.used c.args.w.now)) c.args.a c.loop-h.h (c.loop-h.h - 1) c.done_get-i.result (marks_of c.loop-h.w) (dones_of c.loop-h.w) _ c.done_put.ensures.done (omega (arith, c.loop-h.invariant.3.count, c.loop-h.invariant.3.two, c.requires.2.fits.fit_d, length_done c.loop-h.invariant.0, length_done c.requires.0)) c.done_get-i.ensures.is (omega (arith, var_inside (log_of c.args.used c.args.w.now) (get_or (pos_of c.args.w.now) c.stack_get-j.result 0 + 3 + c.done_get-i.result) e.var)) (omega arith))

pub loop-h-preserved-in-Open : goal.loop-h-preserved-in-Open
loop-h-preserved-in-Open c = let e = (subst (λ (x : ℕ). ChildAt (log_of c.args.used c.args.w.now) (cells_of c.args.w.now) x Open) (ap (λ (x : ℕ). x + 3 + c.done_get-i.result) (got_pos c.loop-h.invariant.1 c.pos_get-p.ensures).is) (subst (ChildAt (log_of c.args.used c.args.w.now) (cells_of c.args.w.now) (c.pos_get-p.result + 3 + c.done_get-i.result)) c.in-Open.is (searched_at c.args.used (λ (W : List Word) (P T : List ℕ). ChildAt W T (c.pos_get-p.result + 3 + c.done_get-i.result) c.look-d.result) c.loop-h.invariant.1 c.look-d.ensures))) in let x = done_mates (λ (M K : List ℕ). Marked (marks_of c.args.w.now) M × Search (log_of c.args.used c.args.w.now) (pos_of c.args.w.now) (cells_of c.args.w.now) M K (dones_of c.done_put.new.w) c.args.a c.loop-h.h c.loop-h.clock) c.done_put.ensures (c.loop-h.invariant.2, advanced (log_of c.args.used c.args.w.now) (pos_of c.args.w.now) (cells_of c.args.w.now) (marks_of c.loop-h.w) (stack_of c.loop-h.w) (dones_of c.loop-h.w) c.args.a c.loop-h.h c.loop-h.clock c.loop-h.invariant.3 (c.loop-h.h - 1) c.stack_get-j.result c.done_get-i.result (omega arith) c.stack_get-j.ensures.is c.done_get-i.ensures.is e.var (settled_open (log_of c.args.used c.args.w.now) (cells_of c.args.w.now) (marks_of c.loop-h.w) (get_or (pos_of c.args.w.now) c.stack_get-j.result 0 + 3 + c.done_get-i.result) e) _ c.done_put.ensures.done (omega (arith, c.loop-h.invariant.3.count, c.loop-h.invariant.3.two, c.requires.2.fits.fit_d, length_done c.loop-h.invariant.0, length_done c.requires.0))) in (laid_after c.loop-h.invariant.0 c.done_put.ensures.rest, outside_then c.loop-h.invariant.1 c.done_put.ensures.rest, x.0, x.1)

pub mark_get-m-requires : goal.mark_get-m-requires
mark_get-m-requires c = record { laid = c.loop-h.invariant.0; inside = omega (arith, leads_app (log_of c.args.used c.args.w.now) (cells_of c.args.w.now) c.args.a (get_or (pos_of c.args.w.now) c.stack_get-j.result 0 + 3 + c.done_get-i.result) c.in-Bound.b c.requires.2.fits.apps (subst (λ (x : ℕ). Leads (log_of c.args.used c.args.w.now) (cells_of c.args.w.now) x c.in-Bound.b) (ap (λ (x : ℕ). x + 3 + c.done_get-i.result) (got_pos c.loop-h.invariant.1 c.pos_get-p.ensures).is) (subst (ChildAt (log_of c.args.used c.args.w.now) (cells_of c.args.w.now) (c.pos_get-p.result + 3 + c.done_get-i.result)) c.in-Bound.is (searched_at c.args.used (λ (W : List Word) (P T : List ℕ). ChildAt W T (c.pos_get-p.result + 3 + c.done_get-i.result) c.look-d.result) c.loop-h.invariant.1 c.look-d.ensures))), c.requires.2.fits.fit_m, length_mark c.loop-h.invariant.0, length_mark c.requires.0, length_mark c.requires.0) }

pub place-requires : goal.place-requires
place-requires c = let w = (stack_room c.args.a c.in-Bound.b (marks_of c.loop-h.w) (leads_app (log_of c.args.used c.args.w.now) (cells_of c.args.w.now) c.args.a (get_or (pos_of c.args.w.now) c.stack_get-j.result 0 + 3 + c.done_get-i.result) c.in-Bound.b c.requires.2.fits.apps (subst (λ (x : ℕ). Leads (log_of c.args.used c.args.w.now) (cells_of c.args.w.now) x c.in-Bound.b) (ap (λ (x : ℕ). x + 3 + c.done_get-i.result) (got_pos c.loop-h.invariant.1 c.pos_get-p.ensures).is) (subst (ChildAt (log_of c.args.used c.args.w.now) (cells_of c.args.w.now) (c.pos_get-p.result + 3 + c.done_get-i.result)) c.in-Bound.is (searched_at c.args.used (λ (W : List Word) (P T : List ℕ). ChildAt W T (c.pos_get-p.result + 3 + c.done_get-i.result) c.look-d.result) c.loop-h.invariant.1 c.look-d.ensures)))) (sym c.mark_get-m.ensures.is ∙ c.if-m-eq0.true) (log_of c.args.used c.args.w.now) (pos_of c.args.w.now) (cells_of c.args.w.now) (stack_of c.loop-h.w) (dones_of c.loop-h.w) c.loop-h.h c.loop-h.clock c.loop-h.invariant.3) in (c.loop-h.invariant.0, record { mark = omega (arith, (leads_app (log_of c.args.used c.args.w.now) (cells_of c.args.w.now) c.args.a (get_or (pos_of c.args.w.now) c.stack_get-j.result 0 + 3 + c.done_get-i.result) c.in-Bound.b c.requires.2.fits.apps (subst (λ (x : ℕ). Leads (log_of c.args.used c.args.w.now) (cells_of c.args.w.now) x c.in-Bound.b) (ap (λ (x : ℕ). x + 3 + c.done_get-i.result) (got_pos c.loop-h.invariant.1 c.pos_get-p.ensures).is) (subst (ChildAt (log_of c.args.used c.args.w.now) (cells_of c.args.w.now) (c.pos_get-p.result + 3 + c.done_get-i.result)) c.in-Bound.is (searched_at c.args.used (λ (W : List Word) (P T : List ℕ). ChildAt W T (c.pos_get-p.result + 3 + c.done_get-i.result) c.look-d.result) c.loop-h.invariant.1 c.look-d.ensures)))), c.requires.2.fits.fit_m, length_mark c.loop-h.invariant.0, length_mark c.requires.0); stack = omega (arith, w, c.requires.2.fits.fit_k, length_stack c.loop-h.invariant.0, length_stack c.requires.0); dones = omega (arith, w, c.requires.2.fits.fit_d, length_done c.loop-h.invariant.0, length_done c.requires.0); small = omega (arith, (leads_app (log_of c.args.used c.args.w.now) (cells_of c.args.w.now) c.args.a (get_or (pos_of c.args.w.now) c.stack_get-j.result 0 + 3 + c.done_get-i.result) c.in-Bound.b c.requires.2.fits.apps (subst (λ (x : ℕ). Leads (log_of c.args.used c.args.w.now) (cells_of c.args.w.now) x c.in-Bound.b) (ap (λ (x : ℕ). x + 3 + c.done_get-i.result) (got_pos c.loop-h.invariant.1 c.pos_get-p.ensures).is) (subst (ChildAt (log_of c.args.used c.args.w.now) (cells_of c.args.w.now) (c.pos_get-p.result + 3 + c.done_get-i.result)) c.in-Bound.is (searched_at c.args.used (λ (W : List Word) (P T : List ℕ). ChildAt W T (c.pos_get-p.result + 3 + c.done_get-i.result) c.look-d.result) c.loop-h.invariant.1 c.look-d.ensures)))), c.requires.2.fits.few) })

pub overflow_add-h : goal.overflow_add-h
overflow_add-h c = let w = (stack_room c.args.a c.in-Bound.b (marks_of c.loop-h.w) (leads_app (log_of c.args.used c.args.w.now) (cells_of c.args.w.now) c.args.a (get_or (pos_of c.args.w.now) c.stack_get-j.result 0 + 3 + c.done_get-i.result) c.in-Bound.b c.requires.2.fits.apps (subst (λ (x : ℕ). Leads (log_of c.args.used c.args.w.now) (cells_of c.args.w.now) x c.in-Bound.b) (ap (λ (x : ℕ). x + 3 + c.done_get-i.result) (got_pos c.loop-h.invariant.1 c.pos_get-p.ensures).is) (subst (ChildAt (log_of c.args.used c.args.w.now) (cells_of c.args.w.now) (c.pos_get-p.result + 3 + c.done_get-i.result)) c.in-Bound.is (searched_at c.args.used (λ (W : List Word) (P T : List ℕ). ChildAt W T (c.pos_get-p.result + 3 + c.done_get-i.result) c.look-d.result) c.loop-h.invariant.1 c.look-d.ensures)))) (sym c.mark_get-m.ensures.is ∙ c.if-m-eq0.true) (log_of c.args.used c.args.w.now) (pos_of c.args.w.now) (cells_of c.args.w.now) (stack_of c.loop-h.w) (dones_of c.loop-h.w) c.loop-h.h c.loop-h.clock c.loop-h.invariant.3) in omega (arith, w, c.requires.2.fits.few)

pub loop-h-smaller-then-m-eq0 : goal.loop-h-smaller-then-m-eq0
loop-h-smaller-then-m-eq0 c = left_push (length (log_of c.args.used c.args.w.now)) c.args.a c.in-Bound.b c.loop-h.h (marks_of c.loop-h.w) _ (dones_of c.loop-h.w) _ c.place.ensures.0.mark (omega (arith, (leads_app (log_of c.args.used c.args.w.now) (cells_of c.args.w.now) c.args.a (get_or (pos_of c.args.w.now) c.stack_get-j.result 0 + 3 + c.done_get-i.result) c.in-Bound.b c.requires.2.fits.apps (subst (λ (x : ℕ). Leads (log_of c.args.used c.args.w.now) (cells_of c.args.w.now) x c.in-Bound.b) (ap (λ (x : ℕ). x + 3 + c.done_get-i.result) (got_pos c.loop-h.invariant.1 c.pos_get-p.ensures).is) (subst (ChildAt (log_of c.args.used c.args.w.now) (cells_of c.args.w.now) (c.pos_get-p.result + 3 + c.done_get-i.result)) c.in-Bound.is (searched_at c.args.used (λ (W : List Word) (P T : List ℕ). ChildAt W T (c.pos_get-p.result + 3 + c.done_get-i.result) c.look-d.result) c.loop-h.invariant.1 c.look-d.ensures)))), c.requires.2.fits.fit_m, length_mark c.loop-h.invariant.0, length_mark c.requires.0)) (sym c.mark_get-m.ensures.is ∙ c.if-m-eq0.true) (leads_app (log_of c.args.used c.args.w.now) (cells_of c.args.w.now) c.args.a (get_or (pos_of c.args.w.now) c.stack_get-j.result 0 + 3 + c.done_get-i.result) c.in-Bound.b c.requires.2.fits.apps (subst (λ (x : ℕ). Leads (log_of c.args.used c.args.w.now) (cells_of c.args.w.now) x c.in-Bound.b) (ap (λ (x : ℕ). x + 3 + c.done_get-i.result) (got_pos c.loop-h.invariant.1 c.pos_get-p.ensures).is) (subst (ChildAt (log_of c.args.used c.args.w.now) (cells_of c.args.w.now) (c.pos_get-p.result + 3 + c.done_get-i.result)) c.in-Bound.is (searched_at c.args.used (λ (W : List Word) (P T : List ℕ). ChildAt W T (c.pos_get-p.result + 3 + c.done_get-i.result) c.look-d.result) c.loop-h.invariant.1 c.look-d.ensures)))) (omega arith)

pub loop-h-preserved-then-m-eq0 : goal.loop-h-preserved-then-m-eq0
loop-h-preserved-then-m-eq0 c = let w = (stack_room c.args.a c.in-Bound.b (marks_of c.loop-h.w) (leads_app (log_of c.args.used c.args.w.now) (cells_of c.args.w.now) c.args.a (get_or (pos_of c.args.w.now) c.stack_get-j.result 0 + 3 + c.done_get-i.result) c.in-Bound.b c.requires.2.fits.apps (subst (λ (x : ℕ). Leads (log_of c.args.used c.args.w.now) (cells_of c.args.w.now) x c.in-Bound.b) (ap (λ (x : ℕ). x + 3 + c.done_get-i.result) (got_pos c.loop-h.invariant.1 c.pos_get-p.ensures).is) (subst (ChildAt (log_of c.args.used c.args.w.now) (cells_of c.args.w.now) (c.pos_get-p.result + 3 + c.done_get-i.result)) c.in-Bound.is (searched_at c.args.used (λ (W : List Word) (P T : List ℕ). ChildAt W T (c.pos_get-p.result + 3 + c.done_get-i.result) c.look-d.result) c.loop-h.invariant.1 c.look-d.ensures)))) (sym c.mark_get-m.ensures.is ∙ c.if-m-eq0.true) (log_of c.args.used c.args.w.now) (pos_of c.args.w.now) (cells_of c.args.w.now) (stack_of c.loop-h.w) (dones_of c.loop-h.w) c.loop-h.h c.loop-h.clock c.loop-h.invariant.3) in (laid_after c.loop-h.invariant.0 c.place.ensures.1, outside_then c.loop-h.invariant.1 c.place.ensures.1, marked_store (marks_of c.args.w.now) (marks_of c.loop-h.w) _ c.in-Bound.b 1 c.loop-h.invariant.2 c.place.ensures.0.mark (omega (arith, (leads_app (log_of c.args.used c.args.w.now) (cells_of c.args.w.now) c.args.a (get_or (pos_of c.args.w.now) c.stack_get-j.result 0 + 3 + c.done_get-i.result) c.in-Bound.b c.requires.2.fits.apps (subst (λ (x : ℕ). Leads (log_of c.args.used c.args.w.now) (cells_of c.args.w.now) x c.in-Bound.b) (ap (λ (x : ℕ). x + 3 + c.done_get-i.result) (got_pos c.loop-h.invariant.1 c.pos_get-p.ensures).is) (subst (ChildAt (log_of c.args.used c.args.w.now) (cells_of c.args.w.now) (c.pos_get-p.result + 3 + c.done_get-i.result)) c.in-Bound.is (searched_at c.args.used (λ (W : List Word) (P T : List ℕ). ChildAt W T (c.pos_get-p.result + 3 + c.done_get-i.result) c.look-d.result) c.loop-h.invariant.1 c.look-d.ensures)))), c.requires.2.fits.fit_m, length_mark c.loop-h.invariant.0, length_mark c.requires.0)) (λ z. omega arith), (pushed (log_of c.args.used c.args.w.now) (pos_of c.args.w.now) (cells_of c.args.w.now) (marks_of c.loop-h.w) (stack_of c.loop-h.w) (dones_of c.loop-h.w) c.args.a c.loop-h.h c.loop-h.clock c.in-Bound.b c.loop-h.invariant.3 (leads_app (log_of c.args.used c.args.w.now) (cells_of c.args.w.now) c.args.a (get_or (pos_of c.args.w.now) c.stack_get-j.result 0 + 3 + c.done_get-i.result) c.in-Bound.b c.requires.2.fits.apps (subst (λ (x : ℕ). Leads (log_of c.args.used c.args.w.now) (cells_of c.args.w.now) x c.in-Bound.b) (ap (λ (x : ℕ). x + 3 + c.done_get-i.result) (got_pos c.loop-h.invariant.1 c.pos_get-p.ensures).is) (subst (ChildAt (log_of c.args.used c.args.w.now) (cells_of c.args.w.now) (c.pos_get-p.result + 3 + c.done_get-i.result)) c.in-Bound.is (searched_at c.args.used (λ (W : List Word) (P T : List ℕ). ChildAt W T (c.pos_get-p.result + 3 + c.done_get-i.result) c.look-d.result) c.loop-h.invariant.1 c.look-d.ensures)))) (sym c.mark_get-m.ensures.is ∙ c.if-m-eq0.true) _ _ _ c.place.ensures.0.mark c.place.ensures.0.stack c.place.ensures.0.dones (omega (arith, (leads_app (log_of c.args.used c.args.w.now) (cells_of c.args.w.now) c.args.a (get_or (pos_of c.args.w.now) c.stack_get-j.result 0 + 3 + c.done_get-i.result) c.in-Bound.b c.requires.2.fits.apps (subst (λ (x : ℕ). Leads (log_of c.args.used c.args.w.now) (cells_of c.args.w.now) x c.in-Bound.b) (ap (λ (x : ℕ). x + 3 + c.done_get-i.result) (got_pos c.loop-h.invariant.1 c.pos_get-p.ensures).is) (subst (ChildAt (log_of c.args.used c.args.w.now) (cells_of c.args.w.now) (c.pos_get-p.result + 3 + c.done_get-i.result)) c.in-Bound.is (searched_at c.args.used (λ (W : List Word) (P T : List ℕ). ChildAt W T (c.pos_get-p.result + 3 + c.done_get-i.result) c.look-d.result) c.loop-h.invariant.1 c.look-d.ensures)))), c.requires.2.fits.fit_m, length_mark c.loop-h.invariant.0, length_mark c.requires.0)) (omega (arith, w, c.requires.2.fits.fit_k, length_stack c.loop-h.invariant.0, length_stack c.requires.0)) (omega (arith, w, c.requires.2.fits.fit_d, length_done c.loop-h.invariant.0, length_done c.requires.0)) (λ s e. subst (λ (x : ℕ). Leads (log_of c.args.used c.args.w.now) (cells_of c.args.w.now) (get_or (pos_of c.args.w.now) (get_or (stack_of c.loop-h.w) x 0) 0 + 3 + get_or (dones_of c.loop-h.w) x 0) c.in-Bound.b) (let z : (c.loop-h.h - 1) ≡ s = omega arith in z) (subst (λ (x : ℕ). Leads (log_of c.args.used c.args.w.now) (cells_of c.args.w.now) (get_or (pos_of c.args.w.now) x 0 + 3 + get_or (dones_of c.loop-h.w) (c.loop-h.h - 1) 0) c.in-Bound.b) c.stack_get-j.ensures.is (subst (λ (x : ℕ). Leads (log_of c.args.used c.args.w.now) (cells_of c.args.w.now) (get_or (pos_of c.args.w.now) c.stack_get-j.result 0 + 3 + x) c.in-Bound.b) c.done_get-i.ensures.is (subst (λ (x : ℕ). Leads (log_of c.args.used c.args.w.now) (cells_of c.args.w.now) x c.in-Bound.b) (ap (λ (x : ℕ). x + 3 + c.done_get-i.result) (got_pos c.loop-h.invariant.1 c.pos_get-p.ensures).is) (subst (ChildAt (log_of c.args.used c.args.w.now) (cells_of c.args.w.now) (c.pos_get-p.result + 3 + c.done_get-i.result)) c.in-Bound.is (searched_at c.args.used (λ (W : List Word) (P T : List ℕ). ChildAt W T (c.pos_get-p.result + 3 + c.done_get-i.result) c.look-d.result) c.loop-h.invariant.1 c.look-d.ensures))))))))

pub returns-then-m-eq1 : goal.returns-then-m-eq1
returns-then-m-eq1 c = (cycle (log_of c.args.used c.args.w.now) (pos_of c.args.w.now) (cells_of c.args.w.now) (marks_of c.loop-h.w) (stack_of c.loop-h.w) (dones_of c.loop-h.w) c.args.a c.loop-h.h c.loop-h.clock c.requires.2.fits.look.up c.loop-h.invariant.3 (c.loop-h.h - 1) (omega arith) c.in-Bound.b (subst (λ (x : ℕ). Leads (log_of c.args.used c.args.w.now) (cells_of c.args.w.now) (get_or (pos_of c.args.w.now) x 0 + 3 + get_or (dones_of c.loop-h.w) (c.loop-h.h - 1) 0) c.in-Bound.b) c.stack_get-j.ensures.is (subst (λ (x : ℕ). Leads (log_of c.args.used c.args.w.now) (cells_of c.args.w.now) (get_or (pos_of c.args.w.now) c.stack_get-j.result 0 + 3 + x) c.in-Bound.b) c.done_get-i.ensures.is (subst (λ (x : ℕ). Leads (log_of c.args.used c.args.w.now) (cells_of c.args.w.now) x c.in-Bound.b) (ap (λ (x : ℕ). x + 3 + c.done_get-i.result) (got_pos c.loop-h.invariant.1 c.pos_get-p.ensures).is) (subst (ChildAt (log_of c.args.used c.args.w.now) (cells_of c.args.w.now) (c.pos_get-p.result + 3 + c.done_get-i.result)) c.in-Bound.is (searched_at c.args.used (λ (W : List Word) (P T : List ℕ). ChildAt W T (c.pos_get-p.result + 3 + c.done_get-i.result) c.look-d.result) c.loop-h.invariant.1 c.look-d.ensures))))) (leads_app (log_of c.args.used c.args.w.now) (cells_of c.args.w.now) c.args.a (get_or (pos_of c.args.w.now) c.stack_get-j.result 0 + 3 + c.done_get-i.result) c.in-Bound.b c.requires.2.fits.apps (subst (λ (x : ℕ). Leads (log_of c.args.used c.args.w.now) (cells_of c.args.w.now) x c.in-Bound.b) (ap (λ (x : ℕ). x + 3 + c.done_get-i.result) (got_pos c.loop-h.invariant.1 c.pos_get-p.ensures).is) (subst (ChildAt (log_of c.args.used c.args.w.now) (cells_of c.args.w.now) (c.pos_get-p.result + 3 + c.done_get-i.result)) c.in-Bound.is (searched_at c.args.used (λ (W : List Word) (P T : List ℕ). ChildAt W T (c.pos_get-p.result + 3 + c.done_get-i.result) c.look-d.result) c.loop-h.invariant.1 c.look-d.ensures)))) (sym c.mark_get-m.ensures.is ∙ c.if-m-eq1.true), c.loop-h.invariant.1)

pub overflow_add-i-else-m-eq0 : goal.overflow_add-i-else-m-eq0
overflow_add-i-else-m-eq0 c = omega (arith, c.done_get-i.ensures.small)

pub done_put-requires-else-m-eq0 : goal.done_put-requires-else-m-eq0
done_put-requires-else-m-eq0 c = let e = (subst (λ (x : ℕ). Leads (log_of c.args.used c.args.w.now) (cells_of c.args.w.now) x c.in-Bound.b) (ap (λ (x : ℕ). x + 3 + c.done_get-i.result) (got_pos c.loop-h.invariant.1 c.pos_get-p.ensures).is) (subst (ChildAt (log_of c.args.used c.args.w.now) (cells_of c.args.w.now) (c.pos_get-p.result + 3 + c.done_get-i.result)) c.in-Bound.is (searched_at c.args.used (λ (W : List Word) (P T : List ℕ). ChildAt W T (c.pos_get-p.result + 3 + c.done_get-i.result) c.look-d.result) c.loop-h.invariant.1 c.look-d.ensures))) in record { laid = c.loop-h.invariant.0; inside = omega (arith, c.loop-h.invariant.3.count, c.loop-h.invariant.3.two, c.requires.2.fits.fit_d, length_done c.loop-h.invariant.0, length_done c.requires.0); small = omega (arith, var_inside (log_of c.args.used c.args.w.now) (get_or (pos_of c.args.w.now) c.stack_get-j.result 0 + 3 + c.done_get-i.result) e.var, c.requires.2.fits.long) }

pub loop-h-smaller : goal.loop-h-smaller
loop-h-smaller c = let e = (subst (λ (x : ℕ). Leads (log_of c.args.used c.args.w.now) (cells_of c.args.w.now) x c.in-Bound.b) (ap (λ (x : ℕ). x + 3 + c.done_get-i.result) (got_pos c.loop-h.invariant.1 c.pos_get-p.ensures).is) (subst (ChildAt (log_of c.args.used c.args.w.now) (cells_of c.args.w.now) (c.pos_get-p.result + 3 + c.done_get-i.result)) c.in-Bound.is (searched_at c.args.used (λ (W : List Word) (P T : List ℕ). ChildAt W T (c.pos_get-p.result + 3 + c.done_get-i.result) c.look-d.result) c.loop-h.invariant.1 c.look-d.ensures))) in done_mates (λ (M K : List ℕ). left (length (log_of c.args.used c.args.w.now)) M (dones_of c.done_put-else-m-eq0.new.w) c.args.a c.loop-h.h < left (length (log_of c.args.used c.args.w.now)) (marks_of c.loop-h.w) (dones_of c.loop-h.w) c.args.a c.loop-h.h) c.done_put-else-m-eq0.ensures (left_next (length (log_of c.args.used c.args.w.now)) c.args.a c.loop-h.h (c.loop-h.h - 1) c.done_get-i.result (marks_of c.loop-h.w) (dones_of c.loop-h.w) _ c.done_put-else-m-eq0.ensures.done (omega (arith, c.loop-h.invariant.3.count, c.loop-h.invariant.3.two, c.requires.2.fits.fit_d, length_done c.loop-h.invariant.0, length_done c.requires.0)) c.done_get-i.ensures.is (omega (arith, var_inside (log_of c.args.used c.args.w.now) (get_or (pos_of c.args.w.now) c.stack_get-j.result 0 + 3 + c.done_get-i.result) e.var)) (omega arith))

pub loop-h-preserved : goal.loop-h-preserved
loop-h-preserved c = let e = (subst (λ (x : ℕ). Leads (log_of c.args.used c.args.w.now) (cells_of c.args.w.now) x c.in-Bound.b) (ap (λ (x : ℕ). x + 3 + c.done_get-i.result) (got_pos c.loop-h.invariant.1 c.pos_get-p.ensures).is) (subst (ChildAt (log_of c.args.used c.args.w.now) (cells_of c.args.w.now) (c.pos_get-p.result + 3 + c.done_get-i.result)) c.in-Bound.is (searched_at c.args.used (λ (W : List Word) (P T : List ℕ). ChildAt W T (c.pos_get-p.result + 3 + c.done_get-i.result) c.look-d.result) c.loop-h.invariant.1 c.look-d.ensures))) in let x = done_mates (λ (M K : List ℕ). Marked (marks_of c.args.w.now) M × Search (log_of c.args.used c.args.w.now) (pos_of c.args.w.now) (cells_of c.args.w.now) M K (dones_of c.done_put-else-m-eq0.new.w) c.args.a c.loop-h.h c.loop-h.clock) c.done_put-else-m-eq0.ensures (c.loop-h.invariant.2, advanced (log_of c.args.used c.args.w.now) (pos_of c.args.w.now) (cells_of c.args.w.now) (marks_of c.loop-h.w) (stack_of c.loop-h.w) (dones_of c.loop-h.w) c.args.a c.loop-h.h c.loop-h.clock c.loop-h.invariant.3 (c.loop-h.h - 1) c.stack_get-j.result c.done_get-i.result (omega arith) c.stack_get-j.ensures.is c.done_get-i.ensures.is e.var (settled_done (log_of c.args.used c.args.w.now) (cells_of c.args.w.now) (marks_of c.loop-h.w) (get_or (pos_of c.args.w.now) c.stack_get-j.result 0 + 3 + c.done_get-i.result) c.in-Bound.b c.mark_get-m.result e c.mark_get-m.ensures.is c.if-m-eq0.false c.if-m-eq1.false) _ c.done_put-else-m-eq0.ensures.done (omega (arith, c.loop-h.invariant.3.count, c.loop-h.invariant.3.two, c.requires.2.fits.fit_d, length_done c.loop-h.invariant.0, length_done c.requires.0))) in (laid_after c.loop-h.invariant.0 c.done_put-else-m-eq0.ensures.rest, outside_then c.loop-h.invariant.1 c.done_put-else-m-eq0.ensures.rest, x.0, x.1)

pub returns : goal.returns
returns c = let z : c.loop-h.h ≡ 0 = omega arith in (drained_done (log_of c.args.used c.args.w.now) (pos_of c.args.w.now) (cells_of c.args.w.now) (marks_of c.args.w.now) c.args.a (marks_of c.loop-h.w) (stack_of c.loop-h.w) (dones_of c.loop-h.w) c.loop-h.clock (subst (λ (x : ℕ). Search (log_of c.args.used c.args.w.now) (pos_of c.args.w.now) (cells_of c.args.w.now) (marks_of c.loop-h.w) (stack_of c.loop-h.w) (dones_of c.loop-h.w) c.args.a x c.loop-h.clock) z c.loop-h.invariant.3) c.loop-h.invariant.2, c.loop-h.invariant.1)
