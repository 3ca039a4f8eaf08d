-- The laws are those of `solve_explores`, at the tables of the slice. Assumes nothing.
use Rattle.solve_explores.specs.Search.{CanDrain, Draining}
use Prim.Native.Nat.{ℕ}
use native.Mathlib.Omega.{arith}
use Rattle.mem_numbers.specs.Stored.{stored_same}
use mathlib.Core.List.{List}
use Rattle.mem_words.specs.declared.Word.{Word}
use Rattle.mem_parts.specs.Parts.{outside_then}
use Rattle.work_tables.specs.Tables.{cells_of, pos_of, log_of, marks_of, stack_of, dones_of, laid_after, searched_at, searched_to}
use Rattle.solve_explores.proofs.Searching.{pushed}
use Rattle.solve_explores.proofs.Finding.{marked_same, marked_store, explored_drained}
use Rattle.work_explores.proofs.explore.Goals as goal

pub place-requires : goal.place-requires
place-requires c = (c.requires.0, record { mark = (omega (arith, c.requires.2.app, c.requires.2.fits.fit_m)); stack = omega (arith, c.requires.2.app, c.requires.2.fits.fit_k); dones = omega (arith, c.requires.2.app, c.requires.2.fits.fit_d); small = omega (arith, c.requires.2.app, c.requires.2.fits.few) })

pub drain-requires : goal.drain-requires
drain-requires c = (laid_after c.requires.0 c.place.ensures.1, c.requires.1, searched_to c.args.used (λ (W : List Word) (P T : List ℕ). CanDrain W P T (marks_of c.place.new.w) (stack_of c.place.new.w) (dones_of c.place.new.w) c.args.a 1 c.args.q) c.place.ensures.1 (record { fits = record { look = c.requires.2.fits.look; apps = c.requires.2.fits.apps; few = c.requires.2.fits.few; fit_p = c.requires.2.fits.fit_p; fit_m = omega (arith, c.requires.2.fits.fit_m, c.place.ensures.0.mark.long); fit_k = omega (arith, c.requires.2.fits.fit_k, c.place.ensures.0.stack.long); fit_d = omega (arith, c.requires.2.fits.fit_d, c.place.ensures.0.dones.long); long = c.requires.2.fits.long }; search = pushed (log_of c.args.used c.args.w.now) (pos_of c.args.w.now) (cells_of c.args.w.now) (marks_of c.args.w.now) (stack_of c.args.w.now) (dones_of c.args.w.now) c.args.a 0 c.args.q c.args.k c.requires.2.search c.requires.2.app c.requires.2.new _ _ _ c.place.ensures.0.mark c.place.ensures.0.stack c.place.ensures.0.dones (omega (arith, c.requires.2.app, c.requires.2.fits.fit_m)) (omega (arith, c.requires.2.app, c.requires.2.fits.fit_k)) (omega (arith, c.requires.2.app, c.requires.2.fits.fit_d)) (λ s e. absurd (omega arith)) }))

pub returns : goal.returns
returns c = (explored_drained (log_of c.args.used c.args.w.now) (pos_of c.args.w.now) (cells_of c.args.w.now) (marks_of c.args.w.now) _ c.args.a c.args.k _ _ _ c.drain.result (marked_store (marks_of c.args.w.now) (marks_of c.args.w.now) _ c.args.k 1 (marked_same (marks_of c.args.w.now)) c.place.ensures.0.mark (omega (arith, c.requires.2.app, c.requires.2.fits.fit_m)) (λ e. omega arith)) (λ z. omega (arith, stored_same 0 c.place.ensures.0.mark (omega (arith, c.requires.2.app, c.requires.2.fits.fit_m)))) (searched_at c.args.used (λ (W : List Word) (P T : List ℕ). Draining W P T (marks_of c.place.new.w) c.args.a (marks_of c.drain.new.w) (stack_of c.drain.new.w) (dones_of c.drain.new.w) c.drain.result) c.place.ensures.1 c.drain.ensures.0), outside_then c.place.ensures.1 c.drain.ensures.1)
