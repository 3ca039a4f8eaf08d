-- The marks are cleared, then all is searched. Assumes nothing.
use Rattle.solve_explores.specs.Search.{CanDrain, Tested}
use Prim.Native.Nat.{ℕ}
use native.Mathlib.Omega.{arith}
use mathlib.Core.List.{List}
use Rattle.mem_words.specs.declared.Word.{Word}
use Rattle.mem_parts.specs.Parts.{outside_then}
use Rattle.work_tables.specs.Tables.{cells_of, pos_of, log_of, marks_of, stack_of, dones_of, laid_after, searched_at, searched_to, length_mark, length_stack, length_done}
use Rattle.solve_explores.proofs.Searching.{search_first}
use Rattle.work_cycles.proofs.acyclic.Goals as goal

pub clear-requires : goal.clear-requires
clear-requires c = (c.requires.0, omega (arith, c.requires.2.fits.fit_m, length_mark c.requires.0))

pub sweep-requires : goal.sweep-requires
sweep-requires c = (laid_after c.requires.0 c.clear.ensures.rest, c.requires.1, searched_to c.args.used (λ (W : List Word) (P T : List ℕ). CanDrain W P T (marks_of c.clear.new.w) (stack_of c.clear.new.w) (dones_of c.clear.new.w) c.args.a 0 2) c.clear.ensures.rest (record { fits = record { look = c.requires.2.fits.look; apps = c.requires.2.fits.apps; few = c.requires.2.fits.few; fit_p = c.requires.2.fits.fit_p; fit_m = omega (arith, c.requires.2.fits.fit_m, length_mark c.requires.0, length_mark (laid_after c.requires.0 c.clear.ensures.rest)); fit_k = omega (arith, c.requires.2.fits.fit_k, length_stack c.requires.0, length_stack (laid_after c.requires.0 c.clear.ensures.rest)); fit_d = omega (arith, c.requires.2.fits.fit_d, length_done c.requires.0, length_done (laid_after c.requires.0 c.clear.ensures.rest)); long = c.requires.2.fits.long }; search = search_first (log_of c.args.used c.args.w.now) (pos_of c.args.w.now) (cells_of c.args.w.now) _ (stack_of c.clear.new.w) (dones_of c.clear.new.w) c.args.a c.clear.ensures.zero }))

pub returns : goal.returns
returns c = (searched_at c.args.used (λ (W : List Word) (P T : List ℕ). Tested W P T c.sweep.result) c.clear.ensures.rest c.sweep.ensures.0, outside_then c.clear.ensures.rest c.sweep.ensures.1)
