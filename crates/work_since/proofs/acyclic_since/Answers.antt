-- The marks are made zero, then the touched classes are searched from. Assumes nothing.
use native.Mathlib.Omega.{arith}
use mathlib.Core.List.{List}
use Prim.Native.Nat.{ℕ}
use Rattle.mem_words.specs.declared.Word.{Word}
use Rattle.mem_parts.specs.Parts.{outside_then}
use Rattle.work_tables.specs.Tables.{laid_after, length_mark}
use Rattle.solve_explores.specs.Since.{TestedSince}
use Rattle.solve_explores.proofs.Searching.{search_first}
use Rattle.work_since.specs.Tests.{since_at, can_since_after}
use Rattle.work_since.proofs.acyclic_since.Goals as goal

pub clear-requires : goal.clear-requires
clear-requires c = (c.requires.0, omega (arith, c.requires.2.fits.fit_m, length_mark c.requires.0))

pub trace-requires : goal.trace-requires
trace-requires c = (laid_after c.requires.0 c.clear.ensures.rest, c.requires.1, can_since_after c.args.used c.requires.0 c.clear.ensures.rest c.requires.2, search_first _ _ _ _ _ _ c.args.a c.clear.ensures.zero)

pub returns : goal.returns
returns c = (since_at c.args.used (λ (W : List Word) (P T X C : List ℕ). TestedSince W P T X C c.args.n c.args.a c.args.from c.trace.result) c.clear.ensures.rest c.trace.ensures.0, outside_then c.clear.ensures.rest c.trace.ensures.1)
