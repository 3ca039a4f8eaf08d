-- Three writes put an application onto the stack of the cycle test. Assumes nothing.
use Rattle.std.specs.Prelude.{◌≡◌, List, ℕ}
use Rattle.std.proofs.Common.{sym, ◌∙◌, subst}
use Rattle.mem_numbers.specs.Stored.{Stored}
use Rattle.mem_parts.specs.Parts.{outside_then}
use Rattle.solve_explores.specs.Search.{Placed}
use Rattle.work_tables.specs.Tables.{marks_of, stack_of, dones_of, Searched}
use Rattle.work_tables.specs.Writes.{PutMark, PutStack, PutDone}

pub placed_in : {L X Y Z : List ℕ} {h j : ℕ} → PutMark L j 1 X → PutStack X h j Y → PutDone Y h 0 Z → Placed (marks_of L) (stack_of L) (dones_of L) h j (marks_of Z) (stack_of Z) (dones_of Z) × Searched L Z
placed_in {L} {X} {Y} {Z} {h} {j} p q r = (
  record {
    mark = subst (λ (t : List ℕ). Stored (marks_of L) j 1 t) (sym (r.mark ∙ q.mark)) p.mark;
    stack = subst (λ (t : List ℕ). Stored t h j (stack_of Z)) p.stack (subst (λ (t : List ℕ). Stored (stack_of X) h j t) (sym r.stack) q.stack);
    dones = subst (λ (t : List ℕ). Stored t h 0 (dones_of Z)) (q.done ∙ p.done) r.done;
  },
  outside_then (outside_then p.rest q.rest) r.rest,
)
