-- What the quiet test leaves of the tables of the slice. Assumes nothing.
use Rattle.std.specs.Prelude.{◌≡◌, refl, List, ℕ, length, get_or}
use Rattle.std.proofs.Common.{sym, ap, ◌∙◌, subst}
use Rattle.solve_quiet.specs.Solver.{Kept}
use Rattle.work_tables.specs.Tables.{cells_of, vars_of, olds_of, Searched, searched_cell, searched_var, searched_old}
use Rattle.work_cells.specs.Saves.{Undone}

pub kept_undone : {T X C T' Y Z : List ℕ} {n m k : ℕ} → Kept T X C n T' (vars_of Y) (olds_of Y) → Undone Y m k Z → Kept T X C n T' (vars_of Z) (olds_of Z)
kept_undone {T} {X} {C} {T'} {Y} {Z} {n} k u = subst (λ (A : List ℕ). Kept T X C n T' A (olds_of Z)) (sym u.vars) (subst (Kept T X C n T' (vars_of Y)) (sym u.olds) k)

pub kept_searched : {L X : List ℕ} (n : ℕ) → Searched L X → Kept (cells_of L) (vars_of L) (olds_of L) n (cells_of X) (vars_of X) (olds_of X)
kept_searched n p = record {
  cells = searched_cell p;
  size_x = ap length (searched_var p);
  size_c = ap length (searched_old p);
  old_x = λ i l. ap (λ (A : List ℕ). get_or A i 0) (searched_var p);
  old_c = λ i l. ap (λ (A : List ℕ). get_or A i 0) (searched_old p);
}
