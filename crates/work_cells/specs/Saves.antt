-- Saving and taking back in one working slice: what `cells` says, at the tables of the slice. Assumes nothing.
use Rattle.std.specs.Prelude.{◌≡◌, refl, List, ℕ, ◌+◌, ◌-◌, ◌≤◌, ◌<◌, length, get_or, set}
use Rattle.std.proofs.Common.{ap, ap₂, sym, ◌∙◌, subst, arith}
use Rattle.mem_numbers.specs.Numbers.{Got}
use Rattle.mem_numbers.specs.Stored.{Stored}
use Rattle.solve_cells.specs.Trail.{rewind, rewind_step, rewind_none, Saved, CanSave, CanUndo}
use Rattle.mem_parts.specs.Parts.{outside_then}
use Rattle.work_tables.specs.Tables.{cells_of, vars_of, olds_of, Laid, laid_after, Moved}
use Rattle.work_tables.specs.Writes.{PutCell, PutVar, PutOld}

pub record SavedIn (L : List ℕ) (n x c : ℕ) (X : List ℕ) : Type 0 where
  pub saved : Saved (cells_of L) (vars_of L) (olds_of L) n x c (cells_of X) (vars_of X) (olds_of X)
  pub rest : Moved L X

pub record Undone (L : List ℕ) (n m : ℕ) (X : List ℕ) : Type 0 where
  pub cells : cells_of X ≡ rewind (n - m) m (cells_of L) (vars_of L) (olds_of L)
  pub vars : vars_of X ≡ vars_of L
  pub olds : olds_of X ≡ olds_of L
  pub rest : Moved L X

pub saved_in : {L X Y Z : List ℕ} {n x c o b : ℕ} → Got (cells_of L) x b o → PutVar L n x X → PutOld X n o Y → PutCell Y x c Z → SavedIn L n x c Z
saved_in {L} {X} {Y} {Z} {n} {x} {c} {o} g p q r = record {
  saved = record {
    cells = subst (λ (t : List ℕ). Stored t x c (cells_of Z)) (q.cell ∙ p.cell) r.cell;
    vars = subst (λ (t : List ℕ). Stored (vars_of L) n x t) (sym (r.var ∙ q.var)) p.var;
    olds = subst (λ (v : ℕ). Stored (olds_of L) n v (olds_of Z)) g.is (subst (λ (t : List ℕ). Stored t n o (olds_of Z)) p.old (subst (λ (t : List ℕ). Stored (olds_of X) n o t) (sym r.old) q.old));
  };
  rest = outside_then (outside_then p.rest q.rest) r.rest;
}

-- the loop: what is left to be taken back from Z is what was to be taken back from L
pub record Undoing (L : List ℕ) (n m : ℕ) (Z : List ℕ) (i : ℕ) : Type 0 where
  pub low : m ≤ i
  pub high : i ≤ n
  pub laid : Laid Z
  pub size : length (cells_of Z) ≡ length (cells_of L)
  pub cells : rewind (i - m) m (cells_of Z) (vars_of L) (olds_of L) ≡ rewind (n - m) m (cells_of L) (vars_of L) (olds_of L)
  pub vars : vars_of Z ≡ vars_of L
  pub olds : olds_of Z ≡ olds_of L
  pub rest : Moved L Z

pub undo_none : {L : List ℕ} {n m : ℕ} → Laid L → CanUndo (cells_of L) (vars_of L) (olds_of L) n m → Undoing L n m L n
undo_none g h = record { low = h.le; high = omega arith; laid = g; size = refl; cells = refl; vars = refl; olds = refl; rest = record { before = refl; after = refl; long = refl } }

pub undo_one : {L Z Y : List ℕ} {n m i x o b d : ℕ} → m < i → Undoing L n m Z i → Got (vars_of Z) (i - 1) b x → Got (olds_of Z) (i - 1) d o → PutCell Z x o Y → Undoing L n m Y (i - 1)
undo_one {L} {Z} {Y} {n} {m} {i} {x} {o} l u gx go p =
    let e : i - m ≡ i - 1 - m + 1 = omega arith in
    let f : m + (i - 1 - m) ≡ i - 1 = omega arith in
    let ex : get_or (vars_of L) (m + (i - 1 - m)) 0 ≡ x = ap (λ (j : ℕ). get_or (vars_of L) j 0) f ∙ sym (gx.is ∙ ap (λ (t : List ℕ). get_or t (i - 1) 0) u.vars) in
    let eo : get_or (olds_of L) (m + (i - 1 - m)) 0 ≡ o = ap (λ (j : ℕ). get_or (olds_of L) j 0) f ∙ sym (go.is ∙ ap (λ (t : List ℕ). get_or t (i - 1) 0) u.olds) in
    record {
      low = omega arith;
      high = omega (arith, u.high);
      laid = laid_after u.laid p.rest;
      size = p.cell.long ∙ u.size;
      cells =
          ap (λ (t : List ℕ). rewind (i - 1 - m) m t (vars_of L) (olds_of L)) (p.cell.list ∙ sym (ap₂ (set (cells_of Z)) ex eo))
          ∙ sym (rewind_step (i - 1 - m) m (cells_of Z) (vars_of L) (olds_of L)) ∙ ap (λ (k : ℕ). rewind k m (cells_of Z) (vars_of L) (olds_of L)) (sym e) ∙ u.cells;
      vars = p.var ∙ u.vars;
      olds = p.old ∙ u.olds;
      rest = outside_then u.rest p.rest;
    }

pub undo_all : {L Z : List ℕ} {n m i : ℕ} → i ≤ m → Undoing L n m Z i → Undone L n m Z
undo_all {L} {Z} {n} {m} {i} l u =
    let z : i - m ≡ 0 = omega arith in
    record {
      cells = sym (ap (λ (k : ℕ). rewind k m (cells_of Z) (vars_of L) (olds_of L)) z ∙ rewind_none m (cells_of Z) (vars_of L) (olds_of L)) ∙ u.cells;
      vars = u.vars;
      olds = u.olds;
      rest = u.rest;
    }
