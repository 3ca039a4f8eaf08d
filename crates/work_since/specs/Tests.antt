-- The test leaves all tables but its own as they were: what is asked and said of them is the same before and after. Assumes nothing.
use Rattle.std.specs.Prelude.{List, ℕ}
use Rattle.std.proofs.Common.{sym, subst, arith}
use Rattle.mem_words.specs.declared.Word.{Word}
use Rattle.solve_explores.specs.Search.{Fitting}
use Rattle.solve_explores.specs.Since.{CanSince}
use Rattle.work_tables.specs.Tables.{cells_of, vars_of, olds_of, pos_of, log_of, marks_of, stack_of, dones_of, Laid, laid_after, Searched, searched_at, searched_to, searched_var, searched_old, length_mark, length_stack, length_done}

pub since_at : {L X : List ℕ} (k : ℕ) (Q : List Word → List ℕ → List ℕ → List ℕ → List ℕ → Type 0) → Searched L X → Q (log_of k X) (pos_of X) (cells_of X) (vars_of X) (olds_of X) → Q (log_of k L) (pos_of L) (cells_of L) (vars_of L) (olds_of L)
since_at {L} {X} k Q p q = subst (λ (A : List ℕ). Q (log_of k L) (pos_of L) (cells_of L) A (olds_of L)) (searched_var p) (subst (Q (log_of k L) (pos_of L) (cells_of L) (vars_of X)) (searched_old p) (searched_at k (λ (W : List Word) (P T : List ℕ). Q W P T (vars_of X) (olds_of X)) p q))

-- the tables of the search have the sizes that they had
pub fitting_after : {W : List Word} {P T L X : List ℕ} {a : ℕ} → Laid L → Searched L X → Fitting W P T (marks_of L) (stack_of L) (dones_of L) a → Fitting W P T (marks_of X) (stack_of X) (dones_of X) a
fitting_after {W} {P} {T} {L} {X} {a} h p f =
    let g : Laid X = laid_after h p in
    record { look = f.look; apps = f.apps; few = f.few; fit_p = f.fit_p; fit_m = omega (arith, f.fit_m, length_mark h, length_mark g); fit_k = omega (arith, f.fit_k, length_stack h, length_stack g); fit_d = omega (arith, f.fit_d, length_done h, length_done g); long = f.long }

pub can_since_after : {L X : List ℕ} {n a from : ℕ} (k : ℕ) → Laid L → Searched L X → CanSince (log_of k L) (pos_of L) (cells_of L) (vars_of L) (marks_of L) (stack_of L) (dones_of L) n a from → CanSince (log_of k X) (pos_of X) (cells_of X) (vars_of X) (marks_of X) (stack_of X) (dones_of X) n a from
can_since_after {L} {X} {n} {a} {from} k h p c =
    subst (λ (A : List ℕ). CanSince (log_of k X) (pos_of X) (cells_of X) A (marks_of X) (stack_of X) (dones_of X) n a from) (sym (searched_var p))
    (searched_to k (λ (W : List Word) (P T : List ℕ). CanSince W P T (vars_of L) (marks_of X) (stack_of X) (dones_of X) n a from) p (record { fits = fitting_after h p c.fits; le = c.le; fit_x = c.fit_x; vars = c.vars }))
