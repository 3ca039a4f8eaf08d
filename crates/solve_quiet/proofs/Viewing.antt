-- A class and its binding, read from the tables. Assumes nothing.
use mathlib.Core.Path.{◌≡◌, refl, ap, sym, ◌∙◌, subst}
use mathlib.Core.List.{List}
use Prim.Native.Nat.{ℕ, ◌/◌, ◌%◌, ◌<◌}
use native.Mathlib.Omega.{arith}
use lib.ListN.{length, get_or}
use Rattle.constraint.specs.Tree.{Label}
use Rattle.constraint.specs.Constraint.{Asg}
use Rattle.constraint.proofs.FormSteps.{Holds}
use Rattle.mem_words.specs.declared.Word.{Word}
use Rattle.solve_cells.specs.Cells.{rep, Up, Found}
use Rattle.solve_classes.specs.Means.{bound, Fits}
use Rattle.solve_classes.proofs.Tables.{fits_rep, fits_holds, bound_yes, bound_no}
use Rattle.solve_fields.specs.Read.{tab_of, term_at, tree_at}
use Rattle.solve_tells.proofs.Holding.{holds_tree}
use Rattle.solve_quiet.specs.View.{Free, Term}

module _ (P T : List ℕ) (U : Up T) (x r c : ℕ) (f : Found T x r) (e : c ≡ get_or T r 0) where
  cell : get_or T (rep T x) 0 ≡ c
  cell = ap (λ (z : ℕ). get_or T z 0) (sym f.is) ∙ sym e

  pub view_free : (c % 4 ≡ 2 → ⊥) → Free P T x r
  view_free n = record { class = f.is; binding = λ lab W. ap (bound (tab_of lab W P)) cell ∙ bound_no (tab_of lab W P) c n; tree = λ lab W ρ F. fits_rep (tab_of lab W P) T U ρ F x ∙ ap ρ (sym f.is) }

  pub view_term : (p : ℕ) → c % 4 ≡ 2 → p ≡ get_or P (c / 256) 0 → Term P T x r p
  unfolding tab_of
  view_term p t q = record {
    class = f.is;
    binding = λ lab W. ap (bound (tab_of lab W P)) cell ∙ bound_yes (tab_of lab W P) c t ∙ ap (term_at lab W) (sym q);
    tree = λ lab W ρ F. fits_rep (tab_of lab W P) T U ρ F x ∙ ap ρ (sym f.is) ∙ (holds_tree lab W P ρ r (c / 256)).0 (subst (Holds ρ r) (ap (bound (tab_of lab W P)) (sym e) ∙ bound_yes (tab_of lab W P) c t) (fits_holds (tab_of lab W P) T ρ F r f.root)) ∙ ap (tree_at lab W ρ) (sym q);
  }
