-- The class of a variable and what it is bound to, as answers need them. Assumes nothing.
use Rattle.std.specs.Prelude.{Option, None, Some, ◌≡◌, List, ℕ, ◌/◌, ◌%◌, ◌≤◌, ◌<◌, length, get_or}
use Rattle.constraint.specs.Tree.{Label}
use Rattle.constraint.specs.Constraint.{Asg}
use Rattle.constraint.specs.Solve.{Bnd, free}
use Rattle.mem_words.specs.declared.Word.{Word}
use Rattle.solve_cells.specs.Cells.{rep, Up}
use Rattle.solve_classes.specs.Means.{bound, Fits, Apps}
use Rattle.solve_fields.specs.Read.{tab_of, term_at, tree_at}
use Rattle.solve_quiet.specs.declared.View.{View}

-- what may be looked up
pub record CanView (P T : List ℕ) (x : ℕ) : Type 0 where
  pub up : Up T
  pub inside : x < length T
  pub apps : Apps T (length P)

-- the class of x, with r for it, is unbound
pub record Free (P T : List ℕ) (x r : ℕ) : Type 0 where
  pub class : r ≡ rep T x
  pub binding : (lab : ℕ → Label) (W : List Word) → bound (tab_of lab W P) (get_or T (rep T x) 0) ≡ free
  pub tree : (lab : ℕ → Label) (W : List Word) (ρ : Asg) → Fits (tab_of lab W P) T ρ → ρ x ≡ ρ r

-- the class of x, with r for it, is bound to the application at p
pub record Term (P T : List ℕ) (x r p : ℕ) : Type 0 where
  pub class : r ≡ rep T x
  pub binding : (lab : ℕ → Label) (W : List Word) → bound (tab_of lab W P) (get_or T (rep T x) 0) ≡ term_at lab W p
  pub tree : (lab : ℕ → Label) (W : List Word) (ρ : Asg) → Fits (tab_of lab W P) T ρ → ρ x ≡ tree_at lab W ρ p

-- the binding of the class of x, with r for it
abbrev pub Binding : List ℕ → List ℕ → ℕ → ℕ → Option ℕ → Type 0
Binding P T x r None = Free P T x r
Binding P T x r (Some p) = Term P T x r p

abbrev pub Viewed : List ℕ → List ℕ → ℕ → View → Type 0
Viewed P T x v = Binding P T x v.root.0 v.term
