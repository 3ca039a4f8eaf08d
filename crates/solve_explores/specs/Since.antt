-- The cycle test since a mark: only the classes that the trail touches are searched from. Assumes nothing.
use Rattle.std.specs.Prelude.{Option, None, Some, ◌≡◌, Bool, true, false, List, ℕ, zero, suc, ◌/◌, ◌%◌, ◌≤◌, ◌<◌, length, get_or}
use Rattle.mem_words.specs.declared.Word.{Word}
use Rattle.solve_classes.specs.Means.{OldVars}
use Rattle.solve_tells.specs.Tells.{State, Left}
use Rattle.solve_explores.specs.Search.{cell_of, Fitting, Search, Marked, Cyclic, Acyclic}

-- the class of x is unbound, or its application was met
unfoldable pub Reached : List ℕ → List ℕ → ℕ → Type 0
Reached T M x = cell_of T x % 4 ≡ 2 → get_or M (cell_of T x / 256) 0 ≡ 0 → ⊥

-- the entries of the trail from n₀ on up to i are done
unfoldable pub Traced : List ℕ → List ℕ → List ℕ → ℕ → ℕ → Type 0
Traced T X M n₀ i = (s : ℕ) → n₀ ≤ s → s < i → Reached T M (get_or X s 0)

-- the search may go on from the class of x
pub record CanVisit (W : List Word) (P T M K D : List ℕ) (a q x : ℕ) : Type 0 where
  pub fits : Fitting W P T M K D a
  pub search : Search W P T M K D a 0 q
  pub var : x < length T

-- and ends with x reached, or with a cycle
pub record Visited (W : List Word) (P T M : List ℕ) (a x : ℕ) (M' K' D' : List ℕ) (q' : ℕ) : Type 0 where
  pub search : Search W P T M' K' D' a 0 q'
  pub kept : Marked M M'
  pub met : Reached T M' x

abbrev pub Visiting : List Word → List ℕ → List ℕ → List ℕ → ℕ → ℕ → List ℕ → List ℕ → List ℕ → Option ℕ → Type 0
Visiting W P T M a x M' K' D' None = Cyclic W P T
Visiting W P T M a x M' K' D' (Some q) = Visited W P T M a x M' K' D' q

-- what a test since the mark n₀ needs
pub record CanSince (W : List Word) (P T X M K D : List ℕ) (n a n₀ : ℕ) : Type 0 where
  pub fits : Fitting W P T M K D a
  pub le : n₀ ≤ n
  pub fit_x : n ≤ length X
  pub vars : OldVars X n₀ n (length T)

-- its answer: there is no cycle if there was none at the mark; or there is one
abbrev pub TestedSince : List Word → List ℕ → List ℕ → List ℕ → List ℕ → ℕ → ℕ → ℕ → Bool → Type 0
TestedSince W P T X C n a n₀ true = (P₀ T₀ X₀ C₀ : List ℕ) (a₀ : ℕ) → Left W P₀ T₀ X₀ C₀ n₀ a₀ P T X C n a → State W P₀ T₀ X₀ C₀ n₀ a₀ → Acyclic W P₀ T₀ → Acyclic W P T
TestedSince W P T X C n a n₀ false = Cyclic W P T
