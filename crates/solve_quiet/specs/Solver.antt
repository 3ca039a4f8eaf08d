-- The verdicts of the solver, by the definitions. Assumes nothing.
use Rattle.std.specs.Prelude.{◌≡◌, ◌↔◌, ◌⊎◌, Bool, true, false, List, ◌++◌, ℕ, ◌+◌, ◌*◌, ◌≤◌, ◌<◌, length, get_or}
use Rattle.mem_numbers.specs.Decides.{Decides}
use Rattle.constraint.specs.Tree.{Label}
use Rattle.constraint.specs.Constraint.{Asg, Store, Sats, Satisfiable, Quiet, In, Fresh}
use Rattle.mem_words.specs.declared.Word.{Word}
use Rattle.solve_fields.specs.Read.{Distinct}
use Rattle.solve_classes.specs.Means.{OldIn, Within}
use Rattle.solve_tells.specs.Tells.{State, Means, Left}
use Rattle.solve_explores.specs.Search.{Fitting, Tested, Acyclic}
use Rattle.solve_quiet.specs.Owners.{Outer, CanLookAll}
use Rattle.solve_quiet.specs.declared.Calm.{Calm}
use Rattle.solve_quiet.specs.declared.Calm.TheVariants.{Silent, Loudly, NoSpace}

-- the answer to whether what was told has a solution
pub record Solved (W : List Word) (P T : List ℕ) (r : Bool) : Type 0 where
  pub tested : Tested W P T r
  pub right : (lab : ℕ → Label) (σ : Store) → Means lab W P T σ → Decides (Satisfiable σ) r

-- the bytes mark the variables of vs
abbrev pub Marking : List ℕ → List ℕ → Type 0
Marking L vs = (x : ℕ) → In x vs ↔ (Outer L x → ⊥)

-- what stands at an earlier mark: an environment that has solutions
pub record Before (W : List Word) (P T X C : List ℕ) (n a : ℕ) (lab : ℕ → Label) (vs : List ℕ) (env : Store) (P₀ T₀ X₀ C₀ : List ℕ) (n₀ a₀ : ℕ) : Type 0 where
  pub left : Left W P₀ T₀ X₀ C₀ n₀ a₀ P T X C n a
  pub state : State W P₀ T₀ X₀ C₀ n₀ a₀
  pub acyclic : Acyclic W P₀ T₀
  pub means : Means lab W P₀ T₀ env
  pub fresh : Fresh vs env

-- Q is true of what was told before the mark n₀ and of what was told since
pub record Since (W : List Word) (L P T X C : List ℕ) (n a n₀ : ℕ) (Q : List ℕ → Store → Store → Type 0) : Type 0 where
  pub right : (P₀ T₀ X₀ C₀ : List ℕ) (a₀ : ℕ) (lab : ℕ → Label) (vs : List ℕ) (env σ : Store) → Before W P T X C n a lab vs env P₀ T₀ X₀ C₀ n₀ a₀ → Marking L vs → Means lab W P T (env ++ σ) → Q vs env σ

-- the trail is too short for the variables vs: it has not 3 entries for each and 2 more
abbrev pub Tight : List ℕ → List ℕ → List ℕ → Type 0
Tight vs X C = (length X < 3 * length vs + 2) ⊎ (length C < 3 * length vs + 2)

-- and is so for every list that has the touched variables
abbrev pub Crowded : List ℕ → List ℕ → List ℕ → ℕ → Type 0
Crowded T X C n = (vs : List ℕ) → OldIn X 0 n vs → Within vs T → Tight vs X C

-- the answer to whether what was told since the mark n₀ is quiet; there is none only if the trail is too short
abbrev pub Calmed : List Word → List ℕ → List ℕ → List ℕ → List ℕ → List ℕ → ℕ → ℕ → ℕ → Calm → Type 0
Calmed W L P T X C n a n₀ Silent = Since W L P T X C n a n₀ Quiet
Calmed W L P T X C n a n₀ Loudly = Since W L P T X C n a n₀ (λ vs env σ. Quiet vs env σ → ⊥)
Calmed W L P T X C n a n₀ NoSpace = Crowded T X C n

-- what the quiet test needs
pub record CanCalm (W : List Word) (L P T X C M K D : List ℕ) (n a n₀ : ℕ) : Type 0 where
  pub state : State W P T X C n a
  pub fits : Fitting W P T M K D a
  pub looks : CanLookAll L T X C n₀ n

-- the table is as it was; the trail up to n too
pub record Kept (T X C : List ℕ) (n : ℕ) (T' X' C' : List ℕ) : Type 0 where
  pub cells : T' ≡ T
  pub size_x : length X' ≡ length X
  pub size_c : length C' ≡ length C
  pub old_x : (i : ℕ) → i < n → get_or X' i 0 ≡ get_or X i 0
  pub old_c : (i : ℕ) → i < n → get_or C' i 0 ≡ get_or C i 0
