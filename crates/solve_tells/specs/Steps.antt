-- What the steps of telling do: each keeps the solutions and can be taken back. Assumes nothing.
use Rattle.std.specs.Prelude.{Result, Ok, Err, ◌≡◌, ◌↔◌, ◌⊎◌, Bool, true, false, List, ℕ, ◌+◌, ◌%◌, ◌≤◌, ◌<◌, length, get_or}
use Rattle.constraint.specs.Tree.{Label}
use Rattle.constraint.specs.Constraint.{Asg, In}
use Rattle.constraint.specs.Solve.{Bnd}
use Rattle.constraint.proofs.FormSteps.{Holds}
use Rattle.mem_words.specs.declared.Word.{Word}
use Rattle.solve_cells.specs.Cells.{Up}
use Rattle.solve_cells.specs.Trail.{Grown}
use Rattle.solve_classes.specs.Weights.{weights}
use Rattle.solve_classes.specs.Means.{Fits, Pend, Apps, OldApps, OldVars, Plain, Within, OldIn}
use Rattle.solve_fields.specs.Read.{tab_of, tree_at, Distinct, Vars}
use Rattle.solve_tells.specs.Reach.{vars_of}
use Rattle.solve_tells.specs.declared.Stop.{Stop}
use Rattle.solve_tells.specs.declared.Stop.TheVariants.{Clash, Full}

-- changes that can be taken back and leave a sound table; the table grows heavier by at least as many as they are, and only
-- cells of the words' variables are touched
pub record Step (W : List Word) (T X C : List ℕ) (n : ℕ) (T' X' C' : List ℕ) (n' : ℕ) : Type 0 where
  pub grown : Grown T X C n T' X' C' n'
  pub up : Up T'
  pub vars : OldVars X' n n' (length T)
  pub plain : Plain T T'
  pub fit_x : n' ≤ length X
  pub fit_c : n' ≤ length C
  pub cost : n' + weights T ≤ n + weights T'
  pub within : Within (vars_of W) T'
  pub used : OldIn X' n n' (vars_of W)

-- there is no room for two more changes
abbrev pub Filled : List ℕ → List ℕ → ℕ → Type 0
Filled X C n = (length X < n + 2) ⊎ (length C < n + 2)

abbrev pub Room : List ℕ → List ℕ → ℕ → Bool → Type 0
Room X C n true = (n + 2 ≤ length X) × (n + 2 ≤ length C)
Room X C n false = Filled X C n

-- what every step asks of the tables; no cell is owned, because only the quiet test has owners, and takes them back
pub record Sound (W : List Word) (T X C : List ℕ) (n : ℕ) : Type 0 where
  pub up : Up T
  pub vars : Vars W (length T)
  pub long : length W < 4294967296
  pub fit_x : n ≤ length X
  pub fit_c : n ≤ length C
  pub plain : (x : ℕ) → get_or T x 0 % 4 ≡ 3 → ⊥
  pub within : Within (vars_of W) T

-- two applications may be met
pub record CanMeet (W : List Word) (T X C : List ℕ) (n p q : ℕ) : Type 0 where
  pub sound : Sound W T X C n
  pub lowp : p < 4294967296
  pub lowq : q < 4294967296

-- the applications at p and q were made equal
pub record Met (W : List Word) (T X C : List ℕ) (n p q : ℕ) (T' X' C' : List ℕ) (n' : ℕ) : Type 0 where
  pub step : Step W T X C n T' X' C' n'
  pub apps : (m : ℕ) → Apps T m → Apps T' m × OldApps C' n n' m
  pub means : (lab : ℕ → Label) (tab : ℕ → Bnd) (ρ : Asg) → (Fits tab T ρ × (tree_at lab W ρ p ≡ tree_at lab W ρ q)) ↔ (Fits tab T' ρ × Pend tab X' C' n n' ρ)

abbrev pub Meeting : List Word → List ℕ → List ℕ → List ℕ → ℕ → ℕ → ℕ → List ℕ → List ℕ → List ℕ → Result ℕ Stop → Type 0
Meeting W T X C n p q T' X' C' (Ok n') = Met W T X C n p q T' X' C' n'
Meeting W T X C n p q T' X' C' (Err (Clash n')) = Step W T X C n T' X' C' n' × ((lab : ℕ → Label) → Distinct lab → (tab : ℕ → Bnd) (ρ : Asg) → Fits tab T ρ → tree_at lab W ρ p ≡ tree_at lab W ρ q → ⊥)
Meeting W T X C n p q T' X' C' (Err (Full n')) = Step W T X C n T' X' C' n' × Filled X C n'

-- the application k may be asked of x
pub record CanHold (W : List Word) (P T X C : List ℕ) (n x k : ℕ) : Type 0 where
  pub sound : Sound W T X C n
  pub var : x < length T
  pub used : In x (vars_of W)
  pub app : k < length P
  pub apps : Apps T (length P)
  pub size : length P ≤ 65536

-- x is the application k now
pub record Held (W : List Word) (P T X C : List ℕ) (n x k : ℕ) (T' X' C' : List ℕ) (n' : ℕ) : Type 0 where
  pub step : Step W T X C n T' X' C' n'
  pub apps : (m : ℕ) → k < m → Apps T m → Apps T' m × OldApps C' n n' m
  pub means : (lab : ℕ → Label) (ρ : Asg) → (Fits (tab_of lab W P) T ρ × Holds ρ x (tab_of lab W P k)) ↔ (Fits (tab_of lab W P) T' ρ × Pend (tab_of lab W P) X' C' n n' ρ)

abbrev pub Holding : List Word → List ℕ → List ℕ → List ℕ → List ℕ → ℕ → ℕ → ℕ → List ℕ → List ℕ → List ℕ → Result ℕ Stop → Type 0
Holding W P T X C n x k T' X' C' (Ok n') = Held W P T X C n x k T' X' C' n'
Holding W P T X C n x k T' X' C' (Err (Clash n')) = Step W T X C n T' X' C' n' × ((lab : ℕ → Label) → Distinct lab → (ρ : Asg) → Fits (tab_of lab W P) T ρ → Holds ρ x (tab_of lab W P k) → ⊥)
Holding W P T X C n x k T' X' C' (Err (Full n')) = Step W T X C n T' X' C' n' × Filled X C n'

-- the entries of the trail from i on up to n may be settled
pub record CanSettle (W : List Word) (P T X C : List ℕ) (i n : ℕ) : Type 0 where
  pub sound : Sound W T X C n
  pub le : i ≤ n
  pub apps : Apps T (length P)
  pub olds : OldApps C i n (length P)
  pub vars : OldVars X i n (length T)
  pub used : OldIn X i n (vars_of W)
  pub size : length P ≤ 65536

-- what the entries took away was asked again
pub record Settled (W : List Word) (P T X C : List ℕ) (i n : ℕ) (T' X' C' : List ℕ) (n' : ℕ) : Type 0 where
  pub step : Step W T X C n T' X' C' n'
  pub apps : (m : ℕ) → Apps T m → OldApps C i n m → Apps T' m
  pub means : (lab : ℕ → Label) (ρ : Asg) → (Fits (tab_of lab W P) T ρ × Pend (tab_of lab W P) X C i n ρ) ↔ Fits (tab_of lab W P) T' ρ

abbrev pub Settling : List Word → List ℕ → List ℕ → List ℕ → List ℕ → ℕ → ℕ → List ℕ → List ℕ → List ℕ → Result ℕ Stop → Type 0
Settling W P T X C i n T' X' C' (Ok n') = Settled W P T X C i n T' X' C' n'
Settling W P T X C i n T' X' C' (Err (Clash n')) = Step W T X C n T' X' C' n' × ((lab : ℕ → Label) → Distinct lab → (ρ : Asg) → Fits (tab_of lab W P) T ρ → Pend (tab_of lab W P) X C i n ρ → ⊥)
Settling W P T X C i n T' X' C' (Err (Full n')) = Step W T X C n T' X' C' n' × Filled X C n'
