-- What a table of classes says of an assignment. What an application's number stands for is a parameter. Assumes nothing.
use Rattle.std.specs.Prelude.{◌≡◌, ◌↔◌, ◌⊎◌, Bool, true, false, List, ℕ, ◌+◌, ◌/◌, ◌%◌, ◌≤◌, ◌<◌, get_or, length}
use Rattle.std.proofs.Math.Logic.{ite}
use Rattle.std.proofs.Math.Decide.{ℕ_discrete}
use Rattle.constraint.specs.Constraint.{Asg, In}
use Rattle.constraint.specs.Solve.{Bnd, free}
use Rattle.constraint.proofs.Form.{build}
use Rattle.constraint.proofs.FormSteps.{Holds}
use Rattle.solve_cells.specs.Cells.{rep, par, key, Up}
use Rattle.solve_cells.specs.Trail.{Grown}
use Rattle.solve_classes.specs.Weights.{weights}

-- what a cell is bound to
unfoldable pub bound : (ℕ → Bnd) → ℕ → Bnd
bound tab c = ite (ℕ_discrete (c % 4) 2) (tab (c / 256)) free

-- the assignment solves the classes and the bindings
unfoldable pub Fits : (ℕ → Bnd) → List ℕ → Asg → Type 0
Fits tab T ρ = (x : ℕ) → ρ x ≡ build ρ (ρ (rep T x)) (bound tab (get_or T (rep T x) 0))

-- the bindings that the trail took away from i on up to n are still to be asked of their variables
unfoldable pub Pend : (ℕ → Bnd) → List ℕ → List ℕ → ℕ → ℕ → Asg → Type 0
Pend tab X C i n ρ = (t : ℕ) → i ≤ t → t < n → Holds ρ (get_or X t 0) (bound tab (get_or C t 0))

-- every bound cell has an application below m
unfoldable pub Apps : List ℕ → ℕ → Type 0
Apps T m = (x : ℕ) → get_or T x 0 % 4 ≡ 2 → get_or T x 0 / 256 < m

-- and so has every entry of the trail from i on up to n
unfoldable pub OldApps : List ℕ → ℕ → ℕ → ℕ → Type 0
OldApps C i n m = (t : ℕ) → i ≤ t → t < n → get_or C t 0 % 4 ≡ 2 → get_or C t 0 / 256 < m

-- the trail's entries from i on up to n are variables of the table
unfoldable pub OldVars : List ℕ → ℕ → ℕ → ℕ → Type 0
OldVars X i n s = (t : ℕ) → i ≤ t → t < n → get_or X t 0 < s

-- every cell that is linked, bound or owned is that of one of vs, and so is every cell linked to
pub record Within (vs T : List ℕ) : Type 0 where
  pub cells : (x : ℕ) → (get_or T x 0 % 4 ≡ 0) ⊎ In x vs
  pub links : (x : ℕ) → get_or T x 0 % 4 ≡ 1 → In (get_or T x 0 / 256) vs

-- the trail's entries from i on up to n are variables of vs
unfoldable pub OldIn : List ℕ → ℕ → ℕ → List ℕ → Type 0
OldIn X i n vs = (t : ℕ) → i ≤ t → t < n → In (get_or X t 0) vs

-- no cell becomes an owned one (kind 3)
abbrev pub Plain : List ℕ → List ℕ → Type 0
Plain T T' = (x : ℕ) → get_or T' x 0 % 4 ≡ 3 → get_or T x 0 % 4 ≡ 3

-- two variables may be joined: there is room for the two changes that it can take
pub record CanJoin (T X C : List ℕ) (n x y : ℕ) : Type 0 where
  pub up : Up T
  pub inx : x < length T
  pub iny : y < length T
  pub room_x : n + 2 ≤ length X
  pub room_c : n + 2 ≤ length C

-- x and y were joined: the solutions are those with x = y, once what the trail took away is asked again
pub record Joined (T X C : List ℕ) (n x y : ℕ) (T' X' C' : List ℕ) (n' : ℕ) : Type 0 where
  pub grown : Grown T X C n T' X' C' n'
  pub short : n' ≤ n + 2
  pub up : Up T'
  pub means : (tab : ℕ → Bnd) (ρ : Asg) → (Fits tab T ρ × (ρ x ≡ ρ y)) ↔ (Fits tab T' ρ × Pend tab X' C' n n' ρ)
  pub apps : (m : ℕ) → Apps T m → Apps T' m × OldApps C' n n' m
  pub vars : OldVars X' n n' (length T)
  pub plain : Plain T T'
  pub cost : n' + weights T ≤ n + weights T'
  pub within : (vs : List ℕ) → In x vs → In y vs → Within vs T → Within vs T' × OldIn X' n n' vs

-- two representatives, the first of which may be linked below the second
pub record CanHang (T X C : List ℕ) (n a b : ℕ) : Type 0 where
  pub up : Up T
  pub ina : a < length T
  pub inb : b < length T
  pub roota : par T a ≡ a
  pub rootb : par T b ≡ b
  pub less : key (get_or T a 0) a < key (get_or T b 0) b
  pub room_x : n + 2 ≤ length X
  pub room_c : n + 2 ≤ length C

-- which of two representatives goes below the other
abbrev pub Order : List ℕ → ℕ → ℕ → Bool → Type 0
Order T a b true = key (get_or T a 0) a < key (get_or T b 0) b
Order T a b false = key (get_or T b 0) b < key (get_or T a 0) a
