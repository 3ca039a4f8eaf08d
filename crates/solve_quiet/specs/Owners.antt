-- The quiet test on the tables: each variable that was unbound at a mark and is no local is still unbound, and apart from
-- the others. A local representative is owned, for the test, by the one such variable of its class. Assumes nothing.
use Rattle.std.specs.Prelude.{Result, Ok, Err, ◌≡◌, ◌⊎◌, List, ℕ, ◌+◌, ◌/◌, ◌%◌, ◌≤◌, ◌<◌, length, get_or}
use Rattle.solve_cells.specs.Cells.{par, rep, Up}
use Rattle.solve_cells.specs.Trail.{Grown}
use Rattle.solve_classes.specs.Means.{OldVars, OldIn, Within}
use Rattle.solve_classes.specs.Weights.{weights}
use Rattle.solve_tells.specs.Steps.{Filled}
use Rattle.solve_quiet.specs.declared.Unowned.{Unowned}
use Rattle.solve_quiet.specs.declared.Unowned.TheVariants.{Joint, NoPlace}

-- y was unbound at the mark `from`: the trail says so, or it is unbound still
unfoldable pub Cand : List ℕ → List ℕ → List ℕ → ℕ → ℕ → ℕ → Type 0
Cand T X C from n y = ((s : ℕ) × (from ≤ s) × (s < n) × (get_or X s 0 ≡ y) × (get_or C s 0 % 4 ≡ 0)) ⊎ (get_or T y 0 % 4 ≡ 0)

-- x is no local
abbrev pub Outer : List ℕ → ℕ → Type 0
Outer L x = get_or L x 0 ≡ 0

-- x is unbound and represents itself, or is the owner of its representative
unfoldable pub Alone : List ℕ → List ℕ → ℕ → Type 0
Alone T O x = (get_or T (rep T x) 0 % 4 ≡ 0) × ((rep T x ≡ x) ⊎ ((get_or O (rep T x) 0 % 4 ≡ 3) × (get_or O (rep T x) 0 / 256 ≡ x)))

-- changes of owners, which can be taken back
pub record Owning (L T X C : List ℕ) (from n : ℕ) (O X' C' : List ℕ) (i m : ℕ) : Type 0 where
  pub grown : Grown T X C n O X' C' m
  pub up : Up O
  pub vars : OldVars X' n m (length T)
  pub fit_x : m ≤ length X
  pub fit_c : m ≤ length C
  pub cost : m + weights T ≤ n + weights O
  pub within : (vs : List ℕ) → OldIn X 0 n vs → Within vs T → Within vs O
  pub pars : (x : ℕ) → par O x ≡ par T x
  pub kept : (x : ℕ) → (get_or O x 0 % 4 ≡ 3) ⊎ (get_or O x 0 ≡ get_or T x 0)
  pub unbound : (x : ℕ) → get_or O x 0 % 4 ≡ 3 → get_or T x 0 % 4 ≡ 0
  pub local : (x : ℕ) → get_or O x 0 % 4 ≡ 3 → Outer L x → ⊥
  pub owner : (x : ℕ) → get_or O x 0 % 4 ≡ 3 → Cand T X C from n (get_or O x 0 / 256) × Outer L (get_or O x 0 / 256) × (rep T (get_or O x 0 / 256) ≡ x)
  pub done : (s : ℕ) → from ≤ s → s < i → get_or C s 0 % 4 ≡ 0 → Outer L (get_or X s 0) → Alone T O (get_or X s 0)

-- a variable that was unbound and is bound now, or is in one class with another
pub record Loud (L T X C : List ℕ) (from n : ℕ) : Type 0 where
  pub var : ℕ
  pub cand : Cand T X C from n var
  pub outer : Outer L var
  pub why : (get_or T (rep T var) 0 % 4 ≡ 2) ⊎ ((y : ℕ) × Cand T X C from n y × Outer L y × (var ≡ y → ⊥) × (rep T var ≡ rep T y))

-- what can be taken back, however the test went
pub record Marks (T X C : List ℕ) (n : ℕ) (O X' C' : List ℕ) (m : ℕ) : Type 0 where
  pub grown : Grown T X C n O X' C' m
  pub vars : OldVars X' n m (length T)
  pub fit_x : m ≤ length X
  pub fit_c : m ≤ length C
  pub cost : m + weights T ≤ n + weights O
  pub within : (vs : List ℕ) → OldIn X 0 n vs → Within vs T → Within vs O

abbrev pub Looking : List ℕ → List ℕ → List ℕ → List ℕ → ℕ → ℕ → List ℕ → List ℕ → List ℕ → ℕ → Result ℕ Unowned → Type 0
Looking L T X C from n O X' C' i (Ok m) = Owning L T X C from n O X' C' i m
Looking L T X C from n O X' C' i (Err (Joint m)) = Marks T X C n O X' C' m × Loud L T X C from n
Looking L T X C from n O X' C' i (Err (NoPlace m)) = Marks T X C n O X' C' m × Filled X C m

-- one entry of the trail may be looked at
pub record CanOwn (L T X C : List ℕ) (from n : ℕ) (O X' C' : List ℕ) (i m : ℕ) : Type 0 where
  pub owning : Owning L T X C from n O X' C' i m
  pub base : Up T
  pub start : from ≤ i
  pub end : i < n
  pub fits : n ≤ m
  pub olds : OldVars X from n (length T)
  pub locals : length T ≤ length L

-- all entries may be
pub record CanLookAll (L T X C : List ℕ) (from n : ℕ) : Type 0 where
  pub up : Up T
  pub le : from ≤ n
  pub fit_x : n ≤ length X
  pub fit_c : n ≤ length C
  pub olds : OldVars X from n (length T)
  pub locals : length T ≤ length L
  pub plain : (x : ℕ) → get_or T x 0 % 4 ≡ 3 → ⊥

-- one entry may be read
pub record CanLookOne (L O X C : List ℕ) (i m : ℕ) : Type 0 where
  pub up : Up O
  pub var : get_or X i 0 < length O
  pub locals : length O ≤ length L
  pub entry : i < m
  pub fit_x : m ≤ length X
  pub fit_c : m ≤ length C
