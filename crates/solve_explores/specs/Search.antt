-- The cycle test: a search in depth over the applications, with a mark for each. Assumes nothing.
-- A mark is 0 for an application not yet met, 1 for one on the stack, and a rank from 2 on for one that is done.
use Rattle.std.specs.Prelude.{Option, None, Some, ◌≡◌, ◌⊎◌, Bool, true, false, List, ◌++◌, ℕ, zero, suc, ◌+◌, ◌-◌, ◌*◌, ◌/◌, ◌%◌, ◌≤◌, ◌<◌, length, get_or, drop}
use Rattle.mem_numbers.specs.Stored.{Stored}
use Rattle.constraint.specs.Tree.{Label}
use Rattle.constraint.specs.Constraint.{Asg, In}
use Rattle.mem_words.specs.declared.Word.{Word}
use Rattle.mem_words.specs.declared.Word.TheVariants.{Bad}
use Rattle.solve_cells.specs.Cells.{rep, Up}
use Rattle.solve_classes.specs.Means.{Fits, Apps}
use Rattle.solve_fields.specs.Read.{var_of, is_var, args_of, args_at, tab_of, Vars}
use Rattle.solve_explores.specs.declared.Child.{Child}
use Rattle.solve_explores.specs.declared.Child.TheVariants.{Last, Open, Bound}

-- the cell of a variable's class
abbrev pub cell_of : List ℕ → ℕ → ℕ
cell_of T y = get_or T (rep T y) 0

-- the argument at the position c has the class of the application j
pub record Leads (W : List Word) (T : List ℕ) (c j : ℕ) : Type 0 where
  pub var : is_var (get_or W c Bad) ≡ true
  pub bound : cell_of T (var_of (get_or W c Bad)) % 4 ≡ 2
  pub app : cell_of T (var_of (get_or W c Bad)) / 256 ≡ j

-- an argument whose class is unbound
pub record Ends (W : List Word) (T : List ℕ) (c : ℕ) : Type 0 where
  pub var : is_var (get_or W c Bad) ≡ true
  pub free : cell_of T (var_of (get_or W c Bad)) % 4 ≡ 2 → ⊥

-- what stands at the position c
abbrev pub ChildAt : List Word → List ℕ → ℕ → Child → Type 0
ChildAt W T c Last = is_var (get_or W c Bad) ≡ false
ChildAt W T c Open = Ends W T c
ChildAt W T c (Bound j) = Leads W T c j

pub record CanLook (W : List Word) (T : List ℕ) : Type 0 where
  pub up : Up T
  pub vars : Vars W (length T)

-- an argument that is unbound or whose application is done
unfoldable pub Settled : List ℕ → List ℕ → ℕ → Type 0
Settled T M y = cell_of T y % 4 ≡ 2 → 2 ≤ get_or M (cell_of T y / 256) 0

-- and has a lower rank than r
unfoldable pub Lower : List ℕ → List ℕ → ℕ → ℕ → Type 0
Lower T M y r = cell_of T y % 4 ≡ 2 → (2 ≤ get_or M (cell_of T y / 256) 0) × (get_or M (cell_of T y / 256) 0 < r)

-- how many of the first a marks are 0
abbrev pub white : ℕ → ℕ
white zero = 1
white (suc m) = 0

unfoldable pub whites : ℕ → List ℕ → ℕ
whites zero M = 0
whites (suc a) M = white (get_or M a 0) + whites a M

-- what is left to do: applications not met, those on the stack, and the arguments of the last
unfoldable pub left : ℕ → List ℕ → List ℕ → ℕ → ℕ → ℕ
left l M D a h = (2 * whites a M + h) * (l + 1) + (l - get_or D (h - 1) 0)

-- an application on the stack: the first i of its arguments are settled
pub record Frame (W : List Word) (P T M : List ℕ) (k i : ℕ) : Type 0 where
  pub done : List ℕ
  pub split : args_at W (get_or P k 0) ≡ done ++ args_of (drop (get_or P k 0 + 3 + i) W)
  pub settled : (y : ℕ) → In y done → Settled T M y

-- the search, with h applications on the stack K, the arguments that they have done in D, and the next rank q
pub record Search (W : List Word) (P T M K D : List ℕ) (a h q : ℕ) : Type 0 where
  pub low : (k : ℕ) → k < a → 2 ≤ get_or M k 0 → get_or M k 0 < q
  pub black : (k : ℕ) → k < a → 2 ≤ get_or M k 0 → (y : ℕ) → In y (args_at W (get_or P k 0)) → Lower T M y (get_or M k 0)
  pub grey : (s : ℕ) → s < h → get_or M (get_or K s 0) 0 ≡ 1
  pub inside : (s : ℕ) → s < h → get_or K s 0 < a
  pub onstack : (k : ℕ) → k < a → get_or M k 0 ≡ 1 → (s : ℕ) × (s < h) × (get_or K s 0 ≡ k)
  pub apart : (s r : ℕ) → s < h → r < h → get_or K s 0 ≡ get_or K r 0 → s ≡ r
  pub frames : (s : ℕ) → s < h → Frame W P T M (get_or K s 0) (get_or D s 0)
  pub links : (s : ℕ) → s + 1 < h → Leads W T (get_or P (get_or K s 0) 0 + 3 + get_or D s 0) (get_or K (s + 1) 0)
  pub count : q + h + whites a M ≤ a + 2
  pub two : 2 ≤ q
  pub steps : (s : ℕ) → s < h → get_or D s 0 ≤ length W

-- no assignment fits a table with a cycle, whatever the labels
abbrev pub Cyclic : List Word → List ℕ → List ℕ → Type 0
Cyclic W P T = (lab : ℕ → Label) (ρ : Asg) → Fits (tab_of lab W P) T ρ → ⊥

-- no cycle: the arguments of a class's application have lower rank
pub record Acyclic (W : List Word) (P T : List ℕ) : Type 0 where
  pub rk : ℕ → ℕ
  pub top : ℕ
  pub low : (x : ℕ) → rk x < top
  pub down : (x : ℕ) → cell_of T x % 4 ≡ 2 → (y : ℕ) → In y (args_at W (get_or P (cell_of T x / 256) 0)) → rk y < rk x

-- the sizes of the tables that a search works with
pub record Fitting (W : List Word) (P T M K D : List ℕ) (a : ℕ) : Type 0 where
  pub look : CanLook W T
  pub apps : Apps T a
  pub few : a < 65535
  pub fit_p : a ≤ length P
  pub fit_m : a ≤ length M
  pub fit_k : a ≤ length K
  pub fit_d : a ≤ length D
  pub long : length W < 4294967296

-- what a search from the application k may start with
pub record CanExplore (W : List Word) (P T M K D : List ℕ) (a q k : ℕ) : Type 0 where
  pub fits : Fitting W P T M K D a
  pub search : Search W P T M K D a 0 q
  pub app : k < a
  pub new : get_or M k 0 ≡ 0

-- every mark that was set is
unfoldable pub Marked : List ℕ → List ℕ → Type 0
Marked M M' = (k : ℕ) → (get_or M k 0 ≡ 0 → ⊥) → get_or M' k 0 ≡ 0 → ⊥

-- what a search from k found: no cycle, and k is done; or a cycle
pub record Explored (W : List Word) (P T M : List ℕ) (a k : ℕ) (M' K' D' : List ℕ) (q' : ℕ) : Type 0 where
  pub search : Search W P T M' K' D' a 0 q'
  pub kept : Marked M M'
  pub met : get_or M' k 0 ≡ 0 → ⊥

abbrev pub Exploring : List Word → List ℕ → List ℕ → List ℕ → ℕ → ℕ → List ℕ → List ℕ → List ℕ → Option ℕ → Type 0
Exploring W P T M a k M' K' D' None = Cyclic W P T
Exploring W P T M a k M' K' D' (Some q) = Explored W P T M a k M' K' D' q

-- an application may be put onto the stack
pub record CanPlace (M K D : List ℕ) (h j : ℕ) : Type 0 where
  pub mark : j < length M
  pub stack : h < length K
  pub dones : h < length D
  pub small : j < 65536

pub record Placed (M K D : List ℕ) (h j : ℕ) (M' K' D' : List ℕ) : Type 0 where
  pub mark : Stored M j 1 M'
  pub stack : Stored K h j K'
  pub dones : Stored D h 0 D'

-- a test may start with any marks
pub record CanTest (W : List Word) (P T M K D : List ℕ) (a : ℕ) : Type 0 where
  pub fits : Fitting W P T M K D a

abbrev pub Tested : List Word → List ℕ → List ℕ → Bool → Type 0
Tested W P T true = Acyclic W P T
Tested W P T false = Cyclic W P T

-- a search may go on
pub record CanDrain (W : List Word) (P T M K D : List ℕ) (a h q : ℕ) : Type 0 where
  pub fits : Fitting W P T M K D a
  pub search : Search W P T M K D a h q

-- and ends with an empty stack, or with a cycle
pub record Drained (W : List Word) (P T M : List ℕ) (a : ℕ) (M' K' D' : List ℕ) (q' : ℕ) : Type 0 where
  pub search : Search W P T M' K' D' a 0 q'
  pub kept : Marked M M'

abbrev pub Draining : List Word → List ℕ → List ℕ → List ℕ → ℕ → List ℕ → List ℕ → List ℕ → Option ℕ → Type 0
Draining W P T M a M' K' D' None = Cyclic W P T
Draining W P T M a M' K' D' (Some q) = Drained W P T M a M' K' D' q
