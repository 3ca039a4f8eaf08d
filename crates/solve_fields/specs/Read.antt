-- Constraints as words: what stands at a position, and the constraints of a range. Assumes nothing.
--   True End | Fail End | Eq v v End | App v Num v* End,   where v is a Free word and Num the number of a label
-- Any words are constraints: a word that opens one of the four begins it, other words begin none.
use Rattle.std.specs.Prelude.{◌≡◌, refl, Bool, true, false, List, [], ◌∷◌, ◌++◌, ℕ, zero, suc, ◌+◌, ◌<◌, ◌≤◌, length, get_or, drop}
use Rattle.std.proofs.Common.{ap, sym, ◌∙◌}
use Rattle.constraint.specs.Tree.{Label, node, Tree}
use Rattle.constraint.specs.Constraint.{Con, ctrue, cfail, ceq, capp, Store, Asg, trees}
use Rattle.constraint.specs.Solve.{Bnd, free, fun}
use Rattle.mem_words.specs.declared.Word.{Word}
use Rattle.mem_words.specs.declared.Word.TheVariants.{End, Free, Level, Num, Place, Inner, Bad}
use Rattle.mem_sorts.specs.declared.Sort.{Sort}
use Rattle.mem_sorts.specs.declared.Sort.TheVariants.{Locals, Store as StoreSort, True, Fail, Eq, App, Call, Comp, Hide, Clause, AskWait, AskCond, AskCommit}

-- the variable of a word; 0 for a word that is none
abbrev pub var_of : Word → ℕ
var_of End = 0
var_of (Free v) = v
var_of (Level v) = 0
var_of (Num v) = 0
var_of (Place k) = 0
var_of (Inner s) = 0
var_of Bad = 0

-- the number of a word; 0 for a word that is none
abbrev pub num_of : Word → ℕ
num_of End = 0
num_of (Free v) = 0
num_of (Level v) = 0
num_of (Num v) = v
num_of (Place k) = 0
num_of (Inner s) = 0
num_of Bad = 0

-- a word that is a variable
abbrev pub is_var : Word → Bool
is_var End = false
is_var (Free v) = true
is_var (Level v) = false
is_var (Num v) = false
is_var (Place k) = false
is_var (Inner s) = false
is_var Bad = false

-- the variables that words begin with
unfoldable pub args_of : List Word → List ℕ
args_of [] = []
args_of (End ∷ r) = []
args_of (Free v ∷ r) = v ∷ args_of r
args_of (Level v ∷ r) = []
args_of (Num v ∷ r) = []
args_of (Place k ∷ r) = []
args_of (Inner s ∷ r) = []
args_of (Bad ∷ r) = []

-- the label's number and the arguments of the application that begins at p
unfoldable pub label_at : List Word → ℕ → ℕ
label_at W p = num_of (get_or W (p + 2) Bad)

unfoldable pub args_at : List Word → ℕ → List ℕ
args_at W p = args_of (drop (p + 3) W)

-- the application at p as a binding, with its label by lab
unfoldable pub term_at : (ℕ → Label) → List Word → ℕ → Bnd
term_at lab W p = fun (lab (label_at W p)) (args_at W p)

-- what the number of an application stands for: the application at its position
unfoldable pub tab_of : (ℕ → Label) → List Word → List ℕ → ℕ → Bnd
tab_of lab W P k = term_at lab W (get_or P k 0)

-- the tree of the application at p
unfoldable pub tree_at : (ℕ → Label) → List Word → Asg → ℕ → Tree
tree_at lab W ρ p = node (lab (label_at W p)) (trees ρ (args_at W p))

-- labels with different numbers are different
abbrev pub Distinct : (ℕ → Label) → Type 0
Distinct lab = (i j : ℕ) → lab i ≡ lab j → i ≡ j

-- every variable of the words is below s
pub record Vars (W : List Word) (s : ℕ) : Type 0 where
  pub low : (i : ℕ) → var_of (get_or W i Bad) < s

-- the constraint that a sort begins, from the words after it
abbrev pub begun : (ℕ → Label) → Sort → List Word → Store
begun lab Locals r = []
begun lab StoreSort r = []
begun lab True r = ctrue ∷ []
begun lab Fail r = cfail ∷ []
begun lab Eq r = ceq (var_of (get_or r 0 Bad)) (var_of (get_or r 1 Bad)) ∷ []
begun lab App r = capp (var_of (get_or r 0 Bad)) (lab (num_of (get_or r 1 Bad))) (args_of (drop 2 r)) ∷ []
begun lab Call r = []
begun lab Comp r = []
begun lab Hide r = []
begun lab Clause r = []
begun lab AskWait r = []
begun lab AskCond r = []
begun lab AskCommit r = []

abbrev pub starts : (ℕ → Label) → Word → List Word → Store
starts lab End r = []
starts lab (Free v) r = []
starts lab (Level v) r = []
starts lab (Num v) r = []
starts lab (Place k) r = []
starts lab (Inner s) r = begun lab s r
starts lab Bad r = []

-- the constraints that begin in the first n words
unfoldable pub told : (ℕ → Label) → ℕ → List Word → Store
told lab zero l = []
told lab (suc n) [] = []
told lab (suc n) (w ∷ r) = starts lab w r ++ told lab n r
