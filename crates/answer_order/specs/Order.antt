-- A search in depth over the applications of a term, arguments first. I holds the applications on the stack, by their numbers, and
-- K how many arguments of each were begun; the last of the first h is the top. Q says that a variable is done. Assumes nothing.
use Rattle.std.specs.Prelude.{◌≡◌, List, [], ◌∷◌, ◌++◌, ℕ, zero, suc, ◌/◌, ◌%◌, get_or}
use Rattle.constraint.specs.Constraint.{In}
use Rattle.mem_words.specs.declared.Word.{Word}
use Rattle.solve_fields.specs.Read.{args_at}
use Rattle.solve_explores.specs.Search.{cell_of}
use Rattle.answer_walk.specs.Stack.{left_at}

-- what is left of the arguments of the application at i of the stack
unfoldable pub left_of : List Word → List ℕ → List ℕ → List ℕ → ℕ → List ℕ
left_of W P I K i = left_at W (get_or P (get_or I i 0) 0) (get_or K i 0)

-- of all on the stack, the top first
unfoldable pub lefts : List Word → List ℕ → List ℕ → List ℕ → ℕ → List (List ℕ)
lefts W P I K zero = []
lefts W P I K (suc h) = left_of W P I K h ∷ lefts W P I K h

-- the arguments of the application k are some that are done, and then these
pub record Part (Q : ℕ → Type 0) (W : List Word) (P : List ℕ) (k : ℕ) (rest : List ℕ) : Type 0 where
  pub before : List ℕ
  pub args : args_at W (get_or P k 0) ≡ before ++ rest
  pub each : (y : ℕ) → In y before → Q y

-- x is bound to the application k
pub record BoundTo (T : List ℕ) (x k : ℕ) : Type 0 where
  pub bound : cell_of T x % 4 ≡ 2
  pub app : cell_of T x / 256 ≡ k

-- y is to be visited: it is the root x₀, or the next argument of the top, which is what the variable before it is bound to
unfoldable pub Going : (ℕ → Type 0) → List Word → List ℕ → List ℕ → List ℕ → List ℕ → ℕ → ℕ → ℕ → Type 0
Going Q W P T I K x₀ zero y = y ≡ x₀
Going Q W P T I K x₀ (suc h) y = (x : ℕ) × Part Q W P (get_or I h 0) (y ∷ left_of W P I K h) × BoundTo T x (get_or I h 0) × Going Q W P T I K x₀ h x

-- what was begun is done: the root, or the arguments of the top
unfoldable pub Open : (ℕ → Type 0) → List Word → List ℕ → List ℕ → List ℕ → List ℕ → ℕ → ℕ → Type 0
Open Q W P T I K x₀ zero = Q x₀
Open Q W P T I K x₀ (suc h) = (x : ℕ) × Part Q W P (get_or I h 0) (left_of W P I K h) × BoundTo T x (get_or I h 0) × Going Q W P T I K x₀ h x
