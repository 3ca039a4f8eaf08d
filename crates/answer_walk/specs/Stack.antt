-- The stack of a traversal: the applications that are being written, in two tables. S holds their positions in the words W, K how
-- many arguments of each were begun; the last of the first h is the top. Assumes nothing.
use Rattle.std.specs.Prelude.{◌≡◌, List, [], ◌∷◌, ℕ, zero, suc, ◌+◌, ◌/◌, ◌%◌, ◌<◌, get_or, drop}
use Rattle.constraint.specs.Constraint.{In}
use Rattle.mem_words.specs.declared.Word.{Word}
use Rattle.solve_fields.specs.Read.{args_of, args_at}
use Rattle.solve_explores.specs.Search.{cell_of}

-- the arguments of the application at p from number k on
unfoldable pub left_at : List Word → ℕ → ℕ → List ℕ
left_at W p k = args_of (drop (p + 3 + k) W)

-- the frames, the top first
unfoldable pub frames : List Word → List ℕ → List ℕ → ℕ → List (List ℕ)
frames W S K zero = []
frames W S K (suc h) = left_at W (get_or S h 0) (get_or K h 0) ∷ frames W S K h

-- the positions, the top first
unfoldable pub stacked : List ℕ → ℕ → List ℕ
stacked S zero = []
stacked S (suc h) = get_or S h 0 ∷ stacked S h

-- x is bound, and the application at p has its arguments
pub record On (W : List Word) (P T : List ℕ) (x p : ℕ) : Type 0 where
  pub bound : cell_of T x % 4 ≡ 2
  pub args : args_at W p ≡ args_at W (get_or P (cell_of T x / 256) 0)

-- x is an argument of the top
abbrev pub Child : List Word → ℕ → List ℕ → Type 0
Child W x [] = Unit {0}
Child W x (p ∷ ps) = In x (args_at W p)

-- each application is that of an argument of the one below it
unfoldable pub Linked : List Word → List ℕ → List ℕ → List ℕ → Type 0
Linked W P T [] = Unit {0}
Linked W P T (p ∷ ps) = (x : ℕ) × On W P T x p × Child W x ps × Linked W P T ps

-- and what is left of each one's arguments are arguments of it
pub record Stacked (W : List Word) (P T S K : List ℕ) (h : ℕ) : Type 0 where
  pub linked : Linked W P T (stacked S h)
  pub inside : (i : ℕ) → i < h → (y : ℕ) → In y (left_at W (get_or S i 0) (get_or K i 0)) → In y (args_at W (get_or S i 0))
