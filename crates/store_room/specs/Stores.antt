-- The stores of the and-boxes around a node, the innermost first, and how much room they take. Assumes nothing.
use Rattle.std.specs.Prelude.{List, [], ◌∷◌, ◌++◌, ℕ, ◌+◌, length}
use Rattle.constraint.specs.Constraint.{Store}
use Rattle.akl.specs.Base.{Name, size}
use Rattle.akl.specs.Configuration.{Kind, Node, or, and, stmt, choice_box, guard, Ctx, top, in_or, in_and, in_choice, in_guard}
use Rattle.store_words.specs.Boxes.{store_words}

unfoldable pub context_stores : {k : Kind} → Ctx k → List Store
context_stores top = []
context_stores (in_or χ l r) = context_stores χ
context_stores (in_and χ vs σ l r) = σ ∷ context_stores χ
context_stores (in_choice χ op l r) = context_stores χ
context_stores (in_guard χ b) = context_stores χ

-- the store of a node that is an and-box
unfoldable pub own_stores : {k : Kind} → Node k → List Store
own_stores (or ns) = []
own_stores (and vs σ ms) = σ ∷ []
own_stores (stmt s) = []
own_stores (choice_box op gs) = []
own_stores (guard g b) = []

-- the stores at and around a node
unfoldable pub node_stores : {k : Kind} → Ctx k → Node k → List Store
node_stores χ n = own_stores n ++ context_stores χ

-- how many words of a log they take, with three behind each
unfoldable pub words_needed : (Name → ℕ) → List Store → ℕ
words_needed num [] = 0
words_needed num (σ ∷ σs) = length (store_words num σ []) + 3 + words_needed num σs

-- how many constraints there are
unfoldable pub constraints_in : List Store → ℕ
constraints_in [] = 0
constraints_in (σ ∷ σs) = size σ + constraints_in σs
