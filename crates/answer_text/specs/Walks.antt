-- The unknowns of terms by first appearance, met in depth with a stack. Assumes nothing.
-- f gives each variable's term. A frame is a variable whose term is gone into, and those of its arguments that are to be
-- met; the argument that is gone into stays until it is passed over as one that was met. Below the stack stand the
-- variables of the query that are to be met.
use Rattle.std.specs.Prelude.{◌≡◌, List, [], ◌∷◌, ◌++◌, ℕ}
use Rattle.constraint.specs.Tree.{Label}
use Rattle.akl.specs.Answers.{Term, built, terms, unknowns_all}
use Rattle.runs.proofs.Shows.{Seen, SeenAll}

pub record Frame (f : ℕ → Term) (seen : List ℕ) (x : ℕ) (todo : List ℕ) : Type 0 where
  pub label : Label
  pub done : List ℕ
  pub split : f x ≡ built label (terms f (done ++ todo))
  pub settled : SeenAll (terms f done) seen

abbrev pub Stack : (ℕ → Term) → List ℕ → List (ℕ × List ℕ) → Type 0
Stack f seen [] = Unit {0}
Stack f seen (k ∷ ks) = Frame f seen k.0 k.1 × Stack f seen ks

-- all that is to be met, the top of the stack first
unfoldable pub todos : List (ℕ × List ℕ) → List ℕ → List ℕ
todos [] base = base
todos (k ∷ ks) base = k.1 ++ todos ks base

-- the walk, with those met, those seen, and what will have been seen at the end
pub record Walk (f : ℕ → Term) (met : ℕ → Type 0) (ks : List (ℕ × List ℕ)) (base seen end : List ℕ) : Type 0 where
  pub left : unknowns_all (terms f (todos ks base)) seen ≡ end
  pub stack : Stack f seen ks
  pub known : (x : ℕ) → met x → Seen (f x) seen
