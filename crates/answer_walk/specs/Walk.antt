-- The traversal that writes a term: what is still to come of its text, and of its unknowns. Assumes nothing.
-- A frame is what is left of the arguments of an application that is being written; the last one begun comes first. With f for
-- the term of each variable, F for the final list of unknowns, and s for those that were met.
use Rattle.std.specs.Prelude.{◌≡◌, List, [], ◌∷◌, ◌++◌, ℕ, ◌+◌}
use Rattle.akl.specs.Answers.{Term, unbound, built, Terms, no_terms, more_terms, terms, unknowns, unknowns_all, term_text, rest_text}

-- the text of what the frames still hold: of each `,` and an argument as long as there is one, and then `)`
unfoldable pub rest_of : (ℕ → Term) → List (List ℕ) → List ℕ → List ℕ
rest_of f [] F = []
rest_of f (ys ∷ fs) F = rest_text (terms f ys) F ++ rest_of f fs F

-- the unknowns that are met when it is written
unfoldable pub met : (ℕ → Term) → List (List ℕ) → List ℕ → List ℕ
met f [] s = s
met f (ys ∷ fs) s = met f fs (unknowns_all (terms f ys) s)

-- x is to be written, and then what the frames hold; D is the text so far, A the whole of it
pub record Going (f : ℕ → Term) (x : ℕ) (fs : List (List ℕ)) (s F D A : List ℕ) : Type 0 where
  pub text : D ++ (term_text (f x) F ++ rest_of f fs F) ≡ A
  pub seen : met f fs (unknowns (f x) s) ≡ F

-- a term was written, and what the frames hold is to be
pub record Back (f : ℕ → Term) (fs : List (List ℕ)) (s F D A : List ℕ) : Type 0 where
  pub text : D ++ rest_of f fs F ≡ A
  pub seen : met f fs s ≡ F

-- how many turns are left: one for each node of a term, one for each argument after the first, one for each frame
unfoldable mutual
  pub nodes : Term → ℕ
  nodes (unbound r) = 1
  nodes (built g ts) = 1 + nodes_all ts

  pub nodes_all : Terms → ℕ
  nodes_all no_terms = 1
  nodes_all (more_terms t ts) = 1 + nodes t + nodes_all ts

unfoldable pub turns : (ℕ → Term) → List (List ℕ) → ℕ
turns f [] = 0
turns f (ys ∷ fs) = nodes_all (terms f ys) + turns f fs
