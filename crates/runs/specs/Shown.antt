-- What an answer's text shows: terms whose unknowns are numbered by first appearance, and the trees that fit them.
use Rattle.std.specs.Prelude.{◌≡◌, List, [], ◌∷◌, ◌++◌, ◌||◌, ℕ, zero, suc, T}
use Rattle.std.proofs.Math.Option.{Option, some, none}
use Rattle.constraint.specs.Tree.{Label, Tree, Forest, node, fnil, fcons}
use Rattle.constraint.specs.Constraint.{Con, ctrue, cfail, ceq, capp, Store, Asg, trees, Satisfiable, vars_all}
use Rattle.constraint.specs.Solve.{St, untold, solve}
use Rattle.akl.specs.Base.{Name, bytes, size, range, decimal}
use Rattle.akl.specs.WellFormed.{spelled_name, spelled_digits}
use Rattle.theory.specs.Scope.{Sub}
use Rattle.akl.specs.Answers.{Answer, Term, unbound, built, Terms, no_terms, more_terms, terms, variable_term, unknowns_all, position}

-- The tree of a term, with τ for its unknowns.
abbrev mutual
  pub tree_of : Term → Asg → Tree
  tree_of (unbound i) τ = τ i
  tree_of (built f ts) τ = node f (forest_of ts τ)

  pub forest_of : Terms → Asg → Forest
  forest_of no_terms τ = fnil
  forest_of (more_terms t ts) τ = fcons (tree_of t τ) (forest_of ts τ)

-- "The trees that fit the text, with any trees for `_0`, `_1` and so on": the query's variables 0 to q - 1 have the trees
-- of the terms.
abbrev pub FitsText : ℕ → Terms → Asg → Type 0
FitsText q ts ρ = (τ : Asg) × (trees ρ (range 0 q) ≡ forest_of ts τ)

-- Unknowns numbered by their place in the list of those seen.
unfoldable mutual
  pub numbered_term : Term → List ℕ → Term
  numbered_term (unbound r) seen = unbound (position r seen)
  numbered_term (built f ts) seen = built f (numbered_terms ts seen)

  pub numbered_terms : Terms → List ℕ → Terms
  numbered_terms no_terms seen = no_terms
  numbered_terms (more_terms t ts) seen = more_terms (numbered_term t seen) (numbered_terms ts seen)

-- The terms that an answer's text shows.
abbrev pub solved_terms : ℕ → Option St → Terms
solved_terms q none = no_terms
solved_terms q (some s) = terms (variable_term (suc (size s.bs)) s) (range 0 q)

abbrev pub class_terms : ℕ → Answer → Terms
class_terms q a = solved_terms q (solve untold a.1)

abbrev pub shown_terms : ℕ → Answer → Terms
shown_terms q a = numbered_terms (class_terms q a) (unknowns_all (class_terms q a) [])

-- The text of such terms.
unfoldable mutual
  pub term_bytes : Term → List ℕ
  term_bytes (unbound i) = bytes "_" ++ decimal i
  term_bytes (built f ts) = f ++ arguments_bytes ts

  pub arguments_bytes : Terms → List ℕ
  arguments_bytes no_terms = []
  arguments_bytes (more_terms t ts) = bytes "(" ++ term_bytes t ++ rest_bytes ts

  pub rest_bytes : Terms → List ℕ
  rest_bytes no_terms = bytes ")"
  rest_bytes (more_terms t ts) = bytes "," ++ term_bytes t ++ rest_bytes ts

unfoldable pub bindings_bytes : List Name → Terms → List ℕ
bindings_bytes [] ts = []
bindings_bytes (x ∷ xs) no_terms = []
bindings_bytes (x ∷ []) (more_terms t ts) = x ++ bytes " = " ++ term_bytes t
bindings_bytes (x ∷ (y ∷ xs)) (more_terms t ts) = x ++ bytes " = " ++ term_bytes t ++ bytes ", " ++ bindings_bytes (y ∷ xs) ts

abbrev pub line_bytes : List Name → Terms → List ℕ
line_bytes [] ts = bytes "true"
line_bytes (x ∷ xs) ts = bindings_bytes (x ∷ xs) ts

-- ---------------------------------------------------------------------------------------------
-- How a text reads: labels are spelled as names or digits.

abbrev pub Spelled : Label → Type 0
Spelled f = T (spelled_name f || spelled_digits f)

-- terms whose labels are
abbrev mutual
  pub SpelledTerm : Term → Type 0
  SpelledTerm (unbound i) = Unit {0}
  SpelledTerm (built f ts) = Spelled f × SpelledTerms ts

  pub SpelledTerms : Terms → Type 0
  SpelledTerms no_terms = Unit {0}
  SpelledTerms (more_terms t ts) = SpelledTerm t × SpelledTerms ts

-- as many terms as names
abbrev pub AsMany : List Name → Terms → Type 0
AsMany [] no_terms = Unit {0}
AsMany [] (more_terms t ts) = ⊥
AsMany (x ∷ xs) no_terms = ⊥
AsMany (x ∷ xs) (more_terms t ts) = AsMany xs ts

-- The text reads as the terms: as many as names, spelled as terms are, and printed so.
pub record ReadsAs (xs : List Name) (t : List ℕ) (ts : Terms) : Type 0 where
  pub as_many : AsMany xs ts
  pub spelled : SpelledTerms ts
  pub printed : t ≡ line_bytes xs ts

-- ---------------------------------------------------------------------------------------------
-- What is known of an answer of a well-formed configuration: it has a solution, its store mentions its own locals alone,
-- and its labels are spelled as names or digits.

abbrev pub SpelledCon : Con ℕ → Type 0
SpelledCon ctrue = Unit {0}
SpelledCon cfail = Unit {0}
SpelledCon (ceq x y) = Unit {0}
SpelledCon (capp x f ys) = Spelled f

abbrev pub SpelledStore : Store → Type 0
SpelledStore [] = Unit {0}
SpelledStore (c ∷ p) = SpelledCon c × SpelledStore p

pub record Fair (a : Answer) : Type 0 where
  pub sat : Satisfiable a.1
  pub own : Sub (vars_all a.1) a.0
  pub labels : SpelledStore a.1
