-- How long the texts of terms are, and lengths that are counted no further than a bound. Assumes nothing.
use Rattle.std.specs.Prelude.{List, [], ◌∷◌, ℕ, suc, ◌+◌, length}
use Rattle.std.proofs.Math.Logic.{ite}
use Rattle.std.proofs.Math.Decide.{dec_lt}
use Rattle.akl.specs.Base.{Name, decimal}
use Rattle.akl.specs.Answers.{Term, unbound, built, Terms, no_terms, more_terms, unknowns_all, position}

unfoldable mutual
  pub term_length : Term → List ℕ → ℕ
  term_length (unbound r) seen = 1 + length (decimal (position r seen))
  term_length (built f ts) seen = length f + arguments_length ts seen

  pub arguments_length : Terms → List ℕ → ℕ
  arguments_length no_terms seen = 0
  arguments_length (more_terms t ts) seen = 1 + term_length t seen + rest_length ts seen

  -- each argument with the byte before it, and the bracket at the end
  pub rest_length : Terms → List ℕ → ℕ
  rest_length no_terms seen = 1
  rest_length (more_terms t ts) seen = 1 + term_length t seen + rest_length ts seen

unfoldable pub bindings_length : List Name → Terms → List ℕ → ℕ
bindings_length [] ts seen = 0
bindings_length (x ∷ xs) no_terms seen = 0
bindings_length (x ∷ []) (more_terms t ts) seen = length x + 3 + term_length t seen
bindings_length (x ∷ (y ∷ xs)) (more_terms t ts) seen = length x + 3 + term_length t seen + 2 + bindings_length (y ∷ xs) ts seen

abbrev pub line_length : List Name → Terms → ℕ
line_length [] ts = 4
line_length (x ∷ xs) ts = bindings_length (x ∷ xs) ts (unknowns_all ts [])

-- n, or m + 1 for any n that is more than m
unfoldable pub cap : ℕ → ℕ → ℕ
cap m n = ite (dec_lt m n) (suc m) n
