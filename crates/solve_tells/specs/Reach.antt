-- Which cells words can touch: those of the variables that stand in them. Assumes nothing.
use Rattle.std.specs.Prelude.{◌≡◌, refl, List, [], ◌∷◌, ℕ, zero, suc, ◌+◌, ◌≤◌, length, get_or}
use Rattle.std.proofs.Common.{subst, sym, inl, inr, arith}
use Rattle.constraint.specs.Constraint.{In}
use Rattle.mem_words.specs.declared.Word.{Word}
use Rattle.mem_words.specs.declared.Word.TheVariants.{End, Free, Level, Num, Place, Inner, Bad}
use Rattle.solve_fields.specs.Read.{var_of}

-- the variables of the words, each as often as it stands there, and 0, which any other word is read as
unfoldable pub vars_of : List Word → List ℕ
vars_of [] = 0 ∷ []
vars_of (End ∷ r) = vars_of r
vars_of (Free v ∷ r) = v ∷ vars_of r
vars_of (Level v ∷ r) = vars_of r
vars_of (Num v ∷ r) = vars_of r
vars_of (Place k ∷ r) = vars_of r
vars_of (Inner s ∷ r) = vars_of r
vars_of (Bad ∷ r) = vars_of r

-- no more than the words
pub vars_most : (W : List Word) → length (vars_of W) ≤ length W + 1
unfolding vars_of
vars_most [] = omega arith
vars_most (End ∷ r) = omega (arith, vars_most r)
vars_most (Free v ∷ r) = omega (arith, vars_most r)
vars_most (Level v ∷ r) = omega (arith, vars_most r)
vars_most (Num v ∷ r) = omega (arith, vars_most r)
vars_most (Place k ∷ r) = omega (arith, vars_most r)
vars_most (Inner s ∷ r) = omega (arith, vars_most r)
vars_most (Bad ∷ r) = omega (arith, vars_most r)
