-- Laws of the definitions of specs/Reach.
use Rattle.std.specs.Prelude.{◌≡◌, refl, List, [], ◌∷◌, ℕ, zero, suc, ◌+◌, ◌≤◌, length, get_or}
use Rattle.std.proofs.Common.{subst, sym, inl, inr, arith}
use Rattle.constraint.specs.Constraint.{In}
use Rattle.mem_words.specs.declared.Word.{Word}
use Rattle.mem_words.specs.declared.Word.TheVariants.{End, Free, Level, Num, Place, Inner, Bad}
use Rattle.solve_fields.specs.Read.{var_of}
use Rattle.solve_tells.specs.Reach.{vars_of}

zero_in : (W : List Word) → In 0 (vars_of W)
unfolding vars_of
zero_in [] = inl refl
zero_in (End ∷ r) = zero_in r
zero_in (Free v ∷ r) = inr (zero_in r)
zero_in (Level v ∷ r) = zero_in r
zero_in (Num v ∷ r) = zero_in r
zero_in (Place k ∷ r) = zero_in r
zero_in (Inner s ∷ r) = zero_in r
zero_in (Bad ∷ r) = zero_in r

at_in : (W : List Word) (i : ℕ) → In (var_of (get_or W i Bad)) (vars_of W)
unfolding vars_of
at_in [] i = inl refl
at_in (End ∷ r) zero = zero_in r
at_in (Free v ∷ r) zero = inl refl
at_in (Level v ∷ r) zero = zero_in r
at_in (Num v ∷ r) zero = zero_in r
at_in (Place k ∷ r) zero = zero_in r
at_in (Inner s ∷ r) zero = zero_in r
at_in (Bad ∷ r) zero = zero_in r
at_in (End ∷ r) (suc i) = at_in r i
at_in (Free v ∷ r) (suc i) = inr (at_in r i)
at_in (Level v ∷ r) (suc i) = at_in r i
at_in (Num v ∷ r) (suc i) = at_in r i
at_in (Place k ∷ r) (suc i) = at_in r i
at_in (Inner s ∷ r) (suc i) = at_in r i
at_in (Bad ∷ r) (suc i) = at_in r i

pub var_in : (W : List Word) (i x : ℕ) → x ≡ var_of (get_or W i Bad) → In x (vars_of W)
var_in W i x e = subst (λ (z : ℕ). In z (vars_of W)) (sym e) (at_in W i)
