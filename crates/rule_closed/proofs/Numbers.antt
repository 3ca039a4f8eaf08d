-- A constraint that has no bound variable left free is the same with its variables' numbers: the premise of rule 1 on words.
use mathlib.Core.Path.{◌≡◌, refl, ap, ap₂}
use mathlib.Core.Bool.{Bool, ◌&&◌, ◌||◌}
use mathlib.Core.List.{List, map}
use Prim.Native.Nat.{ℕ}
use native.Mathlib.Nat.{not-suc-le-zero}
use lib.Dec.{T, ltb, ltb→lt}
use Rattle.constraint.specs.Constraint.{Con, ctrue, cfail, ceq, capp, map_con}
use Rattle.constraint.proofs.Lists.{and_T}
use Rattle.akl.specs.Base.{all}
use Rattle.akl.specs.Syntax.{Var, number, level}
use Rattle.akl.specs.Rules.{number_of}
use Rattle.akl.specs.WellFormed.{variable_fits, constraint_fits, few, spelled_name, spelled_digits}
use Rattle.theory.proofs.Closed.{any_number, ClosedVar, ClosedCon, list_number}

var_same : (v : Var) → ClosedVar v → number (number_of v) ≡ v
var_same (number x) c = refl
var_same (level l) c = absurd (not-suc-le-zero (ltb→lt l 0 c))

pub con_same : (c : Con Var) → ClosedCon c → map_con number (map_con number_of c) ≡ c
con_same ctrue k = refl
con_same cfail k = refl
con_same (ceq x y) k =
    let h = (and_T (variable_fits any_number 0 x) (variable_fits any_number 0 y)).0 k in
    ap₂ ceq (var_same x h.0) (var_same y h.1)
con_same (capp x f ys) k =
    let c3 = (and_T (variable_fits any_number 0 x && all (variable_fits any_number 0) ys && few ys) (spelled_name f || spelled_digits f)).0 k in
    let c2 = (and_T (variable_fits any_number 0 x && all (variable_fits any_number 0) ys) (few ys)).0 c3.0 in
    let c1 = (and_T (variable_fits any_number 0 x) (all (variable_fits any_number 0) ys)).0 c2.0 in
    ap₂ (λ (a : Var) (b : List Var). capp a f b) (var_same x c1.0) (list_number ys c1.1)
