-- Statements of a configuration have no bound variable left free: each variable is a number.
use mathlib.Core.Path.{◌≡◌, refl, ap, sym, ◌∙◌, subst}
use mathlib.Core.Logic.{◌↔◌, ◌⊎◌, inl, inr}
use mathlib.Core.List.{List, [], ◌∷◌, ◌++◌, map}
use mathlib.Core.Bool.{Bool, true, false, ◌&&◌, ◌||◌}
use Prim.Native.Nat.{ℕ, zero, suc}
use native.Mathlib.Nat.{not-suc-le-zero}
use lib.Dec.{T, ltb, ltb→lt}
use Rattle.constraint.specs.Tree.{Tree, Forest, node, fcons}
use Rattle.constraint.specs.Constraint.{Con, ctrue, cfail, ceq, capp, map_con, Store, Asg, trees, Sat, Sats}
use Rattle.constraint.proofs.Lists.{and_T}
use Rattle.akl.specs.Base.{all}
use Rattle.akl.specs.Syntax.{Var, number, level}
use Rattle.akl.specs.Rules.{number_of, stored}
use Rattle.theory.specs.Meaning.{look}
use Rattle.akl.specs.WellFormed.{variable_fits, constraint_fits, few, spelled_name, spelled_digits}

-- any number may stand
abbrev pub any_number : ℕ → Bool
any_number x = true

abbrev pub ClosedVar : Var → Type 0
ClosedVar v = T (variable_fits any_number 0 v)

abbrev pub ClosedList : List Var → Type 0
ClosedList vs = T (all (variable_fits any_number 0) vs)

abbrev pub ClosedCon : Con Var → Type 0
ClosedCon c = T (constraint_fits any_number 0 c)

no_level : (l : ℕ) → T (ltb l 0) → ⊥
no_level l t = not-suc-le-zero (ltb→lt l 0 t)

var_number : (v : Var) → ClosedVar v → number (number_of v) ≡ v
var_number (number x) c = refl
var_number (level l) c = absurd (no_level l c)

pub list_number : (vs : List Var) → ClosedList vs → map number (map number_of vs) ≡ vs
unfolding all
list_number [] c = refl
list_number (v ∷ vs) c =
    let h = (and_T (variable_fits any_number 0 v) (all (variable_fits any_number 0) vs)).0 c in
    λ i. var_number v h.0 i ∷ list_number vs h.1 i

look_number : (ρ : Asg) (v : Var) → ClosedVar v → ρ (number_of v) ≡ look ρ [] v
look_number ρ (number x) c = refl
look_number ρ (level l) c = absurd (no_level l c)

trees_number : (ρ : Asg) (vs : List Var) → ClosedList vs → trees ρ (map number_of vs) ≡ trees (look ρ []) vs
unfolding all
trees_number ρ [] c = refl
trees_number ρ (v ∷ vs) c =
    let h = (and_T (variable_fits any_number 0 v) (all (variable_fits any_number 0) vs)).0 c in
    λ i. fcons (look_number ρ v h.0 i) (trees_number ρ vs h.1 i)

-- what rule 1 stores says what the atom said
pub stored_sat : (ρ : Asg) (c : Con Var) → ClosedCon c → Sats ρ (stored c) ↔ Sat (look ρ []) c
stored_sat ρ ctrue k = (λ h. tt, λ h. tt)
stored_sat ρ cfail k = (λ h. h.0, λ h. absurd h)
stored_sat ρ (ceq x y) k =
    let h = (and_T (variable_fits any_number 0 x) (variable_fits any_number 0 y)).0 k in
    let ex = look_number ρ x h.0 in
    let ey = look_number ρ y h.1 in
    (λ s. sym ex ∙ s.0 ∙ ey, λ s. (ex ∙ s ∙ sym ey, tt))
stored_sat ρ (capp x f ys) k =
    let c3 = (and_T (variable_fits any_number 0 x && all (variable_fits any_number 0) ys && few ys) (spelled_name f || spelled_digits f)).0 k in
    let c2 = (and_T (variable_fits any_number 0 x && all (variable_fits any_number 0) ys) (few ys)).0 c3.0 in
    let c1 = (and_T (variable_fits any_number 0 x) (all (variable_fits any_number 0) ys)).0 c2.0 in
    let ex = look_number ρ x c1.0 in
    let ey = trees_number ρ ys c1.1 in
    (λ s. sym ex ∙ s.0 ∙ ap (node f) ey, λ s. (ex ∙ s ∙ ap (node f) (sym ey), tt))
