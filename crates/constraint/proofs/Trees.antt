-- Finite trees: labels and children of equal nodes, forest-size of children; assignments that agree on a constraint's variables.
use mathlib.Core.Path.{◌≡◌, refl, ap, sym, ◌∙◌}
use mathlib.Core.Logic.{◌⊎◌, inl, inr}
use mathlib.Core.List.{List, [], ◌∷◌}
use Prim.Native.Nat.{ℕ, ◌≤◌}
use native.Mathlib.Omega.{arith}
use native.Mathlib.Decide.{ℕ_discrete}
use Rattle.constraint.specs.Tree.{Label, Forest, node, tree_size, forest_size}
use Rattle.constraint.specs.Constraint.{Con, ctrue, cfail, ceq, capp, Asg, trees, Sat, Sats, In, Off, Store, vars, Fresh}

pub node_label : {f g : Label} {ts us : Forest} → node f ts ≡ node g us → f ≡ g
node_label e = cc e

pub node_args : {f g : Label} {ts us : Forest} → node f ts ≡ node g us → ts ≡ us
node_args e = cc e

-- an argument is smaller than the tree
pub arg_le : (ρ : Asg) (y : ℕ) (ys : List ℕ) → In y ys → tree_size (ρ y) ≤ forest_size (trees ρ ys)
unfolding tree_size
arg_le ρ y [] i = elim i [ ]
arg_le ρ y (z ∷ ys) (inl e) = rw e (omega arith)
arg_le ρ y (z ∷ ys) (inr h) = omega (arith, arg_le ρ y ys h)

unfoldable pub dec_in : (x : ℕ) (l : List ℕ) → Dec (In x l)
dec_in x [] = no (λ h. h)
dec_in x (y ∷ l) = go (ℕ_discrete x y) (dec_in x l)
  where
    go : Dec (x ≡ y) → Dec (In x l) → Dec ((x ≡ y) ⊎ In x l)
    go (yes e) d = yes (inl e)
    go (no n) (yes h) = yes (inr h)
    go (no n) (no m) = no λ s. elim s [ inl e ↦ n e | inr h ↦ m h ]

-- an assignment matters only at the variables that occur
pub trees_agree : (ρ ρ' : Asg) (ys : List ℕ) → ((x : ℕ) → In x ys → ρ x ≡ ρ' x) → trees ρ ys ≡ trees ρ' ys
trees_agree ρ ρ' [] h = refl
trees_agree ρ ρ' (y ∷ ys) h = rw (h y (inl refl), trees_agree ρ ρ' ys (λ x i. h x (inr i)))

pub sat_agree : (ρ ρ' : Asg) (c : Con ℕ) → ((x : ℕ) → In x (vars c) → ρ x ≡ ρ' x) → Sat ρ c → Sat ρ' c
sat_agree ρ ρ' ctrue h s = tt
sat_agree ρ ρ' cfail h s = s
sat_agree ρ ρ' (ceq x y) h s = sym (h x (inl refl)) ∙ s ∙ h y (inr (inl refl))
sat_agree ρ ρ' (capp x f ys) h s = sym (h x (inl refl)) ∙ s ∙ ap (node f) (trees_agree ρ ρ' ys (λ z i. h z (inr i)))

pub sats_off : (vs : List ℕ) (ρ ρ' : Asg) (cs : Store) → Fresh vs cs → Off vs ρ ρ' → Sats ρ cs → Sats ρ' cs
sats_off vs ρ ρ' [] f o s = tt
sats_off vs ρ ρ' (c ∷ cs) f o s = (sat_agree ρ ρ' c (λ x i. o x (f.0 x i)) s.0, sats_off vs ρ ρ' cs f.1 o s.1)
