-- Labels and finite trees.
-- Document 01: "Values are finite trees labelled with names of any length; name and number of children must both agree."
use Rattle.std.specs.Prelude.{◌≡◌, refl, ℕ, suc, ◌+◌}
use Rattle.std.proofs.Common.{sym}
use mathlib.Core.List.{List, [], ◌∷◌, head-eq_of_cons-eq, tail-eq_of_cons-eq, nil≢cons}
use Rattle.std.proofs.Math.Decide.{ℕ_discrete}

-- A label is a name: its bytes.
abbrev pub Label : Type 0
Label = List ℕ

-- "Names are compared byte for byte": the comparison of labels.
unfoldable pub label_dec : (f g : Label) → Dec (f ≡ g)
label_dec [] [] = yes refl
label_dec [] (y ∷ g) = no (λ e. nil≢cons e)
label_dec (x ∷ f) [] = no (λ e. nil≢cons (sym e))
label_dec (x ∷ f) (y ∷ g) = heads (ℕ_discrete x y) (label_dec f g)
  where
    heads : Dec (x ≡ y) → Dec (f ≡ g) → Dec (x ∷ f ≡ y ∷ g)
    heads (yes p) (yes q) = yes (λ i. p i ∷ q i)
    heads (yes p) (no n) = no (λ e. n (tail-eq_of_cons-eq e))
    heads (no n) q = no (λ e. n (head-eq_of_cons-eq e))

mutual
  -- A tree: a label and the list of its children.
  pub data Tree : Type 0 where
    node : Label → Forest → Tree

  pub data Forest : Type 0 where
    fnil : Forest
    fcons : Tree → Forest → Forest

-- The number of nodes: finite, so a tree is no part of its own child.
unfoldable mutual
  pub tree_size : Tree → ℕ
  tree_size (node f ts) = suc (forest_size ts)

  pub forest_size : Forest → ℕ
  forest_size fnil = 0
  forest_size (fcons t ts) = tree_size t + forest_size ts
