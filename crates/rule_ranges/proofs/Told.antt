-- A store's words are read as the store, where each name in it is the name of its number.
use mathlib.Core.Path.{◌≡◌, refl, ap, ap₂, ◌∙◌}
use mathlib.Core.List.{List, [], ◌∷◌, map}
use Prim.Native.Nat.{ℕ, suc, ◌+◌}
use native.Mathlib.Omega.{arith}
use lib.ListN.{length, length-append}
use Rattle.constraint.specs.Tree.{Label}
use Rattle.constraint.specs.Constraint as constraint
use Rattle.constraint.specs.Constraint.{Con, ctrue, cfail, ceq, capp, map_con}
use Rattle.akl.specs.Base.{Name}
use Rattle.akl.specs.Syntax.{number}
use Rattle.mem_words.specs.declared.Word.{Word}
use Rattle.mem_words.specs.declared.Word.TheVariants.{End, Free, Num, Inner}
use Rattle.mem_sorts.specs.declared.Sort.TheVariants.{True, Fail, Eq, App}
use Rattle.layout.specs.Layout.{var_word, vars_words, con_words}
use Rattle.layout.specs.Tables.{SpeltCon}
use Rattle.store_words.specs.Boxes.{store_words}
use Rattle.store_words.specs.Tables.{SpeltStore}
use Rattle.solve_fields.specs.Read.{told, args_of}
use Rattle.rule_effects.proofs.Shapes.{con_tree}

args_vars : (ys : List ℕ) (r : List Word) → args_of (vars_words (map number ys) (End ∷ r)) ≡ ys
unfolding args_of vars_words var_word
args_vars [] r = refl
args_vars (y ∷ ys) r = ap (λ (l : List ℕ). y ∷ l) (args_vars ys r)

told_vars : (lab : ℕ → Label) (n : ℕ) (ys : List ℕ) (r : List Word) → told lab (length (vars_words (map number ys) (End ∷ [])) + n) (vars_words (map number ys) (End ∷ r)) ≡ told lab n r
unfolding told vars_words var_word
told_vars lab n [] r = let e : 1 + n ≡ suc n = omega arith in ap (λ (k : ℕ). told lab k (End ∷ r)) e
told_vars lab n (y ∷ ys) r =
    let L = length (vars_words (map number ys) (End ∷ [])) in
    let e : suc L + n ≡ suc (L + n) = omega arith in
    ap (λ (k : ℕ). told lab k (Free y ∷ vars_words (map number ys) (End ∷ r))) e ∙ told_vars lab n ys r

module _ (num : Name → ℕ) (lab : ℕ → Label) where
  told_con : (c : Con ℕ) (n : ℕ) (r : List Word) → SpeltCon num lab (map_con number c) → told lab (length (con_words num (map_con number c) []) + n) (con_words num (map_con number c) r) ≡ c ∷ told lab n r
  unfolding told con_words var_word
  told_con ctrue n r p = let e : 2 + n ≡ suc (suc n) = omega arith in ap (λ (k : ℕ). told lab k (Inner True ∷ End ∷ r)) e
  told_con cfail n r p = let e : 2 + n ≡ suc (suc n) = omega arith in ap (λ (k : ℕ). told lab k (Inner Fail ∷ End ∷ r)) e
  told_con (ceq x y) n r p = let e : 4 + n ≡ suc (suc (suc (suc n))) = omega arith in ap (λ (k : ℕ). told lab k (Inner Eq ∷ Free x ∷ Free y ∷ End ∷ r)) e
  told_con (capp x f ys) n r p =
      let L = length (vars_words (map number ys) (End ∷ [])) in
      let Y = vars_words (map number ys) (End ∷ r) in
      let e : suc (suc (suc L)) + n ≡ suc (suc (suc (L + n))) = omega arith in
      ap (λ (k : ℕ). told lab k (Inner App ∷ Free x ∷ Num (num f) ∷ Y)) e
      ∙ ap₂ (λ (g : Label) (l : List ℕ). capp x g l ∷ told lab (L + n) Y) p (args_vars ys r)
      ∙ ap (λ (s : constraint.Store). capp x f ys ∷ s) (told_vars lab n ys r)

  -- whatever stands behind them
  pub told_store : (σ : constraint.Store) (r : List Word) → SpeltStore num lab σ → told lab (length (store_words num σ [])) (store_words num σ r) ≡ σ
  unfolding told store_words
  told_store [] r p = refl
  told_store (c ∷ σ) r p =
      let S = store_words num σ [] in
      let C = con_words num (map_con number c) in
      let e : length (C S) ≡ length (C []) + length S = ap length ((con_tree num (map_con number c)).balanced.front S) ∙ length-append (C []) S in
      ap (λ (k : ℕ). told lab k (C (store_words num σ r))) e
      ∙ told_con c (length S) (store_words num σ r) p.0
      ∙ ap (λ (s : constraint.Store). c ∷ s) (told_store σ r p.1)
