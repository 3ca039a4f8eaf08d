-- Positions between a goal's first word and its End are those of the places at or inside it.
use mathlib.Core.Path.{◌≡◌, ap, ap₂, sym, ◌∙◌}
use mathlib.Core.Bool.{◌&&◌}
use mathlib.Core.List.{List, [], ◌∷◌, ◌++◌, append_assoc}
use Prim.Native.Nat.{ℕ, ◌+◌, ◌<◌, ◌≤◌}
use native.Mathlib.Omega.{arith}
use lib.ListN.{length-append}
use Rattle.akl.specs.Base.{Name}
use Rattle.akl.specs.Configuration as akl
use Rattle.akl.specs.Configuration.{Node, Ctx}
use Rattle.akl.specs.Table as table
use Rattle.akl.specs.Table.{itself, holder}
use Rattle.akl.specs.Places.{at, count, place_number, inside}
use Rattle.akl.specs.Step.{holds_box, box_of}
use Rattle.akl.specs.Stability.{rewritten}
use Rattle.mem_words.specs.declared.Word.{Word}
use Rattle.mem_words.specs.declared.Word.TheVariants.{Place}
use Rattle.store_words.specs.Boxes.{node_words}
use Rattle.store_words.specs.Contexts.{before, after, kind_of, places_in}
use Rattle.store_words.proofs.Places.{node_opens, node_places, before_places}
use Rattle.rule_words.proofs.Balance.{seg_ends}
use Rattle.rule_effects.specs.Effects.{behind}
use Rattle.rule_effects.specs.Standing.{Stands}
use Rattle.rule_effects.proofs.Shapes.{node_tree}
use Rattle.rule_effects.proofs.Frames.{node_seg, stands_seg}
use Rattle.rule_table.specs.Rows as rows
use Rattle.rule_holds.specs.Holding.{within_at, holds_in, rewrites_in}
use Rattle.rule_holds.proofs.Order.{places_append, as_many, more, same_leb, same_ltb}
use Rattle.rule_holds.proofs.Holders.{holder_stands}

module _ (num : Name → ℕ) {k h : akl.Kind} {χ : Ctx k} {n : Node k} {χ' : Ctx h} {m : Node h} {Z W : List Word} {g j : ℕ} where
  -- The place of χ' is at or inside the node of χ.
  pub inside_words : Stands num χ n Z W g → Stands num χ' m Z W j → inside χ n (place_number χ') ≡ within_at W g j
  unfolding inside within_at places_in
  inside_words s t =
      let A = before num χ [] in
      let N = node_words num n [] in
      let B = before num χ' [] in
      let p = node_opens num m (after num χ' Z) in
      let wa : W ≡ A ++ node_words num n (after num χ Z) = stands_seg num s in
      let wb : W ≡ B ++ node_words num m (after num χ' Z) = stands_seg num t in
      let wn : W ≡ (A ++ N) ++ after num χ Z = wa ∙ ap (λ (u : List Word). A ++ u) (node_seg num n (after num χ Z)) ∙ sym (append_assoc A N (after num χ Z)) in
      let wp : W ≡ B ++ (Place (kind_of m) ∷ p.0) = wb ∙ ap (λ (u : List Word). B ++ u) p.1 in
      let hg = s.begins in
      let hj = t.begins in
      let e = seg_ends (node_words num n) (node_tree num n) (A ∷ []) _ W g wa (omega (arith, hg)) in
      let na : places_in A ≡ place_number χ = before_places num χ [] ∙ omega arith in
      let nb : places_in B ≡ place_number χ' = before_places num χ' [] ∙ omega arith in
      let nn : places_in (A ++ N) ≡ place_number χ + count n = places_append A N ∙ omega (arith, na, node_places num n []) in
      let ln = length-append A N in
      let le : (g ≤ j) → place_number χ ≤ place_number χ' = λ q. omega (arith, na, nb, as_many A B (node_words num n (after num χ Z)) (node_words num m (after num χ' Z)) (sym wa ∙ wb) (omega (arith, hg, hj, q))) in
      let gt : (j < g) → place_number χ' < place_number χ = λ q. omega (arith, na, nb, more B A p.0 (node_words num n (after num χ Z)) (kind_of m) (sym wp ∙ wa) (omega (arith, hg, hj, q))) in
      let lt : (j < behind W g) → place_number χ' < place_number χ + count n = λ q. omega (arith, nn, nb, more B (A ++ N) p.0 (after num χ Z) (kind_of m) (sym wp ∙ wn) (omega (arith, hg, hj, e, ln, q))) in
      let ge : (behind W g ≤ j) → place_number χ + count n ≤ place_number χ' = λ q. omega (arith, nn, nb, as_many (A ++ N) B (after num χ Z) (node_words num m (after num χ' Z)) (sym wn ∙ wb) (omega (arith, hg, hj, e, ln, q))) in
      ap₂ ◌&&◌ (sym (same_leb g j (place_number χ) (place_number χ') le gt)) (sym (same_ltb j (behind W g) (place_number χ') (place_number χ + count n) lt ge))

-- The goal of χ is or holds the box that holds what is in χ'.
pub holds_words : (num : Name → ℕ) {k h : akl.Kind} {χ : Ctx k} {n : Node k} {χ' : Ctx h} {m : Node h} {Z W : List Word} {g i : ℕ} → Stands num χ n Z W g → Stands num χ' m Z W i → holds_box (at χ n) (box_of (at χ' m)) ≡ holds_in W g i
unfolding holds_in
holds_words num {k} {h} {χ} {n} {χ'} s t =
    let o = holder_stands num χ' t in
    ap (inside χ n) (sym o.number) ∙ inside_words num s o.stands

-- What a rule rewrites that is applied in χ' is at or inside the goal of χ.
pub rewrites_words : (num : Name → ℕ) {k h : akl.Kind} {χ : Ctx k} {n : Node k} {χ' : Ctx h} {m : Node h} {Z W : List Word} {g i : ℕ} (w : table.Rewrites) → Stands num χ n Z W g → Stands num χ' m Z W i
    → inside χ n (rewritten w (at χ' m)) ≡ rewrites_in (rows.rewrites_in w) W g i
rewrites_words num itself s t = inside_words num s t
rewrites_words num holder s t = holds_words num s t
