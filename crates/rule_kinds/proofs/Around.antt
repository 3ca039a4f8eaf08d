-- What opens around a node: the box or the guarded goal that holds it.
use mathlib.Core.Path.{◌≡◌, ap, ◌∙◌}
use mathlib.Core.List.{List, [], ◌∷◌}
use Prim.Native.Nat.{ℕ}
use native.Mathlib.Omega.{arith}
use lib.ListN.{length, length-append}
use Rattle.akl.specs.Base.{Name}
use Rattle.akl.specs.Syntax.{Stmt}
use Rattle.akl.specs.Configuration.{goal, guarded, Node, Nodes, Ctx, in_or, in_guard}
use Rattle.mem_words.specs.declared.Word.{Word}
use Rattle.mem_words.specs.declared.Word.TheVariants.{End, Place}
use Rattle.mem_sorts.specs.declared.Kind.TheVariants.{Or, Guarded}
use Rattle.layout.specs.Layout.{stmt_words}
use Rattle.store_words.specs.Boxes.{node_words, nodes_words}
use Rattle.store_words.specs.Contexts.{before, after}
use Rattle.store_words.proofs.Places.{plug_words}
use Rattle.rule_words.specs.Scans.{around}
use Rattle.rule_words.specs.Pieces.{cat}
use Rattle.rule_words.proofs.Balance.{seg_around, a_place, none}
use Rattle.rule_effects.specs.Standing.{Stands}
use Rattle.rule_effects.proofs.Shapes.{nodes_balanced}
use Rattle.rule_effects.proofs.Frames.{before_seg}

module _ (num : Name → ℕ) {Z W : List Word} {i : ℕ} where
  -- a goal in an or-box
  pub or_around : {χ : Ctx goal} {l r : Nodes goal} {n : Node goal} → Stands num (in_or χ l r) n Z W i → around W i ≡ length (before num χ [])
  unfolding before after
  or_around {χ} {l} {r} {n} s =
      let P = before num χ [] in
      let x = node_words num n (nodes_words num r (End ∷ after num χ Z)) in
      let w : W ≡ cat (P ∷ []) (Place Or ∷ nodes_words num l x) = s.whole ∙ plug_words num (in_or χ l r) n Z ∙ before_seg num χ (Place Or ∷ nodes_words num l x) in
      let m = s.begins ∙ ap length (before_seg num χ (Place Or ∷ nodes_words num l [])) ∙ length-append P (Place Or ∷ nodes_words num l []) in
      seg_around (Place Or) (nodes_words num l) (a_place Or) (nodes_balanced num l) (P ∷ []) x W i w (omega (arith, m)) ∙ omega arith

  -- a guard in its guarded goal
  pub guard_around : {χ : Ctx guarded} {b : Stmt} {n : Node goal} → Stands num (in_guard χ b) n Z W i → around W i ≡ length (before num χ [])
  unfolding before after
  guard_around {χ} {b} {n} s =
      let P = before num χ [] in
      let x = node_words num n (stmt_words num b (End ∷ after num χ Z)) in
      let w : W ≡ cat (P ∷ []) (Place Guarded ∷ x) = s.whole ∙ plug_words num (in_guard χ b) n Z ∙ before_seg num χ (Place Guarded ∷ x) in
      let m = s.begins ∙ ap length (before_seg num χ (Place Guarded ∷ [])) ∙ length-append P (Place Guarded ∷ []) in
      seg_around (Place Guarded) (λ r. r) (a_place Guarded) none (P ∷ []) x W i w (omega (arith, m)) ∙ omega arith
