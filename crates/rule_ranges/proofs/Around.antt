-- What is open around a node is what its context says: the box or guarded goal that holds it stands there.
use mathlib.Core.Path.{◌≡◌, refl, ap, ◌∙◌}
use mathlib.Core.List.{List, [], ◌∷◌, ◌++◌}
use Prim.Native.Nat.{ℕ, ◌+◌, ◌<◌}
use native.Mathlib.Omega.{arith}
use lib.ListN.{length, length-append}
use Rattle.constraint.specs.Constraint as constraint
use Rattle.akl.specs.Base.{Name}
use Rattle.akl.specs.Syntax.{Op, Stmt}
use Rattle.akl.specs.Configuration as akl
use Rattle.akl.specs.Configuration.{goal, member, guarded, Node, or, and, choice_box, guard, Nodes, cons, ◌+n◌, Ctx, top, in_or, in_and, in_choice, in_guard, plug}
use Rattle.mem_words.specs.declared.Word.{Word}
use Rattle.mem_words.specs.declared.Word.TheVariants.{Place}
use Rattle.mem_sorts.specs.declared.Kind.{Kind}
use Rattle.mem_sorts.specs.declared.Kind.TheVariants.{Or, And, Guarded}
use Rattle.store_words.specs.Boxes.{box_kind, node_words, nodes_words}
use Rattle.store_words.specs.Contexts.{before, after, kind_of}
use Rattle.store_words.proofs.Places.{plug_words, node_opens}
use Rattle.rule_words.specs.Scans.{around}
use Rattle.rule_words.specs.Pieces.{cat}
use Rattle.rule_words.proofs.Balance.{Balanced, none, seg_around, a_place}
use Rattle.rule_effects.specs.Standing.{Stands}
use Rattle.rule_effects.proofs.Shapes.{nodes_balanced}
use Rattle.rule_effects.proofs.Frames.{before_seg, stands_seg, head, head_is_balanced}

module _ (num : Name → ℕ) where
  -- a node behind the words F that its holder has before it
  held : {k j : akl.Kind} (χ : Ctx k) (χ' : Ctx j) (n : Node k) (K : Kind) (F : List Word → List Word) (Z W : List Word) (i : ℕ) → Balanced F → ((u : List Word) → before num χ u ≡ before num χ' (Place K ∷ F u)) → Stands num χ n Z W i
      → (around W i ≡ length (before num χ' [])) × (around W i < i)
  held χ χ' n K F Z W i b p s =
      let P = before num χ' [] in
      let x = node_words num n (after num χ Z) in
      let f : (u : List Word) → before num χ u ≡ P ++ (Place K ∷ F u) = λ u. p u ∙ before_seg num χ' (Place K ∷ F u) in
      let w : W ≡ cat (P ∷ []) (Place K ∷ F x) = s.whole ∙ plug_words num χ n Z ∙ f x in
      let m = s.begins ∙ ap length (f []) ∙ length-append P (Place K ∷ F []) in
      let a : around W i ≡ length P = seg_around (Place K) F (a_place K) b (P ∷ []) x W i w (omega (arith, m)) ∙ omega arith in
      (a, omega (arith, a, m))

  module _ {Z W : List Word} {i : ℕ} where
    -- the or-box, the and-box, the choice-box and the guarded goal
    pub holds_or : {χ : Ctx goal} {l r : Nodes goal} {n : Node goal} → Stands num (in_or χ l r) n Z W i → Stands num χ (or (l +n cons n r)) Z W (around W i) × (around W i < i)
    unfolding before plug
    holds_or {χ} {l} {r} {n} s =
        let h = held (in_or χ l r) χ n Or (nodes_words num l) Z W i (nodes_balanced num l) (λ u. refl) s in
        (record { whole = s.whole; begins = h.0 }, h.1)

    pub holds_and : {χ : Ctx goal} {vs : List ℕ} {σ : constraint.Store} {l r : Nodes member} {n : Node member} → Stands num (in_and χ vs σ l r) n Z W i
        → Stands num χ (and vs σ (l +n cons n r)) Z W (around W i) × (around W i < i)
    unfolding before plug
    holds_and {χ} {vs} {σ} {l} {r} {n} s =
        let h = held (in_and χ vs σ l r) χ n And (head num vs σ l) Z W i (head_is_balanced num vs σ l) (λ u. refl) s in
        (record { whole = s.whole; begins = h.0 }, h.1)

    pub holds_choice : {χ : Ctx member} {op : Op} {l r : Nodes guarded} {n : Node guarded} → Stands num (in_choice χ op l r) n Z W i
        → Stands num χ (choice_box op (l +n cons n r)) Z W (around W i) × (around W i < i)
    unfolding before plug
    holds_choice {χ} {op} {l} {r} {n} s =
        let h = held (in_choice χ op l r) χ n (box_kind op) (nodes_words num l) Z W i (nodes_balanced num l) (λ u. refl) s in
        (record { whole = s.whole; begins = h.0 }, h.1)

    pub holds_guard : {χ : Ctx guarded} {b : Stmt} {n : Node goal} → Stands num (in_guard χ b) n Z W i → Stands num χ (guard n b) Z W (around W i) × (around W i < i)
    unfolding before plug
    holds_guard {χ} {b} {n} s =
        let h = held (in_guard χ b) χ n Guarded (λ u. u) Z W i none (λ u. refl) s in
        (record { whole = s.whole; begins = h.0 }, h.1)

    -- the top or-box begins the words
    pub at_top : {n : Node goal} → Stands num top n Z W i → i ≡ 0
    unfolding before
    at_top s = s.begins

    -- a node's own bracket is open behind its first word
    pub opens_itself : {k : akl.Kind} {χ : Ctx k} {n : Node k} → Stands num χ n Z W i → around W (i + 1) ≡ i
    opens_itself {k} {χ} {n} s =
        let P = before num χ [] in
        let o = node_opens num n (after num χ Z) in
        let w : W ≡ cat (P ∷ []) (Place (kind_of n) ∷ o.0) = stands_seg num s ∙ ap (cat (P ∷ [])) o.1 in
        let h = s.begins in
        seg_around (Place (kind_of n)) (λ u. u) (a_place (kind_of n)) none (P ∷ []) o.0 W (i + 1) w (omega (arith, h)) ∙ omega (arith, h)
