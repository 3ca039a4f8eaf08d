-- Rules 7, 8, 11 and 13: a guarded goal in its choice-box.
use mathlib.Core.Path.{◌≡◌, refl, ap, ap₂, sym, ◌∙◌}
use mathlib.Core.List.{List, [], ◌∷◌, ◌++◌}
use Prim.Native.Nat.{ℕ, suc, ◌+◌}
use native.Mathlib.Omega.{arith}
use lib.ListN.{length, take, drop, length-append}
use Rattle.akl.specs.Base.{Name}
use Rattle.akl.specs.Syntax.{Op, Stmt}
use Rattle.akl.specs.Configuration.{goal, member, guarded, Node, or, choice_box, guard, Nodes, nil, cons, ◌+n◌, one, Ctx, in_choice, plug}
use Rattle.mem_words.specs.declared.Word.{Word}
use Rattle.mem_words.specs.declared.Word.TheVariants.{End, Place}
use Rattle.mem_sorts.specs.declared.Kind.TheVariants.{Or, Guarded}
use Rattle.layout.specs.Layout.{stmt_words}
use Rattle.store_words.specs.Boxes.{box_kind, node_words, nodes_words}
use Rattle.store_words.specs.Contexts.{before, after}
use Rattle.store_words.proofs.Places.{plug_words}
use Rattle.rule_words.specs.Scans.{close, around}
use Rattle.rule_words.specs.Pieces.{cut, cat}
use Rattle.rule_words.proofs.Segments.{size, size_cat, seg_take, seg_drop, seg_cut, seg_take_on, seg_cut_on}
use Rattle.rule_words.proofs.Balance.{seg_ends, seg_around, a_place}
use Rattle.rule_effects.specs.Effects.{behind, effect_7, committed, effect_8, effect_11, distributed, effect_13}
use Rattle.rule_effects.specs.Standing.{Stands}
use Rattle.rule_effects.proofs.Shapes.{stmt_tree, node_tree, nodes_balanced}
use Rattle.rule_effects.proofs.Frames.{E, stmt_seg, node_seg, nodes_seg, before_seg, plug_seg, stands_seg, choice_side, before_choice, closes_at}

behind_it : (num : Name → ℕ) (χ : Ctx member) (op : Op) (l r : Nodes guarded) (n : Node guarded) (Z : List Word) → node_words num n (after num (in_choice χ op l r) Z) ≡ cat (node_words num n [] ∷ nodes_words num r [] ∷ []) (End ∷ after num χ Z)
unfolding after
behind_it num χ op l r n Z = node_seg num n (nodes_words num r (End ∷ after num χ Z)) ∙ ap (cat (node_words num n [] ∷ [])) (nodes_seg num r (End ∷ after num χ Z))

module _ (num : Name → ℕ) {χ : Ctx member} {op : Op} {l r : Nodes guarded} {Z W : List Word} {i : ℕ} where
  -- a guarded goal, what stands before it and behind it
  around_it : {n : Node guarded} → Stands num (in_choice χ op l r) n Z W i → W ≡ cat (before num (in_choice χ op l r) [] ∷ node_words num n [] ∷ nodes_words num r [] ∷ []) (End ∷ after num χ Z)
  around_it {n} s = stands_seg num s ∙ ap (cat (before num (in_choice χ op l r) [] ∷ [])) (behind_it num χ op l r n Z)

  ends_it : {n : Node guarded} → Stands num (in_choice χ op l r) n Z W i → behind W i ≡ i + length (node_words num n [])
  ends_it {n} s = let h = s.begins in seg_ends (node_words num n) (node_tree num n) (before num (in_choice χ op l r) [] ∷ []) _ W i (stands_seg num s) (omega (arith, h))

  -- its choice-box
  pub choice_around : {n : Node guarded} → Stands num (in_choice χ op l r) n Z W i → around W i ≡ length (before num χ [])
  unfolding before after
  choice_around {n} s =
      let P = before num χ [] in
      let x = node_words num n (nodes_words num r (End ∷ after num χ Z)) in
      let w : W ≡ cat (P ∷ []) (Place (box_kind op) ∷ nodes_words num l x) = s.whole ∙ plug_words num (in_choice χ op l r) n Z ∙ before_seg num χ (Place (box_kind op) ∷ nodes_words num l x) in
      let m = s.begins ∙ ap length (before_seg num χ (Place (box_kind op) ∷ nodes_words num l [])) ∙ length-append P (Place (box_kind op) ∷ nodes_words num l []) in
      seg_around (Place (box_kind op)) (nodes_words num l) (a_place (box_kind op)) (nodes_balanced num l) (P ∷ []) x W i w (omega (arith, m)) ∙ omega arith

  choice_closes : {n : Node guarded} → Stands num (in_choice χ op l r) n Z W i → close W (around W i) ≡ size (before num (in_choice χ op l r) [] ∷ node_words num n [] ∷ nodes_words num r [] ∷ [])
  unfolding plug
  choice_closes {n} s =
      let a = choice_around s in
      closes_at num (choice_box op (l +n cons n r)) (before num χ [] ∷ []) (before num (in_choice χ op l r) [] ∷ node_words num n [] ∷ nodes_words num r [] ∷ []) (after num χ Z) W (around W i)
      (s.whole ∙ plug_seg num χ (choice_box op (l +n cons n r)) Z) (around_it s) (omega (arith, a))

  -- 7
  pub rule_7_words : {g : Node goal} {b : Stmt} → Stands num (in_choice χ op l r) (guard g b) Z W i → effect_7 W i ≡ node_words num (plug χ (choice_box op (l +n one (guard g b)))) Z
  unfolding effect_7 nodes_words
  rule_7_words {g} {b} s =
      let P = before num (in_choice χ op l r) [] in
      let G = node_words num (guard g b) [] in
      let R = nodes_words num r [] in
      let w = around_it s in
      let h = s.begins in
      let e = ends_it s in
      let z = choice_closes s in
      seg_take_on (P ∷ G ∷ []) _ W (behind W i) w (omega (arith, e, h)) _ ∙ ap (cat (P ∷ G ∷ [])) (seg_drop (P ∷ G ∷ R ∷ []) _ W (close W (around W i)) w (omega (arith, z)))
      ∙ sym (choice_side num χ op l r (one (guard g b)) Z ∙ ap (cat (P ∷ [])) (node_seg num (guard g b) (End ∷ after num χ Z)))

  -- 8
  pub rule_8_words : {g : Node goal} {b : Stmt} → Stands num (in_choice χ op l r) (guard g b) Z W i → effect_8 W i ≡ node_words num (plug χ (choice_box op (one (guard g b)))) Z
  unfolding effect_8 committed node_words
  rule_8_words {g} {b} s =
      let P = before num χ [] in
      let K = Place (box_kind op) ∷ [] in
      let L = nodes_words num l [] in
      let G = node_words num (guard g b) [] in
      let R = nodes_words num r [] in
      let q : before num (in_choice χ op l r) [] ≡ cat (P ∷ K ∷ L ∷ []) [] = before_choice num χ op l r [] in
      let w : W ≡ cat (P ∷ K ∷ L ∷ G ∷ R ∷ []) (End ∷ after num χ Z) = s.whole ∙ plug_words num (in_choice χ op l r) (guard g b) Z ∙ before_choice num χ op l r _ ∙ ap (cat (P ∷ K ∷ L ∷ [])) (behind_it num χ op l r (guard g b) Z) in
      let m = ap length q ∙ size_cat (P ∷ K ∷ L ∷ []) [] in
      let h = s.begins in
      let e = ends_it s in
      let z = choice_closes s in
      let a = choice_around s in
      seg_take_on (P ∷ K ∷ []) _ W (around W i + 1) w (omega (arith, a)) _ ∙ ap (cat (P ∷ K ∷ []))
      (seg_cut_on (P ∷ K ∷ L ∷ []) (G ∷ []) _ W i (behind W i) w (omega (arith, h, m)) (omega (arith, h, m, e)) _ ∙ ap (cat (G ∷ []))
      (seg_drop (P ∷ K ∷ L ∷ G ∷ R ∷ []) _ W (close W (around W i)) w (omega (arith, z, m))))
      ∙ sym (plug_seg num χ (choice_box op (one (guard g b))) Z ∙ ap (cat (P ∷ K ∷ [])) (node_seg num (guard g b) (End ∷ after num χ Z)))

  -- 11
  pub rule_11_words : {g : Node goal} {b : Stmt} → Stands num (in_choice χ op l r) (guard g b) Z W i → effect_11 W i ≡ node_words num (plug χ (choice_box op (l +n r))) Z
  unfolding effect_11
  rule_11_words {g} {b} s =
      let P = before num (in_choice χ op l r) [] in
      let G = node_words num (guard g b) [] in
      let R = nodes_words num r [] in
      let w = around_it s in
      let h = s.begins in
      let e = ends_it s in
      seg_take_on (P ∷ []) _ W i w (omega (arith, h)) _ ∙ ap (cat (P ∷ [])) (seg_drop (P ∷ G ∷ []) _ W (behind W i) w (omega (arith, e, h)))
      ∙ sym (choice_side num χ op l r r Z ∙ ap (cat (P ∷ [])) (nodes_seg num r (End ∷ after num χ Z)))

-- 13
distributed_parts : (P G GS B T W : List Word) (i q o e : ℕ) → W ≡ cat (P ∷ (Place Guarded ∷ []) ∷ (Place Or ∷ []) ∷ G ∷ GS ∷ E ∷ B ∷ E ∷ []) T
    → i ≡ length P → q ≡ i + 2 + length G → o ≡ q + length GS + 1 → e ≡ o + length B + 1
    → distributed W i q o e ≡ cat (P ∷ (Place Guarded ∷ []) ∷ G ∷ B ∷ E ∷ (Place Guarded ∷ Place Or ∷ []) ∷ GS ∷ E ∷ B ∷ E ∷ []) T
unfolding distributed
distributed_parts P G GS B T W i q o e w hi hq ho he =
    let D = Place Guarded ∷ [] in
    let O = Place Or ∷ [] in
    seg_take_on (P ∷ D ∷ []) _ W (i + 1) w (omega arith) _ ∙ ap (cat (P ∷ D ∷ []))
    (seg_cut_on (P ∷ D ∷ O ∷ []) (G ∷ []) _ W (i + 2) q w (omega arith) (omega arith) _ ∙ ap (cat (G ∷ []))
    (seg_cut_on (P ∷ D ∷ O ∷ G ∷ GS ∷ E ∷ []) (B ∷ E ∷ []) _ W o e w (omega arith) (omega arith) _ ∙ ap (cat (B ∷ E ∷ (Place Guarded ∷ Place Or ∷ []) ∷ []))
    (seg_drop (P ∷ D ∷ O ∷ G ∷ []) _ W q w (omega arith))))

pub rule_13_words : (num : Name → ℕ) {χ : Ctx member} {op : Op} {l r : Nodes guarded} {g : Node goal} {gs : Nodes goal} {b : Stmt} {Z W : List Word} {i : ℕ} → Stands num (in_choice χ op l r) (guard (or (cons g gs)) b) Z W i
    → effect_13 W i ≡ node_words num (plug χ (choice_box op (l +n cons (guard g b) (cons (guard (or gs) b) r)))) Z
unfolding effect_13 node_words after
rule_13_words num {χ} {op} {l} {r} {g} {gs} {b} {Z} {W} {i} s =
    let P = before num (in_choice χ op l r) [] in
    let T = nodes_words num r (End ∷ after num χ Z) in
    let D = Place Guarded ∷ [] in
    let O = Place Or ∷ [] in
    let G = node_words num g [] in
    let GS = nodes_words num gs [] in
    let B = stmt_words num b [] in
    let w0 : W ≡ cat (P ∷ D ∷ O ∷ []) (node_words num g (nodes_words num gs (End ∷ stmt_words num b (End ∷ T)))) = stands_seg num s in
    let inner : (x : List Word) → node_words num g (nodes_words num gs (End ∷ x)) ≡ cat (G ∷ GS ∷ E ∷ []) x = λ x. node_seg num g _ ∙ ap (cat (G ∷ [])) (nodes_seg num gs (End ∷ x)) in
    let w : W ≡ cat (P ∷ D ∷ O ∷ G ∷ GS ∷ E ∷ B ∷ E ∷ []) T = w0 ∙ ap (cat (P ∷ D ∷ O ∷ [])) (inner _ ∙ ap (cat (G ∷ GS ∷ E ∷ [])) (stmt_seg num b (End ∷ T))) in
    let h = s.begins in
    let q = seg_ends (node_words num g) (node_tree num g) (P ∷ D ∷ O ∷ []) _ W (i + 2) w0 (omega arith) in
    let o = closes_at num (or (cons g gs)) (P ∷ D ∷ []) (P ∷ D ∷ O ∷ G ∷ GS ∷ []) (stmt_words num b (End ∷ T)) W (i + 1) w0 (w0 ∙ ap (cat (P ∷ D ∷ O ∷ [])) (inner _)) (omega arith) in
    let e = closes_at num (guard (or (cons g gs)) b) (P ∷ []) (P ∷ D ∷ O ∷ G ∷ GS ∷ E ∷ B ∷ []) T W i w0 w (omega arith) in
    distributed_parts P G GS B T W i _ _ _ w h q (omega (arith, q, o)) (omega (arith, o, e))
    ∙ sym (choice_side num χ op l r (cons (guard g b) (cons (guard (or gs) b) r)) Z
    ∙ ap (cat (P ∷ D ∷ [])) (node_seg num g _ ∙ ap (cat (G ∷ [])) (stmt_seg num b _ ∙ ap (cat (B ∷ E ∷ (Place Guarded ∷ Place Or ∷ []) ∷ [])) (nodes_seg num gs _ ∙ ap (cat (GS ∷ E ∷ [])) (stmt_seg num b (End ∷ T))))))
