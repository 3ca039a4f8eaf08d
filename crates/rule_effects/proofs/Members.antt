-- Rules 3 and 14: what stands in an and-box's or an or-box's position is replaced. Rules 9 and 10: an and-box becomes failure.
use mathlib.Core.Path.{◌≡◌, refl, ap, ap₂, sym, ◌∙◌}
use mathlib.Core.List.{List, [], ◌∷◌, ◌++◌}
use Prim.Native.Nat.{ℕ, suc, ◌+◌}
use native.Mathlib.Omega.{arith}
use lib.ListN.{length, take, drop, length-append}
use Rattle.constraint.specs.Constraint as constraint
use Rattle.akl.specs.Base.{Name}
use Rattle.akl.specs.Syntax.{Op, Stmt, comp}
use Rattle.akl.specs.Configuration.{goal, member, guarded, Node, or, and, stmt, choice_box, Nodes, nil, cons, ◌+n◌, failure, Ctx, in_or, in_and, plug}
use Rattle.mem_words.specs.declared.Word.{Word}
use Rattle.mem_words.specs.declared.Word.TheVariants.{End, Place, Inner}
use Rattle.mem_sorts.specs.declared.Kind.TheVariants.{Or, And, Guarded, Member}
use Rattle.mem_sorts.specs.declared.Sort.TheVariants.{Comp, Locals, Store}
use Rattle.layout.specs.Layout.{stmt_words}
use Rattle.store_words.specs.Boxes.{box_kind, local_words, store_words, node_words, nodes_words}
use Rattle.store_words.specs.Contexts.{before, after}
use Rattle.store_words.proofs.Places.{plug_words}
use Rattle.rule_words.specs.Scans.{close, around}
use Rattle.rule_words.specs.Pieces.{cut, cat}
use Rattle.rule_words.proofs.Segments.{size, size_cat, seg_take, seg_drop, seg_cut, seg_take_on, seg_cut_on}
use Rattle.rule_words.proofs.Balance.{Balanced, Tree, seg_ends, seg_around, a_place}
use Rattle.rule_effects.specs.Effects.{behind, composed, effect_3, flattened, effect_14, effect_9, effect_10}
use Rattle.rule_effects.specs.Standing.{Stands}
use Rattle.rule_effects.proofs.Shapes.{stmt_tree, node_tree, nodes_balanced, head_balanced}
use Rattle.rule_effects.proofs.Frames.{E, AL, ES, stmt_seg, node_seg, nodes_seg, before_seg, plug_seg, stands_seg, side, or_side, and_side, before_and}

-- ---------------------------------------------------------------------------------------------
-- 3

composed_parts : (P A B Q W : List Word) (i a b : ℕ) → W ≡ cat (P ∷ (Place Member ∷ []) ∷ (Inner Comp ∷ []) ∷ A ∷ B ∷ E ∷ []) Q → i ≡ length P → a ≡ i + 2 + length A → b ≡ a + length B
    → composed W i a b ≡ cat (P ∷ (Place Member ∷ []) ∷ A ∷ (End ∷ Place Member ∷ []) ∷ B ∷ []) Q
unfolding composed
composed_parts P A B Q W i a b w hi ha hb =
    let M = Place Member ∷ [] in
    let C = Inner Comp ∷ [] in
    seg_take_on (P ∷ M ∷ []) _ W (i + 1) w (omega arith) _ ∙ ap (cat (P ∷ M ∷ []))
    (seg_cut_on (P ∷ M ∷ C ∷ []) (A ∷ []) _ W (i + 2) a w (omega arith) (omega arith) _ ∙ ap (cat (A ∷ (End ∷ Place Member ∷ []) ∷ []))
    (seg_cut_on (P ∷ M ∷ C ∷ A ∷ []) (B ∷ []) _ W a b w (omega arith) (omega arith) _ ∙ ap (cat (B ∷ []))
    (seg_drop (P ∷ M ∷ C ∷ A ∷ B ∷ E ∷ []) Q W (b + 1) w (omega arith))))

pub rule_3_words : (num : Name → ℕ) {χ : Ctx goal} {vs : List ℕ} {σ : constraint.Store} {l r : Nodes member} {a b : Stmt} {Z W : List Word} {i : ℕ} → Stands num (in_and χ vs σ l r) (stmt (comp a b)) Z W i
    → effect_3 W i ≡ node_words num (plug χ (and vs σ (l +n cons (stmt a) (cons (stmt b) r)))) Z
unfolding effect_3 after node_words stmt_words
rule_3_words num {χ} {vs} {σ} {l} {r} {a} {b} {Z} {W} {i} s =
    let P = before num (in_and χ vs σ l r) [] in
    let Q = nodes_words num r (End ∷ after num χ Z) in
    let A = stmt_words num a [] in
    let B = stmt_words num b [] in
    let M = Place Member ∷ [] in
    let C = Inner Comp ∷ [] in
    let w0 : W ≡ cat (P ∷ M ∷ C ∷ []) (stmt_words num a (stmt_words num b (End ∷ End ∷ Q))) = stands_seg num s in
    let w1 : W ≡ cat (P ∷ M ∷ C ∷ A ∷ []) (stmt_words num b (End ∷ End ∷ Q)) = w0 ∙ ap (cat (P ∷ M ∷ C ∷ [])) (stmt_seg num a _) in
    let w2 : W ≡ cat (P ∷ M ∷ C ∷ A ∷ B ∷ E ∷ []) (End ∷ Q) = w1 ∙ ap (cat (P ∷ M ∷ C ∷ A ∷ [])) (stmt_seg num b _) in
    let h = s.begins in
    let p : behind W (i + 2) ≡ i + 2 + length A = seg_ends (stmt_words num a) (stmt_tree num a) (P ∷ M ∷ C ∷ []) _ W (i + 2) w0 (omega arith) in
    let q : behind W (behind W (i + 2)) ≡ behind W (i + 2) + length B = seg_ends (stmt_words num b) (stmt_tree num b) (P ∷ M ∷ C ∷ A ∷ []) _ W (behind W (i + 2)) w1 (omega (arith, p)) in
    composed_parts P A B (End ∷ Q) W i _ _ w2 h p q
    ∙ sym (and_side num χ vs σ l r (cons (stmt a) (cons (stmt b) r)) Z
    ∙ ap (cat (P ∷ M ∷ [])) (stmt_seg num a _ ∙ ap (cat (A ∷ (End ∷ Place Member ∷ []) ∷ [])) (stmt_seg num b (End ∷ Q))))

-- ---------------------------------------------------------------------------------------------
-- 14

pub rule_14_words : (num : Name → ℕ) {χ : Ctx goal} {l r ns : Nodes goal} {Z W : List Word} {i : ℕ} → Stands num (in_or χ l r) (or ns) Z W i → effect_14 W i ≡ node_words num (plug χ (or (l +n (ns +n r)))) Z
unfolding effect_14 flattened after node_words ◌+n◌
rule_14_words num {χ} {l} {r} {ns} {Z} {W} {i} s =
    let P = before num (in_or χ l r) [] in
    let Q = nodes_words num r (End ∷ after num χ Z) in
    let N = nodes_words num ns [] in
    let O = Place Or ∷ [] in
    let w0 : W ≡ cat (P ∷ []) (node_words num (or ns) Q) = stands_seg num s in
    let w : W ≡ cat (P ∷ O ∷ N ∷ E ∷ []) Q = w0 ∙ ap (cat (P ∷ O ∷ [])) (nodes_seg num ns (End ∷ Q)) in
    let h = s.begins in
    let n : length (node_words num (or ns) []) ≡ suc (length N + 1) = ap suc (ap length (nodes_seg num ns (End ∷ [])) ∙ length-append N (End ∷ [])) in
    let p : close W i + 1 ≡ i + length (node_words num (or ns) []) = seg_ends (node_words num (or ns)) (node_tree num (or ns)) (P ∷ []) _ W i w0 (omega arith) in
    seg_take_on (P ∷ []) _ W i w (omega arith) _ ∙ ap (cat (P ∷ []))
    (seg_cut_on (P ∷ O ∷ []) (N ∷ []) _ W (i + 1) (close W i) w (omega arith) (omega (arith, p, n)) _ ∙ ap (cat (N ∷ []))
    (seg_drop (P ∷ O ∷ N ∷ E ∷ []) Q W (close W i + 1) w (omega (arith, p, n))))
    ∙ sym (or_side num χ l r (ns +n r) Z ∙ ap (cat (P ∷ [])) (side num ns r (End ∷ after num χ Z) ∙ nodes_seg num ns Q))

-- ---------------------------------------------------------------------------------------------
-- 9 and 10

failed : (num : Name → ℕ) (χ : Ctx goal) (n : Node goal) (Z W : List Word) (i : ℕ) → W ≡ before num χ [] ++ node_words num n (after num χ Z) → i ≡ length (before num χ []) → effect_9 W i ≡ node_words num (plug χ failure) Z
unfolding effect_9 node_words
failed num χ n Z W i w0 h =
    let P = before num χ [] in
    let N = node_words num n [] in
    let w : W ≡ cat (P ∷ N ∷ []) (after num χ Z) = w0 ∙ ap (cat (P ∷ [])) (node_seg num n (after num χ Z)) in
    let p : behind W i ≡ i + length N = seg_ends (node_words num n) (node_tree num n) (P ∷ []) _ W i w0 (omega arith) in
    seg_take_on (P ∷ []) _ W i w (omega arith) _ ∙ ap (cat (P ∷ (Place Or ∷ End ∷ []) ∷ [])) (seg_drop (P ∷ N ∷ []) _ W (behind W i) w (omega (arith, p)))
    ∙ sym (plug_seg num χ failure Z)

pub rule_9_words : (num : Name → ℕ) {χ : Ctx goal} {vs : List ℕ} {σ : constraint.Store} {ms : Nodes member} {Z W : List Word} {i : ℕ} → Stands num χ (and vs σ ms) Z W i → effect_9 W i ≡ node_words num (plug χ failure) Z
rule_9_words num {χ} {vs} {σ} {ms} {Z} {W} {i} s = failed num χ (and vs σ ms) Z W i (stands_seg num s) s.begins

-- the and-box around a member
pub and_around : (num : Name → ℕ) {χ : Ctx goal} {vs : List ℕ} {σ : constraint.Store} {l r : Nodes member} {n : Node member} {Z W : List Word} {i : ℕ} → Stands num (in_and χ vs σ l r) n Z W i → around W i ≡ length (before num χ [])
unfolding after before
and_around num {χ} {vs} {σ} {l} {r} {n} {Z} {W} {i} s =
    let P = before num χ [] in
    let F : List Word → List Word = λ u. Inner Locals ∷ local_words vs (End ∷ Inner Store ∷ store_words num σ (End ∷ nodes_words num l u)) in
    let x = node_words num n (nodes_words num r (End ∷ after num χ Z)) in
    let b : Balanced F = head_balanced num vs σ (nodes_words num l) (nodes_balanced num l) in
    let f : (u : List Word) → before num (in_and χ vs σ l r) u ≡ P ++ (Place And ∷ F u) = λ u. before_seg num χ (Place And ∷ F u) in
    let w : W ≡ cat (P ∷ []) (Place And ∷ F x) = s.whole ∙ plug_words num (in_and χ vs σ l r) n Z ∙ f x in
    let m = s.begins ∙ ap length (f []) ∙ length-append P (Place And ∷ F []) in
    seg_around (Place And) F (a_place And) b (P ∷ []) x W i w (omega (arith, m)) ∙ omega arith

pub rule_10_words : (num : Name → ℕ) {χ : Ctx goal} {vs : List ℕ} {σ : constraint.Store} {l r : Nodes member} {n : Node member} {Z W : List Word} {i : ℕ} → Stands num (in_and χ vs σ l r) n Z W i → effect_10 W i ≡ node_words num (plug χ failure) Z
unfolding effect_10 plug
rule_10_words num {χ} {vs} {σ} {l} {r} {n} {Z} {W} {i} s = failed num χ (and vs σ (l +n cons n r)) Z W (around W i) (s.whole ∙ plug_seg num χ (and vs σ (l +n cons n r)) Z) (and_around num s)
