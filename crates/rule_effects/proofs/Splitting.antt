-- Rule 12: an and-box is split by a choice-box in it.
use mathlib.Core.Path.{◌≡◌, refl, ap, ap₂, sym, ◌∙◌}
use mathlib.Core.List.{List, [], ◌∷◌, ◌++◌}
use Prim.Native.Nat.{ℕ, suc, ◌+◌}
use native.Mathlib.Omega.{arith}
use lib.ListN.{length, take, drop, length-append}
use Rattle.constraint.specs.Constraint as constraint
use Rattle.akl.specs.Base.{Name}
use Rattle.akl.specs.Syntax.{Op, Stmt}
use Rattle.akl.specs.Configuration.{goal, member, guarded, Node, or, and, choice_box, guard, Nodes, nil, cons, ◌+n◌, one, Ctx, in_and, plug}
use Rattle.mem_words.specs.declared.Word.{Word}
use Rattle.mem_words.specs.declared.Word.TheVariants.{End, Place}
use Rattle.mem_sorts.specs.declared.Kind.TheVariants.{Or, And}
use Rattle.store_words.specs.Boxes.{box_kind, node_words, nodes_words}
use Rattle.store_words.specs.Contexts.{before, after}
use Rattle.store_words.proofs.Places.{plug_words}
use Rattle.rule_words.specs.Scans.{close, around}
use Rattle.rule_words.specs.Pieces.{cut, cat}
use Rattle.rule_words.proofs.Segments.{size, size_cat, seg_take, seg_drop, seg_cut, seg_take_on, seg_cut_on}
use Rattle.rule_words.proofs.Balance.{seg_ends}
use Rattle.rule_effects.specs.Effects.{behind, parted, effect_12}
use Rattle.rule_effects.specs.Standing.{Stands}
use Rattle.rule_effects.proofs.Shapes.{node_tree}
use Rattle.rule_effects.proofs.Frames.{E, node_seg, nodes_seg, plug_seg, head, head_front, before_head, and_head, closes_at}
use Rattle.rule_effects.proofs.Members.{and_around}

parted_parts : (P H K G R M Q W : List Word) (i a q e j : ℕ) → length K ≡ 1 → W ≡ cat (P ∷ H ∷ K ∷ G ∷ R ∷ E ∷ M ∷ E ∷ []) Q
    → a ≡ length P → i ≡ a + length H → q ≡ i + 1 + length G → e ≡ q + length R → j ≡ e + 1 + length M + 1
    → parted W i a q e j ≡ cat (P ∷ (Place Or ∷ []) ∷ H ∷ K ∷ G ∷ E ∷ M ∷ E ∷ H ∷ K ∷ R ∷ E ∷ M ∷ E ∷ E ∷ []) Q
unfolding parted
parted_parts P H K G R M Q W i a q e j k w ha hi hq he hj =
    seg_take_on (P ∷ []) _ W a w (omega arith) _ ∙ ap (cat (P ∷ (Place Or ∷ []) ∷ []))
    (seg_cut_on (P ∷ []) (H ∷ K ∷ G ∷ []) _ W a q w (omega arith) (omega arith) _ ∙ ap (cat (H ∷ K ∷ G ∷ []))
    (seg_cut_on (P ∷ H ∷ K ∷ G ∷ R ∷ []) (E ∷ M ∷ E ∷ []) _ W e j w (omega arith) (omega arith) _ ∙ ap (cat (E ∷ M ∷ E ∷ []))
    (seg_cut_on (P ∷ []) (H ∷ K ∷ []) _ W a (i + 1) w (omega arith) (omega arith) _ ∙ ap (cat (H ∷ K ∷ []))
    (seg_cut_on (P ∷ H ∷ K ∷ G ∷ []) (R ∷ E ∷ M ∷ E ∷ []) _ W q j w (omega arith) (omega arith) _ ∙ ap (cat (R ∷ E ∷ M ∷ E ∷ E ∷ []))
    (seg_drop (P ∷ H ∷ K ∷ G ∷ R ∷ E ∷ M ∷ E ∷ []) Q W j w (omega arith))))))

-- an and-box with a choice-box in it
boxed : (num : Name → ℕ) (vs : List ℕ) (σ : constraint.Store) (l r : Nodes member) (op : Op) (gs : Nodes guarded) (x : List Word)
    → node_words num (and vs σ (l +n cons (choice_box op gs) r)) x ≡ cat ((Place And ∷ head num vs σ l []) ∷ (Place (box_kind op) ∷ []) ∷ nodes_words num gs [] ∷ E ∷ nodes_words num r [] ∷ E ∷ []) x
unfolding node_words
boxed num vs σ l r op gs x =
    and_head num vs σ l (cons (choice_box op gs) r) x
    ∙ ap (cat ((Place And ∷ head num vs σ l []) ∷ (Place (box_kind op) ∷ []) ∷ [])) (nodes_seg num gs _ ∙ ap (cat (nodes_words num gs [] ∷ E ∷ [])) (nodes_seg num r (End ∷ x)))

pub rule_12_words : (num : Name → ℕ) {χ : Ctx goal} {vs : List ℕ} {σ : constraint.Store} {l r : Nodes member} {op : Op} {g : Node guarded} {gs : Nodes guarded} {Z W : List Word} {i : ℕ} → Stands num (in_and χ vs σ l r) (choice_box op (cons g gs)) Z W i
    → effect_12 W i ≡ node_words num (plug χ (or (cons (and vs σ (l +n cons (choice_box op (one g)) r)) (one (and vs σ (l +n cons (choice_box op gs) r)))))) Z
unfolding effect_12 node_words after plug
rule_12_words num {χ} {vs} {σ} {l} {r} {op} {g} {gs} {Z} {W} {i} s =
    let P = before num χ [] in
    let Q = after num χ Z in
    let H = Place And ∷ head num vs σ l [] in
    let K = Place (box_kind op) ∷ [] in
    let G = node_words num g [] in
    let R = nodes_words num gs [] in
    let M = nodes_words num r [] in
    let B = and vs σ (l +n cons (choice_box op (cons g gs)) r) in
    let both : (x : List Word) → nodes_words num (cons g gs) x ≡ cat (G ∷ R ∷ []) x = λ x. node_seg num g (nodes_words num gs x) ∙ ap (cat (G ∷ [])) (nodes_seg num gs x) in
    let wb : W ≡ cat (P ∷ []) (node_words num B Q) = s.whole ∙ plug_seg num χ B Z in
    let w0 : W ≡ cat (P ∷ H ∷ []) (node_words num (choice_box op (cons g gs)) (nodes_words num r (End ∷ Q))) = wb ∙ ap (cat (P ∷ [])) (and_head num vs σ l (cons (choice_box op (cons g gs)) r) Q) in
    let w1 : W ≡ cat (P ∷ H ∷ K ∷ G ∷ R ∷ []) (End ∷ nodes_words num r (End ∷ Q)) = w0 ∙ ap (cat (P ∷ H ∷ K ∷ [])) (both _) in
    let w : W ≡ cat (P ∷ H ∷ K ∷ G ∷ R ∷ E ∷ M ∷ E ∷ []) Q = w1 ∙ ap (cat (P ∷ H ∷ K ∷ G ∷ R ∷ E ∷ [])) (nodes_seg num r (End ∷ Q)) in
    let h = s.begins ∙ ap length (before_head num χ vs σ l r []) ∙ length-append P H in
    let a : around W i ≡ length P = and_around num s in
    let q = seg_ends (node_words num g) (node_tree num g) (P ∷ H ∷ K ∷ []) _ W (i + 1) w0 (omega (arith, h)) in
    let e = closes_at num (choice_box op (cons g gs)) (P ∷ H ∷ []) (P ∷ H ∷ K ∷ G ∷ R ∷ []) (nodes_words num r (End ∷ Q)) W i w0 w1 (omega (arith, h)) in
    let j = closes_at num B (P ∷ []) (P ∷ H ∷ K ∷ G ∷ R ∷ E ∷ M ∷ []) Q W (around W i) wb w (omega (arith, a)) in
    parted_parts P H K G R M Q W i _ _ _ _ refl w a (omega (arith, a, h)) q (omega (arith, q, e, h)) (omega (arith, e, j))
    ∙ sym (plug_seg num χ (or (cons (and vs σ (l +n cons (choice_box op (one g)) r)) (one (and vs σ (l +n cons (choice_box op gs) r))))) Z
    ∙ ap (cat (P ∷ (Place Or ∷ []) ∷ [])) (boxed num vs σ l r op (one g) _ ∙ ap (cat (H ∷ K ∷ G ∷ E ∷ M ∷ E ∷ [])) (boxed num vs σ l r op gs (End ∷ Q))))
