-- The words of a configuration around a node, as segments.
use mathlib.Core.Path.{◌≡◌, refl, ap, ap₂, sym, ◌∙◌}
use mathlib.Core.List.{List, [], ◌∷◌, ◌++◌}
use Prim.Native.Nat.{ℕ, ◌+◌}
use native.Mathlib.Omega.{arith}
use lib.ListN.{length, get_or, length-append}
use lib.Seq.{get_or-append_seam}
use Rattle.constraint.specs.Constraint as constraint
use Rattle.akl.specs.Base.{Name}
use Rattle.akl.specs.Syntax.{Op, Stmt}
use Rattle.akl.specs.Configuration as akl
use Rattle.akl.specs.Configuration.{goal, member, guarded, Node, or, and, stmt, choice_box, guard, Nodes, nil, cons, ◌+n◌, Ctx, top, in_or, in_and, in_choice, in_guard, plug}
use Rattle.mem_words.specs.declared.Word.{Word}
use Rattle.mem_words.specs.declared.Word.TheVariants.{End, Place, Inner, Bad}
use Rattle.mem_sorts.specs.declared.Kind.TheVariants.{Or, And, Guarded, Member}
use Rattle.mem_sorts.specs.declared.Sort.TheVariants.{Locals, Store}
use Rattle.layout.specs.Layout.{stmt_words}
use Rattle.store_words.specs.Boxes.{box_kind, local_words, store_words, node_words, nodes_words}
use Rattle.store_words.specs.Contexts.{before, after}
use Rattle.store_words.proofs.Places.{plug_words, before_front}
use Rattle.rule_words.specs.Pieces.{cat}
use Rattle.rule_words.proofs.Segments.{join, size, size_cat, cat_join, size_join}
use Rattle.rule_words.specs.Scans.{close}
use Rattle.rule_words.proofs.Balance.{Balanced, Tree, seg_ends}
use Rattle.rule_effects.specs.Standing.{Stands}
use Rattle.rule_effects.proofs.Shapes.{locals_balanced, store_balanced, nodes_balanced, head_balanced, node_tree, stmt_tree}

-- constant segments
abbrev pub E : List Word
E = End ∷ []

abbrev pub AL : List Word
AL = Place And ∷ Inner Locals ∷ []

abbrev pub ES : List Word
ES = End ∷ Inner Store ∷ []

-- where a bracket closes, by what stands behind its End
pub closes_tree : (G : List Word → List Word) → Tree G → (X Y : List (List Word)) (Q W : List Word) (c : ℕ) → W ≡ cat X (G Q) → W ≡ cat Y (End ∷ Q) → c ≡ size X → close W c ≡ size Y
closes_tree G t X Y Q W c w y h =
    let e = seg_ends G t X Q W c w h in
    let a = ap length w ∙ size_cat X (G Q) in
    let b = ap length (t.balanced.front Q) ∙ length-append (G []) Q in
    let d = ap length y ∙ size_cat Y (End ∷ Q) in
    omega (arith, e, a, b, d)

-- the word behind segments
pub seg_word : (X : List (List Word)) (w : Word) (Z W : List Word) (i : ℕ) → W ≡ cat X (w ∷ Z) → i ≡ size X → get_or W i Bad ≡ w
seg_word X w Z W i e h = ap₂ (λ (k : ℕ) (l : List Word). get_or l k Bad) (h ∙ sym (size_join X)) (e ∙ cat_join X (w ∷ Z)) ∙ get_or-append_seam (join X) w Z Bad

module _ (num : Name → ℕ) where
  -- what a function writes, as a segment
  pub stmt_seg : (s : Stmt) (x : List Word) → stmt_words num s x ≡ stmt_words num s [] ++ x
  stmt_seg s x = (stmt_tree num s).balanced.front x

  pub node_seg : {k : akl.Kind} (n : Node k) (x : List Word) → node_words num n x ≡ node_words num n [] ++ x
  node_seg n x = (node_tree num n).balanced.front x

  pub nodes_seg : {k : akl.Kind} (ns : Nodes k) (x : List Word) → nodes_words num ns x ≡ nodes_words num ns [] ++ x
  nodes_seg ns x = (nodes_balanced num ns).front x

  pub before_seg : {k : akl.Kind} (χ : Ctx k) (x : List Word) → before num χ x ≡ before num χ [] ++ x
  before_seg χ x = before_front num χ [] x

  -- a node in its context
  pub plug_seg : {k : akl.Kind} (χ : Ctx k) (n : Node k) (Z : List Word) → node_words num (plug χ n) Z ≡ before num χ [] ++ node_words num n (after num χ Z)
  plug_seg χ n Z = plug_words num χ n Z ∙ before_seg χ (node_words num n (after num χ Z))

  pub stands_seg : {k : akl.Kind} {χ : Ctx k} {n : Node k} {Z W : List Word} {i : ℕ} → Stands num χ n Z W i → W ≡ before num χ [] ++ node_words num n (after num χ Z)
  stands_seg {k} {χ} {n} {Z} s = s.whole ∙ plug_seg χ n Z

  pub side : {k : akl.Kind} (a b : Nodes k) (r : List Word) → nodes_words num (a +n b) r ≡ nodes_words num a (nodes_words num b r)
  unfolding nodes_words ◌+n◌
  side nil b r = refl
  side (cons n a) b r = ap (node_words num n) (side a b r)

  -- the end of a box, with m where a node stood and what followed it
  pub or_side : (χ : Ctx goal) (l r m : Nodes goal) (Z : List Word) → node_words num (plug χ (or (l +n m))) Z ≡ before num (in_or χ l r) [] ++ nodes_words num m (End ∷ after num χ Z)
  unfolding before node_words
  or_side χ l r m Z = plug_words num χ (or (l +n m)) Z ∙ ap (λ (u : List Word). before num χ (Place Or ∷ u)) (side l m (End ∷ after num χ Z)) ∙ before_seg (in_or χ l r) (nodes_words num m (End ∷ after num χ Z))

  pub and_side : (χ : Ctx goal) (vs : List ℕ) (σ : constraint.Store) (l r m : Nodes member) (Z : List Word) → node_words num (plug χ (and vs σ (l +n m))) Z ≡ before num (in_and χ vs σ l r) [] ++ nodes_words num m (End ∷ after num χ Z)
  unfolding before node_words
  and_side χ vs σ l r m Z =
      plug_words num χ (and vs σ (l +n m)) Z
      ∙ ap (λ (u : List Word). before num χ (Place And ∷ Inner Locals ∷ local_words vs (End ∷ Inner Store ∷ store_words num σ (End ∷ u)))) (side l m (End ∷ after num χ Z))
      ∙ before_seg (in_and χ vs σ l r) (nodes_words num m (End ∷ after num χ Z))

  pub choice_side : (χ : Ctx member) (op : Op) (l r m : Nodes guarded) (Z : List Word) → node_words num (plug χ (choice_box op (l +n m))) Z ≡ before num (in_choice χ op l r) [] ++ nodes_words num m (End ∷ after num χ Z)
  unfolding before node_words
  choice_side χ op l r m Z =
      plug_words num χ (choice_box op (l +n m)) Z ∙ ap (λ (u : List Word). before num χ (Place (box_kind op) ∷ u)) (side l m (End ∷ after num χ Z)) ∙ before_seg (in_choice χ op l r) (nodes_words num m (End ∷ after num χ Z))

  -- what stands before a node, with what it stands in
  pub before_choice : (χ : Ctx member) (op : Op) (l r : Nodes guarded) (x : List Word) → before num (in_choice χ op l r) x ≡ cat (before num χ [] ∷ (Place (box_kind op) ∷ []) ∷ nodes_words num l [] ∷ []) x
  unfolding before
  before_choice χ op l r x = before_seg χ (Place (box_kind op) ∷ nodes_words num l x) ∙ ap (λ (u : List Word). before num χ [] ++ (Place (box_kind op) ∷ u)) (nodes_seg l x)

  -- an and-box's words before its members
  pub head_seg : (vs : List ℕ) (σ : constraint.Store) (x : List Word) → local_words vs (End ∷ Inner Store ∷ store_words num σ (End ∷ x)) ≡ cat (local_words vs [] ∷ ES ∷ store_words num σ [] ∷ E ∷ []) x
  head_seg vs σ x = (locals_balanced vs).front (End ∷ Inner Store ∷ store_words num σ (End ∷ x)) ∙ ap (λ (u : List Word). local_words vs [] ++ (End ∷ Inner Store ∷ u)) ((store_balanced num σ).front (End ∷ x))

  pub before_and : (χ : Ctx goal) (vs : List ℕ) (σ : constraint.Store) (l r : Nodes member) (x : List Word)
      → before num (in_and χ vs σ l r) x ≡ cat (before num χ [] ∷ AL ∷ local_words vs [] ∷ ES ∷ store_words num σ [] ∷ E ∷ nodes_words num l [] ∷ []) x
  unfolding before
  before_and χ vs σ l r x =
      before_seg χ (Place And ∷ Inner Locals ∷ local_words vs (End ∷ Inner Store ∷ store_words num σ (End ∷ nodes_words num l x)))
      ∙ ap (λ (u : List Word). before num χ [] ++ (Place And ∷ Inner Locals ∷ u)) (head_seg vs σ (nodes_words num l x))
      ∙ ap (λ (u : List Word). cat (before num χ [] ∷ AL ∷ local_words vs [] ∷ ES ∷ store_words num σ [] ∷ E ∷ []) u) (nodes_seg l x)

  -- where a box closes, by what stands behind its End
  pub closes_at : {k : akl.Kind} (m : Node k) (X Y : List (List Word)) (Q W : List Word) (c : ℕ) → W ≡ cat X (node_words num m Q) → W ≡ cat Y (End ∷ Q) → c ≡ size X → close W c ≡ size Y
  closes_at m X Y Q W c w y h = closes_tree (node_words num m) (node_tree num m) X Y Q W c w y h

  -- the box around a member or a guarded goal, up to it
  abbrev pub head : List ℕ → constraint.Store → Nodes member → List Word → List Word
  head vs σ l u = Inner Locals ∷ local_words vs (End ∷ Inner Store ∷ store_words num σ (End ∷ nodes_words num l u))

  pub head_is_balanced : (vs : List ℕ) (σ : constraint.Store) (l : Nodes member) → Balanced (head vs σ l)
  head_is_balanced vs σ l = head_balanced num vs σ (nodes_words num l) (nodes_balanced num l)

  pub head_front : (vs : List ℕ) (σ : constraint.Store) (l : Nodes member) (u : List Word) → Place And ∷ head vs σ l u ≡ (Place And ∷ head vs σ l []) ++ u
  head_front vs σ l u = ap (λ (x : List Word). Place And ∷ x) ((head_is_balanced vs σ l).front u)

  pub before_head : (χ : Ctx goal) (vs : List ℕ) (σ : constraint.Store) (l r : Nodes member) (u : List Word) → before num (in_and χ vs σ l r) u ≡ before num χ [] ++ (Place And ∷ head vs σ l u)
  unfolding before
  before_head χ vs σ l r u = before_seg χ (Place And ∷ head vs σ l u)

  pub and_head : (vs : List ℕ) (σ : constraint.Store) (l m : Nodes member) (x : List Word) → node_words num (and vs σ (l +n m)) x ≡ (Place And ∷ head vs σ l []) ++ nodes_words num m (End ∷ x)
  unfolding node_words
  and_head vs σ l m x = ap (λ (u : List Word). Place And ∷ Inner Locals ∷ local_words vs (End ∷ Inner Store ∷ store_words num σ (End ∷ u))) (side l m (End ∷ x)) ∙ head_front vs σ l (nodes_words num m (End ∷ x))
