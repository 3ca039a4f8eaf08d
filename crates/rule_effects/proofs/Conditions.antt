-- The tests of words are those of the rules.
use mathlib.Core.Path.{◌≡◌, refl, ap, ap₂, sym, ◌∙◌}
use mathlib.Core.Bool.{Bool, true, false, ◌&&◌, not}
use mathlib.Core.List.{List, [], ◌∷◌, ◌++◌}
use Prim.Native.Nat.{ℕ, suc, ◌+◌, ◌≤◌}
use native.Mathlib.Omega.{arith}
use lib.Dec.{eqb}
use lib.ListN.{length, get_or, length-append}
use borrow.Author.Tests.{eq-eqb, ne_eqb}
use Rattle.constraint.specs.Constraint as constraint
use Rattle.akl.specs.Base.{Name, is_some}
use Rattle.akl.specs.Syntax.{Op, wait, cond, commit, Stmt, hide}
use Rattle.akl.specs.Rules.{empty, non_empty, solved_guard, is_failure, is_wait, is_cond, is_commit}
use Rattle.akl.specs.Configuration as akl
use Rattle.akl.specs.Configuration.{goal, member, guarded, Node, or, and, stmt, choice_box, guard, Nodes, nil, cons, ◌+n◌, Ctx, in_choice, plug}
use Rattle.mem_words.specs.declared.Word.{Word}
use Rattle.mem_words.specs.declared.Word.TheVariants.{End, Num, Place, Inner, Bad}
use Rattle.mem_sorts.specs.declared.Kind.TheVariants.{Or, And, Guarded, Member, Wait, Cond, Commit}
use Rattle.mem_sorts.specs.declared.Sort.TheVariants.{Hide}
use Rattle.mem_sorts.specs.Shapes.{kind_no}
use Rattle.layout.specs.Layout.{stmt_words}
use Rattle.store_words.specs.Boxes.{box_kind, local_words, store_words, node_words, nodes_words}
use Rattle.store_words.specs.Contexts.{before, after, kind_of}
use Rattle.store_words.proofs.Places.{node_opens, plug_words}
use Rattle.rule_words.specs.Scans.{closes, around}
use Rattle.rule_words.specs.Pieces.{cat}
use Rattle.rule_words.proofs.Segments.{join, size, cat_join, size_join, size_cat}
use Rattle.rule_words.proofs.Balance.{seg_ends}
use Rattle.rule_effects.specs.Effects.{behind, store_end, number_in, fresh_4}
use Rattle.rule_effects.specs.Conditions.{ends_at, kind_in, kind_at, solved_at, failure_at, parts_at, right_at, left_at, one_at, more_at}
use Rattle.rule_effects.specs.Standing.{Stands}
use Rattle.rule_effects.proofs.Shapes.{node_tree}
use Rattle.rule_effects.proofs.Frames.{E, AL, ES, node_seg, nodes_seg, stands_seg, seg_word, head_seg, plug_seg, before_choice}
use Rattle.rule_effects.proofs.Guarded.{choice_around}
use Rattle.rule_effects.proofs.Stores.{heads}

-- ---------------------------------------------------------------------------------------------
-- Among segments.

-- nodes that are followed by an End
pub ends_nodes : (num : Name → ℕ) {k : akl.Kind} (ns : Nodes k) (X : List (List Word)) (Q W : List Word) (j : ℕ) → W ≡ cat X (nodes_words num ns (End ∷ Q)) → j ≡ size X → ends_at W j ≡ empty ns
unfolding ends_at nodes_words
ends_nodes num nil X Q W j w h = ap (λ (v : Word). closes v 0) (seg_word X End Q W j w h)
ends_nodes num (cons n ns) X Q W j w h =
    let o = node_opens num n (nodes_words num ns (End ∷ Q)) in
    ap (λ (v : Word). closes v 0) (seg_word X (Place (kind_of n)) o.0 W j (w ∙ ap (cat X) o.1) h)

-- the kind of a node
pub kind_node : (num : Name → ℕ) {k : akl.Kind} (n : Node k) (X : List (List Word)) (Q W : List Word) (j : ℕ) → W ≡ cat X (node_words num n Q) → j ≡ size X → kind_in (get_or W j Bad) ≡ kind_no (kind_of n)
kind_node num n X Q W j w h = let o = node_opens num n Q in ap kind_in (seg_word X (Place (kind_of n)) o.0 W j (w ∙ ap (cat X) o.1) h)

module _ (num : Name → ℕ) (X : List (List Word)) (Q W : List Word) (g : ℕ) where
  pub solved_node : (n : Node goal) → W ≡ cat X (node_words num n Q) → g ≡ size X → solved_at W g ≡ is_some (solved_guard n)
  unfolding solved_at kind_at kind_of node_words
  solved_node (or ns) w h = ap (λ (k : ℕ). eqb k 1 && ends_at W (store_end W g + 1)) (kind_node num (or ns) X Q W g w h)
  solved_node (and vs σ ms) w h =
      let P = join X in
      let U = local_words vs [] in
      let S = store_words num σ [] in
      let p : g ≡ length P = h ∙ sym (size_join X) in
      let w1 : W ≡ cat (P ∷ AL ∷ U ∷ ES ∷ S ∷ E ∷ []) (nodes_words num ms (End ∷ Q)) = w ∙ cat_join X _ ∙ ap (cat (P ∷ AL ∷ [])) (head_seg num vs σ _) in
      let e = (heads num vs σ P _ W g w1 p).1 in
      ap₂ (λ (k : ℕ) (b : Bool). eqb k 1 && b) (kind_node num (and vs σ ms) X Q W g w h) (ends_nodes num ms (P ∷ AL ∷ U ∷ ES ∷ S ∷ E ∷ []) Q W (store_end W g + 1) w1 (omega (arith, e)))
      ∙ go ms
    where
      go : (ms : Nodes member) → empty ms ≡ is_some (solved_guard (and vs σ ms))
      go nil = refl
      go (cons m ms) = refl

  pub failure_node : (n : Node goal) → W ≡ cat X (node_words num n Q) → g ≡ size X → failure_at W g ≡ is_failure n
  unfolding failure_at kind_at kind_of node_words
  failure_node (or ns) w h =
      ap₂ (λ (k : ℕ) (b : Bool). eqb k 0 && b) (kind_node num (or ns) X Q W g w h) (ends_nodes num ns (join X ∷ (Place Or ∷ []) ∷ []) Q W (g + 1) (w ∙ cat_join X _) (omega (arith, h, size_join X)))
      ∙ go ns
    where
      go : (ns : Nodes goal) → empty ns ≡ is_failure (or ns)
      go nil = refl
      go (cons n ns) = refl
  failure_node (and vs σ ms) w h = ap (λ (k : ℕ). eqb k 0 && ends_at W (g + 1)) (kind_node num (and vs σ ms) X Q W g w h)

-- an or-box that is not empty
pub has_parts : Node goal → Bool
has_parts (or ns) = non_empty ns
has_parts (and vs σ ms) = false

pub parts_node : (num : Name → ℕ) (X : List (List Word)) (Q W : List Word) (g : ℕ) (n : Node goal) → W ≡ cat X (node_words num n Q) → g ≡ size X → parts_at W g ≡ has_parts n
unfolding parts_at kind_at kind_of node_words has_parts
parts_node num X Q W g (or ns) w h =
    ap₂ (λ (k : ℕ) (b : Bool). eqb k 0 && not b) (kind_node num (or ns) X Q W g w h) (ends_nodes num ns (join X ∷ (Place Or ∷ []) ∷ []) Q W (g + 1) (w ∙ cat_join X _) (omega (arith, h, size_join X)))
parts_node num X Q W g (and vs σ ms) w h = ap (λ (k : ℕ). eqb k 0 && not (ends_at W (g + 1))) (kind_node num (and vs σ ms) X Q W g w h)

-- ---------------------------------------------------------------------------------------------
-- A guarded goal, its guard and its choice-box.

left_test : (num : Name → ℕ) (op : Op) (P W : List Word) (i : ℕ) (ns : Nodes guarded) → i ≡ size (P ∷ (Place (box_kind op) ∷ []) ∷ nodes_words num ns [] ∷ []) + 0 → around W i ≡ length P → not (eqb (around W i + 1) i) ≡ non_empty ns
unfolding nodes_words
left_test num op P W i nil m a = ap not (eq-eqb (around W i + 1) i (omega (arith, m, a)))
left_test num op P W i (cons n ns) m a =
    let o = node_opens num n (nodes_words num ns []) in
    ap not (ne_eqb (around W i + 1) i (λ e. omega (arith, m, a, e, ap length o.1)))

module _ (num : Name → ℕ) {χ : Ctx member} {op : Op} {l r : Nodes guarded} {g : Node goal} {b : Stmt} {Z W : List Word} {i : ℕ} where
  pub guard_solved : Stands num (in_choice χ op l r) (guard g b) Z W i → solved_at W (i + 1) ≡ is_some (solved_guard g)
  unfolding node_words
  guard_solved s = let h = s.begins in solved_node num (before num (in_choice χ op l r) [] ∷ (Place Guarded ∷ []) ∷ []) _ W (i + 1) g (stands_seg num s) (omega (arith, h))

  pub guard_failed : Stands num (in_choice χ op l r) (guard g b) Z W i → failure_at W (i + 1) ≡ is_failure g
  unfolding node_words
  guard_failed s = let h = s.begins in failure_node num (before num (in_choice χ op l r) [] ∷ (Place Guarded ∷ []) ∷ []) _ W (i + 1) g (stands_seg num s) (omega (arith, h))

  pub guard_parted : Stands num (in_choice χ op l r) (guard g b) Z W i → parts_at W (i + 1) ≡ has_parts g
  unfolding node_words
  guard_parted s = let h = s.begins in parts_node num (before num (in_choice χ op l r) [] ∷ (Place Guarded ∷ []) ∷ []) _ W (i + 1) g (stands_seg num s) (omega (arith, h))

  pub right_of : Stands num (in_choice χ op l r) (guard g b) Z W i → right_at W i ≡ non_empty r
  unfolding right_at after
  right_of s =
      let P = before num (in_choice χ op l r) [] in
      let G = node_words num (guard g b) [] in
      let h = s.begins in
      let e = seg_ends (node_words num (guard g b)) (node_tree num (guard g b)) (P ∷ []) _ W i (stands_seg num s) (omega (arith, h)) in
      ap not (ends_nodes num r (P ∷ G ∷ []) (after num χ Z) W (behind W i) (stands_seg num s ∙ ap (cat (P ∷ [])) (node_seg num (guard g b) _)) (omega (arith, h, e)))

  pub left_of : Stands num (in_choice χ op l r) (guard g b) Z W i → left_at W i ≡ non_empty l
  unfolding left_at nodes_words
  left_of s =
      let P = before num χ [] in
      let K = Place (box_kind op) ∷ [] in
      let a : around W i ≡ length P = choice_around num s in
      let m = s.begins ∙ ap length (before_choice num χ op l r []) ∙ size_cat (P ∷ K ∷ nodes_words num l [] ∷ []) [] in
      left_test num op (before num χ []) W i l m a

  pub operator_of : Stands num (in_choice χ op l r) (guard g b) Z W i → kind_in (get_or W (around W i) Bad) ≡ kind_no (box_kind op)
  unfolding plug kind_of
  operator_of s = let a = choice_around num s in kind_node num (choice_box op (l +n cons (guard g b) r)) (before num χ [] ∷ []) (after num χ Z) W (around W i) (s.whole ∙ plug_seg num χ (choice_box op (l +n cons (guard g b) r)) Z) (omega (arith, a))

-- ---------------------------------------------------------------------------------------------
-- A choice-box that is a member.

pub has_one : Nodes guarded → Bool
has_one nil = false
has_one (cons g gs) = empty gs

pub has_more : Nodes guarded → Bool
has_more nil = false
has_more (cons g gs) = non_empty gs

module _ (num : Name → ℕ) {χ : Ctx member} {op : Op} {Z W : List Word} {i : ℕ} where
  within : {gs : Nodes guarded} → Stands num χ (choice_box op gs) Z W i → W ≡ cat (before num χ [] ∷ (Place (box_kind op) ∷ []) ∷ []) (nodes_words num gs (End ∷ after num χ Z))
  unfolding node_words
  within s = stands_seg num s

  pub box_empty : {gs : Nodes guarded} → Stands num χ (choice_box op gs) Z W i → ends_at W (i + 1) ≡ empty gs
  box_empty {gs} s = let h = s.begins in ends_nodes num gs (before num χ [] ∷ (Place (box_kind op) ∷ []) ∷ []) (after num χ Z) W (i + 1) (within s) (omega (arith, h))

  pub box_operator : {gs : Nodes guarded} → Stands num χ (choice_box op gs) Z W i → kind_in (get_or W i Bad) ≡ kind_no (box_kind op)
  unfolding kind_of
  box_operator {gs} s = let h = s.begins in kind_node num (choice_box op gs) (before num χ [] ∷ []) (after num χ Z) W i (stands_seg num s) (omega (arith, h))

  second : {g : Node guarded} {gs : Nodes guarded} → Stands num χ (choice_box op (cons g gs)) Z W i → ends_at W (behind W (i + 1)) ≡ empty gs
  unfolding nodes_words
  second {g} {gs} s =
      let P = before num χ [] in
      let K = Place (box_kind op) ∷ [] in
      let h = s.begins in
      let e = seg_ends (node_words num g) (node_tree num g) (P ∷ K ∷ []) _ W (i + 1) (within s) (omega (arith, h)) in
      ends_nodes num gs (P ∷ K ∷ node_words num g [] ∷ []) (after num χ Z) W (behind W (i + 1)) (within s ∙ ap (cat (P ∷ K ∷ [])) (node_seg num g _)) (omega (arith, h, e))

  pub box_one : (gs : Nodes guarded) → Stands num χ (choice_box op gs) Z W i → one_at W i ≡ has_one gs
  unfolding one_at has_one
  box_one nil s = ap (λ (b : Bool). not b && ends_at W (behind W (i + 1))) (box_empty s)
  box_one (cons g gs) s = ap₂ (λ (a b : Bool). not a && b) (box_empty s) (second s)

  pub box_more : (gs : Nodes guarded) → Stands num χ (choice_box op gs) Z W i → more_at W i ≡ has_more gs
  unfolding more_at has_more
  box_more nil s = ap (λ (b : Bool). not b && not (ends_at W (behind W (i + 1)))) (box_empty s)
  box_more (cons g gs) s = ap₂ (λ (a b : Bool). not a && not b) (box_empty s) (second s)

  -- the guard of its first guarded goal
  pub first_solved : {g : Node goal} {b : Stmt} {gs : Nodes guarded} → Stands num χ (choice_box op (cons (guard g b) gs)) Z W i → solved_at W (i + 2) ≡ is_some (solved_guard g)
  unfolding node_words
  first_solved {g} s = let h = s.begins in solved_node num (before num χ [] ∷ (Place (box_kind op) ∷ []) ∷ (Place Guarded ∷ []) ∷ []) _ W (i + 2) g (stands_seg num s) (omega (arith, h))

-- the operators, by the number of the box's kind
pub kind_wait : (op : Op) → eqb (kind_no (box_kind op)) (kind_no Wait) ≡ is_wait op
unfolding box_kind
kind_wait wait = refl
kind_wait cond = refl
kind_wait commit = refl

pub kind_cond : (op : Op) → eqb (kind_no (box_kind op)) (kind_no Cond) ≡ is_cond op
unfolding box_kind
kind_cond wait = refl
kind_cond cond = refl
kind_cond commit = refl

pub kind_commit : (op : Op) → eqb (kind_no (box_kind op)) (kind_no Commit) ≡ is_commit op
unfolding box_kind
kind_commit wait = refl
kind_commit cond = refl
kind_commit commit = refl

-- How many fresh variables rule 4 takes.
pub fresh_4_words : (num : Name → ℕ) {χ : Ctx member} {n : ℕ} {a : Stmt} {Z W : List Word} {i : ℕ} → Stands num χ (stmt (hide n a)) Z W i → fresh_4 W i ≡ n
unfolding fresh_4 node_words stmt_words
fresh_4_words num {χ} {n} {a} {Z} {W} {i} s = let h = s.begins in ap number_in (seg_word (before num χ [] ∷ (Place Member ∷ Inner Hide ∷ []) ∷ []) (Num n) _ W (i + 2) (stands_seg num s) (omega (arith, h)))
