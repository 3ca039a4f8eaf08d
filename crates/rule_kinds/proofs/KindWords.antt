-- The kind read from the words is that of the place.
use mathlib.Core.Path.{◌≡◌, refl, ap, sym, ◌∙◌}
use mathlib.Core.Bool.{true, false}
use mathlib.Core.List.{List, [], ◌∷◌, ◌++◌}
use Prim.Native.Nat.{ℕ, ◌+◌}
use native.Mathlib.Omega.{arith}
use lib.Dec.{eqb}
use lib.ListN.{length, get_or, length-append}
use Rattle.constraint.specs.Constraint.{Con, ctrue, cfail, ceq, capp}
use Rattle.akl.specs.Base.{Name}
use Rattle.akl.specs.Syntax.{Var, Op, wait, cond as cond_op, commit, Stmt, atom, call, comp, hide, choice}
use Rattle.akl.specs.Configuration as akl
use Rattle.akl.specs.Configuration.{goal, member, Node, or, and, stmt, choice_box, guard, Nodes, cons, ◌+n◌, Ctx, top, in_or, in_guard, plug}
use Rattle.akl.specs.Places.{at}
use Rattle.akl.specs.Table.{takes_number, statement_kind, or_kind, kind_at}
use Rattle.mem_words.specs.declared.Word.{Word}
use Rattle.mem_words.specs.declared.Word.TheVariants.{End, Place, Inner, Bad}
use Rattle.mem_sorts.specs.declared.Kind.TheVariants.{Or, Guarded, Member}
use Rattle.mem_sorts.specs.Shapes.{kind_no}
use Rattle.layout.specs.Layout.{ask, con_words, stmt_words}
use Rattle.store_words.specs.Boxes.{box_kind, node_words, nodes_words}
use Rattle.store_words.specs.Contexts.{before, after, kind_of}
use Rattle.store_words.proofs.Places.{node_opens}
use Rattle.rule_words.specs.Scans.{around}
use Rattle.rule_words.specs.Pieces.{cat}
use Rattle.rule_effects.specs.Conditions as conditions
use Rattle.rule_effects.specs.Standing.{Stands}
use Rattle.rule_effects.proofs.Frames.{before_seg, plug_seg, stands_seg, seg_word}
use Rattle.rule_effects.proofs.Conditions.{kind_node}
use Rattle.rule_kinds.specs.Kinds.{word_takes, or_takes, kind_takes, place_takes, takes_in, or_first}
use Rattle.rule_kinds.proofs.OrLaws.{or_within}
use Rattle.rule_kinds.proofs.Around.{or_around, guard_around}

-- ---------------------------------------------------------------------------------------------
-- The word that opens a statement.

con_opens : (num : Name → ℕ) (c : Con Var) (r : List Word) → (w : Word) × (u : List Word) × (con_words num c r ≡ w ∷ u) × (word_takes w ≡ 0)
unfolding con_words
con_opens num ctrue r = (_, _, refl, refl)
con_opens num cfail r = (_, _, refl, refl)
con_opens num (ceq x y) r = (_, _, refl, refl)
con_opens num (capp x f ys) r = (_, _, refl, refl)

ask_takes : (op : Op) → word_takes (Inner (ask op)) ≡ 4
unfolding ask
ask_takes wait = refl
ask_takes cond_op = refl
ask_takes commit = refl

stmt_opens : (num : Name → ℕ) (s : Stmt) (r : List Word) → (w : Word) × (u : List Word) × (stmt_words num s r ≡ w ∷ u) × (word_takes w ≡ takes_number (statement_kind s))
unfolding stmt_words statement_kind
stmt_opens num (atom c) r = con_opens num c r
stmt_opens num (call p xs) r = (_, _, refl, refl)
stmt_opens num (comp a b) r = (_, _, refl, refl)
stmt_opens num (hide n a) r = (_, _, refl, refl)
stmt_opens num (choice op cs) r = (_, _, refl, ask_takes op)

box_takes : (op : Op) (W : List Word) (i : ℕ) → kind_takes (box_kind op) W i ≡ 5
unfolding box_kind
box_takes wait W i = refl
box_takes cond_op W i = refl
box_takes commit W i = refl

-- ---------------------------------------------------------------------------------------------
-- By the node.

module _ (num : Name → ℕ) {Z W : List Word} {i : ℕ} where
  -- the word at a node
  pub opens_kind : {k : akl.Kind} {χ : Ctx k} {n : Node k} → Stands num χ n Z W i → get_or W i Bad ≡ Place (kind_of n)
  opens_kind {k} {χ} {n} s =
      let o = node_opens num n (after num χ Z) in
      let h = s.begins in
      seg_word (before num χ [] ∷ []) (Place (kind_of n)) o.0 W i (stands_seg num s ∙ ap (λ (u : List Word). before num χ [] ++ u) o.1) (omega (arith, h))

  by_kind : {k : akl.Kind} {χ : Ctx k} {n : Node k} → Stands num χ n Z W i → takes_in W i ≡ kind_takes (kind_of n) W i
  unfolding takes_in
  by_kind s = ap (λ (w : Word). place_takes w W i) (opens_kind s)

  -- a member is what its statement is
  member_kind : {χ : Ctx member} {x : Stmt} → Stands num χ (stmt x) Z W i → word_takes (get_or W (i + 1) Bad) ≡ takes_number (statement_kind x)
  unfolding node_words
  member_kind {χ} {x} s =
      let o = stmt_opens num x (End ∷ after num χ Z) in
      let h = s.begins in
      let P = before num χ [] in
      ap word_takes (seg_word (P ∷ (Place Member ∷ []) ∷ []) o.0 o.1 W (i + 1) (stands_seg num s ∙ ap (λ (u : List Word). cat (P ∷ (Place Member ∷ []) ∷ []) u) o.2) (omega (arith, h))) ∙ o.3

  -- an or-box is what it stands in
  or_box_kind : (χ : Ctx goal) {ns : Nodes goal} → Stands num χ (or ns) Z W i → or_takes W i ≡ takes_number (or_kind χ)
  unfolding or_kind before plug kind_of conditions.kind_at
  or_box_kind top s = sym (or_first W i s.begins)
  or_box_kind (in_or χ l r) {ns} s =
      let a = or_around num s in
      let h = s.begins ∙ ap length (before_seg num χ (Place Or ∷ nodes_words num l [])) ∙ length-append (before num χ []) (Place Or ∷ nodes_words num l []) in
      let k = kind_node num (or (l +n cons (or ns) r)) (before num χ [] ∷ []) (after num χ Z) W (around W i) (s.whole ∙ plug_seg num χ (or (l +n cons (or ns) r)) Z) (omega (arith, a)) in
      sym (or_within W i true (λ z. omega (arith, z, h)) (sym (ap (λ (x : ℕ). eqb x (kind_no Or)) k)))
  or_box_kind (in_guard χ b) {ns} s =
      let a = guard_around num s in
      let h = s.begins ∙ ap length (before_seg num χ (Place Guarded ∷ [])) ∙ length-append (before num χ []) (Place Guarded ∷ []) in
      let k = kind_node num (guard (or ns) b) (before num χ [] ∷ []) (after num χ Z) W (around W i) (s.whole ∙ plug_seg num χ (guard (or ns) b) Z) (omega (arith, a)) in
      sym (or_within W i false (λ z. omega (arith, z, h)) (sym (ap (λ (x : ℕ). eqb x (kind_no Or)) k)))

  -- The kind of what stands at i.
  pub kind_words : {k : akl.Kind} {χ : Ctx k} (n : Node k) → Stands num χ n Z W i → takes_in W i ≡ takes_number (kind_at (at χ n))
  unfolding kind_at kind_of
  kind_words {k} {χ} (or ns) s = by_kind s ∙ or_box_kind χ s
  kind_words (and vs σ ms) s = by_kind s
  kind_words (stmt x) s = by_kind s ∙ member_kind s
  kind_words (choice_box op gs) s = by_kind s ∙ box_takes op W i
  kind_words (guard g b) s = by_kind s
