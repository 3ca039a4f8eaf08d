-- What the goal that can be walked over needs of the words that it stands in: the place of an and-box takes the rules of and-boxes, and the
-- goal is a bracket that closes. Assumes nothing.
use mathlib.Core.Path.{◌≡◌, refl, ap}
use mathlib.Core.Bool.{true}
use mathlib.Core.List.{List, [], ◌∷◌}
use Prim.Native.Nat.{ℕ, ◌≤◌}
use native.Mathlib.Omega.{arith}
use lib.Dec.{eqb}
use lib.ListN.{length, get_or, length-append}
use Rattle.akl.specs.Base.{Name}
use Rattle.akl.specs.Configuration as akl
use Rattle.akl.specs.Configuration.{Node, Ctx}
use Rattle.mem_words.specs.declared.Word.{Word}
use Rattle.mem_words.specs.declared.Word.TheVariants as words
use Rattle.mem_sorts.specs.declared.Kind.{Kind}
use Rattle.mem_sorts.specs.declared.Kind.TheVariants.{Or, And, Guarded, Member, Wait, Cond, Commit}
use Rattle.mem_sorts.specs.Shapes.{kind_no}
use Rattle.store_words.specs.Boxes.{node_words}
use Rattle.store_words.specs.Contexts.{before, after}
use Rattle.rule_words.specs.Scans.{opens}
use Rattle.rule_words.proofs.Balance.{seg_ends}
use Rattle.rule_effects.specs.Effects.{behind}
use Rattle.rule_effects.specs.Standing.{Stands}
use Rattle.rule_effects.proofs.Shapes.{node_tree}
use Rattle.rule_effects.proofs.Frames.{stands_seg}
use Rattle.rule_kinds.specs.Kinds.{kind_takes}
use Rattle.rule_kinds.proofs.KindWords.{opens_kind}
use Rattle.step_open.proofs.Turns.{false_true}

-- the place of an and-box takes the rules of and-boxes
pub and_takes : (k : Kind) (W : List Word) (j : ℕ) → eqb (kind_no k) 1 ≡ true → kind_takes k W j ≡ 7
and_takes Or W j e = absurd (false_true e)
and_takes And W j e = refl
and_takes Guarded W j e = absurd (false_true e)
and_takes Member W j e = absurd (false_true e)
and_takes Wait W j e = absurd (false_true e)
and_takes Cond W j e = absurd (false_true e)
and_takes Commit W j e = absurd (false_true e)

-- a goal opens a bracket, and closes within the words
module _ (num : Name → ℕ) {k : akl.Kind} {χ : Ctx k} {n : Node k} {Z W : List Word} {i : ℕ} where
  pub stands_opens : Stands num χ n Z W i → opens (get_or W i words.Bad) 0 ≡ true
  stands_opens s = ap (λ (w : Word). opens w 0) (opens_kind num s)

  pub stands_whole : Stands num χ n Z W i → behind W i ≤ length W
  stands_whole s =
      let h = s.begins in
      let e = seg_ends (node_words num n) (node_tree num n) (before num χ [] ∷ []) _ W i (stands_seg num s) (omega (arith, h)) in
      let l = ap length (stands_seg num s) in
      let a = length-append (before num χ []) (node_words num n (after num χ Z)) in
      let f = ap length ((node_tree num n).balanced.front (after num χ Z)) in
      let b = length-append (node_words num n []) (after num χ Z) in
      omega (arith, e, l, a, f, b)
