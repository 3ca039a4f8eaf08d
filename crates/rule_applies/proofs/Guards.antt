-- Where the first guarded goal of a choice-box and a guard stand; tests of them.
use mathlib.Core.Path.{◌≡◌, refl, ap, ap₂, sym, ◌∙◌}
use mathlib.Core.Bool.{Bool, true, false, ◌&&◌, not}
use mathlib.Core.List.{List, [], ◌∷◌}
use Prim.Native.Nat.{ℕ, ◌+◌}
use native.Mathlib.Omega.{arith}
use lib.Dec.{eqb}
use lib.ListN.{length, length-append}
use Rattle.constraint.specs.Constraint as constraint
use Rattle.akl.specs.Base.{Name}
use Rattle.akl.specs.Syntax.{Op, Stmt}
use Rattle.akl.specs.Rules.{empty, non_empty}
use Rattle.akl.specs.Configuration.{goal, member, guarded, Node, or, and, choice_box, guard, Nodes, nil, cons, ◌+n◌, Ctx, in_choice, in_guard, plug}
use Rattle.mem_words.specs.declared.Word.{Word}
use Rattle.mem_words.specs.declared.Word.TheVariants.{Place}
use Rattle.mem_sorts.specs.declared.Kind.TheVariants.{Or, Guarded}
use Rattle.store_words.specs.Boxes.{box_kind, node_words, nodes_words}
use Rattle.store_words.specs.Contexts.{before, after, kind_of}
use Rattle.rule_effects.specs.Effects.{behind}
use Rattle.rule_effects.specs.Conditions.{ends_at, kind_at, parts_at, right_at, one_at, more_at}
use Rattle.rule_effects.specs.Standing.{Stands}
use Rattle.rule_effects.proofs.Frames.{before_seg, stands_seg}
use Rattle.rule_effects.proofs.Conditions.{ends_nodes, kind_node, right_of, box_empty}

not_same : (a b : Bool) → not a ≡ not b → a ≡ b
not_same a b e = sym (twice a) ∙ ap not e ∙ twice b
  where
    twice : (x : Bool) → not (not x) ≡ x
    twice true = refl
    twice false = refl

module _ (num : Name → ℕ) {Z W : List Word} {i : ℕ} where
  pub guard_stands : {χ : Ctx member} {op : Op} {l r : Nodes guarded} {g : Node goal} {b : Stmt} → Stands num (in_choice χ op l r) (guard g b) Z W i → Stands num (in_guard (in_choice χ op l r) b) g Z W (i + 1)
  unfolding plug before
  guard_stands {χ} {op} {l} {r} s =
      let h = s.begins in
      let m = ap length (before_seg num (in_choice χ op l r) (Place Guarded ∷ [])) ∙ length-append (before num (in_choice χ op l r) []) (Place Guarded ∷ []) in
      record { whole = s.whole; begins = omega (arith, h, m) }

  pub first_stands : {χ : Ctx member} {op : Op} {n : Node guarded} {gs : Nodes guarded} → Stands num χ (choice_box op (cons n gs)) Z W i → Stands num (in_choice χ op nil gs) n Z W (i + 1)
  unfolding plug before ◌+n◌ nodes_words
  first_stands {χ} {op} s =
      let h = s.begins in
      let m = ap length (before_seg num χ (Place (box_kind op) ∷ [])) ∙ length-append (before num χ []) (Place (box_kind op) ∷ []) in
      record { whole = s.whole; begins = omega (arith, h, m) }

module _ (num : Name → ℕ) {Z W : List Word} {i : ℕ} where
  pub first_guard_stands : {χ : Ctx member} {op : Op} {g : Node goal} {b : Stmt} {gs : Nodes guarded} → Stands num χ (choice_box op (cons (guard g b) gs)) Z W i → Stands num (in_guard (in_choice χ op nil gs) b) g Z W (i + 2)
  first_guard_stands {χ} {op} {g} {b} {gs} s = let t = guard_stands num (first_stands num s) in let h = t.begins in record { whole = t.whole; begins = omega (arith, h) }

  -- ---------------------------------------------------------------------------------------------
  -- How many guarded goals there are.

  second : {χ : Ctx member} {op : Op} {g : Node goal} {b : Stmt} {gs : Nodes guarded} → Stands num χ (choice_box op (cons (guard g b) gs)) Z W i → ends_at W (behind W (i + 1)) ≡ empty gs
  unfolding right_at
  second {gs = gs} s = not_same (ends_at W (behind W (i + 1))) (empty gs) (right_of num (first_stands num s))

  pub none_one : {χ : Ctx member} {op : Op} → Stands num χ (choice_box op nil) Z W i → one_at W i ≡ false
  unfolding one_at
  none_one s = ap (λ (b : Bool). not b && ends_at W (behind W (i + 1))) (box_empty num s)

  pub none_more : {χ : Ctx member} {op : Op} → Stands num χ (choice_box op nil) Z W i → more_at W i ≡ false
  unfolding more_at
  none_more s = ap (λ (b : Bool). not b && not (ends_at W (behind W (i + 1)))) (box_empty num s)

  pub some_one : {χ : Ctx member} {op : Op} {g : Node goal} {b : Stmt} {gs : Nodes guarded} → Stands num χ (choice_box op (cons (guard g b) gs)) Z W i → one_at W i ≡ empty gs
  unfolding one_at
  some_one s = ap₂ (λ (a b : Bool). not a && b) (box_empty num s) (second s)

  pub some_more : {χ : Ctx member} {op : Op} {g : Node goal} {b : Stmt} {gs : Nodes guarded} → Stands num χ (choice_box op (cons (guard g b) gs)) Z W i → more_at W i ≡ non_empty gs
  unfolding more_at
  some_more s = ap₂ (λ (a b : Bool). not a && not b) (box_empty num s) (second s)

  -- ---------------------------------------------------------------------------------------------
  -- An or-box that is not empty.

  pub or_parts : {χ : Ctx goal} {ns : Nodes goal} → Stands num χ (or ns) Z W i → parts_at W i ≡ non_empty ns
  unfolding parts_at kind_at kind_of node_words
  or_parts {χ} {ns} s =
      let h = s.begins in
      let P = before num χ [] in
      ap₂ (λ (k : ℕ) (b : Bool). eqb k 0 && not b) (kind_node num (or ns) (P ∷ []) (after num χ Z) W i (stands_seg num s) (omega (arith, h)))
      (ends_nodes num ns (P ∷ (Place Or ∷ []) ∷ []) (after num χ Z) W (i + 1) (stands_seg num s) (omega (arith, h)))

  pub and_parts : {χ : Ctx goal} {vs : List ℕ} {σ : constraint.Store} {ms : Nodes member} → Stands num χ (and vs σ ms) Z W i → parts_at W i ≡ false
  unfolding parts_at kind_at kind_of
  and_parts {χ} {vs} {σ} {ms} s =
      let h = s.begins in
      ap (λ (k : ℕ). eqb k 0 && not (ends_at W (i + 1))) (kind_node num (and vs σ ms) (before num χ [] ∷ []) (after num χ Z) W i (stands_seg num s) (omega (arith, h)))
