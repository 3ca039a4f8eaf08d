-- The ranges around a node's position hold the words of the stores around it: so at each place of a well-formed state there is room
-- for what the solver is told there.
use mathlib.Core.Path.{◌≡◌, refl, ap, sym, ◌∙◌, subst}
use mathlib.Core.List.{List, [], ◌∷◌, ◌++◌}
use Prim.Native.Nat.{ℕ, zero, suc, ◌+◌, ◌<◌, ◌≤◌}
use native.Mathlib.Numerals.{add-one}
use native.Mathlib.Omega.{arith}
use Rattle.constraint.specs.Constraint.{Store}
use Rattle.akl.specs.Base.{Name}
use Rattle.akl.specs.Configuration.{Kind, goal, member, Node, or, and, choice_box, guard, Nodes, cons, ◌+n◌, Ctx, top, in_or, in_and, in_choice, in_guard, plug}
use Rattle.mem_words.specs.declared.Word.{Word}
use Rattle.rule_words.specs.Scans.{around}
use Rattle.rule_effects.specs.Effects.{behind}
use Rattle.rule_effects.specs.Standing.{Stands as StandsAt}
use Rattle.rule_ranges.specs.Ranges.{Range, store_range, and_its, ranges, ranges_from}
use Rattle.rule_ranges.specs.Asked.{RoomFor, RangesDrawn}
use Rattle.rule_ranges.proofs.Around.{holds_or, holds_and, holds_choice, holds_guard, at_top, opens_itself}
use Rattle.rule_ranges.proofs.Environment.{ranges_step, ranges_end, and_adds, or_adds, choice_adds, guard_adds}
use Rattle.rule_ranges.proofs.Split.{ranges_split}
use Rattle.store_form.specs.State.{State, table, number_in}
use Rattle.store_form.specs.Form.{config_words}
use Rattle.store_steps.specs.After.{Stands}
use Rattle.store_room.specs.Stores.{context_stores, own_stores, node_stores}
use Rattle.store_room.specs.Spelling.{SpelledAll}
use Rattle.store_room.proofs.Boxes.{store_spelled}
use Rattle.store_room.proofs.Given.{room_around, room_at, room_turned}
use Rattle.rule_ranges.proofs.Drawing.{ranges_drawn}
use Rattle.store_room.proofs.Drawing.{roomy_stores}

module _ (num : Name → ℕ) where
  -- one bracket further outwards
  passed : (f : ℕ) (W : List Word) (i : ℕ) (rs : List Range) (σs : List Store) → around W i < i → and_its W (around W i) (ranges f W 0 (around W i)) ≡ rs → SpelledAll num W rs σs → SpelledAll num W (ranges (suc f) W 0 i) σs
  passed f W i rs σs h e p = subst (λ (l : List Range). SpelledAll num W l σs) (sym (ranges_step f W 0 i (around W i) refl (omega (arith, h)) (omega arith) ∙ e)) p

  around_spelled : {k : Kind} (χ : Ctx k) (n : Node k) (f : ℕ) (Z W : List Word) (i : ℕ) → i ≤ f → StandsAt num χ n Z W i → SpelledAll num W (ranges f W 0 i) (context_stores χ)
  unfolding context_stores
  around_spelled top n f Z W i h s = let z = at_top num s in subst (λ (l : List Range). SpelledAll num W l []) (sym (ranges_end f W 0 i (omega (arith, z)))) tt
  around_spelled (in_or χ l r) n zero Z W i h s = let u = holds_or num s in let v = u.1 in absurd (omega (arith, v, h))
  around_spelled (in_or χ l r) n (suc f) Z W i h s =
      let u = holds_or num s in
      let v = u.1 in
      passed f W i (ranges f W 0 (around W i)) (context_stores χ) v (or_adds num _ u.0) (around_spelled χ (or (l +n cons n r)) f Z W (around W i) (omega (arith, v, h)) u.0)
  around_spelled (in_and χ vs σ l r) n zero Z W i h s = let u = holds_and num s in let v = u.1 in absurd (omega (arith, v, h))
  around_spelled (in_and χ vs σ l r) n (suc f) Z W i h s =
      let u = holds_and num s in
      let v = u.1 in
      passed f W i (store_range W (around W i) ∷ ranges f W 0 (around W i)) (σ ∷ context_stores χ) v (and_adds num _ u.0) (store_spelled num u.0, around_spelled χ (and vs σ (l +n cons n r)) f Z W (around W i) (omega (arith, v, h)) u.0)
  around_spelled (in_choice χ op l r) n zero Z W i h s = let u = holds_choice num s in let v = u.1 in absurd (omega (arith, v, h))
  around_spelled (in_choice χ op l r) n (suc f) Z W i h s =
      let u = holds_choice num s in
      let v = u.1 in
      passed f W i (ranges f W 0 (around W i)) (context_stores χ) v (choice_adds num _ u.0) (around_spelled χ (choice_box op (l +n cons n r)) f Z W (around W i) (omega (arith, v, h)) u.0)
  around_spelled (in_guard χ b) n zero Z W i h s = let u = holds_guard num s in let v = u.1 in absurd (omega (arith, v, h))
  around_spelled (in_guard χ b) n (suc f) Z W i h s =
      let u = holds_guard num s in
      let v = u.1 in
      passed f W i (ranges f W 0 (around W i)) (context_stores χ) v (guard_adds num _ u.0) (around_spelled χ (guard n b) f Z W (around W i) (omega (arith, v, h)) u.0)

  module _ {Z W : List Word} {i : ℕ} where
    -- around a node
    pub context_spelled : {k : Kind} {χ : Ctx k} {n : Node k} → StandsAt num χ n Z W i → SpelledAll num W (ranges_from W 0 i) (context_stores χ)
    unfolding ranges_from
    context_spelled {k} {χ} {n} s = around_spelled χ n i Z W i (omega arith) s

    -- an and-box's own store first
    pub box_spelled : {χ : Ctx goal} {vs : List ℕ} {σ : Store} {ms : Nodes member} → StandsAt num χ (and vs σ ms) Z W i → SpelledAll num W (ranges_from W 0 (i + 1)) (node_stores χ (and vs σ ms))
    unfolding ranges_from node_stores own_stores
    box_spelled {χ} {vs} {σ} {ms} s =
        let e : ranges (i + 1) W 0 (i + 1) ≡ store_range W i ∷ ranges i W 0 i = ap (λ (f : ℕ). ranges f W 0 (i + 1)) (add-one i) ∙ ranges_step i W 0 (i + 1) i (opens_itself num s) (omega arith) (omega arith) ∙ and_adds num (ranges i W 0 i) s in
        subst (λ (l : List Range). SpelledAll num W l (σ ∷ context_stores χ)) (sym e) (store_spelled num s, around_spelled χ (and vs σ ms) i Z W i (omega arith) s)

-- A well-formed state, W being its configuration's words.
module _ (s : State) (h : Stands 2048 s) where
  abbrev num : Name → ℕ
  num = number_in (table s)

  abbrev W : List Word
  W = config_words s

  -- around a node at i
  pub room_place : {k : Kind} (χ : Ctx k) (n : Node k) (i : ℕ) → s.config.root ≡ plug χ n → StandsAt (number_in (table s)) χ n [] (config_words s) i → RoomFor (config_words s) (ranges_from (config_words s) 0 i)
  room_place χ n i e p = room_around s h χ n e W (ranges_from W 0 i) (context_spelled num p)

  -- at and around an and-box at j
  pub room_box : (χ : Ctx goal) (vs : List ℕ) (σ : Store) (ms : Nodes member) (j : ℕ) → s.config.root ≡ plug χ (and vs σ ms) → StandsAt (number_in (table s)) χ (and vs σ ms) [] (config_words s) j → RoomFor (config_words s) (ranges_from (config_words s) 0 (j + 1))
  room_box χ vs σ ms j e p = room_at s h χ (and vs σ ms) e W (ranges_from W 0 (j + 1)) (box_spelled num p)

  -- around a goal at g, and from it down to an and-box at j inside it
  pub room_inside : {k : Kind} (χ : Ctx k) (n : Node k) (g : ℕ) (χ' : Ctx goal) (vs : List ℕ) (σ : Store) (ms : Nodes member) (j : ℕ)
      → StandsAt (number_in (table s)) χ n [] (config_words s) g → s.config.root ≡ plug χ' (and vs σ ms) → StandsAt (number_in (table s)) χ' (and vs σ ms) [] (config_words s) j → g ≤ j → j < behind (config_words s) g
      → RoomFor (config_words s) (ranges_from (config_words s) 0 g ++ ranges_from (config_words s) g (j + 1))
  room_inside χ n g χ' vs σ ms j p e q l m = room_turned W (ranges_from W g (j + 1)) (ranges_from W 0 g) (subst (RoomFor W) (ranges_split num p q l m) (room_box χ' vs σ ms j e q))

  -- the variables that are told around any position
  pub ranges_others : (i j : ℕ) → RangesDrawn (config_words s) (ranges_from (config_words s) i j) (0 ∷ (roomy_stores s h).others)
  unfolding ranges_from
  ranges_others i j = ranges_drawn W (0 ∷ (roomy_stores s h).others) (roomy_stores s h).drawn j i j
