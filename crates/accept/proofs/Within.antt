-- A place number tells what is at or inside a goal: the numbers from the goal's own on, as many as there are places in it, are
-- those of the contexts that go on from its context.
use mathlib.Core.Path.{◌≡◌, refl, ap, sym, ◌∙◌, subst}
use mathlib.Core.Logic.{◌↔◌, inl, inr}
use mathlib.Core.List.{List, [], ◌∷◌}
use mathlib.Core.Option.{some, some-injective}
use Prim.Native.Nat.{ℕ, zero, suc, ◌+◌, ◌-◌, ◌≤◌, ◌<◌}
use native.Mathlib.Omega.{arith}
use Rattle.akl.specs.Base.{nth, size}
use Rattle.akl.specs.Configuration.{Kind, Node, or, and, stmt, choice_box, guard, Nodes, nil, cons, ◌+n◌, one, Ctx, top, in_or, in_and, in_choice, in_guard, plug, Config}
use Rattle.akl.specs.Places.{Place, at, places, places_all, place, count, counts, place_number, holder_number}
use Rattle.accept.specs.Inner.{AtOrIn, same_goal, through_or, through_and, through_choice, through_guard, HoldsBox}
use Rattle.accept.proofs.PlaceLaws.{no_place, nth_split, counts_append, size_places, block_context, place_of}

-- The place of number p is at or inside the node in its context.
abbrev pub Inside : {k : Kind} → Ctx k → Node k → ℕ → Type 0
Inside χ n p = (place_number χ ≤ p) × (p < place_number χ + count n)

nth_some : {A : Type 0} (l : List A) (j : ℕ) → j < size l → (x : A) × (nth l j ≡ some x)
unfolding nth size
nth_some [] j h = absurd (omega arith)
nth_some (y ∷ l) zero h = (y, refl)
nth_some (y ∷ l) (suc j) h = nth_some l j (omega arith)

-- ---------------------------------------------------------------------------------------------
-- Every place listed of a node has a context that goes on from the node's.

module _ {k : Kind} (χ : Ctx k) where
  abbrev Inward : Place → Type 0
  Inward (at {k} χ' n) = AtOrIn χ k χ'

  mutual
    unfolding places nth

    listed_inward : {j : Kind} (n : Node j) (χ' : Ctx j) (p : ℕ) (pl : Place) → nth (places n χ') p ≡ some pl → AtOrIn χ j χ' → Inward pl
    listed_inward (or ns) χ' zero pl e w = subst Inward (some-injective (at χ' (or ns)) pl e) w
    listed_inward (or ns) χ' (suc p) pl e w = all_inward ns (in_or χ') nil p pl e (λ l r. through_or χ' l r w)
    listed_inward (and vs σ ms) χ' zero pl e w = subst Inward (some-injective (at χ' (and vs σ ms)) pl e) w
    listed_inward (and vs σ ms) χ' (suc p) pl e w = all_inward ms (in_and χ' vs σ) nil p pl e (λ l r. through_and χ' vs σ l r w)
    listed_inward (stmt s) χ' zero pl e w = subst Inward (some-injective (at χ' (stmt s)) pl e) w
    listed_inward (stmt s) χ' (suc p) pl e w = absurd (no_place pl e)
    listed_inward (choice_box op gs) χ' zero pl e w = subst Inward (some-injective (at χ' (choice_box op gs)) pl e) w
    listed_inward (choice_box op gs) χ' (suc p) pl e w = all_inward gs (in_choice χ' op) nil p pl e (λ l r. through_choice χ' op l r w)
    listed_inward (guard g b) χ' zero pl e w = subst Inward (some-injective (at χ' (guard g b)) pl e) w
    listed_inward (guard g b) χ' (suc p) pl e w = listed_inward g (in_guard χ' b) p pl e (through_guard χ' b w)

    all_inward : {j : Kind} (ns : Nodes j) (around : Nodes j → Nodes j → Ctx j) (l : Nodes j) (p : ℕ) (pl : Place) →
        nth (places_all ns around l) p ≡ some pl → ((a r : Nodes j) → AtOrIn χ j (around a r)) → Inward pl
    all_inward nil around l p pl e w = absurd (no_place pl e)
    all_inward (cons n ns) around l p pl e w =
        elim (nth_split (places n (around l ns)) (places_all ns around (l +n one n)) p pl e)
        [ inl h ↦ listed_inward n (around l ns) p pl h (w l ns) | inr h ↦ all_inward ns around (l +n one n) h.0 pl h.2 w ]

-- ---------------------------------------------------------------------------------------------
-- Numbers.

count_some : {k : Kind} (n : Node k) → 1 ≤ count n
unfolding count
count_some (or ns) = omega arith
count_some (and vs σ ms) = omega arith
count_some (stmt s) = omega arith
count_some (choice_box op gs) = omega arith
count_some (guard g b) = omega arith

among_counts : {k : Kind} (l r : Nodes k) (m : Node k) → counts (l +n cons m r) ≡ counts l + (count m + counts r)
unfolding count
among_counts l r m = counts_append l (cons m r)

module _ (c : Config) where
  count_at : Place → ℕ
  count_at (at χ n) = count n

  -- what is in a context is told by the configuration
  same_count : {k : Kind} (χ : Ctx k) (n m : Node k) → plug χ n ≡ c.root → plug χ m ≡ c.root → count m ≡ count n
  unfolding count_at
  same_count χ n m e f = ap count_at (some-injective (at χ m) (at χ n) (sym (place_of χ m c f) ∙ place_of χ n c e))

  -- the places of the inner goal are among those of the outer one
  within : {k : Kind} (χ : Ctx k) {j : Kind} (n : Node k) {χ' : Ctx j} (m : Node j) → plug χ n ≡ c.root → plug χ' m ≡ c.root → AtOrIn χ j χ' →
      (place_number χ ≤ place_number χ') × (place_number χ' + count m ≤ place_number χ + count n)
  unfolding plug place_number count
  within χ n m e f same_goal = (omega arith, omega (arith, same_count χ n m e f))
  within χ n m e f (through_or χ' l r w) = let h = within χ n (or (l +n cons m r)) e f w in (omega (arith, h.0), omega (arith, h.1, among_counts l r m))
  within χ n m e f (through_and χ' vs σ l r w) = let h = within χ n (and vs σ (l +n cons m r)) e f w in (omega (arith, h.0), omega (arith, h.1, among_counts l r m))
  within χ n m e f (through_choice χ' op l r w) = let h = within χ n (choice_box op (l +n cons m r)) e f w in (omega (arith, h.0), omega (arith, h.1, among_counts l r m))
  within χ n m e f (through_guard χ' b w) = let h = within χ n (guard m b) e f w in (omega (arith, h.0), omega (arith, h.1))

  pub inside_iff : {k j : Kind} (χ : Ctx k) (n : Node k) (χ' : Ctx j) (m : Node j) → plug χ n ≡ c.root → plug χ' m ≡ c.root → Inside χ n (place_number χ') ↔ AtOrIn χ j χ'
  unfolding place
  inside_iff χ n χ' m e f = (to_it, λ w. let h = within χ n m e f w in (h.0, omega (arith, h.1, count_some m)))
    where
      to_it : Inside χ n (place_number χ') → AtOrIn χ _ χ'
      to_it h =
          let i = place_number χ' - place_number χ in
          let x = nth_some (places n χ) i (omega (arith, h.0, h.1, size_places n χ)) in
          let b : nth (places c.root top) (place_number χ + i) ≡ some x.0 = subst (λ g. nth (places g top) (place_number χ + i) ≡ some x.0) e (block_context χ n i x.0 x.1) in
          let q : place_number χ + i ≡ place_number χ' = omega (arith, h.0) in
          let s : x.0 ≡ at χ' m = some-injective x.0 (at χ' m) (sym b ∙ ap (nth (places c.root top)) q ∙ place_of χ' m c f) in
          subst (Inward χ) s (listed_inward χ n χ i x.0 x.1 same_goal)

  -- the box that holds what stands at a place
  pub holds_iff : {k j : Kind} (χ : Ctx k) (n : Node k) (χ' : Ctx j) (m : Node j) → plug χ n ≡ c.root → plug χ' m ≡ c.root → Inside χ n (holder_number χ') ↔ HoldsBox χ (at χ' m)
  unfolding plug holder_number place_number
  holds_iff χ n top m e f = inside_iff χ n top m e f
  holds_iff χ n (in_or χ' l r) m e f = inside_iff χ n χ' (or (l +n cons m r)) e f
  holds_iff χ n (in_and χ' vs σ l r) m e f = inside_iff χ n χ' (and vs σ (l +n cons m r)) e f
  holds_iff χ n (in_choice χ' op l r) m e f = inside_iff χ n χ' (choice_box op (l +n cons m r)) e f
  holds_iff χ n (in_guard χ' b) m e f = inside_iff χ n χ' (guard m b) e f
