-- Each word that opens an and-box in a configuration's words begins an and-box of it, and the range of its store holds the store's
-- words.
use mathlib.Core.Path.{◌≡◌, refl, ap, sym, ◌∙◌, subst}
use mathlib.Core.Bool.{true}
use mathlib.Core.List.{List, [], ◌∷◌, ◌++◌}
use mathlib.Core.Option.{Option, some, none}
use Prim.Native.Nat.{ℕ, zero, suc, ◌+◌, ◌-◌, ◌<◌}
use native.Mathlib.Omega.{arith}
use lib.Dec.{T, eqb, eqb→eq}
use lib.ListN.{length, get_or, take}
use Rattle.constraint.specs.Constraint as constraint
use Rattle.akl.specs.Base.{Name}
use Rattle.akl.specs.Syntax.{Op, wait, cond, commit}
use Rattle.akl.specs.Configuration as akl
use Rattle.akl.specs.Configuration.{goal, member, Node, or, and, stmt, choice_box, guard, Nodes, Ctx, plug, Config}
use Rattle.akl.specs.Places as places
use Rattle.akl.specs.Places.{at, place}
use Rattle.accept.proofs.PlaceLaws.{place_whole}
use Rattle.mem_words.specs.declared.Word.{Word}
use Rattle.mem_words.specs.declared.Word.TheVariants.{End, Free, Level, Num, Place, Inner, Bad}
use Rattle.mem_sorts.specs.declared.Kind.TheVariants.{And}
use Rattle.mem_sorts.specs.Shapes.{kind_no}
use Rattle.mem_copies.specs.Runs.{run}
use Rattle.store_words.specs.Boxes.{box_kind, local_words, store_words, node_words, nodes_words}
use Rattle.store_words.specs.Contexts.{before, after, kind_of, places_in, place_at}
use Rattle.store_words.proofs.Places.{no_place}
use Rattle.rule_words.specs.Pieces.{cut, cat}
use Rattle.rule_words.proofs.Segments.{size_cat, seg_cut}
use Rattle.rule_effects.specs.Effects.{locals_end, store_end}
use Rattle.rule_effects.specs.Conditions.{kind_in, kind_at}
use Rattle.rule_effects.specs.Standing.{Stands, place_stands}
use Rattle.rule_effects.proofs.Frames.{E, AL, ES, stands_seg, head_seg}
use Rattle.rule_effects.proofs.Stores.{heads}
use Rattle.rule_effects.proofs.Conditions.{kind_node}
use Rattle.rule_ranges.specs.Ranges.{store_range}
use Rattle.store_room.specs.Spelling.{Spelled}

pub store_spelled : (num : Name → ℕ) {χ : Ctx goal} {vs : List ℕ} {σ : constraint.Store} {ms : Nodes member} {Z W : List Word} {o : ℕ} → Stands num χ (and vs σ ms) Z W o → Spelled num W (store_range W o) σ
unfolding store_range run cut node_words
store_spelled num {χ} {vs} {σ} {ms} {Z} {W} {o} s =
    let P = before num χ [] in
    let U = local_words vs [] in
    let S = store_words num σ [] in
    let T = nodes_words num ms (End ∷ after num χ Z) in
    let w : W ≡ cat (P ∷ AL ∷ U ∷ ES ∷ S ∷ E ∷ []) T = stands_seg num s ∙ ap (cat (P ∷ AL ∷ [])) (head_seg num vs σ T) in
    let h = heads num vs σ P T W o w s.begins in
    let l = ap length w ∙ size_cat (P ∷ AL ∷ U ∷ ES ∷ S ∷ E ∷ []) T in
    record {
      within = omega (arith, h, l);
      words = seg_cut (P ∷ AL ∷ U ∷ ES ∷ []) (S ∷ []) (E ++ T) W (locals_end W o + 2) (store_end W o) w (omega (arith, h)) (omega (arith, h));
    }

-- ---------------------------------------------------------------------------------------------
-- The and-box that begins at a word.

eq_true : (a b : ℕ) → eqb a b ≡ true → a ≡ b
eq_true a b h = eqb→eq a b (subst T (sym h) tt)

-- such a word is the place that as many places before it say
place_found : (W : List Word) (o : ℕ) → kind_in (get_or W o Bad) ≡ 1 → place_at W (places_in (take o W)) ≡ o
unfolding place_at places_in
place_found [] o h = absurd (omega (arith, h))
place_found (End ∷ W) zero h = absurd (omega (arith, h))
place_found (End ∷ W) (suc o) h = ap suc (place_found W o h)
place_found (Free x ∷ W) zero h = absurd (omega (arith, h))
place_found (Free x ∷ W) (suc o) h = ap suc (place_found W o h)
place_found (Level x ∷ W) zero h = absurd (omega (arith, h))
place_found (Level x ∷ W) (suc o) h = ap suc (place_found W o h)
place_found (Num x ∷ W) zero h = absurd (omega (arith, h))
place_found (Num x ∷ W) (suc o) h = ap suc (place_found W o h)
place_found (Place k ∷ W) zero h = refl
place_found (Place k ∷ W) (suc o) h = ap suc (place_found W o h)
place_found (Inner x ∷ W) zero h = absurd (omega (arith, h))
place_found (Inner x ∷ W) (suc o) h = ap suc (place_found W o h)
place_found (Bad ∷ W) zero h = absurd (omega (arith, h))
place_found (Bad ∷ W) (suc o) h = ap suc (place_found W o h)

place_within : (W : List Word) (o : ℕ) → kind_in (get_or W o Bad) ≡ 1 → o < length W
place_within [] o h = absurd (omega (arith, h))
place_within (w ∷ W) zero h = omega arith
place_within (w ∷ W) (suc o) h = omega (arith, place_within W o h)

-- the and-box that begins at o
pub record AndAt (num : Name → ℕ) (c : Config) (o : ℕ) : Type 0 where
  pub context : Ctx goal
  pub own : List ℕ
  pub store : constraint.Store
  pub members : Nodes member
  pub whole : plug context (and own store members) ≡ c.root
  pub stands : Stands num context (and own store members) [] (node_words num c.root []) o

choice_kind : (op : Op) → kind_no (box_kind op) ≡ 1 → ⊥
unfolding box_kind
choice_kind wait h = omega (arith, h)
choice_kind cond h = omega (arith, h)
choice_kind commit h = omega (arith, h)

and_node : (num : Name → ℕ) (c : Config) (o : ℕ) {k : akl.Kind} (n : Node k) (χ : Ctx k) → kind_no (kind_of n) ≡ 1 → plug χ n ≡ c.root → Stands num χ n [] (node_words num c.root []) o → AndAt num c o
unfolding kind_of
and_node num c o (or ns) χ h e s = absurd (omega (arith, h))
and_node num c o (and vs σ ms) χ h e s = record { context = χ; own = vs; store = σ; members = ms; whole = e; stands = s }
and_node num c o (stmt b) χ h e s = absurd (omega (arith, h))
and_node num c o (choice_box op gs) χ h e s = absurd (choice_kind op h)
and_node num c o (guard g b) χ h e s = absurd (omega (arith, h))

pub and_at : (num : Name → ℕ) (c : Config) (o : ℕ) → kind_at (node_words num c.root []) o And ≡ true → AndAt num c o
unfolding kind_at
and_at num c o t = go (place c p) refl
  where
    W : List Word
    W = node_words num c.root []

    h : kind_in (get_or W o Bad) ≡ 1
    h = eq_true (kind_in (get_or W o Bad)) 1 t

    p : ℕ
    p = places_in (take o W)

    f : place_at W p ≡ o
    f = place_found W o h

    go : (x : Option places.Place) → place c p ≡ x → AndAt num c o
    go none e = absurd (omega (arith, f, no_place num c p e, place_within W o h))
    go (some (at χ n)) e =
        let s : Stands num χ n [] W o = subst (Stands num χ n [] W) f (place_stands num c p χ n [] e) in
        let b = s.begins in
        let k = kind_node num n (before num χ [] ∷ []) (after num χ []) W o (stands_seg num s) (omega (arith, b)) in
        and_node num c o n χ (sym k ∙ h) (place_whole c p (at χ n) e) s
