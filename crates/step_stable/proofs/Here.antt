-- What disturbs a goal is applied at a place of the goal.
use mathlib.Core.Path.{◌≡◌, ap, sym, ◌∙◌, subst}
use mathlib.Core.Bool.{Bool, ◌&&◌, not}
use mathlib.Core.Option.{Option, some, none, some-injective}
use Prim.Native.Nat.{ℕ, ◌+◌, ◌-◌}
use native.Mathlib.Omega.{arith}
use lib.Dec.{T}
use Rattle.constraint.proofs.Lists.{and_T}
use Rattle.akl.specs.Base.{is_some, nth, size, any, range}
use Rattle.akl.specs.Syntax.{Program}
use Rattle.akl.specs.Configuration.{Kind, Node, Ctx, top, in_or, in_and, in_choice, in_guard, plug, Config}
use Rattle.akl.specs.Places.{Place, at, places, place, place_number, inside}
use Rattle.akl.specs.Table.{Rewrites, itself, holder, Row, table, rule_row}
use Rattle.akl.specs.Rules.{effect}
use Rattle.akl.specs.Stability.{fits_row, is_determinate, rewritten, row_disturbs, disturbs, quiescent}
use Rattle.accept.specs.Inner.{AtOrIn, through_or, through_and, through_choice, through_guard, HoldsBox}
use Rattle.accept.proofs.PlaceLaws.{size_places, block_context, place_whole, place_numbered}
use Rattle.accept.proofs.Within.{Inside, inside_iff, holds_iff}
use Rattle.accept.proofs.Stable.{inside_T}
use Rattle.step_stable.proofs.Tests.{same_truth, nth_some, any_nth, nth_any}

module _ (c : Config) {k : Kind} (χ : Ctx k) (n : Node k) (e : plug χ n ≡ c.root) where
  -- the places of the goal are places of the configuration, from the goal's number on
  pub here_there : (q : ℕ) (pl : Place) → nth (places n χ) q ≡ some pl → place c (place_number χ + q) ≡ some pl
  unfolding place
  here_there q pl f = subst (λ g. nth (places g top) (place_number χ + q) ≡ some pl) e (block_context χ n q pl f)

  -- and a place whose number is one of theirs is one of them
  pub there_here : (p : ℕ) (pl : Place) → place c p ≡ some pl → Inside χ n p → (q : ℕ) × (nth (places n χ) q ≡ some pl)
  there_here p pl f h =
      let q = p - place_number χ in
      let x = nth_some (places n χ) q (omega (arith, h.0, h.1, size_places n χ)) in
      let s : place_number χ + q ≡ p = omega (arith, h.0) in
      let y : x.0 ≡ pl = some-injective x.0 pl (sym (here_there q x.0 x.1) ∙ ap (place c) s ∙ f) in
      (q, x.1 ∙ ap (λ (z : Place). some z) y)

  -- what holds a place is in the goal only if the place is
  held_in : {j : Kind} (χ' : Ctx j) (m : Node j) → HoldsBox χ (at χ' m) → AtOrIn χ j χ'
  held_in top m h = h
  held_in (in_or χ' l r) m h = through_or χ' l r h
  held_in (in_and χ' vs σ l r) m h = through_and χ' vs σ l r h
  held_in (in_choice χ' op l r) m h = through_choice χ' op l r h
  held_in (in_guard χ' b) m h = through_guard χ' b h

  -- so a rule that rewrites something in the goal is applied in it
  rewrites_here : {j : Kind} (w : Rewrites) (χ' : Ctx j) (m : Node j) → plug χ' m ≡ c.root → Inside χ n (rewritten w (at χ' m)) → Inside χ n (place_number χ')
  rewrites_here itself χ' m f h = h
  rewrites_here holder χ' m f h = (inside_iff c χ n χ' m e f).1 (held_in χ' m ((holds_iff c χ n χ' m e f).0 h))

  disturbs_here : (P : Program) (r p : ℕ) (pl : Place) → place c p ≡ some pl → T (disturbs P c χ n r pl) → Inside χ n p
  unfolding disturbs
  disturbs_here P r p (at χ' m) f t = go (rule_row r) t
    where
      go : (o : Option Row) → T (row_disturbs P c χ n r (at χ' m) o) → Inside χ n p
      go none u = absurd u
      go (some w) u =
          let a = (and_T (is_determinate w.mode && fits_row w (at χ' m) && inside χ n (rewritten w.rewrites (at χ' m))) (is_some (effect P c.next r (at χ' m)))).0 u in
          let b = (and_T (is_determinate w.mode && fits_row w (at χ' m)) (inside χ n (rewritten w.rewrites (at χ' m)))).0 a.0 in
          subst (Inside χ n) (place_numbered c p χ' m f) (rewrites_here w.rewrites χ' m (place_whole c p (at χ' m) f) ((inside_T χ n (rewritten w.rewrites (at χ' m))).0 b.1))

  -- Only the goal's own places are to be looked at.
  pub quiescent_here : (P : Program) → quiescent P c χ n ≡ not (any (λ pl. any (λ r. disturbs P c χ n r pl) (range 1 (size table))) (places n χ))
  unfolding quiescent place
  quiescent_here P = ap not (same_truth (any at_place (places c.root top)) (any at_place (places n χ)) in_it of_it)
    where
      at_place : Place → Bool
      at_place pl = any (λ r. disturbs P c χ n r pl) (range 1 (size table))

      in_it : T (any at_place (places c.root top)) → T (any at_place (places n χ))
      in_it t =
          let a = any_nth at_place (places c.root top) t in
          let b = any_nth (λ r. disturbs P c χ n r a.1) (range 1 (size table)) a.3 in
          let q = there_here a.0 a.1 a.2 (disturbs_here P b.1 a.0 a.1 a.2 b.3) in
          nth_any at_place (places n χ) q.0 a.1 q.1 a.3

      of_it : T (any at_place (places n χ)) → T (any at_place (places c.root top))
      of_it t =
          let a = any_nth at_place (places n χ) t in
          nth_any at_place (places c.root top) (place_number χ + a.0) a.1 (here_there a.0 a.1 a.2) a.3
