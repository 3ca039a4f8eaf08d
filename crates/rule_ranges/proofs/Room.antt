-- The room that the ranges around a position take is that of the stores of its context.
use mathlib.Core.Path.{◌≡◌, subst}
use mathlib.Core.List.{List, [], ◌∷◌, ◌++◌}
use Prim.Native.Nat.{ℕ, ◌+◌, ◌≤◌, ◌<◌}
use native.Mathlib.Omega.{arith}
use Rattle.constraint.specs.Constraint as constraint
use Rattle.akl.specs.Base.{Name}
use Rattle.akl.specs.Configuration as akl
use Rattle.akl.specs.Configuration.{goal, member, Node, and, Nodes, Ctx}
use Rattle.mem_words.specs.declared.Word.{Word}
use Rattle.rule_effects.specs.Effects.{behind}
use Rattle.rule_effects.specs.Standing.{Stands}
use Rattle.rule_ranges.specs.Ranges.{Range, ranges_from, log_words, apps_all}
use Rattle.rule_ranges.specs.Asked.{Within, RoomFor}
use Rattle.rule_ranges.proofs.Ranged.{Ranged, log_of, apps_of_stores, within_ranged, log_ranged, apps_ranged}
use Rattle.rule_ranges.proofs.Environment.{context_stores}
use Rattle.rule_ranges.proofs.Judged.{env_ranged, both_ranged}
use Rattle.rule_ranges.proofs.Split.{ranges_split}

pub room_ranged : {num : Name → ℕ} {W : List Word} {rs : List Range} {σs : List constraint.Store} → Ranged num W rs σs → log_of num σs ≤ 24576 → apps_of_stores num σs ≤ 2048 → RoomFor W rs
room_ranged h l a = record { within = within_ranged h; log = let e = log_ranged h in omega (arith, e, l); apps = let e = apps_ranged h in omega (arith, e, a) }

-- around a node; around an and-box and in it
pub room_around : (num : Name → ℕ) {k : akl.Kind} {χ : Ctx k} {n : Node k} {Z W : List Word} {i : ℕ} → Stands num χ n Z W i → log_of num (context_stores χ) ≤ 24576 → apps_of_stores num (context_stores χ) ≤ 2048 → RoomFor W (ranges_from W 0 i)
room_around num s = room_ranged (env_ranged num s)

pub room_both : (num : Name → ℕ) {χ : Ctx goal} {vs : List ℕ} {σ : constraint.Store} {ms : Nodes member} {Z W : List Word} {j : ℕ} → Stands num χ (and vs σ ms) Z W j
    → log_of num (σ ∷ context_stores χ) ≤ 24576 → apps_of_stores num (σ ∷ context_stores χ) ≤ 2048 → RoomFor W (ranges_from W 0 (j + 1))
room_both num s = room_ranged (both_ranged num s)

-- ---------------------------------------------------------------------------------------------
-- The order of ranges does not matter to it.

within_append : (W : List Word) (a b : List Range) → Within W a → Within W b → Within W (a ++ b)
unfolding Within
within_append W [] b p q = q
within_append W (r ∷ a) b p q = (p.0, within_append W a b p.1 q)

within_parts : (W : List Word) (a b : List Range) → Within W (a ++ b) → Within W a × Within W b
unfolding Within
within_parts W [] b p = (tt, p)
within_parts W (r ∷ a) b p = let q = within_parts W a b p.1 in ((p.0, q.0), q.1)

log_append : (a b : List Range) → log_words (a ++ b) ≡ log_words a + log_words b
unfolding log_words
log_append [] b = omega arith
log_append (r ∷ a) b = omega (arith, log_append a b)

apps_append : (W : List Word) (a b : List Range) → apps_all W (a ++ b) ≡ apps_all W a + apps_all W b
unfolding apps_all
apps_append W [] b = omega arith
apps_append W (r ∷ a) b = omega (arith, apps_append W a b)

pub room_turned : (W : List Word) (a b : List Range) → RoomFor W (a ++ b) → RoomFor W (b ++ a)
room_turned W a b h =
    let w = within_parts W a b h.within in
    let l = h.log in
    let p = h.apps in
    record {
      within = within_append W b a w.1 w.0;
      log = omega (arith, l, log_append a b, log_append b a);
      apps = omega (arith, p, apps_append W a b, apps_append W b a);
    }

-- those around a goal, and then those from the goal down to a node in it
pub room_split : (num : Name → ℕ) {k k' : akl.Kind} {χ : Ctx k} {χ' : Ctx k'} {n : Node k} {m : Node k'} {Z W : List Word} {g j : ℕ} → Stands num χ n Z W g → Stands num χ' m Z W j → g ≤ j → j < behind W g
    → RoomFor W (ranges_from W 0 (j + 1)) → RoomFor W (ranges_from W 0 g ++ ranges_from W g (j + 1))
room_split num {W = W} {g = g} {j = j} s t h l r = room_turned W (ranges_from W g (j + 1)) (ranges_from W 0 g) (subst (RoomFor W) (ranges_split num s t h l) r)
