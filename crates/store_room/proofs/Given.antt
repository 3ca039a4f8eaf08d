-- Ranges that hold the words of the stores at or around a node have room in the log, and there is a position for each application.
use mathlib.Core.Path.{◌≡◌, refl, ap, ap₂, sym, ◌∙◌, subst}
use mathlib.Core.Bool.{Bool, true, false, cond}
use mathlib.Core.List.{List, [], ◌∷◌, ◌++◌}
use Prim.Native.Nat.{ℕ, zero, suc, ◌+◌, ◌≤◌}
use native.Mathlib.Omega.{arith}
use lib.Dec.{ltb}
use lib.ListN.{length}
use Rattle.constraint.specs.Constraint.{Store}
use Rattle.akl.specs.Base.{Name, size}
use Rattle.akl.specs.Configuration.{Kind, goal, Node, Ctx, plug}
use Rattle.akl.specs.Parts.{parts}
use Rattle.mem_words.specs.declared.Word.{Word}
use Rattle.mem_sorts.specs.declared.Kind.TheVariants.{And}
use Rattle.mem_copies.specs.Runs.{length_run}
use Rattle.store_words.specs.Boxes.{store_words}
use Rattle.store_words.specs.Tables.{FewNode}
use Rattle.store_words.proofs.Formed.{node_few}
use Rattle.solve_tells.specs.Tells.{apps_of}
use Rattle.work_log.specs.Logs.{stop}
use Rattle.work_marks.specs.Marks.{apps_told}
use Rattle.rule_words.specs.Scans.{around}
use Rattle.rule_effects.specs.Conditions.{kind_at}
use Rattle.rule_ranges.specs.Ranges.{Range, store_range, and_its, ranges, log_words, apps_all}
use Rattle.rule_ranges.specs.Asked.{Within, RoomFor}
use Rattle.store_form.specs.State.{State, table, number_in, program_of}
use Rattle.store_steps.specs.After.{Stands}
use Rattle.store_room.specs.Stores.{context_stores, node_stores, words_needed, constraints_in}
use Rattle.store_room.specs.Spelling.{Spelled, SpelledAll}
use Rattle.store_room.proofs.Freshness.{formed_state}
use Rattle.store_room.proofs.Rooms.{few_around, words_around, sizes_around, words_at, sizes_at}
use Rattle.store_room.proofs.Applications.{apps_store}

module _ (num : Name → ℕ) (W : List Word) where
  spelled_long : {r : Range} {σ : Store} → Spelled num W r σ → r.len ≡ length (store_words num σ [])
  spelled_long {r} p = sym (length_run r.from r.len W p.within) ∙ ap length p.words

  spelled_apps : {r : Range} {σ : Store} → Spelled num W r σ → apps_told W r.from r.len ≤ size σ
  spelled_apps {r} {σ} p =
      let e : apps_told W r.from r.len ≡ apps_of (length (store_words num σ [])) (store_words num σ [] ++ stop) = ap₂ (λ (k : ℕ) (u : List Word). apps_of k (u ++ stop)) (spelled_long p) p.words in
      omega (arith, e, apps_store num σ)

  within_spelled : (rs : List Range) (σs : List Store) → SpelledAll num W rs σs → Within W rs
  unfolding Within
  within_spelled [] [] p = tt
  within_spelled [] (σ ∷ σs) p = absurd p
  within_spelled (r ∷ rs) [] p = absurd p
  within_spelled (r ∷ rs) (σ ∷ σs) p = (p.0.within, within_spelled rs σs p.1)

  log_spelled : (rs : List Range) (σs : List Store) → SpelledAll num W rs σs → log_words rs ≡ words_needed num σs
  unfolding log_words words_needed
  log_spelled [] [] p = refl
  log_spelled [] (σ ∷ σs) p = absurd p
  log_spelled (r ∷ rs) [] p = absurd p
  log_spelled (r ∷ rs) (σ ∷ σs) p = omega (arith, spelled_long p.0, log_spelled rs σs p.1)

  apps_spelled : (rs : List Range) (σs : List Store) → SpelledAll num W rs σs → apps_all W rs ≤ constraints_in σs
  unfolding apps_all constraints_in
  apps_spelled [] [] p = omega arith
  apps_spelled [] (σ ∷ σs) p = absurd p
  apps_spelled (r ∷ rs) [] p = absurd p
  apps_spelled (r ∷ rs) (σ ∷ σs) p = omega (arith, spelled_apps p.0, apps_spelled rs σs p.1)

  pub room_for : (rs : List Range) (σs : List Store) → SpelledAll num W rs σs → words_needed num σs ≤ 24576 → constraints_in σs ≤ 2048 → RoomFor W rs
  room_for rs σs p a b = record {
    within = within_spelled rs σs p;
    log = omega (arith, log_spelled rs σs p, a);
    apps = omega (arith, apps_spelled rs σs p, b);
  }

-- The stores of a well-formed state.
module _ (s : State) (h : Stands 2048 s) {k : Kind} (χ : Ctx k) (n : Node k) (e : s.config.root ≡ plug χ n) (W : List Word) (rs : List Range) where
  root_few : FewNode 8 (plug χ n)
  root_few = subst (λ (g : Node goal). FewNode 8 g) e (node_few s.config.root (program_of s) (formed_state 2048 s h).statements)

  few_parts : parts (plug χ n) ≤ 2048
  few_parts = subst (λ (g : Node goal). parts g ≤ 2048) e (formed_state 2048 s h).fit

  -- around a node
  pub room_around : SpelledAll (number_in (table s)) W rs (context_stores χ) → RoomFor W rs
  room_around p =
      let f = few_around χ n root_few in
      let w = words_around (number_in (table s)) χ n f.1 in
      let z = sizes_around χ n in
      room_for (number_in (table s)) W rs (context_stores χ) p (omega (arith, w, few_parts)) (omega (arith, z, few_parts))

  -- at and around it
  pub room_at : SpelledAll (number_in (table s)) W rs (node_stores χ n) → RoomFor W rs
  room_at p =
      let w = words_at (number_in (table s)) χ n root_few in
      let z = sizes_at χ n in
      room_for (number_in (table s)) W rs (node_stores χ n) p (omega (arith, w, few_parts)) (omega (arith, z, few_parts))

-- ---------------------------------------------------------------------------------------------
-- Ranges in another order.

within_append : (W : List Word) (a b : List Range) → Within W a → Within W b → Within W (a ++ b)
unfolding Within
within_append W [] b p q = q
within_append W (r ∷ a) b p q = (p.0, within_append W a b p.1 q)

within_parts : (W : List Word) (a b : List Range) → Within W (a ++ b) → Within W a × Within W b
unfolding Within
within_parts W [] b p = (tt, p)
within_parts W (r ∷ a) b p = let w = within_parts W a b p.1 in ((p.0, w.0), w.1)

log_both : (a b : List Range) → log_words (a ++ b) ≡ log_words a + log_words b
unfolding log_words
log_both [] b = omega arith
log_both (r ∷ a) b = omega (arith, log_both a b)

apps_both : (W : List Word) (a b : List Range) → apps_all W (a ++ b) ≡ apps_all W a + apps_all W b
unfolding apps_all
apps_both W [] b = omega arith
apps_both W (r ∷ a) b = omega (arith, apps_both W a b)

pub room_turned : (W : List Word) (a b : List Range) → RoomFor W (a ++ b) → RoomFor W (b ++ a)
room_turned W a b p =
    let w = within_parts W a b p.within in
    record {
      within = within_append W b a w.1 w.0;
      log = omega (arith, log_both a b, log_both b a, p.log);
      apps = omega (arith, apps_both W a b, apps_both W b a, p.apps);
    }
