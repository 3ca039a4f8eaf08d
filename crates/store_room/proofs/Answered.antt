-- What the solver answers at places of a well-formed state is what the definitions ask there: its labels are different, its names
-- are spelt by them, and locals are fresh.
use mathlib.Core.Path.{◌≡◌, subst}
use mathlib.Core.Bool.{Bool}
use mathlib.Core.List.{List, [], ◌++◌, append-nil}
use Prim.Native.Nat.{ℕ, ◌<◌, ◌≤◌}
use Rattle.constraint.specs.Constraint.{Store, Fresh}
use Rattle.constraint.specs.Solve.{satisfiable?, quiet?}
use Rattle.akl.specs.Base.{all}
use Rattle.akl.specs.Configuration.{Kind, goal, member, Node, and, Nodes, nil, Ctx, plug, env}
use Rattle.akl.specs.Places.{places}
use Rattle.akl.specs.Stability.{locals, stores_down}
use Rattle.accept.specs.AtPlaces.{stores_at}
use Rattle.store_words.specs.Tables.{SpeltNode}
use Rattle.rule_effects.specs.Effects.{behind}
use Rattle.rule_effects.specs.Standing.{Stands as StandsAt}
use Rattle.rule_ranges.specs.Asked.{SatIn, QuietIn}
use Rattle.rule_ranges.proofs.Judged as judged
use Rattle.rule_ranges.proofs.Quieted as quieted
use Rattle.rule_ranges.proofs.Stable as stable
use Rattle.store_form.specs.State.{State, table, number_in}
use Rattle.store_form.specs.Form.{config_words}
use Rattle.store_steps.specs.After.{Stands}
use Rattle.store_room.proofs.Freshness.{fresh}
use Rattle.store_room.proofs.Labels.{lab_of, labels_differ, labels_spell}

module _ (limit : ℕ) (s : State) (h : Stands limit s) where
  spelt_there : (g : Node goal) → s.config.root ≡ g → SpeltNode (number_in (table s)) (lab_of s) g
  spelt_there g e = subst (λ (m : Node goal). SpeltNode (number_in (table s)) (lab_of s) m) e (labels_spell limit s h.fits)

  -- have the store of an and-box at j and its environment a solution?
  pub sat_state : (χ : Ctx goal) (vs : List ℕ) (σ : Store) (ms : Nodes member) (j : ℕ) (r : Bool) → s.config.root ≡ plug χ (and vs σ ms) → StandsAt (number_in (table s)) χ (and vs σ ms) [] (config_words s) j
      → SatIn (config_words s) j r → r ≡ satisfiable? (env χ ++ σ)
  sat_state χ vs σ ms j r e p q = judged.sat_at (number_in (table s)) (spelt_there (plug χ (and vs σ ms)) e) (labels_differ limit s h.fits) p q

  -- are the stores down to an and-box at j inside the goal at g quiet for the goal's environment?
  pub quiet_state : {k : Kind} (χ : Ctx k) (n : Node k) (g : ℕ) (χ' : Ctx goal) (vs : List ℕ) (σ : Store) (ms : Nodes member) (j : ℕ) (r : Bool)
      → s.config.root ≡ plug χ n → StandsAt (number_in (table s)) χ n [] (config_words s) g
      → s.config.root ≡ plug χ' (and vs σ ms) → StandsAt (number_in (table s)) χ' (and vs σ ms) [] (config_words s) j → g ≤ j → j < behind (config_words s) g
      → QuietIn (config_words s) g j r → r ≡ quiet? (locals n) (env χ) (env χ' ++ σ)
  quiet_state χ n g χ' vs σ ms j r e p e' p' l m q =
      quieted.quiet_at (number_in (table s)) (lab_of s) (spelt_there (plug χ n) e) (spelt_there (plug χ' (and vs σ ms)) e') (labels_differ limit s h.fits) (fresh limit s h χ n e) p p' l m q

  -- is a solved guard at g quiet?
  pub guard_state : (χ : Ctx goal) (vs : List ℕ) (σ : Store) (g : ℕ) (r : Bool) → s.config.root ≡ plug χ (and vs σ nil) → StandsAt (number_in (table s)) χ (and vs σ nil) [] (config_words s) g
      → QuietIn (config_words s) g g r → r ≡ quiet? vs (env χ) σ
  unfolding locals
  guard_state χ vs σ g r e p q =
      quieted.quiet_guard (number_in (table s)) (lab_of s) (spelt_there (plug χ (and vs σ nil)) e) (labels_differ limit s h.fits) (subst (λ (l : List ℕ). Fresh l (env χ)) (append-nil vs) (fresh limit s h χ (and vs σ nil) e)) p q

  -- the stores that a stable goal is asked of, place by place
  pub stable_state : {k : Kind} (χ : Ctx k) (n : Node k) → s.config.root ≡ plug χ n → all (quiet? (locals n) (env χ)) (stores_down n []) ≡ all (λ pl. all (quiet? (locals n) (env χ)) (stores_at pl)) (places n χ)
  stable_state χ n e = stable.stable_stores n χ (fresh limit s h χ n e)
