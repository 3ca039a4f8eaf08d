-- The state after a step means the step, has bytes and is well formed; likewise after lists of steps and of calls.
use mathlib.Core.Path.{◌≡◌, refl, ap, sym, ◌∙◌, subst}
use mathlib.Core.Logic.{◌↔◌}
use mathlib.Core.List.{List, [], ◌∷◌}
use mathlib.Core.Option.{some}
use Prim.Native.Nat.{ℕ, suc, ◌<◌}
use native.Mathlib.Omega.{arith}
use Rattle.akl.specs.Base.{Result, refused, ok}
use Rattle.akl.specs.StepsText.{Step}
use Rattle.akl.specs.Configuration.{Config}
use Rattle.akl.specs.Step.{step, Run, steps}
use Rattle.theory.specs.Formed.{Formed}
use Rattle.theory.proofs.Reflect.{formed_iff}
use Rattle.accept.proofs.Accepted.{accepts_iff}
use Rattle.accept.proofs.StepTheorem.{step_formed}
use Rattle.runs.specs.Calls.{Call, Move, after_calls, calls_moves, Chain}
use Rattle.runs.proofs.Runs.{calls_chain}
use Rattle.store_form.specs.State.{State, table, program_of, config_of, names_of}
use Rattle.store_form.specs.Form.{store_bytes}
use Rattle.store_form.specs.Holding.{read_store}
use Rattle.store_form.specs.Named.{InTable}
use Rattle.store_form.proofs.Keeping.{with_config, fits_with}
use Rattle.store_form.proofs.Reading.{store_back}
use Rattle.store_steps.specs.After.{Stands, with_result, state_after, Stepped, stepped, states_after}
use Rattle.store_steps.proofs.Words.{program_in_table, config_in_table}
use Rattle.store_steps.proofs.Rules.{step_named}

-- a refusal is no result
not_both : {A : Type 0} (n : ℕ) (a : A) → refused n ≡ ok a → ⊥
not_both {A} n a e = let z : ◌≡◌ {A = ℕ} 0 1 = ap (λ (r : Result A). elim r as (λ v. ℕ) [ refused k ↦ 0 | ok b ↦ 1 ]) e in omega arith

ok_same : {A : Type 0} (a b : A) → ok a ≡ ok b → a ≡ b
ok_same {A} a b e = ap (λ (r : Result A). elim r as (λ v. A) [ refused k ↦ a | ok x ↦ x ]) e

-- ---------------------------------------------------------------------------------------------
-- What it means: the step, with all but the configuration as before.

module _ (limit : ℕ) (s : State) (k : Step) where
  -- It is refused exactly when the step is, with the same number.
  pub after_refused : (n : ℕ) → (state_after limit s k ≡ refused n) ↔ (step limit (program_of s) (config_of s) k ≡ refused n)
  unfolding state_after
  after_refused n = (λ e. go (step limit (program_of s) (config_of s) k) e, λ e. ap (with_result s) e)
    where
      go : (r : Result Config) → with_result s r ≡ refused n → r ≡ refused n
      go (refused m) e = ap (λ (r : Result State). elim r as (λ v. Result Config) [ refused i ↦ refused i | ok t ↦ ok s.config ]) e
      go (ok c) e = absurd (not_both n (with_config s c) (sym e))

  -- It is t exactly when the step leads to a configuration, and t is the state with that one.
  pub after_accepted : (t : State) → (state_after limit s k ≡ ok t) ↔ ((d : Config) × (step limit (program_of s) (config_of s) k ≡ ok d) × (t ≡ with_config s d))
  unfolding state_after
  after_accepted t = (λ e. go (step limit (program_of s) (config_of s) k) e, λ w. ap (with_result s) w.1 ∙ ap (λ (u : State). ok u) (sym w.2))
    where
      go : (r : Result Config) → with_result s r ≡ ok t → (d : Config) × (r ≡ ok d) × (t ≡ with_config s d)
      go (refused m) e = absurd (not_both m t e)
      go (ok d) e = (d, refl, sym (ok_same (with_config s d) t e))

-- the run after a step's result
abbrev rest : ℕ → State → ℕ → List Step → Result Config → Run
rest limit s n ks r = elim r as (λ x. Run) [ refused m ↦ record { accepted = n; refusal = m; config = s.config } | ok d ↦ steps limit s.program d (suc n) ks ]

-- The number accepted, the refusal of the next step and the configuration are those of the steps.
pub steps_mean : (limit : ℕ) (ks : List Step) (s : State) (n : ℕ) →
    states_after limit s n ks ≡ stepped (steps limit (program_of s) (config_of s) n ks).accepted (steps limit (program_of s) (config_of s) n ks).refusal (with_config s (steps limit (program_of s) (config_of s) n ks).config)
unfolding states_after steps state_after
steps_mean limit [] s n = refl
steps_mean limit (k ∷ ks) s n = go (step limit (program_of s) (config_of s) k) (λ d. steps_mean limit ks (with_config s d) (suc n))
  where
    go : (r : Result Config) →
        ((d : Config) → states_after limit (with_config s d) (suc n) ks ≡ stepped (steps limit s.program d (suc n) ks).accepted (steps limit s.program d (suc n) ks).refusal (with_config s (steps limit s.program d (suc n) ks).config)) →
        (elim (with_result s r) as (λ x. Stepped) [ refused m ↦ stepped n m s | ok t ↦ states_after limit t (suc n) ks ]) ≡ stepped (rest limit s n ks r).accepted (rest limit s n ks r).refusal (with_config s (rest limit s n ks r).config)
    go (refused m) ih = refl
    go (ok d) ih = ih d

-- ---------------------------------------------------------------------------------------------
-- It has bytes and is well formed.

module _ (limit : ℕ) (low : limit < 65536) where
  pub step_stands : (s : State) → Stands limit s → (k : Step) (d : Config) → step limit (program_of s) (config_of s) k ≡ ok d → Stands limit (with_config s d)
  step_stands s w k d e =
      let f : Formed limit (program_of s) (names_of s) (config_of s) = (formed_iff limit (program_of s) (names_of s) (config_of s)).0 w.formed in
      let g : Formed limit (program_of s) (names_of s) d = step_formed limit (program_of s) (names_of s) (config_of s) k d f ((accepts_iff limit (program_of s) (config_of s) k d).0 e) in
      let names = step_named (InTable (table s)) limit (program_of s) (config_of s) k d e (program_in_table limit s w.fits) (config_in_table limit s w.fits) in
      record {
        fits = fits_with limit low s w.fits (program_of s) (names_of s) d g names;
        formed = (formed_iff limit (program_of s) (names_of s) d).1 g;
      }

  -- The state after a step that is accepted.
  pub after_stands : (s : State) → Stands limit s → (k : Step) (t : State) → state_after limit s k ≡ ok t → Stands limit t
  after_stands s w k t e =
      let h = (after_accepted limit s k t).0 e in
      subst (Stands limit) (sym h.2) (step_stands s w k h.0 h.1)

  -- The state after a list of steps, the refused one being the last that is tried.
  pub steps_stand : (ks : List Step) (s : State) → Stands limit s → (n : ℕ) → Stands limit (states_after limit s n ks).state
  unfolding states_after
  steps_stand [] s w n = w
  steps_stand (k ∷ ks) s w n = go (state_after limit s k) refl (λ t h. steps_stand ks t h (suc n))
    where
      go : (r : Result State) → state_after limit s k ≡ r → ((t : State) → Stands limit t → Stands limit (states_after limit t (suc n) ks).state) →
          Stands limit (elim r as (λ x. Stepped) [ refused m ↦ stepped n m s | ok t ↦ states_after limit t (suc n) ks ]).state
      go (refused m) e ih = w
      go (ok t) e ih = ih t (after_stands s w k t e)

  -- Where accepted steps lead, one after the other.
  pub chain_stands : (ms : List Move) (s : State) → Stands limit s → (d : Config) → Chain limit (program_of s) (config_of s) ms d → Stands limit (with_config s d)
  chain_stands [] s w d p = subst (λ (c : Config). Stands limit (with_config s c)) p w
  chain_stands (m ∷ ms) s w d p =
      let e = subst (λ (c : Config). step limit (program_of s) c m.taken ≡ ok m.after) p.0 p.1 in
      chain_stands ms (with_config s m.after) (step_stands s w m.taken m.after e) d p.2

  -- The state with the configuration after any list of calls.
  pub calls_stand : (s : State) → Stands limit s → (ks : List Call) → Stands limit (with_config s (after_calls limit (program_of s) (config_of s) ks))
  calls_stand s w ks = chain_stands (calls_moves limit (program_of s) (config_of s) ks) s w (after_calls limit (program_of s) (config_of s) ks) (calls_chain limit (program_of s) ks (config_of s))

  -- Its bytes give it back.
  pub stands_back : (s : State) → Stands limit s → read_store limit (store_bytes limit s) ≡ some s
  stands_back s w = store_back limit (omega arith) s w.fits
