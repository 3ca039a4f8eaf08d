-- The state after a step and after a list of steps: only its configuration changes. Assumes nothing.
use Rattle.std.specs.Prelude.{List, [], ◌∷◌, ℕ, suc, T}
use Rattle.akl.specs.Base.{Result, refused, ok}
use Rattle.akl.specs.StepsText.{Step}
use Rattle.akl.specs.Configuration.{Config}
use Rattle.akl.specs.Step.{step}
use Rattle.store_form.specs.State.{State, program_of, config_of, well_formed_state}
use Rattle.store_form.specs.Holding.{Fits}
use Rattle.store_form.proofs.Keeping.{with_config}

-- A state that has bytes and is well formed: what a store may hold.
pub record Stands (limit : ℕ) (s : State) : Type 0 where
  pub fits : Fits limit s
  pub formed : T (well_formed_state limit s)

-- the state with the configuration of a result
abbrev pub with_result : State → Result Config → Result State
with_result s (refused n) = refused n
with_result s (ok c) = ok (with_config s c)

-- a step's refusal, or the state after it
unfoldable pub state_after : ℕ → State → Step → Result State
state_after limit s k = with_result s (step limit (program_of s) (config_of s) k)

-- "In a list of steps, the accepted ones before the refused one stand, and their number is returned."
pub record Stepped : Type 0 where
  pub accepted : ℕ
  pub refusal : ℕ
  pub state : State

abbrev pub stepped : ℕ → ℕ → State → Stepped
stepped n r s = record { accepted = n; refusal = r; state = s }

-- after steps, n being accepted before them
unfoldable pub states_after : ℕ → State → ℕ → List Step → Stepped
states_after limit s n [] = stepped n 0 s
states_after limit s n (k ∷ ks) = elim (state_after limit s k) [ refused r ↦ stepped n r s | ok t ↦ states_after limit t (suc n) ks ]
