-- An upper bound of the parts of the configuration that a store's bytes hold, from step to step. Assumes nothing.
use Rattle.std.specs.Prelude.{◌≡◌, List, ℕ, ◌≤◌}
use Rattle.std.proofs.Math.Option.{some}
use Rattle.akl.specs.Limits.{most_parts}
use Rattle.akl.specs.Parts.{parts}
use Rattle.store_form.specs.State.{State, config_of}
use Rattle.store_calls.specs.Outcomes.{held}

pub record AtMost (b : List ℕ) (u : ℕ) : Type 0 where
  pub few : (s : State) → held most_parts b ≡ some s → parts (config_of s).root ≤ u

-- a step that was accepted left b, with at most p parts
pub record Carried (b : List ℕ) (p : ℕ) : Type 0 where
  pub most : AtMost b p
  pub limit : p ≤ 2048
