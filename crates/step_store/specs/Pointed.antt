-- A finger in the configuration that a store's bytes hold, from step to step. Assumes nothing.
use Rattle.std.specs.Prelude.{◌≡◌, List, ℕ}
use Rattle.std.proofs.Math.Option.{some}
use Rattle.akl.specs.Limits.{most_parts}
use Rattle.rule_places.specs.declared.Finger.{Finger}
use Rattle.rule_places.specs.Fingers.{Points}
use Rattle.store_form.specs.State.{State}
use Rattle.store_form.specs.Form.{config_words}
use Rattle.store_calls.specs.Outcomes.{held}

pub record Pointed (b : List ℕ) (f : Finger) : Type 0 where
  pub there : (s : State) → held most_parts b ≡ some s → Points (config_words s) f
