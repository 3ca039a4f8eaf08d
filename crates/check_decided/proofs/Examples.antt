-- All is decided of the store of document 01's record at its start, whatever stands behind it.
use mathlib.Core.List.{List, ◌++◌}
use Prim.Native.Nat.{ℕ}
use native.Mathlib.Omega.{arith}
use Rattle.akl.specs.Limits.{most_parts}
use Rattle.store_form.specs.Form.{store_bytes}
use Rattle.store_form.proofs.Examples.{record_state}
use Rattle.store_steps.proofs.Examples.{record_stands}
use Rattle.store_calls.proofs.OnBytes.{begin_held}
use Rattle.check_decided.specs.Decided.{Decided}
use Rattle.check_decided.proofs.Decided.{held_decided}

pub record_decided : (rest : List ℕ) → Decided most_parts (store_bytes most_parts record_state ++ rest) record_state.program record_state.config.root
record_decided rest = held_decided most_parts (omega arith) (store_bytes most_parts record_state ++ rest) record_state (begin_held most_parts (omega arith) 0 rest record_state record_stands)
