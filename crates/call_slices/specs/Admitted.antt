-- 8 and 9, which come before all else that is asked of a store. Assumes nothing.
use Rattle.std.specs.Prelude.{◌≡◌, List, ℕ, Bool, true, false, Result, Ok, Err, ⊤}
use Rattle.std.proofs.Math.Option.{Option, some, none}
use Rattle.akl.specs.Limits.{most_parts}
use Rattle.refusals.specs.declared.Refusal.{Refusal}
use Rattle.refusals.specs.declared.Refusal.TheVariants.{TooShort, NotWellFormed}
use Rattle.store_form.specs.State.{State}
use Rattle.store_calls.specs.Outcomes.{slices_short, held}
use Rattle.store_lent.specs.Lent.{working_bytes}

-- "Lowest number first": 8 "store or working slice shorter than the documented length", then 9 "store holds no well-formed program and
-- configuration"
abbrev pub admitted : Bool → Option State → Result ⊤ Refusal
admitted true h = Err TooShort
admitted false none = Err NotWellFormed
admitted false (some s) = Ok tt

-- r says whether a call on the store b with a working slice of the length w goes on
pub record Admits (b : List ℕ) (w : ℕ) (r : Result ⊤ Refusal) : Type 0 where
  pub is : r ≡ admitted (slices_short most_parts working_bytes b w) (held most_parts b)
