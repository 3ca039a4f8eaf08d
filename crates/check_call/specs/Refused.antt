-- What a call that only checks a store hands back: 8, 9, or 0. Assumes nothing.
use Rattle.std.specs.Prelude.{◌≡◌, List, Bool, true, false, ℕ, length, replicate}
use Rattle.std.proofs.Math.Option.{Option, some, none}
use Rattle.akl.specs.Base.{is_some}
use Rattle.akl.specs.Limits.{most_parts}
use Rattle.store_calls.specs.Outcomes.{slices_short, held}
use Rattle.store_lent.specs.Lent.{working_bytes}

-- "8: store or working slice shorter than the documented length", before "9: store holds no well-formed program and configuration"
abbrev pub check_of : Bool → Bool → ℕ
check_of true formed = 8
check_of false true = 0
check_of false false = 9

unfoldable pub check_refusal : List ℕ → ℕ → ℕ
check_refusal b w = check_of (slices_short most_parts working_bytes b w) (is_some (held most_parts b))

pub record CheckCalled (b u u' : List ℕ) (r : ℕ) : Type 0 where
  pub refusal : r ≡ check_refusal b (length u)
  -- "the working slice is zero after every call"
  pub working : u' ≡ replicate (length u) 0
