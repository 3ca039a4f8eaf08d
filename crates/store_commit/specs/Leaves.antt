-- What a step answers, r, and leaves of the store's slice L, X: its refusal and L; or 0 and the store of the state that it leads to.
-- Assumes nothing.
use Rattle.std.specs.Prelude.{◌≡◌, List, ℕ}
use Rattle.akl.specs.Base.{Result, refused, ok}
use Rattle.akl.specs.Limits.{most_parts}
use Rattle.store_form.specs.State.{State}
use Rattle.store_calls.specs.Outcomes.{put_state}

abbrev pub Leaves : List ℕ → Result State → List ℕ → ℕ → Type 0
Leaves L (refused m) X r = (r ≡ m) × (X ≡ L)
Leaves L (ok t) X r = (r ≡ 0) × (X ≡ put_state most_parts L t)
