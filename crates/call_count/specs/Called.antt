-- What a question for the number of answers hands back, on any slices. Assumes nothing.
use Rattle.std.specs.Prelude.{◌≡◌, List, Bool, true, false, ℕ, ◌*◌, length, replicate}
use Rattle.std.proofs.Math.Option.{Option, some, none}
use Rattle.akl.specs.Base.{size}
use Rattle.akl.specs.Limits.{most_parts}
use Rattle.akl.specs.Answers.{answers}
use Rattle.store_form.specs.State.{State}
use Rattle.store_calls.specs.Outcomes.{slices_short, held}
use Rattle.store_lent.specs.Lent.{working_bytes}

-- The number of answers and the refusal in one number: refusals are below 256, so a multiple of 256 is no refusal. "Lowest number
-- first": 8 "store or working slice shorter than the documented length", then 9 "store holds no well-formed program and
-- configuration".
abbrev pub count_told : Bool → Option State → ℕ
count_told true h = 8
count_told false none = 9
count_told false (some s) = 256 * size (answers s.config.root)

-- b is the store's slice, w the length of the working slice, x what is handed back
pub record CountTo (b : List ℕ) (w : ℕ) (x : ℕ) : Type 0 where
  pub number : x ≡ count_told (slices_short most_parts working_bytes b w) (held most_parts b)

-- "the working slice is zero after every call"
pub record CountCalled (b u u' : List ℕ) (x : ℕ) : Type 0 where
  pub count : CountTo b (length u) x
  pub working : u' ≡ replicate (length u) 0
