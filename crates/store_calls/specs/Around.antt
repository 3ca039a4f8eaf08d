-- What calls leave as it was. Assumes nothing.
use Rattle.std.specs.Prelude.{◌≡◌, List, ℕ, length, drop}
use Rattle.runs.specs.Outcomes.{refusal}
use Rattle.store_form.specs.Sizes.{store_length}
use Rattle.store_calls.specs.Outcomes.{Called}

-- "A refused step or call of one piece changes no store": b is the store's slice before it.
abbrev pub Kept : List ℕ → Called → Type 0
Kept b r = (n : ℕ) → r.told ≡ refusal n → r.store ≡ b

-- A slice c that is as long as b, and the same behind the store.
pub record SameAround (limit : ℕ) (b c : List ℕ) : Type 0 where
  pub long : length c ≡ length b
  pub behind : drop (store_length limit) c ≡ drop (store_length limit) b
