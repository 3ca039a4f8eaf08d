-- Bytes put into a lent slice that may be too short for them, or only counted. Assumes nothing.
use Rattle.std.specs.Prelude.{◌≡◌, List, ◌++◌, Bool, true, false, ℕ, ◌+◌, ◌<◌, ◌≤◌, length, take, drop}

-- O with the bytes T from `at` on; O itself where nothing is to be written
unfoldable pub put : Bool → List ℕ → ℕ → List ℕ → List ℕ
put true T at O = take at O ++ (T ++ drop (at + length T) O)
put false T at O = O

-- T was put from `at` on, if w says so, and r is where it ends. Where T does not fit, r is the length + 1, and stays so: from there
-- on nothing fits, not even no byte. Nothing is said then of what was written.
pub record Put (T : List ℕ) (w : Bool) (O : List ℕ) (at : ℕ) (O' : List ℕ) (r : ℕ) : Type 0 where
  pub fits : at + length T ≤ length O → (r ≡ at + length T) × (O' ≡ put w T at O)
  pub over : length O < at + length T → r ≡ length O + 1
  pub kept : w ≡ false → O' ≡ O
  pub long : length O' ≡ length O

-- where n bytes from `at` on end in a slice of `cap` bytes
pub record Ends (cap at n r : ℕ) : Type 0 where
  pub fits : at + n ≤ cap → r ≡ at + n
  pub over : cap < at + n → r ≡ cap + 1

-- X is O with T from `at` on
pub record Filled (T O : List ℕ) (at : ℕ) (X : List ℕ) : Type 0 where
  pub list : X ≡ put true T at O
  pub long : length X ≡ length O
