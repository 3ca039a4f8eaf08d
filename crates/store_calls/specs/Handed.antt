-- An outcome as what a host gets: a number, a count, and the slice that it lent for a text. Assumes nothing.
use Rattle.std.specs.Prelude.{List, ◌++◌, ℕ, length, drop}
use Rattle.runs.specs.Outcomes.{Outcome, refusal, accepted, shown, stands}

-- the refusal, of the call or of the next step of a steps text; 0 where there is none
unfoldable pub returned : Outcome → ℕ
returned (refusal n) = n
returned (accepted n r) = r
returned (shown t) = 0
returned (stands s) = 0

-- how many steps are accepted
unfoldable pub counted : Outcome → ℕ
counted (refusal n) = 0
counted (accepted n r) = n
counted (shown t) = 0
counted (stands s) = 0

-- The output slice after the call: "past an answer's text the slice is unchanged", and a refused call changes none.
unfoldable pub written : List ℕ → Outcome → List ℕ
written out (refusal n) = out
written out (accepted n r) = out
written out (shown t) = t ++ drop (length t) out
written out (stands s) = out
