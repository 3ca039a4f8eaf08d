-- What the program `runcheck` writes, piece by piece. s is the state that the store holds after the steps. Assumes nothing.
use Rattle.std.specs.Prelude.{List, [], ◌++◌, false, ℕ, zero, suc}
use Rattle.std.proofs.Math.Option.{Option, some, none}
use Rattle.akl.specs.Base.{size}
use Rattle.akl.specs.Answers.{answers}
use Rattle.akl.specs.Record.{two_lines}
use Rattle.store_form.specs.State.{State}
use Rattle.record_lines.specs.Lines.{answer_piece, state_piece}

abbrev pub piece_bytes : Option (List ℕ) → List ℕ
piece_bytes none = []
piece_bytes (some t) = t

-- the lines of m answers, from the number k + 1 on
unfoldable pub lines_from : State → ℕ → ℕ → List ℕ
lines_from s k zero = []
lines_from s k (suc m) = piece_bytes (answer_piece false (some s) (suc k)) ++ lines_from s (suc k) m

-- "(steps accepted; refusal of the next step or 0; answers; state)": a steps are accepted, n is the refusal
unfoldable pub pieces : State → ℕ → ℕ → List ℕ
pieces s a n = (two_lines a n ++ lines_from s 0 (size (answers s.config.root))) ++ piece_bytes (state_piece false (some s))
