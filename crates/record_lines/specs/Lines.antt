-- The lines of the record for a store's slice b. O is the lent slice before the call and O' after it, r where the piece ends, if there is one; u and u' are
-- the working slice. Assumes nothing.
use Rattle.std.specs.Prelude.{◌≡◌, List, ◌++◌, Bool, true, false, ℕ, ◌-◌, ◌≤◌, ◌<◌, length, replicate}
use Rattle.std.specs.Prelude as std
use Rattle.std.specs.Prelude.{Some, None}
use Rattle.std.proofs.Math.Option.{Option, some, none}
use borrow.Rule.Slice.PartMut.{put_mid}
use Rattle.akl.specs.Base.{bytes}
use Rattle.akl.specs.Limits.{most_parts}
use Rattle.akl.specs.Answers as akl
use Rattle.akl.specs.Answers.{Answer, numbered, state_text}
use Rattle.akl.specs.Record.{answer_line}
use Rattle.mem_parts.specs.Parts.{cut}
use Rattle.store_form.specs.State.{State, names_of}
use Rattle.store_calls.specs.Outcomes.{slices_short, held}
use Rattle.store_lent.specs.Lent.{working_bytes}
use Rattle.answer_emit.specs.Put.{Put}
use Rattle.call_answer.specs.Called.{AnswerTo}

-- a piece stands at the beginning of the slice, and behind it all is as it was; where there is none, nothing is handed back
abbrev pub PieceIs : Option (List ℕ) → List ℕ → List ℕ → std.Option ℕ → Type 0
PieceIs none O O' r = r ≡ None
PieceIs (some T) O O' None = ⊥
PieceIs (some T) O O' (Some r) = Put T true O 0 O' r

abbrev pub line_of : State → Option Answer → Option (List ℕ)
line_of s none = none
line_of s (some a) = some (answer_line (names_of s) a)

-- the line of the answer of the number n, if the slices are long enough and a state is held
abbrev pub answer_piece : Bool → Option State → ℕ → Option (List ℕ)
answer_piece true h n = none
answer_piece false none n = none
answer_piece false (some s) n = line_of s (numbered s.config.root n)

-- the last line of the record, likewise
abbrev pub state_of_text : akl.State → List ℕ
state_of_text v = (bytes "state " ++ state_text v) ++ bytes "\n"

abbrev pub state_piece : Bool → Option State → Option (List ℕ)
state_piece true h = none
state_piece false none = none
state_piece false (some s) = some (state_of_text (akl.state s.config.root))

pub record AnswerPut (b u : List ℕ) (n : ℕ) (O u' O' : List ℕ) (r : std.Option ℕ) : Type 0 where
  -- "It lends 4,096 bytes per answer": with `answer ` and the line's end there is room for 4,104
  pub piece : 4104 ≤ length O → PieceIs (answer_piece (slices_short most_parts working_bytes b (length u)) (held most_parts b) n) O O' r
  pub brief : length O < 4104 → r ≡ None
  pub working : 4104 ≤ length O → u' ≡ replicate (length u) 0

pub record StatePut (b u O u' O' : List ℕ) (r : std.Option ℕ) : Type 0 where
  pub piece : PieceIs (state_piece (slices_short most_parts working_bytes b (length u)) (held most_parts b)) O O' r
  pub working : u' ≡ replicate (length u) 0

-- the text of the answer was asked for with the part from lo on up to hi, which came back as `part`
pub record TextIn (b u : List ℕ) (n lo hi : ℕ) (O u' O' : List ℕ) (x : ℕ) : Type 0 where
  pub part : List ℕ
  pub told : AnswerTo b (length u) n (cut lo hi O) part x
  pub back : O' ≡ put_mid lo (hi - lo) O part
  pub working : u' ≡ replicate (length u) 0
