-- Calls on the bytes of document 01's record, and on bytes that hold nothing.
use mathlib.Core.Path.{◌≡◌, refl, ◌∙◌}
use mathlib.Core.List.{List, [], ◌∷◌, ◌++◌, map}
use mathlib.Core.Bool.{true, false}
use mathlib.Core.Option.{none}
use Prim.Native.Nat.{ℕ}
use native.Mathlib.Omega.{arith}
use lib.Dec.{ltb}
use Rattle.akl.specs.Base.{bytes}
use Rattle.akl.specs.Limits.{most_parts}
use Rattle.akl.specs.Computed.{everything}
use Rattle.akl.specs.StepsText.{Step}
use Rattle.akl.specs.Configuration.{and, nil}
use Rattle.akl.specs.Answers.{final, open_state}
use Rattle.read_nodes.specs.Spell.{spell, named}
use Rattle.runs.specs.Outcomes.{Outcome, refusal, accepted, shown, stands, outcomes}
use Rattle.layout.specs.Layout.{program_words}
use Rattle.store_words.specs.Boxes.{local_words, store_words, node_words}
use Rattle.store_form.specs.Sizes.{most_nodes, most_program_words, most_together, header_length, variables_length, config_length, variables_start, config_start, store_length}
use Rattle.store_form.specs.Form.{rules_words, config_words, store_bytes}
use Rattle.store_form.specs.Holding.{lowered, small_word, Fits, fits}
use Rattle.store_form.proofs.Reading.{fits_says}
use Rattle.store_form.specs.State.{State}
use Rattle.store_form.proofs.Examples.{record_state}
use Rattle.store_steps.proofs.Examples.{record_stands}
use Rattle.store_calls.specs.Outcomes.{Called, called, slices_short, held, on_state, step_outcome, run_outcome, answer_outcome, state_outcome}
use Rattle.store_calls.specs.Handed.{returned, counted, written}
use Rattle.store_calls.specs.Calls.{ByteCall, Asked, for_step, for_run, for_answer, for_state, outcomes_on, meant}
use Rattle.store_calls.proofs.Any.{short_first, none_held}
use Rattle.store_calls.proofs.OnBytes.{begin_long, begin_unformed, calls_on_bytes}

abbrev at_step : ℕ → ℕ → ℕ → Step
at_step r p a = record { rule = r; place = p; argument = a }

abbrev lend : ℕ → Asked → ByteCall
lend w a = record { asked = a; working = w }

-- the record's steps but the first
abbrev nine : List ℕ
nine = bytes "5 2 0\n1 5 0\n1 7 0\n12 2 1\n14 1 0\n6 2 0\n6 4 0\n1 2 0\n1 3 0\n"

-- The working slice should have 5 bytes.
abbrev record_asks : List ByteCall
record_asks =
    lend 5 for_state
    ∷ lend 4 (for_step (at_step 2 2 0))
    ∷ lend 5 (for_step (at_step 3 2 0))
    ∷ lend 5 (for_step (at_step 2 2 0))
    ∷ lend 5 (for_answer 1 4096)
    ∷ lend 4 (for_run (bytes "5 2 0"))
    ∷ lend 4 (for_run nine)
    ∷ lend 9 (for_run (nine ++ bytes "1 2 0\n5 2 0\n"))
    ∷ lend 4 (for_answer 1 4096)
    ∷ lend 5 (for_answer 1 8)
    ∷ lend 5 (for_answer 2 6)
    ∷ lend 5 (for_answer 3 4096)
    ∷ lend 4 for_state
    ∷ lend 5 for_state
    ∷ []

abbrev record_told : List Outcome
record_told =
    stands open_state
    ∷ refusal 8
    ∷ refusal 12
    ∷ accepted 1 0
    ∷ refusal 16
    ∷ refusal 18
    ∷ refusal 8
    ∷ accepted 9 12
    ∷ refusal 8
    ∷ shown (bytes "K = kept")
    ∷ refusal 17
    ∷ refusal 16
    ∷ refusal 8
    ∷ stands final
    ∷ []

-- Whatever stands behind the store, the calls tell this.
pub record_on_bytes : (rest : List ℕ) → outcomes_on most_parts 5 (store_bytes most_parts record_state ++ rest) record_asks ≡ record_told
unfolding everything record_state named spell outcomes meant
record_on_bytes rest = (calls_on_bytes most_parts (omega arith) 5 rest record_state record_stands record_asks).told ∙ refl

-- as numbers, and in a slice
pub record_numbers : (map returned record_told ≡ 0 ∷ 8 ∷ 12 ∷ 0 ∷ 16 ∷ 18 ∷ 8 ∷ 12 ∷ 8 ∷ 0 ∷ 17 ∷ 16 ∷ 8 ∷ 0 ∷ []) × (map counted record_told ≡ 0 ∷ 0 ∷ 0 ∷ 1 ∷ 0 ∷ 0 ∷ 0 ∷ 9 ∷ 0 ∷ 0 ∷ 0 ∷ 0 ∷ 0 ∷ 0 ∷ [])
unfolding returned counted
record_numbers = (refl, refl)

pub record_written : map (written (1 ∷ 2 ∷ 3 ∷ [])) (shown (7 ∷ 8 ∷ []) ∷ shown [] ∷ refusal 17 ∷ accepted 9 12 ∷ stands final ∷ []) ≡ (7 ∷ 8 ∷ 3 ∷ []) ∷ (1 ∷ 2 ∷ 3 ∷ []) ∷ (1 ∷ 2 ∷ 3 ∷ []) ∷ (1 ∷ 2 ∷ 3 ∷ []) ∷ (1 ∷ 2 ∷ 3 ∷ []) ∷ []
unfolding written
record_written = refl

-- ---------------------------------------------------------------------------------------------
-- A state that has bytes and is not well formed, its top being an and-box: 9; but 8 comes before it, and 18 before both.

abbrev unformed : State
unformed = record { cells = []; program = []; variables = []; config = record { root = and [] [] nil; next = 0 } }

unformed_fits : Fits most_parts unformed
unfolding everything fits lowered small_word most_nodes most_program_words most_together rules_words config_words program_words node_words local_words store_words
unformed_fits = (fits_says most_parts unformed).0 tt

module _ (rest : List ℕ) where
  abbrev bad : List ℕ
  bad = store_bytes most_parts unformed ++ rest

  none_there : held most_parts bad ≡ none
  unfolding everything named spell
  none_there = begin_unformed most_parts (omega arith) 5 rest unformed unformed_fits refl

  -- 9 where nothing is too short
  nine_there : (w : ℕ) → ltb w 5 ≡ false → (f : State → Called) → on_state most_parts 5 bad w f ≡ called (refusal 9) bad
  nine_there w e f = none_held most_parts 5 bad w f (begin_long most_parts (omega arith) 5 rest unformed unformed_fits w false e) none_there

  eight_there : (w : ℕ) → ltb w 5 ≡ true → (f : State → Called) → on_state most_parts 5 bad w f ≡ called (refusal 8) bad
  eight_there w e f = short_first most_parts 5 bad w f (begin_long most_parts (omega arith) 5 rest unformed unformed_fits w true e)

  pub step_on_bad : (step_outcome most_parts 5 bad 5 (at_step 99 0 0) ≡ called (refusal 9) bad) × (step_outcome most_parts 5 bad 4 (at_step 99 0 0) ≡ called (refusal 8) bad)
  unfolding step_outcome
  step_on_bad = (nine_there 5 refl _, eight_there 4 refl _)

  pub answer_on_bad : (answer_outcome most_parts 5 bad 5 0 0 ≡ called (refusal 9) bad) × (answer_outcome most_parts 5 bad 4 0 0 ≡ called (refusal 8) bad)
  unfolding answer_outcome
  answer_on_bad = (nine_there 5 refl _, eight_there 4 refl _)

  pub state_on_bad : (state_outcome most_parts 5 bad 5 ≡ called (refusal 9) bad) × (state_outcome most_parts 5 bad 4 ≡ called (refusal 8) bad)
  unfolding state_outcome
  state_on_bad = (nine_there 5 refl _, eight_there 4 refl _)

  pub run_on_bad : (run_outcome most_parts 5 bad 5 nine ≡ called (refusal 9) bad) × (run_outcome most_parts 5 bad 4 nine ≡ called (refusal 8) bad) × (run_outcome most_parts 5 bad 4 (bytes "5 2 0") ≡ called (refusal 18) bad)
  unfolding run_outcome everything
  run_on_bad = (nine_there 5 refl _, eight_there 4 refl _, refl)

-- A store that is too short: 8, but 18 of a steps text before it.
pub short_store : (slices_short most_parts 0 (0 ∷ []) 0 ≡ true) × (run_outcome most_parts 0 (0 ∷ []) 0 (bytes "x") ≡ called (refusal 18) (0 ∷ []))
unfolding everything slices_short run_outcome store_length config_start variables_start header_length variables_length config_length most_together
short_store = (refl, refl)
