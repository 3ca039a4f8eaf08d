-- Document 01's record on its state: ten steps accepted, an eleventh refused, and the first one seen in the state after it.
use mathlib.Core.Path.{◌≡◌, refl}
use mathlib.Core.List.{List, [], ◌∷◌, ◌++◌}
use Prim.Native.Nat.{ℕ}
use Rattle.akl.specs.Base.{Result, refused, ok}
use Rattle.akl.specs.Limits.{most_parts}
use Rattle.akl.specs.Computed.{everything}
use Rattle.akl.specs.StepsText.{Step}
use Rattle.akl.specs.Answers.{final, state}
use Rattle.layout.specs.Layout.{var_word, vars_words, ask, con_words, stmt_words, program_words}
use Rattle.read_nodes.specs.Spell.{spell, named}
use Rattle.store_words.specs.Boxes.{local_words, store_words, node_words}
use Rattle.store_form.specs.Sizes.{most_nodes, most_program_words, most_together}
use Rattle.store_form.specs.State.{State, number_from, number_in}
use Rattle.store_form.specs.Form.{rules_words, config_words}
use Rattle.store_form.specs.Holding.{lowered, small_word, fits}
use Rattle.store_form.proofs.Reading.{fits_says}
use Rattle.store_form.proofs.Examples.{record_state}
use Rattle.store_steps.specs.After.{Stands, state_after, Stepped, states_after}

abbrev at_step : ℕ → ℕ → ℕ → Step
at_step r p a = record { rule = r; place = p; argument = a }

abbrev ten : List Step
ten = at_step 2 2 0 ∷ at_step 5 2 0 ∷ at_step 1 5 0 ∷ at_step 1 7 0 ∷ at_step 12 2 1 ∷ at_step 14 1 0 ∷ at_step 6 2 0 ∷ at_step 6 4 0 ∷ at_step 1 2 0 ∷ at_step 1 3 0 ∷ []

abbrev after : List Step → Stepped
after ks = states_after most_parts record_state 0 ks

-- it has bytes and is well formed
pub record_stands : Stands most_parts record_state
unfolding everything record_state named spell fits lowered small_word most_nodes most_program_words most_together rules_words config_words number_in number_from program_words node_words local_words store_words stmt_words con_words vars_words var_word ask
record_stands = record { fits = (fits_says _ record_state).0 tt; formed = tt }

-- all are accepted, and the state is final
pub record_steps : ((after ten).accepted ≡ 10) × ((after ten).refusal ≡ 0) × (state (after ten).state.config.root ≡ final)
unfolding everything record_state states_after state_after
record_steps = (refl, refl, refl)

-- a step that is refused: its number, the ten before it, and the state that they lead to
pub record_refused : ((after (ten ++ (at_step 1 2 0 ∷ ten))).accepted ≡ 10) × ((after (ten ++ (at_step 1 2 0 ∷ ten))).refusal ≡ 12) × ((after (ten ++ (at_step 1 2 0 ∷ ten))).state ≡ (after ten).state)
unfolding everything record_state states_after state_after
record_refused = (refl, refl, refl)

-- counted from where the count stands
pub record_counted : (states_after most_parts record_state 7 (at_step 2 2 0 ∷ at_step 13 0 0 ∷ [])).accepted ≡ 8
unfolding everything record_state states_after state_after
record_counted = refl

-- The table, the program and the variables stay; a refused step leaves no state.
abbrev cells_of : Result State → List ℕ
cells_of (refused n) = []
cells_of (ok s) = s.cells

abbrev variables_of : Result State → List ℕ
variables_of (refused n) = []
variables_of (ok s) = s.variables

pub record_first : (cells_of (state_after most_parts record_state (at_step 2 2 0)) ≡ record_state.cells) × (variables_of (state_after most_parts record_state (at_step 2 2 0)) ≡ 14 ∷ []) × (state_after most_parts record_state (at_step 3 2 0) ≡ refused 12)
unfolding everything record_state states_after state_after
record_first = (refl, refl, refl)
