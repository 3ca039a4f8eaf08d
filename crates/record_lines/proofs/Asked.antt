-- What a question for an answer, with 4,096 bytes lent, and one for the state say of the record's lines. Assumes nothing.
use mathlib.Core.Path.{◌≡◌, refl, sym, ap, ◌∙◌, subst}
use mathlib.Core.List.{List, ◌++◌}
use mathlib.Core.Bool.{Bool, true, false}
use mathlib.Core.Option.{Option, some, none}
use Prim.Native.Nat.{ℕ, ◌+◌, ◌*◌, ◌≤◌, ◌<◌}
use native.Mathlib.Omega.{arith}
use borrow.Author.Tests.{ltb-false}
use lib.Dec.{ltb}
use lib.ListN.{length, drop}
use Rattle.akl.specs.Base.{Result, refused, ok, if, size, bytes, Name}
use Rattle.akl.specs.Limits.{most_parts, answer_bytes}
use Rattle.akl.specs.Answers as akl
use Rattle.akl.specs.Answers.{Answer, answer_text, fitted, numbered, answer, failed, final, open_state}
use Rattle.akl.specs.Record.{answer_line}
use Rattle.read_tokens.specs.Runs.{size_length}
use Rattle.store_form.specs.State.{State, names_of}
use Rattle.runs.specs.Outcomes.{stands}
use Rattle.store_calls.specs.Outcomes.{Called, called, slices_short, held, on_held, on_state, answer_done, answer_outcome, state_outcome}
use Rattle.store_calls.specs.Handed.{written}
use Rattle.store_lent.specs.Lent.{working_bytes}
use Rattle.answer_boxes.specs.Asked.{state_number}
use Rattle.call_answer.specs.Called.{answer_told, AnswerTo}
use Rattle.call_state.specs.Called.{state_told, StateTo}
use Rattle.record_lines.specs.Lines.{line_of, answer_piece, state_piece}

-- P is the slice lent for the text and P' what came back, x what was handed back; o is the line
pub data Answered (o : Option (List ℕ)) (P P' : List ℕ) (x : ℕ) : Type 0 where
  no_line : o ≡ none → x ≤ 16 → Answered o P P' x
  long_line : o ≡ some ((bytes "answer " ++ bytes "long") ++ bytes "\n") → x ≡ 17 → P' ≡ P → Answered o P P' x
  text_line : (t : List ℕ) → o ≡ some ((bytes "answer " ++ t) ++ bytes "\n") → length t ≤ 4096 → x ≡ 256 + length t → P' ≡ t ++ drop (length t) P → Answered o P P' x

module _ (b : List ℕ) (w n : ℕ) (P P' : List ℕ) (x : ℕ) where
  -- what is told for slices and a store, m being the length of the lent slice
  abbrev outcome : ℕ → Bool → Option State → Called
  outcome m c h = on_held b (λ s. answer_done b (answer (names_of s) s.config.root n m)) c h

  fit : (xs : List Name) (a : Answer) (c : Bool) → ltb 4096 (size (answer_text xs a)) ≡ c
      → x ≡ answer_told (answer_done b (if c (refused 17) (ok (answer_text xs a)))).told → P' ≡ written P (answer_done b (if c (refused 17) (ok (answer_text xs a)))).told
      → Answered (some ((bytes "answer " ++ (elim (if c (refused 17) (ok (answer_text xs a))) as (λ z. List ℕ) [ refused i ↦ bytes "long" | ok t ↦ t ])) ++ bytes "\n")) P P' x
  unfolding written
  fit xs a true e p q = long_line refl p q
  fit xs a false e p q = text_line (answer_text xs a) refl (omega (arith, ltb-false 4096 (size (answer_text xs a)) e, size_length (answer_text xs a))) p q

  by_number : (s : State) (o : Option Answer)
      → x ≡ answer_told (answer_done b (elim o as (λ z. Result (List ℕ)) [ none ↦ refused 16 | some a ↦ fitted 4096 (answer_text (names_of s) a) ])).told
      → P' ≡ written P (answer_done b (elim o as (λ z. Result (List ℕ)) [ none ↦ refused 16 | some a ↦ fitted 4096 (answer_text (names_of s) a) ])).told
      → Answered (line_of s o) P P' x
  unfolding answer_line
  by_number s none p q = no_line refl (omega (arith, p))
  by_number s (some a) p q = fit (names_of s) a (ltb 4096 (size (answer_text (names_of s) a))) refl p q

  by_held : (c : Bool) (h : Option State) → x ≡ answer_told (outcome 4096 c h).told → P' ≡ written P (outcome 4096 c h).told → Answered (answer_piece c h n) P P' x
  unfolding answer
  by_held true h p q = no_line refl (omega (arith, p))
  by_held false none p q = no_line refl (omega (arith, p))
  by_held false (some s) p q = by_number s (numbered s.config.root n) p q

  pub answered : length P ≡ 4096 → AnswerTo b w n P P' x → Answered (answer_piece (slices_short most_parts working_bytes b w) (held most_parts b) n) P P' x
  unfolding answer_outcome on_state
  answered l A =
      let c = slices_short most_parts working_bytes b w in
      let h = held most_parts b in
      by_held c h
      (A.number ∙ ap (λ (m : ℕ). answer_told (outcome m c h).told) l)
      (A.out ∙ ap (λ (m : ℕ). written P (outcome m c h).told) l)

-- the state of a store, by what is handed back
abbrev StateGiven : Bool → Option State → ℕ → Type 0
StateGiven true h x = x ≡ 8
StateGiven false none x = x ≡ 9
StateGiven false (some s) x = x ≡ 256 * state_number (akl.state s.config.root)

pub record Stated (c : Bool) (h : Option State) (x : ℕ) : Type 0 where
  pub given : StateGiven c h x

pub stated : (b : List ℕ) (w x : ℕ) → StateTo b w x → Stated (slices_short most_parts working_bytes b w) (held most_parts b) x
unfolding state_outcome on_state
stated b w x S = go (slices_short most_parts working_bytes b w) (held most_parts b) S.number
  where
    go : (c : Bool) (h : Option State) → x ≡ state_told (on_held b (λ s. called (stands (akl.state s.config.root)) b) c h).told → Stated c h x
    go true h e = record { given = e }
    go false none e = record { given = e }
    go false (some s) e = record { given = e }
