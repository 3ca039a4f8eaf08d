-- The pieces in their order are the record, whatever the verdict is. Assumes nothing.
use mathlib.Core.Path.{◌≡◌, refl, sym, ap, ap₂, ◌∙◌, subst}
use mathlib.Core.List.{List, [], ◌∷◌, ◌++◌}
use mathlib.Core.Bool.{false}
use mathlib.Core.Option.{Option, some, none}
use Prim.Native.Nat.{ℕ, zero, suc, ◌+◌}
use native.Mathlib.Omega.{arith}
use Rattle.akl.specs.Base.{Name, bytes, flat, nth, size, Result, refused, ok}
use Rattle.akl.specs.Limits.{most_parts}
use Rattle.akl.specs.Configuration.{Config}
use Rattle.akl.specs.Answers.{Answer, answers, state, state_text}
use Rattle.akl.specs.Record.{checked_run, two_lines, answer_line, printed, runcheck}
use Rattle.store_form.specs.State.{State, names_of}
use Rattle.record_verdict.specs.Judged.{RanTo}
use Rattle.record_lines.specs.Lines.{line_of, answer_piece, state_piece}
use Rattle.record_whole.specs.Whole.{piece_bytes, lines_from, pieces}

-- "If a text or the start is refused, only the first two lines stand, with 0 accepted."
pub refused_whole : (t q k : List ℕ) (n : ℕ) → checked_run most_parts t q k ≡ refused n → runcheck t q k ≡ two_lines 0 n
unfolding runcheck printed
refused_whole t q k n e = ap printed e

-- the record by the definitions, of the numbers of the first two lines, the names and the configuration
whole : ℕ → ℕ → List Name → Config → List ℕ
whole a n xs c = (two_lines a n ++ flat (answer_line xs) (answers c.root)) ++ ((bytes "state " ++ state_text (state c.root)) ++ bytes "\n")

module _ (s : State) where
  abbrev all : List Answer
  all = answers s.config.root

  -- from the number k + 1 on the answers are those of the list l
  from : (l : List Answer) (k : ℕ) → ((j : ℕ) → nth all (k + j) ≡ nth l j) → lines_from s k (size l) ≡ flat (answer_line (names_of s)) l
  unfolding lines_from size flat nth
  from [] k h = refl
  from (a ∷ l) k h =
      let z : k + 0 ≡ k = omega arith in
      let first : nth all k ≡ some a = ap (nth all) (sym z) ∙ h 0 in
      ap₂ (λ (x y : List ℕ). x ++ y)
      (ap (λ (o : Option Answer). piece_bytes (line_of s o)) first)
      (from l (suc k) (λ j. let e : suc k + j ≡ k + suc j = omega arith in ap (nth all) e ∙ h (suc j)))

  in_order : lines_from s 0 (size all) ≡ flat (answer_line (names_of s)) all
  in_order = from all 0 (λ j. let e : 0 + j ≡ j = omega arith in ap (nth all) e)

-- the steps were tried: the first two lines, the line of each answer from 1 on, the state
pub ran_whole : (t q k b : List ℕ) (a n : ℕ) (R : RanTo t q k b a n) → runcheck t q k ≡ pieces R.state a n
unfolding runcheck printed pieces whole
ran_whole t q k b a n R =
    ap printed R.is
    ∙ ap₂ (λ (x y : ℕ). whole x y R.checked.variables R.checked.run.config) (sym R.accepted) (sym R.refusal)
    ∙ ap₂ (λ (xs : List Name) (c : Config). whole a n xs c) (sym R.names) (sym R.config)
    ∙ ap (λ (l : List ℕ). (two_lines a n ++ l) ++ piece_bytes (state_piece false (some R.state))) (sym (in_order R.state))
