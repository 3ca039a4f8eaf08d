-- The marks of the first applications made zero; the other tables of the search, and all tables but its own, as they were.
use Rattle.std.specs.Prelude.{◌≡◌, List, ℕ, ◌+◌, ◌-◌, ◌*◌, ◌<◌, ◌≤◌, get_or, drop}
use Rattle.std.proofs.Common.{ap, sym, ◌∙◌, arith, get_or-take, get_or-drop}
use Rattle.mem_numbers.specs.Numbers.{get_or_shorts, zero_byte}
use Rattle.mem_parts.specs.Parts.{cut, Zeroed, outside_wide}
use Rattle.work_tables.specs.Tables.{marks_of, Laid, laid_after, Searched, length_mark}

pub record Cleared (L : List ℕ) (a : ℕ) (X : List ℕ) : Type 0 where
  pub zero : (k : ℕ) → k < a → get_or (marks_of X) k 0 ≡ 0
  pub rest : Searched L X

-- a byte of a table at the beginning of the slice
low_byte : (e j : ℕ) (X : List ℕ) → j < e → get_or (cut 0 e X) j 0 ≡ get_or X j 0
unfolding cut
low_byte e j X h = get_or-take (e - 0) (drop 0 X) j 0 (omega arith) ∙ get_or-drop 0 X j 0 ∙ ap (λ (i : ℕ). get_or X i 0) (omega arith)

-- the marks of the first a applications are made zero
pub marks_zero : {L X : List ℕ} (a : ℕ) → Laid L → a ≤ 2048 → Zeroed 0 (2 * a) L X → Cleared L a X
unfolding marks_of
marks_zero {L} {X} a g m z =
    let s : Searched L X = outside_wide 0 16384 (omega arith) (omega arith) z.rest in
    let h : Laid X = laid_after g s in
    let byte : (j : ℕ) → j < 2 * a → get_or (cut 0 4096 X) j 0 ≡ 0 =
    λ j l. low_byte 4096 j X (omega arith) ∙ sym (low_byte (2 * a) j X l) ∙ ap (λ (l : List ℕ). get_or l j 0) z.part ∙ zero_byte (2 * a - 0) j in
    record { zero = λ k l. get_or_shorts (cut 0 4096 X) k (omega (arith, length_mark h)) ∙ omega (arith, byte (2 * k) (omega arith), byte (2 * k + 1) (omega arith)); rest = s }
