-- The table in code is that of the definitions. Assumes nothing.
use mathlib.Core.Path.{◌≡◌, refl, ap, sym, ◌∙◌}
use mathlib.Core.List.{List, [], ◌∷◌, map}
use mathlib.Core.Option.{Option, some, none}
use Prim.Native.Nat.{ℕ, zero, suc, ◌-◌, ◌<◌, ◌≤◌}
use native.Mathlib.Omega.{arith}
use lib.ListN.{length, get_or}
use Rattle.akl.specs.Base.{nth}
use Rattle.akl.specs.Table as akl
use Rattle.akl.specs.Table.{table, rule_row}
use Rattle.rule_table.specs.declared.Takes.{Takes}
use Rattle.rule_table.specs.declared.Takes.TheVariants.{ConstraintAtom, ProgramAtom, Composition, Hiding, ChoiceStatement, ChoiceBox, GuardedGoal, AndBox, InnerOrBox}
use Rattle.rule_table.specs.declared.Mode.{Mode}
use Rattle.rule_table.specs.declared.Mode.TheVariants.{Determinate, Nondeterminate}
use Rattle.rule_table.specs.declared.Rewrites.{Rewrites}
use Rattle.rule_table.specs.declared.Rewrites.TheVariants.{Itself, Holder}
use Rattle.rule_table.specs.declared.Row.{Row}
use Rattle.rule_table.specs.declared.Row.TheVariants.{Absent, Rule}
use Rattle.rule_table.specs.Rows.{takes_in, mode_in, rewrites_in, row_in}

-- the constant table of the code
abbrev pub code_table : List Row
code_table =
    Rule ConstraintAtom Determinate Holder ∷ Rule ProgramAtom Determinate Itself ∷ Rule Composition Determinate Holder ∷ Rule Hiding Determinate Holder ∷ Rule ChoiceStatement Determinate Itself ∷ Rule ChoiceBox Determinate Holder ∷ Rule GuardedGoal Determinate Holder ∷ Rule GuardedGoal Determinate Holder ∷ Rule AndBox Determinate Itself ∷ Rule ChoiceBox Determinate Holder ∷ Rule GuardedGoal Determinate Holder ∷ Rule ChoiceBox Nondeterminate Holder ∷ Rule GuardedGoal Determinate Holder ∷ Rule InnerOrBox Determinate Holder ∷ []

-- it is that of the definitions, row by row
pub table_is : map (λ w. row_in (some w)) table ≡ code_table
unfolding table
table_is = refl

-- a row of it, by its index
at_index : (l : List akl.Row) (k : ℕ) (d : Row) → k < length l → get_or (map (λ w. row_in (some w)) l) k d ≡ row_in (nth l k)
unfolding nth
at_index [] k d h = absurd (omega arith)
at_index (w ∷ l) zero d h = refl
at_index (w ∷ l) (suc k) d h = at_index l k d (omega arith)

past_index : (l : List akl.Row) (k : ℕ) → length l ≤ k → Absent ≡ row_in (nth l k)
unfolding nth
past_index [] k h = refl
past_index (w ∷ l) zero h = absurd (omega arith)
past_index (w ∷ l) (suc k) h = past_index l k (omega arith)

rows_many : length table ≡ 14
unfolding table
rows_many = refl

-- the row of a rule's number
pub row_there : (r : ℕ) (d : Row) → ¬ (r ≡ 0) → r ≤ 14 → get_or code_table (r - 1) d ≡ row_in (rule_row r)
unfolding rule_row
row_there zero d n h = absurd (n refl)
row_there (suc k) d n h = let e : suc k - 1 ≡ k = omega arith in ap (λ (j : ℕ). get_or code_table j d) e ∙ ap (λ (l : List Row). get_or l k d) (sym table_is) ∙ at_index table k d (omega (arith, rows_many))

-- and of a number of none
pub row_zero : (r : ℕ) → r ≡ 0 → Absent ≡ row_in (rule_row r)
unfolding rule_row
row_zero r e = ap (λ (k : ℕ). row_in (rule_row k)) (sym e)

pub row_past : (r : ℕ) → 14 < r → Absent ≡ row_in (rule_row r)
unfolding rule_row
row_past zero h = refl
row_past (suc k) h = past_index table k (omega (arith, rows_many))

-- ---------------------------------------------------------------------------------------------
-- What a found row says.

row_number : Row → ℕ
row_number Absent = 0
row_number (Rule t m w) = 1

takes_of : Row → Takes
takes_of Absent = ConstraintAtom
takes_of (Rule t m w) = t

mode_of : Row → Mode
mode_of Absent = Determinate
mode_of (Rule t m w) = m

rewrites_of : Row → Rewrites
rewrites_of Absent = Itself
rewrites_of (Rule t m w) = w

pub record Found (o : Option akl.Row) (t : Takes) (m : Mode) (w : Rewrites) : Type 0 where
  pub found : akl.Row
  pub is : o ≡ some found
  pub takes : t ≡ takes_in found.takes
  pub mode : m ≡ mode_in found.mode
  pub rewrites : w ≡ rewrites_in found.rewrites

pub row_found : (o : Option akl.Row) (t : Takes) (m : Mode) (w : Rewrites) → Rule t m w ≡ row_in o → Found o t m w
unfolding row_number takes_of mode_of rewrites_of
row_found none t m w e = absurd (let z : ◌≡◌ {A = ℕ} 1 0 = ap row_number e in omega (arith, z))
row_found (some v) t m w e = record { found = v; is = refl; takes = ap takes_of e; mode = ap mode_of e; rewrites = ap rewrites_of e }

pub row_absent : (o : Option akl.Row) → Absent ≡ row_in o → o ≡ none
unfolding row_number
row_absent none e = refl
row_absent (some v) e = absurd (let z : ◌≡◌ {A = ℕ} 0 1 = ap row_number e in omega (arith, z))
