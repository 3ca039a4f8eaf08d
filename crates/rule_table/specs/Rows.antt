-- The rows of the table of rules as values of the code. Assumes nothing.
use Rattle.std.specs.Prelude.{◌≡◌, refl, ℕ}
use Rattle.std.proofs.Math.Option.{Option, some, none}
use Rattle.akl.specs.Table as akl
use Rattle.akl.specs.Table.{constraint_atom, program_atom, composition, hiding, choice_statement, choice_box_place, guarded_goal, and_box, inner_or_box, other_or_box, determinate, nondeterminate, itself, holder, takes_number}
use Rattle.rule_table.specs.declared.Takes.{Takes}
use Rattle.rule_table.specs.declared.Takes.TheVariants.{ConstraintAtom, ProgramAtom, Composition, Hiding, ChoiceStatement, ChoiceBox, GuardedGoal, AndBox, InnerOrBox, OtherOrBox}
use Rattle.rule_table.specs.declared.Mode.{Mode}
use Rattle.rule_table.specs.declared.Mode.TheVariants.{Determinate, Nondeterminate}
use Rattle.rule_table.specs.declared.Rewrites.{Rewrites}
use Rattle.rule_table.specs.declared.Rewrites.TheVariants.{Itself, Holder}
use Rattle.rule_table.specs.declared.Row.{Row}
use Rattle.rule_table.specs.declared.Row.TheVariants.{Absent, Rule}

-- the number of a kind of place
abbrev pub takes_no : Takes → ℕ
takes_no ConstraintAtom = 0
takes_no ProgramAtom = 1
takes_no Composition = 2
takes_no Hiding = 3
takes_no ChoiceStatement = 4
takes_no ChoiceBox = 5
takes_no GuardedGoal = 6
takes_no AndBox = 7
takes_no InnerOrBox = 8
takes_no OtherOrBox = 9

abbrev pub takes_in : akl.Takes → Takes
takes_in constraint_atom = ConstraintAtom
takes_in program_atom = ProgramAtom
takes_in composition = Composition
takes_in hiding = Hiding
takes_in choice_statement = ChoiceStatement
takes_in choice_box_place = ChoiceBox
takes_in guarded_goal = GuardedGoal
takes_in and_box = AndBox
takes_in inner_or_box = InnerOrBox
takes_in other_or_box = OtherOrBox

abbrev pub mode_in : akl.Mode → Mode
mode_in determinate = Determinate
mode_in nondeterminate = Nondeterminate

abbrev pub rewrites_in : akl.Rewrites → Rewrites
rewrites_in itself = Itself
rewrites_in holder = Holder

abbrev pub row_in : Option akl.Row → Row
row_in none = Absent
row_in (some w) = Rule (takes_in w.takes) (mode_in w.mode) (rewrites_in w.rewrites)

-- the numbers are those of the definitions
pub takes_numbered : (t : akl.Takes) → takes_no (takes_in t) ≡ takes_number t
takes_numbered constraint_atom = refl
takes_numbered program_atom = refl
takes_numbered composition = refl
takes_numbered hiding = refl
takes_numbered choice_statement = refl
takes_numbered choice_box_place = refl
takes_numbered guarded_goal = refl
takes_numbered and_box = refl
takes_numbered inner_or_box = refl
takes_numbered other_or_box = refl
