-- The table of the fourteen rules. Document 01: "A table of the fourteen rules fixes the kind of place each takes".
-- The step (Step.antt) and the stability test (Stability.antt) both read it.
use Rattle.std.specs.Prelude.{List, [], ◌∷◌, Bool, ℕ, zero, suc, eqb}
use Rattle.std.proofs.Math.Option.{Option, none}
use Rattle.akl.specs.Base.{nth}
use Rattle.akl.specs.Syntax.{Stmt, atom, call, comp, hide, choice}
use Rattle.akl.specs.Configuration.{goal, or, and, stmt, choice_box, guard, Ctx, top, in_or, in_guard}
use Rattle.akl.specs.Places.{Place, at}

-- "the kind of place each takes". An or-box that is a member of an or-box is told from the others.
pub data Takes : Type 0 where
  constraint_atom program_atom composition hiding choice_statement choice_box_place guarded_goal and_box inner_or_box other_or_box : Takes

-- "Rule 12 is the nondeterminate rule; the others are determinate."
pub data Mode : Type 0 where
  determinate nondeterminate : Mode

-- "A rule rewrites the member (2, 5), the and-box (1, 3, 4, 6, 9, 10, 12), the choice-box (7, 8, 11, 13) or the outer
-- or-box (14)": what stands at the place, or the box that holds it.
pub data Rewrites : Type 0 where
  itself holder : Rewrites

pub record Row : Type 0 where
  pub takes : Takes
  pub mode : Mode
  pub rewrites : Rewrites

abbrev pub row : Takes → Mode → Rewrites → Row
row t m r = record { takes = t; mode = m; rewrites = r }

unfoldable pub table : List Row
table =
    row constraint_atom determinate holder
    ∷ row program_atom determinate itself
    ∷ row composition determinate holder
    ∷ row hiding determinate holder
    ∷ row choice_statement determinate itself
    ∷ row choice_box_place determinate holder
    ∷ row guarded_goal determinate holder
    ∷ row guarded_goal determinate holder
    ∷ row and_box determinate itself
    ∷ row choice_box_place determinate holder
    ∷ row guarded_goal determinate holder
    ∷ row choice_box_place nondeterminate holder
    ∷ row guarded_goal determinate holder
    ∷ row inner_or_box determinate holder
    ∷ []

-- The row of a rule's number, from 1.
unfoldable pub rule_row : ℕ → Option Row
rule_row zero = none
rule_row (suc r) = nth table r

-- The kind of what stands at a place.
unfoldable pub statement_kind : Stmt → Takes
statement_kind (atom c) = constraint_atom
statement_kind (call p xs) = program_atom
statement_kind (comp a b) = composition
statement_kind (hide n a) = hiding
statement_kind (choice op cs) = choice_statement

unfoldable pub or_kind : Ctx goal → Takes
or_kind top = other_or_box
or_kind (in_or χ l r) = inner_or_box
or_kind (in_guard χ b) = other_or_box

unfoldable pub kind_at : Place → Takes
kind_at (at χ (or ns)) = or_kind χ
kind_at (at χ (and vs σ ms)) = and_box
kind_at (at χ (stmt s)) = statement_kind s
kind_at (at χ (choice_box op gs)) = choice_box_place
kind_at (at χ (guard g b)) = guarded_goal

abbrev pub takes_number : Takes → ℕ
takes_number constraint_atom = 0
takes_number program_atom = 1
takes_number composition = 2
takes_number hiding = 3
takes_number choice_statement = 4
takes_number choice_box_place = 5
takes_number guarded_goal = 6
takes_number and_box = 7
takes_number inner_or_box = 8
takes_number other_or_box = 9

abbrev pub same_kind : Takes → Takes → Bool
same_kind a b = eqb (takes_number a) (takes_number b)
