-- `read_lines::read_line` meets its contract: three numbers, each where the one before ends. Assumes nothing.
use Rattle.read_steps.specs.Lines.{refused_rule, refused_place, refused_argument, line_at}
use Rattle.read_lines.proofs.read_line.Goals as goal

pub returns-in_default : goal.returns-in_default
returns-in_default c = refused_rule _ _ (rw c.in_default.is at c.read_number.ensures)

pub returns-in_default-read_number : goal.returns-in_default-read_number
returns-in_default-read_number c = refused_place _ _ _ _ (rw c.in-Some.is at c.read_number.ensures) (rw c.in_default-read_number.is at c.read_number-2.ensures)

pub returns-in_default-read_number-2 : goal.returns-in_default-read_number-2
returns-in_default-read_number-2 c = refused_argument _ _ _ _ (rw c.in-Some.is at c.read_number.ensures) _ _ (rw c.in-Some-read_number.is at c.read_number-2.ensures) (rw c.in_default-read_number-2.is at c.read_number-3.ensures)

pub returns : goal.returns
returns c = line_at _ _ _ _ (rw c.in-Some.is at c.read_number.ensures) _ _ (rw c.in-Some-read_number.is at c.read_number-2.ensures) _ _ (rw c.in-Some-read_number-2.is at c.read_number-3.ensures)
