-- By arithmetic. Assumes nothing.
use native.Mathlib.Omega.{arith}
use Rattle.answer_emit.proofs.end_of.Goals as goal

pub returns-then-cap-at : goal.returns-then-cap-at
returns-then-cap-at c = record { fits = λ h. absurd (omega arith); over = λ h. omega arith }

pub returns-then-cap-at-2 : goal.returns-then-cap-at-2
returns-then-cap-at-2 c = record { fits = λ h. absurd (omega arith); over = λ h. omega arith }

pub returns : goal.returns
returns c = record { fits = λ h. omega arith; over = λ h. absurd (omega arith) }
