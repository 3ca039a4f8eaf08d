-- Zeros number nothing. Assumes nothing.
use native.Mathlib.Omega.{arith}
use Rattle.mem_parts.specs.Parts.{outside_wide}
use Rattle.answer_walk.proofs.Numbering.{number_none}
use Rattle.answer_stack.specs.Slots.{zero_numbers}
use Rattle.answer_stack.proofs.clear.Goals as goal

pub zero-requires : goal.zero-requires
zero-requires c = record { le = omega arith; fits = omega (arith, c.requires.long) }

pub returns : goal.returns
returns c = (number_none 65535 (zero_numbers c.zero.ensures), outside_wide 335872 479232 (omega arith) (omega arith) c.zero.ensures.rest)
