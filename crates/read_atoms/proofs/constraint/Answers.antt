use mathlib.Core.List.{[]}
use native.Mathlib.Omega.{arith}
use Rattle.read_atoms.specs.Answers.{read_to}
use Rattle.read_atoms.specs.Subjects.{constraint_subject, constraint_three}
use Rattle.read_atoms.proofs.constraint.Reads as reads
use Rattle.read_atoms.proofs.constraint.Goals as goal

pub returns-then-arguments-gt8 : goal.returns-then-arguments-gt8
returns-then-arguments-gt8 c = record { reads = λ S D at level depth can s. constraint_three _ _ S _ D [] c.args.query at c.args.rest c.args.k c.args.q level depth c.args.kind [] [] s (omega (arith, c.arguments.ensures, c.if-arguments-gt8.true)) }

pub atom-v-requires : goal.atom-v-requires
atom-v-requires c = c.requires

pub returns : goal.returns
returns c = record { reads = λ S D at level depth can s. read_to depth can (constraint_subject at c.args.rest depth c.args.kind s (omega (arith, c.arguments.ensures, c.if-arguments-gt8.false))) c.atom-v.result c.atom-v.ensures _ c.answer.ensures }
