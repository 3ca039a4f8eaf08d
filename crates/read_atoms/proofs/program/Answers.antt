use mathlib.Core.List.{[]}
use mathlib.Core.Path.{subst}
use Prim.Native.Nat.{ℕ}
use native.Mathlib.Omega.{arith}
use Rattle.mem_numbers.specs.Numbers.{shorts, triples}
use Rattle.read_atoms.specs.Answers.{read_to, AnswerTo}
use Rattle.read_atoms.specs.Subjects.{program_subject, program_three}
use Rattle.read_atoms.proofs.program.Reads as reads
use Rattle.read_atoms.proofs.program.Goals as goal

pub returns-then-count-gt8 : goal.returns-then-count-gt8
returns-then-count-gt8 c = record { reads = λ S at level depth can s. program_three (triples c.args.codes.now) (shorts c.args.binds.now) S (shorts c.args.order.now) (triples c.args.heads.now) [] c.args.query at c.args.rest c.args.k c.args.q level depth c.args.name c.args.first c.args.count [] [] s (omega arith) }

pub overflow_mul-name : goal.overflow_mul-name
overflow_mul-name c = omega (arith, c.requires.tables.cells, c.requires.name)

pub overflow_add-name : goal.overflow_add-name
overflow_add-name c = omega (arith, c.requires.tables.cells, c.requires.name)

pub called-v-requires : goal.called-v-requires
called-v-requires c = (c.requires.tables, c.requires.name, c.requires.arguments)

pub returns : goal.returns
returns c = record { reads = λ S at level depth can s. read_to depth can (program_subject can c.args.name c.args.first c.args.count c.args.rest depth s (omega arith)) c.called-v.result c.called-v.ensures _ (subst (λ (n : ℕ). AnswerTo c.called-v.result c.args.rest n c.answer.result) c.missing-low.ensures c.answer.ensures) }
