use native.Mathlib.Omega.{arith}
use Rattle.mem_numbers.specs.Numbers.{triples}
use Rattle.solve_classes.proofs.Linking.{order_rank, order_number}
use Rattle.solve_classes.proofs.below.Goals as goal

pub returns-then-ra-rb : goal.returns-then-ra-rb
returns-then-ra-rb c = order_rank (triples c.args.cells.now) c.args.a c.args.b c.get.result c.get-2.result c.get.ensures.is c.get-2.ensures.is (omega arith) (omega arith)

pub returns-then-rb-ra : goal.returns-then-rb-ra
returns-then-rb-ra c = order_rank (triples c.args.cells.now) c.args.b c.args.a c.get-2.result c.get.result c.get-2.ensures.is c.get.ensures.is (omega arith) (omega arith)

pub returns-then-a-b : goal.returns-then-a-b
returns-then-a-b c = order_number (triples c.args.cells.now) c.args.a c.args.b c.get.result c.get-2.result c.get.ensures.is c.get-2.ensures.is (omega arith) (omega arith)

pub returns : goal.returns
returns c = order_number (triples c.args.cells.now) c.args.b c.args.a c.get-2.result c.get.result c.get-2.ensures.is c.get.ensures.is (omega arith) (omega arith)
