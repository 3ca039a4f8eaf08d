use borrow.Author.Rules.{rules}
use native.Mathlib.Omega.{arith}
use Rattle.refusals.specs.declared.Refusal.TheVariants.{NotOfGrammar}
use Rattle.read_wholes.proofs.Tables.{zeroed, as_many_shorts, as_many_words}
use Rattle.read_queries.proofs.Checking.{can_read, done_refused, done_fine, read_three, read_odd, read_full, told}
use Rattle.read_queries.proofs.checked.Goals as goal

pub statement-s-requires : goal.statement-s-requires
statement-s-requires c = can_read _ _ c.requires (zeroed c.args.binds.now c.fill.new.self (search rules))

pub returns-then-fault-lt8 : goal.returns-then-fault-lt8
returns-then-fault-lt8 c = done_refused c.requires (zeroed c.args.binds.now c.fill.new.self (search rules)) (told c.in-Done.is c.statement-s.ensures).to _ _ (omega arith) c.of_tree.ensures

pub compact-n-requires : goal.compact-n-requires
compact-n-requires c = (told c.in-Done.is c.statement-s.ensures).to.out

pub returns-else-fault-lt8 : goal.returns-else-fault-lt8
returns-else-fault-lt8 c = done_fine c.requires (zeroed c.args.binds.now c.fill.new.self (search rules)) (told c.in-Done.is c.statement-s.ensures).to _ (omega arith) c.compact-n.ensures

pub returns-in-Three : goal.returns-in-Three
returns-in-Three c = read_three _ c.requires (zeroed c.args.binds.now c.fill.new.self (search rules)) (as_many_shorts _ _ c.statement-s.auto.order) (as_many_words _ _ c.statement-s.auto.out) (told c.in-Three.is c.statement-s.ensures)

pub returns-in-Odd : goal.returns-in-Odd
returns-in-Odd c = read_odd _ c.requires (zeroed c.args.binds.now c.fill.new.self (search rules)) (as_many_shorts _ _ c.statement-s.auto.order) (as_many_words _ _ c.statement-s.auto.out) NotOfGrammar (told c.in-Odd.is c.statement-s.ensures)

pub returns-in-Full : goal.returns-in-Full
returns-in-Full c = read_full _ c.requires (zeroed c.args.binds.now c.fill.new.self (search rules)) (as_many_shorts _ _ c.statement-s.auto.order) (as_many_words _ _ c.statement-s.auto.out) (told c.in-Full.is c.statement-s.ensures)
