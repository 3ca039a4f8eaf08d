-- What `load` answers, with the outputs made zero: behind their counts, or all of them.
use native.Mathlib.Omega.{arith}
use Rattle.read_inputs.proofs.Loading.{told, refused_still, short_still, zero_again}
use Rattle.read_behind.proofs.Still.{inputs_within, inputs_still, outputs_read}
use borrow.Author.Rules.{rules}
use Rattle.read_both.proofs.read.Goals as goal

pub clear_behind-requires : goal.clear_behind-requires
clear_behind-requires c =
    let q = inputs_within (told c.in-Read.is c.load-r.ensures) in
    record { cells = omega (arith, q.cells); heads = omega (arith, q.heads); rules = omega (arith, q.rules); order = omega (arith, q.order); goal = omega (arith, q.goal) }

pub returns-in-Read : goal.returns-in-Read
returns-in-Read c =
    let z = c.clear_behind.ensures in
    let s = c.args in
    (inputs_still (told c.in-Read.is c.load-r.ensures) z, outputs_read s.cells.now s.heads.now s.rules.now s.order.now s.goal.now _ _ _ _ _ c.load-r.auto.cells c.load-r.auto.heads c.load-r.auto.rules c.load-r.auto.order c.load-r.auto.goal z)

pub returns-in-Refused : goal.returns-in-Refused
returns-in-Refused c = (refused_still _ (told c.in-Refused.is c.load-r.ensures), record { cells = zero_again c.args.cells.now c.load-r.new.cells _ c.load-r.auto.cells c.clear.ensures.0; heads = zero_again c.args.heads.now c.load-r.new.heads _ c.load-r.auto.heads c.clear.ensures.1; rules = zero_again c.args.rules.now c.load-r.new.rules _ c.load-r.auto.rules c.clear.ensures.2; order = zero_again c.args.order.now c.load-r.new.order _ c.load-r.auto.order c.clear.ensures.3; goal = zero_again c.args.goal.now c.load-r.new.goal _ c.load-r.auto.goal c.clear.ensures.4 })

pub returns-in-Short : goal.returns-in-Short
returns-in-Short c = (short_still (told c.in-Short.is c.load-r.ensures), record { cells = zero_again c.args.cells.now c.load-r.new.cells _ c.load-r.auto.cells c.clear-in-Short.ensures.0; heads = zero_again c.args.heads.now c.load-r.new.heads _ c.load-r.auto.heads c.clear-in-Short.ensures.1; rules = zero_again c.args.rules.now c.load-r.new.rules _ c.load-r.auto.rules c.clear-in-Short.ensures.2; order = zero_again c.args.order.now c.load-r.new.order _ c.load-r.auto.order c.clear-in-Short.ensures.3; goal = zero_again c.args.goal.now c.load-r.new.goal _ c.load-r.auto.goal c.clear-in-Short.ensures.4 })
