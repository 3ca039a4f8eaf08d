-- By the rule's number, and by what it asks. Assumes nothing.
use mathlib.Core.Path.{sym, ◌∙◌}
use native.Mathlib.Omega.{arith}
use Rattle.mem_words.specs.Words.{words}
use Rattle.rule_applies.specs.declared.Asks.TheVariants.{Never, Always, Quiet, Satisfiable}
use Rattle.step_unrest.proofs.Tabled.{by_six, by_seven, by_eight, by_asking}
use Rattle.step_unrest.proofs.applies_at_once.Goals as goal

pub promoted-requires : goal.promoted-requires
promoted-requires c = c.requires

pub returns-then-r-eq6 : goal.returns-then-r-eq6
returns-then-r-eq6 c = by_six (words c.args.t.now) c.args.j c.args.r c.promoted.result (omega arith) c.promoted.ensures

pub returns-then-r-eq7 : goal.returns-then-r-eq7
returns-then-r-eq7 c = by_seven (words c.args.t.now) c.args.j c.args.r (omega arith)

pub returns-then-r-eq8 : goal.returns-then-r-eq8
returns-then-r-eq8 c = by_eight (words c.args.t.now) c.args.j c.args.r (omega arith)

pub asks_at-requires : goal.asks_at-requires
asks_at-requires c = omega (arith, c.requires)

pub returns-in-Never : goal.returns-in-Never
returns-in-Never c = by_asking (words c.args.t.now) c.args.j c.args.r Never (sym c.in-Never.is ∙ c.asks_at.ensures)

pub returns-in-Always : goal.returns-in-Always
returns-in-Always c = by_asking (words c.args.t.now) c.args.j c.args.r Always (sym c.in-Always.is ∙ c.asks_at.ensures)

pub returns-in-Quiet : goal.returns-in-Quiet
returns-in-Quiet c = by_asking (words c.args.t.now) c.args.j c.args.r (Quiet _) (sym c.in-Quiet.is ∙ c.asks_at.ensures)

pub returns-in-Satisfiable : goal.returns-in-Satisfiable
returns-in-Satisfiable c = by_asking (words c.args.t.now) c.args.j c.args.r (Satisfiable _) (sym c.in-Satisfiable.is ∙ c.asks_at.ensures)
