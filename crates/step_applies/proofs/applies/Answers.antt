-- By what is asked. Assumes nothing.
use mathlib.Core.Path.{sym, ◌∙◌}
use mathlib.Core.Bool.{true, false}
use Rattle.mem_words.specs.Words.{words}
use Rattle.step_applies.proofs.Laws.{can_low, can_quiet, can_sat, never_applies, always_applies, quiet_applies, satisfied_not, unsatisfied_applies}
use Rattle.step_applies.proofs.applies.Goals as goal

pub asks_at-a-requires : goal.asks_at-a-requires
asks_at-a-requires c = can_low (words c.args.t.now) (words c.args.d.now) c.args.r c.args.i c.requires.1

pub quiet_at-requires : goal.quiet_at-requires
quiet_at-requires c =
    let k = can_quiet (words c.args.t.now) (words c.args.d.now) c.args.r c.args.i _ c.requires.1 (sym c.in-Quiet.is ∙ c.asks_at-a.ensures) in
    (c.requires.0, k.roomy, k.order, k.low, k.room)

pub sat_at-requires : goal.sat_at-requires
sat_at-requires c =
    let k = can_sat (words c.args.t.now) (words c.args.d.now) c.args.r c.args.i _ c.requires.1 (sym c.in-Satisfiable.is ∙ c.asks_at-a.ensures) in
    (c.requires.0, k.roomy, k.low, k.room)

pub returns-then-sat_at : goal.returns-then-sat_at
returns-then-sat_at c = (satisfied_not (words c.args.t.now) (words c.args.d.now) c.args.r c.args.i _ c.sat_at.result (sym c.in-Satisfiable.is ∙ c.asks_at-a.ensures) c.sat_at.ensures.0 c.if-sat_at.true, c.sat_at.ensures.1)

pub returns-in-Never : goal.returns-in-Never
returns-in-Never c = (never_applies (words c.args.t.now) (words c.args.d.now) c.args.r c.args.i (sym c.in-Never.is ∙ c.asks_at-a.ensures), c.requires.0)

pub returns-in-Always : goal.returns-in-Always
returns-in-Always c = (always_applies (words c.args.t.now) (words c.args.d.now) c.args.r c.args.i (sym c.in-Always.is ∙ c.asks_at-a.ensures), c.requires.0)

pub returns-in-Quiet : goal.returns-in-Quiet
returns-in-Quiet c = (quiet_applies (words c.args.t.now) (words c.args.d.now) c.args.r c.args.i _ c.quiet_at.result (sym c.in-Quiet.is ∙ c.asks_at-a.ensures) c.quiet_at.ensures.0, c.quiet_at.ensures.1)

pub returns-else-sat_at : goal.returns-else-sat_at
returns-else-sat_at c = (unsatisfied_applies (words c.args.t.now) (words c.args.d.now) c.args.r c.args.i _ c.sat_at.result (sym c.in-Satisfiable.is ∙ c.asks_at-a.ensures) c.sat_at.ensures.0 c.if-sat_at.false, c.sat_at.ensures.1)
