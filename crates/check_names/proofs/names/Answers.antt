-- The tests one after another; the kinds stand before the last one asks for them. Assumes nothing.
use Rattle.mem_numbers.specs.Numbers.{triples}
use Rattle.mem_numbers.specs.Decides.{decided_yes, decided_no}
use Rattle.work_tables.specs.Tables.{laid_after}
use Rattle.check_rooted.specs.Rooted.{Rooted}
use Rattle.check_nodetables.specs.Tables.{kinds_of}
use Rattle.check_distinct.specs.Apart.{Apart}
use Rattle.check_names.specs.Names.{touched_none, touched_then, looked_touched, marked_touched, told_by}
use Rattle.check_names.proofs.names.Goals as goal

pub rooted-requires : goal.rooted-requires
rooted-requires c = c.requires.1.some

pub returns-then-not-rooted : goal.returns-then-not-rooted
returns-then-not-rooted c = (λ h. decided_no {P = Rooted (triples c.args.cells.now)} c.rooted.result (c.if-not-rooted.true) c.rooted.ensures h.rooted, touched_none c.args.w.now)

pub apart-requires : goal.apart-requires
apart-requires c = (c.requires.0, record { some = c.requires.1.some; most = c.requires.1.most; rooted = decided_yes {P = Rooted (triples c.args.cells.now)} c.rooted.result (c.if-not-rooted.false) c.rooted.ensures })

pub returns-then-not-apart : goal.returns-then-not-apart
returns-then-not-apart c = (λ h. decided_no {P = Apart (triples c.args.cells.now)} c.apart.result (c.if-not-apart.true) c.apart.ensures.0 h.apart, looked_touched c.requires.0 c.apart.ensures.1)

pub kinds-requires : goal.kinds-requires
kinds-requires c = (laid_after c.requires.0 c.apart.ensures.1, record { some = c.requires.1.some; most = c.requires.1.most; rooted = decided_yes {P = Rooted (triples c.args.cells.now)} c.rooted.result (c.if-not-rooted.false) c.rooted.ensures })

pub variables-requires : goal.variables-requires
variables-requires c = (laid_after (laid_after c.requires.0 c.apart.ensures.1) c.kinds.ensures.1, record { nodes = record { some = c.requires.1.some; most = c.requires.1.most; rooted = decided_yes {P = Rooted (triples c.args.cells.now)} c.rooted.result (c.if-not-rooted.false) c.rooted.ensures }; apart = decided_yes {P = Apart (triples c.args.cells.now)} c.apart.result (c.if-not-apart.false) c.apart.ensures.0; kinds = c.kinds.ensures.0; most = c.requires.1.few })

pub returns : goal.returns
returns c = (told_by (triples c.args.cells.now) (triples c.args.vars.now) (kinds_of c.kinds.new.w) c.variables.result (decided_yes {P = Rooted (triples c.args.cells.now)} c.rooted.result (c.if-not-rooted.false) c.rooted.ensures) (decided_yes {P = Apart (triples c.args.cells.now)} c.apart.result (c.if-not-apart.false) c.apart.ensures.0) c.kinds.ensures.0 c.variables.ensures, touched_then (looked_touched c.requires.0 c.apart.ensures.1) (marked_touched c.kinds.ensures.1))
