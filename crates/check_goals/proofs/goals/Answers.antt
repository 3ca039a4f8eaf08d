-- One test after the other. Assumes nothing.
use mathlib.Core.Path.{◌∙◌}
use native.Mathlib.Omega.{arith}
use Rattle.mem_words.specs.Words.{words}
use Rattle.check_tables.specs.Tables.{kinds_of, arities_of, con_of, pred_of, def_of}
use Rattle.check_goals.specs.Goals.{none_passed, over_passed, all_passed}
use Rattle.check_goals.proofs.goals.Goals as goal

pub config-requires : goal.config-requires
config-requires c = record { tables = c.requires.tables; short = omega (arith, c.requires.words) }

pub returns-then-not-config : goal.returns-then-not-config
returns-then-not-config c = record { is = none_passed (con_of c.args.m (kinds_of c.args.work.now)) (pred_of c.args.m (kinds_of c.args.work.now)) (def_of c.args.m (arities_of c.args.work.now)) c.args.q c.args.next (words c.args.ws.now) c.config.result c.config.ensures.is (c.if-not-config.true); long = c.config.auto.w }

pub parts-p-requires : goal.parts-p-requires
parts-p-requires c = omega (arith, c.requires.words)

pub returns-then-p-gt2048 : goal.returns-then-p-gt2048
returns-then-p-gt2048 c = record { is = over_passed (con_of c.args.m (kinds_of c.args.work.now)) (pred_of c.args.m (kinds_of c.args.work.now)) (def_of c.args.m (arities_of c.args.work.now)) c.args.q c.args.next (words c.args.ws.now) c.parts-p.result c.parts-p.ensures.0 (omega arith); long = c.config.auto.w }

pub scopes-requires : goal.scopes-requires
scopes-requires c = (record { long = omega (arith, c.requires.tables.long, c.config.auto.w) }, c.requires.words, omega (arith, c.requires.variables))

pub returns : goal.returns
returns c = record { is = all_passed (con_of c.args.m (kinds_of c.args.work.now)) (pred_of c.args.m (kinds_of c.args.work.now)) (def_of c.args.m (arities_of c.args.work.now)) c.args.q c.args.next (words c.args.ws.now) c.config.result c.parts-p.result c.scopes.result c.config.ensures.is (c.if-not-config.false) c.parts-p.ensures.0 (omega arith) c.scopes.ensures.0; long = c.scopes.auto.work ∙ c.config.auto.w }
