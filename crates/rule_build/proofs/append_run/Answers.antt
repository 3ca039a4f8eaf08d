-- Where there is room the words are copied. Assumes nothing.
use native.Mathlib.Omega.{arith}
use Rattle.mem_words.specs.Words.{words}
use Rattle.mem_copies.specs.Runs.{run, length_run}
use Rattle.rule_build.specs.Built.{no_room, run_appended}
use Rattle.rule_build.proofs.append_run.Goals as goal

pub returns-then-cap-at : goal.returns-then-cap-at
returns-then-cap-at c = no_room _ (run c.args.s c.args.m (words c.args.ws.now)) c.args.at _ c.count-cap.ensures.is (omega arith)

pub returns-then-cap-at-2 : goal.returns-then-cap-at-2
returns-then-cap-at-2 c = no_room _ (run c.args.s c.args.m (words c.args.ws.now)) c.args.at _ c.count-cap.ensures.is (omega (arith, length_run c.args.s c.args.m (words c.args.ws.now) c.requires))

pub copy-requires : goal.copy-requires
copy-requires c = record { source = c.requires; room = omega arith }

pub returns : goal.returns
returns c = run_appended _ (words c.args.ws.now) _ c.args.at c.args.s c.args.m c.requires (omega arith) c.copy.ensures
