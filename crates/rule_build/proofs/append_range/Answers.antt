-- The range is first cut to the words that there are. Assumes nothing.
use native.Mathlib.Omega.{arith}
use Rattle.mem_words.specs.Words.{words}
use Rattle.rule_build.specs.Built.{appended_as}
use Rattle.rule_build.specs.Cuts.{cut_clamp, least_min}
use Rattle.rule_build.proofs.append_range.Goals as goal

pub append_run-requires : goal.append_run-requires
append_run-requires c = omega (arith, (least_min _ _ _ c.min-e.ensures).right, (least_min _ _ _ c.min-s.ensures).right)

pub returns : goal.returns
returns c = appended_as _ (cut_clamp c.args.a c.args.b _ _ _ (words c.args.ws.now) c.count-n.ensures.is (least_min _ _ _ c.min-e.ensures) (least_min _ _ _ c.min-s.ensures)) c.append_run.ensures
