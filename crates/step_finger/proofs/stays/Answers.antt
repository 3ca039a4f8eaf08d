-- By what the rule leaves. Assumes nothing.
use native.Mathlib.Omega.{arith}
use Rattle.mem_words.specs.Words.{words}
use Rattle.step_finger.proofs.Kept.{not_kept, keeps_outer}
use Rattle.step_finger.proofs.Followed.{stays_front, stays_outer}
use Rattle.step_finger.proofs.stays.Goals as goal

pub returns-then-i-q : goal.returns-then-i-q
returns-then-i-q c = λ e. not_kept e

pub returns-then-i-q-gt64 : goal.returns-then-i-q-gt64
returns-then-i-q-gt64 c = λ e. not_kept e

pub returns-then-keeps : goal.returns-then-keeps
returns-then-keeps c = λ e. stays_front (words c.args.t.now) c.args.r c.args.i c.requires c.args.q (c.keeps.ensures c.if-keeps.true) (omega arith)

pub opens_behind-requires : goal.opens_behind-requires
opens_behind-requires c = (omega arith, c.requires)

pub returns : goal.returns
returns c = λ e. stays_outer (words c.args.t.now) c.args.r c.args.i c.requires c.args.q (keeps_outer c.args.r) (c.opens_behind.ensures e)
