-- Where the finger is. Assumes nothing.
use native.Mathlib.Omega.{arith}
use Rattle.mem_words.specs.Words.{words}
use Rattle.step_finger.proofs.Followed.{follows_near, follows_there, follows_first}
use Rattle.step_finger.proofs.after.Goals as goal

pub stays-requires : goal.stays-requires
stays-requires c = omega (arith, c.requires.2)

pub returns-then-stays : goal.returns-then-stays
returns-then-stays c = follows_near (words c.args.t.now) c.args.r c.args.i (omega (arith, c.requires.2)) c.args.near c.requires.0 (c.stays.ensures c.if-stays.true)

pub returns-then-keeps : goal.returns-then-keeps
returns-then-keeps c = follows_there (words c.args.t.now) c.args.r c.args.i (omega (arith, c.requires.2)) c.args.p.0 c.requires.1 c.requires.2 (c.keeps.ensures c.if-keeps.true)

pub returns : goal.returns
returns c = follows_first (words c.args.t.now) c.args.r c.args.i (omega (arith, c.requires.2))
