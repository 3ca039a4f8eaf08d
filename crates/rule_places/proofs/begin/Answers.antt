-- At the finger, or at the first word. Assumes nothing.
use native.Mathlib.Omega.{arith}
use Rattle.mem_words.specs.Words.{words}
use Rattle.rule_places.specs.Pieces.{ahead_none}
use Rattle.rule_places.specs.Fingers.{from_finger}
use Rattle.rule_places.proofs.begin.Goals as goal

pub returns-then-p-f : goal.returns-then-p-f
returns-then-p-f c = record { within = omega arith; same = ahead_none (words c.args.ws.now) c.args.p }

pub returns : goal.returns
returns c = record { within = c.requires.inside; same = from_finger (words c.args.ws.now) c.args.f c.args.p c.requires (omega arith) }
