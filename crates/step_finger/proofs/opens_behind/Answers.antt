-- What is found there is what is found among all. Assumes nothing.
use native.Mathlib.Omega.{arith}
use Rattle.mem_words.specs.Words.{length_words}
use Rattle.step_finger.proofs.Kept.{not_kept}
use Rattle.step_finger.proofs.Followed.{opens_within, part_long}
use Rattle.step_finger.proofs.opens_behind.Goals as goal

pub overflow_mul-q : goal.overflow_mul-q
overflow_mul-q c = omega (arith, c.requires.0, c.requires.1, length_words c.args.t.now)

pub overflow_mul-i : goal.overflow_mul-i
overflow_mul-i c = omega (arith, c.requires.1, length_words c.args.t.now)

pub overflow_sub-i : goal.overflow_sub-i
overflow_sub-i c = omega (arith, c.requires.0)

pub open_in-requires : goal.open_in-requires
open_in-requires c = (omega (arith, c.requires.0), omega (arith, c.requires.1, length_words c.args.t.now), part_long c.args.t.now c.args.q c.args.i c.requires.0 c.requires.1)

pub returns-then-open_in-eq0 : goal.returns-then-open_in-eq0
returns-then-open_in-eq0 c = λ e. not_kept e

pub returns : goal.returns
returns c = λ e. opens_within c.args.t.now c.args.q c.args.i c.open_in.result c.requires.0 c.requires.1 c.open_in.ensures (omega (arith, c.if-open_in-eq0.false))
