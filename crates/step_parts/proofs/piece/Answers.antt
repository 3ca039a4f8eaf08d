-- Where it closes; then its words are counted. Assumes nothing.
use native.Mathlib.Omega.{arith}
use Rattle.mem_words.specs.Words.{words, length_words}
use Rattle.step_parts.proofs.Cuts.{opens_before, piece_counted}
use Rattle.step_parts.proofs.piece.Goals as goal

pub overflow_mul-a : goal.overflow_mul-a
overflow_mul-a c = omega (arith, c.requires.0, c.end_of-e.ensures.0, opens_before (words c.args.ws.now) c.args.i c.requires.1)

pub overflow_mul-z : goal.overflow_mul-z
overflow_mul-z c = omega (arith, c.requires.0, c.end_of-e.ensures.1)

pub overflow_add-z : goal.overflow_add-z
overflow_add-z c = omega (arith, c.requires.0, c.end_of-e.ensures.1)

pub between-requires : goal.between-requires
between-requires c = (c.requires.0, omega (arith, c.end_of-e.ensures.0, opens_before (words c.args.ws.now) c.args.i c.requires.1), omega (arith, c.end_of-e.ensures.0, c.requires.1, length_words c.args.ws.now))

pub returns : goal.returns
returns c = (piece_counted c.args.ws.now c.args.i c.end_of-e.result c.end_of-e.ensures.0 c.requires.1 _ c.between.ensures.0, c.between.ensures.1)
