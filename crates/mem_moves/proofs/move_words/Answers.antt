use native.Mathlib.Omega.{arith}
use Rattle.mem_words.specs.Words.{length_words}
use Rattle.mem_copies.specs.Bytes.{words_copied}
use Rattle.mem_moves.proofs.move_words.Goals as goal

pub overflow_mul-from : goal.overflow_mul-from
overflow_mul-from c = omega (arith, length_words c.args.b.now, c.requires.room, c.requires.inside)

pub overflow_mul-n : goal.overflow_mul-n
overflow_mul-n c = omega (arith, length_words c.args.b.now, c.requires.room, c.requires.inside)

pub overflow_mul-at : goal.overflow_mul-at
overflow_mul-at c = omega (arith, length_words c.args.b.now, c.requires.room, c.requires.inside)

pub move_bytes-requires : goal.move_bytes-requires
move_bytes-requires c = record { inside = omega (arith, length_words c.args.b.now, c.requires.inside); room = omega (arith, length_words c.args.b.now, c.requires.room) }

pub returns : goal.returns
returns c = words_copied c.args.b.now c.args.b.now _ c.args.at c.args.from c.args.n (omega (arith, c.requires.room, c.requires.inside)) (omega (arith, c.requires.room, c.requires.inside)) c.move_bytes.ensures
