use native.Mathlib.Omega.{arith}
use Rattle.mem_words.specs.Words.{length_words}
use Rattle.mem_copies.specs.Bytes.{words_copied}
use Rattle.mem_copies.proofs.copy.Goals as goal

pub overflow_mul-from : goal.overflow_mul-from
overflow_mul-from c = omega (arith, length_words c.args.src.now, c.requires.source)

pub overflow_mul-n : goal.overflow_mul-n
overflow_mul-n c = omega (arith, length_words c.args.src.now, c.requires.source)

pub overflow_mul-at : goal.overflow_mul-at
overflow_mul-at c = omega (arith, length_words c.args.dst.now, c.requires.room)

pub copy_bytes-requires : goal.copy_bytes-requires
copy_bytes-requires c = record { source = omega (arith, length_words c.args.src.now, c.requires.source); room = omega (arith, length_words c.args.dst.now, c.requires.room) }

pub returns : goal.returns
returns c = words_copied c.args.dst.now c.args.src.now _ c.args.at c.args.from c.args.n c.requires.source c.requires.room c.copy_bytes.ensures
