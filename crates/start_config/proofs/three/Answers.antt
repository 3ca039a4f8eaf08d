use native.Mathlib.Omega.{arith}
use Rattle.mem_words.specs.Words.{words, length_words}
use Rattle.start_config.specs.Grown.{grown_three}
use Rattle.start_config.proofs.three.Goals as goal

pub put-requires : goal.put-requires
put-requires c = record { inside = omega (arith, c.requires.room); small = c.requires.first }

pub overflow_add-k : goal.overflow_add-k
overflow_add-k c = omega (arith, c.requires.room, length_words c.args.out.now)

pub put-requires-2 : goal.put-requires-2
put-requires-2 c = record { inside = omega (arith, c.requires.room, c.put.ensures.long); small = c.requires.second }

pub overflow_add-k-2 : goal.overflow_add-k-2
overflow_add-k-2 c = omega (arith, c.requires.room, length_words c.args.out.now)

pub put-requires-3 : goal.put-requires-3
put-requires-3 c = record { inside = omega (arith, c.requires.room, c.put.ensures.long, c.put-2.ensures.long); small = c.requires.third }

pub returns : goal.returns
returns c = grown_three (words c.args.out.now) c.args.k c.args.a c.args.b c.args.c _ _ _ c.requires.room c.put.ensures c.put-2.ensures c.put-3.ensures
