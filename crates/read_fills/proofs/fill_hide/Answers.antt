use native.Mathlib.Omega.{arith}
use Rattle.mem_words.specs.Words.{length_words}
use Rattle.read_pieces.specs.Slots.{hide_filled}
use Rattle.read_fills.proofs.fill_hide.Goals as goal

pub put-requires : goal.put-requires
put-requires c = record { inside = omega (arith, c.requires.0); small = record { value = omega arith } }

pub overflow_add-k : goal.overflow_add-k
overflow_add-k c = omega (arith, c.requires.0, length_words c.args.out.now)

pub put-requires-2 : goal.put-requires-2
put-requires-2 c = record { inside = omega (arith, c.requires.0, c.put.ensures.long); small = record { value = c.requires.1 } }

pub returns : goal.returns
returns c = hide_filled c.requires.0 c.put.ensures c.put-2.ensures
