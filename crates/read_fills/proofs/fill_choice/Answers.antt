use native.Mathlib.Omega.{arith}
use Rattle.mem_words.specs.Words.{length_words}
use Rattle.mem_sorts.specs.Shapes.{sort_small}
use Rattle.read_pieces.specs.Slots.{choice_filled}
use Rattle.read_fills.proofs.fill_choice.Goals as goal

pub put-requires : goal.put-requires
put-requires c = record { inside = omega (arith, c.requires.0); small = record { value = sort_small c.ask-s.result } }

pub overflow_add-k : goal.overflow_add-k
overflow_add-k c = omega (arith, c.requires.0, length_words c.args.out.now)

pub put-requires-2 : goal.put-requires-2
put-requires-2 c = record { inside = omega (arith, c.requires.0, c.put.ensures.long); small = record { value = omega arith } }

pub overflow_add-k-2 : goal.overflow_add-k-2
overflow_add-k-2 c = omega (arith, c.requires.0, length_words c.args.out.now)

pub put-requires-3 : goal.put-requires-3
put-requires-3 c = record { inside = omega (arith, c.requires.0, c.put.ensures.long, c.put-2.ensures.long); small = record { value = c.requires.1 } }

pub returns : goal.returns
returns c = choice_filled c.requires.0 c.ask-s.ensures c.put.ensures c.put-2.ensures c.put-3.ensures
