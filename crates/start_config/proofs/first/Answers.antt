use native.Mathlib.Omega.{arith}
use Rattle.mem_words.specs.Words.{words}
use Rattle.start_config.specs.Grown.{grown_first}
use Rattle.start_config.proofs.first.Goals as goal

pub three-requires : goal.three-requires
three-requires c = record { room = omega (arith, c.requires.room); first = record { value = omega arith }; second = record { value = omega arith }; third = record { value = omega arith } }

pub variables-requires : goal.variables-requires
variables-requires c = record { room = omega (arith, c.requires.room, c.three.ensures.long); few = c.requires.few }

pub overflow_add-k : goal.overflow_add-k
overflow_add-k c = omega (arith, c.requires.few)

pub three-requires-2 : goal.three-requires-2
three-requires-2 c = record { room = omega (arith, c.requires.room, c.three.ensures.long, c.variables.ensures.long); first = record { value = omega arith }; second = record { value = omega arith }; third = record { value = omega arith } }

pub overflow_add-m : goal.overflow_add-m
overflow_add-m c = omega (arith, c.requires.few)

pub put-requires : goal.put-requires
put-requires c = record { inside = omega (arith, c.requires.room, c.three.ensures.long, c.variables.ensures.long, c.three-2.ensures.long); small = record { value = omega arith } }

pub overflow_add-w : goal.overflow_add-w
overflow_add-w c = omega (arith, c.requires.few)

pub copy-requires : goal.copy-requires
copy-requires c = record { source = omega (arith, c.requires.source); room = omega (arith, c.requires.room, c.three.ensures.long, c.variables.ensures.long, c.three-2.ensures.long, c.put.ensures.long) }

pub overflow_add-e : goal.overflow_add-e
overflow_add-e c = omega (arith, c.requires.short, c.requires.few)

pub three-requires-3 : goal.three-requires-3
three-requires-3 c = record { room = omega (arith, c.requires.room, c.three.ensures.long, c.variables.ensures.long, c.three-2.ensures.long, c.put.ensures.long, c.copy.ensures.long); first = record { value = omega arith }; second = record { value = omega arith }; third = record { value = omega arith } }

pub overflow_add-result : goal.overflow_add-result
overflow_add-result c = omega (arith, c.requires.short, c.requires.few)

pub returns : goal.returns
returns c = grown_first (words c.args.out.now) c.args.v c.args.b (words c.args.goal.now) _ _ _ _ _ _ c.requires.room c.requires.source c.three.ensures c.variables.ensures c.three-2.ensures c.put.ensures c.copy.ensures c.three-3.ensures
