-- It opens a bracket, closes one, or neither. Assumes nothing.
use native.Mathlib.Omega.{arith}
use Rattle.mem_words.specs.Words.{words}
use Rattle.step_path.proofs.Passing.{path_few, place_can, pass_opens, pass_closes, some_open, pass_else}
use Rattle.step_path.proofs.pass.Goals as goal

pub get-x-requires : goal.get-x-requires
get-x-requires c = omega (arith, c.requires.before.low, c.requires.before.whole)

pub put-requires : goal.put-requires
put-requires c = place_can c.requires

pub overflow_add-result : goal.overflow_add-result
overflow_add-result c = omega (arith, path_few c.requires.path, c.requires.before.low, c.requires.before.whole, c.requires.few)

pub returns-then-is_bracket : goal.returns-then-is_bracket
returns-then-is_bracket c = pass_opens (words c.args.t.now) _ c.args.j c.args.h c.requires c.get-x.result c.get-x.ensures.is c.is_bracket.result c.is_bracket.ensures c.if-is_bracket.true _ c.put.ensures

pub overflow_sub-result : goal.overflow_sub-result
overflow_sub-result c = omega (arith, some_open (words c.args.t.now) _ c.args.j c.args.h c.requires c.get-x.result c.get-x.ensures.is c.is_bracket.result c.is_bracket.ensures c.if-is_bracket.false c.ends.result c.ends.ensures c.if-ends.true)

pub returns-then-ends : goal.returns-then-ends
returns-then-ends c = pass_closes (words c.args.t.now) _ c.args.j c.args.h c.requires c.get-x.result c.get-x.ensures.is c.is_bracket.result c.is_bracket.ensures c.if-is_bracket.false c.ends.result c.ends.ensures c.if-ends.true

pub returns : goal.returns
returns c = pass_else (words c.args.t.now) _ c.args.j c.args.h c.requires c.get-x.result c.get-x.ensures.is c.is_bracket.result c.is_bracket.ensures c.if-is_bracket.false c.ends.result c.ends.ensures c.if-ends.false
