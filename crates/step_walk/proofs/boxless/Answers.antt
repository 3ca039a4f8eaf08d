-- There is no and-box before j. Assumes nothing.
use native.Mathlib.Omega.{arith}
use Rattle.mem_words.specs.Words.{words, length_words}
use Rattle.step_walk.proofs.Answers.{searched_first, searched_next, searched_found, searched_all}
use Rattle.step_walk.proofs.boxless.Goals as goal

pub loop-j-init : goal.loop-j-init
loop-j-init c = (omega arith, searched_first (words c.args.t.now) c.args.g)

pub returns-then-is_kind : goal.returns-then-is_kind
returns-then-is_kind c = searched_found (words c.args.t.now) c.args.g c.loop-j.j c.is_kind.result c.loop-j.invariant.0 (omega (arith, c.end_of-e.ensures.0)) c.is_kind.ensures c.if-is_kind.true

pub loop-j-preserved : goal.loop-j-preserved
loop-j-preserved c = (omega (arith, c.loop-j.invariant.0), searched_next (words c.args.t.now) c.args.g c.loop-j.j c.is_kind.result c.is_kind.ensures c.if-is_kind.false c.loop-j.invariant.1)

pub returns : goal.returns
returns c = searched_all (words c.args.t.now) c.args.g c.loop-j.j (omega (arith, c.end_of-e.ensures.0)) c.loop-j.invariant.1
