-- What is around j is still to be told. Assumes nothing.
use native.Mathlib.Omega.{arith}
use Rattle.mem_words.specs.Words.{words}
use Rattle.rule_tells.proofs.Scanned.{around_less, none_left, none_beyond}
use Rattle.rule_tells.proofs.Stepping.{partly_start, partly_end, partly_can, partly_next, partly_none}
use Rattle.rule_tells.proofs.tell_from.Goals as goal

pub loop-j-init : goal.loop-j-init
loop-j-init c = (omega arith, partly_start _ _ _ _ _ _ _)

pub opening_of-o-requires : goal.opening_of-o-requires
opening_of-o-requires c = omega (arith, c.requires.0, c.loop-j.invariant.0)

pub returns-then-o-s : goal.returns-then-o-s
returns-then-o-s c = partly_end _ _ _ _ _ _ _ _ _ _ _ _ c.loop-j.invariant.1 (none_beyond (words c.args.t.now) c.args.s c.loop-j.j c.opening_of-o.result c.opening_of-o.ensures.0 (omega arith))

pub tell_box-r-requires : goal.tell_box-r-requires
tell_box-r-requires c = (omega (arith, c.requires.0, c.loop-j.invariant.0, c.opening_of-o.ensures.1), partly_can _ _ _ _ _ _ _ _ _ _ _ _ c.loop-j.invariant.1 c.opening_of-o.result c.opening_of-o.ensures.0 (omega arith) (omega arith) c.requires.1)

pub loop-j-smaller : goal.loop-j-smaller
loop-j-smaller c = omega (arith, c.opening_of-o.ensures.0, around_less (words c.args.t.now) c.loop-j.j (omega arith))

pub loop-j-preserved : goal.loop-j-preserved
loop-j-preserved c = (omega (arith, c.loop-j.invariant.0, c.opening_of-o.ensures.1), partly_next _ _ _ _ _ _ _ _ _ _ _ _ c.loop-j.invariant.1 c.opening_of-o.result c.opening_of-o.ensures.0 (omega arith) (omega arith) c.requires.1 _ _ _ _ c.tell_box-r.result c.in-All.is c.tell_box-r.ensures)

pub returns-in-Failed : goal.returns-in-Failed
returns-in-Failed c = partly_none _ _ _ _ _ _ _ _ _ _ _ _ c.loop-j.invariant.1 c.opening_of-o.result c.opening_of-o.ensures.0 (omega arith) (omega arith) c.requires.1 _ _ c.tell_box-r.result c.in-Failed.is c.tell_box-r.ensures

pub returns : goal.returns
returns c = partly_end _ _ _ _ _ _ _ _ _ _ _ _ c.loop-j.invariant.1 (none_left (words c.args.t.now) c.args.s c.loop-j.j (omega arith))
