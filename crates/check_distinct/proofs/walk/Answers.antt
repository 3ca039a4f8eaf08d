-- The children of p behind q were met. Assumes nothing.
use mathlib.Core.Path.{sym, ◌∙◌}
use native.Mathlib.Omega.{arith}
use Rattle.work_tables.specs.Tables.{laid_after}
use Rattle.check_nodetables.specs.Tables.{heads_of, nexts_of, stamps_of, get_head, get_next, get_stamp, set_stamp, put_stamp}
use Rattle.check_distinct.proofs.Walking.{walking_none, walking_more, met_twice, walking_less, walking_end}
use Rattle.check_distinct.proofs.walk.Goals as goal

pub overflow_add-stamp : goal.overflow_add-stamp
overflow_add-stamp c = omega (arith, c.requires.4, c.requires.1.most)

pub get-q-requires-clause-can : goal.get-q-requires-clause-can
get-q-requires-clause-can c = get_head c.requires.0 (omega (arith, c.requires.4, c.requires.1.most))

pub loop-q-init : goal.loop-q-init
unfolding heads_of
loop-q-init c = walking_none c.requires.0 c.requires.1 c.requires.2 c.requires.4 c.requires.3 c.get-q.ensures.is

pub byte_of-requires : goal.byte_of-requires
byte_of-requires c = c.loop-q.invariant.met.at

pub get-requires-clause-can : goal.get-requires-clause-can
get-requires-clause-can c = get_stamp c.loop-q.invariant.laid (omega arith)

pub returns-then-get-stamp : goal.returns-then-get-stamp
unfolding stamps_of
returns-then-get-stamp c = (met_twice c.loop-q.invariant.met (omega arith) (c.from-x.ensures ∙ c.byte_of.ensures) (sym c.get.ensures.is ∙ c.if-get-stamp.true), c.loop-q.invariant.rest)

pub put-requires-clause-can : goal.put-requires-clause-can
put-requires-clause-can c = set_stamp c.loop-q.invariant.laid (omega arith) (omega (arith, c.requires.4, c.requires.1.most))

pub get-q-requires-in-loop-q-clause-can : goal.get-q-requires-in-loop-q-clause-can
get-q-requires-in-loop-q-clause-can c = get_next (laid_after c.loop-q.invariant.laid (put_stamp c.put.ensures).rest) (omega (arith, c.loop-q.invariant.met.at, c.requires.1.most))

pub loop-q-smaller : goal.loop-q-smaller
unfolding nexts_of
loop-q-smaller c = walking_less c.loop-q.invariant (omega arith) (put_stamp c.put.ensures) c.get-q-in-loop-q.ensures.is

pub loop-q-preserved : goal.loop-q-preserved
unfolding stamps_of nexts_of
loop-q-preserved c = walking_more c.loop-q.invariant (omega arith) (c.from-x.ensures ∙ c.byte_of.ensures) (λ z. c.if-get-stamp.false (c.get.ensures.is ∙ z)) (put_stamp c.put.ensures) c.get-q-in-loop-q.ensures.is

pub returns : goal.returns
returns c = (walking_end c.loop-q.invariant (omega arith), c.loop-q.invariant.rest)
