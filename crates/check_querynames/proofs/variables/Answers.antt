-- The first i names pass. Assumes nothing.
use native.Mathlib.Omega.{arith}
use Rattle.mem_numbers.specs.Numbers.{triples}
use Rattle.check_nodetables.specs.Tables.{kinds_of, get_kind}
use Rattle.check_querynames.proofs.Passing.{passing_none, passing_more, passing_all, unknown, unspelled, twice}
use Rattle.check_querynames.proofs.variables.Goals as goal

pub loop-i-init : goal.loop-i-init
loop-i-init c = (omega arith, passing_none (triples c.args.cells.now) (triples c.args.vars.now))

pub get-x-requires-clause-inside : goal.get-x-requires-clause-inside
get-x-requires-clause-inside c = omega (arith, c.count-q.ensures.is)

pub returns-then-x-n : goal.returns-then-x-n
returns-then-x-n c = unknown {N = triples c.args.cells.now} (omega (arith, c.count-q.ensures.is)) c.get-x.ensures.is (omega (arith, c.count-n.ensures.is))

pub get1-requires : goal.get1-requires
get1-requires c = get_kind c.requires.0 (omega (arith, c.count-n.ensures.is, c.requires.1.nodes.most))

pub returns-then-get1-lt4 : goal.returns-then-get1-lt4
unfolding kinds_of
returns-then-get1-lt4 c = unspelled c.requires.1 (omega (arith, c.count-q.ensures.is)) c.get-x.ensures.is (omega (arith, c.count-n.ensures.is)) c.get1.ensures.is (omega arith)

pub listed-requires : goal.listed-requires
listed-requires c = omega (arith, c.count-q.ensures.is)

pub returns-then-listed : goal.returns-then-listed
returns-then-listed c = twice {N = triples c.args.cells.now} (omega (arith, c.count-q.ensures.is)) c.get-x.ensures.is c.listed.ensures c.if-listed.true

pub loop-i-preserved : goal.loop-i-preserved
unfolding kinds_of
loop-i-preserved c = (omega arith, passing_more c.requires.1 c.loop-i.invariant.1 (omega (arith, c.count-q.ensures.is)) c.get-x.ensures.is (omega (arith, c.count-n.ensures.is)) c.get1.ensures.is (omega arith) c.listed.ensures c.if-listed.false)

pub returns : goal.returns
returns c = passing_all c.requires.1 (omega (arith, c.count-q.ensures.is)) c.loop-i.invariant.1
