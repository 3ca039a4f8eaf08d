-- From where the search stands the place is as far as it is left to be. Assumes nothing.
use mathlib.Core.Path.{refl}
use native.Mathlib.Omega.{arith}
use Rattle.mem_words.specs.Words.{words}
use Rattle.rule_places.specs.Finding.{place_hit, place_on, place_end}
use Rattle.rule_places.proofs.position_from.Goals as goal

pub begin-b-requires : goal.begin-b-requires
begin-b-requires c = c.requires

pub front-a-requires : goal.front-a-requires
front-a-requires c = c.begin-b.ensures.within

pub loop-i-init : goal.loop-i-init
loop-i-init c = (omega (arith, c.front-a.ensures.within), refl)

pub get-w-requires : goal.get-w-requires
get-w-requires c = omega arith

pub returns-then-is_hit : goal.returns-then-is_hit
returns-then-is_hit c =
    let lp = c.loop-i in
    (omega (arith, lp.invariant.1, c.front-a.ensures.same, c.begin-b.ensures.same, place_hit (words c.args.ws.now) lp.i lp.left c.get-w.result c.is_hit.result (omega arith) c.get-w.ensures.is c.is_hit.ensures c.if-is_hit.true), omega arith)

pub loop-i-preserved : goal.loop-i-preserved
loop-i-preserved c =
    let lp = c.loop-i in
    (omega arith, omega (arith, lp.invariant.1, place_on (words c.args.ws.now) lp.i lp.left c.passes-left.result c.get-w.result c.is_hit.result (omega arith) c.get-w.ensures.is c.is_hit.ensures c.if-is_hit.false c.passes-left.ensures))

pub returns : goal.returns
returns c =
    let lp = c.loop-i in
    (omega (arith, lp.invariant.1, c.front-a.ensures.same, c.begin-b.ensures.same, place_end (words c.args.ws.now) lp.i lp.left (omega arith)), omega arith)
