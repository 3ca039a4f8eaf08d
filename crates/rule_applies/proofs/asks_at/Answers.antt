-- Number by number. Assumes nothing.
use mathlib.Core.Path.{refl}
use Rattle.mem_words.specs.Words.{words}
use Rattle.rule_applies.specs.Asking.{asks_in, at_rule, no_rule}
use Rattle.rule_applies.proofs.asks_at.Goals as goal

pub promotion-requires : goal.promotion-requires
promotion-requires c = c.requires

pub condition-requires : goal.condition-requires
condition-requires c = c.requires

pub commitment-requires : goal.commitment-requires
commitment-requires c = c.requires

pub goal_failure-requires : goal.goal_failure-requires
goal_failure-requires c = c.requires

pub guard_failure-requires : goal.guard_failure-requires
guard_failure-requires c = c.requires

pub splitting-requires : goal.splitting-requires
splitting-requires c = c.requires

pub distribution-requires : goal.distribution-requires
distribution-requires c = c.requires

pub returns-in-1 : goal.returns-in-1
unfolding asks_in
returns-in-1 c = at_rule (words c.args.ws.now) c.args.i c.args.r 1 _ c.in-1.is refl

pub returns-in-2 : goal.returns-in-2
unfolding asks_in
returns-in-2 c = at_rule (words c.args.ws.now) c.args.i c.args.r 2 _ c.in-2.is refl

pub returns-in-3 : goal.returns-in-3
unfolding asks_in
returns-in-3 c = at_rule (words c.args.ws.now) c.args.i c.args.r 3 _ c.in-3.is refl

pub returns-in-4 : goal.returns-in-4
unfolding asks_in
returns-in-4 c = at_rule (words c.args.ws.now) c.args.i c.args.r 4 _ c.in-4.is refl

pub returns-in-5 : goal.returns-in-5
unfolding asks_in
returns-in-5 c = at_rule (words c.args.ws.now) c.args.i c.args.r 5 _ c.in-5.is refl

pub returns-in-6 : goal.returns-in-6
unfolding asks_in
returns-in-6 c = at_rule (words c.args.ws.now) c.args.i c.args.r 6 _ c.in-6.is c.promotion.ensures

pub returns-in-7 : goal.returns-in-7
unfolding asks_in
returns-in-7 c = at_rule (words c.args.ws.now) c.args.i c.args.r 7 _ c.in-7.is c.condition.ensures

pub returns-in-8 : goal.returns-in-8
unfolding asks_in
returns-in-8 c = at_rule (words c.args.ws.now) c.args.i c.args.r 8 _ c.in-8.is c.commitment.ensures

pub returns-in-9 : goal.returns-in-9
unfolding asks_in
returns-in-9 c = at_rule (words c.args.ws.now) c.args.i c.args.r 9 _ c.in-9.is refl

pub returns-in-10 : goal.returns-in-10
unfolding asks_in
returns-in-10 c = at_rule (words c.args.ws.now) c.args.i c.args.r 10 _ c.in-10.is c.goal_failure.ensures

pub returns-in-11 : goal.returns-in-11
unfolding asks_in
returns-in-11 c = at_rule (words c.args.ws.now) c.args.i c.args.r 11 _ c.in-11.is c.guard_failure.ensures

pub returns-in-12 : goal.returns-in-12
unfolding asks_in
returns-in-12 c = at_rule (words c.args.ws.now) c.args.i c.args.r 12 _ c.in-12.is c.splitting.ensures

pub returns-in-13 : goal.returns-in-13
unfolding asks_in
returns-in-13 c = at_rule (words c.args.ws.now) c.args.i c.args.r 13 _ c.in-13.is c.distribution.ensures

pub returns-in-14 : goal.returns-in-14
unfolding asks_in
returns-in-14 c = at_rule (words c.args.ws.now) c.args.i c.args.r 14 _ c.in-14.is refl

pub returns-in_default : goal.returns-in_default
returns-in_default c = no_rule (words c.args.ws.now) c.args.i c.args.r c.in_default.in_default-own.rest.0.0.0.0.0.0.0.0.0.0.0.0.0.1 c.in_default.in_default-own.rest.0.0.0.0.0.0.0.0.0.0.0.0.1 c.in_default.in_default-own.rest.0.0.0.0.0.0.0.0.0.0.0.1 c.in_default.in_default-own.rest.0.0.0.0.0.0.0.0.0.0.1 c.in_default.in_default-own.rest.0.0.0.0.0.0.0.0.0.1 c.in_default.in_default-own.rest.0.0.0.0.0.0.0.0.1 c.in_default.in_default-own.rest.0.0.0.0.0.0.0.1 c.in_default.in_default-own.rest.0.0.0.0.0.0.1 c.in_default.in_default-own.rest.0.0.0.0.0.1 c.in_default.in_default-own.rest.0.0.0.0.1 c.in_default.in_default-own.rest.0.0.0.1 c.in_default.in_default-own.rest.0.0.1 c.in_default.in_default-own.rest.0.1 c.in_default.in_default-own.rest.1
