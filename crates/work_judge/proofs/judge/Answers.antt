-- The answers are laws of `Starting`, from the empty walk. Assumes nothing.
use mathlib.Core.Path.{refl}
use Prim.Native.Nat.{◌-◌}
use native.Mathlib.Omega.{arith}
use Rattle.mem_numbers.specs.Numbers.{shorts}
use Rattle.mem_words.specs.Words.{words}
use Rattle.work_tables.specs.Tables.{laid_after}
use Rattle.work_judge.proofs.Answers.{pushed_as}
use Rattle.work_judge.proofs.Starting.{judge_unfit, suit_as, start_push, next_against, judge_told, judge_clash, judge_stop}
use Rattle.work_judge.proofs.judge.Goals as goal

pub returns-then-not-suit : goal.returns-then-not-suit
returns-then-not-suit c = judge_unfit (words c.args.t.now) c.args.from c.args.mid c.args.to (shorts c.args.locals.now) c.args.w.now c.suit.result (c.if-not-suit.true) c.suit.ensures

pub zero-requires : goal.zero-requires
zero-requires c = let h = (suit_as (words c.args.t.now) c.args.from c.args.mid c.args.to c.args.w.now c.suit.result (c.if-not-suit.false) c.suit.ensures) in record { le = omega arith; fits = omega (arith, h.laid.long) }

pub mark_locals-requires : goal.mark_locals-requires
mark_locals-requires c = let h = (suit_as (words c.args.t.now) c.args.from c.args.mid c.args.to c.args.w.now c.suit.result (c.if-not-suit.false) c.suit.ensures) in laid_after h.laid c.zero.ensures.rest

pub overflow_sub-len : goal.overflow_sub-len
overflow_sub-len c = let h = (suit_as (words c.args.t.now) c.args.from c.args.mid c.args.to c.args.w.now c.suit.result (c.if-not-suit.false) c.suit.ensures) in omega (arith, h.first)

pub push-o-requires : goal.push-o-requires
push-o-requires c = start_push (words c.args.t.now) c.args.from c.args.mid c.args.to (shorts c.args.locals.now) c.args.w.now c.zero.new.w c.mark_locals.new.w (suit_as (words c.args.t.now) c.args.from c.args.mid c.args.to c.args.w.now c.suit.result (c.if-not-suit.false) c.suit.ensures) c.zero.ensures c.mark_locals.ensures

pub overflow_add-used : goal.overflow_add-used
overflow_add-used c = let h = (suit_as (words c.args.t.now) c.args.from c.args.mid c.args.to c.args.w.now c.suit.result (c.if-not-suit.false) c.suit.ensures) in omega (arith, h.first, h.second, h.room)

pub overflow_sub-rest : goal.overflow_sub-rest
overflow_sub-rest c = let h = (suit_as (words c.args.t.now) c.args.from c.args.mid c.args.to c.args.w.now c.suit.result (c.if-not-suit.false) c.suit.ensures) in omega (arith, h.second)

pub against-requires : goal.against-requires
against-requires c = next_against (words c.args.t.now) c.args.from c.args.mid c.args.to (shorts c.args.locals.now) c.args.w.now c.zero.new.w c.mark_locals.new.w (suit_as (words c.args.t.now) c.args.from c.args.mid c.args.to c.args.w.now c.suit.result (c.if-not-suit.false) c.suit.ensures) c.zero.ensures c.mark_locals.ensures c.push-o.new.w _ _ _ refl (pushed_as (words c.args.t.now) c.mark_locals.new.w c.push-o.new.w 0 0 0 c.args.from (c.args.mid - c.args.from) c.push-o.result _ c.in-All.is c.push-o.ensures)

pub returns-in-All : goal.returns-in-All
returns-in-All c = judge_told (words c.args.t.now) c.args.from c.args.mid c.args.to (shorts c.args.locals.now) c.args.w.now c.zero.new.w c.mark_locals.new.w (suit_as (words c.args.t.now) c.args.from c.args.mid c.args.to c.args.w.now c.suit.result (c.if-not-suit.false) c.suit.ensures) c.zero.ensures c.mark_locals.ensures c.push-o.new.w _ _ _ refl (pushed_as (words c.args.t.now) c.mark_locals.new.w c.push-o.new.w 0 0 0 c.args.from (c.args.mid - c.args.from) c.push-o.result _ c.in-All.is c.push-o.ensures) c.against.result c.against.ensures

pub returns-in-Failed : goal.returns-in-Failed
returns-in-Failed c = judge_clash (words c.args.t.now) c.args.from c.args.mid c.args.to (shorts c.args.locals.now) c.args.w.now c.zero.new.w c.mark_locals.new.w (suit_as (words c.args.t.now) c.args.from c.args.mid c.args.to c.args.w.now c.suit.result (c.if-not-suit.false) c.suit.ensures) c.zero.ensures c.mark_locals.ensures c.push-o.new.w _ _ (pushed_as (words c.args.t.now) c.mark_locals.new.w c.push-o.new.w 0 0 0 c.args.from (c.args.mid - c.args.from) c.push-o.result _ c.in-Failed.is c.push-o.ensures)

pub returns-in-NoRoom : goal.returns-in-NoRoom
returns-in-NoRoom c = judge_stop (words c.args.t.now) c.args.from c.args.mid c.args.to (shorts c.args.locals.now) c.args.w.now c.zero.new.w c.mark_locals.new.w (suit_as (words c.args.t.now) c.args.from c.args.mid c.args.to c.args.w.now c.suit.result (c.if-not-suit.false) c.suit.ensures) c.zero.ensures c.mark_locals.ensures c.push-o.new.w _ _ (pushed_as (words c.args.t.now) c.mark_locals.new.w c.push-o.new.w 0 0 0 c.args.from (c.args.mid - c.args.from) c.push-o.result _ c.in-NoRoom.is c.push-o.ensures)
