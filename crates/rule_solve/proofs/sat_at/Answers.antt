-- All told is a solution. Assumes nothing.
use mathlib.Core.List.{◌∷◌}
use Prim.Native.Nat.{◌+◌}
use native.Mathlib.Omega.{arith}
use Rattle.mem_words.specs.Words.{words, length_words}
use Rattle.rule_ranges.proofs.Drawing.{from_drawn}
use Rattle.rule_solve.proofs.Starts.{idle_can}
use Rattle.rule_solve.proofs.Idling.{told_returns, none_returns, can_return, sat_yes, sat_no}
use Rattle.rule_solve.proofs.sat_at.Goals as goal

pub overflow_add-j : goal.overflow_add-j
overflow_add-j c = omega (arith, c.requires.2, length_words c.args.t.now)

pub tell_from-r-requires : goal.tell_from-r-requires
tell_from-r-requires c = (omega (arith, c.requires.2), idle_can c.requires.0.walk c.requires.1 c.requires.3 (from_drawn _ (0 ∷ c.requires.1.others) c.requires.1.drawn 0 (c.args.j + 1)))

pub back-requires : goal.back-requires
back-requires c = can_return (told_returns (words c.args.t.now) _ _ c.args.j c.requires.0 _ _ _ c.tell_from-r.result c.in-All.is c.tell_from-r.ensures) _ _ (omega arith) (omega arith)

pub back-requires-in-Failed : goal.back-requires-in-Failed
back-requires-in-Failed c = can_return (none_returns (words c.args.t.now) _ _ c.args.j c.requires.0 _ c.tell_from-r.result c.in-Failed.is c.tell_from-r.ensures) _ _ (omega arith) (omega arith)

pub returns-in-All : goal.returns-in-All
returns-in-All c = sat_yes (words c.args.t.now) _ _ c.args.j c.requires.0 _ _ _ c.tell_from-r.result c.in-All.is c.tell_from-r.ensures _ c.back.ensures

pub returns-in-Failed : goal.returns-in-Failed
returns-in-Failed c = sat_no (words c.args.t.now) _ _ c.args.j c.requires.0 _ c.tell_from-r.result c.in-Failed.is c.tell_from-r.ensures _ c.back-in-Failed.ensures
