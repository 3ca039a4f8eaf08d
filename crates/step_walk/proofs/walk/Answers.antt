-- Box by box, until one is not calm. Assumes nothing.
use mathlib.Core.Path.{refl, sym, ◌∙◌, subst}
use mathlib.Core.List.{List}
use Prim.Native.Nat.{ℕ}
use native.Mathlib.Omega.{arith}
use Rattle.mem_words.specs.Words.{words, length_words}
use Rattle.step_turn.specs.Stood.{Goes}
use Rattle.step_walk.proofs.Answers.{goal_first, boxes_none, boxes_loud, boxes_calm}
use Rattle.step_walk.proofs.Calming.{ask_can, walks_else, walks_box, box_quiet, stood_asked, marks_asked}
use Rattle.step_walk.proofs.Ending.{over_returns, over_walk, over_marks, zero_walk, zero_marks}
use Rattle.rule_solve.proofs.Idling.{can_return}
use Rattle.solve_quiet.specs.Solver.{Marking}
use Rattle.rule_ranges.specs.Ranges.{locals_at}
use Rattle.step_walk.proofs.walk.Goals as goal

pub loop-j-init : goal.loop-j-init
loop-j-init c = (omega arith, omega (arith, c.end_of-e.ensures.0, goal_first (words c.args.t.now) c.args.g c.requires.0), c.requires.1, refl)

pub turn-requires : goal.turn-requires
turn-requires c = record { goal = c.args.g; from = c.args.environment.trail; can = c.requires.0; stood = c.loop-j.invariant.2.stood; low = omega (arith, c.end_of-e.ensures.0) }

pub zero-requires : goal.zero-requires
zero-requires c = record { le = omega arith; fits = omega (arith, c.turn.ensures.laid.long) }

pub returns-in_default : goal.returns-in_default
returns-in_default c = (boxes_none (words c.args.t.now) c.args.g c.loop-j.j c.loop-j.invariant.0 (omega (arith, c.end_of-e.ensures.0)) (subst (Goes (words c.args.t.now) c.args.g c.args.environment.trail c.loop-j.j _) c.in_default.is (c.turn.ensures.goes c.args.g c.args.environment.trail c.requires.0 c.loop-j.invariant.2.stood (omega (arith, c.end_of-e.ensures.0)))), zero_walk c.turn.ensures.laid c.zero.ensures, zero_marks (locals_at (words c.args.t.now) c.args.g) c.zero.ensures (subst (λ (l : List ℕ). Marking l (locals_at (words c.args.t.now) c.args.g)) (sym c.turn.ensures.locals) c.loop-j.invariant.2.locals))

pub overflow_add-j : goal.overflow_add-j
overflow_add-j c = omega (arith, c.end_of-e.ensures.1, length_words c.args.t.now)

pub silent-requires : goal.silent-requires
silent-requires c = ask_can (words c.args.t.now) c.args.g c.args.environment.trail _ c.loop-j.j _ _ _ _ _ (subst (Goes (words c.args.t.now) c.args.g c.args.environment.trail c.loop-j.j _) c.in-Some.is (c.turn.ensures.goes c.args.g c.args.environment.trail c.requires.0 c.loop-j.invariant.2.stood (omega (arith, c.end_of-e.ensures.0)))) c.requires.0

pub back-requires : goal.back-requires
back-requires c = can_return (over_returns (stood_asked (words c.args.t.now) c.args.g c.args.environment.trail _ c.loop-j.j _ _ _ _ _ (subst (Goes (words c.args.t.now) c.args.g c.args.environment.trail c.loop-j.j _) c.in-Some.is (c.turn.ensures.goes c.args.g c.args.environment.trail c.requires.0 c.loop-j.invariant.2.stood (omega (arith, c.end_of-e.ensures.0)))) _ c.turn.ensures.locals c.loop-j.invariant.2.locals c.loop-j.invariant.2.calm _ c.silent.result c.silent.ensures)) _ _ (omega arith) (omega arith)

pub returns-then-not-silent : goal.returns-then-not-silent
returns-then-not-silent c = (boxes_loud (words c.args.t.now) c.args.g c.loop-j.j c.is_kind.result c.silent.result c.loop-j.invariant.0 (omega (arith, c.end_of-e.ensures.0)) c.is_kind.ensures c.if-is_kind.true (box_quiet (words c.args.t.now) c.args.g c.args.environment.trail _ c.loop-j.j _ _ _ _ _ (subst (Goes (words c.args.t.now) c.args.g c.args.environment.trail c.loop-j.j _) c.in-Some.is (c.turn.ensures.goes c.args.g c.args.environment.trail c.requires.0 c.loop-j.invariant.2.stood (omega (arith, c.end_of-e.ensures.0)))) _ c.turn.ensures.locals c.loop-j.invariant.2.locals c.loop-j.invariant.2.calm _ c.silent.result c.silent.ensures) (c.if-not-silent.true), over_walk (over_returns (stood_asked (words c.args.t.now) c.args.g c.args.environment.trail _ c.loop-j.j _ _ _ _ _ (subst (Goes (words c.args.t.now) c.args.g c.args.environment.trail c.loop-j.j _) c.in-Some.is (c.turn.ensures.goes c.args.g c.args.environment.trail c.requires.0 c.loop-j.invariant.2.stood (omega (arith, c.end_of-e.ensures.0)))) _ c.turn.ensures.locals c.loop-j.invariant.2.locals c.loop-j.invariant.2.calm _ c.silent.result c.silent.ensures)) _ c.back.ensures, over_marks (locals_at (words c.args.t.now) c.args.g) c.back.ensures (marks_asked (words c.args.t.now) c.args.g c.args.environment.trail _ c.loop-j.j _ _ _ _ _ (subst (Goes (words c.args.t.now) c.args.g c.args.environment.trail c.loop-j.j _) c.in-Some.is (c.turn.ensures.goes c.args.g c.args.environment.trail c.requires.0 c.loop-j.invariant.2.stood (omega (arith, c.end_of-e.ensures.0)))) _ c.turn.ensures.locals c.loop-j.invariant.2.locals c.loop-j.invariant.2.calm _ c.silent.result c.silent.ensures))

pub loop-j-smaller-else-not-silent : goal.loop-j-smaller-else-not-silent
loop-j-smaller-else-not-silent c = omega arith

pub loop-j-preserved-else-not-silent : goal.loop-j-preserved-else-not-silent
loop-j-preserved-else-not-silent c = (omega (arith, c.loop-j.invariant.0), omega arith, walks_box (words c.args.t.now) c.args.g c.args.environment.trail _ c.loop-j.j _ _ _ _ _ (subst (Goes (words c.args.t.now) c.args.g c.args.environment.trail c.loop-j.j _) c.in-Some.is (c.turn.ensures.goes c.args.g c.args.environment.trail c.requires.0 c.loop-j.invariant.2.stood (omega (arith, c.end_of-e.ensures.0)))) _ c.turn.ensures.locals c.loop-j.invariant.2.locals c.loop-j.invariant.2.calm _ c.silent.result c.silent.ensures (c.if-not-silent.false), c.silent.auto.w ∙ c.turn.auto.w ∙ c.loop-j.invariant.3)

pub loop-j-smaller : goal.loop-j-smaller
loop-j-smaller c = omega arith

pub loop-j-preserved : goal.loop-j-preserved
loop-j-preserved c = (omega (arith, c.loop-j.invariant.0), omega arith, walks_else (words c.args.t.now) c.args.g c.args.environment.trail _ c.loop-j.j _ _ _ _ _ (subst (Goes (words c.args.t.now) c.args.g c.args.environment.trail c.loop-j.j _) c.in-Some.is (c.turn.ensures.goes c.args.g c.args.environment.trail c.requires.0 c.loop-j.invariant.2.stood (omega (arith, c.end_of-e.ensures.0)))) _ c.turn.ensures.locals c.loop-j.invariant.2.locals c.loop-j.invariant.2.calm c.is_kind.result c.is_kind.ensures c.if-is_kind.false, c.turn.auto.w ∙ c.loop-j.invariant.3)

pub back-requires-2 : goal.back-requires-2
back-requires-2 c = can_return (over_returns c.loop-j.invariant.2.stood) _ _ (omega arith) (omega arith)

pub returns : goal.returns
returns c = (boxes_calm (words c.args.t.now) c.args.g c.requires.0 c.loop-j.invariant.2 (omega (arith, c.loop-j.invariant.1, c.end_of-e.ensures.0)), over_walk (over_returns c.loop-j.invariant.2.stood) _ c.back-2.ensures, over_marks (locals_at (words c.args.t.now) c.args.g) c.back-2.ensures c.loop-j.invariant.2.locals)
