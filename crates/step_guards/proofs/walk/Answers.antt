-- Guard by guard, until one is quiet. Assumes nothing.
use mathlib.Core.Path.{refl, sym, ◌∙◌, subst}
use mathlib.Core.List.{List, []}
use Prim.Native.Nat.{ℕ}
use native.Mathlib.Omega.{arith}
use Rattle.mem_words.specs.Words.{words, length_words}
use Rattle.step_turn.specs.Stood.{Goes}
use Rattle.step_walk.proofs.Answers.{goal_first}
use Rattle.step_guards.proofs.Resting.{wait_can, pass_can, asks_else, ask_own, asks_box, rest_loud, rest_unsolved, rest_all, stood_asked, unmarked_asked}
use Rattle.step_walk.proofs.Ending.{over_returns, over_walk, over_marks, zero_walk, zero_marks}
use Rattle.rule_solve.proofs.Idling.{can_return}
use Rattle.solve_quiet.specs.Solver.{Marking}
use Rattle.step_guards.proofs.walk.Goals as goal

pub loop-j-init : goal.loop-j-init
loop-j-init c = (omega arith, omega (arith, c.end_of-e.ensures.0, goal_first (words c.args.t.now) c.args.g c.requires.0), c.requires.1, refl)

pub waits-v-requires : goal.waits-v-requires
waits-v-requires c = wait_can (words c.args.t.now) c.args.g c.requires.0 c.loop-j.invariant.2 c.loop-j.invariant.0 (omega (arith, c.end_of-e.ensures.0))

pub turn-requires : goal.turn-requires
turn-requires c = record { goal = c.args.g; from = c.args.environment.trail; can = c.requires.0; stood = c.loop-j.invariant.2.stood; low = omega (arith, c.end_of-e.ensures.0) }

pub zero-requires : goal.zero-requires
zero-requires c = record { le = omega arith; fits = omega (arith, c.turn.ensures.laid.long) }

pub returns-in_default : goal.returns-in_default
returns-in_default c = (rest_unsolved (words c.args.t.now) c.args.g c.loop-j.j c.loop-j.invariant.0 (omega (arith, c.end_of-e.ensures.0)) (subst (Goes (words c.args.t.now) c.args.g c.args.environment.trail c.loop-j.j _) c.in_default.is (c.turn.ensures.goes c.args.g c.args.environment.trail c.requires.0 c.loop-j.invariant.2.stood (omega (arith, c.end_of-e.ensures.0)))), record { walk = zero_walk c.turn.ensures.laid c.zero.ensures; unmarked = zero_marks [] c.zero.ensures (subst (λ (l : List ℕ). Marking l []) (sym c.turn.ensures.locals) c.loop-j.invariant.2.unmarked) })

pub pass-h-requires : goal.pass-h-requires
pass-h-requires c = pass_can (words c.args.t.now) c.args.g c.args.environment.trail _ c.loop-j.j _ _ _ _ _ (subst (Goes (words c.args.t.now) c.args.g c.args.environment.trail c.loop-j.j _) c.in-Some.is (c.turn.ensures.goes c.args.g c.args.environment.trail c.requires.0 c.loop-j.invariant.2.stood (omega (arith, c.end_of-e.ensures.0)))) _ c.turn.ensures.locals c.turn.ensures.rest c.loop-j.h c.loop-j.invariant.2.path c.loop-j.invariant.2.unmarked c.loop-j.invariant.2.rest c.requires.0 (omega (arith, c.end_of-e.ensures.0))

pub overflow_add-j : goal.overflow_add-j
overflow_add-j c = omega (arith, c.end_of-e.ensures.1, length_words c.args.t.now)

pub own_quiet-requires : goal.own_quiet-requires
own_quiet-requires c = ask_own (words c.args.t.now) c.args.g c.args.environment.trail _ c.loop-j.j _ _ _ _ _ (subst (Goes (words c.args.t.now) c.args.g c.args.environment.trail c.loop-j.j _) c.in-Some.is (c.turn.ensures.goes c.args.g c.args.environment.trail c.requires.0 c.loop-j.invariant.2.stood (omega (arith, c.end_of-e.ensures.0)))) _ c.turn.ensures.locals c.turn.ensures.rest c.loop-j.h c.loop-j.invariant.2.path c.loop-j.invariant.2.unmarked c.loop-j.invariant.2.rest c.requires.0 (omega (arith, c.end_of-e.ensures.0)) _ c.pass-h.result c.pass-h.ensures c.loop-j.invariant.0 c.waits-v.result c.waits-v.ensures c.if-v.true

pub back-requires : goal.back-requires
back-requires c = can_return (over_returns (stood_asked (words c.args.t.now) c.args.g c.args.environment.trail _ c.loop-j.j _ _ _ _ _ (subst (Goes (words c.args.t.now) c.args.g c.args.environment.trail c.loop-j.j _) c.in-Some.is (c.turn.ensures.goes c.args.g c.args.environment.trail c.requires.0 c.loop-j.invariant.2.stood (omega (arith, c.end_of-e.ensures.0)))) _ c.turn.ensures.locals c.turn.ensures.rest c.loop-j.h c.loop-j.invariant.2.path c.loop-j.invariant.2.unmarked c.loop-j.invariant.2.rest c.requires.0 (omega (arith, c.end_of-e.ensures.0)) _ c.pass-h.result c.pass-h.ensures c.loop-j.invariant.0 c.waits-v.result c.waits-v.ensures c.if-v.true _ c.own_quiet.result c.own_quiet.ensures)) _ _ (omega arith) (omega arith)

pub returns-then-own_quiet : goal.returns-then-own_quiet
returns-then-own_quiet c = (rest_loud (words c.args.t.now) c.args.g c.args.environment.trail _ c.loop-j.j _ _ _ _ _ (subst (Goes (words c.args.t.now) c.args.g c.args.environment.trail c.loop-j.j _) c.in-Some.is (c.turn.ensures.goes c.args.g c.args.environment.trail c.requires.0 c.loop-j.invariant.2.stood (omega (arith, c.end_of-e.ensures.0)))) _ c.turn.ensures.locals c.turn.ensures.rest c.loop-j.h c.loop-j.invariant.2.path c.loop-j.invariant.2.unmarked c.loop-j.invariant.2.rest c.requires.0 (omega (arith, c.end_of-e.ensures.0)) _ c.pass-h.result c.pass-h.ensures c.loop-j.invariant.0 c.waits-v.result c.waits-v.ensures c.if-v.true _ c.own_quiet.result c.own_quiet.ensures c.if-own_quiet.true, record { walk = over_walk (over_returns (stood_asked (words c.args.t.now) c.args.g c.args.environment.trail _ c.loop-j.j _ _ _ _ _ (subst (Goes (words c.args.t.now) c.args.g c.args.environment.trail c.loop-j.j _) c.in-Some.is (c.turn.ensures.goes c.args.g c.args.environment.trail c.requires.0 c.loop-j.invariant.2.stood (omega (arith, c.end_of-e.ensures.0)))) _ c.turn.ensures.locals c.turn.ensures.rest c.loop-j.h c.loop-j.invariant.2.path c.loop-j.invariant.2.unmarked c.loop-j.invariant.2.rest c.requires.0 (omega (arith, c.end_of-e.ensures.0)) _ c.pass-h.result c.pass-h.ensures c.loop-j.invariant.0 c.waits-v.result c.waits-v.ensures c.if-v.true _ c.own_quiet.result c.own_quiet.ensures)) _ c.back.ensures; unmarked = over_marks [] c.back.ensures (unmarked_asked (words c.args.t.now) c.args.g c.args.environment.trail _ c.loop-j.j _ _ _ _ _ (subst (Goes (words c.args.t.now) c.args.g c.args.environment.trail c.loop-j.j _) c.in-Some.is (c.turn.ensures.goes c.args.g c.args.environment.trail c.requires.0 c.loop-j.invariant.2.stood (omega (arith, c.end_of-e.ensures.0)))) _ c.turn.ensures.locals c.turn.ensures.rest c.loop-j.h c.loop-j.invariant.2.path c.loop-j.invariant.2.unmarked c.loop-j.invariant.2.rest c.requires.0 (omega (arith, c.end_of-e.ensures.0)) _ c.pass-h.result c.pass-h.ensures c.loop-j.invariant.0 c.waits-v.result c.waits-v.ensures c.if-v.true _ c.own_quiet.result c.own_quiet.ensures) })

pub loop-j-smaller-else-own_quiet : goal.loop-j-smaller-else-own_quiet
loop-j-smaller-else-own_quiet c = omega arith

pub loop-j-preserved-else-own_quiet : goal.loop-j-preserved-else-own_quiet
loop-j-preserved-else-own_quiet c = (omega (arith, c.loop-j.invariant.0), omega arith, asks_box (words c.args.t.now) c.args.g c.args.environment.trail _ c.loop-j.j _ _ _ _ _ (subst (Goes (words c.args.t.now) c.args.g c.args.environment.trail c.loop-j.j _) c.in-Some.is (c.turn.ensures.goes c.args.g c.args.environment.trail c.requires.0 c.loop-j.invariant.2.stood (omega (arith, c.end_of-e.ensures.0)))) _ c.turn.ensures.locals c.turn.ensures.rest c.loop-j.h c.loop-j.invariant.2.path c.loop-j.invariant.2.unmarked c.loop-j.invariant.2.rest c.requires.0 (omega (arith, c.end_of-e.ensures.0)) _ c.pass-h.result c.pass-h.ensures c.loop-j.invariant.0 c.waits-v.result c.waits-v.ensures c.if-v.true _ c.own_quiet.result c.own_quiet.ensures c.if-own_quiet.false, c.own_quiet.auto.w ∙ c.pass-h.auto.w ∙ c.turn.auto.w ∙ c.loop-j.invariant.3)

pub loop-j-smaller : goal.loop-j-smaller
loop-j-smaller c = omega arith

pub loop-j-preserved : goal.loop-j-preserved
loop-j-preserved c = (omega (arith, c.loop-j.invariant.0), omega arith, asks_else (words c.args.t.now) c.args.g c.args.environment.trail _ c.loop-j.j _ _ _ _ _ (subst (Goes (words c.args.t.now) c.args.g c.args.environment.trail c.loop-j.j _) c.in-Some.is (c.turn.ensures.goes c.args.g c.args.environment.trail c.requires.0 c.loop-j.invariant.2.stood (omega (arith, c.end_of-e.ensures.0)))) _ c.turn.ensures.locals c.turn.ensures.rest c.loop-j.h c.loop-j.invariant.2.path c.loop-j.invariant.2.unmarked c.loop-j.invariant.2.rest c.requires.0 (omega (arith, c.end_of-e.ensures.0)) _ c.pass-h.result c.pass-h.ensures c.waits-v.result c.waits-v.ensures c.if-v.false, c.pass-h.auto.w ∙ c.turn.auto.w ∙ c.loop-j.invariant.3)

pub back-requires-2 : goal.back-requires-2
back-requires-2 c = can_return (over_returns c.loop-j.invariant.2.stood) _ _ (omega arith) (omega arith)

pub returns : goal.returns
returns c = (rest_all (words c.args.t.now) c.args.g c.loop-j.invariant.2 (omega (arith, c.loop-j.invariant.1, c.end_of-e.ensures.0)), record { walk = over_walk (over_returns c.loop-j.invariant.2.stood) _ c.back-2.ensures; unmarked = over_marks [] c.back-2.ensures c.loop-j.invariant.2.unmarked })
