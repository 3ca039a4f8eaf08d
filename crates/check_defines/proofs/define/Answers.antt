-- Each refusal is one of the tests, and the bit that is set is that of the definition. Assumes nothing.
use mathlib.Core.Path.{sym, ◌∙◌}
use native.Mathlib.Omega.{arith}
use Rattle.check_tables.specs.Tables.{get_arity}
use Rattle.check_defines.specs.Defining.{not_a_name, many_parameters, many_definitions, defined_before, within, can_mark, defines}
use Rattle.check_defines.proofs.define.Goals as goal

pub is_pred-known-requires : goal.is_pred-known-requires
is_pred-known-requires c = c.requires

pub returns-then-not-known : goal.returns-then-not-known
returns-then-not-known c = not_a_name _ _ _ _ _ (sym c.is_pred-known.ensures ∙ c.if-not-known.true)

pub returns-then-k-gt8 : goal.returns-then-k-gt8
returns-then-k-gt8 c = many_parameters _ _ _ _ _ (omega arith)

pub returns-then-c-gt127 : goal.returns-then-c-gt127
returns-then-c-gt127 c = many_definitions _ _ _ _ _ (omega arith)

pub is_def-again-requires : goal.is_def-again-requires
is_def-again-requires c = c.requires

pub returns-then-again : goal.returns-then-again
returns-then-again c = defined_before _ _ _ _ _ (sym c.is_def-again.ensures ∙ c.if-again.true)

pub get-a-requires-clause-can : goal.get-a-requires-clause-can
get-a-requires-clause-can c = get_arity c.requires (within c.args.w.now c.args.m c.args.p c.args.k c.args.c (sym c.is_pred-known.ensures ∙ c.if-not-known.false))

pub power-q-requires : goal.power-q-requires
power-q-requires c = omega arith

pub overflow_add-a : goal.overflow_add-a
overflow_add-a c = omega (arith, (can_mark c.args.w.now c.args.m c.args.p c.args.k c.args.c _ _ c.requires (within c.args.w.now c.args.m c.args.p c.args.k c.args.c (sym c.is_pred-known.ensures ∙ c.if-not-known.false)) (omega arith) (sym c.is_def-again.ensures ∙ c.if-again.false) c.get-a.ensures c.power-q.ensures).small)

pub put-requires-clause-can : goal.put-requires-clause-can
put-requires-clause-can c = can_mark c.args.w.now c.args.m c.args.p c.args.k c.args.c _ _ c.requires (within c.args.w.now c.args.m c.args.p c.args.k c.args.c (sym c.is_pred-known.ensures ∙ c.if-not-known.false)) (omega arith) (sym c.is_def-again.ensures ∙ c.if-again.false) c.get-a.ensures c.power-q.ensures

pub returns : goal.returns
returns c = defines _ _ _ _ _ _ _ _ c.requires (sym c.is_pred-known.ensures ∙ c.if-not-known.false) (omega arith) (omega arith) (sym c.is_def-again.ensures ∙ c.if-again.false) c.get-a.ensures c.power-q.ensures c.put.ensures
