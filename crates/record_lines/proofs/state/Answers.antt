-- One of three states, or none. Assumes nothing.
use native.Mathlib.Omega.{arith}
use lib.ListN.{length}
use Rattle.akl.specs.Answers.{failed, final, open_state}
use Rattle.record_lines.proofs.Pieces.{state_put, state_none}
use Rattle.record_lines.proofs.state.Goals as goal

pub returns-then-x-eq0 : goal.returns-then-x-eq0
returns-then-x-eq0 c = record { piece = state_put c.args.store.now (length c.args.work.now) _ c.akl_state-x.ensures.state failed _ _ _ (omega arith) c.state_line.ensures; working = c.akl_state-x.ensures.working }

pub returns-then-x-eq256 : goal.returns-then-x-eq256
returns-then-x-eq256 c = record { piece = state_put c.args.store.now (length c.args.work.now) _ c.akl_state-x.ensures.state final _ _ _ (omega arith) c.state_line-then-x-eq256.ensures; working = c.akl_state-x.ensures.working }

pub returns-then-x-eq512 : goal.returns-then-x-eq512
returns-then-x-eq512 c = record { piece = state_put c.args.store.now (length c.args.work.now) _ c.akl_state-x.ensures.state open_state _ _ _ (omega arith) c.state_line-then-x-eq512.ensures; working = c.akl_state-x.ensures.working }

pub returns : goal.returns
returns c = record { piece = state_none c.args.store.now (length c.args.work.now) _ c.akl_state-x.ensures.state (λ z. omega (arith, z)) (λ z. omega (arith, z)) (λ z. omega (arith, z)) _ _; working = c.akl_state-x.ensures.working }
