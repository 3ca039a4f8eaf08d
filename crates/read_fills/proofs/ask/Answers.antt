use Rattle.read_pieces.specs.Slots.{ask_wait, ask_cond, ask_commit}
use Rattle.read_fills.proofs.ask.Goals as goal

pub returns-then-kind-eq11 : goal.returns-then-kind-eq11
returns-then-kind-eq11 c = ask_wait _ c.if-kind-eq11.true

pub returns-then-kind-eq12 : goal.returns-then-kind-eq12
returns-then-kind-eq12 c = ask_cond _ c.if-kind-eq11.false c.if-kind-eq12.true

pub returns : goal.returns
returns c = ask_commit _ c.if-kind-eq11.false c.if-kind-eq12.false
