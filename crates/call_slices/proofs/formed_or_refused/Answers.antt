-- The tests in their order. Assumes nothing.
use native.Mathlib.Omega.{arith}
use lib.ListN.{length}
use Rattle.call_slices.proofs.Slices.{store_short, working_short, long_enough, none_formed, some_formed, to_8, to_9, to_ok}
use Rattle.call_slices.proofs.formed_or_refused.Goals as goal

pub returns-then-store-lt245853 : goal.returns-then-store-lt245853
returns-then-store-lt245853 c = to_8 c.args.store.now (length c.args.work.now) (store_short c.args.store.now (length c.args.work.now) (omega arith))

pub returns-then-work-lt524288 : goal.returns-then-work-lt524288
returns-then-work-lt524288 c = to_8 c.args.store.now (length c.args.work.now) (working_short c.args.store.now (length c.args.work.now) (omega arith) (omega arith))

pub formed-requires : goal.formed-requires
formed-requires c = record { store = omega arith; working = omega arith }

pub returns-then-not-formed : goal.returns-then-not-formed
returns-then-not-formed c = to_9 c.args.store.now (length c.args.work.now) (long_enough c.args.store.now (length c.args.work.now) (omega arith) (omega arith)) (none_formed c.args.store.now c.formed.result c.if-not-formed.true c.formed.ensures)

pub returns : goal.returns
returns c = to_ok c.args.store.now (length c.args.work.now) (long_enough c.args.store.now (length c.args.work.now) (omega arith) (omega arith)) (some_formed c.args.store.now c.formed.result c.if-not-formed.false c.formed.ensures)
