use mathlib.Core.Path.{sym}
use native.Mathlib.Omega.{arith}
use Prim.Native.Nat.{◌+◌, ◌*◌}
use lib.ListN.{length, take}
use lib.Seq.{length-take-le}
use Rattle.start_begin.proofs.Lending.{lending}
use Rattle.start_begin.proofs.begin.Goals as goal

pub slice_bounds-texts_to_store-end : goal.slice_bounds-texts_to_store-end
slice_bounds-texts_to_store-end c = sym (length-take-le (3 * (9 + length c.args.program.now + length c.args.query.now)) c.zeros-cells.result (omega (arith, c.zeros-cells.ensures, c.requires.program, c.requires.query_most)))

pub texts_to_store-requires : goal.texts_to_store-requires
texts_to_store-requires c =
    lending c.args.program.now c.args.query.now (take (3 * (9 + length c.args.program.now + length c.args.query.now)) c.zeros-cells.result) c.zeros-heads.result c.zeros-rules.result c.zeros-order.result c.zeros-goal.result c.zeros-codes.result c.zeros-firsts.result c.zeros-nexts.result c.zeros-stack.result c.zeros-binds.result c.zeros-saves.result
    c.requires (length-take-le (3 * (9 + length c.args.program.now + length c.args.query.now)) c.zeros-cells.result (omega (arith, c.zeros-cells.ensures, c.requires.program, c.requires.query_most)))
    c.zeros-heads.ensures c.zeros-rules.ensures c.zeros-order.ensures c.zeros-goal.ensures c.zeros-codes.ensures c.zeros-firsts.ensures c.zeros-nexts.ensures c.zeros-stack.ensures c.zeros-binds.ensures c.zeros-saves.ensures
