-- One element is stored. Assumes nothing.
use mathlib.Core.Path.{◌≡◌, ap}
use Prim.Native.Nat.{◌%◌}
use native.Mathlib.Omega.{arith}
use lib.ListN.{set, length-set}
use Rattle.mem_parts.proofs.byte_put.Goals as goal

pub returns : goal.returns
returns c =
    let e : c.args.v % 256 ≡ c.args.v = omega (arith, c.requires.small) in
    record { list = ap (set c.args.b.now c.args.i) e; long = length-set c.args.b.now c.args.i (c.args.v % 256) }
