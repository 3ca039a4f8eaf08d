use Rattle.std.proofs.Common.{arith, ◌*◌, ◌/◌, ◌≤◌, length, sym}
use Rattle.std.proofs.Math.Nat.{div-mul-le_self, mul-le-mul_left}
use Rattle.mem_numbers.specs.Numbers.{length_numbers}
use Rattle.mem_numbers.proofs.count.Goals as goal

pub returns : goal.returns
returns g c =
    let n = length c.args.b.now in
    let a = div-mul-le_self n g.row.W in
    let b : n / g.row.W * 2 ≤ n / g.row.W * g.row.W = mul-le-mul_left (n / g.row.W) c.requires in
    record { is = sym (length_numbers g.row.W c.args.b.now); small = omega arith }
