use Rattle.std.proofs.Common.{arith, ◌≡◌, ◌+◌, ◌-◌, ◌*◌}
use Rattle.mem_numbers.specs.Numbers.{digits, stores_more, stored_numbers, length_digits, value_digits}
use Rattle.mem_numbers.proofs.put.Goals as goal

pub loop-k-preserved : goal.loop-k-preserved
loop-k-preserved g c =
    let e = stores_more g.row.W c.loop-k.k c.loop-k.b (g.row.W * c.args.i + c.loop-k.k) c.loop-k.rest c.loop-k-test.true in
    let y : g.row.W * c.args.i + (c.loop-k.k + 1) ≡ g.row.W * c.args.i + c.loop-k.k + 1 = omega arith in
    rw (y, ← e) c.loop-k.invariant

pub returns : goal.returns
returns g c =
    let s = stored_numbers g.row.W c.args.b.now (digits g.row.W c.args.v) c.args.i c.args.v c.requires.some c.requires.can.inside (length_digits g.row.W c.args.v) (value_digits g.row.W c.args.v c.requires.can.small) in
    let z : g.row.W - c.loop-k.k ≡ 0 = omega arith in
    let e = rw z at c.loop-k.invariant in
    rw e s
