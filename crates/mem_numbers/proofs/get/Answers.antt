use Rattle.std.proofs.Common.{arith, ◌≡◌, ◌<◌, ◌+◌, ◌-◌, ◌*◌, ◌^◌, sym, ◌∙◌}
use Rattle.mem_numbers.specs.Numbers.{value_more, below_more, below_room, get_or_numbers}
use Rattle.mem_numbers.proofs.get.Goals as goal

pub overflow_mul-v : goal.overflow_mul-v
overflow_mul-v g c =
    let z : c.loop-k.k - 1 + 1 ≡ c.loop-k.k = omega arith in
    let p : c.loop-k.v < 256 ^ (g.row.W - (c.loop-k.k - 1 + 1)) = rw z c.loop-k.invariant.small in
    let e = below_room g.row.W (c.loop-k.k - 1) c.loop-k.v (omega arith) c.requires.few p in
    omega arith

pub overflow_add-v : goal.overflow_add-v
overflow_add-v g c =
    let z : c.loop-k.k - 1 + 1 ≡ c.loop-k.k = omega arith in
    let p : c.loop-k.v < 256 ^ (g.row.W - (c.loop-k.k - 1 + 1)) = rw z c.loop-k.invariant.small in
    let e = below_room g.row.W (c.loop-k.k - 1) c.loop-k.v (omega arith) c.requires.few p in
    omega arith

pub loop-k-preserved : goal.loop-k-preserved
loop-k-preserved g c =
    let lt : c.loop-k.k - 1 < g.row.W = omega arith in
    let z : c.loop-k.k - 1 + 1 ≡ c.loop-k.k = omega arith in
    let j = g.row.W * c.args.i + (c.loop-k.k - 1) in
    let y : j + 1 ≡ g.row.W * c.args.i + c.loop-k.k = omega arith in
    let p : c.loop-k.v < 256 ^ (g.row.W - (c.loop-k.k - 1 + 1)) = rw z c.loop-k.invariant.small in
    let m = rw (z, y) at (value_more g.row.W (c.loop-k.k - 1) c.args.b.now j lt) in
    record {
      is = omega (arith, m, c.loop-k.invariant.is);
      small = below_more g.row.W (c.loop-k.k - 1) c.loop-k.v c.from.result lt p (omega arith);
    }

pub returns : goal.returns
returns g c =
    let a = get_or_numbers g.row.W c.args.b.now c.args.i c.requires.some c.requires.inside in
    let z : g.row.W - c.loop-k.k ≡ g.row.W = omega arith in
    let y : g.row.W * c.args.i + c.loop-k.k ≡ g.row.W * c.args.i = omega arith in
    let e = rw (z, y) at c.loop-k.invariant.is in
    record { is = e ∙ sym a; small = rw z at c.loop-k.invariant.small }
