use Rattle.std.proofs.Common.{◌≡◌, ◌<◌, ◌^◌, ◌+◌, ◌-◌, ◌*◌}
use Rattle.mem_numbers.specs.Numbers.{value_at}
use Rattle.mem_numbers.proofs.get.Given as goal

abbrev pub invariant-loop-k : goal.invariant-loop-k
invariant-loop-k g l = record {
  is : l.v ≡ value_at (g.row.W - l.k) l.b (g.row.W * l.i + l.k);
  small : l.v < 256 ^ (g.row.W - l.k);
}
