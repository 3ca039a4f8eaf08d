use Rattle.std.proofs.Common.{◌≡◌, ◌+◌, ◌-◌, ◌*◌}
use Rattle.mem_numbers.specs.Numbers.{stores, digits}
use Rattle.mem_numbers.proofs.put.Given as goal

abbrev pub invariant-loop-k : goal.invariant-loop-k
invariant-loop-k g l = stores l.b (g.row.W * l.i + l.k) (digits (g.row.W - l.k) l.rest) ≡ stores l.fn.b (g.row.W * l.i) (digits g.row.W l.fn.v)
