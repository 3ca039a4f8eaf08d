use native.Mathlib.Omega.{arith}
use Rattle.read_bench.proofs.Saying.{five_stored}
use Rattle.read_bench.proofs.counted.Goals as goal

pub returns : goal.returns
returns c = five_stored (omega (arith, c.count.ensures.is)) c.put.ensures c.put-2.ensures c.put-3.ensures c.put-4.ensures c.put-5.ensures
