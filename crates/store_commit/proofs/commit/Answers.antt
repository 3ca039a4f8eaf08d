-- The header's last numbers, then the configuration's region. Assumes nothing.
use mathlib.Core.Path.{refl, ap}
use native.Mathlib.Omega.{arith}
use lib.ListN.{length}
use Rattle.store_commit.proofs.Lists.{count_six}
use Rattle.store_commit.proofs.Behind.{was_over}
use Rattle.store_commit.proofs.commit.Goals as goal

pub put_region-requires : goal.put_region-requires
put_region-requires c = record { room = omega arith; end = omega (arith, c.requires.store); source = omega (arith, ap length c.count_bytes-counts.ensures, count_six c.args.n c.args.next) }

pub larger-most-requires : goal.larger-most-requires
larger-most-requires c = (omega (arith, c.requires.few), omega (arith, c.requires.few, c.requires.few_old))

pub overflow_mul-e : goal.overflow_mul-e
overflow_mul-e c = omega (arith, c.larger-most.ensures.2)

pub overflow_add-e : goal.overflow_add-e
overflow_add-e c = omega (arith, c.larger-most.ensures.2)

pub overflow_mul-n : goal.overflow_mul-n
overflow_mul-n c = omega (arith, c.requires.few)

pub put_region-requires-2 : goal.put_region-requires-2
put_region-requires-2 c = record { room = omega (arith, c.larger-most.ensures.0); end = omega (arith, c.requires.store, c.put_region.ensures.long, c.larger-most.ensures.2); source = omega (arith, c.requires.source) }

pub returns : goal.returns
returns c = was_over c.args.b.now c.args.src.now c.count_bytes-counts.result _ _ c.args.n c.args.next c.args.old c.larger-most.result _ c.requires (omega (arith, c.larger-most.ensures.0)) (omega (arith, c.larger-most.ensures.1)) (omega (arith, c.larger-most.ensures.2)) refl (λ i. omega (arith, c.type_inv.src i)) c.count_bytes-counts.ensures c.put_region.ensures c.put_region-2.ensures
