use native.Mathlib.Omega.{arith}
use Rattle.store_regions.specs.Regions.{region_put}
use Rattle.store_regions.proofs.put_region.Goals as goal

pub copy_bytes-requires : goal.copy_bytes-requires
copy_bytes-requires c = record { source = omega (arith, c.requires.source); room = omega (arith, c.requires.room, c.requires.end) }

pub zero-requires : goal.zero-requires
zero-requires c = record { le = c.requires.room; fits = omega (arith, c.requires.end, c.copy_bytes.ensures.long) }

pub returns : goal.returns
returns c = region_put c.args.store.now c.args.src.now c.args.a c.args.e c.args.n _ _ c.requires c.copy_bytes.ensures c.zero.ensures
