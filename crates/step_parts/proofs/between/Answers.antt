-- On the part. Assumes nothing.
use native.Mathlib.Omega.{arith}
use Rattle.mem_parts.specs.Parts.{cut}
use Rattle.step_parts.proofs.Cuts.{part_length}
use Rattle.step_parts.proofs.between.Goals as goal

pub parts-requires : goal.parts-requires
unfolding cut
parts-requires c = omega (arith, c.requires.0, part_length c.args.ws.now c.args.a c.args.z)

pub returns : goal.returns
unfolding cut
returns c = (c.parts.ensures.0, omega (arith, c.requires.0, c.parts.ensures.1, part_length c.args.ws.now c.args.a c.args.z))
