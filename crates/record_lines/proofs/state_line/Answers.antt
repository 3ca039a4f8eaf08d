-- Three pieces, one behind the other. Assumes nothing.
use native.Mathlib.Omega.{arith}
use Rattle.record_lines.proofs.Pieces.{put_within, named_line}
use Rattle.record_lines.proofs.state_line.Goals as goal

pub text-a-requires : goal.text-a-requires
text-a-requires c = omega arith

pub text-b-requires : goal.text-b-requires
text-b-requires c = omega (arith, put_within c.text-a.ensures, c.text-a.ensures.long)

pub text-requires : goal.text-requires
text-requires c = omega (arith, put_within c.text-b.ensures, c.text-b.ensures.long)

pub returns : goal.returns
returns c = named_line c.args.name.now c.text-a.ensures c.text-b.ensures c.text.ensures
