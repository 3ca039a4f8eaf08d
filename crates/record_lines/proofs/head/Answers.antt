-- Six pieces, one behind the other. Assumes nothing.
use native.Mathlib.Omega.{arith}
use Rattle.record_lines.proofs.Pieces.{put_within, head_lines}
use Rattle.record_lines.proofs.head.Goals as goal

pub text-a-requires : goal.text-a-requires
text-a-requires c = omega arith

pub text-c-requires : goal.text-c-requires
text-c-requires c = omega (arith, put_within c.number-b.ensures, c.number-b.ensures.long)

pub text-d-requires : goal.text-d-requires
text-d-requires c = omega (arith, put_within c.text-c.ensures, c.text-c.ensures.long)

pub text-requires : goal.text-requires
text-requires c = omega (arith, put_within c.number-e.ensures, c.number-e.ensures.long)

pub returns : goal.returns
returns c = head_lines _ _ c.text-a.ensures c.number-b.ensures c.text-c.ensures c.text-d.ensures c.number-e.ensures c.text.ensures
