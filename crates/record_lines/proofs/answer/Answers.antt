-- No room, no answer, a text that is too long, or the text. Assumes nothing.
use native.Mathlib.Omega.{arith}
use mathlib.Core.Path.{refl}
use Rattle.record_lines.proofs.Pieces.{put_within, answer_none, answer_long, answer_there, end_within}
use Rattle.record_lines.proofs.answer.Goals as goal

pub returns-then-out-lt4104 : goal.returns-then-out-lt4104
returns-then-out-lt4104 c = record { piece = λ h. absurd (omega arith); brief = λ h. refl; working = λ h. absurd (omega arith) }

pub text-requires : goal.text-requires
text-requires c = omega arith

pub text_in-x-requires : goal.text_in-x-requires
text_in-x-requires c = (omega arith, omega (arith, c.text.auto.out))

pub text-a-requires : goal.text-a-requires
text-a-requires c = omega (arith, c.text.auto.out, c.text_in-x.auto.out)

pub text-requires-then-x-eq17 : goal.text-requires-then-x-eq17
text-requires-then-x-eq17 c = omega (arith, put_within c.text-a.ensures, c.text-a.ensures.long)

pub returns-then-x-eq17 : goal.returns-then-x-eq17
returns-then-x-eq17 c = record { piece = λ h. answer_long _ _ _ 7 4103 refl refl _ _ _ _ _ _ h c.text.ensures c.text_in-x.ensures c.text_in-x.auto.out (omega arith) _ _ _ _ c.text-a.ensures c.text-then-x-eq17.ensures; brief = λ h. absurd (omega arith); working = λ h. c.text_in-x.ensures.working }

pub returns-then-x-lt256 : goal.returns-then-x-lt256
returns-then-x-lt256 c = record { piece = λ h. answer_none _ _ _ 7 4103 refl refl _ _ _ _ _ _ h c.text.ensures c.text_in-x.ensures c.text_in-x.auto.out (omega arith) (λ z. omega (arith, z)); brief = λ h. absurd (omega arith); working = λ h. c.text_in-x.ensures.working }

pub text-requires-2 : goal.text-requires-2
text-requires-2 c = end_within _ _ _ 7 4103 refl refl _ _ _ _ _ _ (omega arith) c.text.ensures c.text_in-x.ensures c.text_in-x.auto.out (omega arith)

pub returns : goal.returns
returns c = record { piece = λ h. answer_there _ _ _ 7 4103 refl refl _ _ _ _ _ _ h c.text.ensures c.text_in-x.ensures c.text_in-x.auto.out (omega arith) _ _ c.text-2.ensures; brief = λ h. absurd (omega arith); working = λ h. c.text_in-x.ensures.working }
