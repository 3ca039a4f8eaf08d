-- `read_tokens::mark_at` meets its contract: what `sign_of` says, at its place. Assumes nothing.
use mathlib.Core.Path.{ap, ◌∙◌}
use lib.ListN.{get_or}
use Rattle.read_tokens.specs.Kinds.{placed, sign_of}
use Rattle.read_tokens.proofs.mark_at.Goals as goal

pub returns-in_default : goal.returns-in_default
returns-in_default c =
    let a = c.args in
    ap (placed a.at) (rw c.in_default.is at c.sign_of.ensures ∙ ap (sign_of (get_or a.s.now a.at 0)) c.byte_at-then.ensures)

pub returns-in-One : goal.returns-in-One
returns-in-One c =
    let a = c.args in
    ap (placed a.at) (rw c.in-One.is at (rw c.in-Some.is at c.sign_of.ensures) ∙ ap (sign_of (get_or a.s.now a.at 0)) c.byte_at-then.ensures)

pub returns-in-Two : goal.returns-in-Two
returns-in-Two c =
    let a = c.args in
    ap (placed a.at) (rw c.in-Two.is at (rw c.in-Some.is at c.sign_of.ensures) ∙ ap (sign_of (get_or a.s.now a.at 0)) c.byte_at-then.ensures)
