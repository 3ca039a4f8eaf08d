-- What was moved stands at its new place. Assumes nothing.
use Rattle.std.proofs.Common.{◌≡◌, ◌+◌, ◌-◌, ◌∙◌, ap, sym, drop, arith}
use lib.Seq.{paste}
use Rattle.mem_copies.specs.Runs.{as_paste}
use Rattle.mem_moves.proofs.move_bytes.Goals as goal

pub returns : goal.returns
returns c =
    let a = c.args in
    let s = drop a.from a.b.now in
    let e : a.from + a.n - a.from ≡ a.n = omega arith in
    record { list = c.copy_within.ensures.after ∙ ap (paste a.b.now a.at s) e ∙ sym (as_paste a.b.now a.at s a.n); long = c.copy_within.ensures.len }
