use mathlib.Core.Path.{◌≡◌, refl, sym, ap, ◌∙◌}
use native.Mathlib.Omega.{arith}
use lib.ListN.{drop, length-drop, length-set}
use lib.Seq.{get_or-drop}
use Rattle.mem_copies.specs.Runs.{copied, copied_none, copied_more}
use Rattle.mem_copies.proofs.copy_bytes.Goals as goal

pub loop-i-init : goal.loop-i-init
loop-i-init c = (omega arith, refl, copied_none _ _ _)

pub loop-i-preserved : goal.loop-i-preserved
loop-i-preserved c =
    let a = c.args in
    let lp = c.loop-i in (
      omega arith,
      simp length-set lp.invariant.1,
      copied_more a.dst.now a.at (drop a.from a.src.now) lp.dst _ lp.i _ 0 lp.invariant.2 (sym (get_or-drop a.from a.src.now lp.i 0)) (omega arith) (simp length-drop (omega arith)) (record { list = refl; long = simp length-set }),
    )

pub returns : goal.returns
returns c =
    let a = c.args in
    let e : c.loop-i.i ≡ a.n = omega arith in
    record { list = c.loop-i.invariant.2 ∙ ap (copied a.dst.now a.at (drop a.from a.src.now)) e; long = c.loop-i.invariant.1 }
