-- From where the scan stands it finds what it finds from i. Assumes nothing.
use mathlib.Core.Path.{◌≡◌, refl, sym, ap, ◌∙◌}
use Prim.Native.Nat.{ℕ, ◌-◌}
use native.Mathlib.Omega.{arith}
use Rattle.mem_words.specs.Words.{words, length_words}
use Rattle.rule_words.specs.Scans.{up}
use Rattle.rule_words.proofs.Loops.{up_on, up_hit, up_zero, around_is, higher_le}
use Rattle.rule_around.proofs.opening_of.Goals as goal

pub loop-j-init : goal.loop-j-init
loop-j-init c = (omega arith, omega arith, refl)

pub get-w-requires : goal.get-w-requires
get-w-requires c = omega arith

pub returns-then-is_opening : goal.returns-then-is_opening
returns-then-is_opening c =
    let lp = c.loop-j in
    (sym (up_hit (words c.args.ws.now) lp.j lp.d c.get-w.result c.is_opening.result (omega arith) c.get-w.ensures.is c.is_opening.ensures c.if-is_opening.true) ∙ lp.invariant.2 ∙ around_is _ _, omega arith)

pub depth_before-d-requires : goal.depth_before-d-requires
depth_before-d-requires c = omega (arith, length_words c.args.ws.now)

pub loop-j-preserved : goal.loop-j-preserved
loop-j-preserved c =
    let lp = c.loop-j in
    let W = words c.args.ws.now in (
      omega arith,
      omega (arith, c.depth_before-d.ensures, higher_le c.get-w.result lp.d),
      ap (up (lp.j - 1) W) c.depth_before-d.ensures ∙ sym (up_on W lp.j lp.d c.get-w.result c.is_opening.result (omega arith) c.get-w.ensures.is c.is_opening.ensures c.if-is_opening.false) ∙ lp.invariant.2,
    )

pub returns : goal.returns
returns c =
    let lp = c.loop-j in
    let e : lp.j ≡ 0 = omega arith in
    (sym (up_zero _ lp.d) ∙ ap (λ (k : ℕ). up k (words c.args.ws.now) lp.d) (sym e) ∙ lp.invariant.2 ∙ around_is _ _, omega arith)
