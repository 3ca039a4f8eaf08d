-- One variable more each turn. Assumes nothing.
use mathlib.Core.Path.{◌≡◌, refl, ap, ◌∙◌}
use native.Mathlib.Omega.{arith}
use Rattle.mem_words.specs.declared.Word.TheVariants.{Bad}
use Rattle.mem_words.specs.Words.{words, length_words}
use Rattle.mem_copies.specs.Runs.{copied, copied_none, copied_more}
use Rattle.rule_effects.specs.Effects.{frees}
use Rattle.rule_frees.specs.Copies.{length_frees, get_or_frees}
use Rattle.rule_frees.proofs.put_frees.Goals as goal

pub loop-j-init : goal.loop-j-init
loop-j-init c = (omega arith, refl, refl, copied_none _ _ _)

pub overflow_add-at : goal.overflow_add-at
overflow_add-at c = omega (arith, length_words c.args.out.now, c.requires.0)

pub put-requires : goal.put-requires
put-requires c = record { inside = omega (arith, c.requires.0, c.loop-j.invariant.2); small = record { value = omega (arith, c.requires.1) } }

pub loop-j-preserved : goal.loop-j-preserved
loop-j-preserved c =
    let lp = c.loop-j in
    let a = c.args in (
      omega arith,
      c.put.auto.b ∙ lp.invariant.1,
      c.put.ensures.long ∙ lp.invariant.2,
      copied_more (words a.out.now) a.at (frees a.next.0 a.n) _ _ lp.j _ Bad lp.invariant.3 (get_or_frees a.next.0 a.n lp.j (omega arith)) (omega (arith, c.requires.0)) (omega (arith, length_frees a.next.0 a.n)) c.put.ensures,
    )

pub returns : goal.returns
returns c =
    let lp = c.loop-j in
    let a = c.args in
    let e : lp.j ≡ a.n = omega arith in
    record { list = lp.invariant.3 ∙ ap (copied (words a.out.now) a.at (frees a.next.0 a.n)) e; long = lp.invariant.2 }
