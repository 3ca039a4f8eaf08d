-- One word more each turn. Assumes nothing.
use mathlib.Core.Path.{◌≡◌, refl, sym, ap, ◌∙◌}
use mathlib.Core.List.{map}
use Prim.Native.Nat.{◌<◌}
use native.Mathlib.Omega.{arith}
use lib.ListN.{length, drop, length-drop}
use lib.Seq.{get_or-drop}
use Rattle.mem_words.specs.declared.Word.TheVariants.{Bad}
use Rattle.mem_words.specs.Words.{words, length_words}
use Rattle.mem_copies.specs.Runs.{copied, copied_none, copied_more, length_mapped, get_d_map}
use Rattle.mem_copies.specs.Open.{open_word}
use Rattle.rule_effects.specs.Effects.{frees}
use Rattle.rule_fresh.proofs.copy_fresh.Goals as goal

pub loop-j-init : goal.loop-j-init
loop-j-init c = (omega arith, refl, refl, copied_none _ _ _)

pub overflow_add-s : goal.overflow_add-s
overflow_add-s c = omega (arith, length_words c.args.ws.now, c.requires.source)

pub get-w-requires : goal.get-w-requires
get-w-requires c = omega (arith, c.requires.source)

pub fresh_word-o-requires : goal.fresh_word-o-requires
fresh_word-o-requires c = (c.requires.numbers, c.get-w.ensures.small)

pub overflow_add-at : goal.overflow_add-at
overflow_add-at c = omega (arith, length_words c.args.out.now, c.requires.room)

pub put-requires : goal.put-requires
put-requires c = record { inside = omega (arith, c.requires.room, c.loop-j.invariant.2); small = c.fresh_word-o.ensures.small }

pub loop-j-preserved : goal.loop-j-preserved
loop-j-preserved c =
    let lp = c.loop-j in
    let a = c.args in
    let f = open_word (frees a.next.0 a.n) in
    let W = words a.ws.now in
    let h : lp.j < length (drop a.s W) = simp length-drop (omega (arith, c.requires.source)) in (
      omega arith,
      c.put.auto.b ∙ lp.invariant.1,
      c.put.ensures.long ∙ lp.invariant.2,
      copied_more (words a.out.now) a.at (map f (drop a.s W)) _ _ lp.j _ Bad lp.invariant.3 (c.fresh_word-o.ensures.is ∙ ap f (c.get-w.ensures.is ∙ sym (get_or-drop a.s W lp.j Bad)) ∙ sym (get_d_map f (drop a.s W) lp.j Bad Bad h)) (omega (arith, c.requires.room)) (omega (arith, length_mapped f W a.s a.m c.requires.source)) c.put.ensures,
    )

pub returns : goal.returns
returns c =
    let lp = c.loop-j in
    let a = c.args in
    let e : lp.j ≡ a.m = omega arith in
    record { list = lp.invariant.3 ∙ ap (copied (words a.out.now) a.at (map (open_word (frees a.next.0 a.n)) (drop a.s (words a.ws.now)))) e; long = lp.invariant.2 }
