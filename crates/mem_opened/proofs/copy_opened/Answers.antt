use mathlib.Core.Path.{◌≡◌, refl, sym, ap, ◌∙◌}
use mathlib.Core.List.{map}
use Prim.Native.Nat.{◌<◌}
use native.Mathlib.Omega.{arith}
use lib.ListN.{length, drop, length-drop}
use lib.Seq.{get_or-drop}
use Rattle.mem_words.specs.declared.Word.TheVariants.{Bad}
use Rattle.mem_words.specs.Words.{words, length_words}
use Rattle.mem_copies.specs.Runs.{run, copied, copied_none, copied_more, length_mapped, get_d_map}
use Rattle.mem_copies.specs.Open.{open_word}
use Rattle.mem_opened.proofs.copy_opened.Goals as goal

pub loop-i-init : goal.loop-i-init
loop-i-init c = (omega arith, refl, refl, copied_none _ _ _)

pub overflow_add-from : goal.overflow_add-from
overflow_add-from c = omega (arith, length_words c.args.src.now, c.requires.source)

pub overflow_add-at : goal.overflow_add-at
overflow_add-at c = omega (arith, length_words c.args.dst.now, c.requires.room)

pub put_opened-requires : goal.put_opened-requires
put_opened-requires c = record { source = omega (arith, c.requires.source); room = omega (arith, c.requires.room); words = c.requires.words }

pub loop-i-preserved : goal.loop-i-preserved
loop-i-preserved c =
    let a = c.args in
    let i = c.loop-i.i in
    let f = open_word (run a.v a.m (words a.vs.now)) in
    let s = words a.src.now in
    let h : i < length (drop a.from s) = simp length-drop (omega (arith, c.requires.source)) in (
      omega arith,
      c.put_opened.auto.dst ∙ c.loop-i.invariant.1,
      c.put_opened.ensures.long ∙ c.loop-i.invariant.2,
      copied_more (words a.dst.now) a.at (map f (drop a.from s)) _ _ i _ Bad c.loop-i.invariant.3 (ap f (sym (get_or-drop a.from s i Bad)) ∙ sym (get_d_map f (drop a.from s) i Bad Bad h)) (omega (arith, c.requires.room)) (omega (arith, length_mapped f s a.from a.n c.requires.source)) c.put_opened.ensures,
    )

pub returns : goal.returns
returns c =
    let a = c.args in
    let e : c.loop-i.i ≡ a.n = omega arith in
    record { list = c.loop-i.invariant.3 ∙ ap (copied (words a.dst.now) a.at (map (open_word (run a.v a.m (words a.vs.now))) (drop a.from (words a.src.now)))) e; long = c.loop-i.invariant.2 }
