use mathlib.Core.Path.{◌≡◌, sym, ap, ◌∙◌}
use native.Mathlib.Omega.{arith}
use lib.ListN.{get_or, set}
use Rattle.mem_words.specs.declared.Word.TheVariants.{Bad}
use Rattle.mem_words.specs.Words.{words}
use Rattle.mem_copies.specs.Runs.{run}
use Rattle.mem_copies.specs.Open.{open_word, open_plain, one_stored}
use Rattle.mem_opened.proofs.put_opened.Goals as goal

pub get-w-requires : goal.get-w-requires
get-w-requires c = c.requires.source

pub opened-o-requires : goal.opened-o-requires
opened-o-requires c = record { inside = c.requires.words; small = c.get-w.ensures.small }

pub put-requires : goal.put-requires
put-requires c = record { inside = c.requires.room; small = c.opened-o.ensures.small }

pub returns-then-is_level : goal.returns-then-is_level
returns-then-is_level c =
    let vs = run c.args.v c.args.m (words c.args.vs.now) in
    let e : c.opened-o.result ≡ open_word vs (get_or (words c.args.src.now) c.args.k Bad) = c.opened-o.ensures.is ∙ ap (open_word vs) c.get-w.ensures.is in
    record { list = c.put.ensures.list ∙ ap (set (words c.args.dst.now) c.args.j) e; long = c.put.ensures.long }

pub copy-requires : goal.copy-requires
copy-requires c = record { source = omega (arith, c.requires.source); room = omega (arith, c.requires.room) }

pub returns : goal.returns
returns c =
    let vs = run c.args.v c.args.m (words c.args.vs.now) in
    let g = c.get-w.ensures.is in
    let p = open_plain vs c.get-w.result (sym c.is_level.ensures ∙ c.if-is_level.false) in
    one_stored (words c.args.dst.now) (words c.args.src.now) _ c.args.j c.args.k _ (sym (ap (open_word vs) g) ∙ sym p ∙ g) c.requires.source c.requires.room c.copy.ensures
