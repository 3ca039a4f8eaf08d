-- Both ranges are first cut to the words that there are. Assumes nothing.
use mathlib.Core.Path.{ap}
use mathlib.Core.List.{List, map}
use Prim.Native.Nat.{◌-◌}
use native.Mathlib.Omega.{arith}
use Rattle.mem_words.specs.declared.Word.{Word}
use Rattle.mem_words.specs.Words.{words}
use Rattle.mem_copies.specs.Runs.{run}
use Rattle.mem_copies.specs.Open.{open_word}
use Rattle.rule_words.specs.Pieces.{cut}
use Rattle.rule_build.specs.Built.{appended_as}
use Rattle.rule_build.specs.Cuts.{cut_clamp}
use Rattle.rule_frees.specs.Copies.{mapped_appended}
use Rattle.rule_fresh.specs.Room.{clamped, no_room_mapped}
use Rattle.rule_opened.proofs.append_opened.Goals as goal

pub overflow_sub-m : goal.overflow_sub-m
overflow_sub-m c = omega (arith, c.least-s.ensures.right)

pub overflow_sub-k : goal.overflow_sub-k
overflow_sub-k c = omega (arith, c.least-f.ensures.right)

pub returns-then-cap-at : goal.returns-then-cap-at
returns-then-cap-at c = no_room_mapped (open_word (cut c.args.v c.args.u (words c.args.ws.now))) (words c.args.ps.now) c.args.a c.args.b _ _ _ c.count.ensures.is c.least-e.ensures c.least-s.ensures _ c.args.at _ c.count-cap.ensures.is (omega arith)

pub returns-then-cap-at-2 : goal.returns-then-cap-at-2
returns-then-cap-at-2 c = no_room_mapped (open_word (cut c.args.v c.args.u (words c.args.ws.now))) (words c.args.ps.now) c.args.a c.args.b _ _ _ c.count.ensures.is c.least-e.ensures c.least-s.ensures _ c.args.at _ c.count-cap.ensures.is (omega arith)

pub copy_opened-requires : goal.copy_opened-requires
copy_opened-requires c = record { source = omega (arith, c.count.ensures.is, c.least-e.ensures.right, c.least-s.ensures.right); room = omega arith; words = omega (arith, c.count-2.ensures.is, c.least-g.ensures.right, c.least-f.ensures.right) }

pub returns : goal.returns
returns c =
    let W = words c.args.ws.now in
    let D = words c.args.ps.now in
    appended_as _ (ap (λ (x : List Word). map (open_word x) (cut c.args.a c.args.b D)) (cut_clamp c.args.v c.args.u _ _ _ W c.count-2.ensures.is c.least-g.ensures c.least-f.ensures))
    (clamped (open_word (run c.least-f.result (c.least-g.result - c.least-f.result) W)) D c.args.a c.args.b _ _ _ c.count.ensures.is c.least-e.ensures c.least-s.ensures (mapped_appended (open_word (run c.least-f.result (c.least-g.result - c.least-f.result) W)) _ D _ c.args.at _ _ (omega (arith, c.count.ensures.is, c.least-e.ensures.right, c.least-s.ensures.right)) (omega arith) c.copy_opened.ensures))
