-- The range is first cut to the words that there are. Assumes nothing.
use native.Mathlib.Omega.{arith}
use Rattle.mem_words.specs.Words.{words}
use Rattle.mem_copies.specs.Open.{open_word}
use Rattle.rule_effects.specs.Effects.{frees}
use Rattle.rule_frees.specs.Copies.{mapped_appended}
use Rattle.rule_fresh.specs.Room.{clamped, no_room_mapped}
use Rattle.rule_build.specs.Cuts.{least_min}
use Rattle.rule_fresh.proofs.append_fresh.Goals as goal

pub overflow_sub-m : goal.overflow_sub-m
overflow_sub-m c = omega (arith, (least_min _ _ _ c.min-s.ensures).right)

pub returns-then-cap-at : goal.returns-then-cap-at
returns-then-cap-at c = no_room_mapped (open_word (frees c.args.next.0 c.args.n)) (words c.args.ws.now) c.args.a c.args.b _ _ _ c.count.ensures.is (least_min _ _ _ c.min-e.ensures) (least_min _ _ _ c.min-s.ensures) _ c.args.at _ c.count-cap.ensures.is (omega arith)

pub returns-then-cap-at-2 : goal.returns-then-cap-at-2
returns-then-cap-at-2 c = no_room_mapped (open_word (frees c.args.next.0 c.args.n)) (words c.args.ws.now) c.args.a c.args.b _ _ _ c.count.ensures.is (least_min _ _ _ c.min-e.ensures) (least_min _ _ _ c.min-s.ensures) _ c.args.at _ c.count-cap.ensures.is (omega arith)

pub copy_fresh-requires : goal.copy_fresh-requires
copy_fresh-requires c = record { source = omega (arith, c.count.ensures.is, (least_min _ _ _ c.min-e.ensures).right, (least_min _ _ _ c.min-s.ensures).right); room = omega arith; numbers = c.requires }

pub returns : goal.returns
returns c = clamped (open_word (frees c.args.next.0 c.args.n)) (words c.args.ws.now) c.args.a c.args.b _ _ _ c.count.ensures.is (least_min _ _ _ c.min-e.ensures) (least_min _ _ _ c.min-s.ensures) (mapped_appended (open_word (frees c.args.next.0 c.args.n)) _ (words c.args.ws.now) _ c.args.at _ _ (omega (arith, c.count.ensures.is, (least_min _ _ _ c.min-e.ensures).right, (least_min _ _ _ c.min-s.ensures).right)) (omega arith) c.copy_fresh.ensures)
