-- Where there is room they are written. Assumes nothing.
use mathlib.Core.Path.{sym}
use native.Mathlib.Omega.{arith}
use Rattle.rule_build.specs.Built.{no_room}
use Rattle.rule_effects.specs.Effects.{frees}
use Rattle.rule_frees.specs.Copies.{length_frees, copied_appended}
use Rattle.rule_frees.proofs.append_frees.Goals as goal

pub returns-then-cap-at : goal.returns-then-cap-at
returns-then-cap-at c = no_room _ (frees c.args.next.0 c.args.n) c.args.at _ c.count-cap.ensures.is (omega arith)

pub returns-then-cap-at-2 : goal.returns-then-cap-at-2
returns-then-cap-at-2 c = no_room _ (frees c.args.next.0 c.args.n) c.args.at _ c.count-cap.ensures.is (omega (arith, length_frees c.args.next.0 c.args.n))

pub put_frees-requires : goal.put_frees-requires
put_frees-requires c = (omega arith, c.requires)

pub returns : goal.returns
returns c = copied_appended _ (frees c.args.next.0 c.args.n) _ c.args.at c.args.n (sym (length_frees c.args.next.0 c.args.n)) (omega arith) c.put_frees.ensures
