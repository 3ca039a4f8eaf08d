-- Where there is room the word is written. Assumes nothing.
use mathlib.Core.List.{[], ◌∷◌}
use native.Mathlib.Omega.{arith}
use Rattle.rule_build.specs.Built.{no_room, word_appended}
use Rattle.rule_word.proofs.append_word.Goals as goal

pub returns-then-cap-at : goal.returns-then-cap-at
returns-then-cap-at c = no_room _ (c.args.w ∷ []) c.args.at _ c.count-cap.ensures.is (omega arith)

pub put-requires : goal.put-requires
put-requires c = record { inside = omega arith; small = c.requires }

pub returns : goal.returns
returns c = word_appended _ _ c.args.at c.args.w (omega arith) c.put.ensures
