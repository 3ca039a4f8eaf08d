-- By the word. Assumes nothing.
use mathlib.Core.Path.{refl}
use native.Mathlib.Omega.{arith}
use Rattle.mem_copies.specs.Open.{open_keep}
use Rattle.rule_effects.specs.Effects.{frees}
use Rattle.rule_frees.specs.Copies.{fresh_low, fresh_high}
use Rattle.rule_fresh.specs.Room.{kept_other}
use Rattle.rule_fresh.proofs.fresh_word.Goals as goal

pub returns-then-l-n : goal.returns-then-l-n
returns-then-l-n c = fresh_low c.args.next.0 c.args.n _ _ c.in-Level.is (omega arith) c.requires.0

pub returns-else-l-n : goal.returns-else-l-n
returns-else-l-n c = fresh_high c.args.next.0 c.args.n _ _ c.in-Level.is (omega arith) c.requires.1

pub returns-in_default : goal.returns-in_default
returns-in_default c = open_keep (frees c.args.next.0 c.args.n) _ _ refl (kept_other c.args.w c.in_default.not-Level) c.requires.1
