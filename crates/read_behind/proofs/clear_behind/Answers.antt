-- Each output is made zero by itself. Assumes nothing.
use native.Mathlib.Omega.{arith}
use borrow.Author.Rules.{rules}
use Rattle.read_behind.proofs.clear_behind.Goals as goal

pub zero_from-requires : goal.zero_from-requires
zero_from-requires c = omega (arith, c.requires.cells)

pub zero_from-requires-2 : goal.zero_from-requires-2
zero_from-requires-2 c = omega (arith, c.requires.heads)

pub zero_from-requires-3 : goal.zero_from-requires-3
zero_from-requires-3 c = omega (arith, c.requires.rules)

pub zero_from-requires-4 : goal.zero_from-requires-4
zero_from-requires-4 c = omega (arith, c.requires.order)

pub zero_from-requires-5 : goal.zero_from-requires-5
zero_from-requires-5 c = omega (arith, c.requires.goal)

pub returns : goal.returns
returns c =
    record {
      cells = c.zero_from.ensures;
      heads = c.zero_from-2.ensures;
      rules = c.zero_from-3.ensures;
      order = c.zero_from-4.ensures;
      goal = c.zero_from-5.ensures;
    }
