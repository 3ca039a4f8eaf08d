use mathlib.Core.Path.{sym}
use native.Mathlib.Omega.{arith}
use lib.ListN.{get_or-eq_default}
use Rattle.mem_words.specs.declared.Word.TheVariants.{Bad}
use Rattle.mem_words.specs.Words.{words}
use Rattle.solve_fields.proofs.peek.Goals as goal

pub returns-else-i-count : goal.returns-else-i-count
returns-else-i-count c = sym (get_or-eq_default (words c.args.t.now) Bad (omega (arith, c.count.ensures.is)))
