-- Past the end there is no word. Assumes nothing.
use mathlib.Core.Path.{sym}
use native.Mathlib.Omega.{arith}
use lib.ListN.{get_or-eq_default}
use Rattle.mem_words.specs.declared.Word.TheVariants.{Bad}
use Rattle.mem_words.specs.Words.{words}
use Rattle.rule_read.proofs.word_at.Goals as goal

pub returns-then-n-j : goal.returns-then-n-j
returns-then-n-j c = record { is = sym (get_or-eq_default (words c.args.ws.now) Bad (omega arith)); small = record { value = omega arith } }

pub get-requires : goal.get-requires
get-requires c = omega arith
