use mathlib.Core.Path.{sym}
use Prim.Native.Nat.{◌-◌}
use native.Mathlib.Omega.{arith}
use lib.ListN.{length}
use Rattle.mem_words.specs.Words.{words, word, length_words}
use Rattle.mem_words.proofs.count.Statement.{statement}
use Rattle.mem_words.proofs.count.Tie as tie

returns : tie.Need-returns
returns c = record { is = sym (length_words _); small = omega arith }

pub count_spec : {M : Type 1} → statement M
count_spec = tie.close (tie.spec returns)
