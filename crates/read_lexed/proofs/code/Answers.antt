use native.Mathlib.Omega.{arith}
use Rattle.read_lexed.specs.Encoded.{coded_name, coded_full}
use Rattle.read_lexed.proofs.Encoded.{coded_mark}
use Rattle.read_lexed.proofs.code.Goals as goal

pub returns-then-no-ge3 : goal.returns-then-no-ge3
returns-then-no-ge3 c = coded_mark c.args.kind c.requires.some c.requires.intern.trie (omega arith) c.kind_no-no.ensures

pub returns-in_err-i : goal.returns-in_err-i
returns-in_err-i c = rw c.from_residual.ensures (coded_full c.args.kind c.in_err-i.ensures)

pub overflow_mul-result : goal.overflow_mul-result
overflow_mul-result c = let I = c.in_ok-i.ensures in omega (arith, I.number.inside, I.number.trie.room.count)

pub overflow_add-result : goal.overflow_add-result
overflow_add-result c = let I = c.in_ok-i.ensures in omega (arith, I.number.inside, I.number.trie.room.count)

pub returns : goal.returns
returns c = coded_name c.args.kind c.requires.some (omega arith) c.in_ok-i.ensures (omega arith)
