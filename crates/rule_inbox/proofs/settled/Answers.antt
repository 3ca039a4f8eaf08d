-- By the two places. Assumes nothing.
use native.Mathlib.Omega.{arith}
use Rattle.mem_words.specs.Words.{words, length_words}
use Rattle.rule_words.proofs.Loops.{close_le}
use Rattle.rule_inbox.specs.Looking.{noted_within}
use Rattle.rule_inbox.proofs.settled.Goals as goal

pub overflow_add-a : goal.overflow_add-a
overflow_add-a c = omega (arith, length_words c.args.ws.now, c.requires.0)

pub scanned-requires : goal.scanned-requires
scanned-requires c = c.requires.0

pub returns-then-o1-a : goal.returns-then-o1-a
returns-then-o1-a c = c.scanned.ensures

pub overflow_add-c1 : goal.overflow_add-c1
overflow_add-c1 c = omega (arith, length_words c.args.ws.now, c.requires.1.first, close_le (words c.args.ws.now) c.args.o1)

pub scanned-requires-then-o2-c1 : goal.scanned-requires-then-o2-c1
scanned-requires-then-o2-c1 c = c.requires.0

pub returns-then-o2-c1 : goal.returns-then-o2-c1
returns-then-o2-c1 c = c.scanned-then-o2-c1.ensures

pub returns : goal.returns
returns c = noted_within c.requires.1 (omega arith) (omega arith)
