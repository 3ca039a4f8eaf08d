-- `read_texts::reserve` meets its contract: two names in a trie of the root. Assumes nothing.
use native.Mathlib.Omega.{arith}
use Rattle.read_lexicon.specs.Lexicon.{true_bytes, fail_bytes, started, interned_at, interned_full, both, no_root, no_true, no_fail}
use Rattle.read_lexicon.proofs.reserve.Goals as goal

pub returns-then-not-start : goal.returns-then-not-start
returns-then-not-start c = no_root c.start.ensures.0 c.start.result (c.if-not-start.true) c.start.ensures.1

pub intern-requires : goal.intern-requires
intern-requires c = record { trie = started c.start.ensures.0 c.start.result (c.if-not-start.false) c.start.ensures.1; inside = omega arith }

pub returns-in_default : goal.returns-in_default
returns-in_default c = no_true c.start.ensures.0 (interned_full c.in_default.is c.intern.ensures)

pub intern-requires-2 : goal.intern-requires-2
intern-requires-2 c = record { trie = (interned_at c.in-Some.is c.intern.ensures).number.trie; inside = omega arith }

pub returns-in_default-intern : goal.returns-in_default-intern
returns-in_default-intern c = no_fail c.start.ensures.0 (interned_at c.in-Some.is c.intern.ensures) (interned_full c.in_default-intern.is c.intern-2.ensures)

pub returns : goal.returns
returns c = both c.start.ensures.0 true_bytes fail_bytes (interned_at c.in-Some.is c.intern.ensures) (interned_at c.in-Some-intern.is c.intern-2.ensures)
