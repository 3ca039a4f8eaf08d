-- Each number is read and compared. Assumes nothing.
use mathlib.Core.Path.{sym, ◌∙◌}
use native.Mathlib.Omega.{arith}
use Rattle.check_header.specs.Header.{bounds}
use borrow.Author.Rules.{rules}
use Rattle.check_header.proofs.numbers.Goals as goal

pub get-requires-clause-inside : goal.get-requires-clause-inside
get-requires-clause-inside c = omega (arith, c.requires.0)

pub returns-then-get-ne2 : goal.returns-then-get-ne2
returns-then-get-ne2 c = λ k. c.if-get-ne2.true (c.get.ensures.is ∙ k.form)

pub get-nodes-requires-clause-inside : goal.get-nodes-requires-clause-inside
get-nodes-requires-clause-inside c = omega (arith, c.requires.0)

pub returns-then-nodes-eq0 : goal.returns-then-nodes-eq0
returns-then-nodes-eq0 c = λ k. omega (arith, c.if-nodes-eq0.true, c.get-nodes.ensures.is, k.root)

pub returns-then-nodes-gt20489 : goal.returns-then-nodes-gt20489
returns-then-nodes-gt20489 c = λ k. omega (arith, c.if-nodes-gt20489.true, c.get-nodes.ensures.is, k.nodes, bounds.0)

pub get-rules-requires-clause-inside : goal.get-rules-requires-clause-inside
get-rules-requires-clause-inside c = omega (arith, c.requires.0)

pub returns-then-rules-gt40960 : goal.returns-then-rules-gt40960
returns-then-rules-gt40960 c = λ k. omega (arith, c.if-rules-gt40960.true, c.get-rules.ensures.is, k.rules, bounds.1)

pub overflow_add-nodes : goal.overflow_add-nodes
overflow_add-nodes c = omega (arith, c.if-nodes-gt20489.false, c.if-rules-gt40960.false)

pub returns-then-nodes-rules-gt53257 : goal.returns-then-nodes-rules-gt53257
returns-then-nodes-rules-gt53257 c = λ k. omega (arith, c.if-nodes-rules-gt53257.true, c.get-nodes.ensures.is, c.get-rules.ensures.is, k.together, bounds.3)

pub get-variables-requires-clause-inside : goal.get-variables-requires-clause-inside
get-variables-requires-clause-inside c = omega (arith, c.requires.0)

pub returns-then-variables-gt16 : goal.returns-then-variables-gt16
returns-then-variables-gt16 c = λ k. omega (arith, c.if-variables-gt16.true, c.get-variables.ensures.is, k.variables)

pub get-words-requires-clause-inside : goal.get-words-requires-clause-inside
get-words-requires-clause-inside c = omega (arith, c.requires.0)

pub overflow_mul-parts : goal.overflow_mul-parts
overflow_mul-parts c = omega (arith, c.requires.1)

pub returns-then-words-parts : goal.returns-then-words-parts
returns-then-words-parts c = λ k. omega (arith, c.if-words-parts.true, c.get-words.ensures.is, k.words)

pub get-next-requires-clause-inside : goal.get-next-requires-clause-inside
get-next-requires-clause-inside c = omega (arith, c.requires.0)

pub returns-then-next-ge65536 : goal.returns-then-next-ge65536
returns-then-next-ge65536 c = λ k. omega (arith, c.if-next-ge65536.true, c.get-next.ensures.is, k.next)

pub returns : goal.returns
returns c = record { nodes = c.get-nodes.ensures.is; rules = c.get-rules.ensures.is; variables = c.get-variables.ensures.is; words = c.get-words.ensures.is; next = c.get-next.ensures.is; counts = record { form = sym c.get.ensures.is ∙ c.if-get-ne2.false; root = omega (arith, c.if-nodes-eq0.false, c.get-nodes.ensures.is); nodes = omega (arith, c.if-nodes-gt20489.false, c.get-nodes.ensures.is, bounds.0); rules = omega (arith, c.if-rules-gt40960.false, c.get-rules.ensures.is, bounds.1); together = omega (arith, c.if-nodes-rules-gt53257.false, c.get-nodes.ensures.is, c.get-rules.ensures.is, bounds.3); variables = omega (arith, c.if-variables-gt16.false, c.get-variables.ensures.is); words = omega (arith, c.if-words-parts.false, c.get-words.ensures.is); next = omega (arith, c.if-next-ge65536.false, c.get-next.ensures.is) } }
