use mathlib.Core.Path.{refl, sym, subst}
use Prim.Native.Nat.{◌+◌}
use native.Mathlib.Omega.{arith}
use Rattle.mem_numbers.specs.Numbers.{triples, length_triples}
use Rattle.read_phrases.specs.Codes.{kind_inside}
use Rattle.read_phrases.specs.Phrases.{HiddenTo}
use Rattle.read_statements.proofs.Following.{turn_clause_odd, turn_other_odd, turn_body_odd, turn_operator, turn_next, turn_next_odd}
use Rattle.read_statements.proofs.turn.Goals as goal

pub overflow_sub-top : goal.overflow_sub-top
overflow_sub-top c = omega (arith, c.requires.inner)

pub bounds-stack-top : goal.bounds-stack-top
bounds-stack-top c = omega (arith, c.requires.inner, c.requires.height)

pub returns-then-f-ne1 : goal.returns-then-f-ne1
returns-then-f-ne1 c = turn_clause_odd (triples c.args.codes.now) c.args.stack.now c.args.at c.args.h c.requires _ _ c.kind_at-k.ensures c.if-k-eq10.true refl c.if-f-ne1.true

pub bounds-stack-top-then-k-eq10 : goal.bounds-stack-top-then-k-eq10
bounds-stack-top-then-k-eq10 c = omega (arith, c.requires.inner, c.requires.height)

pub overflow_add-at : goal.overflow_add-at
overflow_add-at c = let i = kind_inside (triples c.args.codes.now) c.args.at (omega (arith, sym c.kind_at-k.ensures, c.if-k-eq10.true)) in omega (arith, length_triples c.args.codes.now)

pub returns-in-To : goal.returns-in-To
returns-in-To c = turn_next (triples c.args.codes.now) c.args.stack.now c.args.at c.args.h c.requires _ _ _ _ c.kind_at-k.ensures c.if-k-eq10.true refl c.if-f-ne1.false (subst (HiddenTo (triples c.args.codes.now) (c.args.at + 1)) c.in-To.is c.hidden_end-p.ensures)

pub returns-in-Odd : goal.returns-in-Odd
returns-in-Odd c = turn_next_odd (triples c.args.codes.now) c.args.stack.now c.args.at c.args.h c.requires _ _ c.kind_at-k.ensures c.if-k-eq10.true refl c.if-f-ne1.false (subst (HiddenTo (triples c.args.codes.now) (c.args.at + 1)) c.in-Odd.is c.hidden_end-p.ensures)

pub returns-then-k-lt11 : goal.returns-then-k-lt11
returns-then-k-lt11 c = turn_other_odd (triples c.args.codes.now) c.args.stack.now c.args.at c.args.h c.requires _ c.kind_at-k.ensures c.if-k-eq10.false (λ a b. omega arith)

pub returns-then-k-gt13 : goal.returns-then-k-gt13
returns-then-k-gt13 c = turn_other_odd (triples c.args.codes.now) c.args.stack.now c.args.at c.args.h c.requires _ c.kind_at-k.ensures c.if-k-eq10.false (λ a b. omega arith)

pub returns-then-f-eq1 : goal.returns-then-f-eq1
returns-then-f-eq1 c = turn_body_odd (triples c.args.codes.now) c.args.stack.now c.args.at c.args.h c.requires _ _ c.kind_at-k.ensures c.if-k-eq10.false refl c.if-f-eq1.true

pub bounds-stack-top-2 : goal.bounds-stack-top-2
bounds-stack-top-2 c = omega (arith, c.requires.inner, c.requires.height)

pub overflow_add-result : goal.overflow_add-result
overflow_add-result c = let i = kind_inside (triples c.args.codes.now) c.args.at (omega (arith, sym c.kind_at-k.ensures, c.if-k-gt13.false)) in omega (arith, length_triples c.args.codes.now)

pub returns : goal.returns
returns c = turn_operator (triples c.args.codes.now) c.args.stack.now c.args.at c.args.h c.requires _ _ c.kind_at-k.ensures (omega arith) (omega arith) refl c.if-f-eq1.false
