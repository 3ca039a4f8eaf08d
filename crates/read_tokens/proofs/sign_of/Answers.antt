-- `read_tokens::sign_of` meets its contract: by the first byte, and the second where it counts. Assumes nothing.
use mathlib.Core.Path.{sym}
use borrow.Author.Tests.{ne_eqb}
use Rattle.read_tokens.proofs.sign_of.Goals as goal

pub returns-in-40 : goal.returns-in-40
returns-in-40 c = simp c.in-40.is

pub returns-in-41 : goal.returns-in-41
returns-in-41 c = simp c.in-41.is

pub returns-in-44 : goal.returns-in-44
returns-in-44 c = simp c.in-44.is

pub returns-then-then-eq62 : goal.returns-then-then-eq62
returns-then-then-eq62 c = simp (c.in-45.is, c.if-then-eq62.true)

pub returns-else-then-eq62 : goal.returns-else-then-eq62
returns-else-then-eq62 c = simp (c.in-45.is, ne_eqb _ _ (λ e. c.if-then-eq62.false (sym e)))

pub returns-in-46 : goal.returns-in-46
returns-in-46 c = simp c.in-46.is

pub returns-then-then-eq61 : goal.returns-then-then-eq61
returns-then-then-eq61 c = simp (c.in-58.is, c.if-then-eq61.true)

pub returns-else-then-eq61 : goal.returns-else-then-eq61
returns-else-then-eq61 c = simp (c.in-58.is, ne_eqb _ _ (λ e. c.if-then-eq61.false (sym e)))

pub returns-in-59 : goal.returns-in-59
returns-in-59 c = simp c.in-59.is

pub returns-in-61 : goal.returns-in-61
returns-in-61 c = simp c.in-61.is

pub returns-in-63 : goal.returns-in-63
returns-in-63 c = simp c.in-63.is

pub returns-in-124 : goal.returns-in-124
returns-in-124 c = simp c.in-124.is

pub returns-in_default : goal.returns-in_default
returns-in_default c =
    simp (ne_eqb _ _ c.in_default.in_default-own.rest.0.0.0.0.0.0.0.0.0.1, ne_eqb _ _ c.in_default.in_default-own.rest.0.0.0.0.0.0.0.0.1, ne_eqb _ _ c.in_default.in_default-own.rest.0.0.0.0.0.0.0.1, ne_eqb _ _ c.in_default.in_default-own.rest.0.0.0.0.0.0.1, ne_eqb _ _ c.in_default.in_default-own.rest.0.0.0.0.0.1, ne_eqb _ _ c.in_default.in_default-own.rest.0.0.0.0.1, ne_eqb _ _ c.in_default.in_default-own.rest.0.0.0.1, ne_eqb _ _ c.in_default.in_default-own.rest.0.0.1, ne_eqb _ _ c.in_default.in_default-own.rest.0.1, ne_eqb _ _ c.in_default.in_default-own.rest.1)
