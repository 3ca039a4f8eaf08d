-- `read_steps::read_number` meets its contract: digit by digit, with the number read so far true or too large. Assumes nothing.
use mathlib.Core.Path.{sym, ◌∙◌}
use native.Mathlib.Omega.{arith}
use Rattle.read_bytes.specs.Classes.{digit_byte}
use Rattle.read_steps.specs.Numbers.{digits_start, digits_more, number_end, number_empty, number_large, number_other, number_at}
use Rattle.read_steps.proofs.read_number.Goals as goal

pub loop-i-init : goal.loop-i-init
loop-i-init c = digits_start _ _

pub returns : goal.returns
returns c = number_end _ _ _ _ _ c.loop-i.invariant (omega arith)

pub with_digit-n-requires : goal.with_digit-n-requires
with_digit-n-requires c = let d = digit_byte _ (sym (sym c.if-more.true ∙ c.is_digit-more.ensures)) in record { small = c.loop-i.invariant.bound; low = d.0; high = d.1 }

pub loop-i-preserved : goal.loop-i-preserved
loop-i-preserved c = digits_more _ _ _ _ c.loop-i.invariant (omega arith) (sym c.if-more.true ∙ c.is_digit-more.ensures) (digit_byte _ (sym (sym c.if-more.true ∙ c.is_digit-more.ensures))).1 _ c.with_digit-n.ensures

pub returns-then-i-from : goal.returns-then-i-from
returns-then-i-from c = number_empty _ _ _ _ _ c.loop-i.invariant (omega arith) (sym c.if-more.false ∙ c.is_digit-more.ensures) (omega arith)

pub returns-then-n-ge4294967296 : goal.returns-then-n-ge4294967296
returns-then-n-ge4294967296 c = number_large _ _ _ _ _ c.loop-i.invariant (omega arith) (sym c.if-more.false ∙ c.is_digit-more.ensures) (omega arith)

pub returns-then-b-follows : goal.returns-then-b-follows
returns-then-b-follows c = number_other _ _ _ _ _ c.loop-i.invariant (omega arith) (sym c.if-more.false ∙ c.is_digit-more.ensures) c.if-b-follows.true

pub returns-else-more : goal.returns-else-more
returns-else-more c = number_at _ _ _ _ _ c.loop-i.invariant (omega arith) (sym c.if-more.false ∙ c.is_digit-more.ensures) c.if-i-from.false (omega arith) c.if-b-follows.false
