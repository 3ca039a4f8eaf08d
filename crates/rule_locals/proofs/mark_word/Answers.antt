-- A variable where locals stand. Assumes nothing.
use native.Mathlib.Omega.{arith}
use Rattle.rule_locals.proofs.Words.{adds_outside, adds_no_variable, adds_local}
use Rattle.rule_locals.proofs.mark_word.Goals as goal

pub returns-then-not-b : goal.returns-then-not-b
returns-then-not-b c = adds_outside _ _ _ _ (c.if-not-b.true)

pub returns-then-not-is_var : goal.returns-then-not-is_var
returns-then-not-is_var c = adds_no_variable _ _ _ _ c.is_var.result c.is_var.ensures (c.if-not-is_var.true)

pub local_put-requires : goal.local_put-requires
local_put-requires c = record { laid = c.requires.0; inside = omega (arith, c.requires.1, c.var_of-i.ensures); small = c.requires.2 }

pub returns : goal.returns
returns c = adds_local _ _ _ _ _ c.is_var.result c.var_of-i.result c.requires.0 (omega (arith, c.requires.1, c.var_of-i.ensures)) (c.if-not-b.false) c.is_var.ensures (c.if-not-is_var.false) c.var_of-i.ensures c.local_put.ensures
