use mathlib.Core.Path.{sym, ◌∙◌}
use Prim.Native.Nat.{◌+◌}
use native.Mathlib.Omega.{arith}
use Rattle.mem_numbers.specs.Numbers.{triples, length_triples}
use Rattle.read_phrases.specs.Codes.{kind_inside}
use Rattle.read_phrases.proofs.Reading.{variables_start, variables_odd, variables_next, variables_to}
use Rattle.read_phrases.proofs.variables_end.Goals as goal

pub loop-at-init : goal.loop-at-init
loop-at-init c = variables_start _ _

pub returns-then-kind_at-ne2 : goal.returns-then-kind_at-ne2
returns-then-kind_at-ne2 c = variables_odd _ _ _ _ c.loop-at.invariant (λ e. c.if-kind_at-ne2.true (c.kind_at.ensures ∙ e))

pub overflow_add-i : goal.overflow_add-i
overflow_add-i c = let i = kind_inside (triples c.args.codes.now) c.loop-at.i (omega (arith, sym c.kind_at.ensures, c.if-kind_at-ne2.false)) in omega (arith, length_triples c.args.codes.now)

pub overflow_add-m : goal.overflow_add-m
overflow_add-m c = let i = kind_inside (triples c.args.codes.now) c.loop-at.i (omega (arith, sym c.kind_at.ensures, c.if-kind_at-ne2.false)) in let p = c.loop-at.invariant.place in omega (arith, length_triples c.args.codes.now)

pub returns-then-kind_at-ne5 : goal.returns-then-kind_at-ne5
returns-then-kind_at-ne5 c = variables_to _ _ _ _ c.loop-at.invariant (sym c.kind_at.ensures ∙ c.if-kind_at-ne2.false) (λ e. c.if-kind_at-ne5.true (c.kind_at-in-loop-at.ensures ∙ e))

pub overflow_add-i-in-loop-at : goal.overflow_add-i-in-loop-at
overflow_add-i-in-loop-at c = let i = kind_inside (triples c.args.codes.now) (c.loop-at.i + 1) (omega (arith, sym c.kind_at-in-loop-at.ensures, c.if-kind_at-ne5.false)) in omega (arith, length_triples c.args.codes.now)

pub loop-at-smaller : goal.loop-at-smaller
loop-at-smaller c = let i = kind_inside (triples c.args.codes.now) c.loop-at.i (omega (arith, sym c.kind_at.ensures, c.if-kind_at-ne2.false)) in omega (arith, length_triples c.args.codes.now)

pub loop-at-preserved : goal.loop-at-preserved
loop-at-preserved c = variables_next _ _ _ _ c.loop-at.invariant (sym c.kind_at.ensures ∙ c.if-kind_at-ne2.false) (sym c.kind_at-in-loop-at.ensures ∙ c.if-kind_at-ne5.false)
