use mathlib.Core.Path.{sym, ap, ◌∙◌}
use mathlib.Core.Bool.{true, false}
use Prim.Native.Nat.{ℕ, ◌/◌, ◌%◌}
use native.Mathlib.Omega.{arith}
use lib.ListN.{get_or}
use Rattle.mem_numbers.specs.Numbers.{triples}
use Rattle.solve_cells.specs.Cells.{rep}
use Rattle.solve_fields.specs.Read.{var_of, is_var}
use Rattle.solve_explores.proofs.look.Goals as goal

pub returns-then-not-is_var : goal.returns-then-not-is_var
returns-then-not-is_var c = sym (ap is_var c.peek-w.ensures) ∙ sym c.is_var.ensures ∙ c.if-not-is_var.true

pub find-r-requires : goal.find-r-requires
find-r-requires c = record { up = c.requires.up; inside = omega (arith, (c.var_of.ensures ∙ ap var_of c.peek-w.ensures), c.requires.vars.low c.args.c) }

pub get-d-requires-clause-inside : goal.get-d-requires-clause-inside
get-d-requires-clause-inside c = c.find-r.ensures.inside

pub returns-then-d-ne2 : goal.returns-then-d-ne2
returns-then-d-ne2 c = record { var = (sym (ap is_var c.peek-w.ensures) ∙ sym c.is_var.ensures ∙ c.if-not-is_var.false); free = λ b. c.if-d-ne2.true (ap (λ (z : ℕ). z % 4) (c.get-d.ensures.is ∙ ap (λ (r : ℕ). get_or (triples c.args.cells.now) r 0) (c.find-r.ensures.is ∙ ap (rep (triples c.args.cells.now)) (c.var_of.ensures ∙ ap var_of c.peek-w.ensures))) ∙ b) }

pub returns : goal.returns
returns c = record { var = (sym (ap is_var c.peek-w.ensures) ∙ sym c.is_var.ensures ∙ c.if-not-is_var.false); bound = ap (λ (z : ℕ). z % 4) (sym (c.get-d.ensures.is ∙ ap (λ (r : ℕ). get_or (triples c.args.cells.now) r 0) (c.find-r.ensures.is ∙ ap (rep (triples c.args.cells.now)) (c.var_of.ensures ∙ ap var_of c.peek-w.ensures)))) ∙ c.if-d-ne2.false; app = ap (λ (z : ℕ). z / 256) (sym (c.get-d.ensures.is ∙ ap (λ (r : ℕ). get_or (triples c.args.cells.now) r 0) (c.find-r.ensures.is ∙ ap (rep (triples c.args.cells.now)) (c.var_of.ensures ∙ ap var_of c.peek-w.ensures)))) }
