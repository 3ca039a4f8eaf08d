use mathlib.Core.Path.{refl, sym, ◌∙◌}
use native.Mathlib.Omega.{arith}
use Rattle.mem_numbers.specs.Numbers.{triples, length_triples}
use Rattle.read_phrases.specs.Codes.{kind_inside}
use Rattle.read_simples.proofs.Atoms.{no_equation, bracket_read, nothing_read}
use Rattle.read_simples.proofs.simple_at.Goals as goal

pub overflow_add-result : goal.overflow_add-result
overflow_add-result c = let i = kind_inside (triples c.args.codes.now) c.args.at (omega (arith, sym c.kind_at-k.ensures, c.if-k-eq3.true)) in omega (arith, length_triples c.args.codes.now)

pub returns-then-k-eq3 : goal.returns-then-k-eq3
returns-then-k-eq3 c = bracket_read (triples c.args.codes.now) c.args.at (sym c.kind_at-k.ensures ∙ c.if-k-eq3.true) _ refl

pub overflow_add-at : goal.overflow_add-at
overflow_add-at c = let i = kind_inside (triples c.args.codes.now) c.args.at (omega (arith, sym c.kind_at-k.ensures, c.if-k-eq2.true)) in omega (arith, length_triples c.args.codes.now)

pub returns-then-kind_at-ne9 : goal.returns-then-kind_at-ne9
returns-then-kind_at-ne9 c = no_equation (triples c.args.codes.now) c.args.at (sym c.kind_at-k.ensures ∙ c.if-k-eq2.true) (λ e. c.if-kind_at-ne9.true (c.kind_at.ensures ∙ e))

pub equation_at-requires : goal.equation_at-requires
equation_at-requires c = record { known = c.requires; var = sym c.kind_at-k.ensures ∙ c.if-k-eq2.true; sign = sym c.kind_at.ensures ∙ c.if-kind_at-ne9.false }

pub named_at-requires : goal.named_at-requires
named_at-requires c = record { known = c.requires; name = sym c.kind_at-k.ensures ∙ c.if-k-eq0.true }

pub returns : goal.returns
returns c = nothing_read (triples c.args.codes.now) c.args.at (λ e. c.if-k-eq3.false (c.kind_at-k.ensures ∙ e)) (λ e. c.if-k-eq2.false (c.kind_at-k.ensures ∙ e)) (λ e. c.if-k-eq0.false (c.kind_at-k.ensures ∙ e))
