-- A place, the rules. Assumes nothing.
use mathlib.Core.Path.{sym, ◌∙◌}
use native.Mathlib.Omega.{arith}
use Rattle.mem_words.specs.Words.{words}
use Rattle.step_unrest.proofs.Placing.{inside_low, can_place}
use Rattle.step_unrest.proofs.Resting.{no_unrest, by_rules}
use Rattle.step_unrest.proofs.unrest_at.Goals as goal

pub kind-k-requires : goal.kind-k-requires
kind-k-requires c = inside_low (words c.args.t.now) c.args.g c.args.j c.requires.3

pub returns-then-k-eq10 : goal.returns-then-k-eq10
returns-then-k-eq10 c = (no_unrest (words c.args.t.now) (words c.args.d.now) c.args.g c.args.j c.kind-k.result c.kind-k.ensures (omega arith), c.requires.0)

pub disturbed-requires : goal.disturbed-requires
disturbed-requires c = (c.requires.0, can_place (words c.args.t.now) (words c.args.d.now) c.args.g c.args.j c.kind-k.result c.requires.1 c.requires.2 c.requires.3 c.kind-k.ensures (λ z. omega (arith, z)), c.kind-k.ensures)

pub returns : goal.returns
returns c = (by_rules (words c.args.t.now) (words c.args.d.now) c.args.g c.args.j c.kind-k.result c.kind-k.ensures (λ z. omega (arith, z)) c.disturbed.result c.disturbed.ensures.0 (λ z. c.requires.4 (sym c.kind-k.ensures ∙ z)), c.disturbed.ensures.1)
