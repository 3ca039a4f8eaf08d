-- All at once, or word by word. Assumes nothing.
use mathlib.Core.Path.{sym, subst}
use native.Mathlib.Omega.{arith}
use Rattle.mem_words.specs.Words.{words}
use Rattle.store_parts.specs.declared.Among.{Among}
use Rattle.store_parts.specs.declared.Among.TheVariants.{Others}
use Prim.Native.Nat.{ℕ, ◌+◌}
use Rattle.store_parts.specs.Counts.{Counted}
use Rattle.store_parts.specs.Pieces.{Plain, PlainTo, plain_counted}
use Rattle.store_parts.proofs.sixteen.Goals as goal

pub plain-requires : goal.plain-requires
plain-requires c = c.requires.0

pub returns-in-Some : goal.returns-in-Some
returns-in-Some c = record { counted = subst (λ (m : Among). Counted (words c.args.ws.now) m c.args.i Others c.from.result (c.args.i + 16)) (sym c.in-Others.is) (plain_counted c.requires.0.inside (subst (λ (n : ℕ). Plain c.args.ws.now c.args.i n) (sym c.from.ensures) (subst (PlainTo c.args.ws.now c.args.i) c.in-Some.is c.plain.ensures))) }

pub overflow_add-i : goal.overflow_add-i
overflow_add-i c = omega (arith, c.requires.0.inside, c.requires.1)

pub run-requires : goal.run-requires
run-requires c = record { from = omega arith; within = omega (arith, c.requires.0.inside); few = c.requires.1 }

pub returns : goal.returns
returns c = c.run.ensures
