-- On the words of the regions. Assumes nothing.
use mathlib.Core.Path.{sym, subst}
use Prim.Native.Nat.{ℕ, ◌+◌, ◌*◌}
use native.Mathlib.Omega.{arith}
use Rattle.mem_parts.specs.Parts.{cut}
use Rattle.mem_words.specs.Words.{words}
use Rattle.step_decide.specs.Decided.{CanDecide, Decided}
use Rattle.step_meant.specs.Deciding.{step_of}
use Rattle.step_store.specs.Regions.{config_part, program_part}
use Rattle.step_store.proofs.Regions.{config_fits, program_fits, can_decide}
use Rattle.step_store.proofs.decision.Goals as goal

pub overflow_mul-e : goal.overflow_mul-e
overflow_mul-e c = omega (arith, config_fits c.requires.1)

pub overflow_add-e : goal.overflow_add-e
overflow_add-e c = omega (arith, config_fits c.requires.1)

pub program_start-d-requires : goal.program_start-d-requires
program_start-d-requires c = omega (arith, c.requires.1.long)

pub overflow_mul-f : goal.overflow_mul-f
overflow_mul-f c = omega (arith, program_fits c.requires.1)

pub overflow_add-f : goal.overflow_add-f
overflow_add-f c = omega (arith, c.program_start-d.ensures, program_fits c.requires.1)

pub slice_bounds-decide-end : goal.slice_bounds-decide-end
slice_bounds-decide-end c = omega (arith, config_fits c.requires.1, c.requires.1.long)

pub slice_bounds-decide-end-2 : goal.slice_bounds-decide-end-2
slice_bounds-decide-end-2 c = omega (arith, c.program_start-d.ensures, program_fits c.requires.1, c.requires.1.long)

pub decide-requires : goal.decide-requires
unfolding cut config_part program_part
decide-requires c =
    (c.requires.0, subst (λ (o : ℕ). CanDecide (config_part c.args.b.now c.args.n) (words (cut o (o + 3 * c.args.m) c.args.b.now))) (sym c.program_start-d.ensures) (can_decide c.requires.1), c.requires.2)

pub returns : goal.returns
unfolding cut config_part program_part
returns c =
    (subst (λ (o : ℕ). Decided (config_part c.args.b.now c.args.n) (words (cut o (o + 3 * c.args.m) c.args.b.now)) (step_of c.args.r c.args.p.0 c.args.a) c.decide.result) c.program_start-d.ensures c.decide.ensures.0, c.decide.ensures.1)
