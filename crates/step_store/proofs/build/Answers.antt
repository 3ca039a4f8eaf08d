-- On the words of the regions. Assumes nothing.
use mathlib.Core.Path.{subst}
use Prim.Native.Nat.{ℕ, ◌+◌, ◌*◌}
use native.Mathlib.Omega.{arith}
use lib.ListN.{length}
use Rattle.mem_parts.specs.Parts.{cut}
use Rattle.mem_words.specs.Words.{words}
use Rattle.rule_build.specs.Built.{Built}
use Rattle.rule_rewrite.specs.Rewriting.{effect_words}
use Rattle.rule_solve.proofs.Idling.{idle_beside}
use Rattle.step_store.specs.Regions.{config_part, program_part}
use Rattle.step_store.proofs.Regions.{config_fits, program_fits, was_built}
use Rattle.step_store.proofs.build.Goals as goal

pub overflow_mul-e : goal.overflow_mul-e
overflow_mul-e c = omega (arith, config_fits c.requires.1)

pub overflow_add-e : goal.overflow_add-e
overflow_add-e c = omega (arith, config_fits c.requires.1)

pub program_start-d-requires : goal.program_start-d-requires
program_start-d-requires c = omega (arith, c.requires.1.long)

pub overflow_mul-f : goal.overflow_mul-f
overflow_mul-f c = omega (arith, program_fits c.requires.1)

pub overflow_add-f : goal.overflow_add-f
overflow_add-f c = omega (arith, c.program_start-d.ensures, program_fits c.requires.1)

pub slice_bounds-rewrite_in-end : goal.slice_bounds-rewrite_in-end
slice_bounds-rewrite_in-end c = omega (arith, config_fits c.requires.1, c.requires.1.long)

pub slice_bounds-rewrite_in-end-2 : goal.slice_bounds-rewrite_in-end-2
slice_bounds-rewrite_in-end-2 c = omega (arith, c.program_start-d.ensures, program_fits c.requires.1, c.requires.1.long)

pub rewrite_in-requires : goal.rewrite_in-requires
unfolding cut config_part
rewrite_in-requires c = (c.requires.2, omega arith, omega (arith, c.requires.0.walk.laid.long))

pub returns : goal.returns
unfolding cut config_part program_part
returns c = (
  was_built c.args.b.now c.args.w.now c.rewrite_in.new.w c.args.n c.args.m c.args.next c.args.r c.args.i c.rewrite_in.result c.requires.0.walk.laid.long
      (subst (λ (o : ℕ). Built (length (words (cut 401408 487424 c.args.w.now))) (effect_words (config_part c.args.b.now c.args.n) (words (cut o (o + 3 * c.args.m) c.args.b.now)) c.args.r c.args.i c.args.next) c.rewrite_in.result (words (cut 401408 487424 c.rewrite_in.new.w))) c.program_start-d.ensures c.rewrite_in.ensures.0),
  idle_beside (omega arith) (omega arith) c.rewrite_in.ensures.1 c.requires.0,
)
