-- The innermost is the last. Assumes nothing.
use mathlib.Core.Path.{ap, ◌∙◌}
use Prim.Native.Nat.{ℕ, ◌-◌}
use native.Mathlib.Omega.{arith}
use lib.ListN.{get_or}
use Rattle.mem_words.specs.declared.Word.TheVariants.{Bad}
use Rattle.mem_words.specs.Words.{words}
use Rattle.check_vartables.specs.Tables.{stack_of}
use Rattle.check_apart.specs.Search.{naming_word}
use Rattle.check_apart.specs.Steps.{no_names, names_at}
use Rattle.check_apart.proofs.inside_locals.Goals as goal

pub returns-then-k-eq0 : goal.returns-then-k-eq0
returns-then-k-eq0 c = no_names (words c.args.ws.now) (stack_of c.args.work.now) c.args.k c.if-k-eq0.true

pub overflow_sub-k : goal.overflow_sub-k
overflow_sub-k c = omega arith

pub stack_get-p-requires : goal.stack_get-p-requires
stack_get-p-requires c = record { laid = c.requires.laid; inside = omega (arith, c.requires.few) }

pub get-w-requires : goal.get-w-requires
get-w-requires c = let h = c.requires.inside (c.args.k - 1) (omega arith) in omega (arith, h, c.stack_get-p.ensures.is)

pub returns : goal.returns
returns c = c.naming.ensures ∙ ap naming_word (c.get-w.ensures.is ∙ ap (λ (p : ℕ). get_or (words c.args.ws.now) p Bad) c.stack_get-p.ensures.is) ∙ names_at (words c.args.ws.now) (stack_of c.args.work.now) c.args.k c.if-k-eq0.false
