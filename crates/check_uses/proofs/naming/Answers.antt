-- By the innermost bracket's word. Assumes nothing.
use native.Mathlib.Omega.{arith}
use Rattle.mem_words.specs.Words.{words}
use Rattle.check_vartables.specs.Tables.{stack_of}
use Rattle.check_uses.specs.Uses.{naming_none, naming_by}
use Rattle.check_uses.proofs.naming.Goals as goal

pub returns-then-k-eq0 : goal.returns-then-k-eq0
returns-then-k-eq0 c = naming_none (words c.args.ws.now) (stack_of c.args.work.now) c.args.k c.if-k-eq0.true

pub overflow_sub-k : goal.overflow_sub-k
overflow_sub-k c = omega arith

pub stack_get-p-requires : goal.stack_get-p-requires
stack_get-p-requires c = record { laid = c.requires.laid; inside = omega (arith, c.requires.few) }

pub get-w-requires : goal.get-w-requires
get-w-requires c = omega (arith, c.requires.inside c.if-k-eq0.false, c.stack_get-p.ensures.is)

pub returns : goal.returns
returns c = naming_by (words c.args.ws.now) (stack_of c.args.work.now) c.args.k c.stack_get-p.result c.get-w.result c.names.result c.if-k-eq0.false c.stack_get-p.ensures.is c.get-w.ensures.is c.names.ensures
