-- The last of those before v. Assumes nothing.
use mathlib.Core.Path.{ap, ◌∙◌}
use mathlib.Core.Bool.{not}
use Prim.Native.Nat.{ℕ, ◌-◌}
use native.Mathlib.Omega.{arith}
use lib.ListN.{get_or}
use Rattle.mem_words.specs.declared.Word.TheVariants.{Bad}
use Rattle.mem_words.specs.Words.{words}
use Rattle.check_vartables.specs.Tables.{stack_of}
use Rattle.check_apart.specs.Search.{strict_word, fit_none, fit_some}
use Rattle.check_apart.proofs.agrees.Goals as goal

pub earlier-r-requires : goal.earlier-r-requires
earlier-r-requires c = (c.requires.laid, c.requires.few, c.requires.order)

pub returns-then-r-eq0 : goal.returns-then-r-eq0
returns-then-r-eq0 c = fit_none (words c.args.ws.now) (stack_of c.args.work.now) c.args.k c.args.v c.earlier-r.result c.earlier-r.ensures c.if-r-eq0.true

pub overflow_sub-r : goal.overflow_sub-r
overflow_sub-r c = omega arith

pub stack_get-p-requires : goal.stack_get-p-requires
stack_get-p-requires c = record { laid = c.requires.laid; inside = omega (arith, c.requires.few, c.earlier-r.ensures.most) }

pub get-w-requires : goal.get-w-requires
get-w-requires c = let h = c.requires.inside (c.earlier-r.result - 1) (omega (arith, c.earlier-r.ensures.most)) in omega (arith, h, c.stack_get-p.ensures.is)

pub returns : goal.returns
returns c = ap not (c.strict.ensures ∙ ap strict_word (c.get-w.ensures.is ∙ ap (λ (p : ℕ). get_or (words c.args.ws.now) p Bad) c.stack_get-p.ensures.is)) ∙ fit_some (words c.args.ws.now) (stack_of c.args.work.now) c.args.k c.args.v c.earlier-r.result c.earlier-r.ensures c.if-r-eq0.false
