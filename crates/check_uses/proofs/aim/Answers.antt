-- By what the innermost bracket is. Assumes nothing.
use mathlib.Core.Path.{◌≡◌, refl, sym, ◌∙◌}
use Prim.Native.Nat.{suc, ◌+◌}
use native.Mathlib.Omega.{arith}
use Rattle.mem_words.specs.Words.{words}
use Rattle.check_vartables.specs.Tables.{stack_of, links_of}
use Rattle.check_roles.specs.declared.Role.TheVariants.{Clear, Plain, Boxed, Guarding}
use Rattle.check_uses.specs.Uses.{aim_none, aim_by}
use Rattle.check_uses.proofs.aim.Goals as goal

pub returns-then-k-eq0 : goal.returns-then-k-eq0
returns-then-k-eq0 c = aim_none (words c.args.ws.now) (links_of c.args.work.now) (stack_of c.args.work.now) c.args.k c.if-k-eq0.true

pub overflow_sub-k : goal.overflow_sub-k
overflow_sub-k c = omega arith

pub stack_get-p-requires : goal.stack_get-p-requires
stack_get-p-requires c = record { laid = c.requires.laid; inside = omega (arith, c.requires.few) }

pub get-w-requires : goal.get-w-requires
get-w-requires c = omega (arith, c.requires.inside c.if-k-eq0.false, c.stack_get-p.ensures.is)

pub link_get-requires : goal.link_get-requires
link_get-requires c = record { laid = c.requires.laid; inside = omega (arith, c.requires.inside c.if-k-eq0.false, c.stack_get-p.ensures.is, c.requires.short) }

pub overflow_add-result : goal.overflow_add-result
overflow_add-result c = omega (arith, c.requires.inside c.if-k-eq0.false, c.stack_get-p.ensures.is, c.requires.short)

pub returns-in-Clear : goal.returns-in-Clear
returns-in-Clear c = aim_by (words c.args.ws.now) (links_of c.args.work.now) (stack_of c.args.work.now) c.args.k c.stack_get-p.result c.get-w.result Clear c.link_get.result c.if-k-eq0.false c.stack_get-p.ensures.is c.get-w.ensures.is (sym c.in-Clear.is ∙ c.role_of-o.ensures) c.link_get.ensures.is

pub returns-in-Plain : goal.returns-in-Plain
returns-in-Plain c = aim_by (words c.args.ws.now) (links_of c.args.work.now) (stack_of c.args.work.now) c.args.k c.stack_get-p.result c.get-w.result Plain (0) c.if-k-eq0.false c.stack_get-p.ensures.is c.get-w.ensures.is (sym c.in-Plain.is ∙ c.role_of-o.ensures) (refl)

pub returns-in-Boxed : goal.returns-in-Boxed
returns-in-Boxed c = aim_by (words c.args.ws.now) (links_of c.args.work.now) (stack_of c.args.work.now) c.args.k c.stack_get-p.result c.get-w.result Boxed (0) c.if-k-eq0.false c.stack_get-p.ensures.is c.get-w.ensures.is (sym c.in-Boxed.is ∙ c.role_of-o.ensures) (refl)

pub returns-in-Guarding : goal.returns-in-Guarding
returns-in-Guarding c = aim_by (words c.args.ws.now) (links_of c.args.work.now) (stack_of c.args.work.now) c.args.k c.stack_get-p.result c.get-w.result Guarding (c.stack_get-p.result + 1) c.if-k-eq0.false c.stack_get-p.ensures.is c.get-w.ensures.is (sym c.in-Guarding.is ∙ c.role_of-o.ensures) (let e : c.stack_get-p.result + 1 ≡ suc c.stack_get-p.result = omega arith in e)
