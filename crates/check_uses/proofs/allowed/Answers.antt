-- By cases. Assumes nothing.
use Rattle.mem_words.specs.Words.{words}
use native.Mathlib.Omega.{arith}
use Rattle.check_uses.specs.Uses.{use_name, use_marked, use_excused}
use Rattle.check_uses.proofs.allowed.Goals as goal

pub naming-requires : goal.naming-requires
naming-requires c = c.requires.0

pub returns-then-naming : goal.returns-then-naming
returns-then-naming c = use_name (words c.args.ws.now) c.args.work.now c.args.k c.args.x.0 c.naming.result c.naming.ensures c.if-naming.true

pub name_get-v-requires : goal.name_get-v-requires
name_get-v-requires c = record { laid = c.requires.0.laid; inside = c.requires.1 }

pub returns-then-v-eq1 : goal.returns-then-v-eq1
returns-then-v-eq1 c = use_marked (words c.args.ws.now) c.args.work.now c.args.k c.args.x.0 c.naming.result c.name_get-v.result c.naming.ensures c.if-naming.false c.name_get-v.ensures.is c.if-v-eq1.true

pub aim-t-requires : goal.aim-t-requires
aim-t-requires c = c.requires.0

pub excuse-requires : goal.excuse-requires
excuse-requires c = (c.requires.0.laid, omega (arith, c.requires.0.aims, c.aim-t.ensures))

pub returns : goal.returns
returns c = use_excused (words c.args.ws.now) c.args.work.now c.args.k c.args.x.0 c.naming.result c.name_get-v.result c.aim-t.result c.excuse.result c.naming.ensures c.if-naming.false c.name_get-v.ensures.is c.if-v-eq1.false c.aim-t.ensures c.excuse.ensures
