-- The two ends. Assumes nothing.
use mathlib.Core.Path.{refl}
use native.Mathlib.Omega.{arith}
use Rattle.mem_words.specs.Words.{length_words}
use Rattle.rule_inbox.proofs.scanned.Goals as goal

pub overflow_add-a : goal.overflow_add-a
overflow_add-a c = omega (arith, length_words c.args.ws.now, c.requires)

pub overflow_add-u : goal.overflow_add-u
overflow_add-u c = omega (arith, length_words c.args.ws.now, c.end_of-u.ensures.1)

pub returns : goal.returns
returns c = record { box = refl; locals = c.end_of-u.ensures.0; locals_in = c.end_of-u.ensures.1; store = c.end_of-s.ensures.0; store_in = c.end_of-s.ensures.1 }
