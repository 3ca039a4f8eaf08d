-- By the word's shape. Assumes nothing.
use mathlib.Core.Path.{refl}
use native.Mathlib.Omega.{arith}
use Rattle.mem_words.specs.Words.{words, length_words}
use Rattle.mem_parts.specs.Parts.{outside_wide}
use Rattle.work_tables.specs.Tables.{laid_after, moved_locals}
use Rattle.step_turn.proofs.Shaped.{is_box, is_opens, is_closes, is_else}
use Rattle.step_turn.proofs.Stores.{depth_few}
use Rattle.step_turn.proofs.Passing.{opens_on, else_on, closes_on, leave_can, leave_on}
use Rattle.step_turn.proofs.turn.Goals as goal

pub get-x-requires : goal.get-x-requires
get-x-requires c = omega (arith, c.requires.low, c.requires.can.whole)

pub enter-requires : goal.enter-requires
enter-requires c = (c.requires, is_box (words c.args.t.now) c.args.j c.get-x.result c.word_shape-s.result c.get-x.ensures.is c.word_shape-s.ensures c.in-Box.is)

pub overflow_add-result : goal.overflow_add-result
overflow_add-result c = omega (arith, depth_few c.requires, length_words c.args.t.now)

pub leave-requires : goal.leave-requires
leave-requires c = leave_can (words c.args.t.now) c.requires.goal _ _ c.args.j _ _ _ _ _ c.requires.can c.requires.stood c.requires.low (is_closes (words c.args.t.now) c.args.j c.get-x.result c.word_shape-s.result c.get-x.ensures.is c.word_shape-s.ensures c.in-Closes.is) (omega arith)

pub returns-then-at-eq0 : goal.returns-then-at-eq0
returns-then-at-eq0 c = record {
  goes = λ g o h s l. leave_on (words c.args.t.now) g o _ c.args.j _ _ _ _ _ h s l (is_closes (words c.args.t.now) c.args.j c.get-x.result c.word_shape-s.result c.get-x.ensures.is c.word_shape-s.ensures c.in-Closes.is) (omega arith) _ c.leave.result c.leave.ensures;
  locals = moved_locals c.leave.ensures.rest;
  rest = outside_wide 0 466944 (omega arith) (omega arith) c.leave.ensures.rest;
  laid = laid_after c.requires.stood.at.walk.laid c.leave.ensures.rest;
}

pub returns-in-Box : goal.returns-in-Box
returns-in-Box c = c.enter.ensures

pub returns-in-Opens : goal.returns-in-Opens
returns-in-Opens c = record { goes = λ g o h s l. let q = is_opens (words c.args.t.now) c.args.j c.get-x.result c.word_shape-s.result c.get-x.ensures.is c.word_shape-s.ensures c.in-Opens.is in opens_on (words c.args.t.now) g o _ c.args.j _ _ _ _ _ h s l q.0 q.1; locals = refl; rest = record { before = refl; after = refl; long = refl }; laid = c.requires.stood.at.walk.laid }

pub returns-else-at-eq0 : goal.returns-else-at-eq0
returns-else-at-eq0 c = record { goes = λ g o h s l. closes_on (words c.args.t.now) g o _ c.args.j _ _ _ _ _ h s l (is_closes (words c.args.t.now) c.args.j c.get-x.result c.word_shape-s.result c.get-x.ensures.is c.word_shape-s.ensures c.in-Closes.is) (λ z. omega (arith, z)); locals = refl; rest = record { before = refl; after = refl; long = refl }; laid = c.requires.stood.at.walk.laid }

pub returns-in-Else : goal.returns-in-Else
returns-in-Else c = record { goes = λ g o h s l. let q = is_else (words c.args.t.now) c.args.j c.get-x.result c.word_shape-s.result c.get-x.ensures.is c.word_shape-s.ensures c.in-Else.is in else_on (words c.args.t.now) g o _ c.args.j _ _ _ _ _ h s l q.0 q.1; locals = refl; rest = record { before = refl; after = refl; long = refl }; laid = c.requires.stood.at.walk.laid }
