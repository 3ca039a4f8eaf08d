use mathlib.Core.Path.{subst, sym, ◌∙◌}
use mathlib.Core.Bool.{true, false}
use Prim.Native.Nat.{◌+◌}
use native.Mathlib.Omega.{arith}
use Rattle.mem_numbers.specs.Numbers.{triples, shorts}
use Rattle.mem_words.specs.Words.{words, length_words}
use Rattle.mem_words.specs.declared.Word.TheVariants.{Num}
use Rattle.read_emits.specs.TheirContracts.{emit_yes, emit_no}
use Rattle.read_pieces.specs.Reads.{a_statement, ReadTo}
use Rattle.read_operators.specs.Binding.{entered, not_entered}
use Rattle.read_definitions.specs.Definitions.{OpeningTo}
use Rattle.read_definitions.proofs.Parameters.{body_place, can_bind, inner_can, outer_can}
use Rattle.read_definitions.proofs.Reading.{reading_many, reading_odd, reading_name_full, reading_count_full, room, reading_bind_full, reading_full, reading_body_odd, reading_three, reading_unstopped, reading_done}
use Rattle.read_definitions.proofs.definition.Goals as goal

pub emit-requires : goal.emit-requires
emit-requires c = omega (arith, (subst (OpeningTo (triples c.args.codes.now) c.args.at) c.in-To.is c.before_body-h.ensures).is, c.requires.cells, c.requires.ids c.args.at (omega (arith, (subst (OpeningTo (triples c.args.codes.now) c.args.at) c.in-To.is c.before_body-h.ensures).inside, (body_place (triples c.args.codes.now) (shorts c.args.binds.now) (shorts c.args.saves.now) (shorts c.args.order.now) (triples c.args.heads.now) (words c.args.out.now) c.args.at c.args.k c.requires c.in-To.name c.in-To.count c.in-To.body (subst (OpeningTo (triples c.args.codes.now) c.args.at) c.in-To.is c.before_body-h.ensures)).0)))

pub returns-then-not-emit : goal.returns-then-not-emit
returns-then-not-emit c = reading_name_full (triples c.args.codes.now) (shorts c.args.binds.now) (shorts c.args.saves.now) (shorts c.args.order.now) (triples c.args.heads.now) (words c.args.out.now) c.args.at c.args.k c.requires c.in-To.name c.in-To.count c.in-To.body (subst (OpeningTo (triples c.args.codes.now) c.args.at) c.in-To.is c.before_body-h.ensures) _ _ _ (emit_no (Num c.in-To.name) c.emit.result c.emit.ensures (c.if-not-emit.true))

pub overflow_add-k : goal.overflow_add-k
overflow_add-k c = omega (arith, c.requires.out, length_words c.args.out.now)

pub emit-requires-in-To : goal.emit-requires-in-To
emit-requires-in-To c = omega (arith, (subst (OpeningTo (triples c.args.codes.now) c.args.at) c.in-To.is c.before_body-h.ensures).few)

pub returns-then-not-emit-2 : goal.returns-then-not-emit-2
returns-then-not-emit-2 c = reading_count_full (triples c.args.codes.now) (shorts c.args.binds.now) (shorts c.args.saves.now) (shorts c.args.order.now) (triples c.args.heads.now) (words c.args.out.now) c.args.at c.args.k c.requires c.in-To.name c.in-To.count c.in-To.body (subst (OpeningTo (triples c.args.codes.now) c.args.at) c.in-To.is c.before_body-h.ensures) (words c.emit.new.out) (emit_yes c.emit.result c.emit.ensures (c.if-not-emit.false)) _ _ _ (emit_no (Num c.in-To.count) c.emit-in-To.result c.emit-in-To.ensures (c.if-not-emit-2.true))

pub overflow_add-at : goal.overflow_add-at
overflow_add-at c = omega (arith, c.requires.inside, c.requires.few)

pub bind-requires : goal.bind-requires
bind-requires c = can_bind (triples c.args.codes.now) (shorts c.args.binds.now) (shorts c.args.saves.now) (shorts c.args.order.now) (triples c.args.heads.now) (words c.args.out.now) c.args.at c.args.k c.requires c.in-To.name c.in-To.count c.in-To.body (subst (OpeningTo (triples c.args.codes.now) c.args.at) c.in-To.is c.before_body-h.ensures)

pub returns-then-g-eq0 : goal.returns-then-g-eq0
returns-then-g-eq0 c = reading_bind_full (triples c.args.codes.now) (shorts c.args.binds.now) (shorts c.args.saves.now) (shorts c.args.order.now) (triples c.args.heads.now) (words c.args.out.now) c.args.at c.args.k c.requires c.in-To.name c.in-To.count c.in-To.body (subst (OpeningTo (triples c.args.codes.now) c.args.at) c.in-To.is c.before_body-h.ensures) (words c.emit.new.out) (emit_yes c.emit.result c.emit.ensures (c.if-not-emit.false)) (words c.emit-in-To.new.out) (emit_yes c.emit-in-To.result c.emit-in-To.ensures (c.if-not-emit-2.false)) _ _ _ (not_entered (triples c.args.codes.now) (c.args.at + 2) c.in-To.count (shorts c.args.binds.now) (shorts c.args.saves.now) 0 (shorts c.bind.new.binds) (shorts c.bind.new.saves) c.bind.result c.twice-g.result c.bind.ensures c.twice-g.ensures (omega arith))

pub overflow_add-k-in-To : goal.overflow_add-k-in-To
overflow_add-k-in-To c = omega (arith, c.requires.out, length_words c.args.out.now, c.well_formed)

pub statement-s-requires : goal.statement-s-requires
statement-s-requires c = inner_can (triples c.args.codes.now) (shorts c.args.binds.now) (shorts c.args.saves.now) (shorts c.args.order.now) (triples c.args.heads.now) (words c.args.out.now) c.args.at c.args.k c.requires c.in-To.name c.in-To.count c.in-To.body (subst (OpeningTo (triples c.args.codes.now) c.args.at) c.in-To.is c.before_body-h.ensures) (shorts c.bind.new.binds) (shorts c.bind.new.saves) (entered (triples c.args.codes.now) (c.args.at + 2) c.in-To.count (shorts c.args.binds.now) (shorts c.args.saves.now) 0 (shorts c.bind.new.binds) (shorts c.bind.new.saves) c.bind.result c.twice-g.result c.bind.ensures c.twice-g.ensures (λ e. c.if-g-eq0.false e)).twice (entered (triples c.args.codes.now) (c.args.at + 2) c.in-To.count (shorts c.args.binds.now) (shorts c.args.saves.now) 0 (shorts c.bind.new.binds) (shorts c.bind.new.saves) c.bind.result c.twice-g.result c.bind.ensures c.twice-g.ensures (λ e. c.if-g-eq0.false e)).binds (words c.emit-in-To.new.out) (c.args.k + 2) (room (triples c.args.codes.now) (shorts c.args.binds.now) (shorts c.args.saves.now) (shorts c.args.order.now) (triples c.args.heads.now) (words c.args.out.now) c.args.at c.args.k c.requires c.in-To.name c.in-To.count c.in-To.body (subst (OpeningTo (triples c.args.codes.now) c.args.at) c.in-To.is c.before_body-h.ensures) (words c.emit.new.out) (emit_yes c.emit.result c.emit.ensures (c.if-not-emit.false)) (words c.emit-in-To.new.out) (emit_yes c.emit-in-To.result c.emit-in-To.ensures (c.if-not-emit-2.false)))

pub returns-then-kind_at-ne6 : goal.returns-then-kind_at-ne6
returns-then-kind_at-ne6 c = reading_unstopped (triples c.args.codes.now) (shorts c.args.binds.now) (shorts c.args.saves.now) (shorts c.args.order.now) (triples c.args.heads.now) (words c.args.out.now) c.args.at c.args.k c.requires c.in-To.name c.in-To.count c.in-To.body (subst (OpeningTo (triples c.args.codes.now) c.args.at) c.in-To.is c.before_body-h.ensures) (words c.emit.new.out) (emit_yes c.emit.result c.emit.ensures (c.if-not-emit.false)) (words c.emit-in-To.new.out) (emit_yes c.emit-in-To.result c.emit-in-To.ensures (c.if-not-emit-2.false)) (shorts c.bind.new.binds) (shorts c.bind.new.saves) c.twice-g.result (entered (triples c.args.codes.now) (c.args.at + 2) c.in-To.count (shorts c.args.binds.now) (shorts c.args.saves.now) 0 (shorts c.bind.new.binds) (shorts c.bind.new.saves) c.bind.result c.twice-g.result c.bind.ensures c.twice-g.ensures (λ e. c.if-g-eq0.false e)) (shorts c.statement-s.new.binds) (shorts c.statement-s.new.saves) (shorts c.statement-s.new.order) (words c.statement-s.new.out) c.in-Done.a c.in-Done.o c.in-Done._known c.in-Done.fault (subst (ReadTo a_statement false (triples c.args.codes.now) (shorts c.bind.new.binds) (shorts c.bind.new.saves) (shorts c.args.order.now) (triples c.args.heads.now) (words c.emit-in-To.new.out) c.in-To.body (c.args.k + 2) 0 c.in-To.count 0 (shorts c.statement-s.new.binds) (shorts c.statement-s.new.saves) (shorts c.statement-s.new.order) (words c.statement-s.new.out)) c.in-Done.is c.statement-s.ensures.to) _ _ _ (λ e. c.if-kind_at-ne6.true (c.kind_at.ensures ∙ e))

pub overflow_add-at-in-Done : goal.overflow_add-at-in-Done
overflow_add-at-in-Done c = omega (arith, c.requires.inside, c.requires.few)

pub unbind-requires : goal.unbind-requires
unbind-requires c = outer_can (triples c.args.codes.now) (shorts c.args.binds.now) (shorts c.args.saves.now) (shorts c.args.order.now) (triples c.args.heads.now) (words c.args.out.now) c.args.at c.args.k c.requires c.in-To.name c.in-To.count c.in-To.body (subst (OpeningTo (triples c.args.codes.now) c.args.at) c.in-To.is c.before_body-h.ensures) (shorts c.bind.new.binds) (shorts c.bind.new.saves) (entered (triples c.args.codes.now) (c.args.at + 2) c.in-To.count (shorts c.args.binds.now) (shorts c.args.saves.now) 0 (shorts c.bind.new.binds) (shorts c.bind.new.saves) c.bind.result c.twice-g.result c.bind.ensures c.twice-g.ensures (λ e. c.if-g-eq0.false e)).twice (entered (triples c.args.codes.now) (c.args.at + 2) c.in-To.count (shorts c.args.binds.now) (shorts c.args.saves.now) 0 (shorts c.bind.new.binds) (shorts c.bind.new.saves) c.bind.result c.twice-g.result c.bind.ensures c.twice-g.ensures (λ e. c.if-g-eq0.false e)).binds (shorts c.statement-s.new.binds) (shorts c.statement-s.new.saves) (subst (ReadTo a_statement false (triples c.args.codes.now) (shorts c.bind.new.binds) (shorts c.bind.new.saves) (shorts c.args.order.now) (triples c.args.heads.now) (words c.emit-in-To.new.out) c.in-To.body (c.args.k + 2) 0 c.in-To.count 0 (shorts c.statement-s.new.binds) (shorts c.statement-s.new.saves) (shorts c.statement-s.new.order) (words c.statement-s.new.out)) c.in-Done.is c.statement-s.ensures.to).cells (subst (ReadTo a_statement false (triples c.args.codes.now) (shorts c.bind.new.binds) (shorts c.bind.new.saves) (shorts c.args.order.now) (triples c.args.heads.now) (words c.emit-in-To.new.out) c.in-To.body (c.args.k + 2) 0 c.in-To.count 0 (shorts c.statement-s.new.binds) (shorts c.statement-s.new.saves) (shorts c.statement-s.new.order) (words c.statement-s.new.out)) c.in-Done.is c.statement-s.ensures.to).long_s

pub overflow_add-result : goal.overflow_add-result
overflow_add-result c = omega (arith, (subst (ReadTo a_statement false (triples c.args.codes.now) (shorts c.bind.new.binds) (shorts c.bind.new.saves) (shorts c.args.order.now) (triples c.args.heads.now) (words c.emit-in-To.new.out) c.in-To.body (c.args.k + 2) 0 c.in-To.count 0 (shorts c.statement-s.new.binds) (shorts c.statement-s.new.saves) (shorts c.statement-s.new.order) (words c.statement-s.new.out)) c.in-Done.is c.statement-s.ensures.to).inside, c.requires.few)

pub returns-else-kind_at-ne6 : goal.returns-else-kind_at-ne6
returns-else-kind_at-ne6 c = reading_done (triples c.args.codes.now) (shorts c.args.binds.now) (shorts c.args.saves.now) (shorts c.args.order.now) (triples c.args.heads.now) (words c.args.out.now) c.args.at c.args.k c.requires c.in-To.name c.in-To.count c.in-To.body (subst (OpeningTo (triples c.args.codes.now) c.args.at) c.in-To.is c.before_body-h.ensures) (words c.emit.new.out) (emit_yes c.emit.result c.emit.ensures (c.if-not-emit.false)) (words c.emit-in-To.new.out) (emit_yes c.emit-in-To.result c.emit-in-To.ensures (c.if-not-emit-2.false)) (shorts c.bind.new.binds) (shorts c.bind.new.saves) c.twice-g.result (entered (triples c.args.codes.now) (c.args.at + 2) c.in-To.count (shorts c.args.binds.now) (shorts c.args.saves.now) 0 (shorts c.bind.new.binds) (shorts c.bind.new.saves) c.bind.result c.twice-g.result c.bind.ensures c.twice-g.ensures (λ e. c.if-g-eq0.false e)) (shorts c.statement-s.new.binds) (shorts c.statement-s.new.saves) (shorts c.statement-s.new.order) (words c.statement-s.new.out) c.in-Done.a c.in-Done.o c.in-Done._known c.in-Done.fault (subst (ReadTo a_statement false (triples c.args.codes.now) (shorts c.bind.new.binds) (shorts c.bind.new.saves) (shorts c.args.order.now) (triples c.args.heads.now) (words c.emit-in-To.new.out) c.in-To.body (c.args.k + 2) 0 c.in-To.count 0 (shorts c.statement-s.new.binds) (shorts c.statement-s.new.saves) (shorts c.statement-s.new.order) (words c.statement-s.new.out)) c.in-Done.is c.statement-s.ensures.to) (shorts c.unbind.new.binds) c.lower-low.result (sym c.kind_at.ensures ∙ c.if-kind_at-ne6.false) c.unbind.ensures c.lower-low.ensures

pub returns-in-Three : goal.returns-in-Three
returns-in-Three c = reading_three (triples c.args.codes.now) (shorts c.args.binds.now) (shorts c.args.saves.now) (shorts c.args.order.now) (triples c.args.heads.now) (words c.args.out.now) c.args.at c.args.k c.requires c.in-To.name c.in-To.count c.in-To.body (subst (OpeningTo (triples c.args.codes.now) c.args.at) c.in-To.is c.before_body-h.ensures) (words c.emit.new.out) (emit_yes c.emit.result c.emit.ensures (c.if-not-emit.false)) (words c.emit-in-To.new.out) (emit_yes c.emit-in-To.result c.emit-in-To.ensures (c.if-not-emit-2.false)) (shorts c.bind.new.binds) (shorts c.bind.new.saves) c.twice-g.result (entered (triples c.args.codes.now) (c.args.at + 2) c.in-To.count (shorts c.args.binds.now) (shorts c.args.saves.now) 0 (shorts c.bind.new.binds) (shorts c.bind.new.saves) c.bind.result c.twice-g.result c.bind.ensures c.twice-g.ensures (λ e. c.if-g-eq0.false e)) _ _ _ _ (shorts c.statement-s.new.binds) (shorts c.statement-s.new.saves) (shorts c.statement-s.new.order) (words c.statement-s.new.out) (subst (ReadTo a_statement false (triples c.args.codes.now) (shorts c.bind.new.binds) (shorts c.bind.new.saves) (shorts c.args.order.now) (triples c.args.heads.now) (words c.emit-in-To.new.out) c.in-To.body (c.args.k + 2) 0 c.in-To.count 0 (shorts c.statement-s.new.binds) (shorts c.statement-s.new.saves) (shorts c.statement-s.new.order) (words c.statement-s.new.out)) c.in-Three.is c.statement-s.ensures.to)

pub returns-in-Odd-s : goal.returns-in-Odd-s
returns-in-Odd-s c = reading_body_odd (triples c.args.codes.now) (shorts c.args.binds.now) (shorts c.args.saves.now) (shorts c.args.order.now) (triples c.args.heads.now) (words c.args.out.now) c.args.at c.args.k c.requires c.in-To.name c.in-To.count c.in-To.body (subst (OpeningTo (triples c.args.codes.now) c.args.at) c.in-To.is c.before_body-h.ensures) (words c.emit.new.out) (emit_yes c.emit.result c.emit.ensures (c.if-not-emit.false)) (words c.emit-in-To.new.out) (emit_yes c.emit-in-To.result c.emit-in-To.ensures (c.if-not-emit-2.false)) (shorts c.bind.new.binds) (shorts c.bind.new.saves) c.twice-g.result (entered (triples c.args.codes.now) (c.args.at + 2) c.in-To.count (shorts c.args.binds.now) (shorts c.args.saves.now) 0 (shorts c.bind.new.binds) (shorts c.bind.new.saves) c.bind.result c.twice-g.result c.bind.ensures c.twice-g.ensures (λ e. c.if-g-eq0.false e)) _ _ _ _ (shorts c.statement-s.new.binds) (shorts c.statement-s.new.saves) (shorts c.statement-s.new.order) (words c.statement-s.new.out) (subst (ReadTo a_statement false (triples c.args.codes.now) (shorts c.bind.new.binds) (shorts c.bind.new.saves) (shorts c.args.order.now) (triples c.args.heads.now) (words c.emit-in-To.new.out) c.in-To.body (c.args.k + 2) 0 c.in-To.count 0 (shorts c.statement-s.new.binds) (shorts c.statement-s.new.saves) (shorts c.statement-s.new.order) (words c.statement-s.new.out)) c.in-Odd-s.is c.statement-s.ensures.to)

pub returns-in-Full : goal.returns-in-Full
returns-in-Full c = reading_full (triples c.args.codes.now) (shorts c.args.binds.now) (shorts c.args.saves.now) (shorts c.args.order.now) (triples c.args.heads.now) (words c.args.out.now) c.args.at c.args.k c.requires c.in-To.name c.in-To.count c.in-To.body (subst (OpeningTo (triples c.args.codes.now) c.args.at) c.in-To.is c.before_body-h.ensures) (words c.emit.new.out) (emit_yes c.emit.result c.emit.ensures (c.if-not-emit.false)) (words c.emit-in-To.new.out) (emit_yes c.emit-in-To.result c.emit-in-To.ensures (c.if-not-emit-2.false)) (shorts c.bind.new.binds) (shorts c.bind.new.saves) c.twice-g.result (entered (triples c.args.codes.now) (c.args.at + 2) c.in-To.count (shorts c.args.binds.now) (shorts c.args.saves.now) 0 (shorts c.bind.new.binds) (shorts c.bind.new.saves) c.bind.result c.twice-g.result c.bind.ensures c.twice-g.ensures (λ e. c.if-g-eq0.false e)) _ _ _ _ (shorts c.statement-s.new.binds) (shorts c.statement-s.new.saves) (shorts c.statement-s.new.order) (words c.statement-s.new.out) (subst (ReadTo a_statement false (triples c.args.codes.now) (shorts c.bind.new.binds) (shorts c.bind.new.saves) (shorts c.args.order.now) (triples c.args.heads.now) (words c.emit-in-To.new.out) c.in-To.body (c.args.k + 2) 0 c.in-To.count 0 (shorts c.statement-s.new.binds) (shorts c.statement-s.new.saves) (shorts c.statement-s.new.order) (words c.statement-s.new.out)) c.in-Full.is c.statement-s.ensures.to)

pub returns-in-Many : goal.returns-in-Many
returns-in-Many c = reading_many (triples c.args.codes.now) (shorts c.args.binds.now) (shorts c.args.saves.now) (shorts c.args.order.now) (triples c.args.heads.now) (words c.args.out.now) c.args.at c.args.k c.requires _ _ _ _ (subst (OpeningTo (triples c.args.codes.now) c.args.at) c.in-Many.is c.before_body-h.ensures)

pub returns-in-Odd : goal.returns-in-Odd
returns-in-Odd c = reading_odd (triples c.args.codes.now) (shorts c.args.binds.now) (shorts c.args.saves.now) (shorts c.args.order.now) (triples c.args.heads.now) (words c.args.out.now) c.args.at c.args.k c.requires _ _ _ _ (subst (OpeningTo (triples c.args.codes.now) c.args.at) c.in-Odd.is c.before_body-h.ensures)
