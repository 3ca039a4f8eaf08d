use mathlib.Core.Path.{refl, sym, ◌∙◌, subst}
use mathlib.Core.Bool.{true, false}
use Prim.Native.Nat.{ℕ, ◌+◌}
use native.Mathlib.Omega.{arith}
use Rattle.mem_numbers.specs.Numbers.{shorts, triples, length_triples}
use Rattle.mem_words.specs.Words.{words, length_words}
use Rattle.mem_words.specs.declared.Word.TheVariants.{End, Bad}
use Rattle.read_phrases.specs.Codes.{kind_at, kind_inside}
use Rattle.read_phrases.specs.Phrases.{HiddenTo, SimpleAt}
use Rattle.read_pieces.specs.Slots.{emit_yes, emit_no}
use Rattle.read_pieces.specs.declared.Read.TheVariants.{Three, Odd, Full}
use Rattle.read_pieces.proofs.Statements.{joining_start}
use Rattle.read_pieces.proofs.Others.{adding_start}
use Rattle.read_atoms.specs.Subjects.{can_constraint, can_program}
use Rattle.read_nested.proofs.Wrapped.{st_no_slot, st_can, st_three, st_odd, st_full, st_finished, st_comma, st_ended, st_short, si_can, si_deep, si_three, si_odd, si_full, si_done, si_unclosed, si_none, ot_ended, ot_can, ot_three, ot_odd, ot_full, ot_finished, ot_more}
use Rattle.read_pieces.proofs.Scoping.{hidden_place, can_bind, inner_can, outer_can, outer_back}
use Rattle.read_pieces.proofs.Clauses.{body_can, clause_no_list, clause_no_room, clause_no_saves, clause_guard_odd, clause_guard_full, clause_no_operator, clause_body_odd, clause_body_full, clause_no_end, clause_done}
use Rattle.read_pieces.proofs.Threes.{clause_guard_three, clause_body_three}
use Rattle.read_operators.specs.Binding.{entered, not_entered}
use Rattle.read_nested.proofs.Answers.{answer_to, answer_done, open_yes, open_no, slots_yes, slots_no, operates_yes, operates_no, mixes_at}
use Rattle.read_pieces.specs.Slots.{ChoiceFilled}
use Rattle.read_pieces.proofs.Closed.{bracket_no_list, bracket_no_room, bracket_no_saves, bracket_first_odd, bracket_first_full, bracket_plain, bracket_hiding, bracket_no_end}
use Rattle.read_pieces.proofs.Choosing.{choice_body_odd, choice_body_full, choice_no_end, others_can, choice_others_odd, choice_others_full, choice_no_last_end, choice_done}
use Rattle.read_pieces.proofs.BracketThrees.{bracket_first_three, bracket_body_three, bracket_others_three}
use Rattle.read_nested.proofs.Answers.{answer_op}
use Prim.Native.Nat.{ℕ}
use borrow.Fn.PlainCycle.{is}
use Rattle.read_nested.proofs.clause.Reads as clause
use Rattle.read_nested.proofs.+bracket_clause_others_simple_statement.Goals as goal

pub bracket-returns-then-not-slots : goal.bracket-returns-then-not-slots
bracket-returns-then-not-slots t c = record { to = bracket_no_room c.args.query (triples c.args.codes.now) (shorts c.args.binds.now) (shorts c.args.saves.now) (shorts c.args.order.now) (triples c.args.heads.now) (words c.args.out.now) c.args.at c.args.k c.args.q c.args.level c.args.depth c.requires c.in-To.rest c.in-To.count (subst (HiddenTo (triples c.args.codes.now) c.args.at) c.in-To.is c.hidden_end-p.ensures) (shorts c.args.binds.now) (shorts c.args.saves.now) (shorts c.args.order.now) (words c.args.out.now) (slots_no (words c.args.out.now) c.args.k (words c.slots.new.out) c.slots.result c.slots.ensures (c.if-not-slots.true)) }

pub bracket-bind-requires : goal.bracket-bind-requires
bracket-bind-requires t c = can_bind (triples c.args.codes.now) (shorts c.args.binds.now) (shorts c.args.saves.now) (shorts c.args.order.now) (triples c.args.heads.now) (words c.args.out.now) c.args.at c.args.k c.args.q c.args.level c.requires c.in-To.rest c.in-To.count (subst (HiddenTo (triples c.args.codes.now) c.args.at) c.in-To.is c.hidden_end-p.ensures)

pub bracket-returns-then-g-eq0 : goal.bracket-returns-then-g-eq0
bracket-returns-then-g-eq0 t c = record { to = bracket_no_saves c.args.query (triples c.args.codes.now) (shorts c.args.binds.now) (shorts c.args.saves.now) (shorts c.args.order.now) (triples c.args.heads.now) (words c.args.out.now) c.args.at c.args.k c.args.q c.args.level c.args.depth c.requires c.in-To.rest c.in-To.count (subst (HiddenTo (triples c.args.codes.now) c.args.at) c.in-To.is c.hidden_end-p.ensures) (shorts c.args.binds.now) (shorts c.args.saves.now) (shorts c.args.order.now) (words c.args.out.now) (not_entered (triples c.args.codes.now) c.args.at c.in-To.count (shorts c.args.binds.now) (shorts c.args.saves.now) c.args.level (shorts c.bind.new.binds) (shorts c.bind.new.saves) c.bind.result c.twice-g.result c.bind.ensures c.twice-g.ensures c.if-g-eq0.true) }

pub bracket-overflow_add-k : goal.bracket-overflow_add-k
bracket-overflow_add-k t c = omega (arith, (slots_yes (words c.args.out.now) c.args.k (words c.slots.new.out) c.slots.result c.slots.ensures (c.if-not-slots.false)).room, c.well_formed, length_words c.args.out.now)

pub bracket-overflow_add-level : goal.bracket-overflow_add-level
bracket-overflow_add-level t c = let p = hidden_place (triples c.args.codes.now) (shorts c.args.binds.now) (shorts c.args.saves.now) (shorts c.args.order.now) (triples c.args.heads.now) (words c.args.out.now) c.args.at c.args.k c.args.q c.args.level c.requires c.in-To.rest c.in-To.count (subst (HiddenTo (triples c.args.codes.now) c.args.at) c.in-To.is c.hidden_end-p.ensures) in omega (arith, p.1, p.2, c.requires.few)

pub bracket-statement-s-requires : goal.bracket-statement-s-requires
bracket-statement-s-requires t c = let p = hidden_place (triples c.args.codes.now) (shorts c.args.binds.now) (shorts c.args.saves.now) (shorts c.args.order.now) (triples c.args.heads.now) (words c.args.out.now) c.args.at c.args.k c.args.q c.args.level c.requires c.in-To.rest c.in-To.count (subst (HiddenTo (triples c.args.codes.now) c.args.at) c.in-To.is c.hidden_end-p.ensures) in (omega (arith, c.requires-raw.0, p.3), inner_can (triples c.args.codes.now) (shorts c.args.binds.now) (shorts c.args.saves.now) (shorts c.args.order.now) (triples c.args.heads.now) (words c.args.out.now) c.args.at c.args.k c.args.q c.args.level c.requires c.in-To.rest c.in-To.count (subst (HiddenTo (triples c.args.codes.now) c.args.at) c.in-To.is c.hidden_end-p.ensures) (shorts c.bind.new.binds) (shorts c.bind.new.saves) (entered (triples c.args.codes.now) c.args.at c.in-To.count (shorts c.args.binds.now) (shorts c.args.saves.now) c.args.level (shorts c.bind.new.binds) (shorts c.bind.new.saves) c.bind.result c.twice-g.result c.bind.ensures c.twice-g.ensures c.if-g-eq0.false).twice (entered (triples c.args.codes.now) c.args.at c.in-To.count (shorts c.args.binds.now) (shorts c.args.saves.now) c.args.level (shorts c.bind.new.binds) (shorts c.bind.new.saves) c.bind.result c.twice-g.result c.bind.ensures c.twice-g.ensures c.if-g-eq0.false).binds (words c.slots.new.out) (c.args.k + 3) (omega (arith, (slots_yes (words c.args.out.now) c.args.k (words c.slots.new.out) c.slots.result c.slots.ensures (c.if-not-slots.false)).room, (slots_yes (words c.args.out.now) c.args.k (words c.slots.new.out) c.slots.result c.slots.ensures (c.if-not-slots.false)).outside.long)))

pub bracket-unbind-requires : goal.bracket-unbind-requires
bracket-unbind-requires t c = outer_can (triples c.args.codes.now) (shorts c.args.binds.now) (shorts c.args.saves.now) (shorts c.args.order.now) (triples c.args.heads.now) (words c.args.out.now) c.args.at c.args.k c.args.q c.args.level c.requires c.in-To.rest c.in-To.count (subst (HiddenTo (triples c.args.codes.now) c.args.at) c.in-To.is c.hidden_end-p.ensures) (shorts c.bind.new.binds) (shorts c.bind.new.saves) (entered (triples c.args.codes.now) c.args.at c.in-To.count (shorts c.args.binds.now) (shorts c.args.saves.now) c.args.level (shorts c.bind.new.binds) (shorts c.bind.new.saves) c.bind.result c.twice-g.result c.bind.ensures c.twice-g.ensures c.if-g-eq0.false).twice (entered (triples c.args.codes.now) c.args.at c.in-To.count (shorts c.args.binds.now) (shorts c.args.saves.now) c.args.level (shorts c.bind.new.binds) (shorts c.bind.new.saves) c.bind.result c.twice-g.result c.bind.ensures c.twice-g.ensures c.if-g-eq0.false).binds (shorts c.statement-s.new.binds) (shorts c.statement-s.new.saves) (answer_done c.in-Done.a c.in-Done.o c.in-Done.known c.in-Done.fault c.statement-s.ensures c.in-Done.is).cells (answer_done c.in-Done.a c.in-Done.o c.in-Done.known c.in-Done.fault c.statement-s.ensures c.in-Done.is).long_s

pub bracket-returns-then-count-eq0 : goal.bracket-returns-then-count-eq0
bracket-returns-then-count-eq0 t c = record { to = bracket_plain c.args.query (triples c.args.codes.now) (shorts c.args.binds.now) (shorts c.args.saves.now) (shorts c.args.order.now) (triples c.args.heads.now) (words c.args.out.now) c.args.at c.args.k c.args.q c.args.level c.args.depth c.requires c.in-To.rest c.in-To.count (subst (HiddenTo (triples c.args.codes.now) c.args.at) c.in-To.is c.hidden_end-p.ensures) (words c.slots.new.out) (slots_yes (words c.args.out.now) c.args.k (words c.slots.new.out) c.slots.result c.slots.ensures (c.if-not-slots.false)) (shorts c.bind.new.binds) (shorts c.bind.new.saves) (entered (triples c.args.codes.now) c.args.at c.in-To.count (shorts c.args.binds.now) (shorts c.args.saves.now) c.args.level (shorts c.bind.new.binds) (shorts c.bind.new.saves) c.bind.result c.twice-g.result c.bind.ensures c.twice-g.ensures c.if-g-eq0.false).twice (entered (triples c.args.codes.now) c.args.at c.in-To.count (shorts c.args.binds.now) (shorts c.args.saves.now) c.args.level (shorts c.bind.new.binds) (shorts c.bind.new.saves) c.bind.result c.twice-g.result c.bind.ensures c.twice-g.ensures c.if-g-eq0.false).binds (shorts c.statement-s.new.binds) (shorts c.statement-s.new.saves) (shorts c.statement-s.new.order) (words c.statement-s.new.out) c.in-Done.a c.in-Done.o c.in-Done.known c.in-Done.fault (answer_done c.in-Done.a c.in-Done.o c.in-Done.known c.in-Done.fault c.statement-s.ensures c.in-Done.is) (shorts c.unbind.new.binds) (operates_no c.kind_at-op.result (kind_at (triples c.args.codes.now) c.in-Done.a) c.operates.result c.kind_at-op.ensures c.operates.ensures (c.if-not-operates.true)) c.if-count-eq0.true c.unbind.ensures }

pub bracket-fill_hide-requires : goal.bracket-fill_hide-requires
bracket-fill_hide-requires t c = let p = hidden_place (triples c.args.codes.now) (shorts c.args.binds.now) (shorts c.args.saves.now) (shorts c.args.order.now) (triples c.args.heads.now) (words c.args.out.now) c.args.at c.args.k c.args.q c.args.level c.requires c.in-To.rest c.in-To.count (subst (HiddenTo (triples c.args.codes.now) c.args.at) c.in-To.is c.hidden_end-p.ensures) in (omega (arith, (slots_yes (words c.args.out.now) c.args.k (words c.slots.new.out) c.slots.result c.slots.ensures (c.if-not-slots.false)).room, (slots_yes (words c.args.out.now) c.args.k (words c.slots.new.out) c.slots.result c.slots.ensures (c.if-not-slots.false)).outside.long, (answer_done c.in-Done.a c.in-Done.o c.in-Done.known c.in-Done.fault c.statement-s.ensures c.in-Done.is).long_o), omega (arith, p.0, p.1, c.requires.few))

pub bracket-returns-then-not-emit : goal.bracket-returns-then-not-emit
bracket-returns-then-not-emit t c = record { to = bracket_no_end c.args.query (triples c.args.codes.now) (shorts c.args.binds.now) (shorts c.args.saves.now) (shorts c.args.order.now) (triples c.args.heads.now) (words c.args.out.now) c.args.at c.args.k c.args.q c.args.level c.args.depth c.requires c.in-To.rest c.in-To.count (subst (HiddenTo (triples c.args.codes.now) c.args.at) c.in-To.is c.hidden_end-p.ensures) (words c.slots.new.out) (slots_yes (words c.args.out.now) c.args.k (words c.slots.new.out) c.slots.result c.slots.ensures (c.if-not-slots.false)) (shorts c.bind.new.binds) (shorts c.bind.new.saves) (entered (triples c.args.codes.now) c.args.at c.in-To.count (shorts c.args.binds.now) (shorts c.args.saves.now) c.args.level (shorts c.bind.new.binds) (shorts c.bind.new.saves) c.bind.result c.twice-g.result c.bind.ensures c.twice-g.ensures c.if-g-eq0.false).twice (entered (triples c.args.codes.now) c.args.at c.in-To.count (shorts c.args.binds.now) (shorts c.args.saves.now) c.args.level (shorts c.bind.new.binds) (shorts c.bind.new.saves) c.bind.result c.twice-g.result c.bind.ensures c.twice-g.ensures c.if-g-eq0.false).binds (shorts c.statement-s.new.binds) (shorts c.statement-s.new.saves) (shorts c.statement-s.new.order) (words c.statement-s.new.out) c.in-Done.a c.in-Done.o c.in-Done.known c.in-Done.fault (answer_done c.in-Done.a c.in-Done.o c.in-Done.known c.in-Done.fault c.statement-s.ensures c.in-Done.is) (words c.fill_hide.new.out) (words c.emit.new.out) c.fill_hide.ensures (emit_no End c.emit.result c.emit.ensures (c.if-not-emit.true)) }

pub bracket-overflow_add-result : goal.bracket-overflow_add-result
bracket-overflow_add-result t c = omega (arith, (emit_yes {w = End} c.emit.result c.emit.ensures (c.if-not-emit.false)).room, c.fill_hide.ensures.outside.long, (answer_done c.in-Done.a c.in-Done.o c.in-Done.known c.in-Done.fault c.statement-s.ensures c.in-Done.is).long_o, (slots_yes (words c.args.out.now) c.args.k (words c.slots.new.out) c.slots.result c.slots.ensures (c.if-not-slots.false)).outside.long, c.well_formed, length_words c.args.out.now)

pub bracket-returns-then-not-operates : goal.bracket-returns-then-not-operates
bracket-returns-then-not-operates t c = record { to = bracket_hiding c.args.query (triples c.args.codes.now) (shorts c.args.binds.now) (shorts c.args.saves.now) (shorts c.args.order.now) (triples c.args.heads.now) (words c.args.out.now) c.args.at c.args.k c.args.q c.args.level c.args.depth c.requires c.in-To.rest c.in-To.count (subst (HiddenTo (triples c.args.codes.now) c.args.at) c.in-To.is c.hidden_end-p.ensures) (words c.slots.new.out) (slots_yes (words c.args.out.now) c.args.k (words c.slots.new.out) c.slots.result c.slots.ensures (c.if-not-slots.false)) (shorts c.bind.new.binds) (shorts c.bind.new.saves) (entered (triples c.args.codes.now) c.args.at c.in-To.count (shorts c.args.binds.now) (shorts c.args.saves.now) c.args.level (shorts c.bind.new.binds) (shorts c.bind.new.saves) c.bind.result c.twice-g.result c.bind.ensures c.twice-g.ensures c.if-g-eq0.false).twice (entered (triples c.args.codes.now) c.args.at c.in-To.count (shorts c.args.binds.now) (shorts c.args.saves.now) c.args.level (shorts c.bind.new.binds) (shorts c.bind.new.saves) c.bind.result c.twice-g.result c.bind.ensures c.twice-g.ensures c.if-g-eq0.false).binds (shorts c.statement-s.new.binds) (shorts c.statement-s.new.saves) (shorts c.statement-s.new.order) (words c.statement-s.new.out) c.in-Done.a c.in-Done.o c.in-Done.known c.in-Done.fault (answer_done c.in-Done.a c.in-Done.o c.in-Done.known c.in-Done.fault c.statement-s.ensures c.in-Done.is) (words c.fill_hide.new.out) (words c.emit.new.out) (shorts c.unbind.new.binds) c.twice-g.result c.lower-low.result (operates_no c.kind_at-op.result (kind_at (triples c.args.codes.now) c.in-Done.a) c.operates.result c.kind_at-op.ensures c.operates.ensures (c.if-not-operates.true)) (omega (arith, c.if-count-eq0.false)) c.fill_hide.ensures (emit_yes {w = End} c.emit.result c.emit.ensures (c.if-not-emit.false)) c.unbind.ensures (entered (triples c.args.codes.now) c.args.at c.in-To.count (shorts c.args.binds.now) (shorts c.args.saves.now) c.args.level (shorts c.bind.new.binds) (shorts c.bind.new.saves) c.bind.result c.twice-g.result c.bind.ensures c.twice-g.ensures c.if-g-eq0.false).fault c.lower-low.ensures }

pub bracket-overflow_add-a : goal.bracket-overflow_add-a
bracket-overflow_add-a t c = omega (arith, (answer_done c.in-Done.a c.in-Done.o c.in-Done.known c.in-Done.fault c.statement-s.ensures c.in-Done.is).inside, c.requires.few)

pub bracket-overflow_add-level-in-Done : goal.bracket-overflow_add-level-in-Done
bracket-overflow_add-level-in-Done t c = let p = hidden_place (triples c.args.codes.now) (shorts c.args.binds.now) (shorts c.args.saves.now) (shorts c.args.order.now) (triples c.args.heads.now) (words c.args.out.now) c.args.at c.args.k c.args.q c.args.level c.requires c.in-To.rest c.in-To.count (subst (HiddenTo (triples c.args.codes.now) c.args.at) c.in-To.is c.hidden_end-p.ensures) in omega (arith, p.1, p.2, c.requires.few)

pub bracket-statement-t-requires : goal.bracket-statement-t-requires
bracket-statement-t-requires t c = let p = hidden_place (triples c.args.codes.now) (shorts c.args.binds.now) (shorts c.args.saves.now) (shorts c.args.order.now) (triples c.args.heads.now) (words c.args.out.now) c.args.at c.args.k c.args.q c.args.level c.requires c.in-To.rest c.in-To.count (subst (HiddenTo (triples c.args.codes.now) c.args.at) c.in-To.is c.hidden_end-p.ensures) in (let i = kind_inside (triples c.args.codes.now) c.in-Done.a (omega (arith, (operates_yes c.kind_at-op.result (kind_at (triples c.args.codes.now) c.in-Done.a) c.operates.result c.kind_at-op.ensures c.operates.ensures (c.if-not-operates.false)).0, (operates_yes c.kind_at-op.result (kind_at (triples c.args.codes.now) c.in-Done.a) c.operates.result c.kind_at-op.ensures c.operates.ensures (c.if-not-operates.false)).1)) in omega (arith, c.requires-raw.0, p.3, (answer_done c.in-Done.a c.in-Done.o c.in-Done.known c.in-Done.fault c.statement-s.ensures c.in-Done.is).forward), body_can c.args.query (triples c.args.codes.now) (shorts c.args.binds.now) (shorts c.args.saves.now) (shorts c.args.order.now) (triples c.args.heads.now) (words c.args.out.now) c.args.at c.args.k c.args.q c.args.level c.args.depth c.requires c.in-To.rest c.in-To.count (subst (HiddenTo (triples c.args.codes.now) c.args.at) c.in-To.is c.hidden_end-p.ensures) (shorts c.bind.new.binds) (shorts c.bind.new.saves) (entered (triples c.args.codes.now) c.args.at c.in-To.count (shorts c.args.binds.now) (shorts c.args.saves.now) c.args.level (shorts c.bind.new.binds) (shorts c.bind.new.saves) c.bind.result c.twice-g.result c.bind.ensures c.twice-g.ensures c.if-g-eq0.false).twice (entered (triples c.args.codes.now) c.args.at c.in-To.count (shorts c.args.binds.now) (shorts c.args.saves.now) c.args.level (shorts c.bind.new.binds) (shorts c.bind.new.saves) c.bind.result c.twice-g.result c.bind.ensures c.twice-g.ensures c.if-g-eq0.false).binds (words c.slots.new.out) (c.args.k + 3) (shorts c.statement-s.new.binds) (shorts c.statement-s.new.saves) (shorts c.statement-s.new.order) (words c.statement-s.new.out) c.in-Done.a c.in-Done.o c.in-Done.known c.in-Done.fault (answer_done c.in-Done.a c.in-Done.o c.in-Done.known c.in-Done.fault c.statement-s.ensures c.in-Done.is) (operates_yes c.kind_at-op.result (kind_at (triples c.args.codes.now) c.in-Done.a) c.operates.result c.kind_at-op.ensures c.operates.ensures (c.if-not-operates.false)).0 (operates_yes c.kind_at-op.result (kind_at (triples c.args.codes.now) c.in-Done.a) c.operates.result c.kind_at-op.ensures c.operates.ensures (c.if-not-operates.false)).1)

pub bracket-returns-then-not-emit-2 : goal.bracket-returns-then-not-emit-2
bracket-returns-then-not-emit-2 t c = record { to = choice_no_end c.args.query (triples c.args.codes.now) (shorts c.args.binds.now) (shorts c.args.saves.now) (shorts c.args.order.now) (triples c.args.heads.now) (words c.args.out.now) c.args.at c.args.k c.args.q c.args.level c.args.depth c.requires c.in-To.rest c.in-To.count (subst (HiddenTo (triples c.args.codes.now) c.args.at) c.in-To.is c.hidden_end-p.ensures) (words c.slots.new.out) (slots_yes (words c.args.out.now) c.args.k (words c.slots.new.out) c.slots.result c.slots.ensures (c.if-not-slots.false)) (shorts c.bind.new.binds) (shorts c.bind.new.saves) (entered (triples c.args.codes.now) c.args.at c.in-To.count (shorts c.args.binds.now) (shorts c.args.saves.now) c.args.level (shorts c.bind.new.binds) (shorts c.bind.new.saves) c.bind.result c.twice-g.result c.bind.ensures c.twice-g.ensures c.if-g-eq0.false).twice (entered (triples c.args.codes.now) c.args.at c.in-To.count (shorts c.args.binds.now) (shorts c.args.saves.now) c.args.level (shorts c.bind.new.binds) (shorts c.bind.new.saves) c.bind.result c.twice-g.result c.bind.ensures c.twice-g.ensures c.if-g-eq0.false).binds (shorts c.statement-s.new.binds) (shorts c.statement-s.new.saves) (shorts c.statement-s.new.order) (words c.statement-s.new.out) c.in-Done.a c.in-Done.o c.in-Done.known c.in-Done.fault (answer_done c.in-Done.a c.in-Done.o c.in-Done.known c.in-Done.fault c.statement-s.ensures c.in-Done.is) (operates_yes c.kind_at-op.result (kind_at (triples c.args.codes.now) c.in-Done.a) c.operates.result c.kind_at-op.ensures c.operates.ensures (c.if-not-operates.false)).0 (operates_yes c.kind_at-op.result (kind_at (triples c.args.codes.now) c.in-Done.a) c.operates.result c.kind_at-op.ensures c.operates.ensures (c.if-not-operates.false)).1 (shorts c.statement-t.new.binds) (shorts c.statement-t.new.saves) (shorts c.statement-t.new.order) (words c.statement-t.new.out) c.in-Done-t.b c.in-Done-t.u c.in-Done-t.more c.in-Done-t.then (answer_done c.in-Done-t.b c.in-Done-t.u c.in-Done-t.more c.in-Done-t.then c.statement-t.ensures c.in-Done-t.is) (words c.emit-in-Done-t.new.out) (emit_no End c.emit-in-Done-t.result c.emit-in-Done-t.ensures (c.if-not-emit-2.true)) }

pub bracket-unbind-requires-in-Done-t : goal.bracket-unbind-requires-in-Done-t
bracket-unbind-requires-in-Done-t t c = outer_can (triples c.args.codes.now) (shorts c.args.binds.now) (shorts c.args.saves.now) (shorts c.args.order.now) (triples c.args.heads.now) (words c.args.out.now) c.args.at c.args.k c.args.q c.args.level c.requires c.in-To.rest c.in-To.count (subst (HiddenTo (triples c.args.codes.now) c.args.at) c.in-To.is c.hidden_end-p.ensures) (shorts c.bind.new.binds) (shorts c.bind.new.saves) (entered (triples c.args.codes.now) c.args.at c.in-To.count (shorts c.args.binds.now) (shorts c.args.saves.now) c.args.level (shorts c.bind.new.binds) (shorts c.bind.new.saves) c.bind.result c.twice-g.result c.bind.ensures c.twice-g.ensures c.if-g-eq0.false).twice (entered (triples c.args.codes.now) c.args.at c.in-To.count (shorts c.args.binds.now) (shorts c.args.saves.now) c.args.level (shorts c.bind.new.binds) (shorts c.bind.new.saves) c.bind.result c.twice-g.result c.bind.ensures c.twice-g.ensures c.if-g-eq0.false).binds (shorts c.statement-t.new.binds) (shorts c.statement-t.new.saves) ((answer_done c.in-Done-t.b c.in-Done-t.u c.in-Done-t.more c.in-Done-t.then c.statement-t.ensures c.in-Done-t.is).cells ∙ (answer_done c.in-Done.a c.in-Done.o c.in-Done.known c.in-Done.fault c.statement-s.ensures c.in-Done.is).cells) ((answer_done c.in-Done-t.b c.in-Done-t.u c.in-Done-t.more c.in-Done-t.then c.statement-t.ensures c.in-Done-t.is).long_s ∙ (answer_done c.in-Done.a c.in-Done.o c.in-Done.known c.in-Done.fault c.statement-s.ensures c.in-Done.is).long_s)

pub bracket-fill_choice-requires : goal.bracket-fill_choice-requires
bracket-fill_choice-requires t c = let p = hidden_place (triples c.args.codes.now) (shorts c.args.binds.now) (shorts c.args.saves.now) (shorts c.args.order.now) (triples c.args.heads.now) (words c.args.out.now) c.args.at c.args.k c.args.q c.args.level c.requires c.in-To.rest c.in-To.count (subst (HiddenTo (triples c.args.codes.now) c.args.at) c.in-To.is c.hidden_end-p.ensures) in (omega (arith, (slots_yes (words c.args.out.now) c.args.k (words c.slots.new.out) c.slots.result c.slots.ensures (c.if-not-slots.false)).room, (slots_yes (words c.args.out.now) c.args.k (words c.slots.new.out) c.slots.result c.slots.ensures (c.if-not-slots.false)).outside.long, (answer_done c.in-Done.a c.in-Done.o c.in-Done.known c.in-Done.fault c.statement-s.ensures c.in-Done.is).long_o, (answer_done c.in-Done-t.b c.in-Done-t.u c.in-Done-t.more c.in-Done-t.then c.statement-t.ensures c.in-Done-t.is).long_o, (emit_yes {w = End} c.emit-in-Done-t.result c.emit-in-Done-t.ensures (c.if-not-emit-2.false)).stored.long), omega (arith, p.0, p.1, c.requires.few))

pub bracket-overflow_add-u : goal.bracket-overflow_add-u
bracket-overflow_add-u t c = omega (arith, (emit_yes {w = End} c.emit-in-Done-t.result c.emit-in-Done-t.ensures (c.if-not-emit-2.false)).room, (answer_done c.in-Done-t.b c.in-Done-t.u c.in-Done-t.more c.in-Done-t.then c.statement-t.ensures c.in-Done-t.is).long_o, (answer_done c.in-Done.a c.in-Done.o c.in-Done.known c.in-Done.fault c.statement-s.ensures c.in-Done.is).long_o, (slots_yes (words c.args.out.now) c.args.k (words c.slots.new.out) c.slots.result c.slots.ensures (c.if-not-slots.false)).outside.long, c.well_formed, length_words c.args.out.now)

pub bracket-others-r-requires : goal.bracket-others-r-requires
bracket-others-r-requires t c = let p = hidden_place (triples c.args.codes.now) (shorts c.args.binds.now) (shorts c.args.saves.now) (shorts c.args.order.now) (triples c.args.heads.now) (words c.args.out.now) c.args.at c.args.k c.args.q c.args.level c.requires c.in-To.rest c.in-To.count (subst (HiddenTo (triples c.args.codes.now) c.args.at) c.in-To.is c.hidden_end-p.ensures) in (omega (arith, c.requires-raw.0, p.3, (answer_done c.in-Done.a c.in-Done.o c.in-Done.known c.in-Done.fault c.statement-s.ensures c.in-Done.is).forward, (answer_done c.in-Done-t.b c.in-Done-t.u c.in-Done-t.more c.in-Done-t.then c.statement-t.ensures c.in-Done-t.is).forward, (answer_done c.in-Done-t.b c.in-Done-t.u c.in-Done-t.more c.in-Done-t.then c.statement-t.ensures c.in-Done-t.is).inside), record { reads = others_can c.args.query (triples c.args.codes.now) (shorts c.args.binds.now) (shorts c.args.saves.now) (shorts c.args.order.now) (triples c.args.heads.now) (words c.args.out.now) c.args.at c.args.k c.args.q c.args.level c.args.depth c.requires c.in-To.rest c.in-To.count (subst (HiddenTo (triples c.args.codes.now) c.args.at) c.in-To.is c.hidden_end-p.ensures) (words c.slots.new.out) (slots_yes (words c.args.out.now) c.args.k (words c.slots.new.out) c.slots.result c.slots.ensures (c.if-not-slots.false)) (shorts c.bind.new.binds) (shorts c.bind.new.saves) (entered (triples c.args.codes.now) c.args.at c.in-To.count (shorts c.args.binds.now) (shorts c.args.saves.now) c.args.level (shorts c.bind.new.binds) (shorts c.bind.new.saves) c.bind.result c.twice-g.result c.bind.ensures c.twice-g.ensures c.if-g-eq0.false).twice (entered (triples c.args.codes.now) c.args.at c.in-To.count (shorts c.args.binds.now) (shorts c.args.saves.now) c.args.level (shorts c.bind.new.binds) (shorts c.bind.new.saves) c.bind.result c.twice-g.result c.bind.ensures c.twice-g.ensures c.if-g-eq0.false).binds (shorts c.statement-s.new.binds) (shorts c.statement-s.new.saves) (shorts c.statement-s.new.order) (words c.statement-s.new.out) c.in-Done.a c.in-Done.o c.in-Done.known c.in-Done.fault (answer_done c.in-Done.a c.in-Done.o c.in-Done.known c.in-Done.fault c.statement-s.ensures c.in-Done.is) (operates_yes c.kind_at-op.result (kind_at (triples c.args.codes.now) c.in-Done.a) c.operates.result c.kind_at-op.ensures c.operates.ensures (c.if-not-operates.false)).0 (operates_yes c.kind_at-op.result (kind_at (triples c.args.codes.now) c.in-Done.a) c.operates.result c.kind_at-op.ensures c.operates.ensures (c.if-not-operates.false)).1 (shorts c.statement-t.new.binds) (shorts c.statement-t.new.saves) (shorts c.statement-t.new.order) (words c.statement-t.new.out) c.in-Done-t.b c.in-Done-t.u c.in-Done-t.more c.in-Done-t.then (answer_done c.in-Done-t.b c.in-Done-t.u c.in-Done-t.more c.in-Done-t.then c.statement-t.ensures c.in-Done-t.is) (words c.emit-in-Done-t.new.out) (words c.fill_choice.new.out) (emit_yes {w = End} c.emit-in-Done-t.result c.emit-in-Done-t.ensures (c.if-not-emit-2.false)) (subst (λ (m : ℕ). ChoiceFilled (words c.emit-in-Done-t.new.out) c.args.k m c.in-To.count (words c.fill_choice.new.out)) c.kind_at-op.ensures c.fill_choice.ensures) (shorts c.unbind-in-Done-t.new.binds) c.unbind-in-Done-t.ensures c.lower-both.result c.lower-both.ensures; low = omega (arith, (operates_yes c.kind_at-op.result (kind_at (triples c.args.codes.now) c.in-Done.a) c.operates.result c.kind_at-op.ensures c.operates.ensures (c.if-not-operates.false)).0, c.kind_at-op.ensures); high = omega (arith, (operates_yes c.kind_at-op.result (kind_at (triples c.args.codes.now) c.in-Done.a) c.operates.result c.kind_at-op.ensures c.operates.ensures (c.if-not-operates.false)).1, c.kind_at-op.ensures) })

pub bracket-returns-then-not-emit-3 : goal.bracket-returns-then-not-emit-3
bracket-returns-then-not-emit-3 t c = record { to = choice_no_last_end c.args.query (triples c.args.codes.now) (shorts c.args.binds.now) (shorts c.args.saves.now) (shorts c.args.order.now) (triples c.args.heads.now) (words c.args.out.now) c.args.at c.args.k c.args.q c.args.level c.args.depth c.requires c.in-To.rest c.in-To.count (subst (HiddenTo (triples c.args.codes.now) c.args.at) c.in-To.is c.hidden_end-p.ensures) (words c.slots.new.out) (slots_yes (words c.args.out.now) c.args.k (words c.slots.new.out) c.slots.result c.slots.ensures (c.if-not-slots.false)) (shorts c.bind.new.binds) (shorts c.bind.new.saves) (entered (triples c.args.codes.now) c.args.at c.in-To.count (shorts c.args.binds.now) (shorts c.args.saves.now) c.args.level (shorts c.bind.new.binds) (shorts c.bind.new.saves) c.bind.result c.twice-g.result c.bind.ensures c.twice-g.ensures c.if-g-eq0.false).twice (entered (triples c.args.codes.now) c.args.at c.in-To.count (shorts c.args.binds.now) (shorts c.args.saves.now) c.args.level (shorts c.bind.new.binds) (shorts c.bind.new.saves) c.bind.result c.twice-g.result c.bind.ensures c.twice-g.ensures c.if-g-eq0.false).binds (shorts c.statement-s.new.binds) (shorts c.statement-s.new.saves) (shorts c.statement-s.new.order) (words c.statement-s.new.out) c.in-Done.a c.in-Done.o c.in-Done.known c.in-Done.fault (answer_done c.in-Done.a c.in-Done.o c.in-Done.known c.in-Done.fault c.statement-s.ensures c.in-Done.is) (operates_yes c.kind_at-op.result (kind_at (triples c.args.codes.now) c.in-Done.a) c.operates.result c.kind_at-op.ensures c.operates.ensures (c.if-not-operates.false)).0 (operates_yes c.kind_at-op.result (kind_at (triples c.args.codes.now) c.in-Done.a) c.operates.result c.kind_at-op.ensures c.operates.ensures (c.if-not-operates.false)).1 (shorts c.statement-t.new.binds) (shorts c.statement-t.new.saves) (shorts c.statement-t.new.order) (words c.statement-t.new.out) c.in-Done-t.b c.in-Done-t.u c.in-Done-t.more c.in-Done-t.then (answer_done c.in-Done-t.b c.in-Done-t.u c.in-Done-t.more c.in-Done-t.then c.statement-t.ensures c.in-Done-t.is) (words c.emit-in-Done-t.new.out) (words c.fill_choice.new.out) (emit_yes {w = End} c.emit-in-Done-t.result c.emit-in-Done-t.ensures (c.if-not-emit-2.false)) (subst (λ (m : ℕ). ChoiceFilled (words c.emit-in-Done-t.new.out) c.args.k m c.in-To.count (words c.fill_choice.new.out)) c.kind_at-op.ensures c.fill_choice.ensures) (shorts c.unbind-in-Done-t.new.binds) c.unbind-in-Done-t.ensures c.lower-both.result c.lower-both.ensures (shorts c.others-r.new.binds) (shorts c.others-r.new.saves) (shorts c.others-r.new.order) (words c.others-r.new.out) c.in-Done-r.end c.in-Done-r.w c.in-Done-r.all c.in-Done-r.rest_fault (answer_done c.in-Done-r.end c.in-Done-r.w c.in-Done-r.all c.in-Done-r.rest_fault (answer_op c.kind_at-op.result (kind_at (triples c.args.codes.now) c.in-Done.a) c.kind_at-op.ensures c.others-r.ensures) c.in-Done-r.is) (words c.emit-in-Done-r.new.out) (emit_no End c.emit-in-Done-r.result c.emit-in-Done-r.ensures (c.if-not-emit-3.true)) }

pub bracket-overflow_add-result-in-Done-r : goal.bracket-overflow_add-result-in-Done-r
bracket-overflow_add-result-in-Done-r t c = omega (arith, (emit_yes {w = End} c.emit-in-Done-r.result c.emit-in-Done-r.ensures (c.if-not-emit-3.false)).room, (answer_done c.in-Done-r.end c.in-Done-r.w c.in-Done-r.all c.in-Done-r.rest_fault (answer_op c.kind_at-op.result (kind_at (triples c.args.codes.now) c.in-Done.a) c.kind_at-op.ensures c.others-r.ensures) c.in-Done-r.is).long_o, c.fill_choice.ensures.outside.long, (emit_yes {w = End} c.emit-in-Done-t.result c.emit-in-Done-t.ensures (c.if-not-emit-2.false)).stored.long, (answer_done c.in-Done-t.b c.in-Done-t.u c.in-Done-t.more c.in-Done-t.then c.statement-t.ensures c.in-Done-t.is).long_o, (answer_done c.in-Done.a c.in-Done.o c.in-Done.known c.in-Done.fault c.statement-s.ensures c.in-Done.is).long_o, (slots_yes (words c.args.out.now) c.args.k (words c.slots.new.out) c.slots.result c.slots.ensures (c.if-not-slots.false)).outside.long, c.well_formed, length_words c.args.out.now)

pub bracket-returns-else-not-emit-3 : goal.bracket-returns-else-not-emit-3
bracket-returns-else-not-emit-3 t c = record { to = choice_done c.args.query (triples c.args.codes.now) (shorts c.args.binds.now) (shorts c.args.saves.now) (shorts c.args.order.now) (triples c.args.heads.now) (words c.args.out.now) c.args.at c.args.k c.args.q c.args.level c.args.depth c.requires c.in-To.rest c.in-To.count (subst (HiddenTo (triples c.args.codes.now) c.args.at) c.in-To.is c.hidden_end-p.ensures) (words c.slots.new.out) (slots_yes (words c.args.out.now) c.args.k (words c.slots.new.out) c.slots.result c.slots.ensures (c.if-not-slots.false)) (shorts c.bind.new.binds) (shorts c.bind.new.saves) (entered (triples c.args.codes.now) c.args.at c.in-To.count (shorts c.args.binds.now) (shorts c.args.saves.now) c.args.level (shorts c.bind.new.binds) (shorts c.bind.new.saves) c.bind.result c.twice-g.result c.bind.ensures c.twice-g.ensures c.if-g-eq0.false).twice (entered (triples c.args.codes.now) c.args.at c.in-To.count (shorts c.args.binds.now) (shorts c.args.saves.now) c.args.level (shorts c.bind.new.binds) (shorts c.bind.new.saves) c.bind.result c.twice-g.result c.bind.ensures c.twice-g.ensures c.if-g-eq0.false).binds (shorts c.statement-s.new.binds) (shorts c.statement-s.new.saves) (shorts c.statement-s.new.order) (words c.statement-s.new.out) c.in-Done.a c.in-Done.o c.in-Done.known c.in-Done.fault (answer_done c.in-Done.a c.in-Done.o c.in-Done.known c.in-Done.fault c.statement-s.ensures c.in-Done.is) (operates_yes c.kind_at-op.result (kind_at (triples c.args.codes.now) c.in-Done.a) c.operates.result c.kind_at-op.ensures c.operates.ensures (c.if-not-operates.false)).0 (operates_yes c.kind_at-op.result (kind_at (triples c.args.codes.now) c.in-Done.a) c.operates.result c.kind_at-op.ensures c.operates.ensures (c.if-not-operates.false)).1 (shorts c.statement-t.new.binds) (shorts c.statement-t.new.saves) (shorts c.statement-t.new.order) (words c.statement-t.new.out) c.in-Done-t.b c.in-Done-t.u c.in-Done-t.more c.in-Done-t.then (answer_done c.in-Done-t.b c.in-Done-t.u c.in-Done-t.more c.in-Done-t.then c.statement-t.ensures c.in-Done-t.is) (words c.emit-in-Done-t.new.out) (words c.fill_choice.new.out) (emit_yes {w = End} c.emit-in-Done-t.result c.emit-in-Done-t.ensures (c.if-not-emit-2.false)) (subst (λ (m : ℕ). ChoiceFilled (words c.emit-in-Done-t.new.out) c.args.k m c.in-To.count (words c.fill_choice.new.out)) c.kind_at-op.ensures c.fill_choice.ensures) (shorts c.unbind-in-Done-t.new.binds) c.unbind-in-Done-t.ensures c.lower-both.result c.lower-both.ensures (shorts c.others-r.new.binds) (shorts c.others-r.new.saves) (shorts c.others-r.new.order) (words c.others-r.new.out) c.in-Done-r.end c.in-Done-r.w c.in-Done-r.all c.in-Done-r.rest_fault (answer_done c.in-Done-r.end c.in-Done-r.w c.in-Done-r.all c.in-Done-r.rest_fault (answer_op c.kind_at-op.result (kind_at (triples c.args.codes.now) c.in-Done.a) c.kind_at-op.ensures c.others-r.ensures) c.in-Done-r.is) (words c.emit-in-Done-r.new.out) c.twice-g.result c.lower-own.result c.lower-low-in-Done-r.result (emit_yes {w = End} c.emit-in-Done-r.result c.emit-in-Done-r.ensures (c.if-not-emit-3.false)) (entered (triples c.args.codes.now) c.args.at c.in-To.count (shorts c.args.binds.now) (shorts c.args.saves.now) c.args.level (shorts c.bind.new.binds) (shorts c.bind.new.saves) c.bind.result c.twice-g.result c.bind.ensures c.twice-g.ensures c.if-g-eq0.false).fault c.lower-own.ensures c.lower-low-in-Done-r.ensures }

pub bracket-returns-in-Three-r : goal.bracket-returns-in-Three-r
bracket-returns-in-Three-r t c = record { to = bracket_others_three c.args.query (triples c.args.codes.now) (shorts c.args.binds.now) (shorts c.args.saves.now) (shorts c.args.order.now) (triples c.args.heads.now) (words c.args.out.now) c.args.at c.args.k c.args.q c.args.level c.args.depth c.requires c.in-To.rest c.in-To.count (subst (HiddenTo (triples c.args.codes.now) c.args.at) c.in-To.is c.hidden_end-p.ensures) (words c.slots.new.out) (shorts c.bind.new.binds) (shorts c.bind.new.saves) (entered (triples c.args.codes.now) c.args.at c.in-To.count (shorts c.args.binds.now) (shorts c.args.saves.now) c.args.level (shorts c.bind.new.binds) (shorts c.bind.new.saves) c.bind.result c.twice-g.result c.bind.ensures c.twice-g.ensures c.if-g-eq0.false).twice (entered (triples c.args.codes.now) c.args.at c.in-To.count (shorts c.args.binds.now) (shorts c.args.saves.now) c.args.level (shorts c.bind.new.binds) (shorts c.bind.new.saves) c.bind.result c.twice-g.result c.bind.ensures c.twice-g.ensures c.if-g-eq0.false).binds (shorts c.statement-s.new.binds) (shorts c.statement-s.new.saves) (shorts c.statement-s.new.order) (words c.statement-s.new.out) c.in-Done.a c.in-Done.o c.in-Done.known c.in-Done.fault (answer_done c.in-Done.a c.in-Done.o c.in-Done.known c.in-Done.fault c.statement-s.ensures c.in-Done.is) (operates_yes c.kind_at-op.result (kind_at (triples c.args.codes.now) c.in-Done.a) c.operates.result c.kind_at-op.ensures c.operates.ensures (c.if-not-operates.false)).0 (operates_yes c.kind_at-op.result (kind_at (triples c.args.codes.now) c.in-Done.a) c.operates.result c.kind_at-op.ensures c.operates.ensures (c.if-not-operates.false)).1 (shorts c.statement-t.new.binds) (shorts c.statement-t.new.saves) (shorts c.statement-t.new.order) (words c.statement-t.new.out) c.in-Done-t.b c.in-Done-t.u c.in-Done-t.more c.in-Done-t.then (answer_done c.in-Done-t.b c.in-Done-t.u c.in-Done-t.more c.in-Done-t.then c.statement-t.ensures c.in-Done-t.is) (shorts c.unbind-in-Done-t.new.binds) (outer_back (triples c.args.codes.now) (shorts c.args.binds.now) (shorts c.args.saves.now) (shorts c.args.order.now) (triples c.args.heads.now) (words c.args.out.now) c.args.at c.args.k c.args.q c.args.level c.requires c.in-To.rest c.in-To.count (subst (HiddenTo (triples c.args.codes.now) c.args.at) c.in-To.is c.hidden_end-p.ensures) (shorts c.bind.new.binds) (shorts c.bind.new.saves) (entered (triples c.args.codes.now) c.args.at c.in-To.count (shorts c.args.binds.now) (shorts c.args.saves.now) c.args.level (shorts c.bind.new.binds) (shorts c.bind.new.saves) c.bind.result c.twice-g.result c.bind.ensures c.twice-g.ensures c.if-g-eq0.false).twice (entered (triples c.args.codes.now) c.args.at c.in-To.count (shorts c.args.binds.now) (shorts c.args.saves.now) c.args.level (shorts c.bind.new.binds) (shorts c.bind.new.saves) c.bind.result c.twice-g.result c.bind.ensures c.twice-g.ensures c.if-g-eq0.false).binds (shorts c.statement-t.new.binds) (shorts c.statement-t.new.saves) (shorts c.unbind-in-Done-t.new.binds) ((answer_done c.in-Done-t.b c.in-Done-t.u c.in-Done-t.more c.in-Done-t.then c.statement-t.ensures c.in-Done-t.is).cells ∙ (answer_done c.in-Done.a c.in-Done.o c.in-Done.known c.in-Done.fault c.statement-s.ensures c.in-Done.is).cells) (λ i l. (answer_done c.in-Done-t.b c.in-Done-t.u c.in-Done-t.more c.in-Done-t.then c.statement-t.ensures c.in-Done-t.is).saves i l ∙ (answer_done c.in-Done.a c.in-Done.o c.in-Done.known c.in-Done.fault c.statement-s.ensures c.in-Done.is).saves i l) c.unbind-in-Done-t.ensures) (words c.fill_choice.new.out) (shorts c.others-r.new.binds) (shorts c.others-r.new.saves) (shorts c.others-r.new.order) (words c.others-r.new.out) (answer_to Three (answer_op c.kind_at-op.result (kind_at (triples c.args.codes.now) c.in-Done.a) c.kind_at-op.ensures c.others-r.ensures) c.in-Three-r.is) }

pub bracket-returns-in-Odd-r : goal.bracket-returns-in-Odd-r
bracket-returns-in-Odd-r t c = record { to = choice_others_odd c.args.query (triples c.args.codes.now) (shorts c.args.binds.now) (shorts c.args.saves.now) (shorts c.args.order.now) (triples c.args.heads.now) (words c.args.out.now) c.args.at c.args.k c.args.q c.args.level c.args.depth c.requires c.in-To.rest c.in-To.count (subst (HiddenTo (triples c.args.codes.now) c.args.at) c.in-To.is c.hidden_end-p.ensures) (words c.slots.new.out) (slots_yes (words c.args.out.now) c.args.k (words c.slots.new.out) c.slots.result c.slots.ensures (c.if-not-slots.false)) (shorts c.bind.new.binds) (shorts c.bind.new.saves) (entered (triples c.args.codes.now) c.args.at c.in-To.count (shorts c.args.binds.now) (shorts c.args.saves.now) c.args.level (shorts c.bind.new.binds) (shorts c.bind.new.saves) c.bind.result c.twice-g.result c.bind.ensures c.twice-g.ensures c.if-g-eq0.false).twice (entered (triples c.args.codes.now) c.args.at c.in-To.count (shorts c.args.binds.now) (shorts c.args.saves.now) c.args.level (shorts c.bind.new.binds) (shorts c.bind.new.saves) c.bind.result c.twice-g.result c.bind.ensures c.twice-g.ensures c.if-g-eq0.false).binds (shorts c.statement-s.new.binds) (shorts c.statement-s.new.saves) (shorts c.statement-s.new.order) (words c.statement-s.new.out) c.in-Done.a c.in-Done.o c.in-Done.known c.in-Done.fault (answer_done c.in-Done.a c.in-Done.o c.in-Done.known c.in-Done.fault c.statement-s.ensures c.in-Done.is) (operates_yes c.kind_at-op.result (kind_at (triples c.args.codes.now) c.in-Done.a) c.operates.result c.kind_at-op.ensures c.operates.ensures (c.if-not-operates.false)).0 (operates_yes c.kind_at-op.result (kind_at (triples c.args.codes.now) c.in-Done.a) c.operates.result c.kind_at-op.ensures c.operates.ensures (c.if-not-operates.false)).1 (shorts c.statement-t.new.binds) (shorts c.statement-t.new.saves) (shorts c.statement-t.new.order) (words c.statement-t.new.out) c.in-Done-t.b c.in-Done-t.u c.in-Done-t.more c.in-Done-t.then (answer_done c.in-Done-t.b c.in-Done-t.u c.in-Done-t.more c.in-Done-t.then c.statement-t.ensures c.in-Done-t.is) (words c.emit-in-Done-t.new.out) (words c.fill_choice.new.out) (emit_yes {w = End} c.emit-in-Done-t.result c.emit-in-Done-t.ensures (c.if-not-emit-2.false)) (subst (λ (m : ℕ). ChoiceFilled (words c.emit-in-Done-t.new.out) c.args.k m c.in-To.count (words c.fill_choice.new.out)) c.kind_at-op.ensures c.fill_choice.ensures) (shorts c.unbind-in-Done-t.new.binds) c.unbind-in-Done-t.ensures c.lower-both.result c.lower-both.ensures (shorts c.others-r.new.binds) (shorts c.others-r.new.saves) (shorts c.others-r.new.order) (words c.others-r.new.out) (answer_to Odd (answer_op c.kind_at-op.result (kind_at (triples c.args.codes.now) c.in-Done.a) c.kind_at-op.ensures c.others-r.ensures) c.in-Odd-r.is) }

pub bracket-returns-in-Full-r : goal.bracket-returns-in-Full-r
bracket-returns-in-Full-r t c = record { to = choice_others_full c.args.query (triples c.args.codes.now) (shorts c.args.binds.now) (shorts c.args.saves.now) (shorts c.args.order.now) (triples c.args.heads.now) (words c.args.out.now) c.args.at c.args.k c.args.q c.args.level c.args.depth c.requires c.in-To.rest c.in-To.count (subst (HiddenTo (triples c.args.codes.now) c.args.at) c.in-To.is c.hidden_end-p.ensures) (words c.slots.new.out) (slots_yes (words c.args.out.now) c.args.k (words c.slots.new.out) c.slots.result c.slots.ensures (c.if-not-slots.false)) (shorts c.bind.new.binds) (shorts c.bind.new.saves) (entered (triples c.args.codes.now) c.args.at c.in-To.count (shorts c.args.binds.now) (shorts c.args.saves.now) c.args.level (shorts c.bind.new.binds) (shorts c.bind.new.saves) c.bind.result c.twice-g.result c.bind.ensures c.twice-g.ensures c.if-g-eq0.false).twice (entered (triples c.args.codes.now) c.args.at c.in-To.count (shorts c.args.binds.now) (shorts c.args.saves.now) c.args.level (shorts c.bind.new.binds) (shorts c.bind.new.saves) c.bind.result c.twice-g.result c.bind.ensures c.twice-g.ensures c.if-g-eq0.false).binds (shorts c.statement-s.new.binds) (shorts c.statement-s.new.saves) (shorts c.statement-s.new.order) (words c.statement-s.new.out) c.in-Done.a c.in-Done.o c.in-Done.known c.in-Done.fault (answer_done c.in-Done.a c.in-Done.o c.in-Done.known c.in-Done.fault c.statement-s.ensures c.in-Done.is) (operates_yes c.kind_at-op.result (kind_at (triples c.args.codes.now) c.in-Done.a) c.operates.result c.kind_at-op.ensures c.operates.ensures (c.if-not-operates.false)).0 (operates_yes c.kind_at-op.result (kind_at (triples c.args.codes.now) c.in-Done.a) c.operates.result c.kind_at-op.ensures c.operates.ensures (c.if-not-operates.false)).1 (shorts c.statement-t.new.binds) (shorts c.statement-t.new.saves) (shorts c.statement-t.new.order) (words c.statement-t.new.out) c.in-Done-t.b c.in-Done-t.u c.in-Done-t.more c.in-Done-t.then (answer_done c.in-Done-t.b c.in-Done-t.u c.in-Done-t.more c.in-Done-t.then c.statement-t.ensures c.in-Done-t.is) (words c.emit-in-Done-t.new.out) (words c.fill_choice.new.out) (emit_yes {w = End} c.emit-in-Done-t.result c.emit-in-Done-t.ensures (c.if-not-emit-2.false)) (subst (λ (m : ℕ). ChoiceFilled (words c.emit-in-Done-t.new.out) c.args.k m c.in-To.count (words c.fill_choice.new.out)) c.kind_at-op.ensures c.fill_choice.ensures) (shorts c.unbind-in-Done-t.new.binds) c.unbind-in-Done-t.ensures c.lower-both.result c.lower-both.ensures (shorts c.others-r.new.binds) (shorts c.others-r.new.saves) (shorts c.others-r.new.order) (words c.others-r.new.out) (answer_to Full (answer_op c.kind_at-op.result (kind_at (triples c.args.codes.now) c.in-Done.a) c.kind_at-op.ensures c.others-r.ensures) c.in-Full-r.is) }

pub bracket-returns-in-Three-t : goal.bracket-returns-in-Three-t
bracket-returns-in-Three-t t c = record { to = bracket_body_three c.args.query (triples c.args.codes.now) (shorts c.args.binds.now) (shorts c.args.saves.now) (shorts c.args.order.now) (triples c.args.heads.now) (words c.args.out.now) c.args.at c.args.k c.args.q c.args.level c.args.depth c.requires c.in-To.rest c.in-To.count (subst (HiddenTo (triples c.args.codes.now) c.args.at) c.in-To.is c.hidden_end-p.ensures) (words c.slots.new.out) (shorts c.bind.new.binds) (shorts c.bind.new.saves) (entered (triples c.args.codes.now) c.args.at c.in-To.count (shorts c.args.binds.now) (shorts c.args.saves.now) c.args.level (shorts c.bind.new.binds) (shorts c.bind.new.saves) c.bind.result c.twice-g.result c.bind.ensures c.twice-g.ensures c.if-g-eq0.false).twice (entered (triples c.args.codes.now) c.args.at c.in-To.count (shorts c.args.binds.now) (shorts c.args.saves.now) c.args.level (shorts c.bind.new.binds) (shorts c.bind.new.saves) c.bind.result c.twice-g.result c.bind.ensures c.twice-g.ensures c.if-g-eq0.false).binds (shorts c.statement-s.new.binds) (shorts c.statement-s.new.saves) (shorts c.statement-s.new.order) (words c.statement-s.new.out) c.in-Done.a c.in-Done.o c.in-Done.known c.in-Done.fault (answer_done c.in-Done.a c.in-Done.o c.in-Done.known c.in-Done.fault c.statement-s.ensures c.in-Done.is) (operates_yes c.kind_at-op.result (kind_at (triples c.args.codes.now) c.in-Done.a) c.operates.result c.kind_at-op.ensures c.operates.ensures (c.if-not-operates.false)).0 (operates_yes c.kind_at-op.result (kind_at (triples c.args.codes.now) c.in-Done.a) c.operates.result c.kind_at-op.ensures c.operates.ensures (c.if-not-operates.false)).1 (shorts c.statement-t.new.binds) (shorts c.statement-t.new.saves) (shorts c.statement-t.new.order) (words c.statement-t.new.out) (answer_to Three c.statement-t.ensures c.in-Three-t.is) }

pub bracket-returns-in-Odd-t : goal.bracket-returns-in-Odd-t
bracket-returns-in-Odd-t t c = record { to = choice_body_odd c.args.query (triples c.args.codes.now) (shorts c.args.binds.now) (shorts c.args.saves.now) (shorts c.args.order.now) (triples c.args.heads.now) (words c.args.out.now) c.args.at c.args.k c.args.q c.args.level c.args.depth c.requires c.in-To.rest c.in-To.count (subst (HiddenTo (triples c.args.codes.now) c.args.at) c.in-To.is c.hidden_end-p.ensures) (words c.slots.new.out) (slots_yes (words c.args.out.now) c.args.k (words c.slots.new.out) c.slots.result c.slots.ensures (c.if-not-slots.false)) (shorts c.bind.new.binds) (shorts c.bind.new.saves) (entered (triples c.args.codes.now) c.args.at c.in-To.count (shorts c.args.binds.now) (shorts c.args.saves.now) c.args.level (shorts c.bind.new.binds) (shorts c.bind.new.saves) c.bind.result c.twice-g.result c.bind.ensures c.twice-g.ensures c.if-g-eq0.false).twice (entered (triples c.args.codes.now) c.args.at c.in-To.count (shorts c.args.binds.now) (shorts c.args.saves.now) c.args.level (shorts c.bind.new.binds) (shorts c.bind.new.saves) c.bind.result c.twice-g.result c.bind.ensures c.twice-g.ensures c.if-g-eq0.false).binds (shorts c.statement-s.new.binds) (shorts c.statement-s.new.saves) (shorts c.statement-s.new.order) (words c.statement-s.new.out) c.in-Done.a c.in-Done.o c.in-Done.known c.in-Done.fault (answer_done c.in-Done.a c.in-Done.o c.in-Done.known c.in-Done.fault c.statement-s.ensures c.in-Done.is) (operates_yes c.kind_at-op.result (kind_at (triples c.args.codes.now) c.in-Done.a) c.operates.result c.kind_at-op.ensures c.operates.ensures (c.if-not-operates.false)).0 (operates_yes c.kind_at-op.result (kind_at (triples c.args.codes.now) c.in-Done.a) c.operates.result c.kind_at-op.ensures c.operates.ensures (c.if-not-operates.false)).1 (shorts c.statement-t.new.binds) (shorts c.statement-t.new.saves) (shorts c.statement-t.new.order) (words c.statement-t.new.out) (answer_to Odd c.statement-t.ensures c.in-Odd-t.is) }

pub bracket-returns-in-Full-t : goal.bracket-returns-in-Full-t
bracket-returns-in-Full-t t c = record { to = choice_body_full c.args.query (triples c.args.codes.now) (shorts c.args.binds.now) (shorts c.args.saves.now) (shorts c.args.order.now) (triples c.args.heads.now) (words c.args.out.now) c.args.at c.args.k c.args.q c.args.level c.args.depth c.requires c.in-To.rest c.in-To.count (subst (HiddenTo (triples c.args.codes.now) c.args.at) c.in-To.is c.hidden_end-p.ensures) (words c.slots.new.out) (slots_yes (words c.args.out.now) c.args.k (words c.slots.new.out) c.slots.result c.slots.ensures (c.if-not-slots.false)) (shorts c.bind.new.binds) (shorts c.bind.new.saves) (entered (triples c.args.codes.now) c.args.at c.in-To.count (shorts c.args.binds.now) (shorts c.args.saves.now) c.args.level (shorts c.bind.new.binds) (shorts c.bind.new.saves) c.bind.result c.twice-g.result c.bind.ensures c.twice-g.ensures c.if-g-eq0.false).twice (entered (triples c.args.codes.now) c.args.at c.in-To.count (shorts c.args.binds.now) (shorts c.args.saves.now) c.args.level (shorts c.bind.new.binds) (shorts c.bind.new.saves) c.bind.result c.twice-g.result c.bind.ensures c.twice-g.ensures c.if-g-eq0.false).binds (shorts c.statement-s.new.binds) (shorts c.statement-s.new.saves) (shorts c.statement-s.new.order) (words c.statement-s.new.out) c.in-Done.a c.in-Done.o c.in-Done.known c.in-Done.fault (answer_done c.in-Done.a c.in-Done.o c.in-Done.known c.in-Done.fault c.statement-s.ensures c.in-Done.is) (operates_yes c.kind_at-op.result (kind_at (triples c.args.codes.now) c.in-Done.a) c.operates.result c.kind_at-op.ensures c.operates.ensures (c.if-not-operates.false)).0 (operates_yes c.kind_at-op.result (kind_at (triples c.args.codes.now) c.in-Done.a) c.operates.result c.kind_at-op.ensures c.operates.ensures (c.if-not-operates.false)).1 (shorts c.statement-t.new.binds) (shorts c.statement-t.new.saves) (shorts c.statement-t.new.order) (words c.statement-t.new.out) (answer_to Full c.statement-t.ensures c.in-Full-t.is) }

pub bracket-returns-in-Three : goal.bracket-returns-in-Three
bracket-returns-in-Three t c = record { to = bracket_first_three c.args.query (triples c.args.codes.now) (shorts c.args.binds.now) (shorts c.args.saves.now) (shorts c.args.order.now) (triples c.args.heads.now) (words c.args.out.now) c.args.at c.args.k c.args.q c.args.level c.args.depth c.requires c.in-To.rest c.in-To.count (subst (HiddenTo (triples c.args.codes.now) c.args.at) c.in-To.is c.hidden_end-p.ensures) (words c.slots.new.out) (shorts c.bind.new.binds) (shorts c.bind.new.saves) (entered (triples c.args.codes.now) c.args.at c.in-To.count (shorts c.args.binds.now) (shorts c.args.saves.now) c.args.level (shorts c.bind.new.binds) (shorts c.bind.new.saves) c.bind.result c.twice-g.result c.bind.ensures c.twice-g.ensures c.if-g-eq0.false).twice (entered (triples c.args.codes.now) c.args.at c.in-To.count (shorts c.args.binds.now) (shorts c.args.saves.now) c.args.level (shorts c.bind.new.binds) (shorts c.bind.new.saves) c.bind.result c.twice-g.result c.bind.ensures c.twice-g.ensures c.if-g-eq0.false).binds (shorts c.statement-s.new.binds) (shorts c.statement-s.new.saves) (shorts c.statement-s.new.order) (words c.statement-s.new.out) (answer_to Three c.statement-s.ensures c.in-Three.is) }

pub bracket-returns-in-Odd-s : goal.bracket-returns-in-Odd-s
bracket-returns-in-Odd-s t c = record { to = bracket_first_odd c.args.query (triples c.args.codes.now) (shorts c.args.binds.now) (shorts c.args.saves.now) (shorts c.args.order.now) (triples c.args.heads.now) (words c.args.out.now) c.args.at c.args.k c.args.q c.args.level c.args.depth c.requires c.in-To.rest c.in-To.count (subst (HiddenTo (triples c.args.codes.now) c.args.at) c.in-To.is c.hidden_end-p.ensures) (words c.slots.new.out) (slots_yes (words c.args.out.now) c.args.k (words c.slots.new.out) c.slots.result c.slots.ensures (c.if-not-slots.false)) (shorts c.bind.new.binds) (shorts c.bind.new.saves) (entered (triples c.args.codes.now) c.args.at c.in-To.count (shorts c.args.binds.now) (shorts c.args.saves.now) c.args.level (shorts c.bind.new.binds) (shorts c.bind.new.saves) c.bind.result c.twice-g.result c.bind.ensures c.twice-g.ensures c.if-g-eq0.false).twice (entered (triples c.args.codes.now) c.args.at c.in-To.count (shorts c.args.binds.now) (shorts c.args.saves.now) c.args.level (shorts c.bind.new.binds) (shorts c.bind.new.saves) c.bind.result c.twice-g.result c.bind.ensures c.twice-g.ensures c.if-g-eq0.false).binds (shorts c.statement-s.new.binds) (shorts c.statement-s.new.saves) (shorts c.statement-s.new.order) (words c.statement-s.new.out) (answer_to Odd c.statement-s.ensures c.in-Odd-s.is) }

pub bracket-returns-in-Full : goal.bracket-returns-in-Full
bracket-returns-in-Full t c = record { to = bracket_first_full c.args.query (triples c.args.codes.now) (shorts c.args.binds.now) (shorts c.args.saves.now) (shorts c.args.order.now) (triples c.args.heads.now) (words c.args.out.now) c.args.at c.args.k c.args.q c.args.level c.args.depth c.requires c.in-To.rest c.in-To.count (subst (HiddenTo (triples c.args.codes.now) c.args.at) c.in-To.is c.hidden_end-p.ensures) (words c.slots.new.out) (slots_yes (words c.args.out.now) c.args.k (words c.slots.new.out) c.slots.result c.slots.ensures (c.if-not-slots.false)) (shorts c.bind.new.binds) (shorts c.bind.new.saves) (entered (triples c.args.codes.now) c.args.at c.in-To.count (shorts c.args.binds.now) (shorts c.args.saves.now) c.args.level (shorts c.bind.new.binds) (shorts c.bind.new.saves) c.bind.result c.twice-g.result c.bind.ensures c.twice-g.ensures c.if-g-eq0.false).twice (entered (triples c.args.codes.now) c.args.at c.in-To.count (shorts c.args.binds.now) (shorts c.args.saves.now) c.args.level (shorts c.bind.new.binds) (shorts c.bind.new.saves) c.bind.result c.twice-g.result c.bind.ensures c.twice-g.ensures c.if-g-eq0.false).binds (shorts c.statement-s.new.binds) (shorts c.statement-s.new.saves) (shorts c.statement-s.new.order) (words c.statement-s.new.out) (answer_to Full c.statement-s.ensures c.in-Full.is) }

pub bracket-returns-in-Odd : goal.bracket-returns-in-Odd
bracket-returns-in-Odd t c = record { to = bracket_no_list c.args.query (triples c.args.codes.now) (shorts c.args.binds.now) (shorts c.args.saves.now) (shorts c.args.order.now) (triples c.args.heads.now) (words c.args.out.now) c.args.at c.args.k c.args.q c.args.level c.args.depth c.requires (shorts c.args.binds.now) (shorts c.args.saves.now) (shorts c.args.order.now) (words c.args.out.now) (subst (HiddenTo (triples c.args.codes.now) c.args.at) c.in-Odd.is c.hidden_end-p.ensures) }

pub clause-open_clause-requires : goal.clause-open_clause-requires
clause-open_clause-requires t c = let p = hidden_place (triples c.args.codes.now) (shorts c.args.binds.now) (shorts c.args.saves.now) (shorts c.args.order.now) (triples c.args.heads.now) (words c.args.out.now) c.args.at c.args.k c.args.q c.args.level c.requires.reads c.in-To.rest c.in-To.count (subst (HiddenTo (triples c.args.codes.now) c.args.at) c.in-To.is c.hidden_end-p.ensures) in omega (arith, p.0, p.1, c.requires.reads.few)

pub clause-returns-then-not-open_clause : goal.clause-returns-then-not-open_clause
clause-returns-then-not-open_clause t c = record { to = clause_no_room c.args.query (triples c.args.codes.now) (shorts c.args.binds.now) (shorts c.args.saves.now) (shorts c.args.order.now) (triples c.args.heads.now) (words c.args.out.now) c.args.at c.args.k c.args.q c.args.level c.args.depth c.args.kind c.requires.reads c.in-To.rest c.in-To.count (subst (HiddenTo (triples c.args.codes.now) c.args.at) c.in-To.is c.hidden_end-p.ensures) (shorts c.args.binds.now) (shorts c.args.saves.now) (shorts c.args.order.now) (words c.args.out.now) (open_no (words c.args.out.now) c.args.k c.in-To.count (words c.open_clause.new.out) c.open_clause.result c.open_clause.ensures (c.if-not-open_clause.true)) }

pub clause-bind-requires : goal.clause-bind-requires
clause-bind-requires t c = can_bind (triples c.args.codes.now) (shorts c.args.binds.now) (shorts c.args.saves.now) (shorts c.args.order.now) (triples c.args.heads.now) (words c.args.out.now) c.args.at c.args.k c.args.q c.args.level c.requires.reads c.in-To.rest c.in-To.count (subst (HiddenTo (triples c.args.codes.now) c.args.at) c.in-To.is c.hidden_end-p.ensures)

pub clause-returns-then-g-eq0 : goal.clause-returns-then-g-eq0
clause-returns-then-g-eq0 t c = record { to = clause_no_saves c.args.query (triples c.args.codes.now) (shorts c.args.binds.now) (shorts c.args.saves.now) (shorts c.args.order.now) (triples c.args.heads.now) (words c.args.out.now) c.args.at c.args.k c.args.q c.args.level c.args.depth c.args.kind c.requires.reads c.in-To.rest c.in-To.count (subst (HiddenTo (triples c.args.codes.now) c.args.at) c.in-To.is c.hidden_end-p.ensures) (shorts c.args.binds.now) (shorts c.args.saves.now) (shorts c.args.order.now) (words c.args.out.now) (not_entered (triples c.args.codes.now) c.args.at c.in-To.count (shorts c.args.binds.now) (shorts c.args.saves.now) c.args.level (shorts c.bind.new.binds) (shorts c.bind.new.saves) c.bind.result c.twice-g.result c.bind.ensures c.twice-g.ensures c.if-g-eq0.true) }

pub clause-overflow_add-k : goal.clause-overflow_add-k
clause-overflow_add-k t c = omega (arith, (open_yes (words c.args.out.now) c.args.k c.in-To.count (words c.open_clause.new.out) c.open_clause.result c.open_clause.ensures (c.if-not-open_clause.false)).wrote.inside, (open_yes (words c.args.out.now) c.args.k c.in-To.count (words c.open_clause.new.out) c.open_clause.result c.open_clause.ensures (c.if-not-open_clause.false)).wrote.long, c.well_formed, length_words c.args.out.now)

pub clause-overflow_add-level : goal.clause-overflow_add-level
clause-overflow_add-level t c = let p = hidden_place (triples c.args.codes.now) (shorts c.args.binds.now) (shorts c.args.saves.now) (shorts c.args.order.now) (triples c.args.heads.now) (words c.args.out.now) c.args.at c.args.k c.args.q c.args.level c.requires.reads c.in-To.rest c.in-To.count (subst (HiddenTo (triples c.args.codes.now) c.args.at) c.in-To.is c.hidden_end-p.ensures) in omega (arith, p.1, p.2, c.requires.reads.few)

pub clause-statement-s-requires : goal.clause-statement-s-requires
clause-statement-s-requires t c = let p = hidden_place (triples c.args.codes.now) (shorts c.args.binds.now) (shorts c.args.saves.now) (shorts c.args.order.now) (triples c.args.heads.now) (words c.args.out.now) c.args.at c.args.k c.args.q c.args.level c.requires.reads c.in-To.rest c.in-To.count (subst (HiddenTo (triples c.args.codes.now) c.args.at) c.in-To.is c.hidden_end-p.ensures) in (omega (arith, c.requires-raw.0, p.3), inner_can (triples c.args.codes.now) (shorts c.args.binds.now) (shorts c.args.saves.now) (shorts c.args.order.now) (triples c.args.heads.now) (words c.args.out.now) c.args.at c.args.k c.args.q c.args.level c.requires.reads c.in-To.rest c.in-To.count (subst (HiddenTo (triples c.args.codes.now) c.args.at) c.in-To.is c.hidden_end-p.ensures) (shorts c.bind.new.binds) (shorts c.bind.new.saves) (entered (triples c.args.codes.now) c.args.at c.in-To.count (shorts c.args.binds.now) (shorts c.args.saves.now) c.args.level (shorts c.bind.new.binds) (shorts c.bind.new.saves) c.bind.result c.twice-g.result c.bind.ensures c.twice-g.ensures c.if-g-eq0.false).twice (entered (triples c.args.codes.now) c.args.at c.in-To.count (shorts c.args.binds.now) (shorts c.args.saves.now) c.args.level (shorts c.bind.new.binds) (shorts c.bind.new.saves) c.bind.result c.twice-g.result c.bind.ensures c.twice-g.ensures c.if-g-eq0.false).binds (words c.open_clause.new.out) (c.args.k + 2) (open_yes (words c.args.out.now) c.args.k c.in-To.count (words c.open_clause.new.out) c.open_clause.result c.open_clause.ensures (c.if-not-open_clause.false)).wrote.inside)

pub clause-returns-then-not-operates : goal.clause-returns-then-not-operates
clause-returns-then-not-operates t c = record { to = clause_no_operator c.args.query (triples c.args.codes.now) (shorts c.args.binds.now) (shorts c.args.saves.now) (shorts c.args.order.now) (triples c.args.heads.now) (words c.args.out.now) c.args.at c.args.k c.args.q c.args.level c.args.depth c.args.kind c.requires.reads c.in-To.rest c.in-To.count (subst (HiddenTo (triples c.args.codes.now) c.args.at) c.in-To.is c.hidden_end-p.ensures) (words c.open_clause.new.out) (open_yes (words c.args.out.now) c.args.k c.in-To.count (words c.open_clause.new.out) c.open_clause.result c.open_clause.ensures (c.if-not-open_clause.false)).wrote (shorts c.bind.new.binds) (shorts c.bind.new.saves) (entered (triples c.args.codes.now) c.args.at c.in-To.count (shorts c.args.binds.now) (shorts c.args.saves.now) c.args.level (shorts c.bind.new.binds) (shorts c.bind.new.saves) c.bind.result c.twice-g.result c.bind.ensures c.twice-g.ensures c.if-g-eq0.false).twice (entered (triples c.args.codes.now) c.args.at c.in-To.count (shorts c.args.binds.now) (shorts c.args.saves.now) c.args.level (shorts c.bind.new.binds) (shorts c.bind.new.saves) c.bind.result c.twice-g.result c.bind.ensures c.twice-g.ensures c.if-g-eq0.false).binds (shorts c.statement-s.new.binds) (shorts c.statement-s.new.saves) (shorts c.statement-s.new.order) (words c.statement-s.new.out) c.in-Done.a c.in-Done.o c.in-Done.known c.in-Done.fault (answer_done c.in-Done.a c.in-Done.o c.in-Done.known c.in-Done.fault c.statement-s.ensures c.in-Done.is) (operates_no c.kind_at-op.result (kind_at (triples c.args.codes.now) c.in-Done.a) c.operates.result c.kind_at-op.ensures c.operates.ensures (c.if-not-operates.true)) }

pub clause-overflow_add-a : goal.clause-overflow_add-a
clause-overflow_add-a t c = omega (arith, (answer_done c.in-Done.a c.in-Done.o c.in-Done.known c.in-Done.fault c.statement-s.ensures c.in-Done.is).inside, c.requires.reads.few)

pub clause-overflow_add-level-in-Done : goal.clause-overflow_add-level-in-Done
clause-overflow_add-level-in-Done t c = let p = hidden_place (triples c.args.codes.now) (shorts c.args.binds.now) (shorts c.args.saves.now) (shorts c.args.order.now) (triples c.args.heads.now) (words c.args.out.now) c.args.at c.args.k c.args.q c.args.level c.requires.reads c.in-To.rest c.in-To.count (subst (HiddenTo (triples c.args.codes.now) c.args.at) c.in-To.is c.hidden_end-p.ensures) in omega (arith, p.1, p.2, c.requires.reads.few)

pub clause-statement-t-requires : goal.clause-statement-t-requires
clause-statement-t-requires t c = let p = hidden_place (triples c.args.codes.now) (shorts c.args.binds.now) (shorts c.args.saves.now) (shorts c.args.order.now) (triples c.args.heads.now) (words c.args.out.now) c.args.at c.args.k c.args.q c.args.level c.requires.reads c.in-To.rest c.in-To.count (subst (HiddenTo (triples c.args.codes.now) c.args.at) c.in-To.is c.hidden_end-p.ensures) in (let i = kind_inside (triples c.args.codes.now) c.in-Done.a (omega (arith, (operates_yes c.kind_at-op.result (kind_at (triples c.args.codes.now) c.in-Done.a) c.operates.result c.kind_at-op.ensures c.operates.ensures (c.if-not-operates.false)).0, (operates_yes c.kind_at-op.result (kind_at (triples c.args.codes.now) c.in-Done.a) c.operates.result c.kind_at-op.ensures c.operates.ensures (c.if-not-operates.false)).1)) in omega (arith, c.requires-raw.0, p.3, (answer_done c.in-Done.a c.in-Done.o c.in-Done.known c.in-Done.fault c.statement-s.ensures c.in-Done.is).forward), body_can c.args.query (triples c.args.codes.now) (shorts c.args.binds.now) (shorts c.args.saves.now) (shorts c.args.order.now) (triples c.args.heads.now) (words c.args.out.now) c.args.at c.args.k c.args.q c.args.level c.args.depth c.requires.reads c.in-To.rest c.in-To.count (subst (HiddenTo (triples c.args.codes.now) c.args.at) c.in-To.is c.hidden_end-p.ensures) (shorts c.bind.new.binds) (shorts c.bind.new.saves) (entered (triples c.args.codes.now) c.args.at c.in-To.count (shorts c.args.binds.now) (shorts c.args.saves.now) c.args.level (shorts c.bind.new.binds) (shorts c.bind.new.saves) c.bind.result c.twice-g.result c.bind.ensures c.twice-g.ensures c.if-g-eq0.false).twice (entered (triples c.args.codes.now) c.args.at c.in-To.count (shorts c.args.binds.now) (shorts c.args.saves.now) c.args.level (shorts c.bind.new.binds) (shorts c.bind.new.saves) c.bind.result c.twice-g.result c.bind.ensures c.twice-g.ensures c.if-g-eq0.false).binds (words c.open_clause.new.out) (c.args.k + 2) (shorts c.statement-s.new.binds) (shorts c.statement-s.new.saves) (shorts c.statement-s.new.order) (words c.statement-s.new.out) c.in-Done.a c.in-Done.o c.in-Done.known c.in-Done.fault (answer_done c.in-Done.a c.in-Done.o c.in-Done.known c.in-Done.fault c.statement-s.ensures c.in-Done.is) (operates_yes c.kind_at-op.result (kind_at (triples c.args.codes.now) c.in-Done.a) c.operates.result c.kind_at-op.ensures c.operates.ensures (c.if-not-operates.false)).0 (operates_yes c.kind_at-op.result (kind_at (triples c.args.codes.now) c.in-Done.a) c.operates.result c.kind_at-op.ensures c.operates.ensures (c.if-not-operates.false)).1)

pub clause-returns-then-not-emit : goal.clause-returns-then-not-emit
clause-returns-then-not-emit t c = record { to = clause_no_end c.args.query (triples c.args.codes.now) (shorts c.args.binds.now) (shorts c.args.saves.now) (shorts c.args.order.now) (triples c.args.heads.now) (words c.args.out.now) c.args.at c.args.k c.args.q c.args.level c.args.depth c.args.kind c.requires.reads c.in-To.rest c.in-To.count (subst (HiddenTo (triples c.args.codes.now) c.args.at) c.in-To.is c.hidden_end-p.ensures) (words c.open_clause.new.out) (open_yes (words c.args.out.now) c.args.k c.in-To.count (words c.open_clause.new.out) c.open_clause.result c.open_clause.ensures (c.if-not-open_clause.false)).wrote (shorts c.bind.new.binds) (shorts c.bind.new.saves) (entered (triples c.args.codes.now) c.args.at c.in-To.count (shorts c.args.binds.now) (shorts c.args.saves.now) c.args.level (shorts c.bind.new.binds) (shorts c.bind.new.saves) c.bind.result c.twice-g.result c.bind.ensures c.twice-g.ensures c.if-g-eq0.false).twice (entered (triples c.args.codes.now) c.args.at c.in-To.count (shorts c.args.binds.now) (shorts c.args.saves.now) c.args.level (shorts c.bind.new.binds) (shorts c.bind.new.saves) c.bind.result c.twice-g.result c.bind.ensures c.twice-g.ensures c.if-g-eq0.false).binds (shorts c.statement-s.new.binds) (shorts c.statement-s.new.saves) (shorts c.statement-s.new.order) (words c.statement-s.new.out) c.in-Done.a c.in-Done.o c.in-Done.known c.in-Done.fault (answer_done c.in-Done.a c.in-Done.o c.in-Done.known c.in-Done.fault c.statement-s.ensures c.in-Done.is) (operates_yes c.kind_at-op.result (kind_at (triples c.args.codes.now) c.in-Done.a) c.operates.result c.kind_at-op.ensures c.operates.ensures (c.if-not-operates.false)).0 (operates_yes c.kind_at-op.result (kind_at (triples c.args.codes.now) c.in-Done.a) c.operates.result c.kind_at-op.ensures c.operates.ensures (c.if-not-operates.false)).1 (shorts c.statement-t.new.binds) (shorts c.statement-t.new.saves) (shorts c.statement-t.new.order) (words c.statement-t.new.out) c.in-Done-t.b c.in-Done-t.u c.in-Done-t.more c.in-Done-t.then (answer_done c.in-Done-t.b c.in-Done-t.u c.in-Done-t.more c.in-Done-t.then c.statement-t.ensures c.in-Done-t.is) (words c.emit.new.out) (emit_no End c.emit.result c.emit.ensures (c.if-not-emit.true)) }

pub clause-unbind-requires : goal.clause-unbind-requires
clause-unbind-requires t c = outer_can (triples c.args.codes.now) (shorts c.args.binds.now) (shorts c.args.saves.now) (shorts c.args.order.now) (triples c.args.heads.now) (words c.args.out.now) c.args.at c.args.k c.args.q c.args.level c.requires.reads c.in-To.rest c.in-To.count (subst (HiddenTo (triples c.args.codes.now) c.args.at) c.in-To.is c.hidden_end-p.ensures) (shorts c.bind.new.binds) (shorts c.bind.new.saves) (entered (triples c.args.codes.now) c.args.at c.in-To.count (shorts c.args.binds.now) (shorts c.args.saves.now) c.args.level (shorts c.bind.new.binds) (shorts c.bind.new.saves) c.bind.result c.twice-g.result c.bind.ensures c.twice-g.ensures c.if-g-eq0.false).twice (entered (triples c.args.codes.now) c.args.at c.in-To.count (shorts c.args.binds.now) (shorts c.args.saves.now) c.args.level (shorts c.bind.new.binds) (shorts c.bind.new.saves) c.bind.result c.twice-g.result c.bind.ensures c.twice-g.ensures c.if-g-eq0.false).binds (shorts c.statement-t.new.binds) (shorts c.statement-t.new.saves) ((answer_done c.in-Done-t.b c.in-Done-t.u c.in-Done-t.more c.in-Done-t.then c.statement-t.ensures c.in-Done-t.is).cells ∙ (answer_done c.in-Done.a c.in-Done.o c.in-Done.known c.in-Done.fault c.statement-s.ensures c.in-Done.is).cells) ((answer_done c.in-Done-t.b c.in-Done-t.u c.in-Done-t.more c.in-Done-t.then c.statement-t.ensures c.in-Done-t.is).long_s ∙ (answer_done c.in-Done.a c.in-Done.o c.in-Done.known c.in-Done.fault c.statement-s.ensures c.in-Done.is).long_s)

pub clause-overflow_add-result : goal.clause-overflow_add-result
clause-overflow_add-result t c = omega (arith, (emit_yes {w = End} c.emit.result c.emit.ensures (c.if-not-emit.false)).room, (answer_done c.in-Done-t.b c.in-Done-t.u c.in-Done-t.more c.in-Done-t.then c.statement-t.ensures c.in-Done-t.is).long_o, (answer_done c.in-Done.a c.in-Done.o c.in-Done.known c.in-Done.fault c.statement-s.ensures c.in-Done.is).long_o, (open_yes (words c.args.out.now) c.args.k c.in-To.count (words c.open_clause.new.out) c.open_clause.result c.open_clause.ensures (c.if-not-open_clause.false)).wrote.long, c.well_formed, length_words c.args.out.now)

pub clause-returns-else-not-emit : goal.clause-returns-else-not-emit
clause-returns-else-not-emit t c = record { to = clause_done c.args.query (triples c.args.codes.now) (shorts c.args.binds.now) (shorts c.args.saves.now) (shorts c.args.order.now) (triples c.args.heads.now) (words c.args.out.now) c.args.at c.args.k c.args.q c.args.level c.args.depth c.args.kind c.requires.reads c.in-To.rest c.in-To.count (subst (HiddenTo (triples c.args.codes.now) c.args.at) c.in-To.is c.hidden_end-p.ensures) (words c.open_clause.new.out) (open_yes (words c.args.out.now) c.args.k c.in-To.count (words c.open_clause.new.out) c.open_clause.result c.open_clause.ensures (c.if-not-open_clause.false)).wrote (shorts c.bind.new.binds) (shorts c.bind.new.saves) (entered (triples c.args.codes.now) c.args.at c.in-To.count (shorts c.args.binds.now) (shorts c.args.saves.now) c.args.level (shorts c.bind.new.binds) (shorts c.bind.new.saves) c.bind.result c.twice-g.result c.bind.ensures c.twice-g.ensures c.if-g-eq0.false).twice (entered (triples c.args.codes.now) c.args.at c.in-To.count (shorts c.args.binds.now) (shorts c.args.saves.now) c.args.level (shorts c.bind.new.binds) (shorts c.bind.new.saves) c.bind.result c.twice-g.result c.bind.ensures c.twice-g.ensures c.if-g-eq0.false).binds (shorts c.statement-s.new.binds) (shorts c.statement-s.new.saves) (shorts c.statement-s.new.order) (words c.statement-s.new.out) c.in-Done.a c.in-Done.o c.in-Done.known c.in-Done.fault (answer_done c.in-Done.a c.in-Done.o c.in-Done.known c.in-Done.fault c.statement-s.ensures c.in-Done.is) (operates_yes c.kind_at-op.result (kind_at (triples c.args.codes.now) c.in-Done.a) c.operates.result c.kind_at-op.ensures c.operates.ensures (c.if-not-operates.false)).0 (operates_yes c.kind_at-op.result (kind_at (triples c.args.codes.now) c.in-Done.a) c.operates.result c.kind_at-op.ensures c.operates.ensures (c.if-not-operates.false)).1 (shorts c.statement-t.new.binds) (shorts c.statement-t.new.saves) (shorts c.statement-t.new.order) (words c.statement-t.new.out) c.in-Done-t.b c.in-Done-t.u c.in-Done-t.more c.in-Done-t.then (answer_done c.in-Done-t.b c.in-Done-t.u c.in-Done-t.more c.in-Done-t.then c.statement-t.ensures c.in-Done-t.is) (words c.emit.new.out) (shorts c.unbind.new.binds) c.twice-g.result c.mixes-m.result c.lower-both.result c.lower-own.result c.lower-low.result (emit_yes {w = End} c.emit.result c.emit.ensures (c.if-not-emit.false)) c.unbind.ensures c.lower-both.ensures (entered (triples c.args.codes.now) c.args.at c.in-To.count (shorts c.args.binds.now) (shorts c.args.saves.now) c.args.level (shorts c.bind.new.binds) (shorts c.bind.new.saves) c.bind.result c.twice-g.result c.bind.ensures c.twice-g.ensures c.if-g-eq0.false).fault c.lower-own.ensures (mixes_at c.kind_at-op.result (kind_at (triples c.args.codes.now) c.in-Done.a) c.args.kind c.mixes-m.result c.kind_at-op.ensures c.mixes-m.ensures) c.lower-low.ensures c.requires.low c.requires.high }

pub clause-returns-in-Three-t : goal.clause-returns-in-Three-t
clause-returns-in-Three-t t c = record { to = clause_body_three c.args.query (triples c.args.codes.now) (shorts c.args.binds.now) (shorts c.args.saves.now) (shorts c.args.order.now) (triples c.args.heads.now) (words c.args.out.now) c.args.at c.args.k c.args.q c.args.level c.args.depth c.args.kind c.requires.reads c.in-To.rest c.in-To.count (subst (HiddenTo (triples c.args.codes.now) c.args.at) c.in-To.is c.hidden_end-p.ensures) (shorts c.bind.new.binds) (shorts c.bind.new.saves) (entered (triples c.args.codes.now) c.args.at c.in-To.count (shorts c.args.binds.now) (shorts c.args.saves.now) c.args.level (shorts c.bind.new.binds) (shorts c.bind.new.saves) c.bind.result c.twice-g.result c.bind.ensures c.twice-g.ensures c.if-g-eq0.false).twice (entered (triples c.args.codes.now) c.args.at c.in-To.count (shorts c.args.binds.now) (shorts c.args.saves.now) c.args.level (shorts c.bind.new.binds) (shorts c.bind.new.saves) c.bind.result c.twice-g.result c.bind.ensures c.twice-g.ensures c.if-g-eq0.false).binds (words c.open_clause.new.out) (shorts c.statement-s.new.binds) (shorts c.statement-s.new.saves) (shorts c.statement-s.new.order) (words c.statement-s.new.out) c.in-Done.a c.in-Done.o c.in-Done.known c.in-Done.fault (answer_done c.in-Done.a c.in-Done.o c.in-Done.known c.in-Done.fault c.statement-s.ensures c.in-Done.is) (operates_yes c.kind_at-op.result (kind_at (triples c.args.codes.now) c.in-Done.a) c.operates.result c.kind_at-op.ensures c.operates.ensures (c.if-not-operates.false)).0 (operates_yes c.kind_at-op.result (kind_at (triples c.args.codes.now) c.in-Done.a) c.operates.result c.kind_at-op.ensures c.operates.ensures (c.if-not-operates.false)).1 (shorts c.statement-t.new.binds) (shorts c.statement-t.new.saves) (shorts c.statement-t.new.order) (words c.statement-t.new.out) (answer_to Three c.statement-t.ensures c.in-Three-t.is) }

pub clause-returns-in-Odd-t : goal.clause-returns-in-Odd-t
clause-returns-in-Odd-t t c = record { to = clause_body_odd c.args.query (triples c.args.codes.now) (shorts c.args.binds.now) (shorts c.args.saves.now) (shorts c.args.order.now) (triples c.args.heads.now) (words c.args.out.now) c.args.at c.args.k c.args.q c.args.level c.args.depth c.args.kind c.requires.reads c.in-To.rest c.in-To.count (subst (HiddenTo (triples c.args.codes.now) c.args.at) c.in-To.is c.hidden_end-p.ensures) (words c.open_clause.new.out) (open_yes (words c.args.out.now) c.args.k c.in-To.count (words c.open_clause.new.out) c.open_clause.result c.open_clause.ensures (c.if-not-open_clause.false)).wrote (shorts c.bind.new.binds) (shorts c.bind.new.saves) (entered (triples c.args.codes.now) c.args.at c.in-To.count (shorts c.args.binds.now) (shorts c.args.saves.now) c.args.level (shorts c.bind.new.binds) (shorts c.bind.new.saves) c.bind.result c.twice-g.result c.bind.ensures c.twice-g.ensures c.if-g-eq0.false).twice (entered (triples c.args.codes.now) c.args.at c.in-To.count (shorts c.args.binds.now) (shorts c.args.saves.now) c.args.level (shorts c.bind.new.binds) (shorts c.bind.new.saves) c.bind.result c.twice-g.result c.bind.ensures c.twice-g.ensures c.if-g-eq0.false).binds (shorts c.statement-s.new.binds) (shorts c.statement-s.new.saves) (shorts c.statement-s.new.order) (words c.statement-s.new.out) c.in-Done.a c.in-Done.o c.in-Done.known c.in-Done.fault (answer_done c.in-Done.a c.in-Done.o c.in-Done.known c.in-Done.fault c.statement-s.ensures c.in-Done.is) (operates_yes c.kind_at-op.result (kind_at (triples c.args.codes.now) c.in-Done.a) c.operates.result c.kind_at-op.ensures c.operates.ensures (c.if-not-operates.false)).0 (operates_yes c.kind_at-op.result (kind_at (triples c.args.codes.now) c.in-Done.a) c.operates.result c.kind_at-op.ensures c.operates.ensures (c.if-not-operates.false)).1 (shorts c.statement-t.new.binds) (shorts c.statement-t.new.saves) (shorts c.statement-t.new.order) (words c.statement-t.new.out) (answer_to Odd c.statement-t.ensures c.in-Odd-t.is) }

pub clause-returns-in-Full-t : goal.clause-returns-in-Full-t
clause-returns-in-Full-t t c = record { to = clause_body_full c.args.query (triples c.args.codes.now) (shorts c.args.binds.now) (shorts c.args.saves.now) (shorts c.args.order.now) (triples c.args.heads.now) (words c.args.out.now) c.args.at c.args.k c.args.q c.args.level c.args.depth c.args.kind c.requires.reads c.in-To.rest c.in-To.count (subst (HiddenTo (triples c.args.codes.now) c.args.at) c.in-To.is c.hidden_end-p.ensures) (words c.open_clause.new.out) (open_yes (words c.args.out.now) c.args.k c.in-To.count (words c.open_clause.new.out) c.open_clause.result c.open_clause.ensures (c.if-not-open_clause.false)).wrote (shorts c.bind.new.binds) (shorts c.bind.new.saves) (entered (triples c.args.codes.now) c.args.at c.in-To.count (shorts c.args.binds.now) (shorts c.args.saves.now) c.args.level (shorts c.bind.new.binds) (shorts c.bind.new.saves) c.bind.result c.twice-g.result c.bind.ensures c.twice-g.ensures c.if-g-eq0.false).twice (entered (triples c.args.codes.now) c.args.at c.in-To.count (shorts c.args.binds.now) (shorts c.args.saves.now) c.args.level (shorts c.bind.new.binds) (shorts c.bind.new.saves) c.bind.result c.twice-g.result c.bind.ensures c.twice-g.ensures c.if-g-eq0.false).binds (shorts c.statement-s.new.binds) (shorts c.statement-s.new.saves) (shorts c.statement-s.new.order) (words c.statement-s.new.out) c.in-Done.a c.in-Done.o c.in-Done.known c.in-Done.fault (answer_done c.in-Done.a c.in-Done.o c.in-Done.known c.in-Done.fault c.statement-s.ensures c.in-Done.is) (operates_yes c.kind_at-op.result (kind_at (triples c.args.codes.now) c.in-Done.a) c.operates.result c.kind_at-op.ensures c.operates.ensures (c.if-not-operates.false)).0 (operates_yes c.kind_at-op.result (kind_at (triples c.args.codes.now) c.in-Done.a) c.operates.result c.kind_at-op.ensures c.operates.ensures (c.if-not-operates.false)).1 (shorts c.statement-t.new.binds) (shorts c.statement-t.new.saves) (shorts c.statement-t.new.order) (words c.statement-t.new.out) (answer_to Full c.statement-t.ensures c.in-Full-t.is) }

pub clause-returns-in-Three : goal.clause-returns-in-Three
clause-returns-in-Three t c = record { to = clause_guard_three c.args.query (triples c.args.codes.now) (shorts c.args.binds.now) (shorts c.args.saves.now) (shorts c.args.order.now) (triples c.args.heads.now) (words c.args.out.now) c.args.at c.args.k c.args.q c.args.level c.args.depth c.args.kind c.requires.reads c.in-To.rest c.in-To.count (subst (HiddenTo (triples c.args.codes.now) c.args.at) c.in-To.is c.hidden_end-p.ensures) (shorts c.bind.new.binds) (shorts c.bind.new.saves) (entered (triples c.args.codes.now) c.args.at c.in-To.count (shorts c.args.binds.now) (shorts c.args.saves.now) c.args.level (shorts c.bind.new.binds) (shorts c.bind.new.saves) c.bind.result c.twice-g.result c.bind.ensures c.twice-g.ensures c.if-g-eq0.false).twice (entered (triples c.args.codes.now) c.args.at c.in-To.count (shorts c.args.binds.now) (shorts c.args.saves.now) c.args.level (shorts c.bind.new.binds) (shorts c.bind.new.saves) c.bind.result c.twice-g.result c.bind.ensures c.twice-g.ensures c.if-g-eq0.false).binds (words c.open_clause.new.out) (shorts c.statement-s.new.binds) (shorts c.statement-s.new.saves) (shorts c.statement-s.new.order) (words c.statement-s.new.out) (answer_to Three c.statement-s.ensures c.in-Three.is) }

pub clause-returns-in-Odd-s : goal.clause-returns-in-Odd-s
clause-returns-in-Odd-s t c = record { to = clause_guard_odd c.args.query (triples c.args.codes.now) (shorts c.args.binds.now) (shorts c.args.saves.now) (shorts c.args.order.now) (triples c.args.heads.now) (words c.args.out.now) c.args.at c.args.k c.args.q c.args.level c.args.depth c.args.kind c.requires.reads c.in-To.rest c.in-To.count (subst (HiddenTo (triples c.args.codes.now) c.args.at) c.in-To.is c.hidden_end-p.ensures) (words c.open_clause.new.out) (open_yes (words c.args.out.now) c.args.k c.in-To.count (words c.open_clause.new.out) c.open_clause.result c.open_clause.ensures (c.if-not-open_clause.false)).wrote (shorts c.bind.new.binds) (shorts c.bind.new.saves) (entered (triples c.args.codes.now) c.args.at c.in-To.count (shorts c.args.binds.now) (shorts c.args.saves.now) c.args.level (shorts c.bind.new.binds) (shorts c.bind.new.saves) c.bind.result c.twice-g.result c.bind.ensures c.twice-g.ensures c.if-g-eq0.false).twice (entered (triples c.args.codes.now) c.args.at c.in-To.count (shorts c.args.binds.now) (shorts c.args.saves.now) c.args.level (shorts c.bind.new.binds) (shorts c.bind.new.saves) c.bind.result c.twice-g.result c.bind.ensures c.twice-g.ensures c.if-g-eq0.false).binds (shorts c.statement-s.new.binds) (shorts c.statement-s.new.saves) (shorts c.statement-s.new.order) (words c.statement-s.new.out) (answer_to Odd c.statement-s.ensures c.in-Odd-s.is) }

pub clause-returns-in-Full : goal.clause-returns-in-Full
clause-returns-in-Full t c = record { to = clause_guard_full c.args.query (triples c.args.codes.now) (shorts c.args.binds.now) (shorts c.args.saves.now) (shorts c.args.order.now) (triples c.args.heads.now) (words c.args.out.now) c.args.at c.args.k c.args.q c.args.level c.args.depth c.args.kind c.requires.reads c.in-To.rest c.in-To.count (subst (HiddenTo (triples c.args.codes.now) c.args.at) c.in-To.is c.hidden_end-p.ensures) (words c.open_clause.new.out) (open_yes (words c.args.out.now) c.args.k c.in-To.count (words c.open_clause.new.out) c.open_clause.result c.open_clause.ensures (c.if-not-open_clause.false)).wrote (shorts c.bind.new.binds) (shorts c.bind.new.saves) (entered (triples c.args.codes.now) c.args.at c.in-To.count (shorts c.args.binds.now) (shorts c.args.saves.now) c.args.level (shorts c.bind.new.binds) (shorts c.bind.new.saves) c.bind.result c.twice-g.result c.bind.ensures c.twice-g.ensures c.if-g-eq0.false).twice (entered (triples c.args.codes.now) c.args.at c.in-To.count (shorts c.args.binds.now) (shorts c.args.saves.now) c.args.level (shorts c.bind.new.binds) (shorts c.bind.new.saves) c.bind.result c.twice-g.result c.bind.ensures c.twice-g.ensures c.if-g-eq0.false).binds (shorts c.statement-s.new.binds) (shorts c.statement-s.new.saves) (shorts c.statement-s.new.order) (words c.statement-s.new.out) (answer_to Full c.statement-s.ensures c.in-Full.is) }

pub clause-returns-in-Odd : goal.clause-returns-in-Odd
clause-returns-in-Odd t c = record { to = clause_no_list c.args.query (triples c.args.codes.now) (shorts c.args.binds.now) (shorts c.args.saves.now) (shorts c.args.order.now) (triples c.args.heads.now) (words c.args.out.now) c.args.at c.args.k c.args.q c.args.level c.args.depth c.args.kind c.requires.reads (shorts c.args.binds.now) (shorts c.args.saves.now) (shorts c.args.order.now) (words c.args.out.now) (subst (HiddenTo (triples c.args.codes.now) c.args.at) c.in-Odd.is c.hidden_end-p.ensures) }

pub others-loop-query-init : goal.others-loop-query-init
others-loop-query-init t c = (refl, refl, refl, refl, adding_start c.args.query (triples c.args.codes.now) (shorts c.args.binds.now) (shorts c.args.saves.now) (shorts c.args.order.now) (triples c.args.heads.now) (words c.args.out.now) c.args.at c.args.k c.args.q c.args.level c.args.depth c.args.kind c.requires.reads)

pub others-returns-then-kind_at-ne10 : goal.others-returns-then-kind_at-ne10
others-returns-then-kind_at-ne10 t c = ot_ended c.loop-query.invariant.4 (λ e. c.if-kind_at-ne10.true (c.kind_at.ensures ∙ e))

pub others-overflow_add-i : goal.others-overflow_add-i
others-overflow_add-i t c = let i = kind_inside (triples c.args.codes.now) c.loop-query.i (omega (arith, sym c.kind_at.ensures, c.if-kind_at-ne10.false)) in omega (arith, length_triples c.args.codes.now)

pub others-clause-c-requires : goal.others-clause-c-requires
others-clause-c-requires t c = let i = kind_inside (triples c.args.codes.now) c.loop-query.i (omega (arith, sym c.kind_at.ensures, c.if-kind_at-ne10.false)) in (omega (arith, c.requires-raw.0, c.loop-query.invariant.4.forward), record { reads = ot_can c.loop-query.invariant.4 (sym c.kind_at.ensures ∙ c.if-kind_at-ne10.false) c.requires.reads; low = c.requires.low; high = c.requires.high })

pub others-loop-query-smaller : goal.others-loop-query-smaller
others-loop-query-smaller t c = let i = kind_inside (triples c.args.codes.now) c.loop-query.i (omega (arith, sym c.kind_at.ensures, c.if-kind_at-ne10.false)) in omega (arith, (ot_finished c.loop-query.invariant.4 (sym c.kind_at.ensures ∙ c.if-kind_at-ne10.false) c.clause-c.ensures c.in-Done.is).forward)

pub others-loop-query-preserved : goal.others-loop-query-preserved
others-loop-query-preserved t c = (c.clause-c.auto.out ∙ c.loop-query.invariant.0, c.clause-c.auto.binds ∙ c.loop-query.invariant.1, c.clause-c.auto.saves ∙ c.loop-query.invariant.2, c.clause-c.auto.order ∙ c.loop-query.invariant.3, ot_more c.loop-query.invariant.4 (sym c.kind_at.ensures ∙ c.if-kind_at-ne10.false) c.clause-c.ensures c.in-Done.is c.lower-f.ensures)

pub others-returns-in-Three : goal.others-returns-in-Three
others-returns-in-Three t c = ot_three c.loop-query.invariant.4 (sym c.kind_at.ensures ∙ c.if-kind_at-ne10.false) c.clause-c.ensures c.in-Three.is

pub others-returns-in-Odd : goal.others-returns-in-Odd
others-returns-in-Odd t c = ot_odd c.loop-query.invariant.4 (sym c.kind_at.ensures ∙ c.if-kind_at-ne10.false) c.clause-c.ensures c.in-Odd.is

pub others-returns-in-Full : goal.others-returns-in-Full
others-returns-in-Full t c = ot_full c.loop-query.invariant.4 (sym c.kind_at.ensures ∙ c.if-kind_at-ne10.false) c.clause-c.ensures c.in-Full.is

pub simple-simple_at-s-requires : goal.simple-simple_at-s-requires
simple-simple_at-s-requires t c = c.requires.known

pub simple-constraint-requires : goal.simple-constraint-requires
simple-constraint-requires t c = can_constraint c.requires _ _ (subst (SimpleAt (triples c.args.codes.now) c.args.at) c.in-Atom.is c.simple_at-s.ensures)

pub simple-program-requires : goal.simple-program-requires
simple-program-requires t c = can_program c.requires _ _ _ _ (subst (SimpleAt (triples c.args.codes.now) c.args.at) c.in-Program.is c.simple_at-s.ensures)

pub simple-returns-then-depth-ge32 : goal.simple-returns-then-depth-ge32
simple-returns-then-depth-ge32 t c = si_deep c.args.query (triples c.args.codes.now) (shorts c.args.binds.now) (shorts c.args.saves.now) (shorts c.args.order.now) (triples c.args.heads.now) (words c.args.out.now) c.args.at c.args.k c.args.q c.args.level c.args.depth c.simple_at-s.result _ c.simple_at-s.ensures c.in-Bracket.is (omega arith)

pub simple-overflow_add-depth : goal.simple-overflow_add-depth
simple-overflow_add-depth t c = omega arith

pub simple-bracket-b-requires : goal.simple-bracket-b-requires
simple-bracket-b-requires t c = (omega (arith, c.requires-raw.0, (subst (SimpleAt (triples c.args.codes.now) c.args.at) c.in-Bracket.is c.simple_at-s.ensures).0, (subst (SimpleAt (triples c.args.codes.now) c.args.at) c.in-Bracket.is c.simple_at-s.ensures).1), si_can c.args.query (triples c.args.codes.now) (shorts c.args.binds.now) (shorts c.args.saves.now) (shorts c.args.order.now) (triples c.args.heads.now) (words c.args.out.now) c.args.at c.args.k c.args.q c.args.level c.args.depth c.simple_at-s.result _ c.simple_at-s.ensures c.in-Bracket.is c.requires)

pub simple-returns-then-kind_at-ne4 : goal.simple-returns-then-kind_at-ne4
simple-returns-then-kind_at-ne4 t c = si_unclosed c.args.query (triples c.args.codes.now) (shorts c.args.binds.now) (shorts c.args.saves.now) (shorts c.args.order.now) (triples c.args.heads.now) (words c.args.out.now) c.args.at c.args.k c.args.q c.args.level c.args.depth c.simple_at-s.result _ c.simple_at-s.ensures c.in-Bracket.is (omega arith) c.bracket-b.ensures c.in-Done.is (λ e. c.if-kind_at-ne4.true (c.kind_at.ensures ∙ e))

pub simple-overflow_add-result : goal.simple-overflow_add-result
simple-overflow_add-result t c = let i = kind_inside (triples c.args.codes.now) c.in-Done.a (omega (arith, sym c.kind_at.ensures, c.if-kind_at-ne4.false)) in omega (arith, c.requires.few)

pub simple-returns-in-Atom : goal.simple-returns-in-Atom
simple-returns-in-Atom t c = record { to = c.constraint.ensures.reads (shorts c.args.saves.now) (triples c.args.heads.now) c.args.at c.args.level c.args.depth c.requires (subst (SimpleAt (triples c.args.codes.now) c.args.at) c.in-Atom.is c.simple_at-s.ensures) }

pub simple-returns-in-Program : goal.simple-returns-in-Program
simple-returns-in-Program t c = record { to = c.program.ensures.reads (shorts c.args.saves.now) c.args.at c.args.level c.args.depth c.requires (subst (SimpleAt (triples c.args.codes.now) c.args.at) c.in-Program.is c.simple_at-s.ensures) }

pub simple-returns-else-kind_at-ne4 : goal.simple-returns-else-kind_at-ne4
simple-returns-else-kind_at-ne4 t c = si_done c.args.query (triples c.args.codes.now) (shorts c.args.binds.now) (shorts c.args.saves.now) (shorts c.args.order.now) (triples c.args.heads.now) (words c.args.out.now) c.args.at c.args.k c.args.q c.args.level c.args.depth c.simple_at-s.result _ c.simple_at-s.ensures c.in-Bracket.is (omega arith) c.bracket-b.ensures c.in-Done.is (sym c.kind_at.ensures ∙ c.if-kind_at-ne4.false)

pub simple-returns-in-Three : goal.simple-returns-in-Three
simple-returns-in-Three t c = si_three c.args.query (triples c.args.codes.now) (shorts c.args.binds.now) (shorts c.args.saves.now) (shorts c.args.order.now) (triples c.args.heads.now) (words c.args.out.now) c.args.at c.args.k c.args.q c.args.level c.args.depth c.simple_at-s.result _ c.simple_at-s.ensures c.in-Bracket.is (omega arith) c.bracket-b.ensures c.in-Three.is

pub simple-returns-in-Odd-b : goal.simple-returns-in-Odd-b
simple-returns-in-Odd-b t c = si_odd c.args.query (triples c.args.codes.now) (shorts c.args.binds.now) (shorts c.args.saves.now) (shorts c.args.order.now) (triples c.args.heads.now) (words c.args.out.now) c.args.at c.args.k c.args.q c.args.level c.args.depth c.simple_at-s.result _ c.simple_at-s.ensures c.in-Bracket.is (omega arith) c.bracket-b.ensures c.in-Odd-b.is

pub simple-returns-in-Full : goal.simple-returns-in-Full
simple-returns-in-Full t c = si_full c.args.query (triples c.args.codes.now) (shorts c.args.binds.now) (shorts c.args.saves.now) (shorts c.args.order.now) (triples c.args.heads.now) (words c.args.out.now) c.args.at c.args.k c.args.q c.args.level c.args.depth c.simple_at-s.result _ c.simple_at-s.ensures c.in-Bracket.is (omega arith) c.bracket-b.ensures c.in-Full.is

pub simple-returns-in-Odd : goal.simple-returns-in-Odd
simple-returns-in-Odd t c = si_none c.args.query (triples c.args.codes.now) (shorts c.args.binds.now) (shorts c.args.saves.now) (shorts c.args.order.now) (triples c.args.heads.now) (words c.args.out.now) c.args.at c.args.k c.args.q c.args.level c.args.depth c.simple_at-s.result c.simple_at-s.ensures c.in-Odd.is

pub statement-loop-query-init : goal.statement-loop-query-init
statement-loop-query-init t c = (refl, refl, refl, refl, joining_start c.args.query (triples c.args.codes.now) (shorts c.args.binds.now) (shorts c.args.saves.now) (shorts c.args.order.now) (triples c.args.heads.now) (words c.args.out.now) c.args.at c.args.k c.args.q c.args.level c.args.depth c.requires)

pub statement-emit-requires : goal.statement-emit-requires
statement-emit-requires t c = record { value = omega arith }

pub statement-returns-then-not-emit : goal.statement-returns-then-not-emit
statement-returns-then-not-emit t c = st_no_slot c.loop-query.invariant.4 (emit_no Bad c.emit.result c.emit.ensures (c.if-not-emit.true))

pub statement-overflow_add-j : goal.statement-overflow_add-j
statement-overflow_add-j t c = let a = (emit_yes c.emit.result c.emit.ensures (c.if-not-emit.false)).room in omega (arith, length_words c.loop-query.out)

pub statement-simple-s-requires : goal.statement-simple-s-requires
statement-simple-s-requires t c = (omega (arith, c.requires-raw.0, c.loop-query.invariant.4.forward), st_can c.loop-query.invariant.4 (emit_yes c.emit.result c.emit.ensures (c.if-not-emit.false)) c.requires)

pub statement-ends-e-requires : goal.statement-ends-e-requires
statement-ends-e-requires t c = (st_finished c.loop-query.invariant.4 (emit_yes c.emit.result c.emit.ensures (c.if-not-emit.false)) c.simple-s.ensures c.in-Done.is).out

pub statement-returns-in-To : goal.statement-returns-in-To
statement-returns-in-To t c = st_ended c.loop-query.invariant.4 (emit_yes c.emit.result c.emit.ensures (c.if-not-emit.false)) c.simple-s.ensures c.in-Done.is c.lower-low.ensures _ _ _ (λ e. c.if-kind_at-ne5.true (c.kind_at.ensures ∙ e)) c.ends-e.ensures c.in-To.is

pub statement-returns-in-Full-e : goal.statement-returns-in-Full-e
statement-returns-in-Full-e t c = st_short c.loop-query.invariant.4 (emit_yes c.emit.result c.emit.ensures (c.if-not-emit.false)) c.simple-s.ensures c.in-Done.is c.lower-low.ensures _ _ c.ends-e.ensures c.in-Full-e.is

pub statement-put-requires : goal.statement-put-requires
statement-put-requires t c = record { inside = omega (arith, (emit_yes c.emit.result c.emit.ensures (c.if-not-emit.false)).room, (emit_yes c.emit.result c.emit.ensures (c.if-not-emit.false)).stored.long, (st_finished c.loop-query.invariant.4 (emit_yes c.emit.result c.emit.ensures (c.if-not-emit.false)) c.simple-s.ensures c.in-Done.is).long_o); small = record { value = omega arith } }

pub statement-overflow_add-i : goal.statement-overflow_add-i
statement-overflow_add-i t c = let i = kind_inside (triples c.args.codes.now) c.in-Done.a (omega (arith, sym c.kind_at.ensures, c.if-kind_at-ne5.false)) in omega (arith, c.requires.few)

pub statement-overflow_add-c : goal.statement-overflow_add-c
statement-overflow_add-c t c = omega (arith, c.loop-query.invariant.4.commas, c.loop-query.invariant.4.inside, c.requires.few)

pub statement-loop-query-smaller : goal.statement-loop-query-smaller
statement-loop-query-smaller t c = let i = kind_inside (triples c.args.codes.now) c.in-Done.a (omega (arith, sym c.kind_at.ensures, c.if-kind_at-ne5.false)) in omega (arith, (st_finished c.loop-query.invariant.4 (emit_yes c.emit.result c.emit.ensures (c.if-not-emit.false)) c.simple-s.ensures c.in-Done.is).forward)

pub statement-loop-query-preserved : goal.statement-loop-query-preserved
statement-loop-query-preserved t c = (c.put.auto.b ∙ c.simple-s.auto.out ∙ c.emit.auto.out ∙ c.loop-query.invariant.0, c.simple-s.auto.binds ∙ c.loop-query.invariant.1, c.simple-s.auto.saves ∙ c.loop-query.invariant.2, c.simple-s.auto.order ∙ c.loop-query.invariant.3, st_comma c.loop-query.invariant.4 (emit_yes c.emit.result c.emit.ensures (c.if-not-emit.false)) c.simple-s.ensures c.in-Done.is c.lower-low.ensures (sym c.kind_at.ensures ∙ c.if-kind_at-ne5.false) c.put.ensures)

pub statement-returns-in-Three : goal.statement-returns-in-Three
statement-returns-in-Three t c = st_three c.loop-query.invariant.4 (emit_yes c.emit.result c.emit.ensures (c.if-not-emit.false)) c.simple-s.ensures c.in-Three.is

pub statement-returns-in-Odd : goal.statement-returns-in-Odd
statement-returns-in-Odd t c = st_odd c.loop-query.invariant.4 (emit_yes c.emit.result c.emit.ensures (c.if-not-emit.false)) c.simple-s.ensures c.in-Odd.is

pub statement-returns-in-Full : goal.statement-returns-in-Full
statement-returns-in-Full t c = st_full c.loop-query.invariant.4 (emit_yes c.emit.result c.emit.ensures (c.if-not-emit.false)) c.simple-s.ensures c.in-Full.is
