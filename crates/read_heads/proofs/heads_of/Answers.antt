use mathlib.Core.Path.{refl, subst, sym, ◌∙◌}
use native.Mathlib.Omega.{arith}
use Rattle.mem_numbers.specs.Numbers.{triples}
use Rattle.read_heads.specs.Heads.{HeadTo}
use Rattle.read_heads.proofs.Heading.{going_start, going_again, going_new, going_less, going_full, going_many, going_odd, going_short, going_room, going_all}
use Rattle.read_heads.proofs.heads_of.Goals as goal

pub loop-i-init : goal.loop-i-init
loop-i-init c = (going_start _ _ _, refl)

pub returns-then-k-ge128 : goal.returns-then-k-ge128
returns-then-k-ge128 c = going_full c.loop-i.invariant.0 (omega (arith, c.count-n.ensures.is)) (omega arith)

pub returns-then-room-k : goal.returns-then-room-k
returns-then-room-k c = going_room c.loop-i.invariant.0 (omega (arith, c.count-room.ensures.is, c.loop-i.invariant.0.long)) (omega arith)

pub head_at-h-requires : goal.head_at-h-requires
head_at-h-requires c = c.requires

pub listed-again-requires : goal.listed-again-requires
listed-again-requires c = c.loop-i.invariant.0.room

pub put-requires-clause-can : goal.put-requires-clause-can
put-requires-clause-can c = record { inside = omega (arith, c.count-room.ensures.is, c.loop-i.invariant.0.long); small = (subst (HeadTo (triples c.args.codes.now) c.loop-i.stack c.loop-i.i) c.in-At.is c.head_at-h.ensures).small }

pub overflow_add-k : goal.overflow_add-k
overflow_add-k c = omega (arith, c.loop-i.invariant.0.few)

pub loop-i-smaller-then-again : goal.loop-i-smaller-then-again
loop-i-smaller-then-again c = going_less c.loop-i.invariant.0 c.head_at-h.new.stack (triples c.put.new.b) (subst (HeadTo (triples c.args.codes.now) c.loop-i.stack c.loop-i.i) c.in-At.is c.head_at-h.ensures) c.head_at-h.auto.stack (omega arith) (omega (arith, c.count-room.ensures.is, c.loop-i.invariant.0.long)) c.put.ensures

pub loop-i-preserved-then-again : goal.loop-i-preserved-then-again
loop-i-preserved-then-again c = (going_again c.loop-i.invariant.0 c.head_at-h.new.stack (triples c.put.new.b) (subst (HeadTo (triples c.args.codes.now) c.loop-i.stack c.loop-i.i) c.in-At.is c.head_at-h.ensures) c.head_at-h.auto.stack (omega arith) (omega (arith, c.count-room.ensures.is, c.loop-i.invariant.0.long)) c.put.ensures (sym c.listed-again.ensures ∙ c.if-again.true), c.put.auto.b ∙ c.loop-i.invariant.1)

pub loop-i-smaller : goal.loop-i-smaller
loop-i-smaller c = going_less c.loop-i.invariant.0 c.head_at-h.new.stack (triples c.put.new.b) (subst (HeadTo (triples c.args.codes.now) c.loop-i.stack c.loop-i.i) c.in-At.is c.head_at-h.ensures) c.head_at-h.auto.stack (omega arith) (omega (arith, c.count-room.ensures.is, c.loop-i.invariant.0.long)) c.put.ensures

pub loop-i-preserved : goal.loop-i-preserved
loop-i-preserved c = (going_new c.loop-i.invariant.0 c.head_at-h.new.stack (triples c.put.new.b) (subst (HeadTo (triples c.args.codes.now) c.loop-i.stack c.loop-i.i) c.in-At.is c.head_at-h.ensures) c.head_at-h.auto.stack (omega arith) (omega (arith, c.count-room.ensures.is, c.loop-i.invariant.0.long)) c.put.ensures (sym c.listed-again.ensures ∙ c.if-again.false), c.put.auto.b ∙ c.loop-i.invariant.1)

pub returns-in-Many : goal.returns-in-Many
returns-in-Many c = going_many c.loop-i.invariant.0 (subst (HeadTo (triples c.args.codes.now) c.loop-i.stack c.loop-i.i) c.in-Many.is c.head_at-h.ensures)

pub returns-in-Odd : goal.returns-in-Odd
returns-in-Odd c = going_odd c.loop-i.invariant.0 (omega (arith, c.count-n.ensures.is)) (subst (HeadTo (triples c.args.codes.now) c.loop-i.stack c.loop-i.i) c.in-Odd.is c.head_at-h.ensures)

pub returns-in-Short : goal.returns-in-Short
returns-in-Short c = going_short c.loop-i.invariant.0 (subst (HeadTo (triples c.args.codes.now) c.loop-i.stack c.loop-i.i) c.in-Short.is c.head_at-h.ensures)

pub returns : goal.returns
returns c = going_all c.loop-i.invariant.0 (omega (arith, c.count-n.ensures.is))
