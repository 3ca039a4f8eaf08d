use borrow.Author.Rules.{rules}
use mathlib.Core.Path.{subst, sym}
use mathlib.Core.List.{List}
use Prim.Native.Nat.{ℕ}
use native.Mathlib.Omega.{arith}
use Rattle.mem_numbers.specs.Numbers.{triples, shorts}
use Rattle.mem_words.specs.Words.{words}
use Rattle.read_definitions.specs.Definitions.{CanBodies, Bodies}
use Rattle.read_wholes.proofs.Tables.{zeroed}
use Rattle.read_programs.proofs.Checking.{can_head, can_bodies, heads_many, heads_odd, heads_short, bodies_three, bodies_odd, bodies_full, bodies_refused, bodies_fine, told_heads, told_bodies, heads_there, heads_length, heads_prefix}
use Rattle.read_programs.proofs.checked.Goals as goal

pub heads_of-h-requires : goal.heads_of-h-requires
heads_of-h-requires c = can_head c.requires

pub overflow_mul-e : goal.overflow_mul-e
overflow_mul-e c = omega (arith, (told_heads c.in-All.is c.heads_of-h.ensures).answer.few)

pub slice_bounds-bodies-end : goal.slice_bounds-bodies-end
slice_bounds-bodies-end c = heads_there c.heads_of-h.new.heads (told_heads c.in-All.is c.heads_of-h.ensures).answer

pub slice_bounds-bodies-end-in-All : goal.slice_bounds-bodies-end-in-All
slice_bounds-bodies-end-in-All c = heads_length c.heads_of-h.new.heads (told_heads c.in-All.is c.heads_of-h.ensures).answer

pub bodies-b-requires : goal.bodies-b-requires
bodies-b-requires c = subst (CanBodies (triples c.args.codes.now) (shorts c.fill.new.self) (shorts c.args.order.now)) (sym (heads_prefix c.heads_of-h.new.heads (told_heads c.in-All.is c.heads_of-h.ensures).answer)) (can_bodies c.requires (zeroed c.args.binds.now c.fill.new.self (search rules)) (told_heads c.in-All.is c.heads_of-h.ensures).answer)

pub returns-then-low-lt8 : goal.returns-then-low-lt8
returns-then-low-lt8 c = bodies_refused c.args.stack.now (triples c.args.heads.now) c.args.names (triples c.heads_of-h.new.heads) c.requires (zeroed c.args.binds.now c.fill.new.self (search rules)) (told_heads c.in-All.is c.heads_of-h.ensures).answer (told_bodies c.in-Done.is (subst (λ (D : List ℕ). Bodies (triples c.args.codes.now) (shorts c.fill.new.self) (shorts c.args.saves.now) (shorts c.args.order.now) D (words c.args.out.now) (words c.bodies-b.new.out) c.bodies-b.result) (heads_prefix c.heads_of-h.new.heads (told_heads c.in-All.is c.heads_of-h.ensures).answer) c.bodies-b.ensures)) c.defined.result c.lower-low.result c.defined.ensures c.lower-low.ensures c.of_tree.result (omega arith) c.of_tree.ensures

pub compact-n-requires : goal.compact-n-requires
compact-n-requires c = (told_bodies c.in-Done.is (subst (λ (D : List ℕ). Bodies (triples c.args.codes.now) (shorts c.fill.new.self) (shorts c.args.saves.now) (shorts c.args.order.now) D (words c.args.out.now) (words c.bodies-b.new.out) c.bodies-b.result) (heads_prefix c.heads_of-h.new.heads (told_heads c.in-All.is c.heads_of-h.ensures).answer) c.bodies-b.ensures)).to.0

pub returns-else-low-lt8 : goal.returns-else-low-lt8
returns-else-low-lt8 c = bodies_fine c.args.stack.now (triples c.args.heads.now) c.args.names (triples c.heads_of-h.new.heads) c.requires (zeroed c.args.binds.now c.fill.new.self (search rules)) (told_heads c.in-All.is c.heads_of-h.ensures).answer (told_bodies c.in-Done.is (subst (λ (D : List ℕ). Bodies (triples c.args.codes.now) (shorts c.fill.new.self) (shorts c.args.saves.now) (shorts c.args.order.now) D (words c.args.out.now) (words c.bodies-b.new.out) c.bodies-b.result) (heads_prefix c.heads_of-h.new.heads (told_heads c.in-All.is c.heads_of-h.ensures).answer) c.bodies-b.ensures)) c.defined.result c.lower-low.result c.defined.ensures c.lower-low.ensures (omega arith) c.compact-n.ensures

pub returns-in-Three : goal.returns-in-Three
returns-in-Three c = bodies_three c.args.stack.now (triples c.args.heads.now) c.args.names (triples c.heads_of-h.new.heads) c.requires (zeroed c.args.binds.now c.fill.new.self (search rules)) (told_heads c.in-All.is c.heads_of-h.ensures).answer _ (told_bodies c.in-Three.is (subst (λ (D : List ℕ). Bodies (triples c.args.codes.now) (shorts c.fill.new.self) (shorts c.args.saves.now) (shorts c.args.order.now) D (words c.args.out.now) (words c.bodies-b.new.out) c.bodies-b.result) (heads_prefix c.heads_of-h.new.heads (told_heads c.in-All.is c.heads_of-h.ensures).answer) c.bodies-b.ensures))

pub returns-in-Odd-b : goal.returns-in-Odd-b
returns-in-Odd-b c = bodies_odd c.args.stack.now (triples c.args.heads.now) c.args.names (triples c.heads_of-h.new.heads) c.requires (zeroed c.args.binds.now c.fill.new.self (search rules)) (told_heads c.in-All.is c.heads_of-h.ensures).answer _ _ (told_bodies c.in-Odd-b.is (subst (λ (D : List ℕ). Bodies (triples c.args.codes.now) (shorts c.fill.new.self) (shorts c.args.saves.now) (shorts c.args.order.now) D (words c.args.out.now) (words c.bodies-b.new.out) c.bodies-b.result) (heads_prefix c.heads_of-h.new.heads (told_heads c.in-All.is c.heads_of-h.ensures).answer) c.bodies-b.ensures))

pub returns-in-Full : goal.returns-in-Full
returns-in-Full c = bodies_full c.args.stack.now (triples c.args.heads.now) c.args.names (triples c.heads_of-h.new.heads) c.requires (zeroed c.args.binds.now c.fill.new.self (search rules)) (told_heads c.in-All.is c.heads_of-h.ensures).answer _ (told_bodies c.in-Full.is (subst (λ (D : List ℕ). Bodies (triples c.args.codes.now) (shorts c.fill.new.self) (shorts c.args.saves.now) (shorts c.args.order.now) D (words c.args.out.now) (words c.bodies-b.new.out) c.bodies-b.result) (heads_prefix c.heads_of-h.new.heads (told_heads c.in-All.is c.heads_of-h.ensures).answer) c.bodies-b.ensures))

pub returns-in-Many : goal.returns-in-Many
returns-in-Many c = heads_many c.args.stack.now (triples c.args.heads.now) c.args.names (triples c.heads_of-h.new.heads) _ (told_heads c.in-Many.is c.heads_of-h.ensures)

pub returns-in-Odd : goal.returns-in-Odd
returns-in-Odd c = heads_odd c.args.stack.now (triples c.args.heads.now) c.args.names (triples c.heads_of-h.new.heads) _ _ (told_heads c.in-Odd.is c.heads_of-h.ensures)

pub returns-in-Short : goal.returns-in-Short
returns-in-Short c = heads_short c.args.stack.now (triples c.args.heads.now) c.args.names (triples c.heads_of-h.new.heads) _ (told_heads c.in-Short.is c.heads_of-h.ensures)
