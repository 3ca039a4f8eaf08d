-- A transition of a rule that is not one of those that can add parts leaves at most as many as there were. Assumes nothing.
use mathlib.Core.Path.{◌≡◌, refl, ap}
use mathlib.Core.Bool.{true, false}
use mathlib.Core.List.{List}
use mathlib.Core.Option.{some}
use Prim.Native.Nat.{ℕ, zero, suc, ◌+◌, ◌≤◌}
use native.Mathlib.Omega.{arith}
use lib.Dec.{T}
use Rattle.constraint.specs.Constraint.{Con, ctrue, cfail, ceq, capp}
use Rattle.akl.specs.Base.{size, range}
use Rattle.akl.specs.Syntax.{Var, Stmt, atom, call, comp, hide, choice, Clauses, no_more, clause, Program, opened, opened_clauses}
use Rattle.akl.specs.Configuration.{Kind, Node, or, and, stmt, choice_box, guard, Nodes, nil, cons, ◌+n◌, one, failure, Ctx, top, in_or, in_and, in_choice, in_guard, plug, Config}
use Rattle.akl.specs.Places.{Place, at}
use Rattle.akl.specs.Table.{Row, rule_row}
use Rattle.akl.specs.Rules.{stored, fresh, effect}
use Rattle.akl.specs.Stability.{fits_row}
use Rattle.akl.specs.Parts.{statement_parts, clauses_parts, parts, parts_all}
use Rattle.theory.specs.Transition.{Transition, constraint_atom, program_atom, composition, hiding, choosing, promotion, condition, committing, environment_failure, goal_failure, guard_failure, splitting, distribution, flattening}
use Rattle.theory.proofs.Locals.{size_append}
use Rattle.accept.proofs.Stable.{transition_whole}
use Rattle.accept.proofs.EffectSound.{whole, effect_sound}
use Rattle.step_fewer.specs.Adding.{adds_parts, itself}

-- parts of nodes side by side
joined : {k : Kind} (a b : Nodes k) → parts_all (a +n b) ≡ parts_all a + parts_all b
unfolding parts ◌+n◌
joined nil b = omega arith
joined (cons n a) b = omega (arith, joined a b)

-- variables put for levels change no parts
mutual
  unfolding opened statement_parts

  open_parts : (s : Stmt) (vs : List Var) → statement_parts (opened s vs) ≡ statement_parts s
  open_parts (atom c) vs = refl
  open_parts (call p xs) vs = refl
  open_parts (comp a b) vs = omega (arith, open_parts a vs, open_parts b vs)
  open_parts (hide n a) vs = omega (arith, open_parts a vs)
  open_parts (choice op cs) vs = omega (arith, open_clauses cs vs)

  open_clauses : (cs : Clauses) (vs : List Var) → clauses_parts (opened_clauses cs vs) ≡ clauses_parts cs
  open_clauses no_more vs = refl
  open_clauses (clause n g b cs) vs = omega (arith, open_parts g vs, open_parts b vs, open_clauses cs vs)

range_size : (from n : ℕ) → size (range from n) ≡ n
unfolding range size
range_size from zero = refl
range_size from (suc n) = ap suc (range_size (suc from) n)

-- an atom becomes at most one stored constraint
stored_one : (c : Con Var) → size (stored c) ≤ 1
unfolding size
stored_one ctrue = omega arith
stored_one cfail = omega arith
stored_one (ceq x y) = omega arith
stored_one (capp x f ys) = omega arith

clash : true ≡ false → ⊥
clash e = let z : ◌≡◌ {A = ℕ} 0 1 = cc in omega arith

pub fewer : {P : Program} {N r : ℕ} {pl : Place} {k : Kind} {χ : Ctx k} {n n' : Node k} {N' : ℕ} → Transition P N r pl k χ n n' N' → adds_parts r ≡ false → parts n' ≤ parts n
unfolding parts statement_parts adds_parts
fewer (constraint_atom χ vs σ l r c) e = omega (arith, joined l r, joined l (cons (stmt (atom c)) r), size_append σ (stored c), stored_one c)
fewer (program_atom χ p xs b d) e = absurd (clash e)
fewer (composition χ vs σ l r a b) e = omega (arith, joined l (cons (stmt a) (cons (stmt b) r)), joined l (cons (stmt (comp a b)) r))
fewer {N = N} (hiding χ vs σ l r n a) e = omega (arith, joined l (cons (stmt (opened a (fresh N n))) r), joined l (cons (stmt (hide n a)) r), size_append vs (range N n), range_size N n, open_parts a (fresh N n))
fewer (choosing χ op cs) e = absurd (clash e)
fewer (promotion χ ws θ l r op vs σ b q) e = omega (arith, joined l (cons (stmt b) r), joined l (cons (choice_box op (one (guard (and vs σ nil) b))) r), size_append ws vs, size_append θ σ)
fewer (condition χ l r vs σ b q m) e = omega (arith, joined l (one (guard (and vs σ nil) b)), joined l (cons (guard (and vs σ nil) b) r))
fewer (committing χ l r vs σ b q m) e = omega (arith, joined l (cons (guard (and vs σ nil) b) r))
fewer (environment_failure χ vs σ ms u) e = omega arith
fewer (goal_failure χ vs σ l r op) e = omega arith
fewer (guard_failure χ op l r b) e = omega (arith, joined l r, joined l (cons (guard failure b) r))
fewer (splitting χ vs σ l r us τ b t ts) e = absurd (clash e)
fewer (distribution χ op l r g gs b) e = absurd (clash e)
fewer (flattening χ l r ns) e = omega (arith, joined l (ns +n r), joined ns r, joined l (cons (or ns) r))

-- and so does what stands around it
pub around : {k : Kind} (χ : Ctx k) (n n' : Node k) → parts n' ≤ parts n → parts (plug χ n') ≤ parts (plug χ n)
unfolding plug parts
around top n n' h = h
around (in_or χ l r) n n' h = around χ (or (l +n cons n r)) (or (l +n cons n' r)) (omega (arith, joined l (cons n r), joined l (cons n' r)))
around (in_and χ vs σ l r) n n' h = around χ (and vs σ (l +n cons n r)) (and vs σ (l +n cons n' r)) (omega (arith, joined l (cons n r), joined l (cons n' r)))
around (in_choice χ op l r) n n' h = around χ (choice_box op (l +n cons n r)) (choice_box op (l +n cons n' r)) (omega (arith, joined l (cons n r), joined l (cons n' r)))
around (in_guard χ b) n n' h = around χ (guard n b) (guard n' b) (omega arith)

-- The configuration that a rule leads to.
pub effect_fewer : (P : Program) (N r : ℕ) (pl : Place) (w : Row) (d : Config) → rule_row r ≡ some w → T (fits_row w pl) → effect P N r pl ≡ some d → adds_parts r ≡ false → parts d.root ≤ parts (whole pl)
effect_fewer P N r pl w d q k e a =
    let f = effect_sound P N r pl w d q k e in
    omega (arith, around f.context f.before f.after (fewer f.transition a), ap parts f.result, ap parts (transition_whole f.transition))

-- ---------------------------------------------------------------------------------------------
-- Rules that put a piece for what stands at their place.

clash_back : false ≡ true → ⊥
clash_back e = let z : ◌≡◌ {A = ℕ} 0 1 = cc in omega arith

pub rewrites_itself : {P : Program} {N r : ℕ} {pl : Place} {k : Kind} {χ : Ctx k} {n n' : Node k} {N' : ℕ} → Transition P N r pl k χ n n' N' → itself r ≡ true → pl ≡ at χ n
unfolding itself
rewrites_itself (constraint_atom χ vs σ l r c) e = absurd (clash_back e)
rewrites_itself (program_atom χ p xs b d) e = refl
rewrites_itself (composition χ vs σ l r a b) e = absurd (clash_back e)
rewrites_itself (hiding χ vs σ l r n a) e = absurd (clash_back e)
rewrites_itself (choosing χ op cs) e = refl
rewrites_itself (promotion χ ws θ l r op vs σ b q) e = absurd (clash_back e)
rewrites_itself (condition χ l r vs σ b q m) e = absurd (clash_back e)
rewrites_itself (committing χ l r vs σ b q m) e = absurd (clash_back e)
rewrites_itself (environment_failure χ vs σ ms u) e = absurd (clash_back e)
rewrites_itself (goal_failure χ vs σ l r op) e = absurd (clash_back e)
rewrites_itself (guard_failure χ op l r b) e = absurd (clash_back e)
rewrites_itself (splitting χ vs σ l r us τ b t ts) e = absurd (clash_back e)
rewrites_itself (distribution χ op l r g gs b) e = absurd (clash_back e)
rewrites_itself (flattening χ l r ns) e = absurd (clash_back e)

-- d more parts inside are at most d more outside
pub around_more : {k : Kind} (χ : Ctx k) (n n' : Node k) (d : ℕ) → parts n' ≤ parts n + d → parts (plug χ n') ≤ parts (plug χ n) + d
unfolding plug parts
around_more top n n' d h = h
around_more (in_or χ l r) n n' d h = around_more χ (or (l +n cons n r)) (or (l +n cons n' r)) d (omega (arith, joined l (cons n r), joined l (cons n' r)))
around_more (in_and χ vs σ l r) n n' d h = around_more χ (and vs σ (l +n cons n r)) (and vs σ (l +n cons n' r)) d (omega (arith, joined l (cons n r), joined l (cons n' r)))
around_more (in_choice χ op l r) n n' d h = around_more χ (choice_box op (l +n cons n r)) (choice_box op (l +n cons n' r)) d (omega (arith, joined l (cons n r), joined l (cons n' r)))
around_more (in_guard χ b) n n' d h = around_more χ (guard n b) (guard n' b) d (omega arith)

-- So whatever a transition puts, at most its parts are added.
pub piece_more : {P : Program} {N r : ℕ} {pl : Place} {k : Kind} {χ : Ctx k} {n n' : Node k} {N' : ℕ} → Transition P N r pl k χ n n' N' → parts (plug χ n') ≤ parts (whole pl) + parts n'
piece_more {χ = χ} {n = n} {n' = n'} t = omega (arith, around_more χ n n' (parts n') (omega arith), ap parts (transition_whole t))
