-- One step of each of the grammar's functions, without bounds on calls: the laws that a reader's proofs use.
use mathlib.Core.Path.{◌≡◌, refl, ap, sym, ◌∙◌}
use mathlib.Core.List.{List, [], ◌∷◌}
use mathlib.Core.Bool.{Bool, true, false, ◌||◌, not}
use mathlib.Core.Option.{Option, some, none}
use Prim.Native.Nat.{ℕ, zero, suc, ◌+◌, ◌*◌, ◌≤◌}
use native.Mathlib.Omega.{arith}
use lib.Dec.{eqb}
use Rattle.constraint.specs.Constraint.{ctrue, cfail, ceq, capp}
use Rattle.akl.specs.Base.{Name, bytes, size, same, when, if, ◌>>=◌}
use Rattle.akl.specs.Syntax.{Op}
use Rattle.akl.specs.Token.{Token, Mark, open_bracket, close_bracket, comma, full_stop, colon, defines, equals, semicolon}
use Rattle.akl.specs.Grammar.{Statement, single, joined, Simple, constraint, program, bracket, Bracket, choosing, Clause, written, Others, end, and_also, Definition}
use Rattle.akl.specs.Parse.{Read, after, an_operator, a_variable, a_name, a_label, variables, arguments, hidden, equation, named, unclaused, statement, simple, a_bracket, others, a_clause, nothing_left, parse_query, definition, enough}
use Rattle.descent.specs.Descent.{the_variables, the_arguments, the_hidden, the_equation, the_named, the_statement, the_simple, the_bracket, the_others, the_clause, the_definition, the_atom, first_clause, guard_of}
use Rattle.descent.proofs.Calls.{bind, tail, fork, fork_read, after_within, operator_within, variable_within, name_within, label_within, variables_within, arguments_within, hidden_within, statement_within, simple_within, bracket_within, others_within, clause_within}
use Rattle.descent.proofs.Enough.{variables_enough, arguments_enough, hidden_enough, equation_enough, named_enough, statement_enough, simple_enough, bracket_enough, others_enough, clause_enough}

-- what reads nothing goes on with nothing; what reads r goes on with r
pub no_more_read : {A B : Type 0} (o : Option A) (f : A → Option B) → o ≡ none → (o >>= f) ≡ none
no_more_read o f e = ap (λ (x : Option _). x >>= f) e

pub read_on : {A B : Type 0} (o : Option A) (a : A) (f : A → Option B) → o ≡ some a → (o >>= f) ≡ f a
read_on o a f e = ap (λ (x : Option _). x >>= f) e

fork_is : {B : Type 0} (o : Option (List Token)) (x : Read B) (f : List Token → Read B) (r : List Token) → o ≡ some r → ◌≡◌ {A = Read B} (elim o as (λ z. Read B) [ none ↦ x | some u ↦ f u ]) (f r)
fork_is {B} o x f r e = ap (λ (o : Option (List Token)). elim o as (λ z. Read B) [ none ↦ x | some u ↦ f u ]) e

fork_no : {B : Type 0} (o : Option (List Token)) (x : Read B) (f : List Token → Read B) → o ≡ none → ◌≡◌ {A = Read B} (elim o as (λ z. Read B) [ none ↦ x | some u ↦ f u ]) x
fork_no {B} o x f e = ap (λ (o : Option (List Token)). elim o as (λ z. Read B) [ none ↦ x | some u ↦ f u ]) e

-- ---------------------------------------------------------------------------------------------
-- Lists of variables.

variables_step : (ts : List Token) → the_variables ts ≡ (a_variable ts >>= λ x. elim (after comma x.1) as (λ z. Read (List Name)) [ none ↦ some (x.0 ∷ [], x.1) | some r ↦ the_variables r >>= λ xs. some (x.0 ∷ xs.0, xs.1) ])
unfolding the_variables variables enough
variables_step ts =
    let e : 4 * size ts + 4 ≡ suc (4 * size ts + 3) = omega arith in
    ap (λ (n : ℕ). variables n ts) e
    ∙ bind (size ts) 1 (a_variable ts) (a_variable ts) _ _ refl (variable_within ts (size ts) 0 (omega arith)) (λ x p.
    fork (size ts) 2 (after comma x.1) (some (x.0 ∷ [], x.1)) (some (x.0 ∷ [], x.1)) (λ r. variables (4 * size ts + 3) r >>= λ xs. some (x.0 ∷ xs.0, xs.1)) (λ r. the_variables r >>= λ xs. some (x.0 ∷ xs.0, xs.1)) (after_within comma x.1 (size ts) 1 p) refl (λ r q.
    ap (λ (o : Read (List Name)). o >>= λ xs. some (x.0 ∷ xs.0, xs.1)) (variables_enough (4 * size ts + 3) (4 * size r + 4) r (omega arith) (omega arith))))

pub variables_none : (ts : List Token) → a_variable ts ≡ none → the_variables ts ≡ none
variables_none ts e = variables_step ts ∙ no_more_read (a_variable ts) _ e

pub variables_last : (ts u : List Token) (x : Name) → a_variable ts ≡ some (x, u) → after comma u ≡ none → the_variables ts ≡ some (x ∷ [], u)
variables_last ts u x e c = variables_step ts ∙ read_on (a_variable ts) (x, u) _ e ∙ fork_no (after comma u) (some (x ∷ [], u)) (λ r. the_variables r >>= λ xs. some (x ∷ xs.0, xs.1)) c

pub variables_more : (ts u r : List Token) (x : Name) → a_variable ts ≡ some (x, u) → after comma u ≡ some r → the_variables ts ≡ (the_variables r >>= λ xs. some (x ∷ xs.0, xs.1))
variables_more ts u r x e c = variables_step ts ∙ read_on (a_variable ts) (x, u) _ e ∙ fork_is (after comma u) (some (x ∷ [], u)) (λ r. the_variables r >>= λ xs. some (x ∷ xs.0, xs.1)) r c

arguments_step : (ts : List Token) → the_arguments ts ≡ elim (after open_bracket ts) as (λ z. Read (List Name)) [ none ↦ some ([], ts) | some r ↦ the_variables r >>= λ xs. after close_bracket xs.1 >>= λ u. some (xs.0, u) ]
unfolding the_variables the_arguments arguments enough
arguments_step ts =
    fork (size ts) 1 (after open_bracket ts) (some ([], ts)) (some ([], ts)) (λ r. variables (4 * size ts + 4) r >>= λ xs. after close_bracket xs.1 >>= λ u. some (xs.0, u)) (λ r. the_variables r >>= λ xs. after close_bracket xs.1 >>= λ u. some (xs.0, u)) (after_within open_bracket ts (size ts) 0 (omega arith)) refl (λ r q.
    ap (λ (o : Read (List Name)). o >>= λ xs. after close_bracket xs.1 >>= λ u. some (xs.0, u)) (variables_enough (4 * size ts + 4) (4 * size r + 4) r (omega arith) (omega arith)))

pub arguments_left_out : (ts : List Token) → after open_bracket ts ≡ none → the_arguments ts ≡ some ([], ts)
arguments_left_out ts e = arguments_step ts ∙ fork_no (after open_bracket ts) (some ([], ts)) (λ r. the_variables r >>= λ xs. after close_bracket xs.1 >>= λ u. some (xs.0, u)) e

pub arguments_in : (ts r : List Token) → after open_bracket ts ≡ some r → the_arguments ts ≡ (the_variables r >>= λ xs. after close_bracket xs.1 >>= λ u. some (xs.0, u))
arguments_in ts r e = arguments_step ts ∙ fork_is (after open_bracket ts) (some ([], ts)) (λ r. the_variables r >>= λ xs. after close_bracket xs.1 >>= λ u. some (xs.0, u)) r e

hidden_step : (ts : List Token) → the_hidden ts ≡ elim (a_variable ts) as (λ z. Read (List Name)) [ none ↦ some ([], ts) | some x ↦ elim (after equals x.1) as (λ z. Read (List Name)) [ none ↦ the_variables ts >>= λ xs. after colon xs.1 >>= λ u. some (xs.0, u) | some r ↦ some ([], ts) ] ]
unfolding the_variables the_hidden hidden
hidden_step ts = refl

pub hidden_left_out : (ts : List Token) → a_variable ts ≡ none → the_hidden ts ≡ some ([], ts)
hidden_left_out ts e = hidden_step ts ∙ ap (λ (o : Read Name). elim o as (λ z. Read (List Name)) [ none ↦ some ([], ts) | some x ↦ elim (after equals x.1) as (λ z. Read (List Name)) [ none ↦ the_variables ts >>= λ xs. after colon xs.1 >>= λ u. some (xs.0, u) | some r ↦ some ([], ts) ] ]) e

pub hidden_equation : (ts u r : List Token) (x : Name) → a_variable ts ≡ some (x, u) → after equals u ≡ some r → the_hidden ts ≡ some ([], ts)
hidden_equation ts u r x e q = hidden_step ts ∙ ap (λ (o : Read Name). elim o as (λ z. Read (List Name)) [ none ↦ some ([], ts) | some x ↦ elim (after equals x.1) as (λ z. Read (List Name)) [ none ↦ the_variables ts >>= λ xs. after colon xs.1 >>= λ u. some (xs.0, u) | some r ↦ some ([], ts) ] ]) e ∙ fork_is (after equals u) (the_variables ts >>= λ xs. after colon xs.1 >>= λ u. some (xs.0, u)) (λ r. some ([], ts)) r q

pub hidden_list : (ts u : List Token) (x : Name) → a_variable ts ≡ some (x, u) → after equals u ≡ none → the_hidden ts ≡ (the_variables ts >>= λ xs. after colon xs.1 >>= λ u. some (xs.0, u))
hidden_list ts u x e q = hidden_step ts ∙ ap (λ (o : Read Name). elim o as (λ z. Read (List Name)) [ none ↦ some ([], ts) | some x ↦ elim (after equals x.1) as (λ z. Read (List Name)) [ none ↦ the_variables ts >>= λ xs. after colon xs.1 >>= λ u. some (xs.0, u) | some r ↦ some ([], ts) ] ]) e ∙ fork_no (after equals u) (the_variables ts >>= λ xs. after colon xs.1 >>= λ u. some (xs.0, u)) (λ r. some ([], ts)) q

-- ---------------------------------------------------------------------------------------------
-- Atoms.

equation_step : (x : Name) (ts : List Token) → the_equation x ts ≡ elim (a_variable ts) as (λ z. Read Simple) [ some y ↦ some (constraint (ceq x y.0), y.1) | none ↦ a_label ts >>= λ f. the_arguments f.1 >>= λ ys. some (constraint (capp x f.0 ys.0), ys.1) ]
unfolding the_equation equation the_arguments enough
equation_step x ts =
    fork_read (size ts) 1 (a_variable ts) (a_label ts >>= λ f. arguments (4 * size ts + 4) f.1 >>= λ ys. some (constraint (capp x f.0 ys.0), ys.1)) (a_label ts >>= λ f. the_arguments f.1 >>= λ ys. some (constraint (capp x f.0 ys.0), ys.1)) (λ y. some (constraint (ceq x y.0), y.1)) (λ y. some (constraint (ceq x y.0), y.1)) (variable_within ts (size ts) 0 (omega arith))
    (bind (size ts) 1 (a_label ts) (a_label ts) _ _ refl (label_within ts (size ts) 0 (omega arith)) (λ f p. ap (λ (o : Read (List Name)). o >>= λ ys. some (constraint (capp x f.0 ys.0), ys.1)) (arguments_enough (4 * size ts + 4) (4 * size f.1 + 4) f.1 (omega arith) (omega arith))))
    (λ y p. refl)

pub equation_variable : (x y : Name) (ts u : List Token) → a_variable ts ≡ some (y, u) → the_equation x ts ≡ some (constraint (ceq x y), u)
equation_variable x y ts u e = equation_step x ts ∙ ap (λ (o : Read Name). elim o as (λ z. Read Simple) [ some y ↦ some (constraint (ceq x y.0), y.1) | none ↦ a_label ts >>= λ f. the_arguments f.1 >>= λ ys. some (constraint (capp x f.0 ys.0), ys.1) ]) e

pub equation_other : (x : Name) (ts : List Token) → a_variable ts ≡ none → the_equation x ts ≡ (a_label ts >>= λ f. the_arguments f.1 >>= λ ys. some (constraint (capp x f.0 ys.0), ys.1))
equation_other x ts e = equation_step x ts ∙ ap (λ (o : Read Name). elim o as (λ z. Read Simple) [ some y ↦ some (constraint (ceq x y.0), y.1) | none ↦ a_label ts >>= λ f. the_arguments f.1 >>= λ ys. some (constraint (capp x f.0 ys.0), ys.1) ]) e

pub named_step : (p : Name) (ts : List Token) → the_named p ts ≡ (the_arguments ts >>= λ xs. if (same p (bytes "true")) (when (eqb (size xs.0) 0) (constraint ctrue, xs.1)) (if (same p (bytes "fail")) (when (eqb (size xs.0) 0) (constraint cfail, xs.1)) (some (program p xs.0, xs.1))))
unfolding the_named named the_arguments
named_step p ts = refl

-- ---------------------------------------------------------------------------------------------
-- Statements, brackets and clauses.

statement_step : (ts : List Token) → the_statement ts ≡ (the_simple ts >>= λ s. elim (after comma s.1) as (λ z. Read Statement) [ none ↦ some (single s.0, s.1) | some r ↦ the_statement r >>= λ t. some (joined s.0 t.0, t.1) ])
unfolding the_statement the_simple statement enough
statement_step ts =
    let e : 4 * size ts + 4 ≡ suc (4 * size ts + 3) = omega arith in
    ap (λ (n : ℕ). statement n ts) e
    ∙ bind (size ts) 1 (simple (4 * size ts + 3) ts) (the_simple ts) _ _ (simple_enough (4 * size ts + 3) (4 * size ts + 4) ts (omega arith) (omega arith)) (simple_within (4 * size ts + 3) ts (size ts) 0 (omega arith)) (λ x p.
    fork (size ts) 2 (after comma x.1) (some (single x.0, x.1)) (some (single x.0, x.1)) (λ r. statement (4 * size ts + 3) r >>= λ t. some (joined x.0 t.0, t.1)) (λ r. the_statement r >>= λ t. some (joined x.0 t.0, t.1)) (after_within comma x.1 (size ts) 1 p) refl (λ r q.
    ap (λ (o : Read Statement). o >>= λ t. some (joined x.0 t.0, t.1)) (statement_enough (4 * size ts + 3) (4 * size r + 4) r (omega arith) (omega arith))))

pub statement_none : (ts : List Token) → the_simple ts ≡ none → the_statement ts ≡ none
statement_none ts e = statement_step ts ∙ no_more_read (the_simple ts) _ e

pub statement_single : (ts u : List Token) (s : Simple) → the_simple ts ≡ some (s, u) → after comma u ≡ none → the_statement ts ≡ some (single s, u)
statement_single ts u s e c = statement_step ts ∙ read_on (the_simple ts) (s, u) _ e ∙ fork_no (after comma u) (some (single s, u)) (λ r. the_statement r >>= λ t. some (joined s t.0, t.1)) c

pub statement_joined : (ts u r : List Token) (s : Simple) → the_simple ts ≡ some (s, u) → after comma u ≡ some r → the_statement ts ≡ (the_statement r >>= λ t. some (joined s t.0, t.1))
statement_joined ts u r s e c = statement_step ts ∙ read_on (the_simple ts) (s, u) _ e ∙ fork_is (after comma u) (some (single s, u)) (λ r. the_statement r >>= λ t. some (joined s t.0, t.1)) r c

simple_step : (ts : List Token) → the_simple ts ≡ elim (after open_bracket ts) as (λ z. Read Simple) [ none ↦ the_atom ts | some r ↦ the_bracket r >>= (λ b. after close_bracket b.1 >>= λ u. some (bracket b.0, u)) ]
unfolding the_simple the_bracket the_atom the_equation the_named statement enough
simple_step ts =
    let e : 4 * size ts + 4 ≡ suc (4 * size ts + 3) = omega arith in
    let n : ℕ = 4 * size ts + 3 in
    ap (λ (n : ℕ). simple n ts) e
    ∙ fork (size ts) 1 (after open_bracket ts) (elim (a_variable ts) as (λ z. Read Simple) [ some x ↦ after equals x.1 >>= (λ r. equation (4 * size ts + 3) x.0 r) | none ↦ a_name ts >>= λ p. named (4 * size ts + 3) p.0 p.1 ]) (the_atom ts) (λ r. a_bracket (4 * size ts + 3) r >>= (λ b. after close_bracket b.1 >>= λ u. some (bracket b.0, u))) (λ r. the_bracket r >>= (λ b. after close_bracket b.1 >>= λ u. some (bracket b.0, u))) (after_within open_bracket ts (size ts) 0 (omega arith))
    (fork_read (size ts) 1 (a_variable ts) (a_name ts >>= λ p. named (4 * size ts + 3) p.0 p.1) (a_name ts >>= λ p. the_named p.0 p.1) (λ x. after equals x.1 >>= (λ r. equation (4 * size ts + 3) x.0 r)) (λ x. after equals x.1 >>= (λ r. the_equation x.0 r)) (variable_within ts (size ts) 0 (omega arith))
    (bind (size ts) 1 (a_name ts) (a_name ts) (λ p. named (4 * size ts + 3) p.0 p.1) (λ p. the_named p.0 p.1) refl (name_within ts (size ts) 0 (omega arith)) (λ p q. named_enough (4 * size ts + 3) (4 * size p.1 + 4) p.0 p.1 (omega arith) (omega arith)))
    (λ x p. tail (size ts) 2 (after equals x.1) (λ r. equation (4 * size ts + 3) x.0 r) (λ r. the_equation x.0 r) (after_within equals x.1 (size ts) 1 p) (λ r q. equation_enough (4 * size ts + 3) (4 * size r + 4) x.0 r (omega arith) (omega arith))))
    (λ r q. ap (λ (o : Read Bracket). o >>= (λ b. after close_bracket b.1 >>= λ u. some (bracket b.0, u))) (bracket_enough (4 * size ts + 3) (4 * size r + 4) r (omega arith) (omega arith)))

pub simple_atom : (ts : List Token) → after open_bracket ts ≡ none → the_simple ts ≡ the_atom ts
simple_atom ts e = simple_step ts ∙ fork_no (after open_bracket ts) (the_atom ts) (λ r. the_bracket r >>= (λ b. after close_bracket b.1 >>= λ u. some (bracket b.0, u))) e

pub simple_bracket : (ts r : List Token) → after open_bracket ts ≡ some r → the_simple ts ≡ (the_bracket r >>= (λ b. after close_bracket b.1 >>= λ u. some (bracket b.0, u)))
simple_bracket ts r e = simple_step ts ∙ fork_is (after open_bracket ts) (the_atom ts) (λ r. the_bracket r >>= (λ b. after close_bracket b.1 >>= λ u. some (bracket b.0, u))) r e

bracket_step : (ts : List Token) → the_bracket ts ≡ (the_hidden ts >>= λ xs. the_statement xs.1 >>= first_clause xs.0)
unfolding the_bracket the_hidden the_statement the_others first_clause statement enough
bracket_step ts =
    let e : 4 * size ts + 4 ≡ suc (4 * size ts + 3) = omega arith in
    ap (λ (n : ℕ). a_bracket n ts) e
    ∙ bind (size ts) 0 (hidden (4 * size ts + 3) ts) (the_hidden ts) _ _ (hidden_enough (4 * size ts + 3) (4 * size ts + 4) ts (omega arith) (omega arith)) (hidden_within (4 * size ts + 3) ts (size ts) 0 (omega arith)) (λ xs p.
    bind (size ts) 1 (statement (4 * size ts + 3) xs.1) (the_statement xs.1) _ _ (statement_enough (4 * size ts + 3) (4 * size xs.1 + 4) xs.1 (omega arith) (omega arith)) (statement_within (4 * size ts + 3) xs.1 (size ts) 0 p) (λ g q.
    fork_read (size ts) 2 (an_operator g.1) (some (unclaused xs.0 g.0, g.1)) (some (unclaused xs.0 g.0, g.1)) (λ o. statement (4 * size ts + 3) o.1 >>= λ b. others (4 * size ts + 3) b.1 >>= λ cs. some (choosing (written xs.0 g.0 o.0 b.0) cs.0, cs.1)) (λ o. the_statement o.1 >>= λ b. the_others b.1 >>= λ cs. some (choosing (written xs.0 g.0 o.0 b.0) cs.0, cs.1)) (operator_within g.1 (size ts) 1 q) refl (λ o w.
    bind (size ts) 3 (statement (4 * size ts + 3) o.1) (the_statement o.1) _ _ (statement_enough (4 * size ts + 3) (4 * size o.1 + 4) o.1 (omega arith) (omega arith)) (statement_within (4 * size ts + 3) o.1 (size ts) 2 w) (λ d v.
    ap (λ (c : Read Others). c >>= λ cs. some (choosing (written xs.0 g.0 o.0 d.0) cs.0, cs.1)) (others_enough (4 * size ts + 3) (4 * size d.1 + 4) d.1 (omega arith) (omega arith))))))

pub bracket_none : (ts : List Token) → the_hidden ts ≡ none → the_bracket ts ≡ none
bracket_none ts e = bracket_step ts ∙ no_more_read (the_hidden ts) _ e

pub bracket_hidden : (ts u : List Token) (xs : List Name) → the_hidden ts ≡ some (xs, u) → the_bracket ts ≡ (the_statement u >>= first_clause xs)
bracket_hidden ts u xs e = bracket_step ts ∙ read_on (the_hidden ts) (xs, u) _ e

-- a first statement without an operator, and with one
pub first_no_operator : (xs : List Name) (s : Statement) (u : List Token) → an_operator u ≡ none → first_clause xs (s, u) ≡ some (unclaused xs s, u)
unfolding first_clause
first_no_operator xs s u e = ap (λ (o : Read Op). elim o as (λ z. Read Bracket) [ none ↦ some (unclaused xs s, u) | some o ↦ the_statement o.1 >>= λ b. the_others b.1 >>= λ cs. some (choosing (written xs s o.0 b.0) cs.0, cs.1) ]) e

pub first_operator : (xs : List Name) (s : Statement) (u r : List Token) (op : Op) → an_operator u ≡ some (op, r) → first_clause xs (s, u) ≡ (the_statement r >>= λ b. the_others b.1 >>= λ cs. some (choosing (written xs s op b.0) cs.0, cs.1))
unfolding first_clause
first_operator xs s u r op e = ap (λ (o : Read Op). elim o as (λ z. Read Bracket) [ none ↦ some (unclaused xs s, u) | some o ↦ the_statement o.1 >>= λ b. the_others b.1 >>= λ cs. some (choosing (written xs s o.0 b.0) cs.0, cs.1) ]) e

others_step : (ts : List Token) → the_others ts ≡ elim (after semicolon ts) as (λ z. Read Others) [ none ↦ some (end, ts) | some r ↦ the_clause r >>= λ c. the_others c.1 >>= λ cs. some (and_also c.0 cs.0, cs.1) ]
unfolding the_others the_clause statement enough
others_step ts =
    let e : 4 * size ts + 4 ≡ suc (4 * size ts + 3) = omega arith in
    ap (λ (n : ℕ). others n ts) e
    ∙ fork (size ts) 1 (after semicolon ts) (some (end, ts)) (some (end, ts)) (λ r. a_clause (4 * size ts + 3) r >>= λ c. others (4 * size ts + 3) c.1 >>= λ cs. some (and_also c.0 cs.0, cs.1)) (λ r. the_clause r >>= λ c. the_others c.1 >>= λ cs. some (and_also c.0 cs.0, cs.1)) (after_within semicolon ts (size ts) 0 (omega arith)) refl (λ r q.
    bind (size ts) 1 (a_clause (4 * size ts + 3) r) (the_clause r) _ _ (clause_enough (4 * size ts + 3) (4 * size r + 4) r (omega arith) (omega arith)) (clause_within (4 * size ts + 3) r (size ts) 1 q) (λ c w.
    ap (λ (o : Read Others). o >>= λ cs. some (and_also c.0 cs.0, cs.1)) (others_enough (4 * size ts + 3) (4 * size c.1 + 4) c.1 (omega arith) (omega arith))))

pub others_end : (ts : List Token) → after semicolon ts ≡ none → the_others ts ≡ some (end, ts)
others_end ts e = others_step ts ∙ fork_no (after semicolon ts) (some (end, ts)) (λ r. the_clause r >>= λ c. the_others c.1 >>= λ cs. some (and_also c.0 cs.0, cs.1)) e

pub others_more : (ts r : List Token) → after semicolon ts ≡ some r → the_others ts ≡ (the_clause r >>= λ c. the_others c.1 >>= λ cs. some (and_also c.0 cs.0, cs.1))
others_more ts r e = others_step ts ∙ fork_is (after semicolon ts) (some (end, ts)) (λ r. the_clause r >>= λ c. the_others c.1 >>= λ cs. some (and_also c.0 cs.0, cs.1)) r e

clause_step : (ts : List Token) → the_clause ts ≡ (the_hidden ts >>= λ xs. the_statement xs.1 >>= guard_of xs.0)
unfolding the_clause the_hidden the_statement guard_of statement enough
clause_step ts =
    let e : 4 * size ts + 4 ≡ suc (4 * size ts + 3) = omega arith in
    ap (λ (n : ℕ). a_clause n ts) e
    ∙ bind (size ts) 0 (hidden (4 * size ts + 3) ts) (the_hidden ts) _ _ (hidden_enough (4 * size ts + 3) (4 * size ts + 4) ts (omega arith) (omega arith)) (hidden_within (4 * size ts + 3) ts (size ts) 0 (omega arith)) (λ xs p.
    bind (size ts) 1 (statement (4 * size ts + 3) xs.1) (the_statement xs.1) _ _ (statement_enough (4 * size ts + 3) (4 * size xs.1 + 4) xs.1 (omega arith) (omega arith)) (statement_within (4 * size ts + 3) xs.1 (size ts) 0 p) (λ g q.
    bind (size ts) 2 (an_operator g.1) (an_operator g.1) _ _ refl (operator_within g.1 (size ts) 1 q) (λ o w.
    ap (λ (c : Read Statement). c >>= λ b. some (written xs.0 g.0 o.0 b.0, b.1)) (statement_enough (4 * size ts + 3) (4 * size o.1 + 4) o.1 (omega arith) (omega arith)))))

pub clause_none : (ts : List Token) → the_hidden ts ≡ none → the_clause ts ≡ none
clause_none ts e = clause_step ts ∙ no_more_read (the_hidden ts) _ e

pub clause_hidden : (ts u : List Token) (xs : List Name) → the_hidden ts ≡ some (xs, u) → the_clause ts ≡ (the_statement u >>= guard_of xs)
clause_hidden ts u xs e = clause_step ts ∙ read_on (the_hidden ts) (xs, u) _ e
