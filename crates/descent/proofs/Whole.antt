-- Whole texts: a query is a statement and a full stop, a program one definition after another.
use mathlib.Core.Path.{◌≡◌, refl, ap, sym, ◌∙◌}
use mathlib.Core.List.{List, [], ◌∷◌}
use mathlib.Core.Bool.{Bool, true, false, ◌||◌, not}
use mathlib.Core.Option.{Option, some, none}
use Prim.Native.Nat.{ℕ, zero, suc, ◌+◌, ◌*◌, ◌≤◌, ◌<◌}
use native.Mathlib.Omega.{arith}
use lib.Dec.{eqb}
use Rattle.constraint.specs.Constraint.{ctrue, cfail, ceq, capp}
use Rattle.akl.specs.Base.{Name, bytes, size, same, when, if, ◌>>=◌}
use Rattle.akl.specs.Syntax.{Op}
use Rattle.akl.specs.Token.{Token, Mark, open_bracket, close_bracket, comma, full_stop, colon, defines, equals, semicolon}
use Rattle.akl.specs.Grammar.{Statement, single, joined, Simple, constraint, program, bracket, Bracket, choosing, Clause, written, Others, end, and_also, Definition}
use Rattle.akl.specs.Parse.{Read, after, an_operator, a_variable, a_name, a_label, variables, arguments, hidden, equation, named, unclaused, statement, simple, a_bracket, others, a_clause, nothing_left, parse_query, definition, definitions, parse_program, enough}
use Rattle.descent.specs.Descent.{the_variables, the_arguments, the_hidden, the_equation, the_named, the_statement, the_simple, the_bracket, the_others, the_clause, the_definition, the_atom, first_clause, guard_of}
use Rattle.descent.proofs.Steps.{no_more_read, read_on}
use Rattle.descent.proofs.Calls.{Passes, bind, bind_passes, tail_passes, tail, fork, fork_read, after_within, operator_within, variable_within, name_within, label_within, variables_within, arguments_within, hidden_within, statement_within, simple_within, bracket_within, others_within, clause_within}
use Rattle.descent.proofs.Enough.{variables_enough, arguments_enough, hidden_enough, equation_enough, named_enough, statement_enough, simple_enough, bracket_enough, others_enough, clause_enough}

pub query_step : (ts : List Token) → parse_query ts ≡ (the_statement ts >>= λ s. after full_stop s.1 >>= λ r. nothing_left s.0 r)
unfolding parse_query the_statement
query_step ts = refl

-- the name of a definition is not `true` or `fail`
abbrev pub allowed : Name × List Token → Option (Name × List Token)
allowed p = when (not (same p.0 (bytes "true") || same p.0 (bytes "fail"))) p

allowed_within : (p : Name × List Token) (s k : ℕ) → size p.1 + k ≤ s → Passes s k (allowed p)
allowed_within p s k h = go (not (same p.0 (bytes "true") || same p.0 (bytes "fail")))
  where
    go : (b : Bool) → Passes s k (when b p)
    go true = h
    go false = tt

definition_within : (n : ℕ) (ts : List Token) (s : ℕ) → size ts ≤ s → Passes s 1 (definition n ts)
unfolding definition
definition_within n ts s h =
    bind_passes s 1 1 (a_name ts) _ (name_within ts s 0 (omega arith)) (λ p q.
    bind_passes s 1 1 (allowed p) _ (allowed_within p s 1 q) (λ z y.
    bind_passes s 1 1 (arguments n p.1) _ (arguments_within n p.1 s 1 q) (λ xs w.
    tail_passes s 2 1 (after defines xs.1) _ (after_within defines xs.1 s 1 w) (λ r v.
    bind_passes s 3 1 (statement n r) _ (statement_within n r s 2 v) (λ t u.
    tail_passes s 4 1 (after full_stop t.1) (λ u. some (record { head = p.0; parameters = xs.0; statement = t.0 }, u)) (after_within full_stop t.1 s 3 u) (λ x y. omega arith))))))

definition_enough : (n m : ℕ) (ts : List Token) → 4 * size ts + 2 ≤ n → 4 * size ts + 2 ≤ m → definition n ts ≡ definition m ts
unfolding definition
definition_enough n m ts a b =
    bind (size ts) 1 (a_name ts) (a_name ts) _ _ refl (name_within ts (size ts) 0 (omega arith)) (λ p q.
    bind (size ts) 1 (allowed p) (allowed p) _ _ refl (allowed_within p (size ts) 1 q) (λ z y.
    bind (size ts) 1 (arguments n p.1) (arguments m p.1) _ _ (arguments_enough n m p.1 (omega arith) (omega arith)) (arguments_within n p.1 (size ts) 1 q) (λ xs w.
    tail (size ts) 2 (after defines xs.1) _ _ (after_within defines xs.1 (size ts) 1 w) (λ r v.
    ap (λ (o : Read Statement). o >>= λ t. after full_stop t.1 >>= λ u. some (record { head = p.0; parameters = xs.0; statement = t.0 }, u)) (statement_enough n m r (omega arith) (omega arith))))))

definitions_enough : (n m k j : ℕ) (ts : List Token) → size ts < n → size ts < m → 4 * size ts + 2 ≤ k → 4 * size ts + 2 ≤ j → definitions n k ts ≡ definitions m j ts
unfolding definitions size
definitions_enough zero m k j ts a b c d = absurd (omega arith)
definitions_enough (suc n) zero k j ts a b c d = absurd (omega arith)
definitions_enough (suc n) (suc m) k j [] a b c d = refl
definitions_enough (suc n) (suc m) k j (t ∷ ts) a b c d = go (definition k (t ∷ ts)) (definition j (t ∷ ts)) (definition_enough k j (t ∷ ts) c d) (definition_within k (t ∷ ts) (suc (size ts)) (omega arith)) (λ r h. definitions_enough n m k j r (omega arith) (omega arith) (omega arith) (omega arith))
  where
    go : (o o' : Read Definition) → o ≡ o' → Passes (suc (size ts)) 1 o → ((r : List Token) → size r + 1 ≤ suc (size ts) → definitions n k r ≡ definitions m j r) → (o >>= λ d. definitions n k d.1 >>= λ ds. some (d.0 ∷ ds)) ≡ (o' >>= λ d. definitions m j d.1 >>= λ ds. some (d.0 ∷ ds))
    go none o' e p h = ap (λ (x : Read Definition). x >>= λ d. definitions m j d.1 >>= λ ds. some (d.0 ∷ ds)) e
    go (some d) o' e p h = ap (λ (x : Option (List Definition)). x >>= λ ds. some (d.0 ∷ ds)) (h d.1 p) ∙ ap (λ (x : Read Definition). x >>= λ d. definitions m j d.1 >>= λ ds. some (d.0 ∷ ds)) e

pub program_empty : parse_program [] ≡ some []
unfolding parse_program definitions size
program_empty = refl

program_step : (t : Token) (ts : List Token) → parse_program (t ∷ ts) ≡ (the_definition (t ∷ ts) >>= λ d. parse_program d.1 >>= λ ds. some (d.0 ∷ ds))
unfolding parse_program definitions the_definition enough size
program_step t ts = go (the_definition (t ∷ ts)) (definition_within (4 * suc (size ts) + 4) (t ∷ ts) (suc (size ts)) (omega arith))
  where
    go : (o : Read Definition) → Passes (suc (size ts)) 1 o → (o >>= λ d. definitions (suc (size ts)) (4 * suc (size ts) + 4) d.1 >>= λ ds. some (d.0 ∷ ds)) ≡ (o >>= λ d. definitions (suc (size d.1)) (4 * size d.1 + 4) d.1 >>= λ ds. some (d.0 ∷ ds))
    go none p = refl
    go (some d) p = ap (λ (x : Option (List Definition)). x >>= λ ds. some (d.0 ∷ ds)) (definitions_enough (suc (size ts)) (suc (size d.1)) (4 * suc (size ts) + 4) (4 * size d.1 + 4) d.1 (omega arith) (omega arith) (omega arith) (omega arith))

abbrev NotEmpty : List Token → Type 0
NotEmpty [] = ⊥
NotEmpty (t ∷ ts) = Unit {0}

-- a program that is not empty: its first definition, and the program behind it
pub program_more : (ts u : List Token) (d : Definition) → the_definition ts ≡ some (d, u) → parse_program ts ≡ (parse_program u >>= λ ds. some (d ∷ ds))
unfolding the_definition definition
program_more [] u d e = absurd (go e)
  where
    go : ◌≡◌ {A = Read Definition} none (some (d, u)) → ⊥
    go z = let b : ◌≡◌ {A = ℕ} 0 1 = ap (λ (o : Read Definition). elim o as (λ z. ℕ) [ none ↦ 0 | some x ↦ 1 ]) z in omega arith
program_more (t ∷ ts) u d e = program_step t ts ∙ read_on (the_definition (t ∷ ts)) (d, u) _ e

pub program_none : (ts : List Token) → NotEmpty ts → the_definition ts ≡ none → parse_program ts ≡ none
program_none [] h e = absurd h
program_none (t ∷ ts) h e = program_step t ts ∙ no_more_read (the_definition (t ∷ ts)) _ e

definition_step : (ts : List Token) → the_definition ts ≡ (a_name ts >>= λ p. allowed p >>= λ q. the_arguments p.1 >>= λ xs. after defines xs.1 >>= λ r. the_statement r >>= λ s. after full_stop s.1 >>= λ u. some (record { head = p.0; parameters = xs.0; statement = s.0 }, u))
unfolding the_definition definition the_arguments the_statement enough
definition_step ts =
    bind (size ts) 1 (a_name ts) (a_name ts) _ _ refl (name_within ts (size ts) 0 (omega arith)) (λ p q.
    bind (size ts) 1 (allowed p) (allowed p) _ _ refl (allowed_within p (size ts) 1 q) (λ z y.
    bind (size ts) 1 (arguments (4 * size ts + 4) p.1) (the_arguments p.1) _ _ (arguments_enough (4 * size ts + 4) (4 * size p.1 + 4) p.1 (omega arith) (omega arith)) (arguments_within (4 * size ts + 4) p.1 (size ts) 1 q) (λ xs w.
    tail (size ts) 2 (after defines xs.1) _ _ (after_within defines xs.1 (size ts) 1 w) (λ r v.
    ap (λ (o : Read Statement). o >>= λ t. after full_stop t.1 >>= λ u. some (record { head = p.0; parameters = xs.0; statement = t.0 }, u)) (statement_enough (4 * size ts + 4) (4 * size r + 4) r (omega arith) (omega arith))))))

pub definition_no_name : (ts : List Token) → a_name ts ≡ none → the_definition ts ≡ none
definition_no_name ts e = definition_step ts ∙ no_more_read (a_name ts) _ e

pub definition_named : (ts u : List Token) (p : Name) → a_name ts ≡ some (p, u) → the_definition ts ≡ (allowed (p, u) >>= λ q. the_arguments u >>= λ xs. after defines xs.1 >>= λ r. the_statement r >>= λ s. after full_stop s.1 >>= λ v. some (record { head = p; parameters = xs.0; statement = s.0 }, v))
definition_named ts u p e = definition_step ts ∙ read_on (a_name ts) (p, u) _ e
