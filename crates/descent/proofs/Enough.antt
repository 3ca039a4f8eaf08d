-- More calls than enough change nothing.
use mathlib.Core.Path.{◌≡◌, refl, ap, sym, ◌∙◌}
use mathlib.Core.List.{List, [], ◌∷◌}
use mathlib.Core.Bool.{Bool, true, false}
use mathlib.Core.Option.{Option, some, none}
use Prim.Native.Nat.{ℕ, zero, suc, ◌+◌, ◌*◌, ◌≤◌}
use native.Mathlib.Omega.{arith}
use lib.Dec.{eqb}
use Rattle.constraint.specs.Constraint.{ctrue, cfail, ceq, capp}
use Rattle.akl.specs.Base.{Name, bytes, size, same, when, if, ◌>>=◌}
use Rattle.akl.specs.Syntax.{Op, wait, cond, commit}
use Rattle.akl.specs.Token.{Token, name, digits, variable, sign, Mark, open_bracket, close_bracket, comma, full_stop, colon, defines, equals, semicolon, operator}
use Rattle.akl.specs.Grammar.{Statement, single, joined, Simple, constraint, program, bracket, Bracket, choosing, Clause, written, Others, end, and_also, Definition}
use Rattle.akl.specs.Parse.{Read, mark_number, after, an_operator, a_variable, a_name, a_label, variables, arguments, hidden, equation, named, unclaused, statement, simple, a_bracket, others, a_clause, definition, enough}
use Rattle.descent.proofs.Calls.{bind, tail, fork, fork_read, after_within, operator_within, variable_within, name_within, label_within, variables_within, arguments_within, hidden_within, statement_within, simple_within, bracket_within, others_within, clause_within}

pub variables_enough : (n m : ℕ) (ts : List Token) → size ts ≤ n → size ts ≤ m → variables n ts ≡ variables m ts
unfolding variables size
variables_enough zero zero ts a b = refl
variables_enough zero (suc m) [] a b = refl
variables_enough zero (suc m) (t ∷ ts) a b = absurd (omega arith)
variables_enough (suc n) zero [] a b = refl
variables_enough (suc n) zero (t ∷ ts) a b = absurd (omega arith)
variables_enough (suc n) (suc m) ts a b =
    bind (size ts) 1 (a_variable ts) (a_variable ts) _ _ refl (variable_within ts (size ts) 0 (omega arith)) (λ x p.
    fork (size ts) 2 (after comma x.1) (some (x.0 ∷ [], x.1)) (some (x.0 ∷ [], x.1)) (λ r. variables n r >>= λ xs. some (x.0 ∷ xs.0, xs.1)) (λ r. variables m r >>= λ xs. some (x.0 ∷ xs.0, xs.1)) (after_within comma x.1 (size ts) 1 p) refl (λ r q.
    ap (λ (o : Read (List Name)). o >>= λ xs. some (x.0 ∷ xs.0, xs.1)) (variables_enough n m r (omega arith) (omega arith))))

pub arguments_enough : (n m : ℕ) (ts : List Token) → size ts ≤ n → size ts ≤ m → arguments n ts ≡ arguments m ts
unfolding arguments
arguments_enough n m ts a b =
    fork (size ts) 1 (after open_bracket ts) (some ([], ts)) (some ([], ts)) (λ r. variables n r >>= λ xs. after close_bracket xs.1 >>= λ u. some (xs.0, u)) (λ r. variables m r >>= λ xs. after close_bracket xs.1 >>= λ u. some (xs.0, u)) (after_within open_bracket ts (size ts) 0 (omega arith)) refl (λ r q.
    ap (λ (o : Read (List Name)). o >>= λ xs. after close_bracket xs.1 >>= λ u. some (xs.0, u)) (variables_enough n m r (omega arith) (omega arith)))

pub hidden_enough : (n m : ℕ) (ts : List Token) → size ts ≤ n → size ts ≤ m → hidden n ts ≡ hidden m ts
unfolding hidden
hidden_enough n m ts a b =
    ap (λ (o : Read (List Name)). elim (a_variable ts) as (λ z. Read (List Name)) [ none ↦ some ([], ts) | some x ↦ elim (after equals x.1) as (λ z. Read (List Name)) [ none ↦ o >>= λ xs. after colon xs.1 >>= λ u. some (xs.0, u) | some r ↦ some ([], ts) ] ]) (variables_enough n m ts a b)

pub equation_enough : (n m : ℕ) (x : Name) (ts : List Token) → size ts ≤ n → size ts ≤ m → equation n x ts ≡ equation m x ts
unfolding equation
equation_enough n m x ts a b =
    fork_read (size ts) 1 (a_variable ts) (a_label ts >>= λ f. arguments n f.1 >>= λ ys. some (constraint (capp x f.0 ys.0), ys.1)) (a_label ts >>= λ f. arguments m f.1 >>= λ ys. some (constraint (capp x f.0 ys.0), ys.1)) (λ y. some (constraint (ceq x y.0), y.1)) (λ y. some (constraint (ceq x y.0), y.1)) (variable_within ts (size ts) 0 (omega arith))
    (bind (size ts) 1 (a_label ts) (a_label ts) _ _ refl (label_within ts (size ts) 0 (omega arith)) (λ f p. ap (λ (o : Read (List Name)). o >>= λ ys. some (constraint (capp x f.0 ys.0), ys.1)) (arguments_enough n m f.1 (omega arith) (omega arith))))
    (λ y p. refl)

pub named_enough : (n m : ℕ) (p : Name) (ts : List Token) → size ts ≤ n → size ts ≤ m → named n p ts ≡ named m p ts
unfolding named
named_enough n m p ts a b = ap (λ (o : Read (List Name)). o >>= λ xs. if (same p (bytes "true")) (when (eqb (size xs.0) 0) (constraint ctrue, xs.1)) (if (same p (bytes "fail")) (when (eqb (size xs.0) 0) (constraint cfail, xs.1)) (some (program p xs.0, xs.1)))) (arguments_enough n m ts a b)

mutual
  unfolding statement

  pub statement_enough : (n m : ℕ) (ts : List Token) → 4 * size ts + 2 ≤ n → 4 * size ts + 2 ≤ m → statement n ts ≡ statement m ts
  statement_enough zero m ts a b = absurd (omega arith)
  statement_enough (suc n) zero ts a b = absurd (omega arith)
  statement_enough (suc n) (suc m) ts a b =
      bind (size ts) 1 (simple n ts) (simple m ts) _ _ (simple_enough n m ts (omega arith) (omega arith)) (simple_within n ts (size ts) 0 (omega arith)) (λ x p.
      fork (size ts) 2 (after comma x.1) (some (single x.0, x.1)) (some (single x.0, x.1)) (λ r. statement n r >>= λ t. some (joined x.0 t.0, t.1)) (λ r. statement m r >>= λ t. some (joined x.0 t.0, t.1)) (after_within comma x.1 (size ts) 1 p) refl (λ r q.
      ap (λ (o : Read Statement). o >>= λ t. some (joined x.0 t.0, t.1)) (statement_enough n m r (omega arith) (omega arith))))

  pub simple_enough : (n m : ℕ) (ts : List Token) → 4 * size ts + 1 ≤ n → 4 * size ts + 1 ≤ m → simple n ts ≡ simple m ts
  simple_enough zero m ts a b = absurd (omega arith)
  simple_enough (suc n) zero ts a b = absurd (omega arith)
  simple_enough (suc n) (suc m) ts a b =
      fork (size ts) 1 (after open_bracket ts) (elim (a_variable ts) as (λ z. Read Simple) [ some x ↦ after equals x.1 >>= (λ r. equation n x.0 r) | none ↦ a_name ts >>= λ p. named n p.0 p.1 ]) (elim (a_variable ts) as (λ z. Read Simple) [ some x ↦ after equals x.1 >>= (λ r. equation m x.0 r) | none ↦ a_name ts >>= λ p. named m p.0 p.1 ]) (λ r. a_bracket n r >>= (λ b. after close_bracket b.1 >>= λ u. some (bracket b.0, u))) (λ r. a_bracket m r >>= (λ b. after close_bracket b.1 >>= λ u. some (bracket b.0, u))) (after_within open_bracket ts (size ts) 0 (omega arith))
      (fork_read (size ts) 1 (a_variable ts) (a_name ts >>= λ p. named n p.0 p.1) (a_name ts >>= λ p. named m p.0 p.1) (λ x. after equals x.1 >>= (λ r. equation n x.0 r)) (λ x. after equals x.1 >>= (λ r. equation m x.0 r)) (variable_within ts (size ts) 0 (omega arith))
      (bind (size ts) 1 (a_name ts) (a_name ts) (λ p. named n p.0 p.1) (λ p. named m p.0 p.1) refl (name_within ts (size ts) 0 (omega arith)) (λ p q. named_enough n m p.0 p.1 (omega arith) (omega arith)))
      (λ x p. tail (size ts) 2 (after equals x.1) (λ r. equation n x.0 r) (λ r. equation m x.0 r) (after_within equals x.1 (size ts) 1 p) (λ r q. equation_enough n m x.0 r (omega arith) (omega arith))))
      (λ r q. ap (λ (o : Read Bracket). o >>= (λ b. after close_bracket b.1 >>= λ u. some (bracket b.0, u))) (bracket_enough n m r (omega arith) (omega arith)))

  pub bracket_enough : (n m : ℕ) (ts : List Token) → 4 * size ts + 3 ≤ n → 4 * size ts + 3 ≤ m → a_bracket n ts ≡ a_bracket m ts
  bracket_enough zero m ts a b = absurd (omega arith)
  bracket_enough (suc n) zero ts a b = absurd (omega arith)
  bracket_enough (suc n) (suc m) ts a b =
      bind (size ts) 0 (hidden n ts) (hidden m ts) _ _ (hidden_enough n m ts (omega arith) (omega arith)) (hidden_within n ts (size ts) 0 (omega arith)) (λ xs p.
      bind (size ts) 1 (statement n xs.1) (statement m xs.1) _ _ (statement_enough n m xs.1 (omega arith) (omega arith)) (statement_within n xs.1 (size ts) 0 p) (λ g q.
      fork_read (size ts) 2 (an_operator g.1) (some (unclaused xs.0 g.0, g.1)) (some (unclaused xs.0 g.0, g.1)) (λ o. statement n o.1 >>= λ b. others n b.1 >>= λ cs. some (choosing (written xs.0 g.0 o.0 b.0) cs.0, cs.1)) (λ o. statement m o.1 >>= λ b. others m b.1 >>= λ cs. some (choosing (written xs.0 g.0 o.0 b.0) cs.0, cs.1)) (operator_within g.1 (size ts) 1 q) refl (λ o w.
      bind (size ts) 3 (statement n o.1) (statement m o.1) _ _ (statement_enough n m o.1 (omega arith) (omega arith)) (statement_within n o.1 (size ts) 2 w) (λ d v.
      ap (λ (c : Read Others). c >>= λ cs. some (choosing (written xs.0 g.0 o.0 d.0) cs.0, cs.1)) (others_enough n m d.1 (omega arith) (omega arith))))))

  pub others_enough : (n m : ℕ) (ts : List Token) → 4 * size ts + 1 ≤ n → 4 * size ts + 1 ≤ m → others n ts ≡ others m ts
  others_enough zero m ts a b = absurd (omega arith)
  others_enough (suc n) zero ts a b = absurd (omega arith)
  others_enough (suc n) (suc m) ts a b =
      fork (size ts) 1 (after semicolon ts) (some (end, ts)) (some (end, ts)) (λ r. a_clause n r >>= λ c. others n c.1 >>= λ cs. some (and_also c.0 cs.0, cs.1)) (λ r. a_clause m r >>= λ c. others m c.1 >>= λ cs. some (and_also c.0 cs.0, cs.1)) (after_within semicolon ts (size ts) 0 (omega arith)) refl (λ r q.
      bind (size ts) 1 (a_clause n r) (a_clause m r) _ _ (clause_enough n m r (omega arith) (omega arith)) (clause_within n r (size ts) 1 q) (λ c w.
      ap (λ (o : Read Others). o >>= λ cs. some (and_also c.0 cs.0, cs.1)) (others_enough n m c.1 (omega arith) (omega arith))))

  pub clause_enough : (n m : ℕ) (ts : List Token) → 4 * size ts + 3 ≤ n → 4 * size ts + 3 ≤ m → a_clause n ts ≡ a_clause m ts
  clause_enough zero m ts a b = absurd (omega arith)
  clause_enough (suc n) zero ts a b = absurd (omega arith)
  clause_enough (suc n) (suc m) ts a b =
      bind (size ts) 0 (hidden n ts) (hidden m ts) _ _ (hidden_enough n m ts (omega arith) (omega arith)) (hidden_within n ts (size ts) 0 (omega arith)) (λ xs p.
      bind (size ts) 1 (statement n xs.1) (statement m xs.1) _ _ (statement_enough n m xs.1 (omega arith) (omega arith)) (statement_within n xs.1 (size ts) 0 p) (λ g q.
      bind (size ts) 2 (an_operator g.1) (an_operator g.1) _ _ refl (operator_within g.1 (size ts) 1 q) (λ o w.
      ap (λ (c : Read Statement). c >>= λ b. some (written xs.0 g.0 o.0 b.0, b.1)) (statement_enough n m o.1 (omega arith) (omega arith)))))
