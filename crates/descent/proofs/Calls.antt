-- How many tokens the grammar's functions pass, and how their compositions agree.
use mathlib.Core.Path.{◌≡◌, refl, ap, sym, ◌∙◌}
use mathlib.Core.List.{List, [], ◌∷◌}
use mathlib.Core.Bool.{Bool, true, false}
use mathlib.Core.Option.{Option, some, none}
use Prim.Native.Nat.{ℕ, zero, suc, ◌+◌, ◌*◌, ◌≤◌}
use native.Mathlib.Omega.{arith}
use lib.Dec.{eqb}
use Rattle.constraint.specs.Constraint.{ctrue, cfail, ceq, capp}
use Rattle.akl.specs.Base.{Name, bytes, size, same, when, if, ◌>>=◌}
use Rattle.akl.specs.Syntax.{Op, wait, cond, commit}
use Rattle.akl.specs.Token.{Token, name, digits, variable, sign, Mark, open_bracket, close_bracket, comma, full_stop, colon, defines, equals, semicolon, operator}
use Rattle.akl.specs.Grammar.{Statement, single, joined, Simple, constraint, program, bracket, Bracket, choosing, Clause, written, Others, end, and_also, Definition}
use Rattle.akl.specs.Parse.{Read, mark_number, after, an_operator, a_variable, a_name, a_label, variables, arguments, hidden, equation, named, unclaused, statement, simple, a_bracket, others, a_clause, definition, enough}

-- k tokens at least were passed of s
abbrev pub Passes : {A : Type 0} → ℕ → ℕ → Read A → Type 0
Passes s k none = Unit {0}
Passes s k (some r) = size r.1 + k ≤ s

abbrev pub PassesTail : ℕ → ℕ → Option (List Token) → Type 0
PassesTail s k none = Unit {0}
PassesTail s k (some r) = size r + k ≤ s

-- ---------------------------------------------------------------------------------------------
-- Composition: what is read first agrees, and so does what goes on with it.

pub bind : {A B : Type 0} (s k : ℕ) (o o' : Read A) (f g : A × List Token → Read B) → o ≡ o' → Passes s k o → ((r : A × List Token) → size r.1 + k ≤ s → f r ≡ g r) → (o >>= f) ≡ (o' >>= g)
bind s k none o' f g e p h = ap (λ (x : Read _). x >>= g) e
bind s k (some r) o' f g e p h = h r p ∙ ap (λ (x : Read _). x >>= g) e

pub tail : {B : Type 0} (s k : ℕ) (o : Option (List Token)) (f g : List Token → Read B) → PassesTail s k o → ((r : List Token) → size r + k ≤ s → f r ≡ g r) → (o >>= f) ≡ (o >>= g)
tail s k none f g p h = refl
tail s k (some r) f g p h = h r p

pub fork : {B : Type 0} (s k : ℕ) (o : Option (List Token)) (x y : Read B) (f g : List Token → Read B) → PassesTail s k o → x ≡ y → ((r : List Token) → size r + k ≤ s → f r ≡ g r) → ◌≡◌ {A = Read B} (elim o as (λ z. Read B) [ none ↦ x | some u ↦ f u ]) (elim o as (λ z. Read B) [ none ↦ y | some u ↦ g u ])
fork s k none x y f g p e h = e
fork s k (some r) x y f g p e h = h r p

pub fork_read : {A B : Type 0} (s k : ℕ) (o : Read A) (x y : Read B) (f g : A × List Token → Read B) → Passes s k o → x ≡ y → ((r : A × List Token) → size r.1 + k ≤ s → f r ≡ g r) → ◌≡◌ {A = Read B} (elim o as (λ z. Read B) [ none ↦ x | some u ↦ f u ]) (elim o as (λ z. Read B) [ none ↦ y | some u ↦ g u ])
fork_read s k none x y f g p e h = e
fork_read s k (some r) x y f g p e h = h r p

-- ---------------------------------------------------------------------------------------------
-- How many tokens are passed.

pub bind_passes : {A B : Type 0} (s k j : ℕ) (o : Read A) (f : A × List Token → Read B) → Passes s k o → ((r : A × List Token) → size r.1 + k ≤ s → Passes s j (f r)) → Passes s j (o >>= f)
bind_passes s k j none f p h = tt
bind_passes s k j (some r) f p h = h r p

pub tail_passes : {B : Type 0} (s k j : ℕ) (o : Option (List Token)) (f : List Token → Read B) → PassesTail s k o → ((r : List Token) → size r + k ≤ s → Passes s j (f r)) → Passes s j (o >>= f)
tail_passes s k j none f p h = tt
tail_passes s k j (some r) f p h = h r p

fork_passes : {B : Type 0} (s k j : ℕ) (o : Option (List Token)) (x : Read B) (f : List Token → Read B) → PassesTail s k o → Passes s j x → ((r : List Token) → size r + k ≤ s → Passes s j (f r)) → Passes {A = B} s j (elim o as (λ z. Read B) [ none ↦ x | some u ↦ f u ])
fork_passes s k j none x f p e h = e
fork_passes s k j (some r) x f p e h = h r p

fork_read_passes : {A B : Type 0} (s k j : ℕ) (o : Read A) (x : Read B) (f : A × List Token → Read B) → Passes s k o → Passes s j x → ((r : A × List Token) → size r.1 + k ≤ s → Passes s j (f r)) → Passes {A = B} s j (elim o as (λ z. Read B) [ none ↦ x | some u ↦ f u ])
fork_read_passes s k j none x f p e h = e
fork_read_passes s k j (some r) x f p e h = h r p

-- from fewer tokens
fewer : {A : Type 0} (s t k j : ℕ) (o : Read A) → Passes t k o → t + j ≤ s + k → Passes s j o
fewer s t k j none p h = tt
fewer s t k j (some r) p h = omega arith

after_passes : (m : Mark) (ts : List Token) → PassesTail (size ts) 1 (after m ts)
unfolding size
after_passes m [] = tt
after_passes m (name w ∷ ts) = tt
after_passes m (digits w ∷ ts) = tt
after_passes m (variable w ∷ ts) = tt
after_passes m (sign k ∷ ts) = go (eqb (mark_number m) (mark_number k))
  where
    go : (b : Bool) → PassesTail (suc (size ts)) 1 (when b ts)
    go true = omega arith
    go false = tt

pub after_within : (m : Mark) (ts : List Token) (s k : ℕ) → size ts + k ≤ s → PassesTail s (suc k) (after m ts)
after_within m ts s k h = go (after m ts) (after_passes m ts)
  where
    go : (o : Option (List Token)) → PassesTail (size ts) 1 o → PassesTail s (suc k) o
    go none p = tt
    go (some r) p = omega arith

pub operator_within : (ts : List Token) (s k : ℕ) → size ts + k ≤ s → Passes s (suc k) (an_operator ts)
unfolding size
operator_within [] s k h = tt
operator_within (name w ∷ ts) s k h = tt
operator_within (digits w ∷ ts) s k h = tt
operator_within (variable w ∷ ts) s k h = tt
operator_within (sign open_bracket ∷ ts) s k h = tt
operator_within (sign close_bracket ∷ ts) s k h = tt
operator_within (sign comma ∷ ts) s k h = tt
operator_within (sign full_stop ∷ ts) s k h = tt
operator_within (sign colon ∷ ts) s k h = tt
operator_within (sign defines ∷ ts) s k h = tt
operator_within (sign equals ∷ ts) s k h = tt
operator_within (sign semicolon ∷ ts) s k h = tt
operator_within (sign (operator op) ∷ ts) s k h = omega arith

pub variable_within : (ts : List Token) (s k : ℕ) → size ts + k ≤ s → Passes s (suc k) (a_variable ts)
unfolding size
variable_within [] s k h = tt
variable_within (name w ∷ ts) s k h = tt
variable_within (digits w ∷ ts) s k h = tt
variable_within (variable w ∷ ts) s k h = omega arith
variable_within (sign m ∷ ts) s k h = tt

pub name_within : (ts : List Token) (s k : ℕ) → size ts + k ≤ s → Passes s (suc k) (a_name ts)
unfolding size
name_within [] s k h = tt
name_within (name w ∷ ts) s k h = omega arith
name_within (digits w ∷ ts) s k h = tt
name_within (variable w ∷ ts) s k h = tt
name_within (sign m ∷ ts) s k h = tt

pub label_within : (ts : List Token) (s k : ℕ) → size ts + k ≤ s → Passes s (suc k) (a_label ts)
unfolding size
label_within [] s k h = tt
label_within (name w ∷ ts) s k h = omega arith
label_within (digits w ∷ ts) s k h = omega arith
label_within (variable w ∷ ts) s k h = tt
label_within (sign m ∷ ts) s k h = tt

pub variables_within : (n : ℕ) (ts : List Token) (s k : ℕ) → size ts + k ≤ s → Passes s (suc k) (variables n ts)
unfolding variables
variables_within zero ts s k h = tt
variables_within (suc n) ts s k h =
    bind_passes s (suc k) (suc k) (a_variable ts) _ (variable_within ts s k h) (λ x p.
    fork_passes s (suc (suc k)) (suc k) (after comma x.1) (some (x.0 ∷ [], x.1)) (λ r. variables n r >>= λ xs. some (x.0 ∷ xs.0, xs.1)) (after_within comma x.1 s (suc k) p) p (λ r q.
    bind_passes s (suc (suc (suc k))) (suc k) (variables n r) (λ xs. some (x.0 ∷ xs.0, xs.1)) (variables_within n r s (suc (suc k)) q) (λ xs w. omega arith)))

pub arguments_within : (n : ℕ) (ts : List Token) (s k : ℕ) → size ts + k ≤ s → Passes s k (arguments n ts)
unfolding arguments
arguments_within n ts s k h =
    fork_passes s (suc k) k (after open_bracket ts) (some ([], ts)) (λ r. variables n r >>= λ xs. after close_bracket xs.1 >>= λ u. some (xs.0, u)) (after_within open_bracket ts s k h) h (λ r q.
    bind_passes s (suc (suc k)) k (variables n r) _ (variables_within n r s (suc k) q) (λ xs w.
    tail_passes s (suc (suc (suc k))) k (after close_bracket xs.1) (λ u. some (xs.0, u)) (after_within close_bracket xs.1 s (suc (suc k)) w) (λ u v. omega arith)))

pub hidden_within : (n : ℕ) (ts : List Token) (s k : ℕ) → size ts + k ≤ s → Passes s k (hidden n ts)
unfolding hidden
hidden_within n ts s k h =
    fork_read_passes s (suc k) k (a_variable ts) (some ([], ts)) (λ x. elim (after equals x.1) as (λ z. Read (List Name)) [ none ↦ variables n ts >>= λ xs. after colon xs.1 >>= λ u. some (xs.0, u) | some r ↦ some ([], ts) ]) (variable_within ts s k h) h (λ x p.
    fork_passes s (suc (suc k)) k (after equals x.1) (variables n ts >>= λ xs. after colon xs.1 >>= λ u. some (xs.0, u)) (λ r. some ([], ts)) (after_within equals x.1 s (suc k) p)
    (bind_passes s (suc k) k (variables n ts) _ (variables_within n ts s k h) (λ xs w. tail_passes s (suc (suc k)) k (after colon xs.1) (λ u. some (xs.0, u)) (after_within colon xs.1 s (suc k) w) (λ u v. omega arith)))
    (λ r q. h))

simple_leaf : (n : ℕ) (x : Name) (ts : List Token) (s k : ℕ) → size ts + k ≤ s → Passes s (suc k) (equation n x ts)
unfolding equation
simple_leaf n x ts s k h = go (a_variable ts) (variable_within ts s k h)
  where
    go : (o : Read Name) → Passes s (suc k) o → Passes {A = Simple} s (suc k) (elim o as (λ z. Read Simple) [ some y ↦ some (constraint (ceq x y.0), y.1) | none ↦ a_label ts >>= λ f. arguments n f.1 >>= λ ys. some (constraint (capp x f.0 ys.0), ys.1) ])
    go (some y) p = p
    go none p = bind_passes s (suc k) (suc k) (a_label ts) _ (label_within ts s k h) (λ f q. bind_passes s (suc k) (suc k) (arguments n f.1) (λ ys. some (constraint (capp x f.0 ys.0), ys.1)) (arguments_within n f.1 s (suc k) q) (λ ys w. w))

pub named_within : (n : ℕ) (p : Name) (ts : List Token) (s k : ℕ) → size ts + k ≤ s → Passes s k (named n p ts)
unfolding named
named_within n p ts s k h = bind_passes s k k (arguments n ts) _ (arguments_within n ts s k h) (λ xs w. go xs w (same p (bytes "true")) (same p (bytes "fail")) (eqb (size xs.0) 0))
  where
    go : (xs : List Name × List Token) → size xs.1 + k ≤ s → (t f z : Bool) → Passes {A = Simple} s k (if t (when z (constraint ctrue, xs.1)) (if f (when z (constraint cfail, xs.1)) (some (program p xs.0, xs.1))))
    go xs w true f true = w
    go xs w true f false = tt
    go xs w false true true = w
    go xs w false true false = tt
    go xs w false false z = w

mutual
  unfolding statement

  pub statement_within : (n : ℕ) (ts : List Token) (s k : ℕ) → size ts + k ≤ s → Passes s (suc k) (statement n ts)
  statement_within zero ts s k h = tt
  statement_within (suc n) ts s k h =
      bind_passes s (suc k) (suc k) (simple n ts) _ (simple_within n ts s k h) (λ x p.
      fork_passes s (suc (suc k)) (suc k) (after comma x.1) (some (single x.0, x.1)) (λ r. statement n r >>= λ t. some (joined x.0 t.0, t.1)) (after_within comma x.1 s (suc k) p) p (λ r q.
      bind_passes s (suc (suc (suc k))) (suc k) (statement n r) (λ t. some (joined x.0 t.0, t.1)) (statement_within n r s (suc (suc k)) q) (λ t w. omega arith)))

  pub simple_within : (n : ℕ) (ts : List Token) (s k : ℕ) → size ts + k ≤ s → Passes s (suc k) (simple n ts)
  simple_within zero ts s k h = tt
  simple_within (suc n) ts s k h =
      fork_passes s (suc k) (suc k) (after open_bracket ts) (elim (a_variable ts) as (λ z. Read Simple) [ some x ↦ after equals x.1 >>= (λ r. equation n x.0 r) | none ↦ a_name ts >>= λ p. named n p.0 p.1 ]) (λ r. a_bracket n r >>= (λ b. after close_bracket b.1 >>= λ u. some (bracket b.0, u)))
      (after_within open_bracket ts s k h)
      (fork_read_passes s (suc k) (suc k) (a_variable ts) (a_name ts >>= λ p. named n p.0 p.1) (λ x. after equals x.1 >>= (λ r. equation n x.0 r)) (variable_within ts s k h)
      (bind_passes s (suc k) (suc k) (a_name ts) (λ p. named n p.0 p.1) (name_within ts s k h) (λ p q. named_within n p.0 p.1 s (suc k) q))
      (λ x p. tail_passes s (suc (suc k)) (suc k) (after equals x.1) (λ r. equation n x.0 r) (after_within equals x.1 s (suc k) p) (λ r q. fewer s s (suc (suc (suc k))) (suc k) (equation n x.0 r) (simple_leaf n x.0 r s (suc (suc k)) q) (omega arith))))
      (λ r q. bind_passes s (suc k) (suc k) (a_bracket n r) _ (bracket_within n r s (suc k) q) (λ b w. tail_passes s (suc (suc k)) (suc k) (after close_bracket b.1) (λ u. some (bracket b.0, u)) (after_within close_bracket b.1 s (suc k) w) (λ u v. omega arith)))

  pub bracket_within : (n : ℕ) (ts : List Token) (s k : ℕ) → size ts + k ≤ s → Passes s k (a_bracket n ts)
  bracket_within zero ts s k h = tt
  bracket_within (suc n) ts s k h =
      bind_passes s k k (hidden n ts) _ (hidden_within n ts s k h) (λ xs p.
      bind_passes s (suc k) k (statement n xs.1) _ (statement_within n xs.1 s k p) (λ g q.
      fork_read_passes s (suc (suc k)) k (an_operator g.1) (some (unclaused xs.0 g.0, g.1)) (λ o. statement n o.1 >>= λ b. others n b.1 >>= λ cs. some (choosing (written xs.0 g.0 o.0 b.0) cs.0, cs.1)) (operator_within g.1 s (suc k) q) (omega arith) (λ o w.
      bind_passes s (suc (suc (suc k))) k (statement n o.1) _ (statement_within n o.1 s (suc (suc k)) w) (λ b v.
      bind_passes s (suc (suc (suc k))) k (others n b.1) (λ cs. some (choosing (written xs.0 g.0 o.0 b.0) cs.0, cs.1)) (others_within n b.1 s (suc (suc (suc k))) v) (λ cs u. omega arith)))))

  pub others_within : (n : ℕ) (ts : List Token) (s k : ℕ) → size ts + k ≤ s → Passes s k (others n ts)
  others_within zero ts s k h = tt
  others_within (suc n) ts s k h =
      fork_passes s (suc k) k (after semicolon ts) (some (end, ts)) (λ r. a_clause n r >>= λ c. others n c.1 >>= λ cs. some (and_also c.0 cs.0, cs.1)) (after_within semicolon ts s k h) h (λ r q.
      bind_passes s (suc k) k (a_clause n r) _ (clause_within n r s (suc k) q) (λ c w.
      bind_passes s (suc k) k (others n c.1) (λ cs. some (and_also c.0 cs.0, cs.1)) (others_within n c.1 s (suc k) w) (λ cs u. omega arith)))

  pub clause_within : (n : ℕ) (ts : List Token) (s k : ℕ) → size ts + k ≤ s → Passes s k (a_clause n ts)
  clause_within zero ts s k h = tt
  clause_within (suc n) ts s k h =
      bind_passes s k k (hidden n ts) _ (hidden_within n ts s k h) (λ xs p.
      bind_passes s (suc k) k (statement n xs.1) _ (statement_within n xs.1 s k p) (λ g q.
      bind_passes s (suc (suc k)) k (an_operator g.1) _ (operator_within g.1 s (suc k) q) (λ o w.
      bind_passes s (suc (suc (suc k))) k (statement n o.1) (λ b. some (written xs.0 g.0 o.0 b.0, b.1)) (statement_within n o.1 s (suc (suc k)) w) (λ b v. omega arith))))
