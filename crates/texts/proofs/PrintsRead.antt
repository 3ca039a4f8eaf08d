-- The tokens of a tree read as the tree.
use mathlib.Core.Path.{◌≡◌, refl, ap, sym, ◌∙◌, subst}
use mathlib.Core.Logic.{◌↔◌, ◌⊎◌, inl, inr}
use mathlib.Core.List.{List, [], ◌∷◌, ◌++◌}
use mathlib.Core.Bool.{Bool, true, false, ◌&&◌, ◌||◌, not}
use mathlib.Core.Option.{Option, some, none}
use Prim.Native.Nat.{ℕ, zero, suc, ◌+◌, ◌*◌, ◌≤◌, ◌<◌}
use native.Mathlib.Omega.{arith}
use lib.Dec.{T, eqb}
use Rattle.constraint.specs.Constraint.{Con, ctrue, cfail, ceq, capp}
use Rattle.constraint.proofs.Lists.{or_T}
use Rattle.akl.specs.Base.{Name, bytes, bytes_from, size, same, when, if, ◌>>=◌}
use Rattle.akl.specs.Syntax.{Op, wait, cond, commit}
use Rattle.akl.specs.Token.{class_of, digit_class, Token, name, digits, variable, sign, Mark, open_bracket, close_bracket, comma, full_stop, colon, defines, equals, semicolon, operator}
use Rattle.akl.specs.Grammar.{Statement, single, joined, Simple, constraint, program, bracket, Bracket, plain, hiding, choosing, Clause, written, Others, end, and_also, Definition}
use Rattle.texts.specs.Printing.{vars_tokens, arguments_tokens, hidden_tokens, label_token, constraint_tokens, statement_tokens, simple_tokens, bracket_tokens, clause_tokens, others_tokens, query_tokens, definition_tokens, program_tokens}
use Rattle.akl.specs.Parse.{Read, mark_number, after_token, after, an_operator_mark, an_operator, a_variable, a_name, a_label, variables, arguments, hidden, equation, named, unclaused, statement, simple, a_bracket, others, a_clause, nothing_left, parse_query, definition, definitions, parse_program, enough}
use Rattle.texts.specs.Writable.{NotReserved, Writable, WritableSimple, WritableBracket, WritableClause, WritableOthers, WritableDefinition, WritableProgram}

-- an action that gives r goes on with r
then : {A B : Type 0} (o : Option A) (a : A) (f : A → Option B) (r : Option B) → o ≡ some a → f a ≡ r → (o >>= f) ≡ r
then o a f r e h = ap (λ x. x >>= f) e ∙ h

-- the next token is not this mark
abbrev NotNext : Mark → List Token → Type 0
NotNext m ts = after m ts ≡ none

-- a fork on a mark that is not next
no_mark : {B : Type 0} (o : Option (List Token)) (x : Read B) (f : List Token → Read B) (r : Read B) → o ≡ none → x ≡ r → (elim o as (λ z. Read B) [ none ↦ x | some u ↦ f u ]) ≡ r
no_mark o x f r e h = ap (λ z. elim z as (λ y. Read _) [ none ↦ x | some u ↦ f u ]) e ∙ h

-- ---------------------------------------------------------------------------------------------
-- Lists of variables.

variables_read : (xs : List Name) (x : Name) (n : ℕ) (ts : List Token) → size (x ∷ xs) ≤ n → NotNext comma ts → variables n (vars_tokens (x ∷ xs) ts) ≡ some (x ∷ xs, ts)
unfolding variables size
variables_read [] x zero ts l c = absurd (omega arith)
variables_read (y ∷ xs) x zero ts l c = absurd (omega arith)
variables_read [] x (suc n) ts l c = no_mark (after comma ts) (some (x ∷ [], ts)) (λ r. variables n r >>= λ zs. some (x ∷ zs.0, zs.1)) (some (x ∷ [], ts)) c refl
variables_read (y ∷ xs) x (suc n) ts l c = then (variables n (vars_tokens (y ∷ xs) ts)) (y ∷ xs, ts) (λ zs. some (x ∷ zs.0, zs.1)) (some (x ∷ y ∷ xs, ts)) (variables_read xs y n ts (omega arith) c) refl

arguments_read : (xs : List Name) (n : ℕ) (ts : List Token) → size xs ≤ n → NotNext open_bracket ts → arguments n (arguments_tokens xs ts) ≡ some (xs, ts)
unfolding arguments
arguments_read [] n ts l c = no_mark (after open_bracket ts) (some ([], ts)) (λ r. variables n r >>= λ xs. after close_bracket xs.1 >>= λ u. some (xs.0, u)) (some ([], ts)) c refl
arguments_read (x ∷ xs) n ts l c = then (variables n (vars_tokens (x ∷ xs) (sign close_bracket ∷ ts))) (x ∷ xs, sign close_bracket ∷ ts) (λ ys. after close_bracket ys.1 >>= λ u. some (ys.0, u)) (some (x ∷ xs, ts)) (variables_read xs x n (sign close_bracket ∷ ts) l refl) refl

-- a hidden list
hidden_read : (x : Name) (xs : List Name) (n : ℕ) (ts : List Token) → size (x ∷ xs) ≤ n → hidden n (hidden_tokens (x ∷ xs) ts) ≡ some (x ∷ xs, ts)
unfolding hidden
hidden_read x [] n ts l = then (variables n (variable x ∷ sign colon ∷ ts)) (x ∷ [], sign colon ∷ ts) (λ ys. after colon ys.1 >>= λ u. some (ys.0, u)) (some (x ∷ [], ts)) (variables_read [] x n (sign colon ∷ ts) l refl) refl
hidden_read x (y ∷ xs) n ts l = then (variables n (vars_tokens (x ∷ y ∷ xs) (sign colon ∷ ts))) (x ∷ y ∷ xs, sign colon ∷ ts) (λ ys. after colon ys.1 >>= λ u. some (ys.0, u)) (some (x ∷ y ∷ xs, ts)) (variables_read (y ∷ xs) x n (sign colon ∷ ts) l refl) refl

-- a statement does not begin like a hidden list
simple_not_hidden : (s : Simple) (n : ℕ) (ts : List Token) → hidden n (simple_tokens s ts) ≡ some ([], simple_tokens s ts)
unfolding hidden statement_tokens
simple_not_hidden (constraint ctrue) n ts = refl
simple_not_hidden (constraint cfail) n ts = refl
simple_not_hidden (constraint (ceq x y)) n ts = refl
simple_not_hidden (constraint (capp x f ys)) n ts = refl
simple_not_hidden (program p xs) n ts = refl
simple_not_hidden (bracket b) n ts = refl

not_hidden : (s : Statement) (n : ℕ) (ts : List Token) → hidden n (statement_tokens s ts) ≡ some ([], statement_tokens s ts)
unfolding statement_tokens
not_hidden (single s) n ts = simple_not_hidden s n ts
not_hidden (joined s r) n ts = simple_not_hidden s n (sign comma ∷ statement_tokens r ts)

hidden_first : (xs : List Name) (s : Statement) (n : ℕ) (ts : List Token) → size xs ≤ n → hidden n (hidden_tokens xs (statement_tokens s ts)) ≡ some (xs, statement_tokens s ts)
hidden_first [] s n ts l = not_hidden s n ts
hidden_first (x ∷ xs) s n ts l = hidden_read x xs n (statement_tokens s ts) l

-- ---------------------------------------------------------------------------------------------
-- How many calls a tree needs.

abbrev con_need : Con Name → ℕ
con_need ctrue = 0
con_need cfail = 0
con_need (ceq x y) = 0
con_need (capp x f ys) = size ys

unfoldable mutual
  need : Statement → ℕ
  need (single s) = suc (simple_need s)
  need (joined s r) = suc (simple_need s + need r)

  simple_need : Simple → ℕ
  simple_need (constraint c) = suc (con_need c)
  simple_need (program p xs) = suc (size xs)
  simple_need (bracket b) = suc (bracket_need b)

  bracket_need : Bracket → ℕ
  bracket_need (plain s) = suc (need s)
  bracket_need (hiding x xs s) = suc (size (x ∷ xs) + need s)
  bracket_need (choosing c cs) = suc (clause_need c + others_need cs)

  clause_need : Clause → ℕ
  clause_need (written xs g op b) = suc (size xs + need g + need b)

  others_need : Others → ℕ
  others_need end = 1
  others_need (and_also c cs) = suc (clause_need c + others_need cs)

-- ---------------------------------------------------------------------------------------------
-- Labels and names.

label_variable : (f : Name) (r : List Token) → a_variable (label_token f ∷ r) ≡ none
label_variable [] r = refl
label_variable (x ∷ w) r = go (digit_class (class_of x))
  where
    go : (b : Bool) → a_variable (if b (digits (x ∷ w)) (name (x ∷ w)) ∷ r) ≡ none
    go true = refl
    go false = refl

label_read : (f : Name) (r : List Token) → a_label (label_token f ∷ r) ≡ some (f, r)
label_read [] r = refl
label_read (x ∷ w) r = go (digit_class (class_of x))
  where
    go : (b : Bool) → a_label (if b (digits (x ∷ w)) (name (x ∷ w)) ∷ r) ≡ some (x ∷ w, r)
    go true = refl
    go false = refl

equation_read : (x f : Name) (ys : List Name) (n : ℕ) (ts : List Token) → size ys ≤ n → NotNext open_bracket ts → equation n x (label_token f ∷ arguments_tokens ys ts) ≡ some (constraint (capp x f ys), ts)
unfolding equation
equation_read x f ys n ts l c = ap (λ o. elim o as (λ z. Read Simple) [ some y ↦ some (constraint (ceq x y.0), y.1) | none ↦ a_label (label_token f ∷ arguments_tokens ys ts) >>= λ g. arguments n g.1 >>= λ zs. some (constraint (capp x g.0 zs.0), zs.1) ]) (label_variable f (arguments_tokens ys ts)) ∙ then (a_label (label_token f ∷ arguments_tokens ys ts)) (f, arguments_tokens ys ts) (λ g. arguments n g.1 >>= λ zs. some (constraint (capp x g.0 zs.0), zs.1)) (some (constraint (capp x f ys), ts)) (label_read f (arguments_tokens ys ts)) (then (arguments n (arguments_tokens ys ts)) (ys, ts) (λ zs. some (constraint (capp x f zs.0), zs.1)) (some (constraint (capp x f ys), ts)) (arguments_read ys n ts l c) refl)

named_read : (p : Name) (xs : List Name) (n : ℕ) (ts : List Token) → NotReserved p → size xs ≤ n → NotNext open_bracket ts → named n p (arguments_tokens xs ts) ≡ some (program p xs, ts)
unfolding named
named_read p xs n ts r l c = then (arguments n (arguments_tokens xs ts)) (xs, ts) _ (some (program p xs, ts)) (arguments_read xs n ts l c) (go (same p (bytes "true")) (same p (bytes "fail")) r)
  where
    go : (t f : Bool) → (T (t || f) → ⊥) → ◌≡◌ {A = Read Simple} (if t (when {A = Simple × List Token} (eqb (size xs) 0) (constraint ctrue, ts)) (if f (when {A = Simple × List Token} (eqb (size xs) 0) (constraint cfail, ts)) (some (program p xs, ts)))) (some (program p xs, ts))
    go true f m = absurd (m tt)
    go false true m = absurd (m tt)
    go false false m = refl

reserved_true : (n : ℕ) (ts : List Token) → NotNext open_bracket ts → named n (bytes "true") ts ≡ some (constraint ctrue, ts)
unfolding named bytes bytes_from same size
reserved_true n ts c = then (arguments n ts) ([], ts) _ (some (constraint ctrue, ts)) (arguments_read [] n ts (omega arith) c) refl

reserved_fail : (n : ℕ) (ts : List Token) → NotNext open_bracket ts → named n (bytes "fail") ts ≡ some (constraint cfail, ts)
unfolding named bytes bytes_from same size
reserved_fail n ts c = then (arguments n ts) ([], ts) _ (some (constraint cfail, ts)) (arguments_read [] n ts (omega arith) c) refl

-- ---------------------------------------------------------------------------------------------
-- Statements. What follows a statement is neither a comma nor an opening bracket.

equal_variables : (n : ℕ) (x y : Name) (ts : List Token) → equation n x (variable y ∷ ts) ≡ some (constraint (ceq x y), ts)
unfolding equation
equal_variables n x y ts = refl

operator_next : (op : Op) (r : List Token) → NotNext comma (sign (operator op) ∷ r) × NotNext open_bracket (sign (operator op) ∷ r)
operator_next wait r = (refl, refl)
operator_next cond r = (refl, refl)
operator_next commit r = (refl, refl)

others_next : (cs : Others) (ts : List Token) → NotNext comma (others_tokens cs (sign close_bracket ∷ ts)) × NotNext open_bracket (others_tokens cs (sign close_bracket ∷ ts))
unfolding statement_tokens
others_next end ts = (refl, refl)
others_next (and_also c cs) ts = (refl, refl)

clause_some : (c : Clause) → 1 ≤ clause_need c
unfolding need
clause_some (written xs g op b) = omega arith

others_some : (cs : Others) → 1 ≤ others_need cs
unfolding need
others_some end = omega arith
others_some (and_also c cs) = omega arith

too_few : (a b : ℕ) → 1 ≤ a → suc (a + b) ≤ 1 → ⊥
too_few a b h l = omega arith

-- how the parts of a clause read, before the tokens r
abbrev ClauseReads : Clause → ℕ → List Token → Type 0
ClauseReads (written xs g op b) n r = (hidden n (hidden_tokens xs (statement_tokens g (sign (operator op) ∷ statement_tokens b r))) ≡ some (xs, statement_tokens g (sign (operator op) ∷ statement_tokens b r))) × (statement n (statement_tokens g (sign (operator op) ∷ statement_tokens b r)) ≡ some (g, sign (operator op) ∷ statement_tokens b r)) × (statement n (statement_tokens b r) ≡ some (b, r))

clause_read : (c : Clause) (n : ℕ) (r : List Token) → ClauseReads c n r → a_clause (suc n) (clause_tokens c r) ≡ some (c, r)
unfolding statement statement_tokens
clause_read (written xs g op b) n r h = then (hidden n (hidden_tokens xs (statement_tokens g (sign (operator op) ∷ statement_tokens b r)))) (xs, statement_tokens g (sign (operator op) ∷ statement_tokens b r)) _ (some (written xs g op b, r)) h.0 (then (statement n (statement_tokens g (sign (operator op) ∷ statement_tokens b r))) (g, sign (operator op) ∷ statement_tokens b r) _ (some (written xs g op b, r)) h.1 (then (statement n (statement_tokens b r)) (b, r) (λ z. some (written xs g op z.0, z.1)) (some (written xs g op b, r)) h.2 refl))

choosing_read : (c : Clause) (cs : Others) (n : ℕ) (r ts : List Token) → ClauseReads c n r → others n r ≡ some (cs, ts) → a_bracket (suc n) (clause_tokens c r) ≡ some (choosing c cs, ts)
unfolding statement statement_tokens
choosing_read (written xs g op b) cs n r ts h e = then (hidden n (hidden_tokens xs (statement_tokens g (sign (operator op) ∷ statement_tokens b r)))) (xs, statement_tokens g (sign (operator op) ∷ statement_tokens b r)) _ (some (choosing (written xs g op b) cs, ts)) h.0 (then (statement n (statement_tokens g (sign (operator op) ∷ statement_tokens b r))) (g, sign (operator op) ∷ statement_tokens b r) _ (some (choosing (written xs g op b) cs, ts)) h.1 (then (statement n (statement_tokens b r)) (b, r) (λ z. others n z.1 >>= λ ds. some (choosing (written xs g op z.0) ds.0, ds.1)) (some (choosing (written xs g op b) cs, ts)) h.2 (then (others n r) (cs, ts) (λ ds. some (choosing (written xs g op b) ds.0, ds.1)) (some (choosing (written xs g op b) cs, ts)) e refl)))

mutual
  unfolding statement statement_tokens need

  statement_read : (s : Statement) (n : ℕ) (ts : List Token) → need s ≤ n → Writable s → NotNext comma ts → NotNext open_bracket ts → statement n (statement_tokens s ts) ≡ some (s, ts)
  statement_read (single s) zero ts l w c o = absurd (omega arith)
  statement_read (joined s r) zero ts l w c o = absurd (omega arith)
  statement_read (single s) (suc n) ts l w c o = then (simple n (simple_tokens s ts)) (s, ts) _ (some (single s, ts)) (simple_read s n ts (omega arith) w o) (no_mark (after comma ts) (some (single s, ts)) (λ r. statement n r >>= λ t. some (joined s t.0, t.1)) (some (single s, ts)) c refl)
  statement_read (joined s r) (suc n) ts l w c o = then (simple n (simple_tokens s (sign comma ∷ statement_tokens r ts))) (s, sign comma ∷ statement_tokens r ts) _ (some (joined s r, ts)) (simple_read s n (sign comma ∷ statement_tokens r ts) (omega arith) w.0 refl) (then (statement n (statement_tokens r ts)) (r, ts) (λ t. some (joined s t.0, t.1)) (some (joined s r, ts)) (statement_read r n ts (omega arith) w.1 c o) refl)

  simple_read : (s : Simple) (n : ℕ) (ts : List Token) → simple_need s ≤ n → WritableSimple s → NotNext open_bracket ts → simple n (simple_tokens s ts) ≡ some (s, ts)
  simple_read (constraint c) zero ts l w o = absurd (omega arith)
  simple_read (program p xs) zero ts l w o = absurd (omega arith)
  simple_read (bracket b) zero ts l w o = absurd (omega arith)
  simple_read (constraint ctrue) (suc n) ts l w o = reserved_true n ts o
  simple_read (constraint cfail) (suc n) ts l w o = reserved_fail n ts o
  simple_read (constraint (ceq x y)) (suc n) ts l w o = equal_variables n x y ts
  simple_read (constraint (capp x f ys)) (suc n) ts l w o = equation_read x f ys n ts (omega arith) o
  simple_read (program p xs) (suc n) ts l w o = named_read p xs n ts w (omega arith) o
  simple_read (bracket b) (suc n) ts l w o = then (a_bracket n (bracket_tokens b (sign close_bracket ∷ ts))) (b, sign close_bracket ∷ ts) (λ c. after close_bracket c.1 >>= λ u. some (bracket c.0, u)) (some (bracket b, ts)) (bracket_read b n ts (omega arith) w) refl

  bracket_read : (b : Bracket) (n : ℕ) (ts : List Token) → bracket_need b ≤ n → WritableBracket b → a_bracket n (bracket_tokens b (sign close_bracket ∷ ts)) ≡ some (b, sign close_bracket ∷ ts)
  bracket_read (plain s) zero ts l w = absurd (omega arith)
  bracket_read (hiding x xs s) zero ts l w = absurd (omega arith)
  bracket_read (choosing c cs) zero ts l w = absurd (omega arith)
  bracket_read (plain s) (suc n) ts l w = then (hidden n (statement_tokens s (sign close_bracket ∷ ts))) ([], statement_tokens s (sign close_bracket ∷ ts)) _ (some (plain s, sign close_bracket ∷ ts)) (not_hidden s n (sign close_bracket ∷ ts)) (then (statement n (statement_tokens s (sign close_bracket ∷ ts))) (s, sign close_bracket ∷ ts) _ (some (plain s, sign close_bracket ∷ ts)) (statement_read s n (sign close_bracket ∷ ts) (omega arith) w refl refl) refl)
  bracket_read (hiding x xs s) (suc n) ts l w = then (hidden n (hidden_tokens (x ∷ xs) (statement_tokens s (sign close_bracket ∷ ts)))) (x ∷ xs, statement_tokens s (sign close_bracket ∷ ts)) _ (some (hiding x xs s, sign close_bracket ∷ ts)) (hidden_read x xs n (statement_tokens s (sign close_bracket ∷ ts)) (omega arith)) (then (statement n (statement_tokens s (sign close_bracket ∷ ts))) (s, sign close_bracket ∷ ts) _ (some (hiding x xs s, sign close_bracket ∷ ts)) (statement_read s n (sign close_bracket ∷ ts) (omega arith) w refl refl) refl)
  bracket_read (choosing c cs) (suc n) ts l w =
      let o = others_next cs ts in
      choosing_read c cs n (others_tokens cs (sign close_bracket ∷ ts)) (sign close_bracket ∷ ts) (clause_parts_read c n (others_tokens cs (sign close_bracket ∷ ts)) (omega arith) w.0 o.0 o.1) (others_read cs n ts (omega arith) w.1)

  clause_parts_read : (c : Clause) (n : ℕ) (r : List Token) → clause_need c ≤ n → WritableClause c → NotNext comma r → NotNext open_bracket r → ClauseReads c n r
  clause_parts_read (written xs g op b) n r l w c o =
      let p = operator_next op (statement_tokens b r) in
      (hidden_first xs g n (sign (operator op) ∷ statement_tokens b r) (omega arith), statement_read g n (sign (operator op) ∷ statement_tokens b r) (omega arith) w.0 p.0 p.1, statement_read b n r (omega arith) w.1 c o)

  others_read : (cs : Others) (n : ℕ) (ts : List Token) → others_need cs ≤ n → WritableOthers cs → others n (others_tokens cs (sign close_bracket ∷ ts)) ≡ some (cs, sign close_bracket ∷ ts)
  others_read end zero ts l w = absurd (omega arith)
  others_read (and_also c cs) zero ts l w = absurd (omega arith)
  others_read end (suc n) ts l w = refl
  others_read (and_also c cs) (suc zero) ts l w = absurd (too_few (clause_need c) (others_need cs) (clause_some c) l)
  others_read (and_also c cs) (suc (suc n)) ts l w =
      let o = others_next cs ts in
      then (a_clause (suc n) (clause_tokens c (others_tokens cs (sign close_bracket ∷ ts)))) (c, others_tokens cs (sign close_bracket ∷ ts)) (λ d. others (suc n) d.1 >>= λ ds. some (and_also d.0 ds.0, ds.1)) (some (and_also c cs, sign close_bracket ∷ ts)) (clause_read c n (others_tokens cs (sign close_bracket ∷ ts)) (clause_parts_read c n (others_tokens cs (sign close_bracket ∷ ts)) (omega (arith, others_some cs)) w.0 o.0 o.1)) (then (others (suc n) (others_tokens cs (sign close_bracket ∷ ts))) (cs, sign close_bracket ∷ ts) (λ ds. some (and_also c ds.0, ds.1)) (some (and_also c cs, sign close_bracket ∷ ts)) (others_read cs (suc n) ts (omega arith) w.1) refl)

-- ---------------------------------------------------------------------------------------------
-- The calls that a tree needs are within four for each of its tokens.

vars_size : (xs : List Name) (x : Name) (ts : List Token) → size (x ∷ xs) + 4 * size ts ≤ 4 * size (vars_tokens (x ∷ xs) ts)
unfolding size
vars_size [] x ts = omega arith
vars_size (y ∷ xs) x ts = omega (arith, vars_size xs y ts)

arguments_size : (xs : List Name) (ts : List Token) → size xs + 4 * size ts ≤ 4 * size (arguments_tokens xs ts)
unfolding size
arguments_size [] ts = omega arith
arguments_size (x ∷ xs) ts = omega (arith, vars_size xs x (sign close_bracket ∷ ts))

hidden_size : (xs : List Name) (ts : List Token) → size xs + 4 * size ts ≤ 4 * size (hidden_tokens xs ts)
unfolding size
hidden_size [] ts = omega arith
hidden_size (x ∷ xs) ts = omega (arith, vars_size xs x (sign colon ∷ ts))

con_size : (c : Con Name) (ts : List Token) → con_need c + 4 * size ts + 4 ≤ 4 * size (constraint_tokens c ts)
unfolding size
con_size ctrue ts = omega arith
con_size cfail ts = omega arith
con_size (ceq x y) ts = omega arith
con_size (capp x f ys) ts = omega (arith, arguments_size ys ts)

mutual
  unfolding need statement_tokens size

  need_size : (s : Statement) (ts : List Token) → need s + 4 * size ts + 2 ≤ 4 * size (statement_tokens s ts)
  need_size (single s) ts = omega (arith, simple_size s ts)
  need_size (joined s r) ts = omega (arith, simple_size s (sign comma ∷ statement_tokens r ts), need_size r ts)

  simple_size : (s : Simple) (ts : List Token) → simple_need s + 4 * size ts + 3 ≤ 4 * size (simple_tokens s ts)
  simple_size (constraint c) ts = omega (arith, con_size c ts)
  simple_size (program p xs) ts = omega (arith, arguments_size xs ts)
  simple_size (bracket b) ts = omega (arith, bracket_size b (sign close_bracket ∷ ts))

  bracket_size : (b : Bracket) (ts : List Token) → bracket_need b + 4 * size ts ≤ 4 * size (bracket_tokens b ts) + 4
  bracket_size (plain s) ts = omega (arith, need_size s ts)
  bracket_size (hiding x xs s) ts = omega (arith, hidden_size (x ∷ xs) (statement_tokens s ts), need_size s ts)
  bracket_size (choosing c cs) ts = omega (arith, clause_size c (others_tokens cs ts), others_size cs ts)

  clause_size : (c : Clause) (ts : List Token) → clause_need c + 4 * size ts ≤ 4 * size (clause_tokens c ts)
  clause_size (written xs g op b) ts = omega (arith, hidden_size xs (statement_tokens g (sign (operator op) ∷ statement_tokens b ts)), need_size g (sign (operator op) ∷ statement_tokens b ts), need_size b ts)

  others_size : (cs : Others) (ts : List Token) → others_need cs + 4 * size ts ≤ 4 * size (others_tokens cs ts) + 1
  others_size end ts = omega arith
  others_size (and_also c cs) ts = omega (arith, clause_size c (others_tokens cs ts), others_size cs ts)

-- ---------------------------------------------------------------------------------------------
-- Whole texts.

pub query_reads : (s : Statement) → Writable s → parse_query (query_tokens s) ≡ some s
unfolding parse_query enough size
query_reads s w = then (statement (enough (query_tokens s)) (query_tokens s)) (s, sign full_stop ∷ []) (λ t. after full_stop t.1 >>= λ r. nothing_left t.0 r) (some s) (statement_read s (enough (query_tokens s)) (sign full_stop ∷ []) (omega (arith, need_size s (sign full_stop ∷ []))) w refl refl) refl

definition_read : (d : Definition) (n : ℕ) (ts : List Token) → size d.parameters ≤ n → need d.statement ≤ n → WritableDefinition d → definition n (definition_tokens d ts) ≡ some (d, ts)
unfolding definition
definition_read d n ts a b w = allowed (same d.head (bytes "true") || same d.head (bytes "fail")) w.0
  where
    body : List Token
    body = statement_tokens d.statement (sign full_stop ∷ ts)

    rest : Read Definition
    rest = arguments n (arguments_tokens d.parameters (sign defines ∷ body)) >>= λ xs. after defines xs.1 >>= λ r. statement n r >>= λ s. after full_stop s.1 >>= λ u. some (record { head = d.head; parameters = xs.0; statement = s.0 }, u)

    rest_is : rest ≡ some (d, ts)
    rest_is = then (arguments n (arguments_tokens d.parameters (sign defines ∷ body))) (d.parameters, sign defines ∷ body) (λ xs. after defines xs.1 >>= λ r. statement n r >>= λ s. after full_stop s.1 >>= λ u. some (record { head = d.head; parameters = xs.0; statement = s.0 }, u)) (some (d, ts)) (arguments_read d.parameters n (sign defines ∷ body) a refl) (then (statement n body) (d.statement, sign full_stop ∷ ts) (λ s. after full_stop s.1 >>= λ u. some (record { head = d.head; parameters = d.parameters; statement = s.0 }, u)) (some (d, ts)) (statement_read d.statement n (sign full_stop ∷ ts) b w.1 refl refl) refl)

    allowed : (c : Bool) → (T c → ⊥) → (when {A = Name × List Token} (not c) (d.head, arguments_tokens d.parameters (sign defines ∷ body)) >>= λ q. rest) ≡ some (d, ts)
    allowed true m = absurd (m tt)
    allowed false m = rest_is

definition_size : (d : Definition) (ts : List Token) → size d.parameters + need d.statement + 4 * size ts ≤ 4 * size (definition_tokens d ts)
unfolding size
definition_size d ts = omega (arith, arguments_size d.parameters (sign defines ∷ statement_tokens d.statement (sign full_stop ∷ ts)), need_size d.statement (sign full_stop ∷ ts))

shorter : (e : Definition) (ts : List Token) → suc (size ts) ≤ size (definition_tokens e ts)
unfolding size
shorter e ts = omega (arith, arguments_size e.parameters (sign defines ∷ statement_tokens e.statement (sign full_stop ∷ ts)), need_size e.statement (sign full_stop ∷ ts))

definitions_read : (ds : List Definition) (n k : ℕ) → size (program_tokens ds) < n → 4 * size (program_tokens ds) ≤ k → WritableProgram ds → definitions n k (program_tokens ds) ≡ some ds
unfolding definitions size
definitions_read [] zero k a b w = absurd (omega arith)
definitions_read (d ∷ ds) zero k a b w = absurd (omega arith)
definitions_read [] (suc n) k a b w = refl
definitions_read (d ∷ ds) (suc n) k a b w = then (definition k (definition_tokens d (program_tokens ds))) (d, program_tokens ds) (λ e. definitions n k e.1 >>= λ es. some (e.0 ∷ es)) (some (d ∷ ds)) (definition_read d k (program_tokens ds) (omega (arith, definition_size d (program_tokens ds))) (omega (arith, definition_size d (program_tokens ds))) w.0) (then (definitions n k (program_tokens ds)) ds (λ es. some (d ∷ es)) (some (d ∷ ds)) (definitions_read ds n k (omega (arith, shorter d (program_tokens ds))) (omega (arith, shorter d (program_tokens ds))) w.1) refl)

pub program_reads : (ds : List Definition) → WritableProgram ds → parse_program (program_tokens ds) ≡ some ds
unfolding parse_program enough
program_reads ds w = definitions_read ds (suc (size (program_tokens ds))) (enough (program_tokens ds)) (omega arith) (omega arith) w
