-- The tree of a text's tokens, if there is one, by descent: statement, bracket and clause call each other.
-- The number n bounds the depth of calls; of any four calls, each in the one before, at least one passes a token, so that 4
-- for each token are enough (crates/texts shows that no text of the grammar is lost).
use Rattle.std.specs.Prelude.{List, [], ◌∷◌, ◌||◌, not, ℕ, zero, suc, ◌+◌, ◌*◌, eqb}
use Rattle.std.proofs.Math.Option.{Option, some, none}
use Rattle.constraint.specs.Constraint.{ctrue, cfail, ceq, capp}
use Rattle.akl.specs.Base.{Name, bytes, size, same, when, if, ◌>>=◌}
use Rattle.akl.specs.Syntax.{Op, wait, cond, commit}
use Rattle.akl.specs.Token.{Token, name, digits, variable, sign, Mark, open_bracket, close_bracket, comma, full_stop, colon, defines, equals, semicolon, operator}
use Rattle.akl.specs.Grammar.{Statement, single, joined, Simple, constraint, program, bracket, Bracket, plain, hiding, choosing, Clause, written, Others, end, and_also, Definition}

-- Something read, and the tokens behind it.
abbrev pub Read : Type 0 → Type 0
Read A = Option (A × List Token)

-- marks by number, to compare them
abbrev pub mark_number : Mark → ℕ
mark_number open_bracket = 0
mark_number close_bracket = 1
mark_number comma = 2
mark_number full_stop = 3
mark_number colon = 4
mark_number defines = 5
mark_number equals = 6
mark_number semicolon = 7
mark_number (operator wait) = 8
mark_number (operator cond) = 9
mark_number (operator commit) = 10

-- The tokens behind the mark, if it is the next.
abbrev pub after_token : Mark → Token → List Token → Option (List Token)
after_token m (name w) ts = none
after_token m (digits w) ts = none
after_token m (variable w) ts = none
after_token m (sign k) ts = when (eqb (mark_number m) (mark_number k)) ts

abbrev pub after : Mark → List Token → Option (List Token)
after m [] = none
after m (t ∷ ts) = after_token m t ts

abbrev pub an_operator_mark : Mark → List Token → Read Op
an_operator_mark open_bracket ts = none
an_operator_mark close_bracket ts = none
an_operator_mark comma ts = none
an_operator_mark full_stop ts = none
an_operator_mark colon ts = none
an_operator_mark defines ts = none
an_operator_mark equals ts = none
an_operator_mark semicolon ts = none
an_operator_mark (operator op) ts = some (op, ts)

abbrev pub an_operator_token : Token → List Token → Read Op
an_operator_token (name w) ts = none
an_operator_token (digits w) ts = none
an_operator_token (variable w) ts = none
an_operator_token (sign k) ts = an_operator_mark k ts

abbrev pub an_operator : List Token → Read Op
an_operator [] = none
an_operator (t ∷ ts) = an_operator_token t ts

abbrev pub a_variable_token : Token → List Token → Read Name
a_variable_token (name w) ts = none
a_variable_token (digits w) ts = none
a_variable_token (variable w) ts = some (w, ts)
a_variable_token (sign k) ts = none

abbrev pub a_variable : List Token → Read Name
a_variable [] = none
a_variable (t ∷ ts) = a_variable_token t ts

abbrev pub a_name_token : Token → List Token → Read Name
a_name_token (name w) ts = some (w, ts)
a_name_token (digits w) ts = none
a_name_token (variable w) ts = none
a_name_token (sign k) ts = none

abbrev pub a_name : List Token → Read Name
a_name [] = none
a_name (t ∷ ts) = a_name_token t ts

-- a constructor's name may be digits alone
abbrev pub a_label_token : Token → List Token → Read Name
a_label_token (name w) ts = some (w, ts)
a_label_token (digits w) ts = some (w, ts)
a_label_token (variable w) ts = none
a_label_token (sign k) ts = none

abbrev pub a_label : List Token → Read Name
a_label [] = none
a_label (t ∷ ts) = a_label_token t ts

-- X, Y, ..: one variable or more
unfoldable pub variables : ℕ → List Token → Read (List Name)
variables zero ts = none
variables (suc n) ts = a_variable ts >>= λ x. elim (after comma x.1) [ none ↦ some (x.0 ∷ [], x.1) | some r ↦ variables n r >>= λ xs. some (x.0 ∷ xs.0, xs.1) ]

-- arguments in brackets, or none at all
unfoldable pub arguments : ℕ → List Token → Read (List Name)
arguments n ts = elim (after open_bracket ts) [ none ↦ some ([], ts) | some r ↦ variables n r >>= λ xs. after close_bracket xs.1 >>= λ u. some (xs.0, u) ]

-- "an optional list of hidden variables and colon": a variable that `=` does not follow begins one
unfoldable pub hidden : ℕ → List Token → Read (List Name)
hidden n ts = elim (a_variable ts) [ none ↦ some ([], ts) | some x ↦ elim (after equals x.1) [ none ↦ variables n ts >>= λ xs. after colon xs.1 >>= λ u. some (xs.0, u) | some r ↦ some ([], ts) ] ]

-- X = Y, X = f, X = f(Y, ..)
unfoldable pub equation : ℕ → Name → List Token → Read Simple
equation n x ts = elim (a_variable ts) [ some y ↦ some (constraint (ceq x y.0), y.1) | none ↦ a_label ts >>= λ f. arguments n f.1 >>= λ ys. some (constraint (capp x f.0 ys.0), ys.1) ]

-- "`true` and `fail` name no predicate": with arguments they are nothing
unfoldable pub named : ℕ → Name → List Token → Read Simple
named n p ts =
    arguments n ts >>= λ xs.
    if (same p (bytes "true")) (when (eqb (size xs.0) 0) (constraint ctrue, xs.1))
    (if (same p (bytes "fail")) (when (eqb (size xs.0) 0) (constraint cfail, xs.1)) (some (program p xs.0, xs.1)))

-- a bracket without an operator: plain, or a hiding
abbrev pub unclaused : List Name → Statement → Bracket
unclaused [] s = plain s
unclaused (x ∷ xs) s = hiding x xs s

unfoldable mutual
  pub statement : ℕ → List Token → Read Statement
  statement zero ts = none
  statement (suc n) ts = simple n ts >>= λ s. elim (after comma s.1) [ none ↦ some (single s.0, s.1) | some r ↦ statement n r >>= λ t. some (joined s.0 t.0, t.1) ]

  pub simple : ℕ → List Token → Read Simple
  simple zero ts = none
  simple (suc n) ts =
      elim (after open_bracket ts) [
        | some r ↦ a_bracket n r >>= (λ b. after close_bracket b.1 >>= λ u. some (bracket b.0, u))
        | none ↦
            elim (a_variable ts) [ some x ↦ after equals x.1 >>= (λ r. equation n x.0 r) | none ↦ a_name ts >>= λ p. named n p.0 p.1 ]
      ]

  -- what stands between the round signs: a hidden list or none, a statement, and then an operator or not
  pub a_bracket : ℕ → List Token → Read Bracket
  a_bracket zero ts = none
  a_bracket (suc n) ts =
      hidden n ts >>= λ xs. statement n xs.1 >>= λ s.
      elim (an_operator s.1) [
        | none ↦ some (unclaused xs.0 s.0, s.1)
        | some o ↦
            statement n o.1 >>= λ b. others n b.1 >>= λ cs. some (choosing (written xs.0 s.0 o.0 b.0) cs.0, cs.1)
      ]

  -- "clauses parted by `;`"
  pub others : ℕ → List Token → Read Others
  others zero ts = none
  others (suc n) ts = elim (after semicolon ts) [ none ↦ some (end, ts) | some r ↦ a_clause n r >>= λ c. others n c.1 >>= λ cs. some (and_also c.0 cs.0, cs.1) ]

  pub a_clause : ℕ → List Token → Read Clause
  a_clause zero ts = none
  a_clause (suc n) ts = hidden n ts >>= λ xs. statement n xs.1 >>= λ g. an_operator g.1 >>= λ o. statement n o.1 >>= λ b. some (written xs.0 g.0 o.0 b.0, b.1)

-- "A query is one statement and a full stop."
abbrev pub nothing_left : {A : Type 0} → A → List Token → Option A
nothing_left a [] = some a
nothing_left a (t ∷ ts) = none

unfoldable pub enough : List Token → ℕ
enough ts = 4 * size ts + 4

unfoldable pub parse_query : List Token → Option Statement
parse_query ts = statement (enough ts) ts >>= λ s. after full_stop s.1 >>= λ r. nothing_left s.0 r

-- "`true` and `fail` name no predicate"
unfoldable pub definition : ℕ → List Token → Read Definition
definition n ts =
    a_name ts >>= λ p.
    when (not (same p.0 (bytes "true") || same p.0 (bytes "fail"))) p >>= λ q.
    arguments n p.1 >>= λ xs.
    after defines xs.1 >>= λ r.
    statement n r >>= λ s.
    after full_stop s.1 >>= λ u.
    some (record { head = p.0; parameters = xs.0; statement = s.0 }, u)

-- "A program is zero or more definitions".
unfoldable pub definitions : ℕ → ℕ → List Token → Option (List Definition)
definitions zero k ts = none
definitions (suc n) k [] = some []
definitions (suc n) k (t ∷ ts) = definition k (t ∷ ts) >>= λ d. definitions n k d.1 >>= λ ds. some (d.0 ∷ ds)

unfoldable pub parse_program : List Token → Option (List Definition)
parse_program ts = definitions (suc (size ts)) (enough ts) ts
