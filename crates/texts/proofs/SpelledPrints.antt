-- A tree whose names are spelled as they must be is writable, and so are its tokens spelled.
use mathlib.Core.Path.{◌≡◌, refl, sym, subst}
use mathlib.Core.Logic.{◌⊎◌, inl, inr}
use mathlib.Core.List.{List, [], ◌∷◌}
use mathlib.Core.Bool.{Bool, true, false, ◌&&◌, ◌||◌, not}
use lib.Dec.{T, leb}
use Rattle.constraint.specs.Constraint.{Con, ctrue, cfail, ceq, capp}
use Rattle.constraint.proofs.Lists.{and_T, or_T, not_T}
use Rattle.akl.specs.Base.{Name, bytes, bytes_from, size, same, all, if}
use Rattle.akl.specs.Limits.{name_bytes}
use Rattle.akl.specs.Token.{Class, small, digit, class_of, word_class, digit_class, Token, name, digits, sign, close_bracket, comma, full_stop, colon, defines, operator, capital, underscore, blank, mark, other}
use Rattle.akl.specs.Grammar.{Statement, single, joined, Simple, constraint, program, bracket, Bracket, plain, hiding, choosing, Clause, written, Others, end, and_also, Definition}
use Rattle.akl.specs.WellFormed.{is_small, begins, spelled_name, spelled_digits, spelled_predicate}
use Rattle.texts.specs.Spelled.{SpelledToken, SpelledTokens, Variables, SpelledCon, SpelledStatement, SpelledSimple, SpelledBracket, SpelledClause, SpelledOthers, SpelledDefinitions}
use Rattle.texts.specs.Printing.{vars_tokens, arguments_tokens, hidden_tokens, label_token, constraint_tokens, statement_tokens, simple_tokens, bracket_tokens, clause_tokens, others_tokens, query_tokens, program_tokens}
use Rattle.texts.specs.Writable.{NotReserved, Writable, WritableSimple, WritableBracket, WritableClause, WritableOthers, WritableProgram}

-- ---------------------------------------------------------------------------------------------
-- Writable.

predicate_parts : (p : Name) → T (spelled_predicate p) → T (spelled_name p) × NotReserved p
unfolding spelled_predicate
predicate_parts p h = (k1.0, λ t. elim ((or_T (same p (bytes "true")) (same p (bytes "fail"))).0 t) [ inl u ↦ (not_T (same p (bytes "true"))).0 k1.1 u | inr u ↦ (not_T (same p (bytes "fail"))).0 k2.1 u ])
  where
    k2 : T (spelled_name p && not (same p (bytes "true"))) × T (not (same p (bytes "fail")))
    k2 = (and_T (spelled_name p && not (same p (bytes "true"))) (not (same p (bytes "fail")))).0 h

    k1 : T (spelled_name p) × T (not (same p (bytes "true")))
    k1 = (and_T (spelled_name p) (not (same p (bytes "true")))).0 k2.0

mutual
  pub spelled_writable : (s : Statement) → SpelledStatement s → Writable s
  spelled_writable (single s) h = simple_writable s h
  spelled_writable (joined s r) h = (simple_writable s h.0, spelled_writable r h.1)

  simple_writable : (s : Simple) → SpelledSimple s → WritableSimple s
  simple_writable (constraint c) h = tt
  simple_writable (program p xs) h = (predicate_parts p h.0).1
  simple_writable (bracket b) h = bracket_writable b h

  bracket_writable : (b : Bracket) → SpelledBracket b → WritableBracket b
  bracket_writable (plain s) h = spelled_writable s h
  bracket_writable (hiding x xs s) h = spelled_writable s h.1
  bracket_writable (choosing c cs) h = (clause_writable c h.0, others_writable cs h.1)

  clause_writable : (c : Clause) → SpelledClause c → WritableClause c
  clause_writable (written xs g op b) h = (spelled_writable g h.1, spelled_writable b h.2)

  others_writable : (cs : Others) → SpelledOthers cs → WritableOthers cs
  others_writable end h = tt
  others_writable (and_also c cs) h = (clause_writable c h.0, others_writable cs h.1)

pub program_writable : (ds : List Definition) → SpelledDefinitions ds → WritableProgram ds
program_writable [] h = tt
program_writable (d ∷ ds) h = (((predicate_parts d.head h.0.0).1, spelled_writable d.statement h.0.2), program_writable ds h.1)

-- ---------------------------------------------------------------------------------------------
-- Tokens.

vars_spelled : (x : Name) (xs : List Name) (ts : List Token) → Variables (x ∷ xs) → SpelledTokens ts → SpelledTokens (vars_tokens (x ∷ xs) ts)
vars_spelled x [] ts h k = (h.0, k)
vars_spelled x (y ∷ xs) ts h k = (h.0, (tt, vars_spelled y xs ts h.1 k))

arguments_spelled : (xs : List Name) (ts : List Token) → Variables xs → SpelledTokens ts → SpelledTokens (arguments_tokens xs ts)
arguments_spelled [] ts h k = k
arguments_spelled (x ∷ xs) ts h k = (tt, vars_spelled x xs (sign close_bracket ∷ ts) h (tt, k))

hidden_spelled : (xs : List Name) (ts : List Token) → Variables xs → SpelledTokens ts → SpelledTokens (hidden_tokens xs ts)
hidden_spelled [] ts h k = k
hidden_spelled (x ∷ xs) ts h k = vars_spelled x xs (sign colon ∷ ts) h (tt, k)

small_no_digit : (c : Class) → T (is_small c) → T (digit_class c) → ⊥
small_no_digit capital a b = elim a [ ]
small_no_digit underscore a b = elim a [ ]
small_no_digit blank a b = elim a [ ]
small_no_digit mark a b = elim a [ ]
small_no_digit other a b = elim a [ ]
small_no_digit small a b = b
small_no_digit digit a b = a

label_spelled : (f : Name) → T (spelled_name f || spelled_digits f) → SpelledToken (label_token f)
unfolding spelled_name spelled_digits
label_spelled [] h = absurd h
label_spelled (x ∷ w) h = go (digit_class (class_of x)) refl ((or_T (spelled_name (x ∷ w)) (spelled_digits (x ∷ w))).0 h)
  where
    first_small : T (spelled_name (x ∷ w)) → T (is_small (class_of x))
    first_small t = ((and_T (begins is_small (x ∷ w)) (all (λ y. word_class (class_of y)) (x ∷ w))).0 ((and_T (begins is_small (x ∷ w) && all (λ y. word_class (class_of y)) (x ∷ w)) (leb (size (x ∷ w)) name_bytes)).0 t).0).0

    first_digit : T (spelled_digits (x ∷ w)) → T (digit_class (class_of x))
    first_digit t = ((and_T (begins digit_class (x ∷ w)) (all (λ y. digit_class (class_of y)) (x ∷ w))).0 ((and_T (begins digit_class (x ∷ w) && all (λ y. digit_class (class_of y)) (x ∷ w)) (leb (size (x ∷ w)) name_bytes)).0 t).0).0

    go : (b : Bool) → digit_class (class_of x) ≡ b → T (spelled_name (x ∷ w)) ⊎ T (spelled_digits (x ∷ w)) → SpelledToken (if b (digits (x ∷ w)) (name (x ∷ w)))
    go true e (inl t) = absurd (small_no_digit (class_of x) (first_small t) (subst T (sym e) tt))
    go true e (inr t) = t
    go false e (inl t) = t
    go false e (inr t) = absurd (subst T e (first_digit t))

true_spelled : T (spelled_name (bytes "true"))
unfolding spelled_name bytes bytes_from class_of all size
true_spelled = tt

fail_spelled : T (spelled_name (bytes "fail"))
unfolding spelled_name bytes bytes_from class_of all size
fail_spelled = tt

con_spelled : (c : Con Name) (ts : List Token) → SpelledCon c → SpelledTokens ts → SpelledTokens (constraint_tokens c ts)
con_spelled ctrue ts h k = (true_spelled, k)
con_spelled cfail ts h k = (fail_spelled, k)
con_spelled (ceq x y) ts h k = (h.0, (tt, (h.1, k)))
con_spelled (capp x f ys) ts h k = (h.0, (tt, (label_spelled f h.1, arguments_spelled ys ts h.2 k)))

mutual
  unfolding statement_tokens

  pub statement_spelled : (s : Statement) (ts : List Token) → SpelledStatement s → SpelledTokens ts → SpelledTokens (statement_tokens s ts)
  statement_spelled (single s) ts h k = simple_spelled s ts h k
  statement_spelled (joined s r) ts h k = simple_spelled s (sign comma ∷ statement_tokens r ts) h.0 (tt, statement_spelled r ts h.1 k)

  simple_spelled : (s : Simple) (ts : List Token) → SpelledSimple s → SpelledTokens ts → SpelledTokens (simple_tokens s ts)
  simple_spelled (constraint c) ts h k = con_spelled c ts h k
  simple_spelled (program p xs) ts h k = ((predicate_parts p h.0).0, arguments_spelled xs ts h.1 k)
  simple_spelled (bracket b) ts h k = (tt, bracket_spelled b (sign close_bracket ∷ ts) h (tt, k))

  bracket_spelled : (b : Bracket) (ts : List Token) → SpelledBracket b → SpelledTokens ts → SpelledTokens (bracket_tokens b ts)
  bracket_spelled (plain s) ts h k = statement_spelled s ts h k
  bracket_spelled (hiding x xs s) ts h k = hidden_spelled (x ∷ xs) (statement_tokens s ts) h.0 (statement_spelled s ts h.1 k)
  bracket_spelled (choosing c cs) ts h k = clause_spelled c (others_tokens cs ts) h.0 (others_spelled cs ts h.1 k)

  clause_spelled : (c : Clause) (ts : List Token) → SpelledClause c → SpelledTokens ts → SpelledTokens (clause_tokens c ts)
  clause_spelled (written xs g op b) ts h k = hidden_spelled xs (statement_tokens g (sign (operator op) ∷ statement_tokens b ts)) h.0 (statement_spelled g (sign (operator op) ∷ statement_tokens b ts) h.1 (tt, statement_spelled b ts h.2 k))

  others_spelled : (cs : Others) (ts : List Token) → SpelledOthers cs → SpelledTokens ts → SpelledTokens (others_tokens cs ts)
  others_spelled end ts h k = k
  others_spelled (and_also c cs) ts h k = (tt, clause_spelled c (others_tokens cs ts) h.0 (others_spelled cs ts h.1 k))

pub query_tokens_spelled : (s : Statement) → SpelledStatement s → SpelledTokens (query_tokens s)
query_tokens_spelled s h = statement_spelled s (sign full_stop ∷ []) h (tt, tt)

pub program_tokens_spelled : (ds : List Definition) → SpelledDefinitions ds → SpelledTokens (program_tokens ds)
program_tokens_spelled [] h = tt
program_tokens_spelled (d ∷ ds) h = ((predicate_parts d.head h.0.0).0, arguments_spelled d.parameters (sign defines ∷ statement_tokens d.statement (sign full_stop ∷ program_tokens ds)) h.0.1 (tt, statement_spelled d.statement (sign full_stop ∷ program_tokens ds) h.0.2 (tt, program_tokens_spelled ds h.1)))
