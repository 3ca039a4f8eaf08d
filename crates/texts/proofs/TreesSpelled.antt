-- The tree that is read from spelled tokens has spelled names.
use mathlib.Core.Path.{◌≡◌, refl, ap, sym, ◌∙◌, subst}
use mathlib.Core.Logic.{◌↔◌, ◌⊎◌, inl, inr}
use mathlib.Core.List.{List, [], ◌∷◌, ◌++◌}
use mathlib.Core.Bool.{Bool, true, false, ◌&&◌, ◌||◌, not}
use mathlib.Core.Option.{Option, some, none}
use Prim.Native.Nat.{ℕ, zero, suc}
use lib.Dec.{T, eqb}
use Rattle.constraint.specs.Constraint.{Con, ctrue, cfail, ceq, capp}
use Rattle.constraint.proofs.Lists.{and_T, or_T, not_T}
use Rattle.akl.specs.Base.{Name, bytes, size, same, when, if, ◌>>=◌}
use Rattle.akl.specs.Syntax.{Op}
use Rattle.akl.specs.Token.{Token, name, digits, variable, sign, Mark, open_bracket, close_bracket, comma, full_stop, colon, defines, equals, semicolon, operator}
use Rattle.akl.specs.Grammar.{Statement, single, joined, Simple, constraint, program, bracket, Bracket, plain, hiding, choosing, Clause, written, Others, end, and_also, Definition}
use Rattle.akl.specs.Parse.{Read, mark_number, after_token, after, an_operator_mark, an_operator_token, an_operator, a_variable_token, a_variable, a_name_token, a_name, a_label_token, a_label, variables, arguments, hidden, equation, named, unclaused, statement, simple, a_bracket, others, a_clause, nothing_left, parse_query, definition, definitions, parse_program, enough}
use Rattle.akl.specs.WellFormed.{spelled_name, spelled_digits, spelled_variable, spelled_predicate}
use Rattle.texts.specs.Spelled.{SpelledToken, SpelledTokens, Variables, SpelledCon, SpelledStatement, SpelledSimple, SpelledBracket, SpelledClause, SpelledOthers, SpelledDefinition, SpelledDefinitions}

-- what was read is as it must be, and so are the tokens behind it
abbrev Good : {A : Type 0} → (A → Type 0) → Read A → Type 0
Good Q none = Unit {0}
Good Q (some r) = Q r.0 × SpelledTokens r.1

abbrev GoodTail : Option (List Token) → Type 0
GoodTail none = Unit {0}
GoodTail (some ts) = SpelledTokens ts

bind : {A B : Type 0} (Q : A → Type 0) (R : B → Type 0) (o : Read A) (f : A × List Token → Read B) → Good Q o → ((r : A × List Token) → Q r.0 → SpelledTokens r.1 → Good R (f r)) → Good R (o >>= f)
bind Q R none f g h = tt
bind Q R (some r) f g h = h r g.0 g.1

tail : {B : Type 0} (R : B → Type 0) (o : Option (List Token)) (f : List Token → Read B) → GoodTail o → ((ts : List Token) → SpelledTokens ts → Good R (f ts)) → Good R (o >>= f)
tail R none f g h = tt
tail R (some ts) f g h = h ts g

-- a mark, or not
fork : {B : Type 0} (R : B → Type 0) (o : Option (List Token)) (x : Read B) (f : List Token → Read B) → GoodTail o → Good R x → ((ts : List Token) → SpelledTokens ts → Good R (f ts)) → Good R (elim o as (λ z. Read B) [ none ↦ x | some r ↦ f r ])
fork R none x f g a b = a
fork R (some ts) x f g a b = b ts g

fork_read : {A B : Type 0} (Q : A → Type 0) (R : B → Type 0) (o : Read A) (x : Read B) (f : A × List Token → Read B) → Good Q o → Good R x → ((r : A × List Token) → Q r.0 → SpelledTokens r.1 → Good R (f r)) → Good R (elim o as (λ z. Read B) [ none ↦ x | some r ↦ f r ])
fork_read Q R none x f g a b = a
fork_read Q R (some r) x f g a b = b r g.0 g.1

-- tokens
after_good : (m : Mark) (ts : List Token) → SpelledTokens ts → GoodTail (after m ts)
after_good m [] h = tt
after_good m (name w ∷ ts) h = tt
after_good m (digits w ∷ ts) h = tt
after_good m (variable w ∷ ts) h = tt
after_good m (sign k ∷ ts) h = go (eqb (mark_number m) (mark_number k))
  where
    go : (b : Bool) → GoodTail (when b ts)
    go true = h.1
    go false = tt

abbrev AnyOp : Op → Type 0
AnyOp op = Unit {0}

operator_mark_good : (k : Mark) (ts : List Token) → SpelledTokens ts → Good AnyOp (an_operator_mark k ts)
operator_mark_good open_bracket ts h = tt
operator_mark_good close_bracket ts h = tt
operator_mark_good comma ts h = tt
operator_mark_good full_stop ts h = tt
operator_mark_good colon ts h = tt
operator_mark_good defines ts h = tt
operator_mark_good equals ts h = tt
operator_mark_good semicolon ts h = tt
operator_mark_good (operator op) ts h = (tt, h)

operator_good : (ts : List Token) → SpelledTokens ts → Good AnyOp (an_operator ts)
operator_good [] h = tt
operator_good (name w ∷ ts) h = tt
operator_good (digits w ∷ ts) h = tt
operator_good (variable w ∷ ts) h = tt
operator_good (sign k ∷ ts) h = operator_mark_good k ts h.1

abbrev IsVariable : Name → Type 0
IsVariable x = T (spelled_variable x)

abbrev IsName : Name → Type 0
IsName p = T (spelled_name p)

abbrev IsLabel : Name → Type 0
IsLabel f = T (spelled_name f || spelled_digits f)

variable_good : (ts : List Token) → SpelledTokens ts → Good IsVariable (a_variable ts)
variable_good [] h = tt
variable_good (name w ∷ ts) h = tt
variable_good (digits w ∷ ts) h = tt
variable_good (variable w ∷ ts) h = h
variable_good (sign k ∷ ts) h = tt

name_good : (ts : List Token) → SpelledTokens ts → Good IsName (a_name ts)
name_good [] h = tt
name_good (name w ∷ ts) h = h
name_good (digits w ∷ ts) h = tt
name_good (variable w ∷ ts) h = tt
name_good (sign k ∷ ts) h = tt

label_good : (ts : List Token) → SpelledTokens ts → Good IsLabel (a_label ts)
label_good [] h = tt
label_good (name w ∷ ts) h = ((or_T (spelled_name w) (spelled_digits w)).1 (inl h.0), h.1)
label_good (digits w ∷ ts) h = ((or_T (spelled_name w) (spelled_digits w)).1 (inr h.0), h.1)
label_good (variable w ∷ ts) h = tt
label_good (sign k ∷ ts) h = tt

-- lists of variables
variables_good : (n : ℕ) (ts : List Token) → SpelledTokens ts → Good Variables (variables n ts)
unfolding variables
variables_good zero ts h = tt
variables_good (suc n) ts h = bind IsVariable Variables (a_variable ts) _ (variable_good ts h) (λ x v k. fork Variables (after comma x.1) (some (x.0 ∷ [], x.1)) (λ r. variables n r >>= λ xs. some (x.0 ∷ xs.0, xs.1)) (after_good comma x.1 k) ((v, tt), k) (λ r g. bind Variables Variables (variables n r) _ (variables_good n r g) (λ xs vs u. ((v, vs), u))))

arguments_good : (n : ℕ) (ts : List Token) → SpelledTokens ts → Good Variables (arguments n ts)
unfolding arguments
arguments_good n ts h = fork Variables (after open_bracket ts) (some ([], ts)) (λ r. variables n r >>= λ xs. after close_bracket xs.1 >>= λ u. some (xs.0, u)) (after_good open_bracket ts h) (tt, h) (λ r g. bind Variables Variables (variables n r) _ (variables_good n r g) (λ xs vs k. tail Variables (after close_bracket xs.1) _ (after_good close_bracket xs.1 k) (λ u w. (vs, w))))

hidden_good : (n : ℕ) (ts : List Token) → SpelledTokens ts → Good Variables (hidden n ts)
unfolding hidden
hidden_good n ts h = fork_read IsVariable Variables (a_variable ts) (some ([], ts)) (λ x. elim (after equals x.1) as (λ z. Read (List Name)) [ none ↦ variables n ts >>= λ xs. after colon xs.1 >>= λ u. some (xs.0, u) | some r ↦ some ([], ts) ]) (variable_good ts h) (tt, h) (λ x v k. fork Variables (after equals x.1) (variables n ts >>= λ xs. after colon xs.1 >>= λ u. some (xs.0, u)) (λ r. some ([], ts)) (after_good equals x.1 k) (bind Variables Variables (variables n ts) _ (variables_good n ts h) (λ xs vs w. tail Variables (after colon xs.1) _ (after_good colon xs.1 w) (λ u z. (vs, z)))) (λ r g. (tt, h)))

-- atoms
equation_good : (n : ℕ) (x : Name) (ts : List Token) → IsVariable x → SpelledTokens ts → Good SpelledSimple (equation n x ts)
unfolding equation
equation_good n x ts v h = go (a_variable ts) (variable_good ts h)
  where
    go : (o : Read Name) → Good IsVariable o → Good SpelledSimple (elim o as (λ z. Read Simple) [ some y ↦ some (constraint (ceq x y.0), y.1) | none ↦ a_label ts >>= λ f. arguments n f.1 >>= λ ys. some (constraint (capp x f.0 ys.0), ys.1) ])
    go (some y) g = ((v, g.0), g.1)
    go none g = bind IsLabel SpelledSimple (a_label ts) _ (label_good ts h) (λ f l k. bind Variables SpelledSimple (arguments n f.1) _ (arguments_good n f.1 k) (λ ys vs w. ((v, l, vs), w)))

named_good : (n : ℕ) (p : Name) (ts : List Token) → IsName p → SpelledTokens ts → Good SpelledSimple (named n p ts)
unfolding named spelled_predicate
named_good n p ts i h = bind Variables SpelledSimple (arguments n ts) _ (arguments_good n ts h) (λ xs vs k. go xs vs k (same p (bytes "true")) (same p (bytes "fail")) refl refl)
  where
    empty : (b : Bool) (c : Simple) (us : List Token) → SpelledSimple c → SpelledTokens us → Good SpelledSimple (when b (c, us))
    empty true c us a b = (a, b)
    empty false c us a b = tt

    go : (xs : List Name × List Token) → Variables xs.0 → SpelledTokens xs.1 → (t f : Bool) → same p (bytes "true") ≡ t → same p (bytes "fail") ≡ f → Good SpelledSimple (if t (when (eqb (size xs.0) 0) (constraint ctrue, xs.1)) (if f (when (eqb (size xs.0) 0) (constraint cfail, xs.1)) (some (program p xs.0, xs.1))))
    go xs vs k true f et ef = empty (eqb (size xs.0) 0) (constraint ctrue) xs.1 tt k
    go xs vs k false true et ef = empty (eqb (size xs.0) 0) (constraint cfail) xs.1 tt k
    go xs vs k false false et ef = (((and_T (spelled_name p && not (same p (bytes "true"))) (not (same p (bytes "fail")))).1 ((and_T (spelled_name p) (not (same p (bytes "true")))).1 (i, subst (λ b. T (not b)) (sym et) tt), subst (λ b. T (not b)) (sym ef) tt), vs), k)

unclaused_good : (xs : List Name) (s : Statement) → Variables xs → SpelledStatement s → SpelledBracket (unclaused xs s)
unclaused_good [] s v h = h
unclaused_good (x ∷ xs) s v h = (v, h)

-- statements, brackets and clauses
mutual
  unfolding statement

  statement_good : (n : ℕ) (ts : List Token) → SpelledTokens ts → Good SpelledStatement (statement n ts)
  statement_good zero ts h = tt
  statement_good (suc n) ts h = bind SpelledSimple SpelledStatement (simple n ts) _ (simple_good n ts h) (λ s a k. fork SpelledStatement (after comma s.1) (some (single s.0, s.1)) (λ r. statement n r >>= λ t. some (joined s.0 t.0, t.1)) (after_good comma s.1 k) (a, k) (λ r g. bind SpelledStatement SpelledStatement (statement n r) _ (statement_good n r g) (λ t b w. ((a, b), w))))

  simple_good : (n : ℕ) (ts : List Token) → SpelledTokens ts → Good SpelledSimple (simple n ts)
  simple_good zero ts h = tt
  simple_good (suc n) ts h = fork SpelledSimple (after open_bracket ts) (elim (a_variable ts) as (λ z. Read Simple) [ some x ↦ after equals x.1 >>= (λ r. equation n x.0 r) | none ↦ a_name ts >>= λ p. named n p.0 p.1 ]) (λ r. a_bracket n r >>= (λ b. after close_bracket b.1 >>= λ u. some (bracket b.0, u))) (after_good open_bracket ts h) (fork_read IsVariable SpelledSimple (a_variable ts) (a_name ts >>= λ p. named n p.0 p.1) (λ x. after equals x.1 >>= (λ r. equation n x.0 r)) (variable_good ts h) (bind IsName SpelledSimple (a_name ts) _ (name_good ts h) (λ p i k. named_good n p.0 p.1 i k)) (λ x v k. tail SpelledSimple (after equals x.1) _ (after_good equals x.1 k) (λ r g. equation_good n x.0 r v g))) (λ r g. bind SpelledBracket SpelledSimple (a_bracket n r) _ (bracket_good n r g) (λ b c k. tail SpelledSimple (after close_bracket b.1) _ (after_good close_bracket b.1 k) (λ u w. (c, w))))

  bracket_good : (n : ℕ) (ts : List Token) → SpelledTokens ts → Good SpelledBracket (a_bracket n ts)
  bracket_good zero ts h = tt
  bracket_good (suc n) ts h = bind Variables SpelledBracket (hidden n ts) _ (hidden_good n ts h) (λ xs v k. bind SpelledStatement SpelledBracket (statement n xs.1) _ (statement_good n xs.1 k) (λ s a w. fork_read AnyOp SpelledBracket (an_operator s.1) (some (unclaused xs.0 s.0, s.1)) (λ o. statement n o.1 >>= λ b. others n b.1 >>= λ cs. some (choosing (written xs.0 s.0 o.0 b.0) cs.0, cs.1)) (operator_good s.1 w) (unclaused_good xs.0 s.0 v a, w) (λ o u z. bind SpelledStatement SpelledBracket (statement n o.1) _ (statement_good n o.1 z) (λ b c y. bind SpelledOthers SpelledBracket (others n b.1) _ (others_good n b.1 y) (λ cs d e. (((v, a, c), d), e))))))

  others_good : (n : ℕ) (ts : List Token) → SpelledTokens ts → Good SpelledOthers (others n ts)
  others_good zero ts h = tt
  others_good (suc n) ts h = fork SpelledOthers (after semicolon ts) (some (end, ts)) (λ r. a_clause n r >>= λ c. others n c.1 >>= λ cs. some (and_also c.0 cs.0, cs.1)) (after_good semicolon ts h) (tt, h) (λ r g. bind SpelledClause SpelledOthers (a_clause n r) _ (clause_good n r g) (λ c a k. bind SpelledOthers SpelledOthers (others n c.1) _ (others_good n c.1 k) (λ cs b w. ((a, b), w))))

  clause_good : (n : ℕ) (ts : List Token) → SpelledTokens ts → Good SpelledClause (a_clause n ts)
  clause_good zero ts h = tt
  clause_good (suc n) ts h = bind Variables SpelledClause (hidden n ts) _ (hidden_good n ts h) (λ xs v k. bind SpelledStatement SpelledClause (statement n xs.1) _ (statement_good n xs.1 k) (λ g a w. bind AnyOp SpelledClause (an_operator g.1) _ (operator_good g.1 w) (λ o u z. bind SpelledStatement SpelledClause (statement n o.1) _ (statement_good n o.1 z) (λ b c y. ((v, a, c), y)))))

-- whole texts
abbrev SpelledWhen : {A : Type 0} → (A → Type 0) → Option A → Type 0
SpelledWhen Q none = Unit {0}
SpelledWhen Q (some a) = Q a

pub query_spelled : (ts : List Token) (s : Statement) → SpelledTokens ts → parse_query ts ≡ some s → SpelledStatement s
unfolding parse_query
query_spelled ts s h e = subst (SpelledWhen SpelledStatement) e (go (statement (enough ts) ts) (statement_good (enough ts) ts h))
  where
    last : (t : Statement) (r : List Token) → SpelledStatement t → SpelledWhen SpelledStatement (nothing_left t r)
    last t [] a = a
    last t (x ∷ r) a = tt

    stop : (t : Statement) (o : Option (List Token)) → SpelledStatement t → SpelledWhen SpelledStatement (o >>= λ r. nothing_left t r)
    stop t none a = tt
    stop t (some r) a = last t r a

    go : (o : Read Statement) → Good SpelledStatement o → SpelledWhen SpelledStatement (o >>= λ t. after full_stop t.1 >>= λ r. nothing_left t.0 r)
    go none g = tt
    go (some t) g = stop t.0 (after full_stop t.1) g.0

definition_good : (n : ℕ) (ts : List Token) → SpelledTokens ts → Good SpelledDefinition (definition n ts)
unfolding definition spelled_predicate
definition_good n ts h = bind IsName SpelledDefinition (a_name ts) _ (name_good ts h) (λ p i k. allowed p i k (same p.0 (bytes "true")) (same p.0 (bytes "fail")) refl refl)
  where
    rest : (p : Name × List Token) → T (spelled_predicate p.0) → SpelledTokens p.1 → Good SpelledDefinition (arguments n p.1 >>= λ xs. after defines xs.1 >>= λ r. statement n r >>= λ s. after full_stop s.1 >>= λ u. some (record { head = p.0; parameters = xs.0; statement = s.0 }, u))
    rest p i k = bind Variables SpelledDefinition (arguments n p.1) _ (arguments_good n p.1 k) (λ xs v w. tail SpelledDefinition (after defines xs.1) _ (after_good defines xs.1 w) (λ r z. bind SpelledStatement SpelledDefinition (statement n r) _ (statement_good n r z) (λ s a y. tail SpelledDefinition (after full_stop s.1) _ (after_good full_stop s.1 y) (λ u b. ((i, v, a), b)))))

    allowed : (p : Name × List Token) → IsName p.0 → SpelledTokens p.1 → (t f : Bool) → same p.0 (bytes "true") ≡ t → same p.0 (bytes "fail") ≡ f → Good SpelledDefinition (when (not (t || f)) p >>= λ q. arguments n p.1 >>= λ xs. after defines xs.1 >>= λ r. statement n r >>= λ s. after full_stop s.1 >>= λ u. some (record { head = p.0; parameters = xs.0; statement = s.0 }, u))
    allowed p i k true f et ef = tt
    allowed p i k false true et ef = tt
    allowed p i k false false et ef = rest p ((and_T (spelled_name p.0 && not (same p.0 (bytes "true"))) (not (same p.0 (bytes "fail")))).1 ((and_T (spelled_name p.0) (not (same p.0 (bytes "true")))).1 (i, subst (λ b. T (not b)) (sym et) tt), subst (λ b. T (not b)) (sym ef) tt)) k

definitions_good : (n k : ℕ) (ts : List Token) → SpelledTokens ts → SpelledWhen SpelledDefinitions (definitions n k ts)
unfolding definitions
definitions_good zero k ts h = tt
definitions_good (suc n) k [] h = tt
definitions_good (suc n) k (t ∷ ts) h = go (definition k (t ∷ ts)) (definition_good k (t ∷ ts) h) (λ r g. definitions_good n k r g)
  where
    more : (d : Definition) (o : Option (List Definition)) → SpelledDefinition d → SpelledWhen SpelledDefinitions o → SpelledWhen SpelledDefinitions (o >>= λ ds. some (d ∷ ds))
    more d none a b = tt
    more d (some ds) a b = (a, b)

    go : (o : Read Definition) → Good SpelledDefinition o → ((r : List Token) → SpelledTokens r → SpelledWhen SpelledDefinitions (definitions n k r)) → SpelledWhen SpelledDefinitions (o >>= λ d. definitions n k d.1 >>= λ ds. some (d.0 ∷ ds))
    go none g ih = tt
    go (some d) g ih = more d.0 (definitions n k d.1) g.0 (ih d.1 g.1)

pub program_spelled : (ts : List Token) (ds : List Definition) → SpelledTokens ts → parse_program ts ≡ some ds → SpelledDefinitions ds
unfolding parse_program
program_spelled ts ds h e = subst (SpelledWhen SpelledDefinitions) e (definitions_good (suc (size ts)) (enough ts) ts h)
