-- What is read from tokens prints as these tokens.
use mathlib.Core.Path.{◌≡◌, refl, ap, sym, ◌∙◌, subst}
use mathlib.Core.Logic.{◌↔◌, ◌⊎◌, inl, inr}
use mathlib.Core.List.{List, [], ◌∷◌, ◌++◌}
use mathlib.Core.Bool.{Bool, true, false, ◌&&◌, ◌||◌, not}
use mathlib.Core.Option.{Option, some, none}
use Prim.Native.Nat.{ℕ, zero, suc}
use native.Mathlib.Omega.{arith}
use lib.Dec.{T, eqb, leb, eqb→eq}
use Rattle.constraint.specs.Constraint.{Con, ctrue, cfail, ceq, capp}
use Rattle.constraint.proofs.Lists.{and_T, or_T, not_T}
use Rattle.akl.specs.Base.{Name, bytes, size, same, all, when, if, ◌>>=◌}
use Rattle.akl.specs.Limits.{name_bytes}
use Rattle.akl.specs.Syntax.{Op, wait, cond, commit}
use Rattle.akl.specs.Token.{Class, small, capital, digit, underscore, blank, mark, other, class_of, word_class, digit_class, Token, name, digits, variable, sign, Mark, open_bracket, close_bracket, comma, full_stop, colon, defines, equals, semicolon, operator}
use Rattle.akl.specs.Grammar.{Statement, single, joined, Simple, constraint, program, bracket, Bracket, plain, hiding, choosing, Clause, written, Others, end, and_also, Definition}
use Rattle.texts.specs.Printing.{vars_tokens, arguments_tokens, hidden_tokens, label_token, constraint_tokens, statement_tokens, simple_tokens, bracket_tokens, clause_tokens, others_tokens, query_tokens, definition_tokens, program_tokens}
use Rattle.akl.specs.Parse.{Read, mark_number, after_token, after, an_operator_mark, an_operator, a_variable, a_name, a_label, variables, arguments, hidden, equation, named, unclaused, statement, simple, a_bracket, others, a_clause, nothing_left, parse_query, definition, definitions, parse_program, enough}
use Rattle.akl.specs.WellFormed.{is_small, begins, spelled_name, spelled_digits}
use Rattle.texts.specs.Spelled.{SpelledToken, SpelledTokens}
use Rattle.texts.specs.Writable.{NotReserved, Writable, WritableSimple, WritableBracket, WritableClause, WritableOthers, WritableDefinition, WritableProgram}
use Rattle.akl.proofs.Names.{same_eq_T as same_eq}

-- the tokens ts are those of what was read, before the rest, which are spelled too
abbrev Prints : {A : Type 0} → (A → List Token → Type 0) → Read A → Type 0
Prints Q none = Unit {0}
Prints Q (some r) = Q r.0 r.1 × SpelledTokens r.1

abbrev PrintsTail : (List Token → Type 0) → Option (List Token) → Type 0
PrintsTail Q none = Unit {0}
PrintsTail Q (some ts) = Q ts × SpelledTokens ts

bind : {A B : Type 0} (Q : A → List Token → Type 0) (R : B → List Token → Type 0) (o : Read A) (f : A × List Token → Read B) → Prints Q o → ((r : A × List Token) → Q r.0 r.1 → SpelledTokens r.1 → Prints R (f r)) → Prints R (o >>= f)
bind Q R none f g h = tt
bind Q R (some r) f g h = h r g.0 g.1

tail : {B : Type 0} (Q : List Token → Type 0) (R : B → List Token → Type 0) (o : Option (List Token)) (f : List Token → Read B) → PrintsTail Q o → ((ts : List Token) → Q ts → SpelledTokens ts → Prints R (f ts)) → Prints R (o >>= f)
tail Q R none f g h = tt
tail Q R (some ts) f g h = h ts g.0 g.1

fork : {B : Type 0} (Q : List Token → Type 0) (R : B → List Token → Type 0) (o : Option (List Token)) (x : Read B) (f : List Token → Read B) → PrintsTail Q o → Prints R x → ((ts : List Token) → Q ts → SpelledTokens ts → Prints R (f ts)) → Prints R (elim o as (λ z. Read B) [ none ↦ x | some r ↦ f r ])
fork Q R none x f g a b = a
fork Q R (some ts) x f g a b = b ts g.0 g.1

fork_read : {A B : Type 0} (Q : A → List Token → Type 0) (R : B → List Token → Type 0) (o : Read A) (x : Read B) (f : A × List Token → Read B) → Prints Q o → Prints R x → ((r : A × List Token) → Q r.0 r.1 → SpelledTokens r.1 → Prints R (f r)) → Prints R (elim o as (λ z. Read B) [ none ↦ x | some r ↦ f r ])
fork_read Q R none x f g a b = a
fork_read Q R (some r) x f g a b = b r g.0 g.1

-- ---------------------------------------------------------------------------------------------
-- Tokens.

mark_same : (m k : Mark) → T (eqb (mark_number m) (mark_number k)) → m ≡ k
mark_same m k t = sym (back m) ∙ ap mark_of (eqb→eq (mark_number m) (mark_number k) t) ∙ back k
  where
    mark_of : ℕ → Mark
    mark_of zero = open_bracket
    mark_of (suc zero) = close_bracket
    mark_of (suc (suc zero)) = comma
    mark_of (suc (suc (suc zero))) = full_stop
    mark_of (suc (suc (suc (suc zero)))) = colon
    mark_of (suc (suc (suc (suc (suc zero))))) = defines
    mark_of (suc (suc (suc (suc (suc (suc zero)))))) = equals
    mark_of (suc (suc (suc (suc (suc (suc (suc zero))))))) = semicolon
    mark_of (suc (suc (suc (suc (suc (suc (suc (suc zero)))))))) = operator wait
    mark_of (suc (suc (suc (suc (suc (suc (suc (suc (suc zero))))))))) = operator cond
    mark_of (suc (suc (suc (suc (suc (suc (suc (suc (suc (suc n)))))))))) = operator commit

    back : (j : Mark) → mark_of (mark_number j) ≡ j
    back open_bracket = refl
    back close_bracket = refl
    back comma = refl
    back full_stop = refl
    back colon = refl
    back defines = refl
    back equals = refl
    back semicolon = refl
    back (operator wait) = refl
    back (operator cond) = refl
    back (operator commit) = refl

abbrev Marked : List Token → Mark → List Token → Type 0
Marked ts m rest = ts ≡ sign m ∷ rest

after_prints : (m : Mark) (ts : List Token) → SpelledTokens ts → PrintsTail (Marked ts m) (after m ts)
after_prints m [] h = tt
after_prints m (name w ∷ ts) h = tt
after_prints m (digits w ∷ ts) h = tt
after_prints m (variable w ∷ ts) h = tt
after_prints m (sign k ∷ ts) h = go (eqb (mark_number m) (mark_number k)) refl
  where
    go : (b : Bool) → eqb (mark_number m) (mark_number k) ≡ b → PrintsTail (Marked (sign k ∷ ts) m) (when b ts)
    go true e = (ap (λ j. sign j ∷ ts) (sym (mark_same m k (subst T (sym e) tt))), h.1)
    go false e = tt

abbrev IsOp : List Token → Op → List Token → Type 0
IsOp ts op rest = ts ≡ sign (operator op) ∷ rest

operator_prints : (ts : List Token) → SpelledTokens ts → Prints (IsOp ts) (an_operator ts)
operator_prints [] h = tt
operator_prints (name w ∷ ts) h = tt
operator_prints (digits w ∷ ts) h = tt
operator_prints (variable w ∷ ts) h = tt
operator_prints (sign open_bracket ∷ ts) h = tt
operator_prints (sign close_bracket ∷ ts) h = tt
operator_prints (sign comma ∷ ts) h = tt
operator_prints (sign full_stop ∷ ts) h = tt
operator_prints (sign colon ∷ ts) h = tt
operator_prints (sign defines ∷ ts) h = tt
operator_prints (sign equals ∷ ts) h = tt
operator_prints (sign semicolon ∷ ts) h = tt
operator_prints (sign (operator op) ∷ ts) h = (refl, h.1)

abbrev IsVariable : List Token → Name → List Token → Type 0
IsVariable ts x rest = ts ≡ variable x ∷ rest

abbrev IsName : List Token → Name → List Token → Type 0
IsName ts p rest = ts ≡ name p ∷ rest

abbrev IsLabel : List Token → Name → List Token → Type 0
IsLabel ts f rest = ts ≡ label_token f ∷ rest

variable_prints : (ts : List Token) → SpelledTokens ts → Prints (IsVariable ts) (a_variable ts)
variable_prints [] h = tt
variable_prints (name w ∷ ts) h = tt
variable_prints (digits w ∷ ts) h = tt
variable_prints (variable w ∷ ts) h = (refl, h.1)
variable_prints (sign k ∷ ts) h = tt

name_prints : (ts : List Token) → SpelledTokens ts → Prints (IsName ts) (a_name ts)
name_prints [] h = tt
name_prints (name w ∷ ts) h = (refl, h.1)
name_prints (digits w ∷ ts) h = tt
name_prints (variable w ∷ ts) h = tt
name_prints (sign k ∷ ts) h = tt

-- a label is printed as the token it was
name_label : (w : Name) → T (spelled_name w) → label_token w ≡ name w
unfolding spelled_name
name_label [] h = refl
name_label (x ∷ w) h = go (class_of x) ((and_T (begins is_small (x ∷ w)) (all (λ y. word_class (class_of y)) (x ∷ w))).0 ((and_T (begins is_small (x ∷ w) && all (λ y. word_class (class_of y)) (x ∷ w)) (leb (size (x ∷ w)) name_bytes)).0 h).0).0
  where
    go : (c : Class) → T (is_small c) → if (digit_class c) (digits (x ∷ w)) (name (x ∷ w)) ≡ name (x ∷ w)
    go capital t = elim t [ ]
    go digit t = elim t [ ]
    go underscore t = elim t [ ]
    go blank t = elim t [ ]
    go mark t = elim t [ ]
    go other t = elim t [ ]
    go small t = refl

digits_label : (w : Name) → T (spelled_digits w) → label_token w ≡ digits w
unfolding spelled_digits
digits_label [] h = absurd h
digits_label (x ∷ w) h = go (digit_class (class_of x)) ((and_T (begins digit_class (x ∷ w)) (all (λ y. digit_class (class_of y)) (x ∷ w))).0 ((and_T (begins digit_class (x ∷ w) && all (λ y. digit_class (class_of y)) (x ∷ w)) (leb (size (x ∷ w)) name_bytes)).0 h).0).0
  where
    go : (b : Bool) → T b → if b (digits (x ∷ w)) (name (x ∷ w)) ≡ digits (x ∷ w)
    go false t = elim t [ ]
    go true t = refl

label_prints : (ts : List Token) → SpelledTokens ts → Prints (IsLabel ts) (a_label ts)
label_prints [] h = tt
label_prints (name w ∷ ts) h = (ap (λ (t : Token). t ∷ ts) (sym (name_label w h.0)), h.1)
label_prints (digits w ∷ ts) h = (ap (λ (t : Token). t ∷ ts) (sym (digits_label w h.0)), h.1)
label_prints (variable w ∷ ts) h = tt
label_prints (sign k ∷ ts) h = tt

-- ---------------------------------------------------------------------------------------------
-- Lists of variables. They are not empty, unless arguments or a hidden list are left out.

abbrev NotNone : List Name → Type 0
NotNone [] = ⊥
NotNone (x ∷ xs) = Unit {0}

abbrev AreVars : List Token → List Name → List Token → Type 0
AreVars ts xs rest = NotNone xs × (ts ≡ vars_tokens xs rest)

variables_print : (n : ℕ) (ts : List Token) → SpelledTokens ts → Prints (AreVars ts) (variables n ts)
unfolding variables
variables_print zero ts h = tt
variables_print (suc n) ts h = bind (IsVariable ts) (AreVars ts) (a_variable ts) _ (variable_prints ts h) (λ x v k. fork (Marked x.1 comma) (AreVars ts) (after comma x.1) (some (x.0 ∷ [], x.1)) (λ r. variables n r >>= λ xs. some (x.0 ∷ xs.0, xs.1)) (after_prints comma x.1 k) ((tt, v), k) (λ r g w. bind (AreVars r) (AreVars ts) (variables n r) _ (variables_print n r w) (λ xs vs u. ((tt, more x.0 xs.0 xs.1 r x.1 v g vs), u))))
  where
    more : (y : Name) (ys : List Name) (rest r u : List Token) → ts ≡ variable y ∷ u → u ≡ sign comma ∷ r → AreVars r ys rest → ts ≡ vars_tokens (y ∷ ys) rest
    more y [] rest r u a b c = absurd c.0
    more y (z ∷ ys) rest r u a b c = a ∙ ap (λ (l : List Token). variable y ∷ l) (b ∙ ap (λ (l : List Token). sign comma ∷ l) c.1)

abbrev AreArguments : List Token → List Name → List Token → Type 0
AreArguments ts xs rest = ts ≡ arguments_tokens xs rest

arguments_print : (n : ℕ) (ts : List Token) → SpelledTokens ts → Prints (AreArguments ts) (arguments n ts)
unfolding arguments
arguments_print n ts h = fork (Marked ts open_bracket) (AreArguments ts) (after open_bracket ts) (some ([], ts)) (λ r. variables n r >>= λ xs. after close_bracket xs.1 >>= λ u. some (xs.0, u)) (after_prints open_bracket ts h) (refl, h) (λ r g w. bind (AreVars r) (AreArguments ts) (variables n r) _ (variables_print n r w) (λ xs vs k. tail (Marked xs.1 close_bracket) (AreArguments ts) (after close_bracket xs.1) _ (after_prints close_bracket xs.1 k) (λ u c z. (closed xs.0 xs.1 r u g vs c, z))))
  where
    closed : (ys : List Name) (rest r u : List Token) → ts ≡ sign open_bracket ∷ r → AreVars r ys rest → rest ≡ sign close_bracket ∷ u → ts ≡ arguments_tokens ys u
    closed [] rest r u a b c = absurd b.0
    closed (y ∷ ys) rest r u a b c = a ∙ ap (λ (l : List Token). sign open_bracket ∷ l) (b.1 ∙ ap (vars_tokens (y ∷ ys)) c)

abbrev AreHidden : List Token → List Name → List Token → Type 0
AreHidden ts xs rest = ts ≡ hidden_tokens xs rest

hidden_print : (n : ℕ) (ts : List Token) → SpelledTokens ts → Prints (AreHidden ts) (hidden n ts)
unfolding hidden
hidden_print n ts h = fork_read (IsVariable ts) (AreHidden ts) (a_variable ts) (some ([], ts)) (λ x. elim (after equals x.1) as (λ z. Read (List Name)) [ none ↦ variables n ts >>= λ xs. after colon xs.1 >>= λ u. some (xs.0, u) | some r ↦ some ([], ts) ]) (variable_prints ts h) (refl, h) (λ x v k. fork (Marked x.1 equals) (AreHidden ts) (after equals x.1) (variables n ts >>= λ xs. after colon xs.1 >>= λ u. some (xs.0, u)) (λ r. some ([], ts)) (after_prints equals x.1 k) (bind (AreVars ts) (AreHidden ts) (variables n ts) _ (variables_print n ts h) (λ xs vs w. tail (Marked xs.1 colon) (AreHidden ts) (after colon xs.1) _ (after_prints colon xs.1 w) (λ u c z. (ended xs.0 xs.1 u vs c, z)))) (λ r g w. (refl, h)))
  where
    ended : (ys : List Name) (rest u : List Token) → AreVars ts ys rest → rest ≡ sign colon ∷ u → ts ≡ hidden_tokens ys u
    ended [] rest u b c = absurd b.0
    ended (y ∷ ys) rest u b c = b.1 ∙ ap (vars_tokens (y ∷ ys)) c

-- ---------------------------------------------------------------------------------------------
-- Simple statements.

abbrev IsSimple : List Token → Simple → List Token → Type 0
IsSimple ts s rest = WritableSimple s × (ts ≡ simple_tokens s rest)

abbrev IsStatement : List Token → Statement → List Token → Type 0
IsStatement ts s rest = Writable s × (ts ≡ statement_tokens s rest)

size_none : (xs : List Name) → size xs ≡ 0 → xs ≡ []
unfolding size
size_none [] e = refl
size_none (x ∷ xs) e = absurd (omega arith)

equation_prints : (n : ℕ) (x : Name) (us ts : List Token) → us ≡ variable x ∷ sign equals ∷ ts → SpelledTokens ts → Prints (IsSimple us) (equation n x ts)
unfolding equation statement_tokens
equation_prints n x us ts e h = go (a_variable ts) (variable_prints ts h)
  where
    go : (o : Read Name) → Prints (IsVariable ts) o → Prints (IsSimple us) (elim o as (λ z. Read Simple) [ some y ↦ some (constraint (ceq x y.0), y.1) | none ↦ a_label ts >>= λ f. arguments n f.1 >>= λ ys. some (constraint (capp x f.0 ys.0), ys.1) ])
    go (some y) g = ((tt, e ∙ ap (λ (l : List Token). variable x ∷ sign equals ∷ l) g.0), g.1)
    go none g = bind (IsLabel ts) (IsSimple us) (a_label ts) _ (label_prints ts h) (λ f l k. bind (AreArguments f.1) (IsSimple us) (arguments n f.1) _ (arguments_print n f.1 k) (λ ys a w. ((tt, e ∙ ap (λ (z : List Token). variable x ∷ sign equals ∷ z) (l ∙ ap (λ (z : List Token). label_token f.0 ∷ z) a)), w)))

named_prints : (n : ℕ) (p : Name) (us ts : List Token) → us ≡ name p ∷ ts → SpelledTokens ts → Prints (IsSimple us) (named n p ts)
unfolding named statement_tokens
named_prints n p us ts e h = bind (AreArguments ts) (IsSimple us) (arguments n ts) _ (arguments_print n ts h) (λ xs a k. go xs a k (same p (bytes "true")) (same p (bytes "fail")) refl refl)
  where
    no_arguments : (xs : List Name) → T (eqb (size xs) 0) → xs ≡ []
    no_arguments xs t = size_none xs (eqb→eq (size xs) 0 t)

    reserved : (xs : List Name × List Token) (c : Con Name) (w : Name) → ts ≡ arguments_tokens xs.0 xs.1 → SpelledTokens xs.1 → p ≡ w → constraint_tokens c xs.1 ≡ name w ∷ xs.1 → (b : Bool) → eqb (size xs.0) 0 ≡ b → Prints (IsSimple us) (when b (constraint c, xs.1))
    reserved xs c w a k q r true eb = ((tt, e ∙ (λ i. name (q i) ∷ (a ∙ ap (λ (l : List Name). arguments_tokens l xs.1) (no_arguments xs.0 (subst T (sym eb) tt))) i) ∙ sym r), k)
    reserved xs c w a k q r false eb = tt

    go : (xs : List Name × List Token) → ts ≡ arguments_tokens xs.0 xs.1 → SpelledTokens xs.1 → (t f : Bool) → same p (bytes "true") ≡ t → same p (bytes "fail") ≡ f → Prints (IsSimple us) (if t (when (eqb (size xs.0) 0) (constraint ctrue, xs.1)) (if f (when (eqb (size xs.0) 0) (constraint cfail, xs.1)) (some (program p xs.0, xs.1))))
    go xs a k true f et ef = reserved xs ctrue (bytes "true") a k (same_eq p (bytes "true") (subst T (sym et) tt)) refl (eqb (size xs.0) 0) refl
    go xs a k false true et ef = reserved xs cfail (bytes "fail") a k (same_eq p (bytes "fail") (subst T (sym ef) tt)) refl (eqb (size xs.0) 0) refl
    go xs a k false false et ef = ((λ t. elim ((or_T (same p (bytes "true")) (same p (bytes "fail"))).0 t) [ inl u ↦ subst T et u | inr u ↦ subst T ef u ], e ∙ ap (λ (z : List Token). name p ∷ z) a), k)

-- ---------------------------------------------------------------------------------------------
-- Statements, brackets and clauses.

abbrev IsBracket : List Token → Bracket → List Token → Type 0
IsBracket ts b rest = WritableBracket b × (ts ≡ bracket_tokens b rest)

abbrev IsClause : List Token → Clause → List Token → Type 0
IsClause ts c rest = WritableClause c × (ts ≡ clause_tokens c rest)

abbrev AreOthers : List Token → Others → List Token → Type 0
AreOthers ts cs rest = WritableOthers cs × (ts ≡ others_tokens cs rest)

-- hidden names, a statement, and no operator
unclaused_prints : (xs : List Name) (s : Statement) (ts us rest : List Token) → ts ≡ hidden_tokens xs us → IsStatement us s rest → IsBracket ts (unclaused xs s) rest
unfolding statement_tokens
unclaused_prints [] s ts us rest a b = (b.0, a ∙ b.1)
unclaused_prints (x ∷ xs) s ts us rest a b = (b.0, a ∙ ap (hidden_tokens (x ∷ xs)) b.1)

clause_parts : (xs : List Name) (g b : Statement) (op : Op) (ts us vs ws rest : List Token) → ts ≡ hidden_tokens xs us → IsStatement us g vs → vs ≡ sign (operator op) ∷ ws → IsStatement ws b rest → IsClause ts (written xs g op b) rest
unfolding statement_tokens
clause_parts xs g b op ts us vs ws rest a c d e = ((c.0, e.0), a ∙ ap (hidden_tokens xs) (c.1 ∙ ap (statement_tokens g) (d ∙ ap (λ (z : List Token). sign (operator op) ∷ z) e.1)))

mutual
  unfolding statement statement_tokens

  statement_prints : (n : ℕ) (ts : List Token) → SpelledTokens ts → Prints (IsStatement ts) (statement n ts)
  statement_prints zero ts h = tt
  statement_prints (suc n) ts h = bind (IsSimple ts) (IsStatement ts) (simple n ts) _ (simple_prints n ts h) (λ s a k. fork (Marked s.1 comma) (IsStatement ts) (after comma s.1) (some (single s.0, s.1)) (λ r. statement n r >>= λ t. some (joined s.0 t.0, t.1)) (after_prints comma s.1 k) (a, k) (λ r g w. bind (IsStatement r) (IsStatement ts) (statement n r) _ (statement_prints n r w) (λ t b z. (((a.0, b.0), a.1 ∙ ap (simple_tokens s.0) (g ∙ ap (λ (l : List Token). sign comma ∷ l) b.1)), z))))

  simple_prints : (n : ℕ) (ts : List Token) → SpelledTokens ts → Prints (IsSimple ts) (simple n ts)
  simple_prints zero ts h = tt
  simple_prints (suc n) ts h = fork (Marked ts open_bracket) (IsSimple ts) (after open_bracket ts) (elim (a_variable ts) as (λ z. Read Simple) [ some x ↦ after equals x.1 >>= (λ r. equation n x.0 r) | none ↦ a_name ts >>= λ p. named n p.0 p.1 ]) (λ r. a_bracket n r >>= (λ b. after close_bracket b.1 >>= λ u. some (bracket b.0, u))) (after_prints open_bracket ts h) (fork_read (IsVariable ts) (IsSimple ts) (a_variable ts) (a_name ts >>= λ p. named n p.0 p.1) (λ x. after equals x.1 >>= (λ r. equation n x.0 r)) (variable_prints ts h) (bind (IsName ts) (IsSimple ts) (a_name ts) _ (name_prints ts h) (λ p i k. named_prints n p.0 ts p.1 i k)) (λ x v k. tail (Marked x.1 equals) (IsSimple ts) (after equals x.1) _ (after_prints equals x.1 k) (λ r g w. equation_prints n x.0 ts r (v ∙ ap (λ (l : List Token). variable x.0 ∷ l) g) w))) (λ r g w. bind (IsBracket r) (IsSimple ts) (a_bracket n r) _ (bracket_prints n r w) (λ b c k. tail (Marked b.1 close_bracket) (IsSimple ts) (after close_bracket b.1) _ (after_prints close_bracket b.1 k) (λ u z y. ((c.0, g ∙ ap (λ (l : List Token). sign open_bracket ∷ l) (c.1 ∙ ap (bracket_tokens b.0) z)), y))))

  bracket_prints : (n : ℕ) (ts : List Token) → SpelledTokens ts → Prints (IsBracket ts) (a_bracket n ts)
  bracket_prints zero ts h = tt
  bracket_prints (suc n) ts h = bind (AreHidden ts) (IsBracket ts) (hidden n ts) _ (hidden_print n ts h) (λ xs v k. bind (IsStatement xs.1) (IsBracket ts) (statement n xs.1) _ (statement_prints n xs.1 k) (λ s a w. fork_read (IsOp s.1) (IsBracket ts) (an_operator s.1) (some (unclaused xs.0 s.0, s.1)) (λ o. statement n o.1 >>= λ b. others n b.1 >>= λ cs. some (choosing (written xs.0 s.0 o.0 b.0) cs.0, cs.1)) (operator_prints s.1 w) (unclaused_prints xs.0 s.0 ts xs.1 s.1 v a, w) (λ o u z. bind (IsStatement o.1) (IsBracket ts) (statement n o.1) _ (statement_prints n o.1 z) (λ b c y. bind (AreOthers b.1) (IsBracket ts) (others n b.1) _ (others_prints n b.1 y) (λ cs d e. let p = clause_parts xs.0 s.0 b.0 o.0 ts xs.1 s.1 o.1 b.1 v a u c in (((p.0, d.0), p.1 ∙ ap (clause_tokens (written xs.0 s.0 o.0 b.0)) d.1), e))))))

  others_prints : (n : ℕ) (ts : List Token) → SpelledTokens ts → Prints (AreOthers ts) (others n ts)
  others_prints zero ts h = tt
  others_prints (suc n) ts h = fork (Marked ts semicolon) (AreOthers ts) (after semicolon ts) (some (end, ts)) (λ r. a_clause n r >>= λ c. others n c.1 >>= λ cs. some (and_also c.0 cs.0, cs.1)) (after_prints semicolon ts h) ((tt, refl), h) (λ r g w. bind (IsClause r) (AreOthers ts) (a_clause n r) _ (clause_prints n r w) (λ c a k. bind (AreOthers c.1) (AreOthers ts) (others n c.1) _ (others_prints n c.1 k) (λ cs b z. (((a.0, b.0), g ∙ ap (λ (l : List Token). sign semicolon ∷ l) (a.1 ∙ ap (clause_tokens c.0) b.1)), z))))

  clause_prints : (n : ℕ) (ts : List Token) → SpelledTokens ts → Prints (IsClause ts) (a_clause n ts)
  clause_prints zero ts h = tt
  clause_prints (suc n) ts h = bind (AreHidden ts) (IsClause ts) (hidden n ts) _ (hidden_print n ts h) (λ xs v k. bind (IsStatement xs.1) (IsClause ts) (statement n xs.1) _ (statement_prints n xs.1 k) (λ g a w. bind (IsOp g.1) (IsClause ts) (an_operator g.1) _ (operator_prints g.1 w) (λ o u z. bind (IsStatement o.1) (IsClause ts) (statement n o.1) _ (statement_prints n o.1 z) (λ b c y. (clause_parts xs.0 g.0 b.0 o.0 ts xs.1 g.1 o.1 b.1 v a u c, y)))))

-- ---------------------------------------------------------------------------------------------
-- Whole texts.

abbrev Whole : {A : Type 0} → (A → Type 0) → Option A → Type 0
Whole Q none = Unit {0}
Whole Q (some a) = Q a

pub query_prints : (ts : List Token) (s : Statement) → SpelledTokens ts → parse_query ts ≡ some s → Writable s × (ts ≡ query_tokens s)
unfolding parse_query
query_prints ts s h e = subst (Whole (λ t. Writable t × (ts ≡ query_tokens t))) e (go (statement (enough ts) ts) (statement_prints (enough ts) ts h))
  where
    Right : Statement → Type 0
    Right t = Writable t × (ts ≡ query_tokens t)

    last : (t : Statement) (r u : List Token) → IsStatement ts t u → u ≡ sign full_stop ∷ r → Whole Right (nothing_left t r)
    last t [] u a b = (a.0, a.1 ∙ ap (statement_tokens t) b)
    last t (x ∷ r) u a b = tt

    stop : (t : Statement) (u : List Token) (o : Option (List Token)) → IsStatement ts t u → PrintsTail (Marked u full_stop) o → Whole Right (o >>= λ r. nothing_left t r)
    stop t u none a b = tt
    stop t u (some r) a b = last t r u a b.0

    go : (o : Read Statement) → Prints (IsStatement ts) o → Whole Right (o >>= λ t. after full_stop t.1 >>= λ r. nothing_left t.0 r)
    go none g = tt
    go (some t) g = stop t.0 t.1 (after full_stop t.1) g.0 (after_prints full_stop t.1 g.1)

abbrev IsDefinition : List Token → Definition → List Token → Type 0
IsDefinition ts d rest = WritableDefinition d × (ts ≡ definition_tokens d rest)

definition_prints : (n : ℕ) (ts : List Token) → SpelledTokens ts → Prints (IsDefinition ts) (definition n ts)
unfolding definition
definition_prints n ts h = bind (IsName ts) (IsDefinition ts) (a_name ts) _ (name_prints ts h) (λ p i k. allowed p i k (same p.0 (bytes "true") || same p.0 (bytes "fail")) refl)
  where
    rest : (p : Name × List Token) → NotReserved p.0 → ts ≡ name p.0 ∷ p.1 → SpelledTokens p.1 → Prints (IsDefinition ts) (arguments n p.1 >>= λ xs. after defines xs.1 >>= λ r. statement n r >>= λ s. after full_stop s.1 >>= λ u. some (record { head = p.0; parameters = xs.0; statement = s.0 }, u))
    rest p q i k = bind (AreArguments p.1) (IsDefinition ts) (arguments n p.1) _ (arguments_print n p.1 k) (λ xs a w. tail (Marked xs.1 defines) (IsDefinition ts) (after defines xs.1) _ (after_prints defines xs.1 w) (λ r g z. bind (IsStatement r) (IsDefinition ts) (statement n r) _ (statement_prints n r z) (λ s b y. tail (Marked s.1 full_stop) (IsDefinition ts) (after full_stop s.1) _ (after_prints full_stop s.1 y) (λ u c v. (((q, b.0), i ∙ ap (λ (l : List Token). name p.0 ∷ l) (a ∙ ap (arguments_tokens xs.0) (g ∙ ap (λ (l : List Token). sign defines ∷ l) (b.1 ∙ ap (statement_tokens s.0) c)))), v)))))

    allowed : (p : Name × List Token) → ts ≡ name p.0 ∷ p.1 → SpelledTokens p.1 → (b : Bool) → same p.0 (bytes "true") || same p.0 (bytes "fail") ≡ b → Prints (IsDefinition ts) (when (not b) p >>= λ q. arguments n p.1 >>= λ xs. after defines xs.1 >>= λ r. statement n r >>= λ s. after full_stop s.1 >>= λ u. some (record { head = p.0; parameters = xs.0; statement = s.0 }, u))
    allowed p i k true e = tt
    allowed p i k false e = rest p (λ t. subst T e t) i k

definitions_print : (n k : ℕ) (ts : List Token) → SpelledTokens ts → Whole (λ ds. WritableProgram ds × (ts ≡ program_tokens ds)) (definitions n k ts)
unfolding definitions
definitions_print zero k ts h = tt
definitions_print (suc n) k [] h = (tt, refl)
definitions_print (suc n) k (t ∷ ts) h = go (definition k (t ∷ ts)) (definition_prints k (t ∷ ts) h) (λ r g. definitions_print n k r g)
  where
    more : (d : Definition) (r : List Token) (o : Option (List Definition)) → IsDefinition (t ∷ ts) d r → Whole (λ ds. WritableProgram ds × (r ≡ program_tokens ds)) o → Whole (λ ds. WritableProgram ds × (t ∷ ts ≡ program_tokens ds)) (o >>= λ ds. some (d ∷ ds))
    more d r none a b = tt
    more d r (some ds) a b = ((a.0, b.0), a.1 ∙ ap (definition_tokens d) b.1)

    go : (o : Read Definition) → Prints (IsDefinition (t ∷ ts)) o → ((r : List Token) → SpelledTokens r → Whole (λ ds. WritableProgram ds × (r ≡ program_tokens ds)) (definitions n k r)) → Whole (λ ds. WritableProgram ds × (t ∷ ts ≡ program_tokens ds)) (o >>= λ d. definitions n k d.1 >>= λ ds. some (d.0 ∷ ds))
    go none g ih = tt
    go (some d) g ih = more d.0 d.1 (definitions n k d.1) g.0 (ih d.1 g.1)

pub program_prints : (ts : List Token) (ds : List Definition) → SpelledTokens ts → parse_program ts ≡ some ds → WritableProgram ds × (ts ≡ program_tokens ds)
unfolding parse_program
program_prints ts ds h e = subst (Whole (λ es. WritableProgram es × (ts ≡ program_tokens es))) e (definitions_print (suc (size ts)) (enough ts) ts h)
