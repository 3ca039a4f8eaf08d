-- The tokens of a tree as it is written. A text is of the grammar when its tokens are those of a writable tree
-- (Writable.antt), and it has one such tree: proofs/OneReading.antt shows both of the reader's definition (akl: Parse).
use Rattle.std.specs.Prelude.{List, [], ◌∷◌}
use Rattle.constraint.specs.Constraint.{Con, ctrue, cfail, ceq, capp}
use Rattle.akl.specs.Base.{Name, bytes, if}
use Rattle.akl.specs.Token.{class_of, digit_class, Token, name, digits, variable, sign, open_bracket, close_bracket, comma, full_stop, colon, defines, equals, semicolon, operator}
use Rattle.akl.specs.Grammar.{Statement, single, joined, Simple, constraint, program, bracket, Bracket, plain, hiding, choosing, Clause, written, Others, end, and_also, Definition}

-- The tokens of a tree, with what follows as the last argument.
abbrev pub vars_tokens : List Name → List Token → List Token
vars_tokens [] ts = ts
vars_tokens (x ∷ []) ts = variable x ∷ ts
vars_tokens (x ∷ (y ∷ l)) ts = variable x ∷ sign comma ∷ vars_tokens (y ∷ l) ts

-- "a name, or a name with variables as arguments"
abbrev pub arguments_tokens : List Name → List Token → List Token
arguments_tokens [] ts = ts
arguments_tokens (x ∷ l) ts = sign open_bracket ∷ vars_tokens (x ∷ l) (sign close_bracket ∷ ts)

abbrev pub hidden_tokens : List Name → List Token → List Token
hidden_tokens [] ts = ts
hidden_tokens (x ∷ l) ts = vars_tokens (x ∷ l) (sign colon ∷ ts)

-- a constructor's name, which may be digits alone
abbrev pub label_token : Name → Token
label_token [] = name []
label_token (x ∷ w) = if (digit_class (class_of x)) (digits (x ∷ w)) (name (x ∷ w))

abbrev pub constraint_tokens : Con Name → List Token → List Token
constraint_tokens ctrue ts = name (bytes "true") ∷ ts
constraint_tokens cfail ts = name (bytes "fail") ∷ ts
constraint_tokens (ceq x y) ts = variable x ∷ sign equals ∷ variable y ∷ ts
constraint_tokens (capp x f ys) ts = variable x ∷ sign equals ∷ label_token f ∷ arguments_tokens ys ts

unfoldable mutual
  pub statement_tokens : Statement → List Token → List Token
  statement_tokens (single s) ts = simple_tokens s ts
  statement_tokens (joined s r) ts = simple_tokens s (sign comma ∷ statement_tokens r ts)

  pub simple_tokens : Simple → List Token → List Token
  simple_tokens (constraint c) ts = constraint_tokens c ts
  simple_tokens (program p xs) ts = name p ∷ arguments_tokens xs ts
  simple_tokens (bracket b) ts = sign open_bracket ∷ bracket_tokens b (sign close_bracket ∷ ts)

  pub bracket_tokens : Bracket → List Token → List Token
  bracket_tokens (plain s) ts = statement_tokens s ts
  bracket_tokens (hiding x xs s) ts = hidden_tokens (x ∷ xs) (statement_tokens s ts)
  bracket_tokens (choosing c cs) ts = clause_tokens c (others_tokens cs ts)

  pub clause_tokens : Clause → List Token → List Token
  clause_tokens (written xs g op b) ts = hidden_tokens xs (statement_tokens g (sign (operator op) ∷ statement_tokens b ts))

  pub others_tokens : Others → List Token → List Token
  others_tokens end ts = ts
  others_tokens (and_also c cs) ts = sign semicolon ∷ clause_tokens c (others_tokens cs ts)

-- "A query is one statement and a full stop."
abbrev pub query_tokens : Statement → List Token
query_tokens s = statement_tokens s (sign full_stop ∷ [])

abbrev pub definition_tokens : Definition → List Token → List Token
definition_tokens d ts = name d.head ∷ arguments_tokens d.parameters (sign defines ∷ statement_tokens d.statement (sign full_stop ∷ ts))

-- "A program is zero or more definitions".
abbrev pub program_tokens : List Definition → List Token
program_tokens [] = []
program_tokens (d ∷ ds) = definition_tokens d (program_tokens ds)
