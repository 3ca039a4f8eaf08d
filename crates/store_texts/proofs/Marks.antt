-- How many of a tree's tokens are marks: names and variables stand apart, so that in a program at least half of the tokens are.
-- Each law takes the tokens ts that follow.
use mathlib.Core.List.{List, [], ◌∷◌}
use Prim.Native.Nat.{ℕ, ◌+◌, ◌*◌, ◌≤◌}
use native.Mathlib.Omega.{arith}
use lib.ListN.{length}
use Rattle.constraint.specs.Constraint.{Con, ctrue, cfail, ceq, capp}
use Rattle.akl.specs.Base.{Name}
use Rattle.akl.specs.Token.{Token, sign, close_bracket, comma, full_stop, colon, defines, operator}
use Rattle.akl.specs.Grammar.{Statement, single, joined, Simple, constraint, program, bracket, Bracket, plain, hiding, choosing, Clause, written, Others, end, and_also, Definition}
use Rattle.texts.specs.Printing.{vars_tokens, arguments_tokens, hidden_tokens, constraint_tokens, statement_tokens, simple_tokens, bracket_tokens, clause_tokens, others_tokens, program_tokens}
use Rattle.read_lexed.specs.Marks.{mark_in, marks}

vars_marked : (xs : List Name) (ts : List Token) → length (vars_tokens xs ts) + 2 * marks ts ≤ length ts + 2 * marks (vars_tokens xs ts) + 1
unfolding marks mark_in
vars_marked [] ts = omega arith
vars_marked (x ∷ []) ts = omega arith
vars_marked (x ∷ (y ∷ l)) ts = omega (arith, vars_marked (y ∷ l) ts)

arguments_marked : (xs : List Name) (ts : List Token) → length (arguments_tokens xs ts) + 2 * marks ts ≤ length ts + 2 * marks (arguments_tokens xs ts)
unfolding marks mark_in
arguments_marked [] ts = omega arith
arguments_marked (x ∷ l) ts = omega (arith, vars_marked (x ∷ l) (sign close_bracket ∷ ts))

hidden_marked : (xs : List Name) (ts : List Token) → length (hidden_tokens xs ts) + 2 * marks ts ≤ length ts + 2 * marks (hidden_tokens xs ts)
unfolding marks mark_in
hidden_marked [] ts = omega arith
hidden_marked (x ∷ l) ts = omega (arith, vars_marked (x ∷ l) (sign colon ∷ ts))

constraint_marked : (c : Con Name) (ts : List Token) → length (constraint_tokens c ts) + 2 * marks ts ≤ length ts + 2 * marks (constraint_tokens c ts) + 1
unfolding marks mark_in
constraint_marked ctrue ts = omega arith
constraint_marked cfail ts = omega arith
constraint_marked (ceq x y) ts = omega arith
constraint_marked (capp x f ys) ts = omega (arith, arguments_marked ys ts)

mutual
  unfolding statement_tokens marks mark_in

  statement_marked : (s : Statement) (ts : List Token) → length (statement_tokens s ts) + 2 * marks ts ≤ length ts + 2 * marks (statement_tokens s ts) + 1
  statement_marked (single s) ts = simple_marked s ts
  statement_marked (joined s t) ts = omega (arith, simple_marked s (sign comma ∷ statement_tokens t ts), statement_marked t ts)

  simple_marked : (s : Simple) (ts : List Token) → length (simple_tokens s ts) + 2 * marks ts ≤ length ts + 2 * marks (simple_tokens s ts) + 1
  simple_marked (constraint c) ts = constraint_marked c ts
  simple_marked (program p xs) ts = omega (arith, arguments_marked xs ts)
  simple_marked (bracket b) ts = omega (arith, bracket_marked b (sign close_bracket ∷ ts))

  bracket_marked : (b : Bracket) (ts : List Token) → length (bracket_tokens b ts) + 2 * marks ts ≤ length ts + 2 * marks (bracket_tokens b ts) + 1
  bracket_marked (plain s) ts = statement_marked s ts
  bracket_marked (hiding x xs s) ts = omega (arith, hidden_marked (x ∷ xs) (statement_tokens s ts), statement_marked s ts)
  bracket_marked (choosing c cs) ts = omega (arith, clause_marked c (others_tokens cs ts), others_marked cs ts)

  clause_marked : (c : Clause) (ts : List Token) → length (clause_tokens c ts) + 2 * marks ts ≤ length ts + 2 * marks (clause_tokens c ts) + 1
  clause_marked (written xs g op b) ts =
      let u = sign (operator op) ∷ statement_tokens b ts in
      omega (arith, hidden_marked xs (statement_tokens g u), statement_marked g u, statement_marked b ts)

  others_marked : (cs : Others) (ts : List Token) → length (others_tokens cs ts) + 2 * marks ts ≤ length ts + 2 * marks (others_tokens cs ts)
  others_marked end ts = omega arith
  others_marked (and_also c cs) ts = omega (arith, clause_marked c (others_tokens cs ts), others_marked cs ts)

pub program_marked : (ds : List Definition) → length (program_tokens ds) ≤ 2 * marks (program_tokens ds)
unfolding marks mark_in
program_marked [] = omega arith
program_marked (d ∷ ds) =
    let u = sign full_stop ∷ program_tokens ds in
    omega (
      arith,
      arguments_marked d.parameters (sign defines ∷ statement_tokens d.statement u),
      statement_marked d.statement u,
      program_marked ds,
    )
