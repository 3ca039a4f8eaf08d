-- How many words a tree's meaning has, by how many tokens the tree has: at most five words for two tokens, as in `p,p,p`.
-- Each law takes the words r and the tokens ts that follow.
use mathlib.Core.List.{List, [], ◌∷◌, ◌++◌, map}
use Prim.Native.Nat.{ℕ, ◌+◌, ◌*◌, ◌≤◌}
use native.Mathlib.Omega.{arith}
use mathlib.Core.Path.{◌≡◌}
use lib.ListN.{length, length-map}
use Rattle.constraint.specs.Constraint.{Con, ctrue, cfail, ceq, capp, map_con}
use Rattle.akl.specs.Base.{Name}
use Rattle.akl.specs.Syntax.{Var, Clauses}
use Rattle.akl.specs.Token.{Token, sign, close_bracket, comma, full_stop, colon, defines, operator}
use Rattle.akl.specs.Grammar.{Statement, single, joined, Simple, constraint, program, bracket, Bracket, plain, hiding, choosing, Clause, written, Others, end, and_also, Definition}
use Rattle.akl.specs.Reader.{variable_of, statement_of, simple_of, bracket_of, clause_of, others_of, definition_of}
use Rattle.texts.specs.Printing.{vars_tokens, arguments_tokens, hidden_tokens, constraint_tokens, statement_tokens, simple_tokens, bracket_tokens, clause_tokens, others_tokens, program_tokens}
use Rattle.mem_words.specs.declared.Word.{Word}
use Rattle.mem_words.specs.declared.Word.TheVariants.{End}
use Rattle.layout.specs.Layout.{vars_words, con_words, stmt_words, clauses_words, program_words}

vars_size : (xs : List Var) (r : List Word) → length (vars_words xs r) ≡ length xs + length r
unfolding vars_words
vars_size [] r = omega arith
vars_size (x ∷ xs) r = omega (arith, vars_size xs r)

vars_long : (xs : List Name) (ts : List Token) → length xs + length ts ≤ length (vars_tokens xs ts)
vars_long [] ts = omega arith
vars_long (x ∷ []) ts = omega arith
vars_long (x ∷ (y ∷ l)) ts = omega (arith, vars_long (y ∷ l) ts)

arguments_long : (xs : List Name) (ts : List Token) → length xs + length ts ≤ length (arguments_tokens xs ts)
arguments_long [] ts = omega arith
arguments_long (x ∷ l) ts = omega (arith, vars_long (x ∷ l) (sign close_bracket ∷ ts))

hidden_long : (xs : List Name) (ts : List Token) → length ts ≤ length (hidden_tokens xs ts)
hidden_long [] ts = omega arith
hidden_long (x ∷ l) ts = omega (arith, vars_long (x ∷ l) (sign colon ∷ ts))

module _ (num : Name → ℕ) where
  con_few : (c : Con Name) (qs bs : List Name) (r : List Word) (ts : List Token) → 2 * length (con_words num (map_con (variable_of qs bs) c) r) + 5 * length ts ≤ 2 * length r + 5 * length (constraint_tokens c ts) + 1
  unfolding con_words
  con_few ctrue qs bs r ts = omega arith
  con_few cfail qs bs r ts = omega arith
  con_few (ceq x y) qs bs r ts = omega arith
  con_few (capp x f ys) qs bs r ts = omega (arith, vars_size (map (variable_of qs bs) ys) (End ∷ r), length-map ys (variable_of qs bs), arguments_long ys ts)

  mutual
    unfolding statement_of statement_tokens stmt_words

    pub statement_few : (s : Statement) (qs bs : List Name) (r : List Word) (ts : List Token) → 2 * length (stmt_words num (statement_of s qs bs) r) + 5 * length ts ≤ 2 * length r + 5 * length (statement_tokens s ts) + 1
    statement_few (single s) qs bs r ts = simple_few s qs bs r ts
    statement_few (joined s t) qs bs r ts =
        let w = stmt_words num (statement_of t qs bs) (End ∷ r) in
        let u = sign comma ∷ statement_tokens t ts in
        omega (arith, simple_few s qs bs w u, statement_few t qs bs (End ∷ r) ts)

    simple_few : (s : Simple) (qs bs : List Name) (r : List Word) (ts : List Token) → 2 * length (stmt_words num (simple_of s qs bs) r) + 5 * length ts ≤ 2 * length r + 5 * length (simple_tokens s ts) + 1
    simple_few (constraint c) qs bs r ts = con_few c qs bs r ts
    simple_few (program p xs) qs bs r ts = omega (arith, vars_size (map (variable_of qs bs) xs) (End ∷ r), length-map xs (variable_of qs bs), arguments_long xs ts)
    simple_few (bracket b) qs bs r ts = omega (arith, bracket_few b qs bs r (sign close_bracket ∷ ts))

    bracket_few : (b : Bracket) (qs bs : List Name) (r : List Word) (ts : List Token) → 2 * length (stmt_words num (bracket_of b qs bs) r) + 5 * length ts ≤ 2 * length r + 5 * length (bracket_tokens b ts) + 7
    bracket_few (plain s) qs bs r ts = omega (arith, statement_few s qs bs r ts)
    bracket_few (hiding x xs s) qs bs r ts = omega (arith, statement_few s qs (bs ++ (x ∷ xs)) (End ∷ r) ts, hidden_long (x ∷ xs) (statement_tokens s ts))
    bracket_few (choosing c cs) qs bs r ts = omega (arith, clause_few c qs bs (others_of cs qs bs) (End ∷ r) (others_tokens cs ts), others_few cs qs bs (End ∷ r) ts)

    clause_few : (c : Clause) (qs bs : List Name) (cs : Clauses) (r : List Word) (ts : List Token) → 2 * length (clauses_words num (clause_of c qs bs cs) r) + 5 * length ts ≤ 2 * length (clauses_words num cs r) + 5 * length (clause_tokens c ts) + 3
    clause_few (written xs g op b) qs bs cs r ts =
        let w = End ∷ clauses_words num cs r in
        let v = stmt_words num (statement_of b qs (bs ++ xs)) w in
        let u = sign (operator op) ∷ statement_tokens b ts in
        omega (arith, statement_few g qs (bs ++ xs) v u, statement_few b qs (bs ++ xs) w ts, hidden_long xs (statement_tokens g u))

    others_few : (cs : Others) (qs bs : List Name) (r : List Word) (ts : List Token) → 2 * length (clauses_words num (others_of cs qs bs) r) + 5 * length ts ≤ 2 * length r + 5 * length (others_tokens cs ts)
    others_few end qs bs r ts = omega arith
    others_few (and_also c cs) qs bs r ts = omega (arith, clause_few c qs bs (others_of cs qs bs) r (others_tokens cs ts), others_few cs qs bs r ts)

  pub program_few : (ds : List Definition) → 2 * length (program_words num (map definition_of ds)) ≤ 5 * length (program_tokens ds)
  unfolding program_words
  program_few [] = omega arith
  program_few (d ∷ ds) =
      let u = sign full_stop ∷ program_tokens ds in
      omega (
        arith,
        statement_few d.statement [] d.parameters (program_words num (map definition_of ds)) u,
        arguments_long d.parameters (sign defines ∷ statement_tokens d.statement u),
        program_few ds,
      )
