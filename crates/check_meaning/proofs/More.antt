-- A statement that fits one program fits another that defines as much, with as many variables' numbers.
use mathlib.Core.List.{List, [], ◌∷◌}
use mathlib.Core.Bool.{Bool, ◌||◌}
use Prim.Native.Nat.{ℕ, ◌+◌}
use lib.Dec.{T, leb}
use Rattle.constraint.specs.Constraint.{Con, ctrue, cfail, ceq, capp}
use Rattle.constraint.proofs.Lists.{and_T}
use Rattle.akl.specs.Base.{Name, all, size, is_some}
use Rattle.akl.specs.Limits.{most_arguments}
use Rattle.akl.specs.Syntax.{Var, number, level, Stmt, atom, call, comp, hide, choice, Clauses, no_more, clause, Program, defined}
use Rattle.akl.specs.WellFormed.{spelled_name, spelled_digits, variable_fits, constraint_fits, statement_fits, clauses_fit, some_clause}
use Rattle.check_meaning.proofs.Moves.{and3, and4}

module _ (P Q : Program) (F G : ℕ → Bool) (D : (p : Name) (k : ℕ) → T (is_some (defined P p k)) → T (is_some (defined Q p k))) (E : (x : ℕ) → T (F x) → T (G x)) where
  var_more : (n : ℕ) (x : Var) → T (variable_fits F n x) → T (variable_fits G n x)
  var_more n (number x) t = E x t
  var_more n (level l) t = t

  vars_more : (n : ℕ) (xs : List Var) → T (all (variable_fits F n) xs) → T (all (variable_fits G n) xs)
  unfolding all
  vars_more n [] t = tt
  vars_more n (x ∷ xs) t =
      let h = (and_T (variable_fits F n x) (all (variable_fits F n) xs)).0 t in
      (and_T (variable_fits G n x) (all (variable_fits G n) xs)).1 (var_more n x h.0, vars_more n xs h.1)

  con_more : (n : ℕ) (c : Con Var) → T (constraint_fits F n c) → T (constraint_fits G n c)
  con_more n ctrue t = tt
  con_more n cfail t = tt
  con_more n (ceq x y) t =
      let h = (and_T (variable_fits F n x) (variable_fits F n y)).0 t in
      (and_T (variable_fits G n x) (variable_fits G n y)).1 (var_more n x h.0, var_more n y h.1)
  con_more n (capp x f ys) t =
      let h = (and4 (variable_fits F n x) (all (variable_fits F n) ys) (leb (size ys) most_arguments) (spelled_name f || spelled_digits f)).0 t in
      (and4 (variable_fits G n x) (all (variable_fits G n) ys) (leb (size ys) most_arguments) (spelled_name f || spelled_digits f)).1 (var_more n x h.0, vars_more n ys h.1, h.2, h.3)

  mutual
    unfolding statement_fits

    pub stmt_more : (s : Stmt) (n : ℕ) → T (statement_fits s P F n) → T (statement_fits s Q G n)
    stmt_more (atom c) n t = con_more n c t
    stmt_more (call p xs) n t =
        let h = (and3 (all (variable_fits F n) xs) (leb (size xs) most_arguments) (is_some (defined P p (size xs)))).0 t in
        (and3 (all (variable_fits G n) xs) (leb (size xs) most_arguments) (is_some (defined Q p (size xs)))).1 (vars_more n xs h.0, h.1, D p (size xs) h.2)
    stmt_more (comp a b) n t =
        let h = (and_T (statement_fits a P F n) (statement_fits b P F n)).0 t in
        (and_T (statement_fits a Q G n) (statement_fits b Q G n)).1 (stmt_more a n h.0, stmt_more b n h.1)
    stmt_more (hide m a) n t =
        let h = (and_T (leb 1 m) (statement_fits a P F (n + m))).0 t in
        (and_T (leb 1 m) (statement_fits a Q G (n + m))).1 (h.0, stmt_more a (n + m) h.1)
    stmt_more (choice op cs) n t =
        let h = (and_T (some_clause cs) (clauses_fit cs P F n)).0 t in
        (and_T (some_clause cs) (clauses_fit cs Q G n)).1 (h.0, clauses_more cs n h.1)

    clauses_more : (cs : Clauses) (n : ℕ) → T (clauses_fit cs P F n) → T (clauses_fit cs Q G n)
    clauses_more no_more n t = tt
    clauses_more (clause m g b cs) n t =
        let h = (and3 (statement_fits g P F (n + m)) (statement_fits b P F (n + m)) (clauses_fit cs P F n)).0 t in
        (and3 (statement_fits g Q G (n + m)) (statement_fits b Q G (n + m)) (clauses_fit cs Q G n)).1 (stmt_more g (n + m) h.0, stmt_more b (n + m) h.1, clauses_more cs n h.2)
