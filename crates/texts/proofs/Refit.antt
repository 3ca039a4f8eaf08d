-- A statement that fits with some numbers free fits with others, if its own are among them.
use mathlib.Core.Path.{refl}
use mathlib.Core.Logic.{inl, inr}
use mathlib.Core.List.{List, [], ◌∷◌, ◌++◌}
use mathlib.Core.Bool.{Bool, ◌&&◌, ◌||◌}
use Prim.Native.Nat.{ℕ, ◌+◌}
use lib.Dec.{T, leb}
use Rattle.constraint.specs.Constraint.{Con, ctrue, cfail, ceq, capp, In}
use Rattle.constraint.proofs.Lists.{and_T, In-append}
use Rattle.akl.specs.Base.{is_some, size, all}
use Rattle.akl.specs.Syntax.{Var, number, level, Stmt, atom, call, comp, hide, choice, Clauses, no_more, clause, Program, defined}
use Rattle.akl.specs.WellFormed.{variable_fits, few, constraint_fits, statement_fits, clauses_fit, some_clause, spelled_name, spelled_digits, variable_numbers, list_numbers, constraint_numbers, numbers, clauses_numbers}

module _ (P : Program) (f g : ℕ → Bool) where
  abbrev Also : List ℕ → Type 0
  Also xs = (x : ℕ) → In x xs → T (f x) → T (g x)

  first_of : (a b : List ℕ) → Also (a ++ b) → Also a
  first_of a b h x i = h x ((In-append x a b).1 (inl i))

  second_of : (a b : List ℕ) → Also (a ++ b) → Also b
  second_of a b h x i = h x ((In-append x a b).1 (inr i))

  var_refit : (n : ℕ) (v : Var) → Also (variable_numbers v) → T (variable_fits f n v) → T (variable_fits g n v)
  var_refit n (number x) h t = h x (inl refl) t
  var_refit n (level l) h t = t

  list_refit : (n : ℕ) (vs : List Var) → Also (list_numbers vs) → T (all (variable_fits f n) vs) → T (all (variable_fits g n) vs)
  unfolding all list_numbers
  list_refit n [] h t = tt
  list_refit n (v ∷ vs) h t =
      let k = (and_T (variable_fits f n v) (all (variable_fits f n) vs)).0 t in
      (and_T (variable_fits g n v) (all (variable_fits g n) vs)).1 (var_refit n v (first_of (variable_numbers v) (list_numbers vs) h) k.0, list_refit n vs (second_of (variable_numbers v) (list_numbers vs) h) k.1)

  con_refit : (n : ℕ) (c : Con Var) → Also (constraint_numbers c) → T (constraint_fits f n c) → T (constraint_fits g n c)
  con_refit n ctrue h t = tt
  con_refit n cfail h t = tt
  con_refit n (ceq x y) h t =
      let k = (and_T (variable_fits f n x) (variable_fits f n y)).0 t in
      (and_T (variable_fits g n x) (variable_fits g n y)).1 (var_refit n x (first_of (variable_numbers x) (variable_numbers y) h) k.0, var_refit n y (second_of (variable_numbers x) (variable_numbers y) h) k.1)
  con_refit n (capp x l ys) h t =
      let a = variable_fits f n in
      let b = variable_fits g n in
      let k3 = (and_T (a x && all a ys && few ys) (spelled_name l || spelled_digits l)).0 t in
      let k2 = (and_T (a x && all a ys) (few ys)).0 k3.0 in
      let k1 = (and_T (a x) (all a ys)).0 k2.0 in
      (and_T (b x && all b ys && few ys) (spelled_name l || spelled_digits l)).1 ((and_T (b x && all b ys) (few ys)).1 ((and_T (b x) (all b ys)).1 (var_refit n x (first_of (variable_numbers x) (list_numbers ys) h) k1.0, list_refit n ys (second_of (variable_numbers x) (list_numbers ys) h) k1.1), k2.1), k3.1)

  mutual
    unfolding statement_fits numbers

    pub refit : (s : Stmt) (n : ℕ) → Also (numbers s) → T (statement_fits s P f n) → T (statement_fits s P g n)
    refit (atom c) n h t = con_refit n c h t
    refit (call p xs) n h t =
        let k2 = (and_T (all (variable_fits f n) xs && few xs) (is_some (defined P p (size xs)))).0 t in
        let k1 = (and_T (all (variable_fits f n) xs) (few xs)).0 k2.0 in
        (and_T (all (variable_fits g n) xs && few xs) (is_some (defined P p (size xs)))).1 ((and_T (all (variable_fits g n) xs) (few xs)).1 (list_refit n xs h k1.0, k1.1), k2.1)
    refit (comp a b) n h t =
        let k = (and_T (statement_fits a P f n) (statement_fits b P f n)).0 t in
        (and_T (statement_fits a P g n) (statement_fits b P g n)).1 (refit a n (first_of (numbers a) (numbers b) h) k.0, refit b n (second_of (numbers a) (numbers b) h) k.1)
    refit (hide m a) n h t =
        let k = (and_T (leb 1 m) (statement_fits a P f (n + m))).0 t in
        (and_T (leb 1 m) (statement_fits a P g (n + m))).1 (k.0, refit a (n + m) h k.1)
    refit (choice op cs) n h t =
        let k = (and_T (some_clause cs) (clauses_fit cs P f n)).0 t in
        (and_T (some_clause cs) (clauses_fit cs P g n)).1 (k.0, clauses_refit cs n h k.1)

    clauses_refit : (cs : Clauses) (n : ℕ) → Also (clauses_numbers cs) → T (clauses_fit cs P f n) → T (clauses_fit cs P g n)
    clauses_refit no_more n h t = tt
    clauses_refit (clause m a b cs) n h t =
        let k2 = (and_T (statement_fits a P f (n + m) && statement_fits b P f (n + m)) (clauses_fit cs P f n)).0 t in
        let k1 = (and_T (statement_fits a P f (n + m)) (statement_fits b P f (n + m))).0 k2.0 in
        let h2 = first_of (numbers a ++ numbers b) (clauses_numbers cs) h in
        (and_T (statement_fits a P g (n + m) && statement_fits b P g (n + m)) (clauses_fit cs P g n)).1 ((and_T (statement_fits a P g (n + m)) (statement_fits b P g (n + m))).1 (refit a (n + m) (first_of (numbers a) (numbers b) h2) k1.0, refit b (n + m) (second_of (numbers a) (numbers b) h2) k1.1), clauses_refit cs n (second_of (numbers a ++ numbers b) (clauses_numbers cs) h) k2.1)
