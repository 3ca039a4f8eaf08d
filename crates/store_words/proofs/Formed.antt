-- What passes 3 has no list of more than 8 arguments: so a well-formed configuration has at most 14 words for each part.
use mathlib.Core.List.{List, [], ◌∷◌}
use mathlib.Core.Bool.{Bool, true, ◌&&◌, ◌||◌}
use Prim.Native.Nat.{ℕ, ◌+◌, ◌*◌, ◌≤◌}
use native.Mathlib.Omega.{arith}
use lib.Dec.{T, leb, leb→le}
use lib.ListN.{length}
use Rattle.constraint.specs.Constraint.{Con, ctrue, cfail, ceq, capp}
use Rattle.constraint.specs.Constraint as constraint
use Rattle.constraint.proofs.Lists.{and_T}
use Rattle.akl.specs.Base.{is_some, Name, size, all}
use Rattle.akl.specs.Limits.{most_arguments, most_depth}
use Rattle.akl.specs.Syntax.{Var, Stmt, atom, call, comp, hide, choice, Clauses, no_more, clause, Program, defined}
use Rattle.akl.specs.Configuration.{Kind, Node, or, and, stmt, choice_box, guard, Nodes, nil, cons, Config}
use Rattle.akl.specs.WellFormed.{spelled_name, spelled_digits, variable_fits, few, constraint_fits, statement_fits, clauses_fit, some_clause, depth, statement_passes, stored_fits, statements_pass, statements_pass_all}
use Rattle.theory.specs.Formed.{Formed}
use Rattle.store_words.specs.Boxes.{node_words}
use Rattle.store_words.specs.Tables.{FewCon, FewStore, Few, FewClauses, FewNode, FewNodes}
use Rattle.store_words.proofs.Sizes.{size_length, node_size}

few_length : {A : Type 0} (l : List A) → T (few l) → length l ≤ 8
few_length l t = omega (arith, size_length l, leb→le (size l) most_arguments t)

con_few : (free : ℕ → Bool) (n : ℕ) (c : Con Var) → T (constraint_fits free n c) → FewCon 8 c
con_few free n ctrue t = tt
con_few free n cfail t = tt
con_few free n (ceq x y) t = tt
con_few free n (capp x f ys) t =
    let name = spelled_name f || spelled_digits f in
    let vars = variable_fits free n x && all (variable_fits free n) ys in
    few_length ys ((and_T vars (few ys)).0 ((and_T (vars && few ys) name).0 t).0).1

mutual
  unfolding statement_fits

  pub stmt_few : (s : Stmt) (P : Program) (free : ℕ → Bool) (n : ℕ) → T (statement_fits s P free n) → Few 8 s
  stmt_few (atom c) P free n t = con_few free n c t
  stmt_few (call p xs) P free n t =
      let d = is_some (defined P p (size xs)) in
      let vars = all (variable_fits free n) xs in
      few_length xs ((and_T vars (few xs)).0 ((and_T (vars && few xs) d).0 t).0).1
  stmt_few (comp a b) P free n t =
      let h = (and_T (statement_fits a P free n) (statement_fits b P free n)).0 t in
      (stmt_few a P free n h.0, stmt_few b P free n h.1)
  stmt_few (hide m a) P free n t = stmt_few a P free (n + m) ((and_T (leb 1 m) (statement_fits a P free (n + m))).0 t).1
  stmt_few (choice op cs) P free n t = clauses_few cs P free n ((and_T (some_clause cs) (clauses_fit cs P free n)).0 t).1

  clauses_few : (cs : Clauses) (P : Program) (free : ℕ → Bool) (n : ℕ) → T (clauses_fit cs P free n) → FewClauses 8 cs
  clauses_few no_more P free n t = tt
  clauses_few (clause m g b cs) P free n t =
      let h = (and_T (statement_fits g P free (n + m) && statement_fits b P free (n + m)) (clauses_fit cs P free n)).0 t in
      let k = (and_T (statement_fits g P free (n + m)) (statement_fits b P free (n + m))).0 h.0 in
      (stmt_few g P free (n + m) k.0, stmt_few b P free (n + m) k.1, clauses_few cs P free n h.1)

passes_few : (P : Program) (free : ℕ → Bool) (n : ℕ) (s : Stmt) → T (statement_passes P free n s) → Few 8 s
unfolding statement_passes
passes_few P free n s t = stmt_few s P free n ((and_T (statement_fits s P free n) (leb (depth s) most_depth)).0 t).0

stored_few : (c : Con ℕ) → T (stored_fits c) → FewCon 8 c
stored_few ctrue t = tt
stored_few cfail t = tt
stored_few (ceq x y) t = tt
stored_few (capp x f ys) t = few_length ys ((and_T (few ys) (spelled_name f || spelled_digits f)).0 t).0

store_few : (σ : constraint.Store) → T (all stored_fits σ) → FewStore 8 σ
unfolding all
store_few [] t = tt
store_few (c ∷ σ) t = let h = (and_T (stored_fits c) (all stored_fits σ)).0 t in (stored_few c h.0, store_few σ h.1)

mutual
  unfolding statements_pass

  pub node_few : {k : Kind} (n : Node k) (P : Program) → T (statements_pass n P) → FewNode 8 n
  node_few (or ns) P t = nodes_few ns P t
  node_few (and vs σ ms) P t = let h = (and_T (all stored_fits σ) (statements_pass_all ms P)).0 t in (store_few σ h.0, nodes_few ms P h.1)
  node_few (stmt s) P t = passes_few P (λ x. true) 0 s t
  node_few (choice_box op gs) P t = nodes_few gs P t
  node_few (guard g b) P t = let h = (and_T (statements_pass g P) (statement_passes P (λ x. true) 0 b)).0 t in (node_few g P h.0, passes_few P (λ x. true) 0 b h.1)

  nodes_few : {k : Kind} (ns : Nodes k) (P : Program) → T (statements_pass_all ns P) → FewNodes 8 ns
  nodes_few nil P t = tt
  nodes_few (cons n ns) P t = let h = (and_T (statements_pass n P) (statements_pass_all ns P)).0 t in (node_few n P h.0, nodes_few ns P h.1)

-- The words of a well-formed configuration fit 14 for each part that fits.
pub formed_size : (num : Name → ℕ) (limit : ℕ) (P : Program) (xs : List Name) (c : Config) → Formed limit P xs c → length (node_words num c.root []) ≤ 14 * limit
formed_size num limit P xs c f = omega (arith, node_size num c.root [] (node_few c.root P f.statements), f.fit)
