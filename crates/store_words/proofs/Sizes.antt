-- How many words a configuration has: at most 14 for each part where no list of arguments is longer than 8. A member that is
-- one atom with 8 arguments has 14 (two of its own, 12 of the atom) and is one part, so that no less would do. A local is one word.
use mathlib.Core.List.{List, [], ◌∷◌}
use Prim.Native.Nat.{ℕ, ◌+◌, ◌*◌, ◌≤◌}
use native.Mathlib.Omega.{arith}
use mathlib.Core.Path.{◌≡◌, refl}
use lib.ListN.{length, length-map}
use Rattle.constraint.specs.Constraint.{Con, ctrue, cfail, ceq, capp, map_con}
use Rattle.constraint.specs.Constraint as constraint
use Rattle.akl.specs.Base.{Name, size}
use Rattle.akl.specs.Syntax.{Var, number, Stmt, atom, call, comp, hide, choice, Clauses, no_more, clause}
use Rattle.akl.specs.Configuration.{Kind, Node, or, and, stmt, choice_box, guard, Nodes, nil, cons}
use Rattle.akl.specs.Parts.{statement_parts, clauses_parts, parts, parts_all}
use Rattle.mem_words.specs.declared.Word.{Word}
use Rattle.mem_words.specs.declared.Word.TheVariants.{End, Inner}
use Rattle.mem_sorts.specs.declared.Sort.TheVariants.{Store}
use Rattle.layout.specs.Layout.{vars_words, con_words, stmt_words, clauses_words}
use Rattle.store_words.specs.Boxes.{store_words, node_words, nodes_words}
use Rattle.store_words.specs.Tables.{FewCon, FewStore, Few, FewClauses, FewNode, FewNodes}
use Rattle.store_words.proofs.Back.{local_long}

pub size_length : {A : Type 0} (l : List A) → size l ≡ length l
unfolding size
size_length [] = refl
size_length (x ∷ l) = omega (arith, size_length l)

vars_size : (xs : List Var) (r : List Word) → length (vars_words xs r) ≡ length xs + length r
unfolding vars_words
vars_size [] r = omega arith
vars_size (x ∷ xs) r = omega (arith, vars_size xs r)

pub con_size : (num : Name → ℕ) (c : Con Var) (r : List Word) → FewCon 8 c → length (con_words num c r) ≤ 12 + length r
unfolding con_words
con_size num ctrue r h = omega arith
con_size num cfail r h = omega arith
con_size num (ceq x y) r h = omega arith
con_size num (capp x f ys) r h = omega (arith, vars_size ys (End ∷ r), h)

few_numbers : (c : Con ℕ) → FewCon 8 c → FewCon 8 (map_con number c)
few_numbers ctrue h = tt
few_numbers cfail h = tt
few_numbers (ceq x y) h = tt
few_numbers (capp x f ys) h = omega (arith, h, length-map ys number)

store_size : (num : Name → ℕ) (σ : constraint.Store) (r : List Word) → FewStore 8 σ → length (store_words num σ r) ≤ 12 * length σ + length r
unfolding store_words
store_size num [] r h = omega arith
store_size num (c ∷ σ) r h = omega (arith, con_size num (map_con number c) (store_words num σ r) (few_numbers c h.0), store_size num σ r h.1)

mutual
  unfolding stmt_words statement_parts

  pub stmt_size : (num : Name → ℕ) (s : Stmt) (r : List Word) → Few 8 s → length (stmt_words num s r) ≤ 12 * statement_parts s + length r
  stmt_size num (atom c) r h = omega (arith, con_size num c r h)
  stmt_size num (call p xs) r h = omega (arith, vars_size xs (End ∷ r), h)
  stmt_size num (comp a b) r h = omega (arith, stmt_size num a (stmt_words num b (End ∷ r)) h.0, stmt_size num b (End ∷ r) h.1)
  stmt_size num (hide n a) r h = omega (arith, stmt_size num a (End ∷ r) h)
  stmt_size num (choice op cs) r h = omega (arith, clauses_size num cs (End ∷ r) h)

  clauses_size : (num : Name → ℕ) (cs : Clauses) (r : List Word) → FewClauses 8 cs → length (clauses_words num cs r) ≤ 12 * clauses_parts cs + length r
  clauses_size num no_more r h = omega arith
  clauses_size num (clause n g b cs) r h =
      let w = End ∷ clauses_words num cs r in
      omega (arith, stmt_size num g (stmt_words num b w) h.0, stmt_size num b w h.1, clauses_size num cs r h.2)

-- a statement has a part
some_parts : (s : Stmt) → 1 ≤ statement_parts s
unfolding statement_parts
some_parts (atom c) = omega arith
some_parts (call p xs) = omega arith
some_parts (comp a b) = omega arith
some_parts (hide n a) = omega arith
some_parts (choice op cs) = omega arith

mutual
  unfolding node_words parts

  pub node_size : (num : Name → ℕ) {k : Kind} (n : Node k) (r : List Word) → FewNode 8 n → length (node_words num n r) ≤ 14 * parts n + length r
  node_size num (or ns) r h = omega (arith, nodes_size num ns (End ∷ r) h)
  node_size num (and vs σ ms) r h =
      let w2 = End ∷ nodes_words num ms (End ∷ r) in
      let w1 = End ∷ Inner Store ∷ store_words num σ w2 in
      omega (arith, local_long vs w1, size_length vs, size_length σ, store_size num σ w2 h.0, nodes_size num ms (End ∷ r) h.1)
  node_size num (stmt s) r h = omega (arith, stmt_size num s (End ∷ r) h, some_parts s)
  node_size num (choice_box op gs) r h = omega (arith, nodes_size num gs (End ∷ r) h)
  node_size num (guard g b) r h = omega (arith, node_size num g (stmt_words num b (End ∷ r)) h.0, stmt_size num b (End ∷ r) h.1)

  pub nodes_size : (num : Name → ℕ) {k : Kind} (ns : Nodes k) (r : List Word) → FewNodes 8 ns → length (nodes_words num ns r) ≤ 14 * parts_all ns + length r
  nodes_size num nil r h = omega arith
  nodes_size num (cons n ns) r h = omega (arith, node_size num n (nodes_words num ns r) h.0, nodes_size num ns r h.1)
