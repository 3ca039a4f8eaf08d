-- The parts counted in the words of statements and configurations are theirs, by the definitions. Assumes nothing.
use mathlib.Core.Path.{◌≡◌, refl, ◌∙◌}
use mathlib.Core.List.{List, [], ◌∷◌}
use Prim.Native.Nat.{ℕ, suc, ◌+◌}
use native.Mathlib.Omega.{arith}
use Rattle.constraint.specs.Constraint as constraint
use Rattle.constraint.specs.Constraint.{Con, ctrue, cfail, ceq, capp, map_con}
use Rattle.akl.specs.Base.{Name, size}
use Rattle.akl.specs.Syntax.{Var, number, level, Op, wait, cond, commit, Stmt, atom, call, comp, hide, choice, Clauses, no_more, clause}
use Rattle.akl.specs.Configuration as akl
use Rattle.akl.specs.Configuration.{Node, or, and, stmt, choice_box, guard, Nodes, nil, cons}
use Rattle.akl.specs.Parts.{statement_parts, clauses_parts, parts, parts_all}
use Rattle.mem_words.specs.declared.Word.{Word}
use Rattle.mem_words.specs.declared.Word.TheVariants.{End, Free, Num, Place, Inner}
use Rattle.mem_sorts.specs.declared.Kind.TheVariants.{Or, And, Guarded, Member}
use Rattle.mem_sorts.specs.declared.Sort.TheVariants.{Locals, Store, Clause}
use Rattle.layout.specs.Layout.{var_word, vars_words, ask, con_words, stmt_words, clauses_words}
use Rattle.store_words.specs.Boxes.{box_kind, local_words, store_words, node_words, nodes_words}
use Rattle.store_parts.specs.declared.Among.TheVariants.{Others, Variables, Hidden}
use Rattle.store_parts.specs.Counting.{kind_parts, sort_parts, behind, parts_in}

-- variables of atoms are no parts
var_none : (x : Var) (r : List Word) → parts_in Others (var_word x ∷ r) ≡ parts_in Others r
unfolding parts_in var_word
var_none (number x) r = omega arith
var_none (level l) r = omega arith

vars_none : (xs : List Var) (r : List Word) → parts_in Others (vars_words xs r) ≡ parts_in Others r
unfolding vars_words
vars_none [] r = refl
vars_none (x ∷ xs) r = var_none x (vars_words xs r) ∙ vars_none xs r

con_parts : (num : Name → ℕ) (c : Con Var) (r : List Word) → parts_in Others (con_words num c r) ≡ 1 + parts_in Others r
unfolding parts_in con_words
con_parts num ctrue r = omega arith
con_parts num cfail r = omega arith
con_parts num (ceq x y) r = let a = var_none x (var_word y ∷ End ∷ r) in let b = var_none y (End ∷ r) in omega (arith, a, b)
con_parts num (capp x f ys) r = let a = var_none x (Num (num f) ∷ vars_words ys (End ∷ r)) in let b = vars_none ys (End ∷ r) in omega (arith, a, b)

ask_parts : (op : Op) (r : List Word) → parts_in Others (Inner (ask op) ∷ r) ≡ 1 + parts_in Others r
unfolding parts_in ask
ask_parts wait r = refl
ask_parts cond r = refl
ask_parts commit r = refl

mutual
  unfolding parts_in stmt_words clauses_words statement_parts clauses_parts

  -- of a statement
  pub stmt_parts : (s : Stmt) (num : Name → ℕ) (r : List Word) → parts_in Others (stmt_words num s r) ≡ statement_parts s + parts_in Others r
  stmt_parts (atom c) num r = con_parts num c r
  stmt_parts (call p xs) num r = let a = vars_none xs (End ∷ r) in omega (arith, a)
  stmt_parts (comp a b) num r = let x = stmt_parts a num (stmt_words num b (End ∷ r)) in let y = stmt_parts b num (End ∷ r) in omega (arith, x, y)
  stmt_parts (hide n a) num r = let x = stmt_parts a num (End ∷ r) in omega (arith, x)
  stmt_parts (choice op cs) num r = let x = ask_parts op (clauses_words num cs (End ∷ r)) in let y = clauses_counted cs num (End ∷ r) in omega (arith, x, y)

  clauses_counted : (cs : Clauses) (num : Name → ℕ) (r : List Word) → parts_in Others (clauses_words num cs r) ≡ clauses_parts cs + parts_in Others r
  clauses_counted no_more num r = omega arith
  clauses_counted (clause n g b cs) num r =
      let x = stmt_parts g num (stmt_words num b (End ∷ clauses_words num cs r)) in
      let y = stmt_parts b num (End ∷ clauses_words num cs r) in
      let z = clauses_counted cs num r in
      omega (arith, x, y, z)

locals_parts : (vs : List ℕ) (r : List Word) → parts_in Variables (local_words vs (End ∷ r)) ≡ size vs + parts_in Others r
unfolding parts_in local_words size
locals_parts [] r = omega arith
locals_parts (x ∷ vs) r = let h = locals_parts vs r in omega (arith, h)

store_parts : (σ : constraint.Store) (num : Name → ℕ) (r : List Word) → parts_in Others (store_words num σ (End ∷ r)) ≡ size σ + parts_in Others r
unfolding parts_in store_words size
store_parts [] num r = omega arith
store_parts (c ∷ σ) num r = let x = con_parts num (map_con number c) (store_words num σ (End ∷ r)) in let h = store_parts σ num r in omega (arith, x, h)

box_parts : (op : Op) (r : List Word) → parts_in Others (Place (box_kind op) ∷ r) ≡ 1 + parts_in Others r
unfolding parts_in box_kind
box_parts wait r = refl
box_parts cond r = refl
box_parts commit r = refl

mutual
  unfolding parts_in node_words nodes_words parts parts_all

  -- of a configuration
  pub node_parts : {k : akl.Kind} (n : Node k) (num : Name → ℕ) (r : List Word) → parts_in Others (node_words num n r) ≡ parts n + parts_in Others r
  node_parts (or ns) num r = let x = nodes_parts ns num (End ∷ r) in omega (arith, x)
  node_parts (and vs σ ms) num r =
      let x = locals_parts vs (Inner Store ∷ store_words num σ (End ∷ nodes_words num ms (End ∷ r))) in
      let y = store_parts σ num (nodes_words num ms (End ∷ r)) in
      let z = nodes_parts ms num (End ∷ r) in
      omega (arith, x, y, z)
  node_parts (stmt s) num r = let x = stmt_parts s num (End ∷ r) in omega (arith, x)
  node_parts (choice_box op gs) num r = let x = box_parts op (nodes_words num gs (End ∷ r)) in let y = nodes_parts gs num (End ∷ r) in omega (arith, x, y)
  node_parts (guard g b) num r = let x = node_parts g num (stmt_words num b (End ∷ r)) in let y = stmt_parts b num (End ∷ r) in omega (arith, x, y)

  nodes_parts : {k : akl.Kind} (ns : Nodes k) (num : Name → ℕ) (r : List Word) → parts_in Others (nodes_words num ns r) ≡ parts_all ns + parts_in Others r
  nodes_parts nil num r = omega arith
  nodes_parts (cons n ns) num r = let x = node_parts n num (nodes_words num ns r) in let y = nodes_parts ns num r in omega (arith, x, y)
