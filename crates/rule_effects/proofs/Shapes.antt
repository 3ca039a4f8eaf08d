-- Words of statements, boxes and their parts are balanced; each statement and each node is one bracket.
use mathlib.Core.List.{List, [], ◌∷◌}
use Prim.Native.Nat.{ℕ}
use Rattle.constraint.specs.Constraint as constraint
use Rattle.constraint.specs.Constraint.{Con, ctrue, cfail, ceq, capp, map_con}
use Rattle.akl.specs.Base.{Name}
use Rattle.akl.specs.Syntax.{Var, number, level, Op, wait, cond, commit, Stmt, atom, call, comp, hide, choice, Clauses, no_more, clause}
use Rattle.akl.specs.Configuration as akl
use Rattle.akl.specs.Configuration.{Node, or, and, stmt, choice_box, guard, Nodes, nil, cons}
use Rattle.mem_words.specs.declared.Word.{Word}
use Rattle.mem_words.specs.declared.Word.TheVariants.{End, Free, Num, Place, Inner}
use Rattle.mem_sorts.specs.declared.Kind.TheVariants.{Or, And, Guarded, Member}
use Rattle.mem_sorts.specs.declared.Sort.TheVariants.{Locals, Store, True, Fail, Eq, App, Call, Comp, Hide, Clause}
use Rattle.layout.specs.Layout.{ask, var_word, vars_words, con_words, stmt_words, clauses_words}
use Rattle.store_words.specs.Boxes.{box_kind, local_words, store_words, node_words, nodes_words}
use Rattle.rule_words.proofs.Balance.{Balanced, Tree, Leaf, Opening, none, leaf, then, bracket, tree, a_free, a_level, a_num, a_place, an_inner}

var_leaf : (x : Var) → Leaf (var_word x)
unfolding var_word
var_leaf (number x) = a_free x
var_leaf (level l) = a_level l

pub vars_balanced : (xs : List Var) → Balanced (vars_words xs)
unfolding vars_words
vars_balanced [] = none
vars_balanced (x ∷ xs) = leaf (var_word x) (vars_words xs) (var_leaf x) (vars_balanced xs)

pub locals_balanced : (xs : List ℕ) → Balanced (local_words xs)
unfolding local_words
locals_balanced [] = none
locals_balanced (x ∷ xs) = leaf (Free x) (local_words xs) (a_free x) (locals_balanced xs)

pub con_tree : (num : Name → ℕ) (c : Con Var) → Tree (con_words num c)
unfolding con_words
con_tree num ctrue = tree (Inner True) (λ r. r) (an_inner True) none
con_tree num cfail = tree (Inner Fail) (λ r. r) (an_inner Fail) none
con_tree num (ceq x y) = tree (Inner Eq) (λ r. var_word x ∷ var_word y ∷ r) (an_inner Eq) (leaf (var_word x) (λ r. var_word y ∷ r) (var_leaf x) (leaf (var_word y) (λ r. r) (var_leaf y) none))
con_tree num (capp x f ys) = tree (Inner App) (λ r. var_word x ∷ Num (num f) ∷ vars_words ys r) (an_inner App) (leaf (var_word x) (λ r. Num (num f) ∷ vars_words ys r) (var_leaf x) (leaf (Num (num f)) (vars_words ys) (a_num (num f)) (vars_balanced ys)))

pub store_balanced : (num : Name → ℕ) (σ : constraint.Store) → Balanced (store_words num σ)
unfolding store_words
store_balanced num [] = none
store_balanced num (c ∷ σ) = then (con_words num (map_con number c)) (store_words num σ) (con_tree num (map_con number c)).balanced (store_balanced num σ)

mutual
  unfolding stmt_words

  pub stmt_tree : (num : Name → ℕ) (s : Stmt) → Tree (stmt_words num s)
  stmt_tree num (atom c) = con_tree num c
  stmt_tree num (call p xs) = tree (Inner Call) (λ r. Num (num p) ∷ vars_words xs r) (an_inner Call) (leaf (Num (num p)) (vars_words xs) (a_num (num p)) (vars_balanced xs))
  stmt_tree num (comp a b) = tree (Inner Comp) (λ r. stmt_words num a (stmt_words num b r)) (an_inner Comp) (then (stmt_words num a) (stmt_words num b) (stmt_tree num a).balanced (stmt_tree num b).balanced)
  stmt_tree num (hide n a) = tree (Inner Hide) (λ r. Num n ∷ stmt_words num a r) (an_inner Hide) (leaf (Num n) (stmt_words num a) (a_num n) (stmt_tree num a).balanced)
  stmt_tree num (choice op cs) = tree (Inner (ask op)) (clauses_words num cs) (an_inner (ask op)) (clauses_balanced num cs)

  pub clauses_balanced : (num : Name → ℕ) (cs : Clauses) → Balanced (clauses_words num cs)
  clauses_balanced num no_more = none
  clauses_balanced num (clause n g b cs) =
      let f : List Word → List Word = λ r. Num n ∷ stmt_words num g (stmt_words num b r) in
      then (λ r. Inner Clause ∷ f (End ∷ r)) (clauses_words num cs)
      (bracket (Inner Clause) f (an_inner Clause) (leaf (Num n) (λ r. stmt_words num g (stmt_words num b r)) (a_num n) (then (stmt_words num g) (stmt_words num b) (stmt_tree num g).balanced (stmt_tree num b).balanced)))
      (clauses_balanced num cs)

-- the locals and the store of an and-box
pub locals_tree : (vs : List ℕ) → Tree (λ r. Inner Locals ∷ local_words vs (End ∷ r))
locals_tree vs = tree (Inner Locals) (local_words vs) (an_inner Locals) (locals_balanced vs)

pub store_tree : (num : Name → ℕ) (σ : constraint.Store) → Tree (λ r. Inner Store ∷ store_words num σ (End ∷ r))
store_tree num σ = tree (Inner Store) (store_words num σ) (an_inner Store) (store_balanced num σ)

-- what stands in an and-box before its members
pub head_balanced : (num : Name → ℕ) (vs : List ℕ) (σ : constraint.Store) (F : List Word → List Word) → Balanced F → Balanced (λ r. Inner Locals ∷ local_words vs (End ∷ Inner Store ∷ store_words num σ (End ∷ F r)))
head_balanced num vs σ F b =
    then (λ r. Inner Locals ∷ local_words vs (End ∷ r)) (λ r. Inner Store ∷ store_words num σ (End ∷ F r)) (locals_tree vs).balanced
    (then (λ r. Inner Store ∷ store_words num σ (End ∷ r)) F (store_tree num σ).balanced b)

mutual
  unfolding node_words

  pub node_tree : (num : Name → ℕ) {k : akl.Kind} (n : Node k) → Tree (node_words num n)
  node_tree num (or ns) = tree (Place Or) (nodes_words num ns) (a_place Or) (nodes_balanced num ns)
  node_tree num (and vs σ ms) =
      tree (Place And) (λ r. Inner Locals ∷ local_words vs (End ∷ Inner Store ∷ store_words num σ (End ∷ nodes_words num ms r))) (a_place And) (head_balanced num vs σ (nodes_words num ms) (nodes_balanced num ms))
  node_tree num (stmt s) = tree (Place Member) (stmt_words num s) (a_place Member) (stmt_tree num s).balanced
  node_tree num (choice_box op gs) = tree (Place (box_kind op)) (nodes_words num gs) (a_place (box_kind op)) (nodes_balanced num gs)
  node_tree num (guard g b) = tree (Place Guarded) (λ r. node_words num g (stmt_words num b r)) (a_place Guarded) (then (node_words num g) (stmt_words num b) (node_tree num g).balanced (stmt_tree num b).balanced)

  pub nodes_balanced : (num : Name → ℕ) {k : akl.Kind} (ns : Nodes k) → Balanced (nodes_words num ns)
  nodes_balanced num nil = none
  nodes_balanced num (cons n ns) = then (node_words num n) (nodes_words num ns) (node_tree num n).balanced (nodes_balanced num ns)
