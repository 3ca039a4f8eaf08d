-- The words of a configuration read back as it, with the words behind it left.
use mathlib.Core.Path.{◌≡◌, refl, ap, ◌∙◌}
use mathlib.Core.List.{List, [], ◌∷◌, map}
use mathlib.Core.Option.{Option, some}
use Prim.Native.Nat.{ℕ, zero, suc, ◌+◌, ◌≤◌}
use native.Mathlib.Omega.{arith}
use lib.ListN.{length}
use Rattle.constraint.specs.Constraint.{Con, ctrue, cfail, ceq, capp, map_con}
use Rattle.constraint.specs.Constraint as constraint
use Rattle.akl.specs.Base.{Name, ◌>>=◌}
use Rattle.akl.specs.Syntax.{Var, number, Op, wait, cond, commit, Stmt, atom}
use Rattle.akl.specs.Configuration as akl
use Rattle.akl.specs.Configuration.{goal, member, guarded, Node, or, and, stmt, choice_box, guard, Nodes, nil, cons}
use Rattle.mem_words.specs.declared.Word.{Word}
use Rattle.mem_words.specs.declared.Word.TheVariants.{End, Place, Inner}
use Rattle.mem_sorts.specs.declared.Sort.TheVariants.{Locals, Store}
use Rattle.layout.specs.Layout.{con_words, stmt_words}
use Rattle.layout.specs.Reading.{Read, an_end, an_opening, read_stmt}
use Rattle.layout.specs.Tables.{calls}
use Rattle.layout.proofs.Back.{stmt_back, stmt_long}
use Rattle.store_words.specs.Boxes.{box_kind, local_words, store_words, node_words, nodes_words}
use Rattle.store_words.specs.Reading.{a_place, locals_in, store_in, locals_from, a_free, all_free, free_con, a_con, some_cons, cons_from, read_locals, read_cons, opened_node, some_nodes, node_from, nodes_from, read_node}
use Rattle.store_words.specs.Tables.{SpeltStore, SpeltNode, SpeltNodes, node_calls, nodes_calls}

-- what reads a goes on with a
read_on : {A B : Type 0} (o : Option A) (a : A) (f : A → Option B) → o ≡ some a → (o >>= f) ≡ f a
read_on o a f e = ap (λ (x : Option _). x >>= f) e

locals_read : (xs : List ℕ) (r : List Word) → locals_from (local_words xs (End ∷ r)) ≡ some (xs, r)
unfolding locals_from local_words
locals_read [] r = refl
locals_read (x ∷ xs) r = read_on (locals_from (local_words xs (End ∷ r))) (xs, r) (λ ys. some (x ∷ ys.0, ys.1)) (locals_read xs r)

all_free_numbers : (xs : List ℕ) → all_free (map number xs) ≡ some xs
unfolding all_free a_free
all_free_numbers [] = refl
all_free_numbers (x ∷ xs) = read_on (all_free (map number xs)) xs (λ ys. some (x ∷ ys)) (all_free_numbers xs)

free_numbers : (c : Con ℕ) → free_con (map_con number c) ≡ some c
unfolding free_con a_free
free_numbers ctrue = refl
free_numbers cfail = refl
free_numbers (ceq x y) = refl
free_numbers (capp x f ys) = read_on (all_free (map number ys)) ys (λ bs. some (capp x f bs)) (all_free_numbers ys)

-- a constraint opens with an inner word
opens : (num : Name → ℕ) (con : List Word → Read Stmt) (more : List Word → Read constraint.Store) (c : Con Var) (r : List Word) → some_cons con more (con_words num c r) ≡ (con (con_words num c r) >>= λ a. a_con a.0 >>= λ d. more a.1 >>= λ σ. some (d ∷ σ.0, σ.1))
unfolding some_cons con_words
opens num con more ctrue r = refl
opens num con more cfail r = refl
opens num con more (ceq x y) r = refl
opens num con more (capp x f ys) r = refl

con_back : (num : Name → ℕ) (spell : ℕ → Name) (c : Con ℕ) (r : List Word) → SpeltStore num spell (c ∷ []) → read_stmt spell (con_words num (map_con number c) r) ≡ some (atom (map_con number c), r)
unfolding stmt_words
con_back num spell c r h = stmt_back num spell (atom (map_con number c)) r h.0

cons_read : (num : Name → ℕ) (spell : ℕ → Name) (σ : constraint.Store) (n : ℕ) (r : List Word) → suc (length σ) ≤ n → SpeltStore num spell σ → cons_from spell n (store_words num σ (End ∷ r)) ≡ some (σ, r)
unfolding cons_from some_cons store_words a_con
cons_read num spell [] zero r b h = absurd (omega arith)
cons_read num spell [] (suc n) r b h = refl
cons_read num spell (c ∷ σ) zero r b h = absurd (omega arith)
cons_read num spell (c ∷ σ) (suc n) r b h =
    let w = store_words num σ (End ∷ r) in
    opens num (read_stmt spell) (λ u. cons_from spell n u) (map_con number c) w
    ∙ read_on (read_stmt spell (con_words num (map_con number c) w)) (atom (map_con number c), w) _ (con_back num spell c w (h.0, tt))
    ∙ read_on (free_con (map_con number c)) c _ (free_numbers c)
    ∙ read_on (cons_from spell n w) (σ, r) _ (cons_read num spell σ n r (omega arith) h.1)

-- ---------------------------------------------------------------------------------------------
-- The number of words is enough.

pub local_long : (xs : List ℕ) (r : List Word) → length (local_words xs r) ≡ length xs + length r
unfolding local_words
local_long [] r = omega arith
local_long (x ∷ xs) r = omega (arith, local_long xs r)

con_long : (num : Name → ℕ) (c : Con Var) (r : List Word) → suc (length r) ≤ length (con_words num c r)
unfolding stmt_words calls
con_long num c r = let h : 1 + length r ≤ length (con_words num c r) = stmt_long num (atom c) r in omega (arith, h)

pub store_long : (num : Name → ℕ) (σ : constraint.Store) (r : List Word) → length σ + length r ≤ length (store_words num σ r)
unfolding store_words
store_long num [] r = omega arith
store_long num (c ∷ σ) r = omega (arith, con_long num (map_con number c) (store_words num σ r), store_long num σ r)

-- at least one call
node_some : {k : akl.Kind} (n : Node k) → 1 ≤ node_calls n
unfolding node_calls
node_some (or ns) = omega arith
node_some (and vs σ ms) = omega arith
node_some (stmt s) = omega arith
node_some (choice_box op gs) = omega arith
node_some (guard g b) = omega arith

nodes_some : {k : akl.Kind} (ns : Nodes k) → 1 ≤ nodes_calls ns
unfolding nodes_calls
nodes_some nil = omega arith
nodes_some (cons n ns) = omega (arith, node_some n)

mutual
  unfolding node_words node_calls

  pub node_long : (num : Name → ℕ) {k : akl.Kind} (n : Node k) (r : List Word) → node_calls n + length r ≤ length (node_words num n r)
  node_long num (or ns) r = omega (arith, nodes_long num ns (End ∷ r))
  node_long num (and vs σ ms) r =
      let w2 = End ∷ nodes_words num ms (End ∷ r) in
      let w1 = End ∷ Inner Store ∷ store_words num σ w2 in
      omega (arith, local_long vs w1, store_long num σ w2, nodes_long num ms (End ∷ r))
  node_long num (stmt s) r = omega (arith, stmt_long num s (End ∷ r))
  node_long num (choice_box op gs) r = omega (arith, nodes_long num gs (End ∷ r))
  node_long num (guard g b) r = omega (arith, node_long num g (stmt_words num b (End ∷ r)), stmt_long num b (End ∷ r))

  pub nodes_long : (num : Name → ℕ) {k : akl.Kind} (ns : Nodes k) (r : List Word) → nodes_calls ns + length r ≤ suc (length (nodes_words num ns r))
  nodes_long num nil r = omega arith
  nodes_long num (cons n ns) r = omega (arith, node_long num n (nodes_words num ns r), nodes_long num ns r)

-- ---------------------------------------------------------------------------------------------
-- Reading.

read_locals_back : (xs : List ℕ) (r : List Word) → read_locals (Inner Locals ∷ local_words xs (End ∷ r)) ≡ some (xs, r)
unfolding read_locals an_opening locals_in
read_locals_back xs r = locals_read xs r

read_cons_back : (num : Name → ℕ) (spell : ℕ → Name) (σ : constraint.Store) (r : List Word) → SpeltStore num spell σ → read_cons spell (Inner Store ∷ store_words num σ (End ∷ r)) ≡ some (σ, r)
unfolding read_cons an_opening store_in
read_cons_back num spell σ r h = cons_read num spell σ (length (store_words num σ (End ∷ r))) r (omega (arith, store_long num σ (End ∷ r))) h

-- a node opens with a place
opens_node : (num : Name → ℕ) {k j : akl.Kind} (n : Node k) (nd : List Word → Read (Node j)) (ns : List Word → Read (Nodes j)) (r : List Word) → some_nodes nd ns (node_words num n r) ≡ (nd (node_words num n r) >>= λ a. ns a.1 >>= λ l. some (cons a.0 l.0, l.1))
unfolding some_nodes node_words
opens_node num (or ms) nd ns r = refl
opens_node num (and vs σ ms) nd ns r = refl
opens_node num (stmt s) nd ns r = refl
opens_node num (choice_box op gs) nd ns r = refl
opens_node num (guard g b) nd ns r = refl

choice_read : (spell : ℕ → Name) (op : Op) (gs : Nodes guarded) (n : ℕ) (ws r : List Word) → nodes_from spell n guarded ws ≡ some (gs, r) → node_from spell (suc n) member (Place (box_kind op) ∷ ws) ≡ some (choice_box op gs, r)
unfolding node_from opened_node a_place box_kind
choice_read spell wait gs n ws r e = read_on (nodes_from spell n guarded ws) (gs, r) _ e
choice_read spell cond gs n ws r e = read_on (nodes_from spell n guarded ws) (gs, r) _ e
choice_read spell commit gs n ws r e = read_on (nodes_from spell n guarded ws) (gs, r) _ e

-- Calls enough for the node suffice, whatever follows.
mutual
  unfolding node_from opened_node some_nodes a_place an_end node_words node_calls

  pub node_read : (num : Name → ℕ) (spell : ℕ → Name) {k : akl.Kind} (x : Node k) (n : ℕ) (r : List Word) → node_calls x ≤ n → SpeltNode num spell x → node_from spell n k (node_words num x r) ≡ some (x, r)
  node_read num spell (or ns) zero r b h = absurd (omega arith)
  node_read num spell (or ns) (suc n) r b h = read_on (nodes_from spell n goal (nodes_words num ns (End ∷ r))) (ns, r) _ (nodes_read num spell ns n r (omega arith) h)
  node_read num spell (and vs σ ms) zero r b h = absurd (omega arith)
  node_read num spell (and vs σ ms) (suc n) r b h =
      let w2 = nodes_words num ms (End ∷ r) in
      let w1 = Inner Store ∷ store_words num σ (End ∷ w2) in
      read_on (read_locals (Inner Locals ∷ local_words vs (End ∷ w1))) (vs, w1) _ (read_locals_back vs w1)
      ∙ read_on (read_cons spell w1) (σ, w2) _ (read_cons_back num spell σ w2 h.0)
      ∙ read_on (nodes_from spell n member w2) (ms, r) _ (nodes_read num spell ms n r (omega arith) h.1)
  node_read num spell (stmt s) zero r b h = absurd (omega arith)
  node_read num spell (stmt s) (suc n) r b h = read_on (read_stmt spell (stmt_words num s (End ∷ r))) (s, End ∷ r) _ (stmt_back num spell s (End ∷ r) h)
  node_read num spell (choice_box op gs) zero r b h = absurd (omega arith)
  node_read num spell (choice_box op gs) (suc n) r b h = choice_read spell op gs n (nodes_words num gs (End ∷ r)) r (nodes_read num spell gs n r (omega arith) h)
  node_read num spell (guard g s) zero r b h = absurd (omega arith)
  node_read num spell (guard g s) (suc n) r b h =
      let w = stmt_words num s (End ∷ r) in
      read_on (node_from spell n goal (node_words num g w)) (g, w) _ (node_read num spell g n w (omega arith) h.0)
      ∙ read_on (read_stmt spell w) (s, End ∷ r) _ (stmt_back num spell s (End ∷ r) h.1)

  pub nodes_read : (num : Name → ℕ) (spell : ℕ → Name) {k : akl.Kind} (xs : Nodes k) (n : ℕ) (r : List Word) → nodes_calls xs ≤ n → SpeltNodes num spell xs → nodes_from spell n k (nodes_words num xs (End ∷ r)) ≡ some (xs, r)
  nodes_read num spell nil zero r b h = absurd (omega arith)
  nodes_read num spell nil (suc n) r b h = refl
  nodes_read num spell (cons x xs) zero r b h = absurd (omega (arith, node_some x))
  nodes_read num spell {k} (cons x xs) (suc n) r b h =
      let w = nodes_words num xs (End ∷ r) in
      opens_node num x (λ u. node_from spell n k u) (λ u. nodes_from spell n k u) w
      ∙ read_on (node_from spell n k (node_words num x w)) (x, w) _ (node_read num spell x n w (omega (arith, nodes_some xs)) h.0)
      ∙ read_on (nodes_from spell n k w) (xs, r) _ (nodes_read num spell xs n r (omega (arith, node_some x)) h.1)

-- The reader without a bound.
pub node_back : (num : Name → ℕ) (spell : ℕ → Name) {k : akl.Kind} (x : Node k) (r : List Word) → SpeltNode num spell x → read_node spell k (node_words num x r) ≡ some (x, r)
unfolding read_node
node_back num spell x r h = node_read num spell x (length (node_words num x r)) r (omega (arith, node_long num x r)) h
