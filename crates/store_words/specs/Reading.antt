-- Words read back as configurations; nothing is read from words that are none. spell gives the name of a number. Assumes nothing.
use Rattle.std.specs.Prelude.{List, [], ◌∷◌, ℕ, zero, suc, length}
use Rattle.std.proofs.Math.Option.{Option, some, none}
use Rattle.constraint.specs.Constraint as constraint
use Rattle.constraint.specs.Constraint.{Con, ctrue, cfail, ceq, capp}
use Rattle.akl.specs.Base.{Name, ◌>>=◌}
use Rattle.akl.specs.Syntax.{Var, number, level, wait, cond, commit, Stmt, atom, call, comp, hide, choice}
use Rattle.akl.specs.Configuration as akl
use Rattle.akl.specs.Configuration.{goal, member, guarded, Node, or, and, stmt, choice_box, guard, Nodes, nil, cons}
use Rattle.mem_words.specs.declared.Word.{Word}
use Rattle.mem_words.specs.declared.Word.TheVariants.{End, Free, Level, Num, Place, Inner, Bad}
use Rattle.mem_sorts.specs.declared.Kind.{Kind}
use Rattle.mem_sorts.specs.declared.Kind.TheVariants.{Or, And, Guarded, Member, Wait, Cond, Commit}
use Rattle.mem_sorts.specs.declared.Sort.{Sort}
use Rattle.mem_sorts.specs.declared.Sort.TheVariants.{Locals, Store, True, Fail, Eq, App, Call, Comp, Hide, Clause, AskWait, AskCond, AskCommit}
use Rattle.layout.specs.Reading.{Read, an_end, an_opening, read_stmt}

-- the kind of a place that begins, and the words behind its first
unfoldable pub a_place : List Word → Read Kind
a_place [] = none
a_place (End ∷ r) = none
a_place (Free x ∷ r) = none
a_place (Level l ∷ r) = none
a_place (Num n ∷ r) = none
a_place (Place k ∷ r) = some (k, r)
a_place (Inner s ∷ r) = none
a_place (Bad ∷ r) = none

-- the words behind, if the sort is that of locals
unfoldable pub locals_in : Sort → List Word → Option (List Word)
locals_in Locals r = some r
locals_in Store r = none
locals_in True r = none
locals_in Fail r = none
locals_in Eq r = none
locals_in App r = none
locals_in Call r = none
locals_in Comp r = none
locals_in Hide r = none
locals_in Clause r = none
locals_in AskWait r = none
locals_in AskCond r = none
locals_in AskCommit r = none

-- the words behind, if the sort is that of a store
unfoldable pub store_in : Sort → List Word → Option (List Word)
store_in Locals r = none
store_in Store r = some r
store_in True r = none
store_in Fail r = none
store_in Eq r = none
store_in App r = none
store_in Call r = none
store_in Comp r = none
store_in Hide r = none
store_in Clause r = none
store_in AskWait r = none
store_in AskCond r = none
store_in AskCommit r = none

-- variables' numbers up to an End, and the words behind it
unfoldable pub locals_from : List Word → Read (List ℕ)
locals_from [] = none
locals_from (End ∷ r) = some ([], r)
locals_from (Free x ∷ r) = locals_from r >>= λ xs. some (x ∷ xs.0, xs.1)
locals_from (Level l ∷ r) = none
locals_from (Num n ∷ r) = none
locals_from (Place k ∷ r) = none
locals_from (Inner s ∷ r) = none
locals_from (Bad ∷ r) = none

-- a variable's number, where it is no level
unfoldable pub a_free : Var → Option ℕ
a_free (number x) = some x
a_free (level l) = none

unfoldable pub all_free : List Var → Option (List ℕ)
all_free [] = some []
all_free (x ∷ xs) = a_free x >>= λ y. all_free xs >>= λ ys. some (y ∷ ys)

-- a constraint over numbers alone
unfoldable pub free_con : Con Var → Option (Con ℕ)
free_con ctrue = some ctrue
free_con cfail = some cfail
free_con (ceq x y) = a_free x >>= λ a. a_free y >>= λ b. some (ceq a b)
free_con (capp x f ys) = a_free x >>= λ a. all_free ys >>= λ bs. some (capp a f bs)

-- the constraint that a statement is
unfoldable pub a_con : Stmt → Option (Con ℕ)
a_con (atom c) = free_con c
a_con (call p xs) = none
a_con (comp a b) = none
a_con (hide n a) = none
a_con (choice op cs) = none

-- constraints up to an End, and the words behind it; con reads the next, more what follows it
unfoldable pub some_cons : (List Word → Read Stmt) → (List Word → Read constraint.Store) → List Word → Read constraint.Store
some_cons con more [] = none
some_cons con more (End ∷ r) = some ([], r)
some_cons con more (Free x ∷ r) = none
some_cons con more (Level l ∷ r) = none
some_cons con more (Num n ∷ r) = none
some_cons con more (Place k ∷ r) = none
some_cons con more (Inner s ∷ r) = con (Inner s ∷ r) >>= λ a. a_con a.0 >>= λ c. more a.1 >>= λ σ. some (c ∷ σ.0, σ.1)
some_cons con more (Bad ∷ r) = none

-- The number n bounds how many are read; the number of words is enough.
unfoldable pub cons_from : (ℕ → Name) → ℕ → List Word → Read constraint.Store
cons_from spell zero ws = none
cons_from spell (suc n) ws = some_cons (read_stmt spell) (λ u. cons_from spell n u) ws

unfoldable pub read_locals : List Word → Read (List ℕ)
read_locals ws = an_opening ws >>= λ k. locals_in k.0 k.1 >>= λ r. locals_from r

unfoldable pub read_cons : (ℕ → Name) → List Word → Read constraint.Store
read_cons spell ws = an_opening ws >>= λ k. store_in k.0 k.1 >>= λ r. cons_from spell (length r) r

-- The node whose first word is passed: g reads the guard in it, gs, ms, hs goals, members and guarded goals up to an End.
unfoldable pub opened_node : (ℕ → Name) → (List Word → Read (Node goal)) → (List Word → Read (Nodes goal)) → (List Word → Read (Nodes member)) → (List Word → Read (Nodes guarded)) → (k : akl.Kind) → Kind → List Word → Read (Node k)
opened_node spell g gs ms hs goal Or r = gs r >>= λ ns. some (or ns.0, ns.1)
opened_node spell g gs ms hs goal And r = read_locals r >>= λ vs. read_cons spell vs.1 >>= λ σ. ms σ.1 >>= λ ns. some (and vs.0 σ.0 ns.0, ns.1)
opened_node spell g gs ms hs goal Guarded r = none
opened_node spell g gs ms hs goal Member r = none
opened_node spell g gs ms hs goal Wait r = none
opened_node spell g gs ms hs goal Cond r = none
opened_node spell g gs ms hs goal Commit r = none
opened_node spell g gs ms hs member Or r = none
opened_node spell g gs ms hs member And r = none
opened_node spell g gs ms hs member Guarded r = none
opened_node spell g gs ms hs member Member r = read_stmt spell r >>= λ s. an_end s.1 >>= λ u. some (stmt s.0, u)
opened_node spell g gs ms hs member Wait r = hs r >>= λ ns. some (choice_box wait ns.0, ns.1)
opened_node spell g gs ms hs member Cond r = hs r >>= λ ns. some (choice_box cond ns.0, ns.1)
opened_node spell g gs ms hs member Commit r = hs r >>= λ ns. some (choice_box commit ns.0, ns.1)
opened_node spell g gs ms hs guarded Or r = none
opened_node spell g gs ms hs guarded And r = none
opened_node spell g gs ms hs guarded Guarded r = g r >>= λ n. read_stmt spell n.1 >>= λ b. an_end b.1 >>= λ u. some (guard n.0 b.0, u)
opened_node spell g gs ms hs guarded Member r = none
opened_node spell g gs ms hs guarded Wait r = none
opened_node spell g gs ms hs guarded Cond r = none
opened_node spell g gs ms hs guarded Commit r = none

-- nodes up to an End, and the words behind it
unfoldable pub some_nodes : {k : akl.Kind} → (List Word → Read (Node k)) → (List Word → Read (Nodes k)) → List Word → Read (Nodes k)
some_nodes nd ns [] = none
some_nodes nd ns (End ∷ r) = some (nil, r)
some_nodes nd ns (Free x ∷ r) = none
some_nodes nd ns (Level l ∷ r) = none
some_nodes nd ns (Num n ∷ r) = none
some_nodes nd ns (Place p ∷ r) = nd (Place p ∷ r) >>= λ a. ns a.1 >>= λ l. some (cons a.0 l.0, l.1)
some_nodes nd ns (Inner s ∷ r) = none
some_nodes nd ns (Bad ∷ r) = none

-- The number n bounds the depth of calls; each call passes a word, so that the number of words is enough.
unfoldable mutual
  pub node_from : (ℕ → Name) → ℕ → (k : akl.Kind) → List Word → Read (Node k)
  node_from spell zero k ws = none
  node_from spell (suc n) k ws =
      a_place ws >>= λ p. opened_node spell (λ u. node_from spell n goal u) (λ u. nodes_from spell n goal u) (λ u. nodes_from spell n member u) (λ u. nodes_from spell n guarded u) k p.0 p.1

  pub nodes_from : (ℕ → Name) → ℕ → (k : akl.Kind) → List Word → Read (Nodes k)
  nodes_from spell zero k ws = none
  nodes_from spell (suc n) k ws = some_nodes (λ u. node_from spell n k u) (λ u. nodes_from spell n k u) ws

-- with calls enough for the words
unfoldable pub read_node : (ℕ → Name) → (k : akl.Kind) → List Word → Read (Node k)
read_node spell k ws = node_from spell (length ws) k ws
