-- The words of a program and of a configuration: none is `Bad`.
use mathlib.Core.Path.{◌≡◌}
use mathlib.Core.List.{List, [], ◌∷◌}
use Prim.Native.Nat.{ℕ}
use native.Mathlib.Omega.{arith}
use Rattle.constraint.specs.Constraint.{Con, ctrue, cfail, ceq, capp, map_con}
use Rattle.constraint.specs.Constraint as constraint
use Rattle.akl.specs.Base.{Name}
use Rattle.akl.specs.Syntax.{Var, number, level, Stmt, atom, call, comp, hide, choice, Clauses, no_more, clause, Program}
use Rattle.akl.specs.Configuration as akl
use Rattle.akl.specs.Configuration.{Node, or, and, stmt, choice_box, guard, Nodes, nil, cons}
use Rattle.mem_words.specs.declared.Word.{Word}
use Rattle.mem_words.specs.declared.Word.TheVariants.{End, Free, Level, Num, Place, Inner, Bad}
use Rattle.mem_words.specs.Form.{NoBad}
use Rattle.mem_sorts.specs.declared.Sort.{Sort}
use Rattle.mem_sorts.specs.declared.Kind.{Kind}
use Rattle.mem_sorts.specs.declared.Sort.TheVariants.{Store}
use Rattle.layout.specs.Layout.{var_word, vars_words, con_words, stmt_words, clauses_words, program_words}
use Rattle.store_words.specs.Boxes.{local_words, store_words, node_words, nodes_words}

end : End ≡ Bad → ⊥
end e = let z : ◌≡◌ {A = ℕ} 0 1 = cc in omega arith

free : (x : ℕ) → Free x ≡ Bad → ⊥
free x e = let z : ◌≡◌ {A = ℕ} 0 1 = cc in omega arith

num_good : (x : ℕ) → Num x ≡ Bad → ⊥
num_good x e = let z : ◌≡◌ {A = ℕ} 0 1 = cc in omega arith

level_good : (x : ℕ) → Level x ≡ Bad → ⊥
level_good x e = let z : ◌≡◌ {A = ℕ} 0 1 = cc in omega arith

place : (k : Kind) → Place k ≡ Bad → ⊥
place k e = let z : ◌≡◌ {A = ℕ} 0 1 = cc in omega arith

inner : (s : Sort) → Inner s ≡ Bad → ⊥
inner s e = let z : ◌≡◌ {A = ℕ} 0 1 = cc in omega arith

module _ (num : Name → ℕ) where
  var_good : (x : Var) → var_word x ≡ Bad → ⊥
  unfolding var_word
  var_good (number x) = free x
  var_good (level l) = level_good l

  vars_good : (xs : List Var) (r : List Word) → NoBad r → NoBad (vars_words xs r)
  unfolding vars_words
  vars_good [] r h = h
  vars_good (x ∷ xs) r h = (var_good x, vars_good xs r h)

  con_good : (c : Con Var) (r : List Word) → NoBad r → NoBad (con_words num c r)
  unfolding con_words
  con_good ctrue r h = (inner _, (end, h))
  con_good cfail r h = (inner _, (end, h))
  con_good (ceq x y) r h = (inner _, (var_good x, (var_good y, (end, h))))
  con_good (capp x f ys) r h = (inner _, (var_good x, (num_good (num f), vars_good ys (End ∷ r) (end, h))))

  mutual
    unfolding stmt_words

    stmt_good : (s : Stmt) (r : List Word) → NoBad r → NoBad (stmt_words num s r)
    stmt_good (atom c) r h = con_good c r h
    stmt_good (call p xs) r h = (inner _, (num_good (num p), vars_good xs (End ∷ r) (end, h)))
    stmt_good (comp a b) r h = (inner _, stmt_good a (stmt_words num b (End ∷ r)) (stmt_good b (End ∷ r) (end, h)))
    stmt_good (hide n a) r h = (inner _, (num_good n, stmt_good a (End ∷ r) (end, h)))
    stmt_good (choice op cs) r h = (inner _, clauses_good cs (End ∷ r) (end, h))

    clauses_good : (cs : Clauses) (r : List Word) → NoBad r → NoBad (clauses_words num cs r)
    clauses_good no_more r h = h
    clauses_good (clause n g b cs) r h =
        let w = End ∷ clauses_words num cs r in
        (inner _, (num_good n, stmt_good g (stmt_words num b w) (stmt_good b w (end, clauses_good cs r h))))

  pub program_good : (P : Program) → NoBad (program_words num P)
  unfolding program_words
  program_good [] = tt
  program_good (d ∷ ds) = (num_good (num d.name), (num_good d.arity, stmt_good d.body (program_words num ds) (program_good ds)))

  local_good : (xs : List ℕ) (r : List Word) → NoBad r → NoBad (local_words xs r)
  unfolding local_words
  local_good [] r h = h
  local_good (x ∷ xs) r h = (free x, local_good xs r h)

  store_good : (σ : constraint.Store) (r : List Word) → NoBad r → NoBad (store_words num σ r)
  unfolding store_words
  store_good [] r h = h
  store_good (c ∷ σ) r h = con_good (map_con number c) (store_words num σ r) (store_good σ r h)

  mutual
    unfolding node_words

    pub node_good : {k : akl.Kind} (n : Node k) (r : List Word) → NoBad r → NoBad (node_words num n r)
    node_good (or ns) r h = (place _, nodes_good ns (End ∷ r) (end, h))
    node_good (and vs σ ms) r h =
        let w = End ∷ nodes_words num ms (End ∷ r) in
        (place _, (inner _, local_good vs (End ∷ Inner Store ∷ store_words num σ w) (end, (inner _, store_good σ w (end, nodes_good ms (End ∷ r) (end, h))))))
    node_good (stmt s) r h = (place _, stmt_good s (End ∷ r) (end, h))
    node_good (choice_box op gs) r h = (place _, nodes_good gs (End ∷ r) (end, h))
    node_good (guard g b) r h = (place _, node_good g (stmt_words num b (End ∷ r)) (stmt_good b (End ∷ r) (end, h)))

    nodes_good : {k : akl.Kind} (ns : Nodes k) (r : List Word) → NoBad r → NoBad (nodes_words num ns r)
    nodes_good nil r h = h
    nodes_good (cons n ns) r h = node_good n (nodes_words num ns r) (nodes_good ns r h)
