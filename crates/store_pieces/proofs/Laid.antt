-- No word of a program or of a configuration is `Bad`. Assumes nothing.
use mathlib.Core.Path.{◌≡◌, ap}
use mathlib.Core.List.{List, [], ◌∷◌, ◌++◌}
use Prim.Native.Nat.{ℕ}
use native.Mathlib.Omega.{arith}
use Rattle.constraint.specs.Constraint as constraint
use Rattle.constraint.specs.Constraint.{Con, ctrue, cfail, ceq, capp, map_con}
use Rattle.akl.specs.Base.{Name}
use Rattle.akl.specs.Syntax.{Var, number, level, Op, wait, cond, commit, Stmt, atom, call, comp, hide, choice, Clauses, no_more, clause, Program}
use Rattle.akl.specs.Configuration as akl
use Rattle.akl.specs.Configuration.{Node, or, and, stmt, choice_box, guard, Nodes, nil, cons}
use Rattle.mem_words.specs.declared.Word.{Word}
use Rattle.mem_words.specs.declared.Word.TheVariants.{End, Free, Level, Num, Place, Inner, Bad}
use Rattle.mem_words.specs.Words.{class_of}
use Rattle.mem_words.specs.Form.{NoBad}
use Rattle.mem_sorts.specs.declared.Kind.{Kind}
use Rattle.mem_sorts.specs.declared.Kind.TheVariants.{Or, And, Member}
use Rattle.mem_sorts.specs.declared.Sort.{Sort}
use Rattle.mem_sorts.specs.declared.Sort.TheVariants.{Locals, Store}
use Rattle.layout.specs.Layout.{var_word, vars_words, ask, con_words, stmt_words, clauses_words, program_words}
use Rattle.store_words.specs.Boxes.{box_kind, local_words, store_words, node_words, nodes_words}

-- a word of another class is not `Bad`
good : (w : Word) → (class_of w ≡ 6 → ⊥) → w ≡ Bad → ⊥
good w h e = h (ap class_of e)

end : End ≡ Bad → ⊥
end = good End (λ e. omega (arith, e))

free : (x : ℕ) → Free x ≡ Bad → ⊥
free x = good (Free x) (λ e. omega (arith, e))

num : (x : ℕ) → Num x ≡ Bad → ⊥
num x = good (Num x) (λ e. omega (arith, e))

place : (k : Kind) → Place k ≡ Bad → ⊥
place k = good (Place k) (λ e. omega (arith, e))

inner : (s : Sort) → Inner s ≡ Bad → ⊥
inner s = good (Inner s) (λ e. omega (arith, e))

var : (x : Var) → var_word x ≡ Bad → ⊥
unfolding var_word
var (number x) = free x
var (level l) = good (Level l) (λ e. omega (arith, e))

vars : (xs : List Var) (r : List Word) → NoBad r → NoBad (vars_words xs r)
unfolding vars_words
vars [] r h = h
vars (x ∷ xs) r h = (var x, vars xs r h)

con : (n : Name → ℕ) (c : Con Var) (r : List Word) → NoBad r → NoBad (con_words n c r)
unfolding con_words
con n ctrue r h = (inner _, (end, h))
con n cfail r h = (inner _, (end, h))
con n (ceq x y) r h = (inner _, (var x, (var y, (end, h))))
con n (capp x f ys) r h = (inner _, (var x, (num _, vars ys (End ∷ r) (end, h))))

mutual
  unfolding stmt_words clauses_words

  pub stmt_good : (s : Stmt) (n : Name → ℕ) (r : List Word) → NoBad r → NoBad (stmt_words n s r)
  stmt_good (atom c) n r h = con n c r h
  stmt_good (call p xs) n r h = (inner _, (num _, vars xs (End ∷ r) (end, h)))
  stmt_good (comp a b) n r h = (inner _, stmt_good a n (stmt_words n b (End ∷ r)) (stmt_good b n (End ∷ r) (end, h)))
  stmt_good (hide m a) n r h = (inner _, (num m, stmt_good a n (End ∷ r) (end, h)))
  stmt_good (choice op cs) n r h = (inner (ask op), clauses_good cs n (End ∷ r) (end, h))

  clauses_good : (cs : Clauses) (n : Name → ℕ) (r : List Word) → NoBad r → NoBad (clauses_words n cs r)
  clauses_good no_more n r h = h
  clauses_good (clause m g b cs) n r h = (inner _, (num m, stmt_good g n (stmt_words n b (End ∷ clauses_words n cs r)) (stmt_good b n (End ∷ clauses_words n cs r) (end, clauses_good cs n r h))))

pub program_good : (n : Name → ℕ) (P : Program) → NoBad (program_words n P)
unfolding program_words
program_good n [] = tt
program_good n (d ∷ ds) = (num _, (num _, stmt_good d.body n (program_words n ds) (program_good n ds)))

locals : (vs : List ℕ) (r : List Word) → NoBad r → NoBad (local_words vs r)
unfolding local_words
locals [] r h = h
locals (x ∷ vs) r h = (free x, locals vs r h)

store : (σ : constraint.Store) (n : Name → ℕ) (r : List Word) → NoBad r → NoBad (store_words n σ r)
unfolding store_words
store [] n r h = h
store (c ∷ σ) n r h = con n (map_con number c) (store_words n σ r) (store σ n r h)

mutual
  unfolding node_words nodes_words

  pub node_good : {k : akl.Kind} (m : Node k) (n : Name → ℕ) (r : List Word) → NoBad r → NoBad (node_words n m r)
  node_good (or ns) n r h = (place _, nodes_good ns n (End ∷ r) (end, h))
  node_good (and vs σ ms) n r h = (place _, (inner _, locals vs _ (end, (inner _, store σ n _ (end, nodes_good ms n (End ∷ r) (end, h))))))
  node_good (stmt s) n r h = (place _, stmt_good s n (End ∷ r) (end, h))
  node_good (choice_box op gs) n r h = (place (box_kind op), nodes_good gs n (End ∷ r) (end, h))
  node_good (guard g b) n r h = (place _, node_good g n (stmt_words n b (End ∷ r)) (stmt_good b n (End ∷ r) (end, h)))

  nodes_good : {k : akl.Kind} (ns : Nodes k) (n : Name → ℕ) (r : List Word) → NoBad r → NoBad (nodes_words n ns r)
  nodes_good nil n r h = h
  nodes_good (cons m ns) n r h = node_good m n (nodes_words n ns r) (nodes_good ns n r h)

-- one list behind another
pub join_good : (W X : List Word) → NoBad W → NoBad X → NoBad (W ++ X)
join_good [] X a b = b
join_good (w ∷ W) X a b = (a.0, join_good W X a.1 b)

-- the words around the query at the start
pub around_good : (vs : List ℕ) (W : List Word) → NoBad W → NoBad (Place Or ∷ Place And ∷ Inner Locals ∷ local_words vs (End ∷ Inner Store ∷ End ∷ Place Member ∷ (W ++ (End ∷ End ∷ End ∷ []))))
around_good vs W g = (place _, (place _, (inner _, locals vs _ (end, (inner _, (end, (place _, join_good W (End ∷ End ∷ End ∷ []) g (end, (end, (end, tt))))))))))
