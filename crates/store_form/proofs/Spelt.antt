-- Where every word's value has two bytes, every name stands in the table.
use mathlib.Core.Path.{◌≡◌}
use mathlib.Core.List.{List, [], ◌∷◌}
use Prim.Native.Nat.{ℕ, ◌<◌}
use lib.Dec.{T, ltb, ltb→lt, lt→ltb}
use Rattle.constraint.specs.Constraint.{Con, ctrue, cfail, ceq, capp, map_con}
use Rattle.constraint.specs.Constraint as constraint
use Rattle.constraint.proofs.Lists.{and_T}
use Rattle.akl.specs.Base.{Name, all}
use Rattle.akl.specs.Syntax.{Var, number, Stmt, atom, call, comp, hide, choice, Clauses, no_more, clause, Program}
use Rattle.akl.specs.Configuration as akl
use Rattle.akl.specs.Configuration.{Node, or, and, stmt, choice_box, guard, Nodes, nil, cons}
use Rattle.mem_words.specs.declared.Word.{Word}
use Rattle.mem_words.specs.declared.Word.TheVariants.{End, Inner}
use Rattle.mem_words.specs.Words.{value_of}
use Rattle.mem_words.specs.Form.{AllSmall}
use Rattle.mem_sorts.specs.declared.Sort.TheVariants.{Store}
use Rattle.layout.specs.Layout.{vars_words, con_words, stmt_words, clauses_words, program_words}
use Rattle.layout.specs.Tables.{SpeltCon, Spelt, SpeltClauses, SpeltProgram}
use Rattle.store_words.specs.Boxes.{local_words, store_words, node_words, nodes_words}
use Rattle.store_words.specs.Tables.{SpeltStore, SpeltNode, SpeltNodes}
use Rattle.store_form.specs.Sizes.{two_bytes}
use Rattle.store_form.specs.Holding.{small_word}

pub small_all : (W : List Word) → T (all small_word W) → AllSmall W
unfolding all small_word
small_all [] t = tt
small_all (w ∷ W) t =
    let h = (and_T (ltb (value_of w) two_bytes) (all small_word W)).0 t in
    (record { value = ltb→lt (value_of w) two_bytes h.0 }, small_all W h.1)

pub all_small : (W : List Word) → AllSmall W → T (all small_word W)
unfolding all small_word
all_small [] h = tt
all_small (w ∷ W) h = (and_T (ltb (value_of w) two_bytes) (all small_word W)).1 (lt→ltb (value_of w) two_bytes h.0.value, all_small W h.1)

-- a number of two bytes is that of its name
module _ (num : Name → ℕ) (spell : ℕ → Name) (K : (f : Name) → num f < two_bytes → spell (num f) ≡ f) where
  vars_small : (xs : List Var) (r : List Word) → AllSmall (vars_words xs r) → AllSmall r
  unfolding vars_words
  vars_small [] r h = h
  vars_small (x ∷ xs) r h = vars_small xs r h.1

  con_small : (c : Con Var) (r : List Word) → AllSmall (con_words num c r) → SpeltCon num spell c × AllSmall r
  unfolding con_words
  con_small ctrue r h = (tt, h.1.1)
  con_small cfail r h = (tt, h.1.1)
  con_small (ceq x y) r h = (tt, h.1.1.1.1)
  con_small (capp x f ys) r h = (K f h.1.1.0.value, (vars_small ys (End ∷ r) h.1.1.1).1)

  mutual
    unfolding stmt_words

    stmt_small : (s : Stmt) (r : List Word) → AllSmall (stmt_words num s r) → Spelt num spell s × AllSmall r
    stmt_small (atom c) r h = con_small c r h
    stmt_small (call p xs) r h = (K p h.1.0.value, (vars_small xs (End ∷ r) h.1.1).1)
    stmt_small (comp a b) r h =
        let x = stmt_small a (stmt_words num b (End ∷ r)) h.1 in
        let y = stmt_small b (End ∷ r) x.1 in
        ((x.0, y.0), y.1.1)
    stmt_small (hide n a) r h = let x = stmt_small a (End ∷ r) h.1.1 in (x.0, x.1.1)
    stmt_small (choice op cs) r h = let x = clauses_small cs (End ∷ r) h.1 in (x.0, x.1.1)

    clauses_small : (cs : Clauses) (r : List Word) → AllSmall (clauses_words num cs r) → SpeltClauses num spell cs × AllSmall r
    clauses_small no_more r h = (tt, h)
    clauses_small (clause n g b cs) r h =
        let w = End ∷ clauses_words num cs r in
        let x = stmt_small g (stmt_words num b w) h.1.1 in
        let y = stmt_small b w x.1 in
        let z = clauses_small cs r y.1.1 in
        ((x.0, y.0, z.0), z.1)

  pub program_small : (P : Program) → AllSmall (program_words num P) → SpeltProgram num spell P
  unfolding program_words
  program_small [] h = tt
  program_small (d ∷ ds) h =
      let x = stmt_small d.body (program_words num ds) h.1.1 in
      (K d.name h.0.value, x.0, program_small ds x.1)

  local_small : (xs : List ℕ) (r : List Word) → AllSmall (local_words xs r) → AllSmall r
  unfolding local_words
  local_small [] r h = h
  local_small (x ∷ xs) r h = local_small xs r h.1

  store_small : (σ : constraint.Store) (r : List Word) → AllSmall (store_words num σ r) → SpeltStore num spell σ × AllSmall r
  unfolding store_words
  store_small [] r h = (tt, h)
  store_small (c ∷ σ) r h =
      let x = con_small (map_con number c) (store_words num σ r) h in
      let y = store_small σ r x.1 in
      ((x.0, y.0), y.1)

  mutual
    unfolding node_words

    pub node_small : {k : akl.Kind} (n : Node k) (r : List Word) → AllSmall (node_words num n r) → SpeltNode num spell n × AllSmall r
    node_small (or ns) r h = let x = nodes_small ns (End ∷ r) h.1 in (x.0, x.1.1)
    node_small (and vs σ ms) r h =
        let w = End ∷ nodes_words num ms (End ∷ r) in
        let x = store_small σ w (local_small vs (End ∷ Inner Store ∷ store_words num σ w) h.1.1).1.1 in
        let y = nodes_small ms (End ∷ r) x.1.1 in
        ((x.0, y.0), y.1.1)
    node_small (stmt s) r h = let x = stmt_small s (End ∷ r) h.1 in (x.0, x.1.1)
    node_small (choice_box op gs) r h = let x = nodes_small gs (End ∷ r) h.1 in (x.0, x.1.1)
    node_small (guard g b) r h =
        let x = node_small g (stmt_words num b (End ∷ r)) h.1 in
        let y = stmt_small b (End ∷ r) x.1 in
        ((x.0, y.0), y.1.1)

    nodes_small : {k : akl.Kind} (ns : Nodes k) (r : List Word) → AllSmall (nodes_words num ns r) → SpeltNodes num spell ns × AllSmall r
    nodes_small nil r h = (tt, h)
    nodes_small (cons n ns) r h =
        let x = node_small n (nodes_words num ns r) h in
        let y = nodes_small ns r x.1 in
        ((x.0, y.0), y.1)
