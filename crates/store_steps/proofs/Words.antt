-- Where the words of a state have values of two bytes, all its names stand in its table.
use mathlib.Core.List.{List, [], ◌∷◌}
use Prim.Native.Nat.{ℕ, ◌<◌}
use Rattle.constraint.specs.Constraint.{Con, ctrue, cfail, ceq, capp, map_con}
use Rattle.constraint.specs.Constraint as constraint
use Rattle.akl.specs.Base.{Name}
use Rattle.akl.specs.Syntax.{Var, number, Stmt, atom, call, comp, hide, choice, Clauses, no_more, clause, Program}
use Rattle.akl.specs.Configuration as akl
use Rattle.akl.specs.Configuration.{Node, or, and, stmt, choice_box, guard, Nodes, nil, cons}
use Rattle.mem_words.specs.declared.Word.{Word}
use Rattle.mem_words.specs.declared.Word.TheVariants.{End, Inner}
use Rattle.mem_words.specs.Form.{AllSmall}
use Rattle.mem_sorts.specs.declared.Sort.TheVariants.{Store}
use Rattle.layout.specs.Layout.{vars_words, con_words, stmt_words, clauses_words, program_words}
use Rattle.store_words.specs.Boxes.{local_words, store_words, node_words, nodes_words}
use Rattle.store_form.specs.Sizes.{two_bytes}
use Rattle.store_form.specs.State.{State, table, number_in}
use Rattle.store_form.specs.Form.{rules_words, config_words}
use Rattle.store_form.specs.Holding.{Fits}
use Rattle.store_form.specs.Named.{NamedCon, NamedStore, NamedStmt, NamedClauses, NamedNode, NamedNodes, InTable}
use Rattle.store_form.proofs.Spelt.{small_all}
use Rattle.store_steps.specs.Named.{NamedProgram}

module _ (num : Name → ℕ) where
  abbrev K : Name → Type 0
  K f = num f < two_bytes

  vars_named : (xs : List Var) (r : List Word) → AllSmall (vars_words xs r) → AllSmall r
  unfolding vars_words
  vars_named [] r h = h
  vars_named (x ∷ xs) r h = vars_named xs r h.1

  con_named : (c : Con Var) (r : List Word) → AllSmall (con_words num c r) → NamedCon K c × AllSmall r
  unfolding con_words
  con_named ctrue r h = (tt, h.1.1)
  con_named cfail r h = (tt, h.1.1)
  con_named (ceq x y) r h = (tt, h.1.1.1.1)
  con_named (capp x f ys) r h = (h.1.1.0.value, (vars_named ys (End ∷ r) h.1.1.1).1)

  mutual
    unfolding stmt_words

    stmt_named : (s : Stmt) (r : List Word) → AllSmall (stmt_words num s r) → NamedStmt K s × AllSmall r
    stmt_named (atom c) r h = con_named c r h
    stmt_named (call p xs) r h = (h.1.0.value, (vars_named xs (End ∷ r) h.1.1).1)
    stmt_named (comp a b) r h =
        let x = stmt_named a (stmt_words num b (End ∷ r)) h.1 in
        let y = stmt_named b (End ∷ r) x.1 in
        ((x.0, y.0), y.1.1)
    stmt_named (hide n a) r h = let x = stmt_named a (End ∷ r) h.1.1 in (x.0, x.1.1)
    stmt_named (choice op cs) r h = let x = clauses_named cs (End ∷ r) h.1 in (x.0, x.1.1)

    clauses_named : (cs : Clauses) (r : List Word) → AllSmall (clauses_words num cs r) → NamedClauses K cs × AllSmall r
    clauses_named no_more r h = (tt, h)
    clauses_named (clause n g b cs) r h =
        let w = End ∷ clauses_words num cs r in
        let x = stmt_named g (stmt_words num b w) h.1.1 in
        let y = stmt_named b w x.1 in
        let z = clauses_named cs r y.1.1 in
        ((x.0, y.0, z.0), z.1)

  program_named : (P : Program) → AllSmall (program_words num P) → NamedProgram K P
  unfolding program_words
  program_named [] h = tt
  program_named (d ∷ ds) h =
      let x = stmt_named d.body (program_words num ds) h.1.1 in
      (h.0.value, x.0, program_named ds x.1)

  local_named : (xs : List ℕ) (r : List Word) → AllSmall (local_words xs r) → AllSmall r
  unfolding local_words
  local_named [] r h = h
  local_named (x ∷ xs) r h = local_named xs r h.1

  stored_named : (c : Con ℕ) (r : List Word) → AllSmall (con_words num (map_con number c) r) → NamedCon K c × AllSmall r
  stored_named ctrue r h = con_named ctrue r h
  stored_named cfail r h = con_named cfail r h
  stored_named (ceq x y) r h = con_named (map_con number (ceq x y)) r h
  stored_named (capp x f ys) r h = con_named (map_con number (capp x f ys)) r h

  store_named : (σ : constraint.Store) (r : List Word) → AllSmall (store_words num σ r) → NamedStore K σ × AllSmall r
  unfolding store_words
  store_named [] r h = (tt, h)
  store_named (c ∷ σ) r h =
      let x = stored_named c (store_words num σ r) h in
      let y = store_named σ r x.1 in
      ((x.0, y.0), y.1)

  mutual
    unfolding node_words

    node_named : {k : akl.Kind} (n : Node k) (r : List Word) → AllSmall (node_words num n r) → NamedNode K n × AllSmall r
    node_named (or ns) r h = let x = nodes_named ns (End ∷ r) h.1 in (x.0, x.1.1)
    node_named (and vs σ ms) r h =
        let w = End ∷ nodes_words num ms (End ∷ r) in
        let x = store_named σ w (local_named vs (End ∷ Inner Store ∷ store_words num σ w) h.1.1).1.1 in
        let y = nodes_named ms (End ∷ r) x.1.1 in
        ((x.0, y.0), y.1.1)
    node_named (stmt s) r h = let x = stmt_named s (End ∷ r) h.1 in (x.0, x.1.1)
    node_named (choice_box op gs) r h = let x = nodes_named gs (End ∷ r) h.1 in (x.0, x.1.1)
    node_named (guard g b) r h =
        let x = node_named g (stmt_words num b (End ∷ r)) h.1 in
        let y = stmt_named b (End ∷ r) x.1 in
        ((x.0, y.0), y.1.1)

    nodes_named : {k : akl.Kind} (ns : Nodes k) (r : List Word) → AllSmall (nodes_words num ns r) → NamedNodes K ns × AllSmall r
    nodes_named nil r h = (tt, h)
    nodes_named (cons n ns) r h =
        let x = node_named n (nodes_words num ns r) h in
        let y = nodes_named ns r x.1 in
        ((x.0, y.0), y.1)

module _ (limit : ℕ) (s : State) (F : Fits limit s) where
  -- The names of a state that has bytes stand in its table: those of its program,
  pub program_in_table : NamedProgram (InTable (table s)) s.program
  unfolding rules_words
  program_in_table = program_named (number_in (table s)) s.program (small_all (rules_words s) F.rules_small)

  -- and those of its configuration.
  pub config_in_table : NamedNode (InTable (table s)) s.config.root
  unfolding config_words
  config_in_table = (node_named (number_in (table s)) s.config.root [] (small_all (config_words s) F.words_small)).0
