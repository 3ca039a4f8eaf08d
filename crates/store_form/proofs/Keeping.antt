-- A well-formed configuration whose names stand in the table has bytes: so a step from a state that has them needs nothing more.
use mathlib.Core.Path.{refl}
use mathlib.Core.Logic.{inl, inr}
use mathlib.Core.List.{List, [], ◌∷◌, ◌++◌, map}
use mathlib.Core.Bool.{Bool, true, ◌&&◌, ◌||◌}
use Prim.Native.Nat.{ℕ, ◌+◌, ◌<◌, ◌≤◌}
use native.Mathlib.Omega.{arith}
use lib.Dec.{T, leb, ltb, ltb→lt}
use Rattle.constraint.specs.Constraint.{Con, ctrue, cfail, ceq, capp, map_con, vars, vars_all}
use Rattle.constraint.specs.Constraint as constraint
use Rattle.constraint.proofs.Lists.{and_T, In-append}
use Rattle.akl.specs.Base.{is_some, Name, size, all}
use Rattle.akl.specs.Limits.{most_depth}
use Rattle.akl.specs.Syntax.{Var, number, level, Stmt, atom, call, comp, hide, choice, Clauses, no_more, clause, Program, defined}
use Rattle.akl.specs.Configuration as akl
use Rattle.akl.specs.Configuration.{Node, or, and, stmt, choice_box, guard, Nodes, nil, cons, Config}
use Rattle.akl.specs.Parts.{statement_parts, clauses_parts, parts, parts_all}
use Rattle.akl.specs.WellFormed.{spelled_name, spelled_digits, variable_fits, few, constraint_fits, statement_fits, clauses_fit, some_clause, depth, statement_passes, stored_fits, statements_pass, statements_pass_all, variable_numbers, list_numbers, constraint_numbers, numbers, clauses_numbers, all_numbers, all_numbers_in}
use Rattle.theory.specs.Scope.{Below}
use Rattle.theory.specs.Formed.{Formed}
use Rattle.theory.proofs.Reflect.{ok_numbers}
use Rattle.mem_words.specs.declared.Word.{Word}
use Rattle.mem_words.specs.declared.Word.TheVariants.{End, Inner}
use Rattle.mem_words.specs.Words.{Small}
use Rattle.mem_words.specs.Form.{AllSmall}
use Rattle.mem_sorts.specs.declared.Sort.{Sort}
use Rattle.mem_sorts.specs.declared.Sort.TheVariants.{Store}
use Rattle.mem_sorts.specs.declared.Kind.{Kind}
use Rattle.mem_sorts.specs.Shapes.{kind_small, sort_small}
use Rattle.layout.specs.Layout.{var_word, vars_words, ask, con_words, stmt_words, clauses_words}
use Rattle.store_words.specs.Boxes.{box_kind, local_words, store_words, node_words, nodes_words}
use Rattle.store_form.specs.Sizes.{two_bytes}
use Rattle.store_form.specs.State.{State, table, number_in}
use Rattle.store_form.specs.Form.{rules_words, config_words}
use Rattle.store_form.specs.Holding.{Fits}
use Rattle.store_form.specs.Named.{NamedCon, NamedStore, NamedStmt, NamedClauses, NamedNode, NamedNodes, InTable}
use Rattle.store_form.proofs.Spelt.{all_small}
use Rattle.store_form.proofs.Lengths.{formed_words}

left_below : (a b : List ℕ) (N : ℕ) → Below (a ++ b) N → Below a N
left_below a b N h x i = h x ((In-append x a b).1 (inl i))

right_below : (a b : List ℕ) (N : ℕ) → Below (a ++ b) N → Below b N
right_below a b N h x i = h x ((In-append x a b).1 (inr i))

module _ (num : Name → ℕ) where
  abbrev K : Name → Type 0
  K f = num f < two_bytes

  var_small : (free : ℕ → Bool) (n : ℕ) (x : Var) → T (variable_fits free n x) → Below (variable_numbers x) two_bytes → n ≤ two_bytes → Small (var_word x)
  unfolding var_word
  var_small free n (number x) t h b = record { value = h x (inl refl) }
  var_small free n (level l) t h b = record { value = omega (arith, ltb→lt l n t) }

  vars_small : (free : ℕ → Bool) (n : ℕ) (xs : List Var) (r : List Word) → T (all (variable_fits free n) xs) → Below (list_numbers xs) two_bytes → n ≤ two_bytes → AllSmall r → AllSmall (vars_words xs r)
  unfolding vars_words all list_numbers
  vars_small free n [] r t h b k = k
  vars_small free n (x ∷ xs) r t h b k =
      let a = (and_T (variable_fits free n x) (all (variable_fits free n) xs)).0 t in
      (var_small free n x a.0 (left_below (variable_numbers x) (list_numbers xs) two_bytes h) b, vars_small free n xs r a.1 (right_below (variable_numbers x) (list_numbers xs) two_bytes h) b k)

  inner : (s : Sort) → Small (Inner s)
  inner s = record { value = sort_small s }

  closing : Small End
  closing = record { value = omega arith }

  con_small : (free : ℕ → Bool) (n : ℕ) (c : Con Var) (r : List Word) → T (constraint_fits free n c) → Below (constraint_numbers c) two_bytes → NamedCon K c → n ≤ two_bytes → AllSmall r → AllSmall (con_words num c r)
  unfolding con_words
  con_small free n ctrue r t h w b k = (inner _, (closing, k))
  con_small free n cfail r t h w b k = (inner _, (closing, k))
  con_small free n (ceq x y) r t h w b k =
      let a = (and_T (variable_fits free n x) (variable_fits free n y)).0 t in
      (inner _, (var_small free n x a.0 (left_below (variable_numbers x) (variable_numbers y) two_bytes h) b, (var_small free n y a.1 (right_below (variable_numbers x) (variable_numbers y) two_bytes h) b, (closing, k))))
  con_small free n (capp x f ys) r t h w b k =
      let name = spelled_name f || spelled_digits f in
      let both = variable_fits free n x && all (variable_fits free n) ys in
      let a = (and_T (variable_fits free n x) (all (variable_fits free n) ys)).0 ((and_T both (few ys)).0 ((and_T (both && few ys) name).0 t).0).0 in
      (inner _, (var_small free n x a.0 (left_below (variable_numbers x) (list_numbers ys) two_bytes h) b, (record { value = w }, vars_small free n ys (End ∷ r) a.1 (right_below (variable_numbers x) (list_numbers ys) two_bytes h) b (closing, k))))

  mutual
    unfolding stmt_words statement_fits numbers statement_parts

    stmt_small : (s : Stmt) (P : Program) (free : ℕ → Bool) (n : ℕ) (r : List Word) → T (statement_fits s P free n) → Below (numbers s) two_bytes → NamedStmt K s → n + statement_parts s < two_bytes → AllSmall r → AllSmall (stmt_words num s r)
    stmt_small (atom c) P free n r t h w b k = con_small free n c r t h w (omega arith) k
    stmt_small (call p xs) P free n r t h w b k =
        let d = is_some (defined P p (size xs)) in
        let a = (and_T (all (variable_fits free n) xs) (few xs)).0 ((and_T (all (variable_fits free n) xs && few xs) d).0 t).0 in
        (inner _, (record { value = w }, vars_small free n xs (End ∷ r) a.0 h (omega arith) (closing, k)))
    stmt_small (comp x y) P free n r t h w b k =
        let a = (and_T (statement_fits x P free n) (statement_fits y P free n)).0 t in
        (inner _, stmt_small x P free n (stmt_words num y (End ∷ r)) a.0 (left_below (numbers x) (numbers y) two_bytes h) w.0 (omega arith) (stmt_small y P free n (End ∷ r) a.1 (right_below (numbers x) (numbers y) two_bytes h) w.1 (omega arith) (closing, k)))
    stmt_small (hide m x) P free n r t h w b k = (inner _, (record { value = omega arith }, stmt_small x P free (n + m) (End ∷ r) ((and_T (leb 1 m) (statement_fits x P free (n + m))).0 t).1 h w (omega arith) (closing, k)))
    stmt_small (choice op cs) P free n r t h w b k = (inner (ask op), clauses_small cs P free n (End ∷ r) ((and_T (some_clause cs) (clauses_fit cs P free n)).0 t).1 h w (omega arith) (closing, k))

    clauses_small : (cs : Clauses) (P : Program) (free : ℕ → Bool) (n : ℕ) (r : List Word) → T (clauses_fit cs P free n) → Below (clauses_numbers cs) two_bytes → NamedClauses K cs → n + clauses_parts cs < two_bytes → AllSmall r → AllSmall (clauses_words num cs r)
    clauses_small no_more P free n r t h w b k = k
    clauses_small (clause m x y cs) P free n r t h w b k =
        let a = (and_T (statement_fits x P free (n + m) && statement_fits y P free (n + m)) (clauses_fit cs P free n)).0 t in
        let c = (and_T (statement_fits x P free (n + m)) (statement_fits y P free (n + m))).0 a.0 in
        let hxy = left_below (numbers x ++ numbers y) (clauses_numbers cs) two_bytes h in
        let rest = End ∷ clauses_words num cs r in
        let last : AllSmall rest = (closing, clauses_small cs P free n r a.1 (right_below (numbers x ++ numbers y) (clauses_numbers cs) two_bytes h) w.2 (omega arith) k) in
        (inner _, (record { value = omega arith }, stmt_small x P free (n + m) (stmt_words num y rest) c.0 (left_below (numbers x) (numbers y) two_bytes hxy) w.0 (omega arith) (stmt_small y P free (n + m) rest c.1 (right_below (numbers x) (numbers y) two_bytes hxy) w.1 (omega arith) last)))

  passes_small : (s : Stmt) (P : Program) (r : List Word) → T (statement_passes P (λ x. true) 0 s) → Below (numbers s) two_bytes → NamedStmt K s → statement_parts s < two_bytes → AllSmall r → AllSmall (stmt_words num s r)
  unfolding statement_passes
  passes_small s P r t h w b k = stmt_small s P (λ x. true) 0 r ((and_T (statement_fits s P (λ x. true) 0) (leb (depth s) most_depth)).0 t).0 h w (omega arith) k

  numbers_small : (ys : List ℕ) (r : List Word) → Below ys two_bytes → AllSmall r → AllSmall (vars_words (map number ys) r)
  unfolding vars_words var_word
  numbers_small [] r h k = k
  numbers_small (y ∷ ys) r h k = (record { value = h y (inl refl) }, numbers_small ys r (λ x i. h x (inr i)) k)

  stored_small : (c : Con ℕ) (r : List Word) → Below (vars c) two_bytes → NamedCon K c → AllSmall r → AllSmall (con_words num (map_con number c) r)
  unfolding con_words var_word
  stored_small ctrue r h w k = (inner _, (closing, k))
  stored_small cfail r h w k = (inner _, (closing, k))
  stored_small (ceq x y) r h w k = (inner _, (record { value = h x (inl refl) }, (record { value = h y (inr (inl refl)) }, (closing, k))))
  stored_small (capp x f ys) r h w k = (inner _, (record { value = h x (inl refl) }, (record { value = w }, numbers_small ys (End ∷ r) (λ z i. h z (inr i)) (closing, k))))

  store_small : (σ : constraint.Store) (r : List Word) → Below (vars_all σ) two_bytes → NamedStore K σ → AllSmall r → AllSmall (store_words num σ r)
  unfolding store_words vars_all
  store_small [] r h w k = k
  store_small (c ∷ σ) r h w k = stored_small c (store_words num σ r) (left_below (vars c) (vars_all σ) two_bytes h) w.0 (store_small σ r (right_below (vars c) (vars_all σ) two_bytes h) w.1 k)

  local_small : (xs : List ℕ) (r : List Word) → Below xs two_bytes → AllSmall r → AllSmall (local_words xs r)
  unfolding local_words
  local_small [] r h k = k
  local_small (x ∷ xs) r h k = (record { value = h x (inl refl) }, local_small xs r (λ y i. h y (inr i)) k)

  mutual
    unfolding node_words statements_pass all_numbers parts

    pub node_small : {k : akl.Kind} (n : Node k) (P : Program) (r : List Word) → T (statements_pass n P) → Below (all_numbers n) two_bytes → NamedNode K n → parts n < two_bytes → AllSmall r → AllSmall (node_words num n r)
    node_small (or ns) P r t h w b k = (record { value = omega arith }, nodes_small ns P (End ∷ r) t h w (omega arith) (closing, k))
    node_small (and vs σ ms) P r t h w b k =
        let a = (and_T (all stored_fits σ) (statements_pass_all ms P)).0 t in
        let hv = left_below (vs ++ vars_all σ) (all_numbers_in ms) two_bytes h in
        let w2 = End ∷ nodes_words num ms (End ∷ r) in
        let k2 : AllSmall w2 = (closing, nodes_small ms P (End ∷ r) a.1 (right_below (vs ++ vars_all σ) (all_numbers_in ms) two_bytes h) w.1 (omega arith) (closing, k)) in
        let w1 = End ∷ Inner Store ∷ store_words num σ w2 in
        let k1 : AllSmall w1 = (closing, (inner Store, store_small σ w2 (right_below vs (vars_all σ) two_bytes hv) w.0 k2)) in
        (record { value = omega arith }, (inner _, local_small vs w1 (left_below vs (vars_all σ) two_bytes hv) k1))
    node_small (stmt s) P r t h w b k = (record { value = omega arith }, passes_small s P (End ∷ r) t h w b (closing, k))
    node_small (choice_box op gs) P r t h w b k = (record { value = kind_small (box_kind op) }, nodes_small gs P (End ∷ r) t h w (omega arith) (closing, k))
    node_small (guard g s) P r t h w b k =
        let a = (and_T (statements_pass g P) (statement_passes P (λ x. true) 0 s)).0 t in
        (record { value = omega arith }, node_small g P (stmt_words num s (End ∷ r)) a.0 (left_below (all_numbers g) (numbers s) two_bytes h) w.0 (omega arith) (passes_small s P (End ∷ r) a.1 (right_below (all_numbers g) (numbers s) two_bytes h) w.1 (omega arith) (closing, k)))

    nodes_small : {k : akl.Kind} (ns : Nodes k) (P : Program) (r : List Word) → T (statements_pass_all ns P) → Below (all_numbers_in ns) two_bytes → NamedNodes K ns → parts_all ns < two_bytes → AllSmall r → AllSmall (nodes_words num ns r)
    nodes_small nil P r t h w b k = k
    nodes_small (cons n ns) P r t h w b k =
        let a = (and_T (statements_pass n P) (statements_pass_all ns P)).0 t in
        node_small n P (nodes_words num ns r) a.0 (left_below (all_numbers n) (all_numbers_in ns) two_bytes h) w.0 (omega arith) (nodes_small ns P r a.1 (right_below (all_numbers n) (all_numbers_in ns) two_bytes h) w.1 (omega arith) k)

-- the same state with another configuration
abbrev pub with_config : State → Config → State
with_config s c = record { cells = s.cells; program = s.program; variables = s.variables; config = c }

-- A state that has bytes has them with every well-formed configuration whose names stand in its table.
pub fits_with : (limit : ℕ) → limit < 65536 → (s : State) → Fits limit s → (P : Program) (xs : List Name) (c : Config) → Formed limit P xs c → NamedNode (InTable (table s)) c.root → Fits limit (with_config s c)
unfolding config_words rules_words
fits_with limit low s F P xs c f w =
    let below : Below (all_numbers c.root) two_bytes = λ x i. omega (arith, f.last, ok_numbers c.root c.next [] f.scopes (λ y j. absurd j) x i) in
    record {
      nodes = F.nodes;
      lower = F.lower;
      apart = F.apart;
      rules = F.rules;
      together = F.together;
      rules_small = F.rules_small;
      variables = F.variables;
      known = F.known;
      words = formed_words limit (with_config s c) P xs f;
      words_small = all_small (config_words (with_config s c)) (node_small (number_in (table s)) c.root P [] f.statements below w (omega (arith, f.fit)) tt);
      next = omega (arith, f.last);
    }
