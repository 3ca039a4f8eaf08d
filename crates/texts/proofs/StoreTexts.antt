-- A store is well formed exactly when texts read as its program, its query's names and its statements, and the rest of
-- document 01's sentence holds.
use mathlib.Core.Path.{◌≡◌, refl, ap, sym, subst}
use mathlib.Core.Logic.{◌↔◌, inl, inr}
use mathlib.Core.List.{List, [], ◌∷◌, ◌++◌, map}
use mathlib.Core.Bool.{◌&&◌, ◌||◌}
use Prim.Native.Nat.{ℕ, suc, ◌≤◌}
use native.Mathlib.Omega.{arith}
use lib.Dec.{T, leb, leb→le}
use Rattle.constraint.specs.Constraint.{Con, ctrue, cfail, ceq, capp, map_con, Store, vars, vars_all}
use Rattle.constraint.proofs.Lists.{and_T, In-append}
use Rattle.akl.specs.Base.{Name, all}
use Rattle.akl.specs.Limits.{last_number}
use Rattle.akl.specs.Syntax.{Var, number, Stmt, atom, Program}
use Rattle.akl.specs.Rules.{number_of, stored}
use Rattle.akl.specs.Configuration.{Kind, Node, or, and, stmt, choice_box, guard, Nodes, nil, cons, Config}
use Rattle.akl.specs.Parts.{parts, parts_all, statement_parts}
use Rattle.akl.specs.WellFormed.{variable_fits, few, constraint_fits, statement_fits, depth, spelled_name, spelled_digits, statement_passes, program_passes, stored_fits, statements_pass, statements_pass_all, list_numbers, constraint_numbers, numbers, all_numbers, all_numbers_in, well_formed}
use Rattle.theory.specs.Scope.{Below}
use Rattle.theory.specs.Formed.{Formed}
use Rattle.theory.proofs.Locals.{size_map}
use Rattle.theory.proofs.Passing.{passes_iff}
use Rattle.theory.proofs.Closed.{any_number}
use Rattle.theory.proofs.Reflect.{ok_numbers, formed_iff}
use Rattle.texts.specs.Draft.{most_names, power, most_hidden, ProgramListsFit}
use Rattle.texts.specs.Readable.{StatementText, StoredText, StoreText, StatementsText, StatementsTextAll}
use Rattle.texts.specs.StoreFormed.{StoreFormed}
use Rattle.texts.proofs.Reading.{statement_in_passes}
use Rattle.texts.proofs.Narrow.{few_parts}
use Rattle.texts.proofs.WouldPass.{program_passes_iff, statement_passes_iff}
use Rattle.texts.proofs.NamesPass.{names_pass_iff}

-- ---------------------------------------------------------------------------------------------
-- Stored constraints.

numbers_map : (ys : List ℕ) → list_numbers (map number ys) ≡ ys
unfolding list_numbers
numbers_map [] = refl
numbers_map (y ∷ ys) = ap (λ (l : List ℕ). y ∷ l) (numbers_map ys)

back_map : (ys : List ℕ) → map number_of (map number ys) ≡ ys
back_map [] = refl
back_map (y ∷ ys) = ap (λ (l : List ℕ). y ∷ l) (back_map ys)

any_fits : (ys : List ℕ) → T (all (variable_fits any_number 0) (map number ys))
unfolding all
any_fits [] = tt
any_fits (y ∷ ys) = any_fits ys

con_numbers : (c : Con ℕ) → constraint_numbers (map_con number c) ≡ vars c
con_numbers ctrue = refl
con_numbers cfail = refl
con_numbers (ceq x y) = refl
con_numbers (capp x f ys) = ap (λ (l : List ℕ). x ∷ l) (numbers_map ys)

con_fits : (c : Con ℕ) → T (stored_fits c) → T (constraint_fits any_number 0 (map_con number c)) × (stored (map_con number c) ≡ c ∷ [])
con_fits ctrue h = elim h [ ]
con_fits cfail h = (tt, refl)
con_fits (ceq x y) h = (tt, refl)
con_fits (capp x f ys) h =
    let k = (and_T (few ys) (spelled_name f || spelled_digits f)).0 h in
    ((and_T (all (variable_fits any_number 0) (map number ys) && few (map number ys)) (spelled_name f || spelled_digits f)).1 ((and_T (all (variable_fits any_number 0) (map number ys)) (few (map number ys))).1 (any_fits ys, subst (λ n. T (leb n 8)) (sym (size_map number ys)) k.0), k.1), λ i. capp x f (back_map ys i) ∷ [])

-- what is stored for an atom that passes
stored_back : (a : Con Var) (c : Con ℕ) → T (constraint_fits any_number 0 a) → stored a ≡ c ∷ [] → T (stored_fits c)
stored_back ctrue c h e = absurd (nope e)
  where
    nope : ◌≡◌ {A = List (Con ℕ)} [] (c ∷ []) → ⊥
    nope q = let z : ◌≡◌ {A = ℕ} 0 1 = cc in omega arith
stored_back cfail c h e = let q : cfail ≡ c = cc e in subst (λ z. T (stored_fits z)) q tt
stored_back (ceq x y) c h e = let q : ceq (number_of x) (number_of y) ≡ c = cc e in subst (λ z. T (stored_fits z)) q tt
stored_back (capp x f ys) c h e =
    let v = variable_fits any_number 0 in
    let k2 = (and_T (v x && all v ys && few ys) (spelled_name f || spelled_digits f)).0 h in
    let k1 = (and_T (v x && all v ys) (few ys)).0 k2.0 in
    let q : capp (number_of x) f (map number_of ys) ≡ c = cc e in
    subst (λ z. T (stored_fits z)) q ((and_T (few (map number_of ys)) (spelled_name f || spelled_digits f)).1 (subst (λ n. T (leb n 8)) (sym (size_map number_of ys)) k1.1, k2.1))

-- ---------------------------------------------------------------------------------------------
-- Texts of what passes.

module _ (P : Program) (passes : T (program_passes P)) (K : ℕ) (room : K ≤ most_names) where
  statement_text : (s : Stmt) → statement_parts s ≤ most_hidden → Below (numbers s) K → T (statement_passes P any_number 0 s) → StatementText P s
  statement_text s w b h = (statement_passes_iff P passes s K (few_parts s w) room b).0 h

  stored_text : (c : Con ℕ) → Below (vars c) K → T (stored_fits c) → StoredText P c
  unfolding statement_fits depth numbers
  stored_text c b h =
      let k = con_fits c h in
      (map_con number c, (statement_passes_iff P passes (atom (map_con number c)) K tt room (subst (λ l. Below l K) (sym (con_numbers c)) b)).0 ((passes_iff P any_number 0 (atom (map_con number c))).1 (k.0, omega arith)), k.1)

  left_below : (a b : List ℕ) → Below (a ++ b) K → Below a K
  left_below a b h x i = h x ((In-append x a b).1 (inl i))

  right_below : (a b : List ℕ) → Below (a ++ b) K → Below b K
  right_below a b h x i = h x ((In-append x a b).1 (inr i))

  store_text : (σ : Store) → Below (vars_all σ) K → T (all stored_fits σ) → StoreText P σ
  unfolding all vars_all
  store_text [] b h = tt
  store_text (c ∷ σ) b h =
      let k = (and_T (stored_fits c) (all stored_fits σ)).0 h in
      (stored_text c (left_below (vars c) (vars_all σ) b) k.0, store_text σ (right_below (vars c) (vars_all σ) b) k.1)

  mutual
    unfolding statements_pass parts all_numbers

    node_text : {k : Kind} (n : Node k) → parts n ≤ most_hidden → Below (all_numbers n) K → T (statements_pass n P) → StatementsText n P
    node_text (or ns) w b h = nodes_text ns (omega arith) b h
    node_text (and vs σ ms) w b h =
        let k = (and_T (all stored_fits σ) (statements_pass_all ms P)).0 h in
        (store_text σ (right_below vs (vars_all σ) (left_below (vs ++ vars_all σ) (all_numbers_in ms) b)) k.0, nodes_text ms (omega arith) (right_below (vs ++ vars_all σ) (all_numbers_in ms) b) k.1)
    node_text (stmt s) w b h = statement_text s w b h
    node_text (choice_box op gs) w b h = nodes_text gs (omega arith) b h
    node_text (guard g s) w b h =
        let k = (and_T (statements_pass g P) (statement_passes P any_number 0 s)).0 h in
        (node_text g (omega arith) (left_below (all_numbers g) (numbers s) b) k.0, statement_text s (omega arith) (right_below (all_numbers g) (numbers s) b) k.1)

    nodes_text : {k : Kind} (ns : Nodes k) → parts_all ns ≤ most_hidden → Below (all_numbers_in ns) K → T (statements_pass_all ns P) → StatementsTextAll ns P
    nodes_text nil w b h = tt
    nodes_text (cons n ns) w b h =
        let k = (and_T (statements_pass n P) (statements_pass_all ns P)).0 h in
        (node_text n (omega arith) (left_below (all_numbers n) (all_numbers_in ns) b) k.0, nodes_text ns (omega arith) (right_below (all_numbers n) (all_numbers_in ns) b) k.1)

-- ---------------------------------------------------------------------------------------------
-- What texts read as passes.

module _ (P : Program) where
  text_passes : (s : Stmt) → StatementText P s → T (statement_passes P any_number 0 s)
  text_passes s t = statement_in_passes P t.0 t.4 s t.5

  store_passes : (σ : Store) → StoreText P σ → T (all stored_fits σ)
  unfolding all statement_fits
  store_passes [] h = tt
  store_passes (c ∷ σ) h = (and_T (stored_fits c) (all stored_fits σ)).1 (stored_back h.0.0 c ((passes_iff P any_number 0 (atom h.0.0)).0 (text_passes (atom h.0.0) h.0.1)).0 h.0.2, store_passes σ h.1)

  mutual
    unfolding statements_pass

    node_passes : {k : Kind} (n : Node k) → StatementsText n P → T (statements_pass n P)
    node_passes (or ns) h = nodes_pass ns h
    node_passes (and vs σ ms) h = (and_T (all stored_fits σ) (statements_pass_all ms P)).1 (store_passes σ h.0, nodes_pass ms h.1)
    node_passes (stmt s) h = text_passes s h
    node_passes (choice_box op gs) h = nodes_pass gs h
    node_passes (guard g s) h = (and_T (statements_pass g P) (statement_passes P any_number 0 s)).1 (node_passes g h.0, text_passes s h.1)

    nodes_pass : {k : Kind} (ns : Nodes k) → StatementsTextAll ns P → T (statements_pass_all ns P)
    nodes_pass nil h = tt
    nodes_pass (cons n ns) h = (and_T (statements_pass n P) (statements_pass_all ns P)).1 (node_passes n h.0, nodes_pass ns h.1)

-- ---------------------------------------------------------------------------------------------
-- Stores. The numbers of variables are far below the number of names.

numbers_room : suc last_number ≤ most_names
unfolding most_names power
numbers_room = leb→le (suc last_number) most_names tt

pub store_formed_iff : (limit : ℕ) (P : Program) (xs : List Name) (c : Config) → limit ≤ most_hidden → ProgramListsFit P → T (well_formed limit P xs c) ↔ StoreFormed limit P xs c
store_formed_iff limit P xs c l lists = (λ h. to_it ((formed_iff limit P xs c).0 h), λ f. (formed_iff limit P xs c).1 (from_it f))
  where
    to_it : Formed limit P xs c → StoreFormed limit P xs c
    to_it f = record { program = (program_passes_iff P lists).0 f.program; names = (names_pass_iff P xs).0 f.names; statements = node_text P f.program c.next next_room c.root (fits f.fit) (ok_numbers c.root c.next [] f.scopes (λ x i. absurd i)) f.statements; top_or = f.top_or; scopes = f.scopes; query = f.query; above = f.above; last = f.last; fit = f.fit }
      where
        next_room : c.next ≤ most_names
        next_room = omega (arith, f.last, numbers_room)

        fits : parts c.root ≤ limit → parts c.root ≤ most_hidden
        fits h = omega arith

    from_it : StoreFormed limit P xs c → Formed limit P xs c
    from_it f = record { program = (program_passes_iff P lists).1 f.program; names = (names_pass_iff P xs).1 f.names; top_or = f.top_or; statements = node_passes P c.root f.statements; scopes = f.scopes; query = f.query; above = f.above; last = f.last; fit = f.fit }
