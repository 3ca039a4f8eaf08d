-- The variables behind the words that open locals are all locals inside a goal.
use mathlib.Core.Path.{◌≡◌, refl, ap, sym, ◌∙◌}
use mathlib.Core.Bool.{Bool, true, false}
use mathlib.Core.List.{List, [], ◌∷◌, ◌++◌, append_assoc, append-nil}
use Prim.Native.Nat.{ℕ, ◌+◌}
use native.Mathlib.Omega.{arith}
use lib.ListN.{length}
use Rattle.constraint.specs.Constraint as constraint
use Rattle.constraint.specs.Constraint.{Con, ctrue, cfail, ceq, capp, map_con}
use Rattle.akl.specs.Base.{Name}
use Rattle.akl.specs.Syntax.{Var, number, level, Op, wait, cond, commit, Stmt, atom, call, comp, hide, choice, Clauses, no_more, clause}
use Rattle.akl.specs.Configuration as akl
use Rattle.akl.specs.Configuration.{Node, or, and, stmt, choice_box, guard, Nodes, nil, cons, Ctx}
use Rattle.akl.specs.Stability.{locals, locals_all}
use Rattle.mem_words.specs.declared.Word.{Word}
use Rattle.mem_words.specs.declared.Word.TheVariants.{End, Inner}
use Rattle.layout.specs.Layout.{ask, var_word, vars_words, con_words, stmt_words, clauses_words}
use Rattle.store_words.specs.Boxes.{local_words, store_words, node_words, nodes_words}
use Rattle.store_words.specs.Contexts.{before, after}
use Rattle.rule_words.specs.Pieces.{cut, cat}
use Rattle.rule_words.proofs.Segments.{seg_cut}
use Rattle.rule_words.proofs.Balance.{seg_ends}
use Rattle.rule_effects.specs.Effects.{behind}
use Rattle.rule_effects.specs.Standing.{Stands}
use Rattle.rule_effects.proofs.Shapes.{node_tree}
use Rattle.rule_effects.proofs.Frames.{stands_seg, node_seg}
use Rattle.rule_ranges.specs.Ranges.{opens_locals, locals_in, locals_at}

-- ---------------------------------------------------------------------------------------------
-- Statements and constraints have none.

vars_none : (xs : List Var) (r : List Word) → locals_in false (vars_words xs (End ∷ r)) ≡ locals_in false r
unfolding locals_in vars_words var_word
vars_none [] r = refl
vars_none (number x ∷ xs) r = vars_none xs r
vars_none (level l ∷ xs) r = vars_none xs r

con_none : (num : Name → ℕ) (b : Bool) (c : Con Var) (r : List Word) → locals_in b (con_words num c r) ≡ locals_in false r
unfolding locals_in con_words var_word
con_none num b ctrue r = refl
con_none num b cfail r = refl
con_none num b (ceq (number x) (number y)) r = refl
con_none num b (ceq (number x) (level m)) r = refl
con_none num b (ceq (level l) (number y)) r = refl
con_none num b (ceq (level l) (level m)) r = refl
con_none num b (capp (number x) f ys) r = vars_none ys r
con_none num b (capp (level l) f ys) r = vars_none ys r

ask_none : (op : Op) → opens_locals (ask op) ≡ false
unfolding ask
ask_none wait = refl
ask_none cond = refl
ask_none commit = refl

mutual
  unfolding locals_in stmt_words

  stmt_none : (num : Name → ℕ) (s : Stmt) (b : Bool) (r : List Word) → locals_in b (stmt_words num s r) ≡ locals_in false r
  stmt_none num (atom c) b r = con_none num b c r
  stmt_none num (call p xs) b r = vars_none xs r
  stmt_none num (comp s t) b r = stmt_none num s false (stmt_words num t (End ∷ r)) ∙ stmt_none num t false (End ∷ r)
  stmt_none num (hide n s) b r = stmt_none num s false (End ∷ r)
  stmt_none num (choice op cs) b r = ap (λ (x : Bool). locals_in x (clauses_words num cs (End ∷ r))) (ask_none op) ∙ clauses_none num cs (End ∷ r)

  clauses_none : (num : Name → ℕ) (cs : Clauses) (r : List Word) → locals_in false (clauses_words num cs r) ≡ locals_in false r
  clauses_none num no_more r = refl
  clauses_none num (clause n g b cs) r =
      let w = End ∷ clauses_words num cs r in
      stmt_none num g false (stmt_words num b w) ∙ stmt_none num b false w ∙ clauses_none num cs r

store_none : (num : Name → ℕ) (σ : constraint.Store) (r : List Word) → locals_in false (store_words num σ r) ≡ locals_in false r
unfolding store_words
store_none num [] r = refl
store_none num (c ∷ σ) r = con_none num false (map_con number c) (store_words num σ r) ∙ store_none num σ r

-- ---------------------------------------------------------------------------------------------
-- Those of an and-box, and of all in it.

own_locals : (vs : List ℕ) (r : List Word) → locals_in true (local_words vs (End ∷ r)) ≡ vs ++ locals_in false r
unfolding locals_in local_words
own_locals [] r = refl
own_locals (v ∷ vs) r = ap (λ (l : List ℕ). v ∷ l) (own_locals vs r)

mutual
  unfolding locals_in node_words locals

  node_locals : (num : Name → ℕ) {k : akl.Kind} (n : Node k) (b : Bool) (r : List Word) → locals_in b (node_words num n r) ≡ locals n ++ locals_in false r
  node_locals num (or ns) b r = nodes_locals num ns (End ∷ r)
  node_locals num (and vs σ ms) b r =
      let w = End ∷ nodes_words num ms (End ∷ r) in
      own_locals vs (Inner _ ∷ store_words num σ w)
      ∙ ap (λ (l : List ℕ). vs ++ l) (store_none num σ w ∙ nodes_locals num ms (End ∷ r))
      ∙ sym (append_assoc vs (locals_all ms) (locals_in false r))
  node_locals num (stmt s) b r = stmt_none num s false (End ∷ r)
  node_locals num (choice_box op gs) b r = nodes_locals num gs (End ∷ r)
  node_locals num (guard g t) b r = node_locals num g false (stmt_words num t (End ∷ r)) ∙ ap (λ (l : List ℕ). locals g ++ l) (stmt_none num t false (End ∷ r))

  nodes_locals : (num : Name → ℕ) {k : akl.Kind} (ns : Nodes k) (r : List Word) → locals_in false (nodes_words num ns r) ≡ locals_all ns ++ locals_in false r
  nodes_locals num nil r = refl
  nodes_locals num (cons n ns) r =
      node_locals num n false (nodes_words num ns r)
      ∙ ap (λ (l : List ℕ). locals n ++ l) (nodes_locals num ns r)
      ∙ sym (append_assoc (locals n) (locals_all ns) (locals_in false r))

-- a goal's words in those of its configuration
pub goal_end : (num : Name → ℕ) {k : akl.Kind} {χ : Ctx k} {n : Node k} {Z W : List Word} {g : ℕ} → Stands num χ n Z W g → behind W g ≡ g + length (node_words num n [])
goal_end num {k} {χ} {n} {Z} {W} {g} s = let h = s.begins in seg_ends (node_words num n) (node_tree num n) (before num χ [] ∷ []) (after num χ Z) W g (stands_seg num s) (omega (arith, h))

pub goal_words : (num : Name → ℕ) {k : akl.Kind} {χ : Ctx k} {n : Node k} {Z W : List Word} {g : ℕ} → Stands num χ n Z W g → cut g (behind W g) W ≡ node_words num n []
goal_words num {k} {χ} {n} {Z} {W} {g} s =
    let P = before num χ [] in
    let h = s.begins in
    let e = goal_end num s in
    seg_cut (P ∷ []) (node_words num n [] ∷ []) (after num χ Z) W g (behind W g) (stands_seg num s ∙ ap (cat (P ∷ [])) (node_seg num n (after num χ Z))) (omega (arith, h)) (omega (arith, e, h))

-- "all locals inside the goal"
pub locals_are : (num : Name → ℕ) {k : akl.Kind} {χ : Ctx k} {n : Node k} {Z W : List Word} {g : ℕ} → Stands num χ n Z W g → locals_at W g ≡ locals n
unfolding locals_at locals_in
locals_are num {k} {χ} {n} s = ap (locals_in false) (goal_words num s) ∙ node_locals num n false [] ∙ append-nil (locals n)
