-- The machine takes the words of configurations whose statements pass, and of definitions that pass.
use mathlib.Core.Path.{◌≡◌, refl, ap, ◌∙◌, subst, sym}
use mathlib.Core.List.{List, [], ◌∷◌, map}
use mathlib.Core.Bool.{Bool, true, false, ◌||◌}
use Prim.Native.Nat.{ℕ, suc, ◌≤◌, ◌<◌}
use native.Mathlib.Omega.{arith}
use lib.Dec.{T, leb, leb→le}
use Rattle.constraint.specs.Constraint.{ctrue, cfail, ceq, capp, Store}
use Rattle.constraint.proofs.Lists.{and_T}
use Rattle.akl.specs.Base.{Name, all, size}
use Rattle.akl.specs.Limits.{most_arguments, most_depth}
use Rattle.akl.specs.Syntax.{number, Op, wait, cond, commit, Stmt, Program}
use Rattle.akl.specs.Configuration as akl
use Rattle.akl.specs.Configuration.{goal, member, guarded, Node, or, and, stmt, choice_box, guard, Nodes, nil, cons}
use Rattle.akl.specs.WellFormed.{spelled_name, spelled_digits, spelled_predicate, variable_fits, stored_fits, statement_fits, statement_passes, definition_passes, depth, statements_pass, statements_pass_all}
use Rattle.mem_words.specs.declared.Word.{Word}
use Rattle.mem_words.specs.declared.Word.TheVariants.{End, Num, Place, Inner}
use Rattle.mem_words.specs.Form.{AllSmall}
use Rattle.mem_sorts.specs.declared.Kind.{Kind}
use Rattle.mem_sorts.specs.declared.Sort.TheVariants as s
use Rattle.layout.specs.Layout.{con_words, stmt_words, program_words}
use Rattle.store_words.specs.Boxes.{box_kind, local_words, store_words, node_words, nodes_words}
use Rattle.check_shapes.specs.declared.Frame.{Frame}
use Rattle.check_shapes.specs.declared.Frame.TheVariants.{Close, One, Head, Arity, Body, Root, Done, Goals, AndStore, Members, Locals, Constraints, Guards, Guard}
use Rattle.check_shapes.specs.declared.Move.{Move}
use Rattle.check_shapes.specs.declared.Move.TheVariants.{Stay}
use Rattle.check_shapes.specs.Machine.{on_place, begun_goal, begun_member, begun_guarded, act, run}
use Rattle.check_meaning.proofs.Moves.{and3}
use Rattle.check_meaning.proofs.Complete.{Found, start, run_one, tested, vars_small, eq_complete, app_complete, stmt_complete}

module _ (num : Name → ℕ) (P : Program) (con pred : ℕ → Bool) (def : ℕ → ℕ → Bool) (K : Found num P con def) where
  -- ---------------------------------------------------------------------------------------------
  -- Definitions.

  run_body : (ws : List Word) (n : ℕ) (st : List Frame) → run con pred def false ws (Body n) st ≡ start num P con pred def false K ws n most_depth Head st
  unfolding run
  run_body [] n [] = refl
  run_body [] n (y ∷ st) = refl
  run_body (w ∷ l) n st = refl

  pub program_complete : ((p : Name) → num p < 65536 → T (spelled_predicate p) → T (pred (num p))) → (Q : Program) → T (all (definition_passes P) Q) → AllSmall (program_words num Q) → run con pred def false (program_words num Q) Head [] ≡ true
  unfolding run program_words all definition_passes statement_passes
  program_complete pd [] t s = refl
  program_complete pd (d ∷ ds) t s =
      let q = (and_T (definition_passes P d) (all (definition_passes P) ds)).0 t in
      let o = (and3 (spelled_predicate d.name) (leb d.arity most_arguments) (statement_passes P (λ x. false) d.arity d.body)).0 q.0 in
      let i = (and_T (statement_fits d.body P (λ x. false) d.arity) (leb (depth d.body) most_depth)).0 o.2 in
      let w = stmt_words num d.body (program_words num ds) in
      let a = leb→le d.arity most_arguments o.1 in
      let v = stmt_complete num P con pred def false K d.body d.arity most_depth Head [] (program_words num ds) i.0 (leb→le (depth d.body) most_depth i.1) (omega (arith, a)) s.1.1 in
      tested num P con pred def false K (pred (num d.name)) (Stay Arity) (Num d.arity ∷ w) [] (pd d.name s.0.value o.0)
      ∙ tested num P con pred def false K (leb d.arity most_arguments) (Stay (Body d.arity)) w [] o.1
      ∙ run_body w d.arity []
      ∙ v.0
      ∙ program_complete pd ds q.1 v.1

  -- ---------------------------------------------------------------------------------------------
  -- Locals and stores.

  locals_complete : (vs : List ℕ) (r : List Word) (x : Frame) (st : List Frame) → AllSmall (local_words vs (End ∷ r)) → (run con pred def true (local_words vs (End ∷ r)) Locals (x ∷ st) ≡ run con pred def true r x st) × AllSmall r
  unfolding run local_words
  locals_complete [] r x st h = (refl, h.1)
  locals_complete (v ∷ vs) r x st h = locals_complete vs r x st h.1

  numbers_fit : (ys : List ℕ) → T (all (variable_fits (λ x. true) 0) (map number ys))
  unfolding all
  numbers_fit [] = tt
  numbers_fit (y ∷ ys) = numbers_fit ys

  size_map : (ys : List ℕ) → size (map number ys) ≡ size ys
  unfolding size
  size_map [] = refl
  size_map (y ∷ ys) = ap suc (size_map ys)

  store_complete : (σ : Store) (r : List Word) (x : Frame) (st : List Frame) → T (all stored_fits σ) → AllSmall (store_words num σ (End ∷ r)) → (run con pred def true (store_words num σ (End ∷ r)) Constraints (x ∷ st) ≡ run con pred def true r x st) × AllSmall r
  unfolding run store_words con_words all
  store_complete [] r x st t h = (refl, h.1)
  store_complete (ctrue ∷ σ) r x st t h = absurd t
  store_complete (cfail ∷ σ) r x st t h = store_complete σ r x st t h.1.1
  store_complete (ceq a b ∷ σ) r x st t h =
      let k = store_complete σ r x st t h.1.1.1.1 in
      (eq_complete num P con pred def true K (number a) (number b) 0 (store_words num σ (End ∷ r)) Constraints (x ∷ st) tt tt ∙ k.0, k.1)
  store_complete (capp a g ys ∷ σ) r x st t h =
      let q = (and3 (leb (size ys) most_arguments) (spelled_name g || spelled_digits g) (all stored_fits σ)).0 t in
      let k = store_complete σ r x st q.2 (vars_small num P con pred def true K (map number ys) (End ∷ store_words num σ (End ∷ r)) h.1.1.1).1 in
      let m : size (map number ys) ≤ most_arguments = subst (λ (z : ℕ). z ≤ most_arguments) (sym (size_map ys)) (leb→le (size ys) most_arguments q.0) in
      (app_complete num P con pred def true K (number a) g (map number ys) 0 (store_words num σ (End ∷ r)) Constraints (x ∷ st) tt (numbers_fit ys) m q.1 h.1.1.0.value ∙ k.0, k.1)

  -- ---------------------------------------------------------------------------------------------
  -- Boxes: nodes of a kind stand in one frame, and leave it behind them; a goal may stand as a guard too, and leave the body.

  abbrev frame_of : akl.Kind → Frame
  frame_of goal = Goals
  frame_of member = Members
  frame_of guarded = Guards

  abbrev behind : akl.Kind → Frame → Frame
  behind goal z = z
  behind member z = Members
  behind guarded z = Guards

  abbrev begun_node : akl.Kind → Kind → Frame → Move
  begun_node goal k z = begun_goal k z
  begun_node member k z = begun_member k
  begun_node guarded k z = begun_guarded k

  abbrev start_node : akl.Kind → List Word → Frame → List Frame → Bool
  start_node k [] z st = false
  start_node k (w ∷ l) z st = act (on_place w (λ j. begun_node k j z)) (run con pred def true l) st

  run_guard : (ws : List Word) (st : List Frame) → run con pred def true ws Guard st ≡ start_node goal ws (One 0 most_depth) st
  unfolding run
  run_guard [] [] = refl
  run_guard [] (y ∷ st) = refl
  run_guard (w ∷ l) st = refl

  run_node : {k : akl.Kind} (n : Node k) (r : List Word) (st : List Frame) → run con pred def true (node_words num n r) (frame_of k) st ≡ start_node k (node_words num n r) (frame_of k) st
  unfolding run node_words box_kind
  run_node (or ns) r st = refl
  run_node (and vs σ ms) r st = refl
  run_node (stmt a) r st = refl
  run_node (choice_box wait gs) r st = refl
  run_node (choice_box cond gs) r st = refl
  run_node (choice_box commit gs) r st = refl
  run_node (guard g b) r st = refl

  box_start : (op : Op) (l : List Word) (z : Frame) (st : List Frame) → start_node member (Place (box_kind op) ∷ l) z st ≡ run con pred def true l Guards (Members ∷ st)
  unfolding box_kind
  box_start wait l z st = refl
  box_start cond l z st = refl
  box_start commit l z st = refl

  stays : (k : akl.Kind) → behind k (frame_of k) ≡ frame_of k
  stays goal = refl
  stays member = refl
  stays guarded = refl

  closes : (k : akl.Kind) (x : Frame) (st : List Frame) (r : List Word) → run con pred def true (End ∷ r) (frame_of k) (x ∷ st) ≡ run con pred def true r x st
  unfolding run
  closes goal x st r = refl
  closes member x st r = refl
  closes guarded x st r = refl

  one_complete : (a : Stmt) (x : Frame) (st : List Frame) (r : List Word) → T (statement_passes P (λ x. true) 0 a) → AllSmall (stmt_words num a (End ∷ r)) → (run con pred def true (stmt_words num a (End ∷ r)) (One 0 most_depth) (x ∷ st) ≡ run con pred def true r x st) × AllSmall r
  unfolding run statement_passes
  one_complete a x st r t h =
      let q = (and_T (statement_fits a P (λ x. true) 0) (leb (depth a) most_depth)).0 t in
      let v = stmt_complete num P con pred def true K a 0 most_depth Close (x ∷ st) (End ∷ r) q.0 (leb→le (depth a) most_depth q.1) (omega arith) h in
      (run_one num P con pred def true K (stmt_words num a (End ∷ r)) 0 most_depth (x ∷ st) ∙ v.0, v.1.1)

  mutual
    unfolding run node_words statements_pass

    node_complete : {k : akl.Kind} (n : Node k) (z : Frame) (st : List Frame) (r : List Word) → T (statements_pass n P) → AllSmall (node_words num n r) → (start_node k (node_words num n r) z st ≡ run con pred def true r (behind k z) st) × AllSmall r
    node_complete (or ns) z st r t h = nodes_complete ns z st r t h.1
    node_complete (and vs σ ms) z st r t h =
        let q = (and_T (all stored_fits σ) (statements_pass_all ms P)).0 t in
        let u = nodes_words num ms (End ∷ r) in
        let a = locals_complete vs (Inner s.Store ∷ store_words num σ (End ∷ u)) AndStore (z ∷ st) h.1.1 in
        let b = store_complete σ u Members (z ∷ st) q.0 a.1.1 in
        let c = nodes_complete ms z st r q.1 b.1 in
        (a.0 ∙ b.0 ∙ c.0, c.1)
    node_complete (stmt a) z st r t h = one_complete a Members st r t h.1
    node_complete (choice_box op gs) z st r t h = let c = nodes_complete gs Members st r t h.1 in (box_start op (nodes_words num gs (End ∷ r)) z st ∙ c.0, c.1)
    node_complete (guard g b) z st r t h =
        let q = (and_T (statements_pass g P) (statement_passes P (λ x. true) 0 b)).0 t in
        let a = node_complete g (One 0 most_depth) (Guards ∷ st) (stmt_words num b (End ∷ r)) q.0 h.1 in
        let c = one_complete b Guards st r q.1 a.1 in
        (run_guard (node_words num g (stmt_words num b (End ∷ r))) (Guards ∷ st) ∙ a.0 ∙ c.0, c.1)

    nodes_complete : {k : akl.Kind} (ns : Nodes k) (x : Frame) (st : List Frame) (r : List Word) → T (statements_pass_all ns P) → AllSmall (nodes_words num ns (End ∷ r)) → (run con pred def true (nodes_words num ns (End ∷ r)) (frame_of k) (x ∷ st) ≡ run con pred def true r x st) × AllSmall r
    nodes_complete {k} nil x st r t h = (closes k x st r, h.1)
    nodes_complete {k} (cons n ns) x st r t h =
        let q = (and_T (statements_pass n P) (statements_pass_all ns P)).0 t in
        let u = nodes_words num ns (End ∷ r) in
        let a = node_complete n (frame_of k) (x ∷ st) u q.0 h in
        let c = nodes_complete ns x st r q.1 a.1 in
        (run_node n u (x ∷ st) ∙ a.0 ∙ ap (λ (y : Frame). run con pred def true u y (x ∷ st)) (stays k) ∙ c.0, c.1)

  pub config_complete : (ns : Nodes goal) → T (statements_pass (or ns) P) → AllSmall (node_words num (or ns) []) → run con pred def true (node_words num (or ns) []) Root [] ≡ true
  unfolding run node_words statements_pass
  config_complete ns t h = (nodes_complete ns Done [] [] t h.1).0
