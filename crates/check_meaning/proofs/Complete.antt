-- The machine takes the words of statements that fit, whatever stands around them and behind them.
use mathlib.Core.Path.{◌≡◌, refl, ap, ◌∙◌, subst}
use mathlib.Core.List.{List, [], ◌∷◌}
use mathlib.Core.Bool.{Bool, true, false, ◌&&◌, ◌||◌}
use Prim.Native.Nat.{ℕ, ◌+◌, ◌-◌, ◌*◌, ◌≤◌, ◌<◌}
use native.Mathlib.Omega.{arith}
use lib.Dec.{T, leb, ltb, leb→le, le→leb, lt→ltb}
use Rattle.constraint.specs.Constraint.{Con, ctrue, cfail, ceq, capp}
use Rattle.constraint.proofs.Lists.{and_T}
use Rattle.akl.specs.Base.{Name, if, all, size, is_some}
use Rattle.akl.specs.Limits.{most_arguments}
use Rattle.akl.specs.Syntax.{Var, number, level, Op, wait, cond, commit, Stmt, atom, call, comp, hide, choice, Clauses, no_more, clause, Program, defined}
use Rattle.akl.specs.WellFormed.{spelled_name, spelled_digits, variable_fits, constraint_fits, statement_fits, clauses_fit, some_clause, is_comp, bracketed, depth, clauses_depth}
use Rattle.mem_words.specs.declared.Word.{Word}
use Rattle.mem_words.specs.declared.Word.TheVariants.{End, Num, Inner}
use Rattle.mem_words.specs.Form.{AllSmall}
use Rattle.layout.specs.Layout.{var_word, vars_words, ask, con_words, stmt_words, clauses_words}
use Rattle.check_shapes.specs.declared.Frame.{Frame}
use Rattle.check_shapes.specs.declared.Frame.TheVariants as f
use Rattle.check_shapes.specs.declared.Frame.TheVariants.{Close, Var2, Var1, AppVar, AppNum, Args, CallArgs, One, Comp2, Clause2, HideNum, Clauses1}
use Rattle.check_shapes.specs.declared.Move.{Move}
use Rattle.check_shapes.specs.declared.Move.TheVariants.{Stop, Stay, Push, Pop}
use Rattle.check_shapes.specs.Machine.{is_var, on_inner, begun, begun_left, most_levels, act, run}
use Rattle.check_meaning.proofs.Moves.{and3, and4}

-- numbers of names that have two bytes pass where the names do
pub record Found (num : Name → ℕ) (P : Program) (con : ℕ → Bool) (def : ℕ → ℕ → Bool) : Type 0 where
  pub constructors : (g : Name) → num g < 65536 → T (spelled_name g || spelled_digits g) → T (con (num g))
  pub definitions : (p : Name) (k : ℕ) → num p < 65536 → T (is_some (defined P p k)) → T (def (num p) k)

-- with so many variables around and so much depth left, the bound on levels is never met
abbrev pub Levels : ℕ → ℕ → Type 0
Levels n d = n + 65535 * d < most_levels

taken : (b : Bool) (m u : Move) → T b → if b m u ≡ m
taken true m u t = refl
taken false m u t = absurd t

bracket_more : (b : Bool) (d : ℕ) → d ≤ bracketed b d
bracket_more true d = omega arith
bracket_more false d = omega arith

module _ (num : Name → ℕ) (P : Program) (con pred : ℕ → Bool) (def : ℕ → ℕ → Bool) (free : Bool) (K : Found num P con def) where
  -- a statement begins, x being left behind it
  abbrev pub start : List Word → ℕ → ℕ → Frame → List Frame → Bool
  start [] n d x st = false
  start (w ∷ l) n d x st = act (on_inner w (λ s. begun s n d x)) (run con pred def free l) st

  abbrev start_left : List Word → ℕ → ℕ → Frame → List Frame → Bool
  start_left [] n d x st = false
  start_left (w ∷ l) n d x st = act (on_inner w (λ s. begun_left s n d x)) (run con pred def free l) st

  pub run_one : (ws : List Word) (n d : ℕ) (st : List Frame) → run con pred def free ws (One n d) st ≡ start ws n d Close st
  unfolding run
  run_one [] n d [] = refl
  run_one [] n d (y ∷ st) = refl
  run_one (w ∷ l) n d st = refl

  run_comp : (ws : List Word) (n d : ℕ) (st : List Frame) → run con pred def free ws (Comp2 n d) st ≡ start_left ws n d (One n d) st
  unfolding run
  run_comp [] n d [] = refl
  run_comp [] n d (y ∷ st) = refl
  run_comp (w ∷ l) n d st = refl

  run_clause : (ws : List Word) (n d : ℕ) (st : List Frame) → run con pred def free ws (Clause2 n d) st ≡ start ws n d (One n d) st
  unfolding run
  run_clause [] n d [] = refl
  run_clause [] n d (y ∷ st) = refl
  run_clause (w ∷ l) n d st = refl

  -- a test that is passed
  pub tested : (b : Bool) (m : Move) (l : List Word) (st : List Frame) → T b → act (if b m Stop) (run con pred def free l) st ≡ act m (run con pred def free l) st
  tested b m l st t = ap (λ (u : Move). act u (run con pred def free l) st) (taken b m Stop t)

  -- ---------------------------------------------------------------------------------------------
  -- Variables.

  var_fits : (v : Var) (n : ℕ) → T (variable_fits (λ x. free) n v) → T (is_var free n (var_word v))
  unfolding var_word
  var_fits (number x) n t = t
  var_fits (level l) n t = t

  pub vars_small : (xs : List Var) (r : List Word) → AllSmall (vars_words xs r) → AllSmall r
  unfolding vars_words
  vars_small [] r h = h
  vars_small (x ∷ xs) r h = vars_small xs r h.1

  pub args_complete : (ys : List Var) (n k : ℕ) (r : List Word) (x : Frame) (st : List Frame) → T (all (variable_fits (λ x. free) n) ys) → size ys ≤ k → run con pred def free (vars_words ys (End ∷ r)) (Args n k) (x ∷ st) ≡ run con pred def free r x st
  unfolding run vars_words var_word all size
  args_complete [] n k r x st t h = refl
  args_complete (number v ∷ ys) n k r x st t h =
      let q = (and_T free (all (variable_fits (λ x. free) n) ys)).0 t in
      tested (free && leb 1 k) (Stay (Args n (k - 1))) (vars_words ys (End ∷ r)) (x ∷ st) ((and_T free (leb 1 k)).1 (q.0, le→leb 1 k (omega arith))) ∙ args_complete ys n (k - 1) r x st q.1 (omega arith)
  args_complete (level v ∷ ys) n k r x st t h =
      let q = (and_T (ltb v n) (all (variable_fits (λ x. free) n) ys)).0 t in
      tested (ltb v n && leb 1 k) (Stay (Args n (k - 1))) (vars_words ys (End ∷ r)) (x ∷ st) ((and_T (ltb v n) (leb 1 k)).1 (q.0, le→leb 1 k (omega arith))) ∙ args_complete ys n (k - 1) r x st q.1 (omega arith)

  call_complete : (xs : List Var) (n p k j : ℕ) (r : List Word) (x : Frame) (st : List Frame) → T (all (variable_fits (λ x. free) n) xs) → k + size xs ≡ j → j ≤ most_arguments → T (def p j) → run con pred def free (vars_words xs (End ∷ r)) (CallArgs n p k) (x ∷ st) ≡ run con pred def free r x st
  unfolding run vars_words var_word all size
  call_complete [] n p k j r x st t e h d =
      let z : j ≡ k = omega (arith, e) in
      tested (def p k) Pop r (x ∷ st) (subst (λ (i : ℕ). T (def p i)) z d)
  call_complete (number v ∷ xs) n p k j r x st t e h d =
      let q = (and_T free (all (variable_fits (λ x. free) n) xs)).0 t in
      let z : k + 1 + size xs ≡ j = omega (arith, e) in
      tested (free && ltb k most_arguments) (Stay (CallArgs n p (k + 1))) (vars_words xs (End ∷ r)) (x ∷ st) ((and_T free (ltb k most_arguments)).1 (q.0, lt→ltb k most_arguments (omega (arith, e)))) ∙ call_complete xs n p (k + 1) j r x st q.1 z h d
  call_complete (level v ∷ xs) n p k j r x st t e h d =
      let q = (and_T (ltb v n) (all (variable_fits (λ x. free) n) xs)).0 t in
      let z : k + 1 + size xs ≡ j = omega (arith, e) in
      tested (ltb v n && ltb k most_arguments) (Stay (CallArgs n p (k + 1))) (vars_words xs (End ∷ r)) (x ∷ st) ((and_T (ltb v n) (ltb k most_arguments)).1 (q.0, lt→ltb k most_arguments (omega (arith, e)))) ∙ call_complete xs n p (k + 1) j r x st q.1 z h d

  -- ---------------------------------------------------------------------------------------------
  -- Constraints, behind the word that opens them.

  pub eq_complete : (u v : Var) (n : ℕ) (r : List Word) (x : Frame) (st : List Frame) → T (variable_fits (λ x. free) n u) → T (variable_fits (λ x. free) n v) → run con pred def free (var_word u ∷ var_word v ∷ End ∷ r) (Var2 n) (x ∷ st) ≡ run con pred def free r x st
  unfolding run
  eq_complete u v n r x st a b =
      tested (is_var free n (var_word u)) (Stay (Var1 n)) (var_word v ∷ End ∷ r) (x ∷ st) (var_fits u n a)
      ∙ tested (is_var free n (var_word v)) (Stay Close) (End ∷ r) (x ∷ st) (var_fits v n b)

  pub app_complete : (u : Var) (g : Name) (ys : List Var) (n : ℕ) (r : List Word) (x : Frame) (st : List Frame) → T (variable_fits (λ x. free) n u) → T (all (variable_fits (λ x. free) n) ys) → size ys ≤ most_arguments → T (spelled_name g || spelled_digits g) → num g < 65536 → run con pred def free (var_word u ∷ Num (num g) ∷ vars_words ys (End ∷ r)) (AppVar n) (x ∷ st) ≡ run con pred def free r x st
  unfolding run
  app_complete u g ys n r x st a b c e m =
      tested (is_var free n (var_word u)) (Stay (AppNum n)) (Num (num g) ∷ vars_words ys (End ∷ r)) (x ∷ st) (var_fits u n a)
      ∙ tested (con (num g)) (Stay (Args n most_arguments)) (vars_words ys (End ∷ r)) (x ∷ st) (K.constructors g m e)
      ∙ args_complete ys n most_arguments r x st b c

  con_complete : (c : Con Var) (n d : ℕ) (x : Frame) (st : List Frame) (r : List Word) → T (constraint_fits (λ x. free) n c) → AllSmall (con_words num c r) → (start (con_words num c r) n d x st ≡ run con pred def free r x st) × AllSmall r
  unfolding con_words run
  con_complete ctrue n d x st r t h = (refl, h.1.1)
  con_complete cfail n d x st r t h = (refl, h.1.1)
  con_complete (ceq u v) n d x st r t h = let q = (and_T (variable_fits (λ x. free) n u) (variable_fits (λ x. free) n v)).0 t in (eq_complete u v n r x st q.0 q.1, h.1.1.1.1)
  con_complete (capp u g ys) n d x st r t h =
      let q = (and4 (variable_fits (λ x. free) n u) (all (variable_fits (λ x. free) n) ys) (leb (size ys) most_arguments) (spelled_name g || spelled_digits g)).0 t in
      (app_complete u g ys n r x st q.0 q.1 (leb→le (size ys) most_arguments q.2) q.3 h.1.1.0.value, (vars_small ys (End ∷ r) h.1.1.1).1)

  -- ---------------------------------------------------------------------------------------------
  -- Statements.

  -- on the left of a composition: what is no composition begins as anywhere, a composition one deeper
  left_complete : (a : Stmt) (n d : ℕ) (x : Frame) (st : List Frame) (r : List Word) → bracketed (is_comp a) (depth a) ≤ d → Levels n d → ((e : ℕ) → depth a ≤ e → Levels n e → start (stmt_words num a r) n e x st ≡ run con pred def free r x st) → start_left (stmt_words num a r) n d x st ≡ run con pred def free r x st
  unfolding stmt_words con_words ask
  left_complete (atom ctrue) n d x st r b h k = k d b h
  left_complete (atom cfail) n d x st r b h k = k d b h
  left_complete (atom (ceq u v)) n d x st r b h k = k d b h
  left_complete (atom (capp u g ys)) n d x st r b h k = k d b h
  left_complete (call p xs) n d x st r b h k = k d b h
  left_complete (comp a c) n d x st r b h k = tested (leb 1 d) (Push (Comp2 n (d - 1)) x) (stmt_words num a (stmt_words num c (End ∷ r))) st (le→leb 1 d (omega arith)) ∙ k (d - 1) (omega arith) (omega (arith, h))
  left_complete (hide m a) n d x st r b h k = k d b h
  left_complete (choice wait cs) n d x st r b h k = k d b h
  left_complete (choice cond cs) n d x st r b h k = k d b h
  left_complete (choice commit cs) n d x st r b h k = k d b h

  -- a choice, one deeper
  ask_complete : (op : Op) (l : List Word) (n d : ℕ) (x : Frame) (st : List Frame) → 1 ≤ d → start (Inner (ask op) ∷ l) n d x st ≡ run con pred def free l (Clauses1 n (d - 1)) (x ∷ st)
  unfolding ask
  ask_complete wait l n d x st h = tested (leb 1 d) (Push (Clauses1 n (d - 1)) x) l st (le→leb 1 d h)
  ask_complete cond l n d x st h = tested (leb 1 d) (Push (Clauses1 n (d - 1)) x) l st (le→leb 1 d h)
  ask_complete commit l n d x st h = tested (leb 1 d) (Push (Clauses1 n (d - 1)) x) l st (le→leb 1 d h)

  -- where there is a clause, one or more may stand as well as none or more
  first_clause : (cs : Clauses) (n d : ℕ) (r : List Word) (st : List Frame) → T (some_clause cs) → run con pred def free (clauses_words num cs (End ∷ r)) (Clauses1 n d) st ≡ run con pred def free (clauses_words num cs (End ∷ r)) (f.Clauses n d) st
  unfolding clauses_words run some_clause
  first_clause no_more n d r st t = absurd t
  first_clause (clause m g b cs) n d r st t = refl

  mutual
    unfolding stmt_words clauses_words statement_fits clauses_fit depth clauses_depth run

    pub stmt_complete : (a : Stmt) (n d : ℕ) (x : Frame) (st : List Frame) (r : List Word) → T (statement_fits a P (λ x. free) n) → depth a ≤ d → Levels n d → AllSmall (stmt_words num a r) → (start (stmt_words num a r) n d x st ≡ run con pred def free r x st) × AllSmall r
    stmt_complete (atom c) n d x st r t b h s = con_complete c n d x st r t s
    stmt_complete (call p xs) n d x st r t b h s =
        let q = (and3 (all (variable_fits (λ x. free) n) xs) (leb (size xs) most_arguments) (is_some (defined P p (size xs)))).0 t in
        let z : 0 + size xs ≡ size xs = omega arith in
        (call_complete xs n (num p) 0 (size xs) r x st q.0 z (leb→le (size xs) most_arguments q.1) (K.definitions p (size xs) s.1.0.value q.2), (vars_small xs (End ∷ r) s.1.1).1)
    stmt_complete (comp a c) n d x st r t b h s =
        let q = (and_T (statement_fits a P (λ x. free) n) (statement_fits c P (λ x. free) n)).0 t in
        let w = stmt_words num c (End ∷ r) in
        let u = stmt_complete a n d (One n d) (x ∷ st) w q.0 (omega (arith, bracket_more (is_comp a) (depth a))) h s.1 in
        let v = stmt_complete c n d Close (x ∷ st) (End ∷ r) q.1 (omega arith) h u.1 in (
          run_comp (stmt_words num a w) n d (x ∷ st)
              ∙ left_complete a n d (One n d) (x ∷ st) w (omega arith) h (λ e i j. (stmt_complete a n e (One n d) (x ∷ st) w q.0 i j s.1).0)
              ∙ run_one w n d (x ∷ st)
              ∙ v.0,
          v.1.1,
        )
    stmt_complete (hide m a) n d x st r t b h s =
        let q = (and_T (leb 1 m) (statement_fits a P (λ x. free) (n + m))).0 t in
        let w = stmt_words num a (End ∷ r) in
        let c : m < 65536 = s.1.0.value in
        let v = stmt_complete a (n + m) (d - 1) Close (x ∷ st) (End ∷ r) q.1 (omega arith) (omega (arith, h, c)) s.1.1 in (
          tested (leb 1 d) (Push (HideNum n (d - 1)) x) (Num m ∷ w) st (le→leb 1 d (omega arith))
              ∙ tested (leb 1 m && ltb (n + m) most_levels) (Stay (One (n + m) (d - 1))) w (x ∷ st) ((and_T (leb 1 m) (ltb (n + m) most_levels)).1 (q.0, lt→ltb (n + m) most_levels (omega (arith, h, c))))
              ∙ run_one w (n + m) (d - 1) (x ∷ st)
              ∙ v.0,
          v.1.1,
        )
    stmt_complete (choice op cs) n d x st r t b h s =
        let q = (and_T (some_clause cs) (clauses_fit cs P (λ x. free) n)).0 t in
        let v = clauses_complete cs n (d - 1) x st r q.1 (omega arith) (omega (arith, h)) s.1 in
        (ask_complete op (clauses_words num cs (End ∷ r)) n d x st (omega arith) ∙ first_clause cs n (d - 1) r (x ∷ st) q.0 ∙ v.0, v.1)

    pub clauses_complete : (cs : Clauses) (n d : ℕ) (x : Frame) (st : List Frame) (r : List Word) → T (clauses_fit cs P (λ x. free) n) → clauses_depth cs ≤ d → n + 65535 * (d + 1) < most_levels → AllSmall (clauses_words num cs (End ∷ r)) → (run con pred def free (clauses_words num cs (End ∷ r)) (f.Clauses n d) (x ∷ st) ≡ run con pred def free r x st) × AllSmall r
    clauses_complete no_more n d x st r t b h s = (refl, s.1)
    clauses_complete (clause m g a cs) n d x st r t b h s =
        let q = (and3 (statement_fits g P (λ x. free) (n + m)) (statement_fits a P (λ x. free) (n + m)) (clauses_fit cs P (λ x. free) n)).0 t in
        let c : m < 65536 = s.1.0.value in
        let u = clauses_words num cs (End ∷ r) in
        let w = stmt_words num a (End ∷ u) in
        let st2 = f.Clauses n d ∷ x ∷ st in
        let i = stmt_complete g (n + m) d (One (n + m) d) st2 w q.0 (omega arith) (omega (arith, h, c)) s.1.1 in
        let j = stmt_complete a (n + m) d Close st2 (End ∷ u) q.1 (omega arith) (omega (arith, h, c)) i.1 in
        let k = clauses_complete cs n d x st r q.2 (omega arith) h j.1.1 in (
          tested (ltb (n + m) most_levels) (Stay (Clause2 (n + m) d)) (stmt_words num g w) st2 (lt→ltb (n + m) most_levels (omega (arith, h, c)))
              ∙ run_clause (stmt_words num g w) (n + m) d st2
              ∙ i.0
              ∙ run_one w (n + m) d st2
              ∙ j.0
              ∙ k.0,
          k.1,
        )
