-- Every transition keeps its goal as it may stand, its statements passing, and the query's locals in place.
use mathlib.Core.Path.{◌≡◌, refl, ap, sym, ◌∙◌, subst}
use mathlib.Core.Logic.{◌↔◌, ◌⊎◌, inl, inr}
use mathlib.Core.List.{List, [], ◌∷◌, ◌++◌, map}
use mathlib.Core.Bool.{Bool, true, false, ◌&&◌, ◌||◌}
use mathlib.Core.Option.{some}
use Prim.Native.Nat.{ℕ, zero, suc, ◌+◌, ◌≤◌}
use native.Mathlib.Omega.{arith}
use lib.Dec.{T, leb}
use Rattle.constraint.specs.Constraint.{Con, ctrue, cfail, ceq, capp, Store, In}
use Rattle.constraint.proofs.Lists.{and_T, In-append}
use Rattle.akl.specs.Base.{is_some, Name, size, all, range}
use Rattle.akl.specs.Syntax.{Var, number, level, Op, Stmt, atom, call, comp, hide, choice, Clauses, no_more, clause, Program, opened}
use Rattle.akl.specs.Configuration.{Kind, goal, member, guarded, Node, or, and, stmt, choice_box, guard, Nodes, nil, cons, ◌+n◌, one, failure, Ctx}
use Rattle.akl.specs.Places.{Place}
use Rattle.akl.specs.Rules.{stored, number_of, fresh, guarded_goals, hidden_in}
use Rattle.akl.specs.Stability.{locals, locals_all}
use Rattle.akl.specs.WellFormed.{variable_fits, few, constraint_fits, stored_fits, spelled_name, spelled_digits, statement_fits, statement_passes, program_passes, statements_pass}
use Rattle.theory.specs.Scope.{Sub, scope}
use Rattle.theory.specs.Transition.{Transition, constraint_atom, program_atom, composition, hiding, choosing, promotion, condition, committing, environment_failure, goal_failure, guard_failure, splitting, distribution, flattening}
use Rattle.theory.specs.Formed.{High, QueryLocal, QueryLocalAll}
use Rattle.theory.proofs.Lists.{locals_In}
use Rattle.theory.proofs.Locals.{size_map}
use Rattle.theory.proofs.Keeping.{Keeps}
use Rattle.theory.proofs.RuleKeeps.{keep_1, keep_2, keep_3, keep_4, keep_5, keep_6, keep_7, keep_8, keep_11, keep_failure, keep_12, keep_13, keep_14}
use Rattle.theory.proofs.Closed.{any_number, ClosedCon, ClosedList, list_number}
use Rattle.theory.proofs.Passing.{Passes, passes_iff, pass_opened, pass_fresh, pass_comp, pass_hide, PassClauses, pass_choice, body_passes, body_no_numbers}
use Rattle.theory.proofs.InContext.{Pass, PassAll, pass_cons, pass_append, pass_mid, pass_and, pass_guard, query_append}

-- ---------------------------------------------------------------------------------------------
-- What passing says of atoms and calls.

module _ (P : Program) where
  pub closed_atom : (c : Con Var) → Passes P any_number 0 (atom c) → ClosedCon c
  unfolding statement_fits
  closed_atom c h = ((passes_iff P any_number 0 (atom c)).0 h).0

  pub closed_call : (p : Name) (xs : List Var) → Passes P any_number 0 (call p xs) → ClosedList xs
  unfolding statement_fits
  closed_call p xs h = ((and_T (all (variable_fits any_number 0) xs) (few xs)).0 ((and_T (all (variable_fits any_number 0) xs && few xs) (is_some (Rattle.akl.specs.Syntax.defined P p (size xs)))).0 ((passes_iff P any_number 0 (call p xs)).0 h).0).0).0

  -- a member of an and-box that is a statement
  pub pass_member : (vs : List ℕ) (σ : Store) (l r : Nodes member) (s : Stmt) → Pass P (and vs σ (l +n cons (stmt s) r)) → T (all stored_fits σ) × PassAll P l × Passes P any_number 0 s × PassAll P r
  unfolding statements_pass
  pass_member vs σ l r s h =
      let a = (pass_and P vs σ (l +n cons (stmt s) r)).0 h in
      let k = (pass_mid P l r (stmt s)).0 a.1 in
      (a.0, k.0, k.1, k.2)

-- ---------------------------------------------------------------------------------------------
-- Scopes.

module _ (P : Program) (good : T (program_passes P)) (N : ℕ) where
  pub transition_keeps : {r : ℕ} {pl : Place} {k : Kind} {χ : Ctx k} {n n' : Node k} {N' : ℕ} → Transition P N r pl k χ n n' N' → Pass P n → Keeps N N' (scope χ) n n'
  unfolding statements_pass
  transition_keeps (constraint_atom χ vs σ l r c) h = keep_1 N (scope χ) vs σ l r c (closed_atom P c (pass_member P vs σ l r (atom c) h).2)
  transition_keeps (program_atom χ p xs b e) h = keep_2 N (scope χ) p xs b (body_no_numbers P good p (size xs) b e)
  transition_keeps (composition χ vs σ l r a b) h = keep_3 N (scope χ) vs σ l r a b
  transition_keeps (hiding χ vs σ l r n a) h = keep_4 N (scope χ) vs σ l r n a
  transition_keeps (choosing χ op cs) h = keep_5 N (scope χ) op cs
  transition_keeps (promotion χ ws θ l r op vs σ b q) h = keep_6 N (scope χ) ws θ l r op vs σ b
  transition_keeps (condition χ l r vs σ b q s) h = keep_7 N (scope χ) Op.cond l r (guard (and vs σ nil) b)
  transition_keeps (committing χ l r vs σ b q s) h = keep_8 N (scope χ) Op.commit l r (guard (and vs σ nil) b)
  transition_keeps (environment_failure χ vs σ ms u) h = keep_failure N (scope χ) (and vs σ ms)
  transition_keeps (goal_failure χ vs σ l r op) h = keep_failure N (scope χ) (and vs σ (l +n cons (choice_box op nil) r))
  transition_keeps (guard_failure χ op l r b) h = keep_11 N (scope χ) op l r (guard failure b)
  transition_keeps (splitting χ vs σ l r us τ b t ts) h = keep_12 N (scope χ) vs σ l r Op.wait (guard (and us τ nil) b) (cons t ts)
  transition_keeps (distribution χ op l r g gs b) h = keep_13 N (scope χ) op l r g gs b
  transition_keeps (flattening χ l r ns) h = keep_14 N (scope χ) l r ns

  -- numbers are never given back
  pub transition_more : {r : ℕ} {pl : Place} {k : Kind} {χ : Ctx k} {n n' : Node k} {N' : ℕ} → Transition P N r pl k χ n n' N' → N ≤ N'
  transition_more (constraint_atom χ vs σ l r c) = omega arith
  transition_more (program_atom χ p xs b e) = omega arith
  transition_more (composition χ vs σ l r a b) = omega arith
  transition_more (hiding χ vs σ l r n a) = omega arith
  transition_more (choosing χ op cs) = omega arith
  transition_more (promotion χ ws θ l r op vs σ b q) = omega arith
  transition_more (condition χ l r vs σ b q s) = omega arith
  transition_more (committing χ l r vs σ b q s) = omega arith
  transition_more (environment_failure χ vs σ ms u) = omega arith
  transition_more (goal_failure χ vs σ l r op) = omega arith
  transition_more (guard_failure χ op l r b) = omega arith
  transition_more (splitting χ vs σ l r us τ b t ts) = omega arith
  transition_more (distribution χ op l r g gs b) = omega arith
  transition_more (flattening χ l r ns) = omega arith

-- ---------------------------------------------------------------------------------------------
-- Statements.

fits_append : (σ τ : Store) → T (all stored_fits σ) → T (all stored_fits τ) → T (all stored_fits (σ ++ τ))
unfolding all
fits_append [] τ a b = b
fits_append (c ∷ σ) τ a b = let k = (and_T (stored_fits c) (all stored_fits σ)).0 a in (and_T (stored_fits c) (all stored_fits (σ ++ τ))).1 (k.0, fits_append σ τ k.1 b)

stored_pass : (c : Con Var) → ClosedCon c → T (all stored_fits (stored c))
unfolding all
stored_pass ctrue k = tt
stored_pass cfail k = tt
stored_pass (ceq x y) k = tt
stored_pass (capp x f ys) k = (and_T (few (map number_of ys) && (spelled_name f || spelled_digits f)) true).1 ((and_T (few (map number_of ys)) (spelled_name f || spelled_digits f)).1 (subst (λ j. T (leb j 8)) (sym (size_map number_of ys)) c2.1, c3.1), tt)
  where
    c3 : T (variable_fits any_number 0 x && all (variable_fits any_number 0) ys && few ys) × T (spelled_name f || spelled_digits f)
    c3 = (and_T (variable_fits any_number 0 x && all (variable_fits any_number 0) ys && few ys) (spelled_name f || spelled_digits f)).0 k

    c2 : T (variable_fits any_number 0 x && all (variable_fits any_number 0) ys) × T (few ys)
    c2 = (and_T (variable_fits any_number 0 x && all (variable_fits any_number 0) ys) (few ys)).0 c3.0

module _ (P : Program) (good : T (program_passes P)) (N : ℕ) where
  -- put a member back
  put_member : (vs : List ℕ) (σ : Store) (l r : Nodes member) (m : Node member) → T (all stored_fits σ) → PassAll P l → Pass P m → PassAll P r → Pass P (and vs σ (l +n cons m r))
  put_member vs σ l r m a b c d = (pass_and P vs σ (l +n cons m r)).1 (a, (pass_mid P l r m).1 (b, c, d))

  goals_pass : (cs : Clauses) (M : ℕ) → PassClauses P cs → PassAll P (guarded_goals cs M)
  unfolding guarded_goals statements_pass all
  goals_pass no_more M h = tt
  goals_pass (clause n g b cs) M h = (pass_cons P (guard (and (range M n) [] (one (stmt (opened g (fresh M n))))) (opened b (fresh M n))) (guarded_goals cs (M + n))).1 ((pass_guard P (and (range M n) [] (one (stmt (opened g (fresh M n))))) (opened b (fresh M n))).1 ((pass_and P (range M n) [] (one (stmt (opened g (fresh M n))))).1 (tt, (pass_cons P (stmt (opened g (fresh M n))) nil).1 (pass_fresh P M n g h.0, tt)), pass_fresh P M n b h.1), goals_pass cs (M + n) h.2)

  pub transition_passes : {r : ℕ} {pl : Place} {k : Kind} {χ : Ctx k} {n n' : Node k} {N' : ℕ} → Transition P N r pl k χ n n' N' → Pass P n → Pass P n'
  unfolding statements_pass
  transition_passes (constraint_atom χ vs σ l r c) h = let k = pass_member P vs σ l r (atom c) h in (pass_and P vs (σ ++ stored c) (l +n r)).1 (fits_append σ (stored c) k.0 (stored_pass c (closed_atom P c k.2)), (pass_append P l r).1 (k.1, k.3))
  transition_passes (program_atom χ p xs b e) h =
      let cl = list_number xs (closed_call P p xs h) in
      subst (λ us. Passes P any_number 0 (opened b us)) cl (pass_opened P (λ x. false) (map number_of xs) b (subst (λ j. Passes P (λ x. false) j b) (sym (size_map number_of xs)) (body_passes P good p (size xs) b e)))
  transition_passes (composition χ vs σ l r a b) h =
      let k = pass_member P vs σ l r (comp a b) h in
      let d = pass_comp P 0 a b k.2 in
      put_member vs σ l (cons (stmt b) r) (stmt a) k.0 k.1 d.0 ((pass_cons P (stmt b) r).1 (d.1, k.3))
  transition_passes (hiding χ vs σ l r n a) h = let k = pass_member P vs σ l r (hide n a) h in put_member (vs ++ range N n) σ l r (stmt (opened a (fresh N n))) k.0 k.1 (pass_fresh P N n a (pass_hide P n a k.2)) k.3
  transition_passes (choosing χ op cs) h = goals_pass cs N (pass_choice P op cs h)
  transition_passes (promotion χ ws θ l r op vs σ b q) h =
      let a = (pass_and P ws θ (l +n cons (choice_box op (one (guard (and vs σ nil) b))) r)).0 h in
      let k = (pass_mid P l r (choice_box op (one (guard (and vs σ nil) b)))).0 a.1 in
      let g = (pass_guard P (and vs σ nil) b).0 ((pass_cons P (guard (and vs σ nil) b) nil).0 k.1).0 in
      put_member (ws ++ vs) (θ ++ σ) l r (stmt b) (fits_append θ σ a.0 ((pass_and P vs σ nil).0 g.0).0) k.0 g.1 k.2
  transition_passes (condition χ l r vs σ b q s) h =
      let k = (pass_mid P l r (guard (and vs σ nil) b)).0 h in
      (pass_append P l (one (guard (and vs σ nil) b))).1 (k.0, (pass_cons P (guard (and vs σ nil) b) nil).1 (k.1, tt))
  transition_passes (committing χ l r vs σ b q s) h = (pass_cons P (guard (and vs σ nil) b) nil).1 (((pass_mid P l r (guard (and vs σ nil) b)).0 h).1, tt)
  transition_passes (environment_failure χ vs σ ms u) h = tt
  transition_passes (goal_failure χ vs σ l r op) h = tt
  transition_passes (guard_failure χ op l r b) h = let k = (pass_mid P l r (guard failure b)).0 h in (pass_append P l r).1 (k.0, k.2)
  transition_passes (splitting χ vs σ l r us τ b t ts) h =
      let g = guard (and us τ nil) b in
      let a = (pass_and P vs σ (l +n cons (choice_box Op.wait (cons g (cons t ts))) r)).0 h in
      let k = (pass_mid P l r (choice_box Op.wait (cons g (cons t ts)))).0 a.1 in
      let d = (pass_cons P g (cons t ts)).0 k.1 in
      (pass_cons P (and vs σ (l +n cons (choice_box Op.wait (one g)) r)) (one (and vs σ (l +n cons (choice_box Op.wait (cons t ts)) r)))).1 (put_member vs σ l r (choice_box Op.wait (one g)) a.0 k.0 ((pass_cons P g nil).1 (d.0, tt)) k.2, (pass_cons P (and vs σ (l +n cons (choice_box Op.wait (cons t ts)) r)) nil).1 (put_member vs σ l r (choice_box Op.wait (cons t ts)) a.0 k.0 d.1 k.2, tt))
  transition_passes (distribution χ op l r g gs b) h =
      let k = (pass_mid P l r (guard (or (cons g gs)) b)).0 h in
      let e = (pass_guard P (or (cons g gs)) b).0 k.1 in
      let d = (pass_cons P g gs).0 e.0 in
      (pass_mid P l (cons (guard (or gs) b) r) (guard g b)).1 (k.0, (pass_guard P g b).1 (d.0, e.1), (pass_cons P (guard (or gs) b) r).1 ((pass_guard P (or gs) b).1 (d.1, e.1), k.2))
  transition_passes (flattening χ l r ns) h = let k = (pass_mid P l r (or ns)).0 h in (pass_append P l (ns +n r)).1 (k.0, (pass_append P ns r).1 (k.1, k.2))

-- ---------------------------------------------------------------------------------------------
-- The query's locals.

high_of : {k : Kind} (a b : Nodes k) (q : ℕ) → Sub (locals_all b) (locals_all a) → High q (locals_all a) → High q (locals_all b)
high_of a b q s h x i = h x (s x i)

module _ (P : Program) (N : ℕ) (q : ℕ) where
  pub transition_query : {r : ℕ} {pl : Place} {k : Kind} {χ : Ctx k} {n n' : Node k} {N' : ℕ} → Transition P N r pl k χ n n' N' → QueryLocal n q → QueryLocal n' q
  unfolding locals
  transition_query (constraint_atom χ vs σ l r c) h = (h.0, high_of (l +n cons (stmt (atom c)) r) (l +n r) q (λ x i. (locals_In l (cons (stmt (atom c)) r) x).1 ((locals_In l r x).0 i)) h.1)
  transition_query (program_atom χ p xs b e) h = tt
  transition_query (composition χ vs σ l r a b) h = (h.0, high_of (l +n cons (stmt (comp a b)) r) (l +n cons (stmt a) (cons (stmt b) r)) q (λ x i. (locals_In l (cons (stmt (comp a b)) r) x).1 ((locals_In l (cons (stmt a) (cons (stmt b) r)) x).0 i)) h.1)
  transition_query (hiding χ vs σ l r n a) h = (λ x i. (In-append x vs (range N n)).1 (inl (h.0 x i)), high_of (l +n cons (stmt (hide n a)) r) (l +n cons (stmt (opened a (fresh N n))) r) q (λ x i. (locals_In l (cons (stmt (hide n a)) r) x).1 ((locals_In l (cons (stmt (opened a (fresh N n))) r) x).0 i)) h.1)
  transition_query (choosing χ op cs) h = tt
  transition_query (promotion χ ws θ l r op vs σ b e) h = (λ x i. (In-append x ws vs).1 (inl (h.0 x i)), high_of (l +n cons (choice_box op (one (guard (and vs σ nil) b))) r) (l +n cons (stmt b) r) q (λ x i. (locals_In l (cons (choice_box op (one (guard (and vs σ nil) b))) r) x).1 (elim ((locals_In l (cons (stmt b) r) x).0 i) [ inl j ↦ inl j | inr j ↦ inr ((In-append x ((vs ++ []) ++ []) (locals_all r)).1 (inr j)) ])) h.1)
  transition_query (condition χ l r vs σ b e s) h = tt
  transition_query (committing χ l r vs σ b e s) h = tt
  transition_query (environment_failure χ vs σ ms u) h = tt
  transition_query (goal_failure χ vs σ l r op) h = tt
  transition_query (guard_failure χ op l r b) h = tt
  transition_query (splitting χ vs σ l r us τ b t ts) h = ((h.0, half (choice_box Op.wait (one g)) (λ x i. elim ((In-append x (locals g) []).0 i) [ inl j ↦ (In-append x (locals g) (locals_all (cons t ts))).1 (inl j) | inr j ↦ absurd j ])), ((h.0, half (choice_box Op.wait (cons t ts)) (λ x i. (In-append x (locals g) (locals_all (cons t ts))).1 (inr i))), tt))
    where
      g : Node guarded
      g = guard (and us τ nil) b

      whole : Node member
      whole = choice_box Op.wait (cons g (cons t ts))

      half : (m : Node member) → Sub (locals m) (locals whole) → High q (locals_all (l +n cons m r))
      half m s = high_of (l +n cons whole r) (l +n cons m r) q (λ x i. (locals_In l (cons whole r) x).1 (elim ((locals_In l (cons m r) x).0 i) [ inl j ↦ inl j | inr j ↦ inr (elim ((In-append x (locals m) (locals_all r)).0 j) [ inl o ↦ (In-append x (locals whole) (locals_all r)).1 (inl (s x o)) | inr o ↦ (In-append x (locals whole) (locals_all r)).1 (inr o) ]) ])) h.1
  transition_query (distribution χ op l r g gs b) h = tt
  transition_query (flattening χ l r ns) h = let k = (query_append l (cons (or ns) r) q).0 h in (query_append l (ns +n r) q).1 (k.0, (query_append ns r q).1 (k.1.0, k.1.1))
