-- Statements that pass, and the query's locals, in contexts.
use mathlib.Core.Path.{◌≡◌, refl, ap, sym, ◌∙◌, subst}
use mathlib.Core.Logic.{◌↔◌, ◌⊎◌, inl, inr}
use mathlib.Core.List.{List, [], ◌∷◌, ◌++◌}
use mathlib.Core.Bool.{Bool, true, false, ◌&&◌}
use Prim.Native.Nat.{ℕ, ◌≤◌}
use native.Mathlib.Omega.{arith}
use lib.Dec.{T}
use Rattle.constraint.specs.Constraint.{Con, Store, In}
use Rattle.constraint.proofs.Lists.{and_T, In-append}
use Rattle.akl.specs.Base.{all, range}
use Rattle.akl.specs.Syntax.{Op, Stmt, Program}
use Rattle.akl.specs.Configuration.{Kind, goal, member, guarded, Node, or, and, stmt, choice_box, guard, Nodes, nil, cons, ◌+n◌, one, Ctx, top, in_or, in_and, in_choice, in_guard, plug}
use Rattle.akl.specs.Stability.{locals, locals_all}
use Rattle.akl.specs.WellFormed.{stored_fits, statements_pass, statements_pass_all, statement_passes}
use Rattle.theory.specs.Formed.{High, QueryLocal, QueryLocalAll}
use Rattle.theory.proofs.Lists.{locals_In}
use Rattle.theory.proofs.Closed.{any_number}

module _ (P : Program) where
  -- every statement in the node passes
  abbrev pub Pass : {k : Kind} → Node k → Type 0
  Pass n = T (statements_pass n P)

  abbrev pub PassAll : {k : Kind} → Nodes k → Type 0
  PassAll ns = T (statements_pass_all ns P)

  pub pass_cons : {k : Kind} (n : Node k) (ns : Nodes k) → PassAll (cons n ns) ↔ (Pass n × PassAll ns)
  unfolding statements_pass
  pass_cons n ns = and_T (statements_pass n P) (statements_pass_all ns P)

  pub pass_append : {k : Kind} (a b : Nodes k) → PassAll (a +n b) ↔ (PassAll a × PassAll b)
  unfolding ◌+n◌ statements_pass
  pass_append nil b = (λ h. (tt, h), λ h. h.1)
  pass_append (cons n a) b =
      let ih = pass_append a b in
      let c = pass_cons n (a +n b) in
      let d = pass_cons n a in
      (λ h. let k = c.0 h in (d.1 (k.0, (ih.0 k.1).0), (ih.0 k.1).1), λ h. let k = d.0 h.0 in c.1 (k.0, ih.1 (k.1, h.1)))

  pub pass_mid : {k : Kind} (l r : Nodes k) (n : Node k) → PassAll (l +n cons n r) ↔ (PassAll l × Pass n × PassAll r)
  pass_mid l r n =
      let a = pass_append l (cons n r) in
      let c = pass_cons n r in
      (λ h. let k = a.0 h in (k.0, (c.0 k.1).0, (c.0 k.1).1), λ h. a.1 (h.0, c.1 (h.1, h.2)))

  pub pass_and : (vs : List ℕ) (σ : Store) (ms : Nodes member) → Pass (and vs σ ms) ↔ (T (all stored_fits σ) × PassAll ms)
  unfolding statements_pass
  pass_and vs σ ms = and_T (all stored_fits σ) (statements_pass_all ms P)

  pub pass_guard : (g : Node goal) (b : Stmt) → Pass (guard g b) ↔ (Pass g × T (statement_passes P any_number 0 b))
  unfolding statements_pass
  pass_guard g b = and_T (statements_pass g P) (statement_passes P any_number 0 b)

  -- what passes in a context, and what may take its place
  pub pass_context : {k : Kind} (χ : Ctx k) (n n' : Node k) → Pass (plug χ n) → Pass n × ((Pass n → Pass n') → Pass (plug χ n'))
  unfolding plug statements_pass
  pass_context top n n' h = (h, λ f. f h)
  pass_context (in_or χ l r) n n' h =
      let ih = pass_context χ (or (l +n cons n r)) (or (l +n cons n' r)) h in
      let k = (pass_mid l r n).0 ih.0 in
      (k.1, λ f. ih.1 (λ w. (pass_mid l r n').1 (k.0, f k.1, k.2)))
  pass_context (in_and χ vs σ l r) n n' h =
      let ih = pass_context χ (and vs σ (l +n cons n r)) (and vs σ (l +n cons n' r)) h in
      let a = (pass_and vs σ (l +n cons n r)).0 ih.0 in
      let k = (pass_mid l r n).0 a.1 in
      (k.1, λ f. ih.1 (λ w. (pass_and vs σ (l +n cons n' r)).1 (a.0, (pass_mid l r n').1 (k.0, f k.1, k.2))))
  pass_context (in_choice χ op l r) n n' h =
      let ih = pass_context χ (choice_box op (l +n cons n r)) (choice_box op (l +n cons n' r)) h in
      let k = (pass_mid l r n).0 ih.0 in
      (k.1, λ f. ih.1 (λ w. (pass_mid l r n').1 (k.0, f k.1, k.2)))
  pass_context (in_guard χ b) n n' h =
      let ih = pass_context χ (guard n b) (guard n' b) h in
      let k = (pass_guard n b).0 ih.0 in
      (k.0, λ f. ih.1 (λ w. (pass_guard n' b).1 (f k.0, k.1)))

-- ---------------------------------------------------------------------------------------------
-- The query's variables.

pub query_append : {k : Kind} (a b : Nodes k) (q : ℕ) → QueryLocalAll (a +n b) q ↔ (QueryLocalAll a q × QueryLocalAll b q)
unfolding ◌+n◌
query_append nil b q = (λ h. (tt, h), λ h. h.1)
query_append (cons n a) b q =
    let ih = query_append a b q in
    (λ h. ((h.0, (ih.0 h.1).0), (ih.0 h.1).1), λ h. (h.0.0, ih.1 (h.0.1, h.1)))

high_mid : {k : Kind} (l r : Nodes k) (n n' : Node k) (q : ℕ) → (High q (locals n) → High q (locals n')) → High q (locals_all (l +n cons n r)) → High q (locals_all (l +n cons n' r))
unfolding locals
high_mid l r n n' q f h x i = elim ((locals_In l (cons n' r) x).0 i) [ inl j ↦ h x ((locals_In l (cons n r) x).1 (inl j)) | inr j ↦ elim ((In-append x (locals n') (locals_all r)).0 j) [ inl m ↦ f (λ y o. h y ((locals_In l (cons n r) y).1 (inr ((In-append y (locals n) (locals_all r)).1 (inl o))))) x m | inr m ↦ h x ((locals_In l (cons n r) x).1 (inr ((In-append x (locals n) (locals_all r)).1 (inr m)))) ] ]

pub query_context : {k : Kind} (χ : Ctx k) (n n' : Node k) (q : ℕ) → (QueryLocal n q → QueryLocal n' q) → (High q (locals n) → High q (locals n')) → QueryLocal (plug χ n) q → QueryLocal (plug χ n') q
unfolding plug locals
query_context top n n' q f g h = f h
query_context (in_or χ l r) n n' q f g h = query_context χ (or (l +n cons n r)) (or (l +n cons n' r)) q (λ w. let k = (query_append l (cons n r) q).0 w in (query_append l (cons n' r) q).1 (k.0, (f k.1.0, k.1.1))) (high_mid l r n n' q g) h
query_context (in_and χ vs σ l r) n n' q f g h = query_context χ (and vs σ (l +n cons n r)) (and vs σ (l +n cons n' r)) q (λ w. (w.0, high_mid l r n n' q g w.1)) high h
  where
    high : High q (vs ++ locals_all (l +n cons n r)) → High q (vs ++ locals_all (l +n cons n' r))
    high w x i = elim ((In-append x vs (locals_all (l +n cons n' r))).0 i) [ inl j ↦ w x ((In-append x vs (locals_all (l +n cons n r))).1 (inl j)) | inr j ↦ high_mid l r n n' q g (λ y o. w y ((In-append y vs (locals_all (l +n cons n r))).1 (inr o))) x j ]
query_context (in_choice χ op l r) n n' q f g h = query_context χ (choice_box op (l +n cons n r)) (choice_box op (l +n cons n' r)) q (λ w. w) (high_mid l r n n' q g) h
query_context (in_guard χ b) n n' q f g h = query_context χ (guard n b) (guard n' b) q (λ w. w) g h
