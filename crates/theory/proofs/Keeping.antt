-- What a rule must do to its goal for the whole configuration to stay as it may stand.
use mathlib.Core.Path.{◌≡◌, refl, ap, sym, ◌∙◌, subst}
use mathlib.Core.Logic.{◌↔◌, ◌⊎◌, inl, inr}
use mathlib.Core.List.{List, [], ◌∷◌, ◌++◌}
use Prim.Native.Nat.{ℕ, ◌≤◌, ◌<◌}
use native.Mathlib.Omega.{arith}
use Rattle.constraint.specs.Constraint.{Store, In}
use Rattle.constraint.proofs.Lists.{In-append}
use Rattle.akl.specs.Syntax.{Op, Stmt}
use Rattle.akl.specs.Configuration.{Kind, goal, member, guarded, Node, or, and, stmt, choice_box, guard, Nodes, nil, cons, ◌+n◌, Ctx, top, in_or, in_and, in_choice, in_guard, plug}
use Rattle.akl.specs.Stability.{locals, locals_all}
use Rattle.theory.specs.Scope.{Sub, Disjoint, Below, Shared, SharedAll, Fits, Apart, Ok, OkAll, scope}
use Rattle.theory.proofs.Lists.{ok_append, shared_append, locals_In, apart_append}
use Rattle.theory.proofs.Scopes.{ok_below_all, ok_more}
use Rattle.theory.proofs.Context.{below_append}

-- The new node is as it may stand in the same place; its locals were local before or are fresh; and what was local to
-- every and-box of the old one, if that is a guard, is local to every one of the new. N and N' are the next numbers.
pub record Keeps (N N' : ℕ) (xs : List ℕ) {k : Kind} (n n' : Node k) : Type 0 where
  pub ok : Ok n N xs → Below xs N → Ok n' N' xs
  pub old_or_fresh : (x : ℕ) → In x (locals n') → In x (locals n) ⊎ (N ≤ x)
  pub share : (x : ℕ) → Shared n x → Shared n' x

module _ (N N' : ℕ) (more : N ≤ N') where
  locals_mid : {k : Kind} (l r : Nodes k) (n n' : Node k) → ((x : ℕ) → In x (locals n') → In x (locals n) ⊎ (N ≤ x)) → (x : ℕ) → In x (locals_all (l +n cons n' r)) → In x (locals_all (l +n cons n r)) ⊎ (N ≤ x)
  unfolding locals
  locals_mid l r n n' h x i = go ((locals_In l (cons n' r) x).0 i)
    where
      put : In x (locals_all (cons n r)) → In x (locals_all (l +n cons n r))
      put j = (locals_In l (cons n r) x).1 (inr j)

      mid : In x (locals n') ⊎ In x (locals_all r) → In x (locals_all (l +n cons n r)) ⊎ (N ≤ x)
      mid (inl j) = elim (h x j) [ inl m ↦ inl (put ((In-append x (locals n) (locals_all r)).1 (inl m))) | inr m ↦ inr m ]
      mid (inr j) = inl (put ((In-append x (locals n) (locals_all r)).1 (inr j)))

      go : In x (locals_all l) ⊎ In x (locals_all (cons n' r)) → In x (locals_all (l +n cons n r)) ⊎ (N ≤ x)
      go (inl j) = inl ((locals_In l (cons n r) x).1 (inl j))
      go (inr j) = mid ((In-append x (locals n') (locals_all r)).0 j)

  ok_around : {k : Kind} (xs : List ℕ) (l r : Nodes k) (n n' : Node k) → Keeps N N' xs n n' → Below xs N → OkAll (l +n cons n r) N xs → OkAll (l +n cons n' r) N' xs
  ok_around xs l r n n' K u w =
      let h = (ok_append l (cons n r) N xs).0 w in
      (ok_append l (cons n' r) N' xs).1 (ok_more l N N' xs more h.0, (K.ok h.1.0 u, ok_more r N N' xs more h.1.1))

  shared_mid : {k : Kind} (l r : Nodes k) (n n' : Node k) (x : ℕ) → (Shared n x → Shared n' x) → SharedAll (l +n cons n r) x → SharedAll (l +n cons n' r) x
  shared_mid l r n n' x f s =
      let h = (shared_append l (cons n r) x).0 s in
      (shared_append l (cons n' r) x).1 (h.0, (f h.1.0, h.1.1))

  apart_mid : {k : Kind} (xs : List ℕ) (l r : Nodes k) (n n' : Node k) → ((x : ℕ) → In x (locals n') → In x (locals n) ⊎ (N ≤ x)) → OkAll (l +n cons n r) N xs → Apart (l +n cons n r) → Apart (l +n cons n' r)
  unfolding locals
  apart_mid xs l r n n' h w a = (apart_append l (cons n' r)).1 (p.0, (right, p.1.1), left)
    where
      p : Apart l × Apart (cons n r) × Disjoint (locals_all l) (locals_all (cons n r))
      p = (apart_append l (cons n r)).0 a

      okl : OkAll l N xs
      okl = ((ok_append l (cons n r) N xs).0 w).0

      okr : OkAll r N xs
      okr = ((ok_append l (cons n r) N xs).0 w).1.1

      high : (x : ℕ) → N ≤ x → x < N → ⊥
      high x b c = omega arith

      right : Disjoint (locals n') (locals_all r)
      right x i j = elim (h x i) [ inl m ↦ p.1.0 x m j | inr b ↦ high x b (ok_below_all r N xs okr x j) ]

      left : Disjoint (locals_all l) (locals_all (cons n' r))
      left x i j = elim ((In-append x (locals n') (locals_all r)).0 j) [ inl m ↦ elim (h x m) [ inl o ↦ p.2 x i ((In-append x (locals n) (locals_all r)).1 (inl o)) | inr b ↦ high x b (ok_below_all l N xs okl x i) ] | inr m ↦ p.2 x i ((In-append x (locals n) (locals_all r)).1 (inr m)) ]

  keep_or : (xs : List ℕ) (l r : Nodes goal) (n n' : Node goal) → Keeps N N' xs n n' → Keeps N N' xs (or (l +n cons n r)) (or (l +n cons n' r))
  unfolding locals
  keep_or xs l r n n' K = record { ok = λ w u. ok_around xs l r n n' K u w; old_or_fresh = locals_mid l r n n' K.old_or_fresh; share = λ x s. shared_mid l r n n' x (K.share x) s }

  keep_choice : (xs : List ℕ) (op : Op) (l r : Nodes guarded) (n n' : Node guarded) → Keeps N N' xs n n' → Keeps N N' xs (choice_box op (l +n cons n r)) (choice_box op (l +n cons n' r))
  unfolding locals
  keep_choice xs op l r n n' K = record { ok = λ w u. ok_around xs l r n n' K u w; old_or_fresh = locals_mid l r n n' K.old_or_fresh; share = λ x s. s }

  keep_guard : (xs : List ℕ) (b : Stmt) (n n' : Node goal) → Keeps N N' xs n n' → Keeps N N' xs (guard n b) (guard n' b)
  unfolding locals
  keep_guard xs b n n' K = record { ok = λ w u. (K.ok w.0 u, λ x i. elim (w.1 x i) [ inl j ↦ inl j | inr s ↦ inr (K.share x s) ], λ x i. omega (arith, w.2 x i)); old_or_fresh = K.old_or_fresh; share = λ x s. s }

  keep_and : (xs : List ℕ) (vs : List ℕ) (σ : Store) (l r : Nodes member) (n n' : Node member) → Keeps N N' (xs ++ vs) n n' → Keeps N N' xs (and vs σ (l +n cons n r)) (and vs σ (l +n cons n' r))
  unfolding locals
  keep_and xs vs σ l r n n' K = record {
    ok = λ w u. (w.0, λ x i. omega (arith, w.1 x i), w.2, w.3, ok_around (xs ++ vs) l r n n' K (below_append xs vs N u w.1) w.4, apart_mid (xs ++ vs) l r n n' K.old_or_fresh w.4 w.5);
    old_or_fresh = fresh_and;
    share = λ x s. s;
  }
    where
      fresh_and : (x : ℕ) → In x (vs ++ locals_all (l +n cons n' r)) → In x (vs ++ locals_all (l +n cons n r)) ⊎ (N ≤ x)
      fresh_and x i = elim ((In-append x vs (locals_all (l +n cons n' r))).0 i) [ inl j ↦ inl ((In-append x vs (locals_all (l +n cons n r))).1 (inl j)) | inr j ↦ elim (locals_mid l r n n' K.old_or_fresh x j) [ inl m ↦ inl ((In-append x vs (locals_all (l +n cons n r))).1 (inr m)) | inr b ↦ inr b ] ]

  pub keep_context : {k : Kind} (χ : Ctx k) (n n' : Node k) → Keeps N N' (scope χ) n n' → Keeps N N' [] (plug χ n) (plug χ n')
  unfolding plug scope
  keep_context top n n' K = K
  keep_context (in_or χ l r) n n' K = keep_context χ (or (l +n cons n r)) (or (l +n cons n' r)) (keep_or (scope χ) l r n n' K)
  keep_context (in_and χ vs σ l r) n n' K = keep_context χ (and vs σ (l +n cons n r)) (and vs σ (l +n cons n' r)) (keep_and (scope χ) vs σ l r n n' K)
  keep_context (in_choice χ op l r) n n' K = keep_context χ (choice_box op (l +n cons n r)) (choice_box op (l +n cons n' r)) (keep_choice (scope χ) op l r n n' K)
  keep_context (in_guard χ b) n n' K = keep_context χ (guard n b) (guard n' b) (keep_guard (scope χ) b n n' K)
