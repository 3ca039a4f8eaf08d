-- Laws of scopes: what a node that is as it may stand says of its locals and numbers, and where else it may stand.
use mathlib.Core.Path.{◌≡◌, refl, ap, sym, ◌∙◌, subst}
use mathlib.Core.Logic.{◌↔◌, ◌⊎◌, inl, inr}
use mathlib.Core.List.{List, [], ◌∷◌, ◌++◌}
use Prim.Native.Nat.{ℕ, ◌≤◌, ◌<◌}
use native.Mathlib.Omega.{arith}
use lib.Dec.{T}
use Rattle.constraint.specs.Constraint.{Store, In, vars_all}
use Rattle.constraint.specs.Solve.{distinct}
use Rattle.constraint.proofs.Lists.{In-append, distinct_cons}
use Rattle.akl.specs.Syntax.{Stmt}
use Rattle.akl.specs.Configuration.{Kind, Node, or, and, stmt, choice_box, guard, Nodes, nil, cons}
use Rattle.akl.specs.Stability.{locals, locals_all}
use Rattle.akl.specs.WellFormed.{numbers}
use Rattle.theory.specs.Scope.{Sub, Disjoint, Below, Shared, SharedAll, Fits, Apart, Ok, OkAll}

pub sub_both : (xs xs' vs : List ℕ) → Sub xs xs' → Sub (xs ++ vs) (xs' ++ vs)
sub_both xs xs' vs s x i = (In-append x xs' vs).1 (elim ((In-append x xs vs).0 i) [ inl j ↦ inl (s x j) | inr j ↦ inr j ])

pub distinct_append : (xs ys : List ℕ) → T (distinct xs) → T (distinct ys) → Disjoint xs ys → T (distinct (xs ++ ys))
unfolding distinct
distinct_append [] ys a b d = b
distinct_append (x ∷ xs) ys a b d =
    let h = (distinct_cons x xs).0 a in
    (distinct_cons x (xs ++ ys)).1 (λ i. elim ((In-append x xs ys).0 i) [ inl j ↦ h.0 j | inr j ↦ d x (inl refl) j ], distinct_append xs ys h.1 b (λ y i j. d y (inr i) j))

-- no local of a node is local around it
mutual
  unfolding locals

  pub ok_apart : {k : Kind} (n : Node k) (N : ℕ) (xs : List ℕ) → Ok n N xs → Disjoint (locals n) xs
  ok_apart (or ns) N xs w x i j = ok_apart_all ns N xs w x i j
  ok_apart (and vs σ ms) N xs w x i j = elim ((In-append x vs (locals_all ms)).0 i) [ inl m ↦ w.2 x m j | inr m ↦ ok_apart_all ms N (xs ++ vs) w.4 x m ((In-append x xs vs).1 (inl j)) ]
  ok_apart (stmt s) N xs w x i j = i
  ok_apart (choice_box op gs) N xs w x i j = ok_apart_all gs N xs w x i j
  ok_apart (guard g b) N xs w x i j = ok_apart g N xs w.0 x i j

  pub ok_apart_all : {k : Kind} (ns : Nodes k) (N : ℕ) (xs : List ℕ) → OkAll ns N xs → Disjoint (locals_all ns) xs
  ok_apart_all nil N xs w x i j = i
  ok_apart_all (cons n ns) N xs w x i j = elim ((In-append x (locals n) (locals_all ns)).0 i) [ inl m ↦ ok_apart n N xs w.0 x m j | inr m ↦ ok_apart_all ns N xs w.1 x m j ]

-- every local is below N
mutual
  unfolding locals

  pub ok_below : {k : Kind} (n : Node k) (N : ℕ) (xs : List ℕ) → Ok n N xs → Below (locals n) N
  ok_below (or ns) N xs w x i = ok_below_all ns N xs w x i
  ok_below (and vs σ ms) N xs w x i = elim ((In-append x vs (locals_all ms)).0 i) [ inl m ↦ w.1 x m | inr m ↦ ok_below_all ms N (xs ++ vs) w.4 x m ]
  ok_below (stmt s) N xs w x i = absurd i
  ok_below (choice_box op gs) N xs w x i = ok_below_all gs N xs w x i
  ok_below (guard g b) N xs w x i = ok_below g N xs w.0 x i

  pub ok_below_all : {k : Kind} (ns : Nodes k) (N : ℕ) (xs : List ℕ) → OkAll ns N xs → Below (locals_all ns) N
  ok_below_all nil N xs w x i = absurd i
  ok_below_all (cons n ns) N xs w x i = elim ((In-append x (locals n) (locals_all ns)).0 i) [ inl m ↦ ok_below n N xs w.0 x m | inr m ↦ ok_below_all ns N xs w.1 x m ]

-- It may stand where more variables are around, if none of them is local in it, and under a higher limit.
mutual
  unfolding locals

  pub ok_wider : {k : Kind} (n : Node k) (N N' : ℕ) (xs xs' : List ℕ) → N ≤ N' → Sub xs xs' → Disjoint (locals n) xs' → Ok n N xs → Ok n N' xs'
  ok_wider (or ns) N N' xs xs' l s d w = ok_wider_all ns N N' xs xs' l s d w
  ok_wider (and vs σ ms) N N' xs xs' l s d w = (w.0, λ x i. omega (arith, w.1 x i), λ x i j. d x ((In-append x vs (locals_all ms)).1 (inl i)) j, λ x i. sub_both xs xs' vs s x (w.3 x i), ok_wider_all ms N N' (xs ++ vs) (xs' ++ vs) l (sub_both xs xs' vs s) apart w.4, w.5)
    where
      apart : Disjoint (locals_all ms) (xs' ++ vs)
      apart x i j = elim ((In-append x xs' vs).0 j) [ inl m ↦ d x ((In-append x vs (locals_all ms)).1 (inr i)) m | inr m ↦ ok_apart_all ms N (xs ++ vs) w.4 x i ((In-append x xs vs).1 (inr m)) ]
  ok_wider (stmt b) N N' xs xs' l s d w = λ x i. s x (w x i)
  ok_wider (choice_box op gs) N N' xs xs' l s d w = ok_wider_all gs N N' xs xs' l s d w
  ok_wider (guard g b) N N' xs xs' l s d w = (ok_wider g N N' xs xs' l s d w.0, λ x i. elim (w.1 x i) [ inl j ↦ inl (s x j) | inr j ↦ inr j ], λ x i. omega (arith, w.2 x i))

  pub ok_wider_all : {k : Kind} (ns : Nodes k) (N N' : ℕ) (xs xs' : List ℕ) → N ≤ N' → Sub xs xs' → Disjoint (locals_all ns) xs' → OkAll ns N xs → OkAll ns N' xs'
  ok_wider_all nil N N' xs xs' l s d w = tt
  ok_wider_all (cons n ns) N N' xs xs' l s d w = (ok_wider n N N' xs xs' l s (λ x i j. d x ((In-append x (locals n) (locals_all ns)).1 (inl i)) j) w.0, ok_wider_all ns N N' xs xs' l s (λ x i j. d x ((In-append x (locals n) (locals_all ns)).1 (inr i)) j) w.1)

pub ok_more : {k : Kind} (ns : Nodes k) (N N' : ℕ) (xs : List ℕ) → N ≤ N' → OkAll ns N xs → OkAll ns N' xs
ok_more ns N N' xs l w = ok_wider_all ns N N' xs xs l (λ x i. i) (ok_apart_all ns N xs w) w
