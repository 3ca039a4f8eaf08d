-- The test of well-formedness tests what the propositions say.
use mathlib.Core.Path.{◌≡◌, refl, ap, sym, ◌∙◌, subst}
use mathlib.Core.Logic.{◌↔◌, ◌⊎◌, inl, inr}
use mathlib.Core.List.{List, [], ◌∷◌, ◌++◌}
use mathlib.Core.Bool.{Bool, true, false, ◌&&◌, ◌||◌, not}
use Prim.Native.Nat.{ℕ, zero, suc, ◌+◌, ◌≤◌, ◌<◌}
use native.Mathlib.Omega.{arith}
use lib.Dec.{T, leb, ltb, leb→le, le→leb, ltb→lt, lt→ltb}
use Rattle.constraint.specs.Constraint.{Store, In, vars_all}
use Rattle.constraint.specs.Solve.{elem, distinct}
use Rattle.constraint.proofs.Lists.{and_T, or_T, not_T, elem_In, In-append}
use Rattle.akl.specs.Base.{Name, size, any, all, range}
use Rattle.akl.specs.Limits.{last_number}
use Rattle.akl.specs.Syntax.{Stmt, Program}
use Rattle.akl.specs.Configuration.{Kind, goal, member, guarded, Node, or, and, stmt, choice_box, guard, Nodes, nil, cons, Config}
use Rattle.akl.specs.Parts.{parts}
use Rattle.akl.specs.Stability.{locals, locals_all}
use Rattle.akl.specs.WellFormed.{program_passes, names_pass, is_or, statements_pass, disjoint, no_interference, apart_or, apart_and, numbers, guard_boxes, guard_boxes_all, in_scope, in_scope_all, query_locals, query_locals_all, all_numbers, all_numbers_in, well_formed}
use Rattle.theory.specs.Scope.{Sub, Disjoint, Below, Shared, SharedAll, Fits, Apart, Ok, OkAll}
use Rattle.theory.specs.Formed.{High, QueryLocal, QueryLocalAll, Formed}
use Rattle.theory.proofs.Locals.{range_In, In-range}
use Rattle.theory.proofs.Scopes.{ok_apart_all}
use Rattle.theory.proofs.Context.{below_append}

-- ---------------------------------------------------------------------------------------------
-- Tests over lists of numbers.

pub all_each : (p : ℕ → Bool) (l : List ℕ) → T (all p l) ↔ ((x : ℕ) → In x l → T (p x))
unfolding all
all_each p [] = (λ h x i. absurd i, λ h. tt)
all_each p (y ∷ l) =
    let ih = all_each p l in
    let a = and_T (p y) (all p l) in
    (λ h x i. elim i [ inl e ↦ subst (λ z. T (p z)) (sym e) (a.0 h).0 | inr j ↦ ih.0 (a.0 h).1 x j ], λ h. a.1 (h y (inl refl), ih.1 (λ x i. h x (inr i))))

any_some : (p : ℕ → Bool) (l : List ℕ) → T (any p l) ↔ ((x : ℕ) × In x l × T (p x))
unfolding any
any_some p [] = (λ h. absurd h, λ h. h.1)
any_some p (y ∷ l) = (λ h. elim (o.0 h) [ inl t ↦ (y, inl refl, t) | inr t ↦ let w = (any_some p l).0 t in (w.0, inr w.1, w.2) ], λ w. o.1 (elim w.1 [ inl e ↦ inl (subst (λ z. T (p z)) e w.2) | inr i ↦ inr ((any_some p l).1 (w.0, i, w.2)) ]))
  where
    o : T (p y || any p l) ↔ (T (p y) ⊎ T (any p l))
    o = or_T (p y) (any p l)

disjoint_T : (xs ys : List ℕ) → T (disjoint xs ys) ↔ Disjoint xs ys
unfolding disjoint
disjoint_T xs ys =
    let n = not_T (any (λ x. elem x ys) xs) in
    let s = any_some (λ x. elem x ys) xs in
    (λ h x i j. n.0 h (s.1 (x, i, (elem_In x ys).1 j)), λ d. n.1 (λ t. let w = s.0 t in d w.0 w.1 ((elem_In w.0 ys).0 w.2)))

sub_T : (l ys : List ℕ) → T (all (λ x. elem x ys) l) ↔ Sub l ys
sub_T l ys =
    let a = all_each (λ x. elem x ys) l in
    (λ h x i. (elem_In x ys).0 (a.0 h x i), λ s. a.1 (λ x i. (elem_In x ys).1 (s x i)))

below_T : (l : List ℕ) (N : ℕ) → T (all (λ x. ltb x N) l) ↔ Below l N
below_T l N =
    let a = all_each (λ x. ltb x N) l in
    (λ h x i. ltb→lt x N (a.0 h x i), λ s. a.1 (λ x i. lt→ltb x N (s x i)))

high_T : (l : List ℕ) (q : ℕ) → T (all (leb q) l) ↔ High q l
high_T l q =
    let a = all_each (leb q) l in
    (λ h x i. leb→le q x (a.0 h x i), λ s. a.1 (λ x i. le→leb q x (s x i)))

-- ---------------------------------------------------------------------------------------------
-- The and-boxes of a guard.

abbrev IsGoal : Kind → Type 0
IsGoal goal = Unit {0}
IsGoal member = ⊥
IsGoal guarded = ⊥

all_lists : (p : List ℕ → Bool) (a b : List (List ℕ)) → T (all p (a ++ b)) ↔ (T (all p a) × T (all p b))
unfolding all
all_lists p [] b = (λ h. (tt, h), λ h. h.1)
all_lists p (x ∷ a) b =
    let ih = all_lists p a b in
    let c = and_T (p x) (all p (a ++ b)) in
    let d = and_T (p x) (all p a) in
    (λ h. let k = c.0 h in (d.1 (k.0, (ih.0 k.1).0), (ih.0 k.1).1), λ h. let k = d.0 h.0 in c.1 (k.0, ih.1 (k.1, h.1)))

mutual
  unfolding guard_boxes all

  shared_T : {k : Kind} (n : Node k) → IsGoal k → (x : ℕ) → T (all (elem x) (guard_boxes n)) ↔ Shared n x
  shared_T (or ns) g x = shared_all_T ns g x
  shared_T (and vs σ ms) g x =
      let a = and_T (elem x vs) true in
      (λ h. (elem_In x vs).0 (a.0 h).0, λ i. a.1 ((elem_In x vs).1 i, tt))
  shared_T (stmt s) g x = absurd g
  shared_T (choice_box op gs) g x = absurd g
  shared_T (guard h b) g x = absurd g

  shared_all_T : {k : Kind} (ns : Nodes k) → IsGoal k → (x : ℕ) → T (all (elem x) (guard_boxes_all ns)) ↔ SharedAll ns x
  shared_all_T nil g x = (λ h. tt, λ h. tt)
  shared_all_T (cons n ns) g x =
      let a = all_lists (elem x) (guard_boxes n) (guard_boxes_all ns) in
      let s = shared_T n g x in
      let t = shared_all_T ns g x in
      (λ h. let k = a.0 h in (s.0 k.0, t.0 k.1), λ h. a.1 (s.1 h.0, t.1 h.1))

fits_T : (g : Node goal) (b : Stmt) (xs : List ℕ) → T (all (λ x. elem x xs || all (elem x) (guard_boxes g)) (numbers b)) ↔ Fits xs g b
fits_T g b xs =
    let a = all_each (λ x. elem x xs || all (elem x) (guard_boxes g)) (numbers b) in
    (λ h x i. elim ((or_T (elem x xs) (all (elem x) (guard_boxes g))).0 (a.0 h x i)) [ inl t ↦ inl ((elem_In x xs).0 t) | inr t ↦ inr ((shared_T g tt x).0 t) ], λ f. a.1 (λ x i. (or_T (elem x xs) (all (elem x) (guard_boxes g))).1 (elim (f x i) [ inl j ↦ inl ((elem_In x xs).1 j) | inr s ↦ inr ((shared_T g tt x).1 s) ])))

-- ---------------------------------------------------------------------------------------------
-- Scopes and interference.

abbrev pub Tests : {k : Kind} → Node k → ℕ → List ℕ → Type 0
Tests n N xs = T (no_interference n) × T (in_scope n xs) × Below (all_numbers n) N × Disjoint (locals n) xs

below_left : (a b : List ℕ) (N : ℕ) → Below (a ++ b) N → Below a N
below_left a b N h x i = h x ((In-append x a b).1 (inl i))

below_right : (a b : List ℕ) (N : ℕ) → Below (a ++ b) N → Below b N
below_right a b N h x i = h x ((In-append x a b).1 (inr i))

disjoint_left : (a b xs : List ℕ) → Disjoint (a ++ b) xs → Disjoint a xs
disjoint_left a b xs h x i j = h x ((In-append x a b).1 (inl i)) j

disjoint_right : (a b xs : List ℕ) → Disjoint (a ++ b) xs → Disjoint b xs
disjoint_right a b xs h x i j = h x ((In-append x a b).1 (inr i)) j

mutual
  unfolding no_interference in_scope all_numbers locals

  ok_from : {k : Kind} (n : Node k) (N : ℕ) (xs : List ℕ) → T (no_interference n) → T (in_scope n xs) → Below (all_numbers n) N → Disjoint (locals n) xs → Ok n N xs
  ok_from (or ns) N xs a b c d = ok_from_or ns N xs a b c d
  ok_from (and vs σ ms) N xs a b c d = (a1.0, below_left vs (vars_all σ) N c1, disjoint_left vs (locals_all ms) xs d, (sub_T (vars_all σ) (xs ++ vs)).0 b1.0, (ok_from_and ms N (xs ++ vs) a2.1 b1.1 (below_right (vs ++ vars_all σ) (all_numbers_in ms) N c) apart).0, (ok_from_and ms N (xs ++ vs) a2.1 b1.1 (below_right (vs ++ vars_all σ) (all_numbers_in ms) N c) apart).1)
    where
      a2 : T (distinct vs && disjoint vs (locals_all ms)) × T (apart_and ms)
      a2 = (and_T (distinct vs && disjoint vs (locals_all ms)) (apart_and ms)).0 a

      a1 : T (distinct vs) × T (disjoint vs (locals_all ms))
      a1 = (and_T (distinct vs) (disjoint vs (locals_all ms))).0 a2.0

      b1 : T (all (λ x. elem x (xs ++ vs)) (vars_all σ)) × T (in_scope_all ms (xs ++ vs))
      b1 = (and_T (all (λ x. elem x (xs ++ vs)) (vars_all σ)) (in_scope_all ms (xs ++ vs))).0 b

      c1 : Below (vs ++ vars_all σ) N
      c1 = below_left (vs ++ vars_all σ) (all_numbers_in ms) N c

      apart : Disjoint (locals_all ms) (xs ++ vs)
      apart x i j = elim ((In-append x xs vs).0 j) [ inl m ↦ disjoint_right vs (locals_all ms) xs d x i m | inr m ↦ (disjoint_T vs (locals_all ms)).0 a1.1 x m i ]
  ok_from (stmt s) N xs a b c d = (sub_T (numbers s) xs).0 b
  ok_from (choice_box op gs) N xs a b c d = ok_from_or gs N xs a b c d
  ok_from (guard g s) N xs a b c d =
      let b1 = (and_T (in_scope g xs) (all (λ x. elem x xs || all (elem x) (guard_boxes g)) (numbers s))).0 b in
      (ok_from g N xs a b1.0 (below_left (all_numbers g) (numbers s) N c) d, (fits_T g s xs).0 b1.1, below_right (all_numbers g) (numbers s) N c)

  ok_from_or : {k : Kind} (ns : Nodes k) (N : ℕ) (xs : List ℕ) → T (apart_or ns) → T (in_scope_all ns xs) → Below (all_numbers_in ns) N → Disjoint (locals_all ns) xs → OkAll ns N xs
  ok_from_or nil N xs a b c d = tt
  ok_from_or (cons n ns) N xs a b c d =
      let a1 = (and_T (no_interference n) (apart_or ns)).0 a in
      let b1 = (and_T (in_scope n xs) (in_scope_all ns xs)).0 b in
      (ok_from n N xs a1.0 b1.0 (below_left (all_numbers n) (all_numbers_in ns) N c) (disjoint_left (locals n) (locals_all ns) xs d), ok_from_or ns N xs a1.1 b1.1 (below_right (all_numbers n) (all_numbers_in ns) N c) (disjoint_right (locals n) (locals_all ns) xs d))

  ok_from_and : {k : Kind} (ns : Nodes k) (N : ℕ) (xs : List ℕ) → T (apart_and ns) → T (in_scope_all ns xs) → Below (all_numbers_in ns) N → Disjoint (locals_all ns) xs → OkAll ns N xs × Apart ns
  ok_from_and nil N xs a b c d = (tt, tt)
  ok_from_and (cons n ns) N xs a b c d =
      let a2 = (and_T (no_interference n && disjoint (locals n) (locals_all ns)) (apart_and ns)).0 a in
      let a1 = (and_T (no_interference n) (disjoint (locals n) (locals_all ns))).0 a2.0 in
      let b1 = (and_T (in_scope n xs) (in_scope_all ns xs)).0 b in
      let r = ok_from_and ns N xs a2.1 b1.1 (below_right (all_numbers n) (all_numbers_in ns) N c) (disjoint_right (locals n) (locals_all ns) xs d) in
      ((ok_from n N xs a1.0 b1.0 (below_left (all_numbers n) (all_numbers_in ns) N c) (disjoint_left (locals n) (locals_all ns) xs d), r.0), ((disjoint_T (locals n) (locals_all ns)).0 a1.1, r.1))

mutual
  unfolding no_interference locals

  ok_apart_test : {k : Kind} (n : Node k) (N : ℕ) (xs : List ℕ) → Ok n N xs → T (no_interference n)
  ok_apart_test (or ns) N xs w = or_test ns N xs w
  ok_apart_test (and vs σ ms) N xs w = (and_T (distinct vs && disjoint vs (locals_all ms)) (apart_and ms)).1 ((and_T (distinct vs) (disjoint vs (locals_all ms))).1 (w.0, (disjoint_T vs (locals_all ms)).1 (λ x i j. ok_apart_all ms N (xs ++ vs) w.4 x j ((In-append x xs vs).1 (inr i)))), and_test ms N (xs ++ vs) w.4 w.5)
  ok_apart_test (stmt s) N xs w = tt
  ok_apart_test (choice_box op gs) N xs w = or_test gs N xs w
  ok_apart_test (guard g b) N xs w = ok_apart_test g N xs w.0

  or_test : {k : Kind} (ns : Nodes k) (N : ℕ) (xs : List ℕ) → OkAll ns N xs → T (apart_or ns)
  or_test nil N xs w = tt
  or_test (cons n ns) N xs w = (and_T (no_interference n) (apart_or ns)).1 (ok_apart_test n N xs w.0, or_test ns N xs w.1)

  and_test : {k : Kind} (ns : Nodes k) (N : ℕ) (xs : List ℕ) → OkAll ns N xs → Apart ns → T (apart_and ns)
  and_test nil N xs w a = tt
  and_test (cons n ns) N xs w a = (and_T (no_interference n && disjoint (locals n) (locals_all ns)) (apart_and ns)).1 ((and_T (no_interference n) (disjoint (locals n) (locals_all ns))).1 (ok_apart_test n N xs w.0, (disjoint_T (locals n) (locals_all ns)).1 a.0), and_test ns N xs w.1 a.1)

mutual
  unfolding in_scope

  ok_scope_test : {k : Kind} (n : Node k) (N : ℕ) (xs : List ℕ) → Ok n N xs → T (in_scope n xs)
  ok_scope_test (or ns) N xs w = scope_test ns N xs w
  ok_scope_test (and vs σ ms) N xs w = (and_T (all (λ x. elem x (xs ++ vs)) (vars_all σ)) (in_scope_all ms (xs ++ vs))).1 ((sub_T (vars_all σ) (xs ++ vs)).1 w.3, scope_test ms N (xs ++ vs) w.4)
  ok_scope_test (stmt s) N xs w = (sub_T (numbers s) xs).1 w
  ok_scope_test (choice_box op gs) N xs w = scope_test gs N xs w
  ok_scope_test (guard g b) N xs w = (and_T (in_scope g xs) (all (λ x. elem x xs || all (elem x) (guard_boxes g)) (numbers b))).1 (ok_scope_test g N xs w.0, (fits_T g b xs).1 w.1)

  scope_test : {k : Kind} (ns : Nodes k) (N : ℕ) (xs : List ℕ) → OkAll ns N xs → T (in_scope_all ns xs)
  scope_test nil N xs w = tt
  scope_test (cons n ns) N xs w = (and_T (in_scope n xs) (in_scope_all ns xs)).1 (ok_scope_test n N xs w.0, scope_test ns N xs w.1)

mutual
  unfolding all_numbers

  pub ok_numbers : {k : Kind} (n : Node k) (N : ℕ) (xs : List ℕ) → Ok n N xs → Below xs N → Below (all_numbers n) N
  ok_numbers (or ns) N xs w u = ok_numbers_all ns N xs w u
  ok_numbers (and vs σ ms) N xs w u = below_append (vs ++ vars_all σ) (all_numbers_in ms) N (below_append vs (vars_all σ) N w.1 (λ x i. below_append xs vs N u w.1 x (w.3 x i))) (ok_numbers_all ms N (xs ++ vs) w.4 (below_append xs vs N u w.1))
  ok_numbers (stmt s) N xs w u = λ x i. u x (w x i)
  ok_numbers (choice_box op gs) N xs w u = ok_numbers_all gs N xs w u
  ok_numbers (guard g b) N xs w u = below_append (all_numbers g) (numbers b) N (ok_numbers g N xs w.0 u) w.2

  ok_numbers_all : {k : Kind} (ns : Nodes k) (N : ℕ) (xs : List ℕ) → OkAll ns N xs → Below xs N → Below (all_numbers_in ns) N
  ok_numbers_all nil N xs w u = λ x i. absurd i
  ok_numbers_all (cons n ns) N xs w u = below_append (all_numbers n) (all_numbers_in ns) N (ok_numbers n N xs w.0 u) (ok_numbers_all ns N xs w.1 u)

-- ---------------------------------------------------------------------------------------------
-- The query's variables.

mutual
  unfolding query_locals

  query_T : {k : Kind} (n : Node k) (q : ℕ) → T (query_locals n q) ↔ QueryLocal n q
  query_T (or ns) q = query_all_T ns q
  query_T (and vs σ ms) q =
      let a = and_T (all (λ x. elem x vs) (range 0 q)) (all (leb q) (locals_all ms)) in
      let s = sub_T (range 0 q) vs in
      let h = high_T (locals_all ms) q in
      (λ t. (s.0 (a.0 t).0, h.0 (a.0 t).1), λ k. a.1 (s.1 k.0, h.1 k.1))
  query_T (stmt s) q = (λ t. tt, λ t. tt)
  query_T (choice_box op gs) q = (λ t. tt, λ t. tt)
  query_T (guard g b) q = (λ t. tt, λ t. tt)

  query_all_T : {k : Kind} (ns : Nodes k) (q : ℕ) → T (query_locals_all ns q) ↔ QueryLocalAll ns q
  query_all_T nil q = (λ t. tt, λ t. tt)
  query_all_T (cons n ns) q =
      let a = and_T (query_locals n q) (query_locals_all ns q) in
      let h = query_T n q in
      let t = query_all_T ns q in
      (λ k. (h.0 (a.0 k).0, t.0 (a.0 k).1), λ k. a.1 (h.1 k.0, t.1 k.1))

range_below : (q N : ℕ) → Below (range 0 q) N ↔ (q ≤ N)
range_below zero N = (λ h. omega arith, λ h x i. absurd (low (range_In x 0 0 i)))
  where
    low : {x : ℕ} → (0 ≤ x) × (x < 0 + 0) → ⊥
    low h = omega arith
range_below (suc q) N = (λ h. h q (In-range q 0 (suc q) (omega arith) (omega arith)), λ h x i. omega (arith, (range_In x 0 (suc q) i).1))

-- ---------------------------------------------------------------------------------------------
-- All of it.

pub formed_iff : (limit : ℕ) (P : Program) (xs : List Name) (c : Config) → T (well_formed limit P xs c) ↔ Formed limit P xs c
unfolding well_formed
formed_iff limit P xs c = (to_it, from_it)
  where
    n : Node goal
    n = c.root

    N : ℕ
    N = c.next

    q : ℕ
    q = size xs

    nums : List ℕ
    nums = range 0 q ++ all_numbers n

    t1 : Bool
    t1 = program_passes P

    t2 : Bool
    t2 = names_pass xs

    t3 : Bool
    t3 = is_or n

    t4 : Bool
    t4 = statements_pass n P

    t5 : Bool
    t5 = no_interference n

    t6 : Bool
    t6 = in_scope n []

    t7 : Bool
    t7 = query_locals n q

    t8 : Bool
    t8 = all (λ x. ltb x N) nums

    t9 : Bool
    t9 = leb N (suc last_number)

    t10 : Bool
    t10 = leb (parts n) limit

    to_it : T (t1 && t2 && t3 && t4 && t5 && t6 && t7 && t8 && t9 && t10) → Formed limit P xs c
    to_it h =
        let a9 = (and_T (t1 && t2 && t3 && t4 && t5 && t6 && t7 && t8 && t9) t10).0 h in
        let a8 = (and_T (t1 && t2 && t3 && t4 && t5 && t6 && t7 && t8) t9).0 a9.0 in
        let a7 = (and_T (t1 && t2 && t3 && t4 && t5 && t6 && t7) t8).0 a8.0 in
        let a6 = (and_T (t1 && t2 && t3 && t4 && t5 && t6) t7).0 a7.0 in
        let a5 = (and_T (t1 && t2 && t3 && t4 && t5) t6).0 a6.0 in
        let a4 = (and_T (t1 && t2 && t3 && t4) t5).0 a5.0 in
        let a3 = (and_T (t1 && t2 && t3) t4).0 a4.0 in
        let a2 = (and_T (t1 && t2) t3).0 a3.0 in
        let a1 = (and_T t1 t2).0 a2.0 in
        let b = (below_T nums N).0 a7.1 in
        record {
          program = a1.0;
          names = a1.1;
          top_or = a2.1;
          statements = a3.1;
          scopes = ok_from n N [] a4.1 a5.1 (below_right (range 0 q) (all_numbers n) N b) (λ x i j. j);
          query = (query_T n q).0 a6.1;
          above = (range_below q N).0 (below_left (range 0 q) (all_numbers n) N b);
          last = leb→le N (suc last_number) a8.1;
          fit = leb→le (parts n) limit a9.1;
        }

    from_it : Formed limit P xs c → T (t1 && t2 && t3 && t4 && t5 && t6 && t7 && t8 && t9 && t10)
    from_it f =
        let b : Below nums N = below_append (range 0 q) (all_numbers n) N ((range_below q N).1 f.above) (ok_numbers n N [] f.scopes (λ x i. absurd i)) in
        let a1 = (and_T t1 t2).1 (f.program, f.names) in
        let a2 = (and_T (t1 && t2) t3).1 (a1, f.top_or) in
        let a3 = (and_T (t1 && t2 && t3) t4).1 (a2, f.statements) in
        let a4 = (and_T (t1 && t2 && t3 && t4) t5).1 (a3, ok_apart_test n N [] f.scopes) in
        let a5 = (and_T (t1 && t2 && t3 && t4 && t5) t6).1 (a4, ok_scope_test n N [] f.scopes) in
        let a6 = (and_T (t1 && t2 && t3 && t4 && t5 && t6) t7).1 (a5, (query_T n q).1 f.query) in
        let a7 = (and_T (t1 && t2 && t3 && t4 && t5 && t6 && t7) t8).1 (a6, (below_T nums N).1 b) in
        let a8 = (and_T (t1 && t2 && t3 && t4 && t5 && t6 && t7 && t8) t9).1 (a7, le→leb N (suc last_number) f.last) in
        (and_T (t1 && t2 && t3 && t4 && t5 && t6 && t7 && t8 && t9) t10).1 (a8, le→leb (parts n) limit f.fit)
