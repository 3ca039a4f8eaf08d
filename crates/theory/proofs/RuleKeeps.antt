-- Each rule keeps its goal as it may stand.
use mathlib.Core.Path.{◌≡◌, refl, ap, sym, ◌∙◌, subst}
use mathlib.Core.Logic.{◌↔◌, ◌⊎◌, inl, inr}
use mathlib.Core.List.{List, [], ◌∷◌, ◌++◌, map}
use Prim.Native.Nat.{ℕ, zero, suc, ◌+◌, ◌≤◌, ◌<◌}
use native.Mathlib.Omega.{arith}
use lib.Dec.{T}
use Rattle.constraint.specs.Constraint.{Con, Store, In, vars_all}
use Rattle.constraint.specs.Solve.{distinct}
use Rattle.constraint.proofs.Lists.{In-append, distinct_cons}
use Rattle.akl.specs.Base.{Name, range}
use Rattle.akl.specs.Syntax.{Var, Op, Stmt, atom, call, comp, hide, choice, Clauses, no_more, clause, opened}
use Rattle.akl.specs.Configuration.{Kind, goal, member, guarded, Node, or, and, stmt, choice_box, guard, Nodes, nil, cons, ◌+n◌, one, failure}
use Rattle.akl.specs.Rules.{stored, fresh, guarded_goals, hidden_in}
use Rattle.akl.specs.Stability.{locals, locals_all}
use Rattle.akl.specs.WellFormed.{numbers, clauses_numbers, list_numbers, constraint_numbers}
use Rattle.theory.specs.Scope.{Sub, Disjoint, Below, Shared, SharedAll, Fits, Apart, Ok, OkAll}
use Rattle.theory.proofs.Lists.{ok_append, shared_append, locals_In, apart_append}
use Rattle.theory.proofs.Locals.{range_In, range_new}
use Rattle.theory.proofs.Scopes.{distinct_append, ok_apart_all, ok_below_all, ok_wider_all, ok_more}
use Rattle.theory.proofs.Context.{vars_append, vars_within, below_append}
use Rattle.theory.proofs.Keeping.{Keeps}
use Rattle.theory.proofs.Numbers.{numbers_opened, fresh_opened, stored_numbers}
use Rattle.theory.proofs.Closed.{ClosedCon}

same_le : (N : ℕ) → N ≤ N
same_le N = omega arith

-- without fresh numbers
abbrev pub Keep : (N : ℕ) (xs : List ℕ) {k : Kind} → Node k → Node k → Type 0
Keep N xs n n' = Keeps N N xs n n'

-- In of a join, put left or right
left : (x : ℕ) (a b : List ℕ) → In x a → In x (a ++ b)
left x a b i = (In-append x a b).1 (inl i)

right : (x : ℕ) (a b : List ℕ) → In x b → In x (a ++ b)
right x a b i = (In-append x a b).1 (inr i)

-- a ++ (b ++ c) and (a ++ b) ++ c hold the same
regroup : (a b c : List ℕ) → Sub ((a ++ b) ++ c) (a ++ (b ++ c))
regroup a b c x i = elim ((In-append x (a ++ b) c).0 i) [ inl j ↦ elim ((In-append x a b).0 j) [ inl m ↦ left x a (b ++ c) m | inr m ↦ right x a (b ++ c) (left x b c m) ] | inr j ↦ right x a (b ++ c) (right x b c j) ]

wider : (a b c : List ℕ) → Sub (a ++ b) (a ++ (b ++ c))
wider a b c x i = regroup a b c x (left x (a ++ b) c i)

locals_without : {k : Kind} (l r : Nodes k) (n : Node k) (x : ℕ) → In x (locals_all (l +n r)) → In x (locals_all (l +n cons n r))
unfolding locals
locals_without l r n x i = (locals_In l (cons n r) x).1 (elim ((locals_In l r x).0 i) [ inl j ↦ inl j | inr j ↦ inr (right x (locals n) (locals_all r) j) ])

module _ (N : ℕ) (xs : List ℕ) where
  -- 1
  pub keep_1 : (vs : List ℕ) (σ : Store) (l r : Nodes member) (c : Con Var) → ClosedCon c → Keep N xs (and vs σ (l +n cons (stmt (atom c)) r)) (and vs (σ ++ stored c) (l +n r))
  unfolding locals numbers
  keep_1 vs σ l r c k = record { ok = λ w u. ok_it w; old_or_fresh = λ x i. inl (elim ((In-append x vs (locals_all (l +n r))).0 i) [ inl j ↦ left x vs _ j | inr j ↦ right x vs _ (locals_without l r (stmt (atom c)) x j) ]); share = λ x s. s }
    where
      ok_it : Ok (and vs σ (l +n cons (stmt (atom c)) r)) N xs → Ok (and vs (σ ++ stored c) (l +n r)) N xs
      ok_it w =
          let h = (ok_append l (cons (stmt (atom c)) r) N (xs ++ vs)).0 w.4 in
          let p = (apart_append l (cons (stmt (atom c)) r)).0 w.5 in
          (w.0, w.1, w.2, λ x i. elim ((vars_append σ (stored c) x).0 i) [ inl j ↦ w.3 x j | inr j ↦ h.1.0 x (stored_numbers c k x j) ], (ok_append l r N (xs ++ vs)).1 (h.0, h.1.1), (apart_append l r).1 (p.0, p.1.1, p.2))

  -- 2: the body has no numbers of its own
  pub keep_2 : (p : Name) (ws : List Var) (b : Stmt) → ((x : ℕ) → In x (numbers b) → ⊥) → Keep N xs (stmt (call p ws)) (stmt (opened b ws))
  unfolding locals numbers
  keep_2 p ws b no_numbers = record { ok = λ w u x i. w x (elim (numbers_opened ws x b i) [ inl j ↦ absurd (no_numbers x j) | inr j ↦ j ]); old_or_fresh = λ x i. absurd i; share = λ x s. s }

  -- 3
  pub keep_3 : (vs : List ℕ) (σ : Store) (l r : Nodes member) (a b : Stmt) → Keep N xs (and vs σ (l +n cons (stmt (comp a b)) r)) (and vs σ (l +n cons (stmt a) (cons (stmt b) r)))
  unfolding locals numbers
  keep_3 vs σ l r a b = record { ok = λ w u. ok_it w; old_or_fresh = λ x i. inl (elim ((In-append x vs _).0 i) [ inl j ↦ left x vs _ j | inr j ↦ right x vs _ ((locals_In l (cons (stmt (comp a b)) r) x).1 ((locals_In l (cons (stmt a) (cons (stmt b) r)) x).0 j)) ]); share = λ x s. s }
    where
      ok_it : Ok (and vs σ (l +n cons (stmt (comp a b)) r)) N xs → Ok (and vs σ (l +n cons (stmt a) (cons (stmt b) r))) N xs
      ok_it w =
          let h = (ok_append l (cons (stmt (comp a b)) r) N (xs ++ vs)).0 w.4 in
          let p = (apart_append l (cons (stmt (comp a b)) r)).0 w.5 in
          (w.0, w.1, w.2, w.3, (ok_append l (cons (stmt a) (cons (stmt b) r)) N (xs ++ vs)).1 (h.0, (λ x i. h.1.0 x (left x (numbers a) (numbers b) i), (λ x i. h.1.0 x (right x (numbers a) (numbers b) i), h.1.1))), (apart_append l (cons (stmt a) (cons (stmt b) r))).1 (p.0, (λ x i j. absurd i, (λ x i j. absurd i, p.1.1)), p.2))

  pub distinct_range : (M n : ℕ) → T (distinct (range M n))
  unfolding range distinct
  distinct_range M zero = tt
  distinct_range M (suc n) = (distinct_cons M (range (suc M) n)).1 (λ i. above (range_In M (suc M) n i).0, distinct_range (suc M) n)
    where
      above : suc M ≤ M → ⊥
      above h = omega arith

  -- 4
  pub keep_4 : (vs : List ℕ) (σ : Store) (l r : Nodes member) (n : ℕ) (a : Stmt) → Keeps N (N + n) xs (and vs σ (l +n cons (stmt (hide n a)) r)) (and (vs ++ range N n) σ (l +n cons (stmt (opened a (fresh N n))) r))
  unfolding locals numbers
  keep_4 vs σ l r n a = record { ok = ok_it; old_or_fresh = new_locals; share = λ x s. left x vs (range N n) s }
    where
      new_locals : (x : ℕ) → In x ((vs ++ range N n) ++ locals_all (l +n cons (stmt (opened a (fresh N n))) r)) → In x (vs ++ locals_all (l +n cons (stmt (hide n a)) r)) ⊎ (N ≤ x)
      new_locals x i = elim ((In-append x (vs ++ range N n) _).0 i) [ inl j ↦ elim ((In-append x vs (range N n)).0 j) [ inl m ↦ inl (left x vs _ m) | inr m ↦ inr (range_In x N n m).0 ] | inr j ↦ inl (right x vs _ ((locals_In l (cons (stmt (hide n a)) r) x).1 ((locals_In l (cons (stmt (opened a (fresh N n))) r) x).0 j))) ]

      ok_it : Ok (and vs σ (l +n cons (stmt (hide n a)) r)) N xs → Below xs N → Ok (and (vs ++ range N n) σ (l +n cons (stmt (opened a (fresh N n))) r)) (N + n) xs
      ok_it w u = (distinct_append vs (range N n) w.0 (distinct_range N n) (λ x i j. range_new N n vs w.1 x j i), low, apart_xs, λ x i. wider xs vs (range N n) x (w.3 x i), (ok_append l (cons (stmt (opened a (fresh N n))) r) (N + n) (xs ++ (vs ++ range N n))).1 (widen l h.0, (opened_ok, widen r h.1.1)), (apart_append l (cons (stmt (opened a (fresh N n))) r)).1 (p.0, (λ x i j. absurd i, p.1.1), p.2))
        where
          h : OkAll l N (xs ++ vs) × OkAll (cons (stmt (hide n a)) r) N (xs ++ vs)
          h = (ok_append l (cons (stmt (hide n a)) r) N (xs ++ vs)).0 w.4

          p : Apart l × Apart (cons (stmt (hide n a)) r) × Disjoint (locals_all l) (locals_all (cons (stmt (hide n a)) r))
          p = (apart_append l (cons (stmt (hide n a)) r)).0 w.5

          low : Below (vs ++ range N n) (N + n)
          low x i = elim ((In-append x vs (range N n)).0 i) [ inl j ↦ omega (arith, w.1 x j) | inr j ↦ (range_In x N n j).1 ]

          apart_xs : Disjoint (vs ++ range N n) xs
          apart_xs x i j = elim ((In-append x vs (range N n)).0 i) [ inl m ↦ w.2 x m j | inr m ↦ range_new N n xs u x m j ]

          widen : (ns : Nodes member) → OkAll ns N (xs ++ vs) → OkAll ns (N + n) (xs ++ (vs ++ range N n))
          widen ns k = ok_wider_all ns N (N + n) (xs ++ vs) (xs ++ (vs ++ range N n)) (omega arith) (wider xs vs (range N n)) no_clash k
            where
              no_clash : Disjoint (locals_all ns) (xs ++ (vs ++ range N n))
              no_clash x i j = elim ((In-append x xs (vs ++ range N n)).0 j) [ inl m ↦ ok_apart_all ns N (xs ++ vs) k x i (left x xs vs m) | inr m ↦ elim ((In-append x vs (range N n)).0 m) [ inl o ↦ ok_apart_all ns N (xs ++ vs) k x i (right x xs vs o) | inr o ↦ range_new N n (locals_all ns) (ok_below_all ns N (xs ++ vs) k) x o i ] ]

          opened_ok : Sub (numbers (opened a (fresh N n))) (xs ++ (vs ++ range N n))
          opened_ok x i = elim (fresh_opened a N n x i) [ inl j ↦ wider xs vs (range N n) x (h.1.0 x j) | inr j ↦ right x xs (vs ++ range N n) (right x vs (range N n) j) ]

  -- 5
  goals_ok : (cs : Clauses) (M M' : ℕ) → N ≤ M → M + hidden_in cs ≤ M' → Sub (clauses_numbers cs) xs → Below xs N → OkAll (guarded_goals cs M) M' xs
  unfolding guarded_goals hidden_in numbers locals vars_all
  goals_ok no_more M M' a b s u = tt
  goals_ok (clause n g c cs) M M' a b s u = (((distinct_range M n, (λ x i. omega (arith, (range_In x M n i).1)), (λ x i j. range_new M n xs (λ y k. omega (arith, u y k)) x i j), (λ x i. absurd i), (g_ok, tt), (λ x i j. absurd i, tt)), c_fits, c_below), goals_ok cs (M + n) M' (omega arith) (omega arith) (λ x i. s x (right x (numbers g ++ numbers c) (clauses_numbers cs) i)) u)
    where
      g_in : (x : ℕ) → In x (numbers g) → In x xs
      g_in x i = s x (left x (numbers g ++ numbers c) (clauses_numbers cs) (left x (numbers g) (numbers c) i))

      c_in : (x : ℕ) → In x (numbers c) → In x xs
      c_in x i = s x (left x (numbers g ++ numbers c) (clauses_numbers cs) (right x (numbers g) (numbers c) i))

      g_ok : Sub (numbers (opened g (fresh M n))) (xs ++ range M n)
      g_ok x i = elim (fresh_opened g M n x i) [ inl j ↦ left x xs (range M n) (g_in x j) | inr j ↦ right x xs (range M n) j ]

      c_fits : (x : ℕ) → In x (numbers (opened c (fresh M n))) → In x xs ⊎ In x (range M n)
      c_fits x i = elim (fresh_opened c M n x i) [ inl j ↦ inl (c_in x j) | inr j ↦ inr j ]

      c_below : Below (numbers (opened c (fresh M n))) M'
      c_below x i = elim (c_fits x i) [ inl j ↦ omega (arith, u x j) | inr j ↦ omega (arith, (range_In x M n j).1) ]

  goals_new : (cs : Clauses) (M : ℕ) → N ≤ M → (x : ℕ) → In x (locals_all (guarded_goals cs M)) → N ≤ x
  unfolding guarded_goals locals
  goals_new no_more M a x i = elim i [ ]
  goals_new (clause n g c cs) M a x i = elim ((In-append x (range M n ++ []) (locals_all (guarded_goals cs (M + n)))).0 i) [ inl j ↦ elim ((In-append x (range M n) []).0 j) [ inl m ↦ omega (arith, (range_In x M n m).0) | inr m ↦ absurd m ] | inr j ↦ goals_new cs (M + n) (omega arith) x j ]

  pub keep_5 : (op : Op) (cs : Clauses) → Keeps N (N + hidden_in cs) xs (stmt (choice op cs)) (choice_box op (guarded_goals cs N))
  unfolding locals numbers
  keep_5 op cs = record { ok = λ w u. goals_ok cs N (N + hidden_in cs) (omega arith) (omega arith) w u; old_or_fresh = λ x i. inr (goals_new cs N (omega arith) x i); share = λ x s. s }

  -- 6
  pub keep_6 : (ws : List ℕ) (τ : Store) (l r : Nodes member) (op : Op) (vs : List ℕ) (σ : Store) (c : Stmt) → Keep N xs (and ws τ (l +n cons (choice_box op (one (guard (and vs σ nil) c))) r)) (and (ws ++ vs) (τ ++ σ) (l +n cons (stmt c) r))
  unfolding locals numbers
  keep_6 ws τ l r op vs σ c = record { ok = ok_it; old_or_fresh = λ x i. inl (kept x i); share = λ x s. left x ws vs s }
    where
      m : Node member
      m = choice_box op (one (guard (and vs σ nil) c))

      in_m : (x : ℕ) → In x vs → In x (locals_all (cons m r))
      in_m x i = left x ((vs ++ []) ++ []) (locals_all r) (left x (vs ++ []) [] (left x vs [] i))

      kept : (x : ℕ) → In x ((ws ++ vs) ++ locals_all (l +n cons (stmt c) r)) → In x (ws ++ locals_all (l +n cons m r))
      kept x i = elim ((In-append x (ws ++ vs) _).0 i) [ inl j ↦ elim ((In-append x ws vs).0 j) [ inl k ↦ left x ws _ k | inr k ↦ right x ws _ ((locals_In l (cons m r) x).1 (inr (in_m x k))) ] | inr j ↦ right x ws _ ((locals_In l (cons m r) x).1 (elim ((locals_In l (cons (stmt c) r) x).0 j) [ inl k ↦ inl k | inr k ↦ inr (right x ((vs ++ []) ++ []) (locals_all r) k) ])) ]

      ok_it : Ok (and ws τ (l +n cons m r)) N xs → Below xs N → Ok (and (ws ++ vs) (τ ++ σ) (l +n cons (stmt c) r)) N xs
      ok_it w u = (distinct_append ws vs w.0 g.0 (λ x i j. g.2 x j (right x xs ws i)), below_append ws vs N w.1 g.1, apart_xs, vars_ok, (ok_append l (cons (stmt c) r) N (xs ++ (ws ++ vs))).1 (widen l h.0 apart_l, (c_ok, widen r h.1.1 apart_r)), (apart_append l (cons (stmt c) r)).1 (p.0, (λ x i j. absurd i, p.1.1), λ x i j. p.2 x i (right x ((vs ++ []) ++ []) (locals_all r) j)))
        where
          h : OkAll l N (xs ++ ws) × OkAll (cons m r) N (xs ++ ws)
          h = (ok_append l (cons m r) N (xs ++ ws)).0 w.4

          p : Apart l × Apart (cons m r) × Disjoint (locals_all l) (locals_all (cons m r))
          p = (apart_append l (cons m r)).0 w.5

          g : Ok (and vs σ nil) N (xs ++ ws)
          g = h.1.0.0.0

          apart_xs : Disjoint (ws ++ vs) xs
          apart_xs x i j = elim ((In-append x ws vs).0 i) [ inl k ↦ w.2 x k j | inr k ↦ g.2 x k (left x xs ws j) ]

          vars_ok : Sub (vars_all (τ ++ σ)) (xs ++ (ws ++ vs))
          vars_ok x i = elim ((vars_append τ σ x).0 i) [ inl j ↦ wider xs ws vs x (w.3 x j) | inr j ↦ regroup xs ws vs x (g.3 x j) ]

          apart_l : Disjoint (locals_all l) vs
          apart_l x i j = p.2 x i (in_m x j)

          apart_r : Disjoint (locals_all r) vs
          apart_r x i j = p.1.0 x (left x (vs ++ []) [] (left x vs [] j)) i

          widen : (ns : Nodes member) → OkAll ns N (xs ++ ws) → Disjoint (locals_all ns) vs → OkAll ns N (xs ++ (ws ++ vs))
          widen ns k d = ok_wider_all ns N N (xs ++ ws) (xs ++ (ws ++ vs)) (same_le N) (wider xs ws vs) no_clash k
            where
              no_clash : Disjoint (locals_all ns) (xs ++ (ws ++ vs))
              no_clash x i j = elim ((In-append x xs (ws ++ vs)).0 j) [ inl q ↦ ok_apart_all ns N (xs ++ ws) k x i (left x xs ws q) | inr q ↦ elim ((In-append x ws vs).0 q) [ inl o ↦ ok_apart_all ns N (xs ++ ws) k x i (right x xs ws o) | inr o ↦ d x i o ] ]

          c_ok : Sub (numbers c) (xs ++ (ws ++ vs))
          c_ok x i = elim (h.1.0.0.1 x i) [ inl j ↦ wider xs ws vs x j | inr j ↦ right x xs (ws ++ vs) (right x ws vs j) ]

  -- 7, 8 and 11: some of the guarded goals are left
  pub keep_7 : (op : Op) (l r : Nodes guarded) (g : Node guarded) → Keep N xs (choice_box op (l +n cons g r)) (choice_box op (l +n one g))
  unfolding locals
  keep_7 op l r g = record { ok = λ w u. let h = (ok_append l (cons g r) N xs).0 w in (ok_append l (one g) N xs).1 (h.0, (h.1.0, tt)); old_or_fresh = λ x i. inl ((locals_In l (cons g r) x).1 (elim ((locals_In l (one g) x).0 i) [ inl j ↦ inl j | inr j ↦ inr (elim ((In-append x (locals g) []).0 j) [ inl k ↦ left x (locals g) (locals_all r) k | inr k ↦ absurd k ]) ])); share = λ x s. s }

  pub keep_8 : (op : Op) (l r : Nodes guarded) (g : Node guarded) → Keep N xs (choice_box op (l +n cons g r)) (choice_box op (one g))
  unfolding locals
  keep_8 op l r g = record { ok = λ w u. (((ok_append l (cons g r) N xs).0 w).1.0, tt); old_or_fresh = λ x i. inl ((locals_In l (cons g r) x).1 (inr (elim ((In-append x (locals g) []).0 i) [ inl k ↦ left x (locals g) (locals_all r) k | inr k ↦ absurd k ]))); share = λ x s. s }

  pub keep_11 : (op : Op) (l r : Nodes guarded) (g : Node guarded) → Keep N xs (choice_box op (l +n cons g r)) (choice_box op (l +n r))
  unfolding locals
  keep_11 op l r g = record { ok = λ w u. let h = (ok_append l (cons g r) N xs).0 w in (ok_append l r N xs).1 (h.0, h.1.1); old_or_fresh = λ x i. inl (locals_without l r g x i); share = λ x s. s }

  -- 9, 10
  pub keep_failure : (n : Node goal) → Keep N xs n failure
  unfolding locals
  keep_failure n = record { ok = λ w u. tt; old_or_fresh = λ x i. absurd i; share = λ x s. tt }

  -- 12
  pub keep_12 : (vs : List ℕ) (σ : Store) (l r : Nodes member) (op : Op) (g : Node guarded) (gs : Nodes guarded) → Keep N xs (and vs σ (l +n cons (choice_box op (cons g gs)) r)) (or (cons (and vs σ (l +n cons (choice_box op (one g)) r)) (one (and vs σ (l +n cons (choice_box op gs) r)))))
  unfolding locals
  keep_12 vs σ l r op g gs = record { ok = λ w u. (copy w (choice_box op (one g)) (((ok_append l (cons c r) N (xs ++ vs)).0 w.4).1.0.0, tt) in_first, (copy w (choice_box op gs) ((ok_append l (cons c r) N (xs ++ vs)).0 w.4).1.0.1 in_rest, tt)); old_or_fresh = λ x i. inl (both x i); share = λ x s. (s, (s, tt)) }
    where
      c : Node member
      c = choice_box op (cons g gs)

      in_first : Sub (locals (choice_box op (one g))) (locals c)
      in_first x i = elim ((In-append x (locals g) []).0 i) [ inl j ↦ left x (locals g) (locals_all gs) j | inr j ↦ absurd j ]

      in_rest : Sub (locals (choice_box op gs)) (locals c)
      in_rest x i = right x (locals g) (locals_all gs) i

      part : (d : Node member) → Sub (locals d) (locals c) → (x : ℕ) → In x (vs ++ locals_all (l +n cons d r)) → In x (vs ++ locals_all (l +n cons c r))
      part d s x i = elim ((In-append x vs _).0 i) [ inl j ↦ left x vs _ j | inr j ↦ right x vs _ ((locals_In l (cons c r) x).1 (elim ((locals_In l (cons d r) x).0 j) [ inl k ↦ inl k | inr k ↦ inr (elim ((In-append x (locals d) (locals_all r)).0 k) [ inl o ↦ left x (locals c) (locals_all r) (s x o) | inr o ↦ right x (locals c) (locals_all r) o ]) ])) ]

      both : (x : ℕ) → In x ((vs ++ locals_all (l +n cons (choice_box op (one g)) r)) ++ ((vs ++ locals_all (l +n cons (choice_box op gs) r)) ++ [])) → In x (vs ++ locals_all (l +n cons c r))
      both x i = elim ((In-append x (vs ++ locals_all (l +n cons (choice_box op (one g)) r)) _).0 i) [ inl j ↦ part (choice_box op (one g)) in_first x j | inr j ↦ elim ((In-append x (vs ++ locals_all (l +n cons (choice_box op gs) r)) []).0 j) [ inl k ↦ part (choice_box op gs) in_rest x k | inr k ↦ absurd k ] ]

      copy : Ok (and vs σ (l +n cons c r)) N xs → (d : Node member) → Ok d N (xs ++ vs) → Sub (locals d) (locals c) → Ok (and vs σ (l +n cons d r)) N xs
      copy w d k s =
          let h = (ok_append l (cons c r) N (xs ++ vs)).0 w.4 in
          let p = (apart_append l (cons c r)).0 w.5 in
          (w.0, w.1, w.2, w.3, (ok_append l (cons d r) N (xs ++ vs)).1 (h.0, (k, h.1.1)), (apart_append l (cons d r)).1 (p.0, (λ x i j. p.1.0 x (s x i) j, p.1.1), λ x i j. p.2 x i (elim ((In-append x (locals d) (locals_all r)).0 j) [ inl o ↦ left x (locals c) (locals_all r) (s x o) | inr o ↦ right x (locals c) (locals_all r) o ])))

  -- 13
  pub keep_13 : (op : Op) (l r : Nodes guarded) (g : Node goal) (gs : Nodes goal) (b : Stmt) → Keep N xs (choice_box op (l +n cons (guard (or (cons g gs)) b) r)) (choice_box op (l +n cons (guard g b) (cons (guard (or gs) b) r)))
  unfolding locals
  keep_13 op l r g gs b = record { ok = λ w u. ok_it w; old_or_fresh = λ x i. inl ((locals_In l (cons (guard (or (cons g gs)) b) r) x).1 (elim ((locals_In l (cons (guard g b) (cons (guard (or gs) b) r)) x).0 i) [ inl j ↦ inl j | inr j ↦ inr (again x j) ])); share = λ x s. s }
    where
      again : (x : ℕ) → In x (locals g ++ (locals_all gs ++ locals_all r)) → In x ((locals g ++ locals_all gs) ++ locals_all r)
      again x j = elim ((In-append x (locals g) _).0 j) [ inl k ↦ left x (locals g ++ locals_all gs) _ (left x (locals g) _ k) | inr k ↦ elim ((In-append x (locals_all gs) (locals_all r)).0 k) [ inl o ↦ left x (locals g ++ locals_all gs) _ (right x (locals g) _ o) | inr o ↦ right x (locals g ++ locals_all gs) _ o ] ]

      ok_it : OkAll (l +n cons (guard (or (cons g gs)) b) r) N xs → OkAll (l +n cons (guard g b) (cons (guard (or gs) b) r)) N xs
      ok_it w =
          let h = (ok_append l (cons (guard (or (cons g gs)) b) r) N xs).0 w in
          let k = h.1.0 in
          (ok_append l (cons (guard g b) (cons (guard (or gs) b) r)) N xs).1 (h.0, ((k.0.0, (λ x i. elim (k.1 x i) [ inl j ↦ inl j | inr s ↦ inr s.0 ]), k.2), ((k.0.1, (λ x i. elim (k.1 x i) [ inl j ↦ inl j | inr s ↦ inr s.1 ]), k.2), h.1.1)))

  -- 14
  pub keep_14 : (l r ns : Nodes goal) → Keep N xs (or (l +n cons (or ns) r)) (or (l +n (ns +n r)))
  unfolding locals
  keep_14 l r ns = record { ok = λ w u. let h = (ok_append l (cons (or ns) r) N xs).0 w in (ok_append l (ns +n r) N xs).1 (h.0, (ok_append ns r N xs).1 (h.1.0, h.1.1)); old_or_fresh = λ x i. inl ((locals_In l (cons (or ns) r) x).1 (elim ((locals_In l (ns +n r) x).0 i) [ inl j ↦ inl j | inr j ↦ inr (elim ((locals_In ns r x).0 j) [ inl k ↦ left x (locals_all ns) (locals_all r) k | inr k ↦ right x (locals_all ns) (locals_all r) k ]) ])); share = λ x s. let h = (shared_append l (cons (or ns) r) x).0 s in (shared_append l (ns +n r) x).1 (h.0, (shared_append ns r x).1 (h.1.0, h.1.1)) }
