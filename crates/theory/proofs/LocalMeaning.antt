-- What the two goals of rules 2, 4, 5 and 6 say of each other.
use mathlib.Core.Path.{◌≡◌, refl, ap, sym, ◌∙◌, subst}
use mathlib.Core.Logic.{◌↔◌, ◌⊎◌, inl, inr}
use mathlib.Core.List.{List, [], ◌∷◌, ◌++◌, map, append-nil}
use mathlib.Core.Option.{Option, some, none}
use Prim.Native.Nat.{ℕ, zero, suc, ◌+◌, ◌≤◌, ◌<◌}
use native.Mathlib.Omega.{arith}
use Rattle.constraint.specs.Tree.{Tree}
use Rattle.constraint.specs.Constraint.{Store, Asg, Sats, In, Off, vars_all}
use Rattle.constraint.proofs.Lists.{In-append}
use Rattle.constraint.proofs.Entail.{sats_append}
use Rattle.akl.specs.Base.{Name, size, range}
use Rattle.akl.specs.Syntax.{Var, number, level, Op, Stmt, atom, call, hide, choice, Clauses, no_more, clause, Program, defined, opened}
use Rattle.akl.specs.Configuration.{Kind, goal, member, guarded, Node, or, and, stmt, choice_box, guard, Nodes, nil, cons, ◌+n◌, one}
use Rattle.akl.specs.Rules.{fresh, guarded_goals, number_of}
use Rattle.theory.specs.Meaning.{leaf, look, Model, Holds, SomeClause, BodyHolds, Atoms, hidden_locals, nothing, HoldsWith, All, Any}
use Rattle.akl.specs.WellFormed.{numbers, clauses_numbers}
use Rattle.theory.specs.Scope.{Sub, Disjoint, Below, Fits, Shared, Ok, OkAll}
use Rattle.theory.specs.Entails.{Entails}
use Rattle.theory.proofs.Statements.{On, on_left, on_right, open_iff, holds_on, map_map, atom_unfolds}
use Rattle.theory.proofs.Agreement.{Agree, agree_sym, agree_on, sats_on, hidden_In, all_on}
use Rattle.theory.proofs.Lists.{ok_append, all_append}
use Rattle.theory.proofs.Context.{below_append}
use Rattle.theory.proofs.Locals.{extend_off, off_agree, back, back_off, back_agree, back_of, range_In, range_new, assign, assign_map, assign_off, size_map, size_range}
use Rattle.theory.proofs.Closed.{ClosedList, list_number}

-- ---------------------------------------------------------------------------------------------
-- 2 program atom: P has the definition p(..) := b, whose body has no variables but its parameters.

module _ (P : Program) (q : ℕ) (xs : List ℕ) (θ : Store) (p : Name) (ws : List Var) (b : Stmt) (is : defined P p (size ws) ≡ some b) (closed : ClosedList ws) (no_numbers : (x : ℕ) → In x (numbers b) → ⊥) where
  zs : List ℕ
  zs = map number_of ws

  values : Asg → List Tree
  values ρ = map (look ρ []) ws

  same_values : (ρ : Asg) → values ρ ≡ map ρ zs ++ []
  unfolding values zs
  same_values ρ = ap (map (look ρ [])) (sym (list_number ws closed)) ∙ map_map number (look ρ []) ρ (λ x. refl) (map number_of ws) ∙ sym (append-nil (map ρ (map number_of ws)))

  body_iff : (ρ : Asg) → Atoms P p (values ρ) ↔ Holds (opened b ws) (Atoms P) ρ []
  unfolding values zs
  body_iff ρ = (λ h. to_it ((atom_unfolds P p (values ρ)).0 h), λ h. (atom_unfolds P p (values ρ)).1 (from_it h))
    where
      is' : defined P p (size (values ρ)) ≡ some b
      is' = ap (defined P p) (size_map (look ρ []) ws) ∙ is

      o : Holds b (Atoms P) ρ (map ρ zs ++ []) ↔ Holds (opened b (map number zs)) (Atoms P) ρ []
      o = open_iff (Atoms P) ρ zs b []

      to_it : BodyHolds (Atoms P) (values ρ) (defined P p (size (values ρ))) → Holds (opened b ws) (Atoms P) ρ []
      to_it h =
          let h1 : Holds b (Atoms P) (λ x. leaf) (values ρ) = subst (BodyHolds (Atoms P) (values ρ)) is' h in
          let h2 : Holds b (Atoms P) ρ (values ρ) = holds_on (Atoms P) (λ x. leaf) ρ b (values ρ) (λ x i. absurd (no_numbers x i)) h1 in
          subst (λ us. Holds (opened b us) (Atoms P) ρ []) (list_number ws closed) (o.0 (subst (Holds b (Atoms P) ρ) (same_values ρ) h2))

      from_it : Holds (opened b ws) (Atoms P) ρ [] → BodyHolds (Atoms P) (values ρ) (defined P p (size (values ρ)))
      from_it h =
          let h1 : Holds b (Atoms P) ρ (map ρ zs ++ []) = o.1 (subst (λ us. Holds (opened b us) (Atoms P) ρ []) (sym (list_number ws closed)) h) in
          let h2 : Holds b (Atoms P) ρ (values ρ) = subst (Holds b (Atoms P) ρ) (sym (same_values ρ)) h1 in
          subst (BodyHolds (Atoms P) (values ρ)) (sym is') (holds_on (Atoms P) ρ (λ x. leaf) b (values ρ) (λ x i. absurd (no_numbers x i)) h2)

  pub call_to : (M M' : ℕ) → Entails (Atoms P) q M M' xs θ (stmt (call p ws)) (stmt (opened b ws))
  unfolding values
  call_to M M' w w' u u' a ρ s k f f' x = ((body_iff ρ).0 x.0, x.1)

  pub call_from : (M M' : ℕ) → Entails (Atoms P) q M M' xs θ (stmt (opened b ws)) (stmt (call p ws))
  unfolding values
  call_from M M' w w' u u' a ρ s k f f' x = ((body_iff ρ).1 x.0, x.1)

-- ---------------------------------------------------------------------------------------------
-- Trees for hidden variables, or fresh variables that have them.

module _ (Q : Model) (q : ℕ) where
  -- a statement whose variables are below N, with the trees that ρ gives to fresh ones
  opened_to : (N n : ℕ) (s : Stmt) (ts : List Tree) (ρ : Asg) → q ≤ N → Below (numbers s) N → size ts ≡ n → Holds s Q ρ ts → Holds (opened s (fresh N n)) Q (assign N ts ρ) []
  opened_to N n s ts ρ l lo e h = (open_iff Q (assign N ts ρ) (range N n) s []).0 (subst (Holds s Q (assign N ts ρ)) (sym (assign_map N n ts ρ e) ∙ sym (append-nil _)) (holds_on Q ρ (assign N ts ρ) s ts (λ x i. off_agree q [] (range N n) (numbers s) (range_new N n (numbers s) lo) ρ (assign N ts ρ) (assign_off q N n ts ρ l e) x (inl i)) h))

  opened_from : (N n : ℕ) (s : Stmt) (ρ ρ' : Asg) → Below (numbers s) N → Off (hidden_locals q (range N n)) ρ ρ' → Holds (opened s (fresh N n)) Q ρ' [] → Holds s Q ρ (map ρ' (range N n))
  opened_from N n s ρ ρ' lo o h = holds_on Q ρ' ρ s (map ρ' (range N n)) (λ x i. sym (off_agree q [] (range N n) (numbers s) (range_new N n (numbers s) lo) ρ ρ' o x (inl i))) (subst (Holds s Q ρ') (append-nil _) ((open_iff Q ρ' (range N n) s []).1 h))

  trees_size : (N n : ℕ) (ρ : Asg) → size (map ρ (range N n)) ≡ n
  trees_size N n ρ = size_map ρ (range N n) ∙ size_range N n

  -- 4 hiding
  module _ (N : ℕ) (qN : q ≤ N) (xs : List ℕ) (θ : Store) (vs : List ℕ) (σ : Store) (l r : Nodes member) (n : ℕ) (c : Stmt) where
    abbrev before : Node goal
    before = and vs σ (l +n cons (stmt (hide n c)) r)

    abbrev after : Node goal
    after = and (vs ++ range N n) σ (l +n cons (stmt (opened c (fresh N n))) r)

    module _ (w : Ok before N xs) (u : Below xs N) where
      ys : List ℕ
      ys = xs ++ vs

      low : Below ys N
      unfolding ys
      low = below_append xs vs N u w.1

      new : Disjoint (range N n) ys
      new = range_new N n ys low

      ok_l : OkAll l N ys
      unfolding ys
      ok_l = ((ok_append l (cons (stmt (hide n c)) r) N ys).0 w.4).0

      ok_r : OkAll r N ys
      unfolding ys
      ok_r = ((ok_append l (cons (stmt (hide n c)) r) N ys).0 w.4).1.1

      low_c : Below (numbers c) N
      unfolding ys numbers
      low_c x i = low x (((ok_append l (cons (stmt (hide n c)) r) N ys).0 w.4).1.0 x i)

    pub hide_to : (M' : ℕ) → Entails Q q N M' xs θ before after
    unfolding ys
    hide_to M' w w' u u' a ρ s b f f' x = (ρ'', extend_off q vs (range N n) (ys w u) (new w u) ρ ρ' ρ'' x.1 off, sats_on ρ' ρ'' σ (agree_on q (ys w u) (vars_all σ) ρ' ρ'' agree w.3) x.2, (all_append Q q ρ'' l (cons (stmt (opened c (fresh N n))) r)).1 (all_on Q q l N (ys w u) (ok_l w u) ρ' ρ'' agree h.0, ((opened_to N n c t.0 ρ' qN (low_c w u) t.1 t.2, tt), all_on Q q r N (ys w u) (ok_r w u) ρ' ρ'' agree h.1.1)), holds_on Q ρ' ρ'' b [] (λ y i. agree y (inl ((In-append y xs vs).1 (f y i)))) x.4)
      where
        ρ' : Asg
        ρ' = x.0

        h : All l Q q ρ' × All (cons (stmt (hide n c)) r) Q q ρ'
        h = (all_append Q q ρ' l (cons (stmt (hide n c)) r)).0 x.3

        t : (us : List Tree) × (size us ≡ n) × Holds c Q ρ' us
        t = h.1.0.0

        ρ'' : Asg
        ρ'' = assign N t.0 ρ'

        off : Off (hidden_locals q (range N n)) ρ' ρ''
        off = assign_off q N n t.0 ρ' qN t.1

        agree : Agree q (ys w u) ρ' ρ''
        agree = off_agree q vs (range N n) (ys w u) (new w u) ρ' ρ'' off

    pub hide_from : (M : ℕ) → Entails Q q M N xs θ after before
    unfolding ys
    hide_from M w' w u' u a ρ s b f' f x = (ρ', back_off q vs (range N n) (ys w u) (new w u) ρ ρ'' x.1, sats_on ρ'' ρ' σ (agree_on q (ys w u) (vars_all σ) ρ'' ρ' agree w.3) x.2, (all_append Q q ρ' l (cons (stmt (hide n c)) r)).1 (all_on Q q l N (ys w u) (ok_l w u) ρ'' ρ' agree h.0, (((map ρ'' (range N n), trees_size N n ρ'', opened_from N n c ρ' ρ'' (low_c w u) (back_of q vs (range N n) (ys w u) (new w u) ρ ρ'') h.1.0.0), tt), all_on Q q r N (ys w u) (ok_r w u) ρ'' ρ' agree h.1.1)), holds_on Q ρ'' ρ' b [] (λ y i. agree y (inl ((In-append y xs vs).1 (f y i)))) x.4)
      where
        ρ'' : Asg
        ρ'' = x.0

        h : All l Q q ρ'' × All (cons (stmt (opened c (fresh N n))) r) Q q ρ''
        h = (all_append Q q ρ'' l (cons (stmt (opened c (fresh N n))) r)).0 x.3

        ρ' : Asg
        ρ' = back q vs (range N n) (ys w u) (new w u) ρ ρ''

        agree : Agree q (ys w u) ρ'' ρ'
        agree = back_agree q vs (range N n) (ys w u) (new w u) ρ ρ''

  -- 5 choice
  clauses_iff : (cs : Clauses) (N M : ℕ) → q ≤ N → N ≤ M → (ρ : Asg) → Below (clauses_numbers cs) N → SomeClause cs Q ρ [] ↔ Any (guarded_goals cs M) Q q ρ nothing
  unfolding guarded_goals numbers
  clauses_iff no_more N M l m ρ lo = (λ h. h, λ h. h)
  clauses_iff (clause n g b cs) N M l m ρ lo = (to_it (clauses_iff cs N (M + n) l (omega arith) ρ lo_cs).0, from_it (clauses_iff cs N (M + n) l (omega arith) ρ lo_cs).1)
    where
      lo_g : Below (numbers g) M
      lo_g x i = omega (arith, lo x ((In-append x (numbers g ++ numbers b) (clauses_numbers cs)).1 (inl ((In-append x (numbers g) (numbers b)).1 (inl i)))))

      lo_b : Below (numbers b) M
      lo_b x i = omega (arith, lo x ((In-append x (numbers g ++ numbers b) (clauses_numbers cs)).1 (inl ((In-append x (numbers g) (numbers b)).1 (inr i)))))

      lo_cs : Below (clauses_numbers cs) N
      lo_cs x i = lo x ((In-append x (numbers g ++ numbers b) (clauses_numbers cs)).1 (inr i))

      to_it : (SomeClause cs Q ρ [] → Any (guarded_goals cs (M + n)) Q q ρ nothing) → SomeClause (clause n g b cs) Q ρ [] → Any (guarded_goals (clause n g b cs) M) Q q ρ nothing
      to_it ih (inl h) = inl ((assign M h.0 ρ, assign_off q M n h.0 ρ (omega arith) h.1, tt, ((opened_to M n g h.0 ρ (omega arith) lo_g h.1 h.2, tt), tt), opened_to M n b h.0 ρ (omega arith) lo_b h.1 h.3), tt)
      to_it ih (inr h) = inr (ih h)

      from_it : (Any (guarded_goals cs (M + n)) Q q ρ nothing → SomeClause cs Q ρ []) → Any (guarded_goals (clause n g b cs) M) Q q ρ nothing → SomeClause (clause n g b cs) Q ρ []
      from_it ih (inl h) =
          let ρ' = h.0.0 in
          inl (map ρ' (range M n), trees_size M n ρ', opened_from M n g ρ ρ' lo_g h.0.1 h.0.3.0.0, opened_from M n b ρ ρ' lo_b h.0.1 h.0.4)
      from_it ih (inr h) = inr (ih h)

  module _ (N : ℕ) (qN : q ≤ N) (xs : List ℕ) (θ : Store) (op : Op) (cs : Clauses) where
    low_cs : Ok (stmt (choice op cs)) N xs → Below xs N → Below (clauses_numbers cs) N
    unfolding numbers
    low_cs w u x i = u x (w x i)

    pub choose_to : (M' : ℕ) → Entails Q q N M' xs θ (stmt (choice op cs)) (choice_box op (guarded_goals cs N))
    choose_to M' w w' u u' a ρ s b f f' x = ((clauses_iff cs N N qN (omega arith) ρ (low_cs w u)).0 x.0, x.1)

    pub choose_from : (M : ℕ) → Entails Q q M N xs θ (choice_box op (guarded_goals cs N)) (stmt (choice op cs))
    choose_from M w' w u' u a ρ s b f' f x = ((clauses_iff cs N N qN (omega arith) ρ (low_cs w u)).1 x.0, x.1)

  -- 6 promotion
  module _ (N : ℕ) (xs : List ℕ) (θ : Store) (ws : List ℕ) (τ : Store) (l r : Nodes member) (op : Op) (vs : List ℕ) (σ : Store) (c : Stmt) where
    abbrev asked : Node member
    asked = choice_box op (one (guard (and vs σ nil) c))

    abbrev held : Node goal
    held = and ws τ (l +n cons asked r)

    abbrev promoted : Node goal
    promoted = and (ws ++ vs) (τ ++ σ) (l +n cons (stmt c) r)

    module _ (w : Ok held N xs) where
      parts_ok : OkAll l N (xs ++ ws) × OkAll (cons asked r) N (xs ++ ws)
      parts_ok = (ok_append l (cons asked r) N (xs ++ ws)).0 w.4

      apart : Disjoint vs (xs ++ ws)
      apart = parts_ok.1.0.0.0.2

    pub promote_to : (M' : ℕ) → Entails Q q N M' xs θ held promoted
    promote_to M' w w' u u' a ρ s b f f' x = go h.1.0.0
      where
        ρ' : Asg
        ρ' = x.0

        h : All l Q q ρ' × All (cons asked r) Q q ρ'
        h = (all_append Q q ρ' l (cons asked r)).0 x.3

        go : Any (one (guard (and vs σ nil) c)) Q q ρ' nothing → HoldsWith promoted Q q ρ b
        go (inr e) = absurd e
        go (inl g) = (ρ'', extend_off q ws vs (xs ++ ws) (apart w) ρ ρ' ρ'' x.1 g.0.1, (sats_append ρ'' τ σ).1 (sats_on ρ' ρ'' τ (agree_on q (xs ++ ws) (vars_all τ) ρ' ρ'' agree w.3) x.2, g.0.2), (all_append Q q ρ'' l (cons (stmt c) r)).1 (all_on Q q l N (xs ++ ws) (parts_ok w).0 ρ' ρ'' agree h.0, ((g.0.4, tt), all_on Q q r N (xs ++ ws) (parts_ok w).1.1 ρ' ρ'' agree h.1.1)), holds_on Q ρ' ρ'' b [] (λ y i. agree y (inl ((In-append y xs ws).1 (f y i)))) x.4)
          where
            ρ'' : Asg
            ρ'' = g.0.0

            agree : Agree q (xs ++ ws) ρ' ρ''
            agree = off_agree q ws vs (xs ++ ws) (apart w) ρ' ρ'' g.0.1

    pub promote_from : (M : ℕ) → Entails Q q M N xs θ promoted held
    promote_from M w' w u' u a ρ s b f' f x = (ρ', back_off q ws vs (xs ++ ws) (apart w) ρ ρ'' x.1, sats_on ρ'' ρ' τ (agree_on q (xs ++ ws) (vars_all τ) ρ'' ρ' agree w.3) t.0, (all_append Q q ρ' l (cons asked r)).1 (all_on Q q l N (xs ++ ws) (parts_ok w).0 ρ'' ρ' agree h.0, ((inl ((ρ'', back_of q ws vs (xs ++ ws) (apart w) ρ ρ'', t.1, tt, h.1.0.0), tt), tt), all_on Q q r N (xs ++ ws) (parts_ok w).1.1 ρ'' ρ' agree h.1.1)), holds_on Q ρ'' ρ' b [] (λ y i. agree y (inl ((In-append y xs ws).1 (f y i)))) x.4)
      where
        ρ'' : Asg
        ρ'' = x.0

        h : All l Q q ρ'' × All (cons (stmt c) r) Q q ρ''
        h = (all_append Q q ρ'' l (cons (stmt c) r)).0 x.3

        t : Sats ρ'' τ × Sats ρ'' σ
        t = (sats_append ρ'' τ σ).0 x.2

        ρ' : Asg
        ρ' = back q ws vs (xs ++ ws) (apart w) ρ ρ''

        agree : Agree q (xs ++ ws) ρ'' ρ'
        agree = back_agree q ws vs (xs ++ ws) (apart w) ρ ρ''
