-- The context theorem: what a node entails where its environment holds, it entails in its context.
use mathlib.Core.Path.{◌≡◌, refl, ap, sym, ◌∙◌, subst}
use mathlib.Core.Logic.{◌↔◌, ◌⊎◌, inl, inr}
use mathlib.Core.List.{List, [], ◌∷◌, ◌++◌}
use Prim.Native.Nat.{ℕ}
use Rattle.constraint.specs.Constraint.{Store, Asg, Sats, In, Off, vars, vars_all}
use Rattle.constraint.proofs.Lists.{In-append}
use Rattle.constraint.proofs.Entail.{sats_append}
use Rattle.akl.specs.Syntax.{Op, Stmt}
use Rattle.akl.specs.Configuration.{Kind, goal, member, guarded, Node, or, and, stmt, choice_box, guard, Nodes, nil, cons, ◌+n◌, Ctx, top, in_or, in_and, in_choice, in_guard, plug, env}
use Rattle.theory.specs.Meaning.{Model, Holds, hidden_locals, nothing, HoldsWith, All, Any}
use Rattle.theory.specs.Scope.{Sub, Disjoint, Below, Fits, Shared, SharedAll, Ok, OkAll, scope}
use Rattle.theory.specs.Entails.{Entails}
use Rattle.theory.proofs.Statements.{On}
use Rattle.theory.proofs.Agreement.{sats_on, hidden_In, nothing_fits}
use Rattle.theory.proofs.Lists.{ok_append, ok_mid, shared_append, all_mid, any_mid}

-- the variables of two stores
pub vars_append : (θ σ : Store) (x : ℕ) → In x (vars_all (θ ++ σ)) ↔ (In x (vars_all θ) ⊎ In x (vars_all σ))
unfolding vars_all
vars_append [] σ x = (λ h. inr h, λ h. elim h [ inl i ↦ absurd i | inr i ↦ i ])
vars_append (c ∷ θ) σ x =
    let ih = vars_append θ σ x in
    let a = In-append x (vars c) (vars_all (θ ++ σ)) in
    let b = In-append x (vars c) (vars_all θ) in
    (λ h. elim (a.0 h) [ inl i ↦ inl (b.1 (inl i)) | inr i ↦ elim (ih.0 i) [ inl j ↦ inl (b.1 (inr j)) | inr j ↦ inr j ] ], λ h. a.1 (elim h [ inl i ↦ elim (b.0 i) [ inl j ↦ inl j | inr j ↦ inr (ih.1 (inl j)) ] | inr i ↦ inr (ih.1 (inr i)) ]))

pub vars_within : (θ σ : Store) (xs vs : List ℕ) → Sub (vars_all θ) xs → Sub (vars_all σ) (xs ++ vs) → Sub (vars_all (θ ++ σ)) (xs ++ vs)
vars_within θ σ xs vs a b x i = elim ((vars_append θ σ x).0 i) [ inl j ↦ (In-append x xs vs).1 (inl (a x j)) | inr j ↦ b x j ]

pub below_append : (xs vs : List ℕ) (N : ℕ) → Below xs N → Below vs N → Below (xs ++ vs) N
below_append xs vs N a b x i = elim ((In-append x xs vs).0 i) [ inl j ↦ a x j | inr j ↦ b x j ]

-- a box's hidden locals are not in the stores around it, so that these still hold
pub env_kept : (q : ℕ) (θ : Store) (xs vs : List ℕ) (ρ ρ' : Asg) → Sub (vars_all θ) xs → Disjoint vs xs → Off (hidden_locals q vs) ρ ρ' → Sats ρ θ → Sats ρ' θ
env_kept q θ xs vs ρ ρ' a d o s = sats_on ρ ρ' θ (λ x i. o x (λ j. d x ((hidden_In q x vs).0 j).0 (a x i))) s

module _ (Q : Model) (q N N' : ℕ) where
  in_or_box : (xs : List ℕ) (θ : Store) (l r : Nodes goal) (n n' : Node goal) → Entails Q q N N' xs θ n n' → Entails Q q N N' xs θ (or (l +n cons n r)) (or (l +n cons n' r))
  in_or_box xs θ l r n n' h w w' u u' a ρ s b f f' x = any_mid Q q ρ l r n n' b (h (ok_mid l r n N xs w) (ok_mid l r n' N' xs w') u u' a ρ s b (near n f) (near n' f')) x
    where
      near : (m : Node goal) → Fits xs (or (l +n cons m r)) b → Fits xs m b
      near m g y i = elim (g y i) [ inl j ↦ inl j | inr k ↦ inr ((shared_append l (cons m r) y).0 k).1.0 ]

  in_and_box : (xs : List ℕ) (θ : Store) (vs : List ℕ) (σ : Store) (l r : Nodes member) (n n' : Node member) → Entails Q q N N' (xs ++ vs) (θ ++ σ) n n' → Entails Q q N N' xs θ (and vs σ (l +n cons n r)) (and vs σ (l +n cons n' r))
  in_and_box xs θ vs σ l r n n' h w w' u u' a ρ s b f f' x =
      let ρ' = x.0 in
      let s' : Sats ρ' (θ ++ σ) = (sats_append ρ' θ σ).1 (env_kept q θ xs vs ρ ρ' a w.2 x.1 s, x.2) in
      let a' = vars_within θ σ xs vs a w.3 in
      (ρ', x.1, x.2, all_mid Q q ρ' l r n n' (h (ok_mid l r n N (xs ++ vs) w.4) (ok_mid l r n' N' (xs ++ vs) w'.4) (below_append xs vs N u w.1) (below_append xs vs N' u' w'.1) a' ρ' s' nothing (nothing_fits n (xs ++ vs)) (nothing_fits n' (xs ++ vs))) x.3, x.4)

  in_choice_box : (xs : List ℕ) (θ : Store) (op : Op) (l r : Nodes guarded) (n n' : Node guarded) → Entails Q q N N' xs θ n n' → Entails Q q N N' xs θ (choice_box op (l +n cons n r)) (choice_box op (l +n cons n' r))
  in_choice_box xs θ op l r n n' h w w' u u' a ρ s b f f' x = (any_mid Q q ρ l r n n' nothing (h (ok_mid l r n N xs w) (ok_mid l r n' N' xs w') u u' a ρ s nothing (nothing_fits n xs) (nothing_fits n' xs)) x.0, x.1)

  in_guarded : (xs : List ℕ) (θ : Store) (c : Stmt) (n n' : Node goal) → Entails Q q N N' xs θ n n' → Entails Q q N N' xs θ (guard n c) (guard n' c)
  in_guarded xs θ c n n' h w w' u u' a ρ s b f f' x = (h w.0 w'.0 u u' a ρ s c w.1 w'.1 x.0, x.1)

  pub in_context : {k : Kind} (χ : Ctx k) (n n' : Node k) → Entails Q q N N' (scope χ) (env χ) n n' → Entails Q q N N' [] [] (plug χ n) (plug χ n')
  unfolding scope env plug
  in_context top n n' h = h
  in_context (in_or χ l r) n n' h = in_context χ (or (l +n cons n r)) (or (l +n cons n' r)) (in_or_box (scope χ) (env χ) l r n n' h)
  in_context (in_and χ vs σ l r) n n' h = in_context χ (and vs σ (l +n cons n r)) (and vs σ (l +n cons n' r)) (in_and_box (scope χ) (env χ) vs σ l r n n' h)
  in_context (in_choice χ op l r) n n' h = in_context χ (choice_box op (l +n cons n r)) (choice_box op (l +n cons n' r)) (in_choice_box (scope χ) (env χ) op l r n n' h)
  in_context (in_guard χ c) n n' h = in_context χ (guard n c) (guard n' c) (in_guarded (scope χ) (env χ) c n n' h)
