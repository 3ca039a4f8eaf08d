-- What each rule's two goals say of each other, where their environment holds. Rules 1, 3, 9 to 14 here; those that bring
-- or move locals, 2, 4, 5 and 6, in LocalMeaning.antt. Each is said in both directions, but for 7 and 8.
use mathlib.Core.Path.{◌≡◌, refl, ap, sym, ◌∙◌, subst}
use mathlib.Core.Logic.{◌↔◌, ◌⊎◌, inl, inr}
use mathlib.Core.List.{List, [], ◌∷◌, ◌++◌}
use Prim.Native.Nat.{ℕ}
use Rattle.constraint.specs.Constraint.{Con, Store, Asg, Sats, Satisfiable}
use Rattle.constraint.proofs.Entail.{sats_append}
use Rattle.akl.specs.Syntax.{Var, Op, wait, cond, commit, Stmt, atom, comp}
use Rattle.akl.specs.Configuration.{Kind, goal, member, guarded, Node, or, and, stmt, choice_box, guard, Nodes, nil, cons, ◌+n◌, one, failure}
use Rattle.akl.specs.Rules.{stored}
use Rattle.theory.specs.Meaning.{Model, Holds, nothing, HoldsWith, All, Any}
use Rattle.theory.specs.Entails.{Entails}
use Rattle.theory.proofs.Lists.{all_append, any_append}
use Rattle.theory.proofs.Context.{env_kept}
use Rattle.theory.proofs.Closed.{ClosedCon, stored_sat}

module _ (Q : Model) (q : ℕ) (xs : List ℕ) (θ : Store) where
  -- one direction, whatever the limits of the numbers
  abbrev pub Gives : {k : Kind} → Node k → Node k → Type 0
  Gives n n' = (M M' : ℕ) → Entails Q q M M' xs θ n n'

  -- 1 constraint atom
  module _ (vs : List ℕ) (σ : Store) (l r : Nodes member) (c : Con Var) (k : ClosedCon c) where
    pub atom_to : Gives (and vs σ (l +n cons (stmt (atom c)) r)) (and vs (σ ++ stored c) (l +n r))
    atom_to M M' w w' u u' a ρ s b f f' x =
        let ρ' = x.0 in
        let h = (all_append Q q ρ' l (cons (stmt (atom c)) r)).0 x.3 in
        (ρ', x.1, (sats_append ρ' σ (stored c)).1 (x.2, (stored_sat ρ' c k).1 h.1.0.0), (all_append Q q ρ' l r).1 (h.0, h.1.1), x.4)

    pub atom_from : Gives (and vs (σ ++ stored c) (l +n r)) (and vs σ (l +n cons (stmt (atom c)) r))
    atom_from M M' w w' u u' a ρ s b f f' x =
        let ρ' = x.0 in
        let h = (all_append Q q ρ' l r).0 x.3 in
        let t = (sats_append ρ' σ (stored c)).0 x.2 in
        (ρ', x.1, t.0, (all_append Q q ρ' l (cons (stmt (atom c)) r)).1 (h.0, (((stored_sat ρ' c k).0 t.1, tt), h.1)), x.4)

  -- 3 composition
  module _ (vs : List ℕ) (σ : Store) (l r : Nodes member) (a₁ a₂ : Stmt) where
    pub comp_to : Gives (and vs σ (l +n cons (stmt (comp a₁ a₂)) r)) (and vs σ (l +n cons (stmt a₁) (cons (stmt a₂) r)))
    comp_to M M' w w' u u' a ρ s b f f' x =
        let ρ' = x.0 in
        let h = (all_append Q q ρ' l (cons (stmt (comp a₁ a₂)) r)).0 x.3 in
        (ρ', x.1, x.2, (all_append Q q ρ' l (cons (stmt a₁) (cons (stmt a₂) r))).1 (h.0, ((h.1.0.0.0, tt), ((h.1.0.0.1, tt), h.1.1))), x.4)

    pub comp_from : Gives (and vs σ (l +n cons (stmt a₁) (cons (stmt a₂) r))) (and vs σ (l +n cons (stmt (comp a₁ a₂)) r))
    comp_from M M' w w' u u' a ρ s b f f' x =
        let ρ' = x.0 in
        let h = (all_append Q q ρ' l (cons (stmt a₁) (cons (stmt a₂) r))).0 x.3 in
        (ρ', x.1, x.2, (all_append Q q ρ' l (cons (stmt (comp a₁ a₂)) r)).1 (h.0, (((h.1.0.0, h.1.1.0.0), tt), h.1.1.1)), x.4)

  -- 7 condition, 8 commit: what is left was there before
  module _ (op : Op) (l r : Nodes guarded) (g : Node guarded) where
    pub condition_from : Gives (choice_box op (l +n one g)) (choice_box op (l +n cons g r))
    condition_from M M' w w' u u' a ρ s b f f' x = ((any_append Q q ρ l (cons g r) nothing).1 (elim ((any_append Q q ρ l (one g) nothing).0 x.0) [ inl i ↦ inl i | inr j ↦ elim j [ inl e ↦ inr (inl e) | inr e ↦ absurd e ] ]), x.1)

    pub commit_from : Gives (choice_box op (one g)) (choice_box op (l +n cons g r))
    commit_from M M' w w' u u' a ρ s b f f' x = ((any_append Q q ρ l (cons g r) nothing).1 (elim x.0 [ inl e ↦ inr (inl e) | inr e ↦ absurd e ]), x.1)

  -- 9 environment failure
  module _ (vs : List ℕ) (σ : Store) (ms : Nodes member) (no : ¬ Satisfiable (θ ++ σ)) where
    pub failure_to : Gives (and vs σ ms) failure
    failure_to M M' w w' u u' a ρ s b f f' x = absurd (no (x.0, (sats_append x.0 θ σ).1 (env_kept q θ xs vs ρ x.0 a w.2 x.1 s, x.2)))

  pub failure_from : (n : Node goal) → Gives failure n
  failure_from n M M' w w' u u' a ρ s b f f' x = absurd x

  -- 10 goal failure
  module _ (vs : List ℕ) (σ : Store) (l r : Nodes member) (op : Op) where
    pub empty_to : Gives (and vs σ (l +n cons (choice_box op nil) r)) failure
    empty_to M M' w w' u u' a ρ s b f f' x = absurd ((all_append Q q x.0 l (cons (choice_box op nil) r)).0 x.3).1.0.0

  -- 11 guard failure
  module _ (op : Op) (l r : Nodes guarded) (c : Stmt) where
    pub gone_to : Gives (choice_box op (l +n cons (guard failure c) r)) (choice_box op (l +n r))
    gone_to M M' w w' u u' a ρ s b f f' x = ((any_append Q q ρ l r nothing).1 (elim ((any_append Q q ρ l (cons (guard failure c) r) nothing).0 x.0) [ inl i ↦ inl i | inr j ↦ elim j [ inl e ↦ absurd e.0 | inr m ↦ inr m ] ]), x.1)

    pub gone_from : Gives (choice_box op (l +n r)) (choice_box op (l +n cons (guard failure c) r))
    gone_from M M' w w' u u' a ρ s b f f' x = ((any_append Q q ρ l (cons (guard failure c) r) nothing).1 (elim ((any_append Q q ρ l r nothing).0 x.0) [ inl i ↦ inl i | inr j ↦ inr (inr j) ]), x.1)

  -- 12 splitting
  module _ (vs : List ℕ) (σ : Store) (l r : Nodes member) (op : Op) (g : Node guarded) (gs : Nodes guarded) where
    abbrev whole : Node goal
    whole = and vs σ (l +n cons (choice_box op (cons g gs)) r)

    abbrev halves : Node goal
    halves = or (cons (and vs σ (l +n cons (choice_box op (one g)) r)) (one (and vs σ (l +n cons (choice_box op gs) r))))

    pub split_to : Gives whole halves
    split_to M M' w w' u u' a ρ s b f f' x = go h.1.0.0
      where
        ρ' : Asg
        ρ' = x.0

        h : All l Q q ρ' × All (cons (choice_box op (cons g gs)) r) Q q ρ'
        h = (all_append Q q ρ' l (cons (choice_box op (cons g gs)) r)).0 x.3

        go : HoldsWith g Q q ρ' nothing ⊎ Any gs Q q ρ' nothing → HoldsWith halves Q q ρ b
        go (inl e) = inl (ρ', x.1, x.2, (all_append Q q ρ' l (cons (choice_box op (one g)) r)).1 (h.0, ((inl e, tt), h.1.1)), x.4)
        go (inr e) = inr (inl (ρ', x.1, x.2, (all_append Q q ρ' l (cons (choice_box op gs) r)).1 (h.0, ((e, tt), h.1.1)), x.4))

    pub split_from : Gives halves whole
    split_from M M' w w' u u' a ρ s b f f' (inl x) =
        let ρ' = x.0 in
        let h = (all_append Q q ρ' l (cons (choice_box op (one g)) r)).0 x.3 in
        (ρ', x.1, x.2, (all_append Q q ρ' l (cons (choice_box op (cons g gs)) r)).1 (h.0, ((elim h.1.0.0 [ inl e ↦ inl e | inr e ↦ absurd e ], tt), h.1.1)), x.4)
    split_from M M' w w' u u' a ρ s b f f' (inr (inr i)) = elim i [ ]
    split_from M M' w w' u u' a ρ s b f f' (inr (inl x)) =
        let ρ' = x.0 in
        let h = (all_append Q q ρ' l (cons (choice_box op gs) r)).0 x.3 in
        (ρ', x.1, x.2, (all_append Q q ρ' l (cons (choice_box op (cons g gs)) r)).1 (h.0, ((inr h.1.0.0, tt), h.1.1)), x.4)

  -- 13 distribution
  module _ (op : Op) (l r : Nodes guarded) (g : Node goal) (gs : Nodes goal) (c : Stmt) where
    pub distribute_to : Gives (choice_box op (l +n cons (guard (or (cons g gs)) c) r)) (choice_box op (l +n cons (guard g c) (cons (guard (or gs) c) r)))
    distribute_to M M' w w' u u' a ρ s b f f' x = ((any_append Q q ρ l (cons (guard g c) (cons (guard (or gs) c) r)) nothing).1 (elim ((any_append Q q ρ l (cons (guard (or (cons g gs)) c) r) nothing).0 x.0) [ inl i ↦ inl i | inr j ↦ inr (mid j) ]), x.1)
      where
        mid : (HoldsWith (or (cons g gs)) Q q ρ c × Holds nothing Q ρ []) ⊎ Any r Q q ρ nothing → Any (cons (guard g c) (cons (guard (or gs) c) r)) Q q ρ nothing
        mid (inr m) = inr (inr m)
        mid (inl e) = elim e.0 [ inl h ↦ inl (h, tt) | inr h ↦ inr (inl (h, tt)) ]

    pub distribute_from : Gives (choice_box op (l +n cons (guard g c) (cons (guard (or gs) c) r))) (choice_box op (l +n cons (guard (or (cons g gs)) c) r))
    distribute_from M M' w w' u u' a ρ s b f f' x = ((any_append Q q ρ l (cons (guard (or (cons g gs)) c) r) nothing).1 (elim ((any_append Q q ρ l (cons (guard g c) (cons (guard (or gs) c) r)) nothing).0 x.0) [ inl i ↦ inl i | inr j ↦ inr (mid j) ]), x.1)
      where
        mid : Any (cons (guard g c) (cons (guard (or gs) c) r)) Q q ρ nothing → (HoldsWith (or (cons g gs)) Q q ρ c × Holds nothing Q ρ []) ⊎ Any r Q q ρ nothing
        mid (inl e) = inl (inl e.0, tt)
        mid (inr (inl e)) = inl (inr e.0, tt)
        mid (inr (inr m)) = inr m

  -- 14 flattening
  module _ (l r ns : Nodes goal) where
    pub flatten_to : Gives (or (l +n cons (or ns) r)) (or (l +n (ns +n r)))
    flatten_to M M' w w' u u' a ρ s b f f' x = (any_append Q q ρ l (ns +n r) b).1 (elim ((any_append Q q ρ l (cons (or ns) r) b).0 x) [ inl i ↦ inl i | inr j ↦ inr ((any_append Q q ρ ns r b).1 j) ])

    pub flatten_from : Gives (or (l +n (ns +n r))) (or (l +n cons (or ns) r))
    flatten_from M M' w w' u u' a ρ s b f f' x = (any_append Q q ρ l (cons (or ns) r) b).1 (elim ((any_append Q q ρ l (ns +n r) b).0 x) [ inl i ↦ inl i | inr j ↦ inr ((any_append Q q ρ ns r b).0 j) ])
