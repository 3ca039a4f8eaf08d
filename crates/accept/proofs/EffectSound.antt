-- What the function computes, the relation allows.
use mathlib.Core.Path.{◌≡◌, refl, sym, subst}
use mathlib.Core.Logic.{inl, inr}
use mathlib.Core.List.{List, ◌++◌}
use mathlib.Core.Bool.{Bool, true, false, ◌&&◌, ◌||◌, not}
use mathlib.Core.Option.{Option, some, none, some-injective}
use Prim.Native.Nat.{ℕ}
use native.Mathlib.Omega.{arith}
use lib.Dec.{T}
use Rattle.constraint.specs.Constraint.{Store, In}
use Rattle.constraint.specs.Solve.{satisfiable?, quiet?}
use Rattle.constraint.proofs.Lists.{none_some, and_T, or_T, not_T}
use Rattle.constraint.proofs.Decision.{satisfiable_iff}
use Rattle.constraint.proofs.Renamed.{quiet_iff}
use Rattle.akl.specs.Base.{Name, size}
use Rattle.akl.specs.Syntax.{Var, Op, wait, cond, commit, Stmt, atom, call, comp, hide, choice, Program, defined}
use Rattle.akl.specs.Configuration.{Kind, goal, member, guarded, Node, or, and, stmt, choice_box, guard, Nodes, nil, cons, Ctx, top, in_or, in_and, in_choice, in_guard, plug, env, Config}
use Rattle.akl.specs.Places.{Place, at}
use Rattle.akl.specs.Table.{Row, rule_row, kind_at, statement_kind, or_kind}
use Rattle.akl.specs.Rules.{Change, provided, non_empty, is_wait, effect}
use Rattle.akl.specs.Stability.{fits_row}
use Rattle.theory.specs.Transition.{NotEmpty, Transition}
use Rattle.theory.specs.Transition as Tr
use Rattle.accept.proofs.Effects.{rules_of, rule_of, leads}

provided_inv : (b : Bool) (c : Change) (d : Config) → provided b c ≡ some d → T b × (c ≡ some d)
provided_inv true c d e = (tt, e)
provided_inv false c d e = absurd (none_some e)

-- what a place's node and context make together
abbrev pub whole : Place → Node goal
whole (at χ n) = plug χ n

module _ (P : Program) (N : ℕ) where
  -- a transition of rule r at the place that leads to d
  pub record Found (r : ℕ) (pl : Place) (d : Config) : Type 0 where
    pub kind : Kind
    pub context : Ctx kind
    pub before : Node kind
    pub after : Node kind
    pub transition : Transition P N r pl kind context before after d.next
    pub result : d.root ≡ plug context after

  found : {r : ℕ} {pl : Place} {k : Kind} {χ : Ctx k} {n n' : Node k} {N' : ℕ} → Transition P N r pl k χ n n' N' → (d : Config) → leads χ n' N' ≡ some d → Found r pl d
  found {r} {pl} {k} {χ} {n} {n'} {N'} t d e =
      let c : Config = record { root = plug χ n'; next = N' } in
      let f : c ≡ d = some-injective c d e in
      subst (Found r pl) f (record { kind = k; context = χ; before = n; after = n'; transition = t; result = refl })

  -- 1 to 5: the statement at the place
  module _ (χ : Ctx goal) (vs : List ℕ) (σ : Store) (l r : Nodes member) where
    call_found : (p : Name) (xs : List Var) (d : Config) (o : Option Stmt) → defined P p (size xs) ≡ o → effect P N 2 (at (in_and χ vs σ l r) (stmt (call p xs))) ≡ some d → Found 2 (at (in_and χ vs σ l r) (stmt (call p xs))) d
    unfolding effect
    call_found p xs d none q e = absurd (none_some (rw q at e))
    call_found p xs d (some b) q e = found (Tr.program_atom (in_and χ vs σ l r) p xs b q) d (rw q at e)

    -- 6
    six : (op : Op) (gs : Nodes guarded) (d : Config) → effect P N 6 (at (in_and χ vs σ l r) (choice_box op gs)) ≡ some d → Found 6 (at (in_and χ vs σ l r) (choice_box op gs)) d
    unfolding effect
    six op nil d e = absurd (none_some e)
    six op (cons g (cons h gs)) d e = absurd (none_some e)
    six op (cons (guard (or ns) b) nil) d e = absurd (none_some e)
    six op (cons (guard (and us τ (cons m ms)) b) nil) d e = absurd (none_some e)
    six op (cons (guard (and us τ nil) b) nil) d e =
        let h = provided_inv (is_wait op || quiet? us (env χ ++ σ) τ) _ d e in
        found (Tr.promotion χ vs σ l r op us τ b (elim ((or_T (is_wait op) (quiet? us (env χ ++ σ) τ)).0 h.0) [ inl t ↦ inl (op_wait op t) | inr t ↦ inr ((quiet_iff us (env χ ++ σ) τ).0 t) ])) d h.1
      where
        op_wait : (o : Op) → T (is_wait o) → o ≡ wait
        op_wait cond t = elim t [ ]
        op_wait commit t = elim t [ ]
        op_wait wait t = refl

    -- 10
    ten : (op : Op) (gs : Nodes guarded) (d : Config) → effect P N 10 (at (in_and χ vs σ l r) (choice_box op gs)) ≡ some d → Found 10 (at (in_and χ vs σ l r) (choice_box op gs)) d
    unfolding effect
    ten op nil d e = found (Tr.goal_failure χ vs σ l r op) d e
    ten op (cons g gs) d e = absurd (none_some e)

    -- 12
    twelve : (op : Op) (gs : Nodes guarded) (d : Config) → effect P N 12 (at (in_and χ vs σ l r) (choice_box op gs)) ≡ some d → Found 12 (at (in_and χ vs σ l r) (choice_box op gs)) d
    unfolding effect
    twelve op nil d e = absurd (none_some e)
    twelve op (cons g nil) d e = absurd (none_some e)
    twelve op (cons (guard (or ns) b) (cons t ts)) d e = absurd (none_some e)
    twelve op (cons (guard (and us τ (cons m ms)) b) (cons t ts)) d e = absurd (none_some e)
    twelve wait (cons (guard (and us τ nil) b) (cons t ts)) d e = found (Tr.splitting χ vs σ l r us τ b t ts) d e
    twelve cond (cons (guard (and us τ nil) b) (cons t ts)) d e = absurd (none_some e)
    twelve commit (cons (guard (and us τ nil) b) (cons t ts)) d e = absurd (none_some e)

  -- 7, 8, 11, 13: a guarded goal
  module _ (χ : Ctx member) where
    seven : (op : Op) (l r : Nodes guarded) (g : Node goal) (b : Stmt) (d : Config) → effect P N 7 (at (in_choice χ op l r) (guard g b)) ≡ some d → Found 7 (at (in_choice χ op l r) (guard g b)) d
    unfolding effect
    seven wait l r g b d e = absurd (none_some e)
    seven commit l r g b d e = absurd (none_some e)
    seven cond l r (or ns) b d e = absurd (none_some e)
    seven cond l r (and us τ (cons m ms)) b d e = absurd (none_some e)
    seven cond l r (and us τ nil) b d e =
        let h = provided_inv (quiet? us (env χ) τ && non_empty r) _ d e in
        let k = (and_T (quiet? us (env χ) τ) (non_empty r)).0 h.0 in
        found (Tr.condition χ l r us τ b ((quiet_iff us (env χ) τ).0 k.0) (some_of r k.1)) d h.1
      where
        some_of : (ns : Nodes guarded) → T (non_empty ns) → NotEmpty ns
        some_of nil t = elim t [ ]
        some_of (cons n ns) t = tt

    eight : (op : Op) (l r : Nodes guarded) (g : Node goal) (b : Stmt) (d : Config) → effect P N 8 (at (in_choice χ op l r) (guard g b)) ≡ some d → Found 8 (at (in_choice χ op l r) (guard g b)) d
    unfolding effect
    eight wait l r g b d e = absurd (none_some e)
    eight cond l r g b d e = absurd (none_some e)
    eight commit l r (or ns) b d e = absurd (none_some e)
    eight commit l r (and us τ (cons m ms)) b d e = absurd (none_some e)
    eight commit l r (and us τ nil) b d e =
        let h = provided_inv (quiet? us (env χ) τ && (non_empty l || non_empty r)) _ d e in
        let k = (and_T (quiet? us (env χ) τ) (non_empty l || non_empty r)).0 h.0 in
        found (Tr.committing χ l r us τ b ((quiet_iff us (env χ) τ).0 k.0) (elim ((or_T (non_empty l) (non_empty r)).0 k.1) [ inl t ↦ inl (some_of l t) | inr t ↦ inr (some_of r t) ])) d h.1
      where
        some_of : (ns : Nodes guarded) → T (non_empty ns) → NotEmpty ns
        some_of nil t = elim t [ ]
        some_of (cons n ns) t = tt

    eleven : (op : Op) (l r : Nodes guarded) (g : Node goal) (b : Stmt) (d : Config) → effect P N 11 (at (in_choice χ op l r) (guard g b)) ≡ some d → Found 11 (at (in_choice χ op l r) (guard g b)) d
    unfolding effect
    eleven op l r (or nil) b d e = found (Tr.guard_failure χ op l r b) d e
    eleven op l r (or (cons n ns)) b d e = absurd (none_some e)
    eleven op l r (and us τ ms) b d e = absurd (none_some e)

    thirteen : (op : Op) (l r : Nodes guarded) (g : Node goal) (b : Stmt) (d : Config) → effect P N 13 (at (in_choice χ op l r) (guard g b)) ≡ some d → Found 13 (at (in_choice χ op l r) (guard g b)) d
    unfolding effect
    thirteen op l r (or nil) b d e = absurd (none_some e)
    thirteen op l r (or (cons g gs)) b d e = found (Tr.distribution χ op l r g gs b) d e
    thirteen op l r (and us τ ms) b d e = absurd (none_some e)

  -- a rule by its number
  is_rule : (j : ℕ) (pl : Place) (d : Config) → (effect P N j pl ≡ some d → Found j pl d) → (r : ℕ) → r ≡ j → effect P N r pl ≡ some d → Found r pl d
  is_rule j pl d f r e = subst (λ i. effect P N i pl ≡ some d → Found i pl d) (sym e) f

  statement_found : (χ : Ctx goal) (vs : List ℕ) (σ : Store) (l r : Nodes member) (s : Stmt) (j : ℕ) (d : Config) → In j (rules_of (statement_kind s)) → effect P N j (at (in_and χ vs σ l r) (stmt s)) ≡ some d → Found j (at (in_and χ vs σ l r) (stmt s)) d
  unfolding effect rules_of statement_kind
  statement_found χ vs σ l r (atom c) j d (inr i) e = elim i [ ]
  statement_found χ vs σ l r (call p xs) j d (inr i) e = elim i [ ]
  statement_found χ vs σ l r (comp a b) j d (inr i) e = elim i [ ]
  statement_found χ vs σ l r (hide n a) j d (inr i) e = elim i [ ]
  statement_found χ vs σ l r (choice op cs) j d (inr i) e = elim i [ ]
  statement_found χ vs σ l r (atom c) j d (inl i) e = is_rule 1 (at (in_and χ vs σ l r) (stmt (atom c))) d (λ f. found (Tr.constraint_atom χ vs σ l r c) d f) j i e
  statement_found χ vs σ l r (call p xs) j d (inl i) e = is_rule 2 (at (in_and χ vs σ l r) (stmt (call p xs))) d (λ f. call_found χ vs σ l r p xs d (defined P p (size xs)) refl f) j i e
  statement_found χ vs σ l r (comp a b) j d (inl i) e = is_rule 3 (at (in_and χ vs σ l r) (stmt (comp a b))) d (λ f. found (Tr.composition χ vs σ l r a b) d f) j i e
  statement_found χ vs σ l r (hide n a) j d (inl i) e = is_rule 4 (at (in_and χ vs σ l r) (stmt (hide n a))) d (λ f. found (Tr.hiding χ vs σ l r n a) d f) j i e
  statement_found χ vs σ l r (choice op cs) j d (inl i) e = is_rule 5 (at (in_and χ vs σ l r) (stmt (choice op cs))) d (λ f. found (Tr.choosing (in_and χ vs σ l r) op cs) d f) j i e

  or_found : (χ : Ctx goal) (ns : Nodes goal) (j : ℕ) (d : Config) → In j (rules_of (or_kind χ)) → effect P N j (at χ (or ns)) ≡ some d → Found j (at χ (or ns)) d
  unfolding effect rules_of or_kind
  or_found top ns j d i e = absurd i
  or_found (in_guard χ b) ns j d i e = absurd i
  or_found (in_or χ l r) ns j d (inr i) e = elim i [ ]
  or_found (in_or χ l r) ns j d (inl i) e = is_rule 14 (at (in_or χ l r) (or ns)) d (λ f. found (Tr.flattening χ l r ns) d f) j i e

  by_kind : (pl : Place) (j : ℕ) (d : Config) → In j (rules_of (kind_at pl)) → effect P N j pl ≡ some d → Found j pl d
  unfolding effect rules_of kind_at
  by_kind (at (in_and χ vs σ l r) (stmt s)) j d i e = statement_found χ vs σ l r s j d i e
  by_kind (at (in_and χ vs σ l r) (choice_box op gs)) j d (inl i) e = is_rule 6 (at (in_and χ vs σ l r) (choice_box op gs)) d (six χ vs σ l r op gs d) j i e
  by_kind (at (in_and χ vs σ l r) (choice_box op gs)) j d (inr (inl i)) e = is_rule 10 (at (in_and χ vs σ l r) (choice_box op gs)) d (ten χ vs σ l r op gs d) j i e
  by_kind (at (in_and χ vs σ l r) (choice_box op gs)) j d (inr (inr (inl i))) e = is_rule 12 (at (in_and χ vs σ l r) (choice_box op gs)) d (twelve χ vs σ l r op gs d) j i e
  by_kind (at (in_choice χ op l r) (guard g b)) j d (inl i) e = is_rule 7 (at (in_choice χ op l r) (guard g b)) d (seven χ op l r g b d) j i e
  by_kind (at (in_choice χ op l r) (guard g b)) j d (inr (inl i)) e = is_rule 8 (at (in_choice χ op l r) (guard g b)) d (eight χ op l r g b d) j i e
  by_kind (at (in_choice χ op l r) (guard g b)) j d (inr (inr (inl i))) e = is_rule 11 (at (in_choice χ op l r) (guard g b)) d (eleven χ op l r g b d) j i e
  by_kind (at (in_choice χ op l r) (guard g b)) j d (inr (inr (inr (inl i)))) e = is_rule 13 (at (in_choice χ op l r) (guard g b)) d (thirteen χ op l r g b d) j i e
  by_kind (at χ (and vs σ ms)) j d (inr i) e = elim i [ ]
  by_kind (at (in_and χ vs σ l r) (choice_box op gs)) j d (inr (inr (inr i))) e = elim i [ ]
  by_kind (at (in_choice χ op l r) (guard g b)) j d (inr (inr (inr (inr i)))) e = elim i [ ]
  by_kind (at χ (and vs σ ms)) j d (inl i) e = is_rule 9 (at χ (and vs σ ms)) d (λ f. let h = provided_inv (not (satisfiable? (env χ ++ σ))) _ d f in found (Tr.environment_failure χ vs σ ms (λ w. (not_T (satisfiable? (env χ ++ σ))).0 h.0 ((satisfiable_iff (env χ ++ σ)).1 w))) d h.1) j i e
  by_kind (at χ (or ns)) j d i e = or_found χ ns j d i e

  pub effect_sound : (r : ℕ) (pl : Place) (w : Row) (d : Config) → rule_row r ≡ some w → T (fits_row w pl) → effect P N r pl ≡ some d → Found r pl d
  effect_sound r pl w d q k e = by_kind pl r d (rule_of (kind_at pl) r w q k) e
