-- Names in nodes side by side, in stores, in contexts, and in statements whose bound variables are replaced.
use mathlib.Core.Path.{◌≡◌, ap, subst}
use mathlib.Core.Logic.{◌↔◌}
use mathlib.Core.List.{List, [], ◌∷◌, ◌++◌}
use mathlib.Core.Bool.{Bool, true, false, ◌&&◌}
use mathlib.Core.Option.{Option, some, none, some-injective}
use Prim.Native.Nat.{ℕ, ◌+◌}
use native.Mathlib.Omega.{arith}
use lib.Dec.{eqb}
use Rattle.constraint.specs.Constraint.{Con, ctrue, cfail, ceq, capp, map_con, Store}
use Rattle.akl.specs.Base.{Name, same, if}
use Rattle.akl.specs.Syntax.{Var, Stmt, atom, call, comp, hide, choice, Clauses, no_more, clause, Program, defined, open_var, opened, opened_clauses}
use Rattle.akl.specs.Configuration.{Kind, Node, or, and, choice_box, guard, Nodes, nil, cons, ◌+n◌, Ctx, top, in_or, in_and, in_choice, in_guard, plug}
use Rattle.akl.specs.Rules.{stored, fresh, guarded_goals}
use Rattle.store_form.specs.Named.{NamedCon, NamedStore, NamedStmt, NamedClauses, NamedNode, NamedNodes}
use Rattle.store_steps.specs.Named.{NamedProgram}

module _ (K : Name → Type 0) where
  pub named_append : {k : Kind} (a b : Nodes k) → NamedNodes K (a +n b) ↔ (NamedNodes K a × NamedNodes K b)
  unfolding ◌+n◌
  named_append nil b = (λ h. (tt, h), λ h. h.1)
  named_append (cons n a) b =
      let ih = named_append a b in
      (λ h. ((h.0, (ih.0 h.1).0), (ih.0 h.1).1), λ h. (h.0.0, ih.1 (h.0.1, h.1)))

  pub named_mid : {k : Kind} (l r : Nodes k) (n : Node k) → NamedNodes K (l +n cons n r) ↔ (NamedNodes K l × NamedNode K n × NamedNodes K r)
  named_mid l r n =
      let a = named_append l (cons n r) in
      (λ h. let k = a.0 h in (k.0, k.1.0, k.1.1), λ h. a.1 (h.0, (h.1, h.2)))

  pub named_stores : (σ τ : Store) → NamedStore K σ → NamedStore K τ → NamedStore K (σ ++ τ)
  named_stores [] τ h g = g
  named_stores (c ∷ σ) τ h g = (h.0, named_stores σ τ h.1 g)

  -- what stands in a context, and what may take its place
  pub named_context : {k : Kind} (χ : Ctx k) (n n' : Node k) → NamedNode K (plug χ n) → NamedNode K n × (NamedNode K n' → NamedNode K (plug χ n'))
  unfolding plug
  named_context top n n' h = (h, λ w. w)
  named_context (in_or χ l r) n n' h =
      let ih = named_context χ (or (l +n cons n r)) (or (l +n cons n' r)) h in
      let k = (named_mid l r n).0 ih.0 in
      (k.1, λ w. ih.1 ((named_mid l r n').1 (k.0, w, k.2)))
  named_context (in_and χ vs σ l r) n n' h =
      let ih = named_context χ (and vs σ (l +n cons n r)) (and vs σ (l +n cons n' r)) h in
      let k = (named_mid l r n).0 ih.0.1 in
      (k.1, λ w. ih.1 (ih.0.0, (named_mid l r n').1 (k.0, w, k.2)))
  named_context (in_choice χ op l r) n n' h =
      let ih = named_context χ (choice_box op (l +n cons n r)) (choice_box op (l +n cons n' r)) h in
      let k = (named_mid l r n).0 ih.0 in
      (k.1, λ w. ih.1 ((named_mid l r n').1 (k.0, w, k.2)))
  named_context (in_guard χ b) n n' h =
      let ih = named_context χ (guard n b) (guard n' b) h in
      (ih.0.0, λ w. ih.1 (w, ih.0.1))

  -- variables replaced
  con_mapped : {X Y : Type 0} (f : X → Y) (c : Con X) → NamedCon K c → NamedCon K (map_con f c)
  con_mapped f ctrue h = h
  con_mapped f cfail h = h
  con_mapped f (ceq x y) h = h
  con_mapped f (capp x g ys) h = h

  mutual
    unfolding opened

    pub named_opened : (s : Stmt) (vs : List Var) → NamedStmt K s → NamedStmt K (opened s vs)
    named_opened (atom c) vs h = con_mapped (open_var vs) c h
    named_opened (call p xs) vs h = h
    named_opened (comp a b) vs h = (named_opened a vs h.0, named_opened b vs h.1)
    named_opened (hide n a) vs h = named_opened a vs h
    named_opened (choice op cs) vs h = opened_named cs vs h

    opened_named : (cs : Clauses) (vs : List Var) → NamedClauses K cs → NamedClauses K (opened_clauses cs vs)
    opened_named no_more vs h = h
    opened_named (clause n g b cs) vs h = (named_opened g vs h.0, named_opened b vs h.1, opened_named cs vs h.2)

  -- rule 1
  pub named_stored : (c : Con Var) → NamedCon K c → NamedStore K (stored c)
  named_stored ctrue h = tt
  named_stored cfail h = (tt, tt)
  named_stored (ceq x y) h = (tt, tt)
  named_stored (capp x f ys) h = (h, tt)

  -- rule 2
  pub named_defined : (P : Program) (p : Name) (n : ℕ) (b : Stmt) → NamedProgram K P → defined P p n ≡ some b → NamedStmt K b
  unfolding defined
  named_defined [] p n b h e = absurd (let z : ◌≡◌ {A = ℕ} 0 1 = ap (λ (o : Option Stmt). elim o as (λ v. ℕ) [ none ↦ 0 | some x ↦ 1 ]) e in omega arith)
  named_defined (d ∷ ds) p n b h e = go (same d.name p && eqb d.arity n) e (named_defined ds p n b h.2)
    where
      go : (t : Bool) → if t (some d.body) (defined ds p n) ≡ some b → (defined ds p n ≡ some b → NamedStmt K b) → NamedStmt K b
      go true w ih = subst (NamedStmt K) (some-injective d.body b w) h.1
      go false w ih = ih w

  -- rule 5
  pub named_guards : (cs : Clauses) (N : ℕ) → NamedClauses K cs → NamedNodes K (guarded_goals cs N)
  unfolding guarded_goals
  named_guards no_more N h = tt
  named_guards (clause n g b cs) N h = (((tt, (named_opened g (fresh N n) h.0, tt)), named_opened b (fresh N n) h.1), named_guards cs (N + n) h.2)
