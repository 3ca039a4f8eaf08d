-- Solutions labelled with names are the same, whether hidden variables and locals range over all trees or over those labelled
-- with names.
use mathlib.Core.Path.{◌≡◌, refl, ap, sym, ◌∙◌, subst}
use mathlib.Core.Logic.{◌↔◌, inl, inr}
use mathlib.Core.List.{List, [], ◌∷◌, ◌++◌, map}
use mathlib.Core.Bool.{Bool, false, ◌&&◌, ◌||◌}
use mathlib.Core.Option.{Option, some, none}
use Prim.Native.Nat.{ℕ, zero, suc, ◌+◌, ◌<◌}
use native.Mathlib.Omega.{arith}
use lib.ListN.{get_or}
use lib.Dec.{T, leb, ltb→lt}
use Rattle.constraint.specs.Tree.{Tree, node, fcons}
use Rattle.constraint.specs.Constraint.{Con, ctrue, cfail, ceq, capp, Asg, trees, Sat}
use Rattle.constraint.proofs.Lists.{and_T}
use Rattle.akl.specs.Base.{is_some, Name, size, all}
use Rattle.akl.specs.Syntax.{Var, number, level, Stmt, atom, call, comp, hide, choice, Clauses, clause, Program, defined, no_more}
use Rattle.akl.specs.Configuration.{Kind, Node, or, and, stmt, choice_box, guard, Nodes, nil, cons, Config}
use Rattle.akl.specs.Reader.{Query}
use Rattle.akl.specs.WellFormed.{variable_fits, few, constraint_fits, statement_fits, clauses_fit, some_clause, spelled_name, spelled_digits, statement_passes, program_passes, stored_fits, statements_pass, statements_pass_all, depth}
use Rattle.theory.specs.Meaning.{leaf, look, Model, Holds, SomeClause, BodyHolds, Unfolded, Atoms, nothing, HoldsWith, All, Any, Solution, QuerySolution}
use Rattle.theory.specs.Formed.{QueryFits}
use Rattle.theory.specs.Named.{like_name, like_digits, NamedAsg}
use Rattle.theory.specs.NamedMeaning.{NamedTrees, NamedHolds, NamedSome, named_leaf, NamedBodyHolds, NamedUnfolded, NamedAtoms, NamedHoldsWith, NamedAll, NamedAny, NamedSolution, NamedQuerySolution}
use Rattle.theory.proofs.Statements.{holds_on}
use Rattle.theory.proofs.Locals.{size_map, size_append}
use Rattle.theory.proofs.Closed.{any_number}
use Rattle.theory.proofs.Passing.{passes_iff, body_passes, body_no_numbers}
use Rattle.theory.proofs.NamedTrees.{relabel, relabels, relabel_named, relabel_same, to_name, to_name_named, to_name_same, sats_to_name, spelled_is_named, stored_named}

-- every label to a name
abbrev in_names : Tree → Tree
in_names t = relabel t to_name

-- ---------------------------------------------------------------------------------------------
-- Statements: what holds of any trees holds of them with names for their labels.

map_join : (ts us : List Tree) → map in_names ts ++ map in_names us ≡ map in_names (ts ++ us)
map_join [] us = refl
map_join (t ∷ ts) us = ap (λ (l : List Tree). in_names t ∷ l) (map_join ts us)

trees_are_named : (ts : List Tree) → NamedTrees (map in_names ts)
trees_are_named [] = tt
trees_are_named (t ∷ ts) = (relabel_named t to_name to_name_named, trees_are_named ts)

at_level : (ts : List Tree) (l : ℕ) → l < size ts → get_or (map in_names ts) l leaf ≡ in_names (get_or ts l leaf)
unfolding size
at_level [] l h = absurd (omega arith)
at_level (t ∷ ts) zero h = refl
at_level (t ∷ ts) (suc l) h = at_level ts l (omega arith)

module _ (free : ℕ → Bool) (ρ : Asg) where
  abbrev ρn : Asg
  ρn x = in_names (ρ x)

  look_names : (ts : List Tree) (v : Var) → T (variable_fits free (size ts) v) → look ρn (map in_names ts) v ≡ in_names (look ρ ts v)
  look_names ts (number x) h = refl
  look_names ts (level l) h = at_level ts l (ltb→lt l (size ts) h)

  trees_names : (ts : List Tree) (vs : List Var) → T (all (variable_fits free (size ts)) vs) → trees (look ρn (map in_names ts)) vs ≡ relabels (trees (look ρ ts) vs) to_name
  unfolding all relabel
  trees_names ts [] h = refl
  trees_names ts (v ∷ vs) h =
      let k = (and_T (variable_fits free (size ts) v) (all (variable_fits free (size ts)) vs)).0 h in
      λ i. fcons (look_names ts v k.0 i) (trees_names ts vs k.1 i)

  map_names : (ts : List Tree) (vs : List Var) → T (all (variable_fits free (size ts)) vs) → map in_names (map (look ρ ts) vs) ≡ map (look ρn (map in_names ts)) vs
  unfolding all
  map_names ts [] h = refl
  map_names ts (v ∷ vs) h =
      let k = (and_T (variable_fits free (size ts) v) (all (variable_fits free (size ts)) vs)).0 h in
      λ i. sym (look_names ts v k.0) i ∷ map_names ts vs k.1 i

  sat_names : (ts : List Tree) (c : Con Var) → T (constraint_fits free (size ts) c) → Sat (look ρ ts) c → Sat (look ρn (map in_names ts)) c
  unfolding relabel
  sat_names ts ctrue h s = tt
  sat_names ts cfail h s = s
  sat_names ts (ceq x y) h s =
      let k = (and_T (variable_fits free (size ts) x) (variable_fits free (size ts) y)).0 h in
      look_names ts x k.0 ∙ ap in_names s ∙ sym (look_names ts y k.1)
  sat_names ts (capp x f ys) h s =
      let v = variable_fits free (size ts) in
      let k3 = (and_T (v x && all v ys && few ys) (spelled_name f || spelled_digits f)).0 h in
      let k2 = (and_T (v x && all v ys) (few ys)).0 k3.0 in
      let k1 = (and_T (v x) (all v ys)).0 k2.0 in
      let n = to_name_same f (spelled_is_named f k3.1) in
      let t = sym (trees_names ts ys k1.1) in
      look_names ts x k1.0 ∙ ap in_names s ∙ (λ i. node (n i) (t i))

module _ (P : Program) (free : ℕ → Bool) (Q Q' : Model) (more : (p : Name) (ts : List Tree) → Q p ts → Q' p (map in_names ts)) (ρ : Asg) where
  deeper : (ts us : List Tree) (m : ℕ) (s : Stmt) → size us ≡ m → T (statement_fits s P free (size ts + m)) → T (statement_fits s P free (size (ts ++ us)))
  deeper ts us m s e h = subst (λ k. T (statement_fits s P free k)) (ap (λ k. size ts + k) (sym e) ∙ sym (size_append ts us)) h

  mutual
    unfolding statement_fits

    holds_names : (s : Stmt) (ts : List Tree) → T (statement_fits s P free (size ts)) → Holds s Q ρ ts → NamedHolds s Q' (λ x. in_names (ρ x)) (map in_names ts)
    holds_names (atom c) ts f h = sat_names free ρ ts c f h
    holds_names (call p vs) ts f h = subst (Q' p) (map_names free ρ ts vs ((and_T (all (variable_fits free (size ts)) vs) (few vs)).0 ((and_T (all (variable_fits free (size ts)) vs && few vs) (is_some (defined P p (size vs)))).0 f).0).0) (more p (map (look ρ ts) vs) h)
    holds_names (comp a b) ts f h =
        let k = (and_T (statement_fits a P free (size ts)) (statement_fits b P free (size ts))).0 f in
        (holds_names a ts k.0 h.0, holds_names b ts k.1 h.1)
    holds_names (hide m a) ts f h =
        let k = (and_T (leb 1 m) (statement_fits a P free (size ts + m))).0 f in
        (map in_names h.0, trees_are_named h.0, size_map in_names h.0 ∙ h.1, subst (NamedHolds a Q' (λ x. in_names (ρ x))) (sym (map_join ts h.0)) (holds_names a (ts ++ h.0) (deeper ts h.0 m a h.1 k.1) h.2))
    holds_names (choice op cs) ts f h = some_names cs ts ((and_T (some_clause cs) (clauses_fit cs P free (size ts))).0 f).1 h

    some_names : (cs : Clauses) (ts : List Tree) → T (clauses_fit cs P free (size ts)) → SomeClause cs Q ρ ts → NamedSome cs Q' (λ x. in_names (ρ x)) (map in_names ts)
    some_names no_more ts f i = elim i [ ]
    some_names (clause m g b cs) ts f (inl h) =
        let k2 = (and_T (statement_fits g P free (size ts + m) && statement_fits b P free (size ts + m)) (clauses_fit cs P free (size ts))).0 f in
        let k1 = (and_T (statement_fits g P free (size ts + m)) (statement_fits b P free (size ts + m))).0 k2.0 in
        inl (map in_names h.0, trees_are_named h.0, size_map in_names h.0 ∙ h.1, subst (NamedHolds g Q' (λ x. in_names (ρ x))) (sym (map_join ts h.0)) (holds_names g (ts ++ h.0) (deeper ts h.0 m g h.1 k1.0) h.2), subst (NamedHolds b Q' (λ x. in_names (ρ x))) (sym (map_join ts h.0)) (holds_names b (ts ++ h.0) (deeper ts h.0 m b h.1 k1.1) h.3))
    some_names (clause m g b cs) ts f (inr h) = inr (some_names cs ts ((and_T (statement_fits g P free (size ts + m) && statement_fits b P free (size ts + m)) (clauses_fit cs P free (size ts))).0 f).1 h)

-- .. and the other way round
module _ (Q Q' : Model) (less : (p : Name) (ts : List Tree) → Q' p ts → Q p ts) (ρ : Asg) where
  mutual
    holds_any : (s : Stmt) (ts : List Tree) → NamedHolds s Q' ρ ts → Holds s Q ρ ts
    holds_any (atom c) ts h = h
    holds_any (call p vs) ts h = less p (map (look ρ ts) vs) h
    holds_any (comp a b) ts h = (holds_any a ts h.0, holds_any b ts h.1)
    holds_any (hide m a) ts h = (h.0, h.2, holds_any a (ts ++ h.0) h.3)
    holds_any (choice op cs) ts h = some_any cs ts h

    some_any : (cs : Clauses) (ts : List Tree) → NamedSome cs Q' ρ ts → SomeClause cs Q ρ ts
    some_any no_more ts i = elim i [ ]
    some_any (clause m g b cs) ts (inl h) = inl (h.0, h.2, holds_any g (ts ++ h.0) h.3, holds_any b (ts ++ h.0) h.4)
    some_any (clause m g b cs) ts (inr h) = inr (some_any cs ts h)

-- ---------------------------------------------------------------------------------------------
-- Program atoms.

leaf_names : in_names leaf ≡ named_leaf
unfolding relabel like_name like_digits
leaf_names = refl

module _ (P : Program) (passes : T (program_passes P)) where
  abbrev no_number : ℕ → Bool
  no_number x = false

  unfolded_names : (n : ℕ) (p : Name) (ts : List Tree) → Unfolded P n p ts → NamedUnfolded P n p (map in_names ts)
  unfolding Unfolded NamedUnfolded
  unfolded_names zero p ts h = absurd h
  unfolded_names (suc n) p ts h = subst (λ k. NamedBodyHolds (NamedUnfolded P n) (map in_names ts) (defined P p k)) (sym (size_map in_names ts)) (go (λ r us k. unfolded_names n r us k) (defined P p (size ts)) refl h)
    where
      go : ((r : Name) (us : List Tree) → Unfolded P n r us → NamedUnfolded P n r (map in_names us)) → (o : Option Stmt) → defined P p (size ts) ≡ o → BodyHolds (Unfolded P n) ts o → NamedBodyHolds (NamedUnfolded P n) (map in_names ts) o
      go ih mathlib.Core.Option.none e k = elim k [ ]
      go ih (some b) e k = subst (λ t. NamedHolds b (NamedUnfolded P n) (λ x. t) (map in_names ts)) leaf_names (holds_names P no_number (Unfolded P n) (NamedUnfolded P n) ih (λ x. leaf) b ts ((passes_iff P no_number (size ts) b).0 (body_passes P passes p (size ts) b e)).0 k)

  unfolded_any : (n : ℕ) (p : Name) (ts : List Tree) → NamedUnfolded P n p ts → Unfolded P n p ts
  unfolding Unfolded NamedUnfolded
  unfolded_any zero p ts h = absurd h
  unfolded_any (suc n) p ts h = go (λ r us k. unfolded_any n r us k) (defined P p (size ts)) refl h
    where
      go : ((r : Name) (us : List Tree) → NamedUnfolded P n r us → Unfolded P n r us) → (o : Option Stmt) → defined P p (size ts) ≡ o → NamedBodyHolds (NamedUnfolded P n) ts o → BodyHolds (Unfolded P n) ts o
      go ih none e k = elim k [ ]
      go ih (some b) e k = holds_on (Unfolded P n) (λ x. named_leaf) (λ x. leaf) b ts (λ x i. absurd (body_no_numbers P passes p (size ts) b e x i)) (holds_any (Unfolded P n) (NamedUnfolded P n) ih (λ x. named_leaf) b ts k)

  atoms_names : (p : Name) (ts : List Tree) → Atoms P p ts → NamedAtoms P p (map in_names ts)
  atoms_names p ts h = (h.0, unfolded_names h.0 p ts h.1)

  atoms_any : (p : Name) (ts : List Tree) → NamedAtoms P p ts → Atoms P p ts
  atoms_any p ts h = (h.0, unfolded_any h.0 p ts h.1)

  -- -------------------------------------------------------------------------------------------
  -- Goals.

  abbrev Q : Model
  Q = Atoms P

  abbrev Qn : Model
  Qn = NamedAtoms P

  abbrev Passing : Stmt → Type 0
  Passing s = T (statement_passes P any_number 0 s)

  nothing_passes : Passing nothing
  unfolding statement_fits depth
  nothing_passes = (passes_iff P any_number 0 nothing).1 (tt, omega arith)

  statement_names : (s : Stmt) (ρ : Asg) → Passing s → Holds s Q ρ [] → NamedHolds s Qn (λ x. in_names (ρ x)) []
  unfolding size
  statement_names s ρ f h = holds_names P any_number Q Qn atoms_names ρ s [] ((passes_iff P any_number 0 s).0 f).0 h

  statement_any : (s : Stmt) (ρ : Asg) → NamedHolds s Qn ρ [] → Holds s Q ρ []
  statement_any s ρ h = holds_any Q Qn atoms_any ρ s [] h

  mutual
    unfolding statements_pass

    goal_names : {k : Kind} (n : Node k) (q : ℕ) (ρ : Asg) (s : Stmt) → T (statements_pass n P) → Passing s → HoldsWith n Q q ρ s → NamedHoldsWith n Qn q (λ x. in_names (ρ x)) s
    goal_names (or ns) q ρ s f p h = any_names ns q ρ s f p h
    goal_names (and vs σ ms) q ρ s f p h =
        let k = (and_T (all stored_fits σ) (statements_pass_all ms P)).0 f in
        (λ x. in_names (h.0 x), λ x. relabel_named (h.0 x) to_name to_name_named, λ x o. ap in_names (h.1 x o), sats_to_name h.0 σ (stored_named σ k.0) h.2, all_names ms q h.0 k.1 h.3, statement_names s h.0 p h.4)
    goal_names (stmt t) q ρ s f p h = (statement_names t ρ f h.0, statement_names s ρ p h.1)
    goal_names (choice_box op gs) q ρ s f p h = (any_names gs q ρ nothing f nothing_passes h.0, statement_names s ρ p h.1)
    goal_names (guard g b) q ρ s f p h =
        let k = (and_T (statements_pass g P) (statement_passes P any_number 0 b)).0 f in
        (goal_names g q ρ b k.0 k.1 h.0, statement_names s ρ p h.1)

    all_names : {k : Kind} (ns : Nodes k) (q : ℕ) (ρ : Asg) → T (statements_pass_all ns P) → All ns Q q ρ → NamedAll ns Qn q (λ x. in_names (ρ x))
    all_names nil q ρ f h = tt
    all_names (cons n ns) q ρ f h =
        let k = (and_T (statements_pass n P) (statements_pass_all ns P)).0 f in
        (goal_names n q ρ nothing k.0 nothing_passes h.0, all_names ns q ρ k.1 h.1)

    any_names : {k : Kind} (ns : Nodes k) (q : ℕ) (ρ : Asg) (s : Stmt) → T (statements_pass_all ns P) → Passing s → Any ns Q q ρ s → NamedAny ns Qn q (λ x. in_names (ρ x)) s
    any_names nil q ρ s f p h = h
    any_names (cons n ns) q ρ s f p (inl h) = inl (goal_names n q ρ s ((and_T (statements_pass n P) (statements_pass_all ns P)).0 f).0 p h)
    any_names (cons n ns) q ρ s f p (inr h) = inr (any_names ns q ρ s ((and_T (statements_pass n P) (statements_pass_all ns P)).0 f).1 p h)

  mutual
    goal_any : {k : Kind} (n : Node k) (q : ℕ) (ρ : Asg) (s : Stmt) → NamedHoldsWith n Qn q ρ s → HoldsWith n Q q ρ s
    goal_any (or ns) q ρ s h = any_any ns q ρ s h
    goal_any (and vs σ ms) q ρ s h = (h.0, h.2, h.3, all_any ms q h.0 h.4, statement_any s h.0 h.5)
    goal_any (stmt t) q ρ s h = (statement_any t ρ h.0, statement_any s ρ h.1)
    goal_any (choice_box op gs) q ρ s h = (any_any gs q ρ nothing h.0, statement_any s ρ h.1)
    goal_any (guard g b) q ρ s h = (goal_any g q ρ b h.0, statement_any s ρ h.1)

    all_any : {k : Kind} (ns : Nodes k) (q : ℕ) (ρ : Asg) → NamedAll ns Qn q ρ → All ns Q q ρ
    all_any nil q ρ h = tt
    all_any (cons n ns) q ρ h = (goal_any n q ρ nothing h.0, all_any ns q ρ h.1)

    any_any : {k : Kind} (ns : Nodes k) (q : ℕ) (ρ : Asg) (s : Stmt) → NamedAny ns Qn q ρ s → Any ns Q q ρ s
    any_any nil q ρ s h = h
    any_any (cons n ns) q ρ s (inl h) = inl (goal_any n q ρ s h)
    any_any (cons n ns) q ρ s (inr h) = inr (any_any ns q ρ s h)

  -- an assignment labelled with names stays as it is
  stays : (ρ : Asg) → NamedAsg ρ → ◌≡◌ {A = Asg} (λ x. in_names (ρ x)) ρ
  stays ρ r = λ i x. relabel_same (ρ x) to_name to_name_same (r x) i

  -- The solutions of a configuration, and those of a query.
  pub solution_named : (c : Config) → T (statements_pass c.root P) → (q : ℕ) (ρ : Asg) → NamedAsg ρ → Solution P q c ρ ↔ NamedSolution P q c ρ
  solution_named c f q ρ r = (λ h. subst (λ τ. NamedHoldsWith c.root Qn q τ nothing) (stays ρ r) (goal_names c.root q ρ nothing f nothing_passes h), λ h. goal_any c.root q ρ nothing h)

  pub query_solution_named : (q : Query) → QueryFits P q → (ρ : Asg) → NamedAsg ρ → QuerySolution P q ρ ↔ NamedQuerySolution P q ρ
  query_solution_named q f ρ r = (λ h. subst (λ τ. NamedHolds q.statement Qn τ []) (stays ρ r) (statement_names q.statement ρ f.passes h), λ h. statement_any q.statement ρ h)
