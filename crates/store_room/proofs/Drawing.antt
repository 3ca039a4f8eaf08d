-- The variables of the stores in a well-formed configuration are locals of its and-boxes, each of them a part: so the solver has
-- room for all of them.
use mathlib.Core.Path.{refl, sym, subst}
use mathlib.Core.Logic.{◌⊎◌, inl, inr}
use mathlib.Core.List.{List, [], ◌∷◌, ◌++◌, map}
use Prim.Native.Nat.{ℕ, zero, suc, ◌+◌, ◌<◌, ◌≤◌}
use native.Mathlib.Omega.{arith}
use lib.ListN.{length, get_or, length-append}
use Rattle.constraint.specs.Constraint.{Con, ctrue, cfail, ceq, capp, map_con, Store, In, vars, vars_all}
use Rattle.constraint.proofs.Lists.{In-append}
use Rattle.akl.specs.Base.{Name}
use Rattle.akl.specs.Syntax.{number}
use Rattle.akl.specs.Configuration.{Kind, goal, member, Node, or, and, stmt, choice_box, guard, Nodes, nil, cons, ◌+n◌, Ctx, top, in_or, in_and, in_choice, in_guard, plug}
use Rattle.akl.specs.Parts.{parts, parts_all}
use Rattle.akl.specs.Stability.{locals, locals_all}
use Rattle.theory.specs.Scope.{Sub, Ok, scope}
use Rattle.theory.proofs.Lists.{locals_In}
use Rattle.theory.proofs.OwnVariables.{around_ok}
use Rattle.mem_words.specs.declared.Word.{Word}
use Rattle.mem_words.specs.declared.Word.TheVariants.{End, Free, Level, Num, Place, Inner, Bad}
use Rattle.mem_words.specs.Words.{value_of}
use Rattle.mem_words.specs.Form.{AllSmall}
use Rattle.mem_copies.specs.Runs.{run}
use Rattle.layout.specs.Layout.{var_word, vars_words, con_words}
use Rattle.store_words.specs.Boxes.{store_words}
use Rattle.store_words.proofs.Sizes.{size_length}
use Rattle.solve_fields.specs.Read.{var_of}
use Rattle.solve_tells.specs.Draws.{Drawn}
use Rattle.solve_tells.proofs.Rooms.{drawn_none, drawn_append}
use Rattle.work_log.specs.Logs.{stop}
use Rattle.rule_ranges.specs.Ranges.{store_range}
use Rattle.store_form.specs.State.{State, table, number_in}
use Rattle.store_form.specs.Form.{config_words}
use Rattle.store_steps.specs.After.{Stands}
use Rattle.rule_ranges.specs.Asked.{StoresDrawn, Roomy}
use Rattle.store_room.proofs.Freshness.{formed_state}
use Rattle.store_room.proofs.Labels.{config_small}
use Rattle.store_room.proofs.Boxes.{store_spelled, AndAt, and_at}

-- ---------------------------------------------------------------------------------------------
-- The words of a store have its variables.

module _ (vs : List ℕ) (z : In 0 vs) where
  drawn_cons : (w : Word) (r : List Word) → In (var_of w) vs → Drawn r vs → Drawn (w ∷ r) vs
  drawn_cons w r i d = record { at = go }
    where
      go : (j : ℕ) → In (var_of (get_or (w ∷ r) j Bad)) vs
      go zero = i
      go (suc j) = d.at j

  drawn_vars : (ys : List ℕ) (r : List Word) → Sub ys vs → Drawn r vs → Drawn (vars_words (map number ys) r) vs
  unfolding vars_words var_word
  drawn_vars [] r h d = d
  drawn_vars (y ∷ ys) r h d = drawn_cons (Free y) (vars_words (map number ys) r) (h y (inl refl)) (drawn_vars ys r (λ x i. h x (inr i)) d)

  drawn_con : (num : Name → ℕ) (c : Con ℕ) (r : List Word) → Sub (vars c) vs → Drawn r vs → Drawn (con_words num (map_con number c) r) vs
  unfolding con_words var_word
  drawn_con num ctrue r h d = drawn_cons _ _ z (drawn_cons End r z d)
  drawn_con num cfail r h d = drawn_cons _ _ z (drawn_cons End r z d)
  drawn_con num (ceq x y) r h d = drawn_cons _ _ z (drawn_cons _ _ (h x (inl refl)) (drawn_cons _ _ (h y (inr (inl refl))) (drawn_cons End r z d)))
  drawn_con num (capp x f ys) r h d = drawn_cons _ _ z (drawn_cons _ _ (h x (inl refl)) (drawn_cons _ _ z (drawn_vars ys (End ∷ r) (λ y i. h y (inr i)) (drawn_cons End r z d))))

  drawn_words : (num : Name → ℕ) (σ : Store) → Sub (vars_all σ) vs → Drawn (store_words num σ []) vs
  unfolding store_words vars_all
  drawn_words num [] h = drawn_none [] vs z refl
  drawn_words num (c ∷ σ) h = drawn_con num c (store_words num σ []) (λ x i. h x ((In-append x (vars c) (vars_all σ)).1 (inl i))) (drawn_words num σ (λ x i. h x ((In-append x (vars c) (vars_all σ)).1 (inr i))))

  pub drawn_store : (num : Name → ℕ) (σ : Store) → Sub (vars_all σ) vs → Drawn (store_words num σ [] ++ stop) vs
  unfolding stop
  drawn_store num σ h = drawn_append (store_words num σ []) stop vs (drawn_words num σ h) (drawn_cons End _ z (drawn_cons End _ z (drawn_cons End [] z (drawn_none [] vs z refl))))

-- ---------------------------------------------------------------------------------------------
-- The locals of a configuration.

mutual
  unfolding locals parts

  pub locals_few : {k : Kind} (n : Node k) → length (locals n) ≤ parts n
  locals_few (or ns) = omega (arith, locals_few_all ns)
  locals_few (and vs σ ms) = omega (arith, length-append vs (locals_all ms), size_length vs, locals_few_all ms)
  locals_few (stmt s) = omega arith
  locals_few (choice_box op gs) = omega (arith, locals_few_all gs)
  locals_few (guard g b) = omega (arith, locals_few g)

  locals_few_all : {k : Kind} (ns : Nodes k) → length (locals_all ns) ≤ parts_all ns
  locals_few_all nil = omega arith
  locals_few_all (cons n ns) = omega (arith, length-append (locals n) (locals_all ns), locals_few n, locals_few_all ns)

locals_mid : {k : Kind} (l r : Nodes k) (n : Node k) (x : ℕ) → In x (locals n) → In x (locals_all (l +n cons n r))
unfolding locals
locals_mid l r n x i = (locals_In l (cons n r) x).1 (inr ((In-append x (locals n) (locals_all r)).1 (inl i)))

-- what is local around a node or inside it is local in the whole
pub locals_up : {k : Kind} (χ : Ctx k) (n : Node k) (x : ℕ) → In x (scope χ) ⊎ In x (locals n) → In x (locals (plug χ n))
unfolding plug scope locals
locals_up top n x (inl i) = absurd i
locals_up top n x (inr i) = i
locals_up (in_or χ l r) n x (inl i) = locals_up χ (or (l +n cons n r)) x (inl i)
locals_up (in_or χ l r) n x (inr i) = locals_up χ (or (l +n cons n r)) x (inr (locals_mid l r n x i))
locals_up (in_and χ vs σ l r) n x (inl i) = locals_up χ (and vs σ (l +n cons n r)) x (elim ((In-append x (scope χ) vs).0 i) [ inl j ↦ inl j | inr j ↦ inr ((In-append x vs (locals_all (l +n cons n r))).1 (inl j)) ])
locals_up (in_and χ vs σ l r) n x (inr i) = locals_up χ (and vs σ (l +n cons n r)) x (inr ((In-append x vs (locals_all (l +n cons n r))).1 (inr (locals_mid l r n x i))))
locals_up (in_choice χ op l r) n x (inl i) = locals_up χ (choice_box op (l +n cons n r)) x (inl i)
locals_up (in_choice χ op l r) n x (inr i) = locals_up χ (choice_box op (l +n cons n r)) x (inr (locals_mid l r n x i))
locals_up (in_guard χ b) n x (inl i) = locals_up χ (guard n b) x (inl i)
locals_up (in_guard χ b) n x (inr i) = locals_up χ (guard n b) x (inr i)

-- the variables of a store are such locals
pub store_locals : (χ : Ctx goal) (vs : List ℕ) (σ : Store) (ms : Nodes member) (N : ℕ) → Ok (plug χ (and vs σ ms)) N [] → Sub (vars_all σ) (locals (plug χ (and vs σ ms)))
unfolding locals
store_locals χ vs σ ms N w x i = locals_up χ (and vs σ ms) x (elim ((In-append x (scope χ) vs).0 ((around_ok χ (and vs σ ms) N w).0.3 x i)) [ inl j ↦ inl j | inr j ↦ inr ((In-append x vs (locals_all ms)).1 (inl j)) ])

-- ---------------------------------------------------------------------------------------------
-- The room.

low_var : (w : Word) → value_of w < 65536 → var_of w < 65536
low_var End h = omega arith
low_var (Free v) h = h
low_var (Level v) h = omega arith
low_var (Num v) h = omega arith
low_var (Place k) h = omega arith
low_var (Inner s) h = omega arith
low_var Bad h = omega arith

low_vars : (W : List Word) → AllSmall W → (i : ℕ) → var_of (get_or W i Bad) < 65536
low_vars [] a i = omega arith
low_vars (w ∷ W) a zero = low_var w a.0.value
low_vars (w ∷ W) a (suc i) = low_vars W a.1 i

module _ (s : State) (h : Stands 2048 s) where
  root_drawn : StoresDrawn (config_words s) (0 ∷ locals s.config.root)
  unfolding config_words
  root_drawn = record { at = λ o t. go o (and_at (number_in (table s)) s.config o t) }
    where
      go : (o : ℕ) → AndAt (number_in (table s)) s.config o → Drawn (run (store_range (config_words s) o).from (store_range (config_words s) o).len (config_words s) ++ stop) (0 ∷ locals s.config.root)
      go o a =
          let w : Ok (plug a.context (and a.own a.store a.members)) s.config.next [] = subst (λ (g : Node goal). Ok g s.config.next []) (sym a.whole) (formed_state 2048 s h).scopes in
          let l : Sub (vars_all a.store) (locals s.config.root) = λ x i. subst (λ (g : Node goal). In x (locals g)) a.whole (store_locals a.context a.own a.store a.members s.config.next w x i) in
          let d : Drawn (store_words (number_in (table s)) a.store [] ++ stop) (0 ∷ locals s.config.root) = drawn_store (0 ∷ locals s.config.root) (inl refl) (number_in (table s)) a.store (λ x i. inr (l x i)) in
          subst (λ (u : List Word). Drawn (u ++ stop) (0 ∷ locals s.config.root)) (sym (store_spelled (number_in (table s)) a.stands).words) d

  pub roomy_stores : Roomy (config_words s)
  roomy_stores = record {
    few = omega (arith, h.fits.words);
    vars = record { low = low_vars (config_words s) (config_small 2048 s h.fits) };
    others = locals s.config.root;
    drawn = root_drawn;
    trail = omega (arith, locals_few s.config.root, (formed_state 2048 s h).fit);
  }
