-- Whether a rule applies, from what is asked and from the solver's answer; and what the solver needs.
use mathlib.Core.Path.{◌≡◌, refl, ap, sym, ◌∙◌, subst}
use mathlib.Core.Bool.{Bool, true, false, not}
use mathlib.Core.List.{List, [], ◌∷◌, ◌++◌}
use mathlib.Core.Option.{some, some-injective}
use Prim.Native.Nat.{ℕ, ◌+◌, ◌<◌, ◌≤◌}
use native.Mathlib.Omega.{arith}
use lib.Dec.{eqb, eqb→eq}
use lib.ListN.{length, get_or}
use Rattle.constraint.specs.Constraint.{Store}
use Rattle.constraint.specs.Solve.{quiet?}
use Rattle.akl.specs.Base.{is_some, nth}
use Rattle.akl.specs.Limits.{most_parts}
use Rattle.akl.specs.Syntax.{Stmt, atom, call, comp, hide, choice}
use Rattle.akl.specs.Configuration as akl
use Rattle.akl.specs.Configuration.{goal, member, Node, or, and, stmt, choice_box, guard, Nodes, nil, cons, Ctx, top, in_or, in_guard, env}
use Rattle.akl.specs.Places.{Place, at}
use Rattle.akl.specs.Table.{Row, table as rules, rule_row, takes_number, statement_kind, or_kind}
use Rattle.akl.specs.Table as akl_table
use Rattle.akl.specs.Rules.{effect, solved_guard}
use Rattle.mem_words.specs.declared.Word.{Word}
use Rattle.mem_words.specs.declared.Word.TheVariants.{Bad}
use Rattle.mem_sorts.specs.declared.Kind.TheVariants.{And}
use Rattle.mem_sorts.specs.Shapes.{kind_no}
use Rattle.store_words.specs.Contexts.{before, after, kind_of}
use Rattle.store_form.specs.State.{State, table, number_in, program_of, config_of}
use Rattle.store_form.specs.Form.{config_words}
use Rattle.store_steps.specs.After as steps
use Rattle.store_room.proofs.Boxes.{AndAt, and_at}
use Rattle.store_room.proofs.Placed.{room_box, room_inside}
use Rattle.store_room.proofs.Drawing.{roomy_stores}
use Rattle.store_room.proofs.Answered.{sat_state, guard_state}
use Rattle.rule_effects.specs.Conditions.{kind_in, kind_at, solved_at}
use Rattle.rule_effects.specs.Standing.{Stands}
use Rattle.rule_effects.proofs.Frames.{stands_seg}
use Rattle.rule_effects.proofs.Conditions.{kind_node, solved_node}
use Rattle.rule_ranges.specs.Ranges.{ranges_from}
use Rattle.rule_ranges.specs.Asked.{Roomy, RoomFor, SatIn, QuietIn}
use Rattle.rule_applies.specs.declared.Asks.{Asks}
use Rattle.rule_applies.specs.declared.Asks.TheVariants.{Never, Always, Quiet, Satisfiable}
use Rattle.rule_applies.specs.Asking.{asks_in}
use Rattle.rule_applies.specs.Answers.{verdict, IsQuiet, IsSatisfiable, Answers}
use Rattle.rule_applies.proofs.Applies.{applies_by}
use Rattle.step_meant.specs.Meant.{Meant, StandsAt}
use Rattle.step_meant.specs.Asked.{Takes, Applies, CanApply}
use Rattle.step_applies.proofs.Meanings.{stands_low, stands_behind, root_is, passes_there, all_defined}
use Rattle.step_applies.proofs.Asking.{quiet_solved, sat_itself, solved_and}

-- ---------------------------------------------------------------------------------------------
-- The room that the solver needs. First in the words of a state.

pub record CanQuiet (W : List Word) (g j : ℕ) : Type 0 where
  pub roomy : Roomy W
  pub order : g ≤ j
  pub low : j < length W
  pub room : RoomFor W (ranges_from W 0 g ++ ranges_from W g (j + 1))

pub record CanSat (W : List Word) (j : ℕ) : Type 0 where
  pub roomy : Roomy W
  pub low : j < length W
  pub room : RoomFor W (ranges_from W 0 (j + 1))

module _ (s : State) (h : steps.Stands most_parts s) where
  box_there : (g : ℕ) → kind_at (config_words s) g And ≡ true → AndAt (number_in (table s)) s.config g
  unfolding config_words
  box_there g t = and_at (number_in (table s)) s.config g t

  box_stands : (g : ℕ) (a : AndAt (number_in (table s)) s.config g) → Stands (number_in (table s)) a.context (and a.own a.store a.members) [] (config_words s) g
  unfolding config_words
  box_stands g a = a.stands

  quiet_ready : (g : ℕ) → kind_at (config_words s) g And ≡ true → CanQuiet (config_words s) g g
  quiet_ready g t =
      let num = number_in (table s) in
      let a = box_there g t in
      let p = box_stands g a in
      record {
        roomy = roomy_stores s h;
        order = omega arith;
        low = stands_low num p;
        room = room_inside s h a.context (and a.own a.store a.members) g a.context a.own a.store a.members g p (sym a.whole) p (omega arith) (stands_behind num p);
      }

  sat_ready : (g : ℕ) → kind_at (config_words s) g And ≡ true → CanSat (config_words s) g
  sat_ready g t =
      let num = number_in (table s) in
      let a = box_there g t in
      let p = box_stands g a in
      record { roomy = roomy_stores s h; low = stands_low num p; room = room_box s h a.context a.own a.store a.members g (sym a.whole) p }

-- the kind that rule 9 takes
pub or_not : (χ : Ctx goal) → takes_number (or_kind χ) ≡ 7 → ⊥
unfolding or_kind
or_not top e = omega (arith, e)
or_not (in_or χ l r) e = omega (arith, e)
or_not (in_guard χ b) e = omega (arith, e)

pub statement_not : (x : Stmt) → takes_number (statement_kind x) ≡ 7 → ⊥
unfolding statement_kind
statement_not (atom c) e = omega (arith, e)
statement_not (call p xs) e = omega (arith, e)
statement_not (comp a b) e = omega (arith, e)
statement_not (hide n a) e = omega (arith, e)
statement_not (choice op cs) e = omega (arith, e)

and_kind : {k : akl.Kind} (χ : Ctx k) (n : Node k) → takes_number (akl_table.kind_at (at χ n)) ≡ 7 → kind_no (kind_of n) ≡ 1
unfolding akl_table.kind_at kind_of
and_kind χ (or ns) e = absurd (or_not χ e)
and_kind χ (and vs σ ms) e = refl
and_kind χ (stmt x) e = absurd (statement_not x e)
and_kind χ (choice_box op gs) e = absurd (omega (arith, e))
and_kind χ (guard g b) e = absurd (omega (arith, e))

-- an and-box begins where its kind stands
pub and_begins : (num : _) {k : akl.Kind} {χ : Ctx k} {n : Node k} {Z W : List Word} {i : ℕ} → Stands num χ n Z W i → takes_number (akl_table.kind_at (at χ n)) ≡ 7 → kind_at W i And ≡ true
unfolding kind_at
and_begins num {k} {χ} {n} {Z} {W} {i} p e =
    let h = p.begins in
    let f : kind_in (get_or W i Bad) ≡ 1 = kind_node num n (before num χ [] ∷ []) (after num χ Z) W i (stands_seg num p) (omega (arith, h)) ∙ and_kind χ n e in
    ap (λ (x : ℕ). eqb x 1) f

row_nine : (w : Row) → rule_row 9 ≡ some w → takes_number w.takes ≡ 7
unfolding rule_row nth rules
row_nine w e = ap (λ (o : Row). takes_number o.takes) (sym (some-injective _ w e))

module _ (W D : List Word) (r i : ℕ) where
  pub can_low : CanApply W D r i → i ≤ length W
  can_low c = go c.place c.takes.stands
    where
      go : (pl : Place) → StandsAt c.state W pl i → i ≤ length W
      go (at χ n) p = let l = stands_low (number_in (table c.state)) p in omega (arith, l)

  pub can_quiet : (g : ℕ) → CanApply W D r i → Quiet g ≡ asks_in W i r → CanQuiet W g g
  can_quiet g c e =
      let m = c.meant in
      let t = subst (λ (U : List Word). kind_at U g And ≡ true) m.config (solved_and W g (quiet_solved W i r g e)) in
      subst (λ (U : List Word). CanQuiet U g g) (sym m.config) (quiet_ready c.state m.stands g t)

  pub can_sat : (g : ℕ) → CanApply W D r i → Satisfiable g ≡ asks_in W i r → CanSat W g
  can_sat g c e =
      let m = c.meant in
      let z = sat_itself W i r g e in
      let t = subst (λ (U : List Word). kind_at U g And ≡ true) m.config (subst (λ (j : ℕ). kind_at W j And ≡ true) (sym z.1) (go c.place c.takes z.0)) in
      subst (λ (U : List Word). CanSat U g) (sym m.config) (sat_ready c.state m.stands g t)
    where
      go : (pl : Place) → Takes c.state W r pl i → r ≡ 9 → kind_at W i And ≡ true
      go (at χ n) t q =
          and_begins (number_in (table c.state)) t.stands
          (eqb→eq (takes_number (akl_table.kind_at (at χ n))) (takes_number t.row.takes) t.fits ∙ row_nine t.row (ap rule_row (sym q) ∙ t.is_row))

-- ---------------------------------------------------------------------------------------------
-- The answers are those of the definitions.

only_solved : (ms : Nodes member) (vs : List ℕ) (σ : Store) → true ≡ is_some (solved_guard (and vs σ ms)) → ms ≡ nil
only_solved nil vs σ e = refl
only_solved (cons m ms) vs σ e = absurd (let z : ◌≡◌ {A = ℕ} 1 0 = ap (λ (b : Bool). elim b [ true ↦ 1 | false ↦ 0 ]) e in omega (arith, z))

module _ (W D : List Word) (s : State) (m : Meant W D s) where
  quiet_answer : (g : ℕ) (q : Bool) → solved_at W g ≡ true → QuietIn W g g q → IsQuiet (number_in (table s)) [] W g q
  quiet_answer g q t a = record { answer = λ χ vs σ ms p. go χ vs σ ms p (only_solved ms vs σ (sym t ∙ solves χ vs σ ms p)) }
    where
      solves : (χ : Ctx goal) (vs : List ℕ) (σ : Store) (ms : Nodes member) → Stands (number_in (table s)) χ (and vs σ ms) [] W g → solved_at W g ≡ is_some (solved_guard (and vs σ ms))
      solves χ vs σ ms p = let h = p.begins in solved_node (number_in (table s)) (before (number_in (table s)) χ [] ∷ []) (after (number_in (table s)) χ []) W g (and vs σ ms) (stands_seg (number_in (table s)) p) (omega (arith, h))

      go : (χ : Ctx goal) (vs : List ℕ) (σ : Store) (ms : Nodes member) → Stands (number_in (table s)) χ (and vs σ ms) [] W g → ms ≡ nil → q ≡ quiet? vs (env χ) σ
      go χ vs σ ms p e =
          let p' : Stands (number_in (table s)) χ (and vs σ nil) [] W g = subst (λ (x : Nodes member). Stands (number_in (table s)) χ (and vs σ x) [] W g) e p in
          guard_state most_parts s m.stands χ vs σ g q (root_is m p') (subst (λ (U : List Word). Stands (number_in (table s)) χ (and vs σ nil) [] U g) m.config p') (subst (λ (U : List Word). QuietIn U g g q) m.config a)

  sat_answer : (g : ℕ) (q : Bool) → SatIn W g q → IsSatisfiable (number_in (table s)) [] W g q
  sat_answer g q a = record {
    answer = λ χ vs σ ms p.
        sat_state most_parts s m.stands χ vs σ ms g q (root_is m p) (subst (λ (U : List Word). Stands (number_in (table s)) χ (and vs σ ms) [] U g) m.config p) (subst (λ (U : List Word). SatIn U g q) m.config a);
  }

-- ---------------------------------------------------------------------------------------------

module _ (W D : List Word) (r i : ℕ) where
  answered : (a : Asks) (q : Bool) → a ≡ asks_in W i r → ((s : State) → Meant W D s → Answers (number_in (table s)) [] W a q) → Applies W D r i (verdict a q)
  answered a q e h = record { right = go }
    where
      go : (s : State) (pl : Place) → Meant W D s → Takes s W r pl i → verdict a q ≡ is_some (effect (program_of s) (config_of s).next r pl)
      go s (at χ n) m t =
          applies_by (number_in (table s)) (program_of s) (config_of s).next [] W i q r t.row a t.stands t.is_row t.fits e (h s m) (all_defined (program_of s) n (passes_there m t.stands))

  pub never_applies : Never ≡ asks_in W i r → Applies W D r i false
  never_applies e = answered Never true e (λ s m. tt)

  pub always_applies : Always ≡ asks_in W i r → Applies W D r i true
  always_applies e = answered Always true e (λ s m. tt)

  pub quiet_applies : (g : ℕ) (q : Bool) → Quiet g ≡ asks_in W i r → QuietIn W g g q → Applies W D r i q
  quiet_applies g q e a = answered (Quiet g) q e (λ s m. quiet_answer W D s m g q (quiet_solved W i r g e) a)

  sat_applies : (g : ℕ) (q : Bool) → Satisfiable g ≡ asks_in W i r → SatIn W g q → Applies W D r i (not q)
  sat_applies g q e a = answered (Satisfiable g) q e (λ s m. sat_answer W D s m g q a)

  pub satisfied_not : (g : ℕ) (q : Bool) → Satisfiable g ≡ asks_in W i r → SatIn W g q → q ≡ true → Applies W D r i false
  satisfied_not g q e a f = subst (λ (b : Bool). Applies W D r i (not b)) f (sat_applies g q e a)

  pub unsatisfied_applies : (g : ℕ) (q : Bool) → Satisfiable g ≡ asks_in W i r → SatIn W g q → q ≡ false → Applies W D r i true
  unsatisfied_applies g q e a f = subst (λ (b : Bool). Applies W D r i (not b)) f (sat_applies g q e a)
