-- The relation of the rules and the function that computes them agree.
use mathlib.Core.Path.{◌≡◌, refl, sym, subst}
use mathlib.Core.Logic.{◌↔◌, inl, inr}
use mathlib.Core.List.{List, [], ◌∷◌, ◌++◌}
use mathlib.Core.Bool.{Bool, true, ◌&&◌, ◌||◌, not, false}
use mathlib.Core.Option.{Option, some, none}
use Prim.Native.Nat.{ℕ, zero, suc, ◌<◌}
use native.Mathlib.Omega.{arith}
use lib.Dec.{T}
use Rattle.constraint.specs.Constraint.{In}
use Rattle.constraint.specs.Solve.{satisfiable?, quiet?, elem}
use Rattle.constraint.proofs.Lists.{none_some, and_T, or_T, not_T, elem_In}
use Rattle.constraint.proofs.Decision.{satisfiable_iff}
use Rattle.constraint.proofs.Renamed.{quiet_iff}
use Rattle.akl.specs.Base.{size, nth, all, range}
use Rattle.akl.specs.Syntax.{Op, wait, cond, commit, Program}
use Rattle.akl.specs.Configuration.{Kind, Node, Nodes, nil, cons, Ctx, in_and, plug, env}
use Rattle.akl.specs.Places.{Place}
use Rattle.akl.specs.Table.{Takes, constraint_atom, program_atom, composition, hiding, choice_statement, choice_box_place, guarded_goal, and_box, inner_or_box, other_or_box, Row, table, rule_row, same_kind}
use Rattle.akl.specs.Rules.{Change, provided, non_empty, is_wait, effect}
use Rattle.theory.specs.Transition.{NotEmpty, Transition}
use Rattle.theory.specs.Transition as Tr
use Rattle.theory.proofs.Reflect.{all_each}
use Rattle.theory.proofs.Locals.{In-range}

-- ---------------------------------------------------------------------------------------------
-- The rules that take a kind of place.

unfoldable pub rules_of : Takes → List ℕ
rules_of constraint_atom = 1 ∷ []
rules_of program_atom = 2 ∷ []
rules_of composition = 3 ∷ []
rules_of hiding = 4 ∷ []
rules_of choice_statement = 5 ∷ []
rules_of choice_box_place = 6 ∷ 10 ∷ 12 ∷ []
rules_of guarded_goal = 7 ∷ 8 ∷ 11 ∷ 13 ∷ []
rules_of and_box = 9 ∷ []
rules_of inner_or_box = 14 ∷ []
rules_of other_or_box = []

-- the row of rule r, if there is one and it takes t, is a row of one of these
listed : Takes → ℕ → Option Row → Bool
listed t r none = true
listed t r (some w) = not (same_kind t w.takes) || elem r (rules_of t)

row_listed : (t : Takes) → T (all (λ r. listed t r (rule_row r)) (range 1 (size table)))
unfolding listed rules_of rule_row nth table all range elem size
row_listed constraint_atom = tt
row_listed program_atom = tt
row_listed composition = tt
row_listed hiding = tt
row_listed choice_statement = tt
row_listed choice_box_place = tt
row_listed guarded_goal = tt
row_listed and_box = tt
row_listed inner_or_box = tt
row_listed other_or_box = tt

nth_below : {A : Type 0} (l : List A) (n : ℕ) (x : A) → nth l n ≡ some x → n < size l
unfolding nth size
nth_below [] n x e = absurd (none_some e)
nth_below (y ∷ l) zero x e = omega arith
nth_below (y ∷ l) (suc n) x e = omega (arith, nth_below l n x e)

pub row_range : (r : ℕ) (w : Row) → rule_row r ≡ some w → In r (range 1 (size table))
unfolding rule_row
row_range zero w e = absurd (none_some e)
row_range (suc r) w e = In-range (suc r) 1 (size table) (omega arith) (omega (arith, nth_below table r w e))

pub rule_of : (t : Takes) (r : ℕ) (w : Row) → rule_row r ≡ some w → T (same_kind t w.takes) → In r (rules_of t)
unfolding listed
rule_of t r w e k =
    let h = (all_each (λ n. listed t n (rule_row n)) (range 1 (size table))).0 (row_listed t) r (row_range r w e) in
    let g : T (not (same_kind t w.takes) || elem r (rules_of t)) = subst (λ o. T (listed t r o)) e h in
    elim ((or_T (not (same_kind t w.takes)) (elem r (rules_of t))).0 g) [ inl n ↦ absurd ((not_T (same_kind t w.takes)).0 n k) | inr i ↦ (elem_In r (rules_of t)).0 i ]

-- ---------------------------------------------------------------------------------------------
-- From the relation to the function.

pub provided_yes : (b : Bool) (c : Change) → T b → provided b c ≡ c
provided_yes false c t = elim t [ ]
provided_yes true c t = refl

-- what a transition leads to
abbrev pub leads : {k : Kind} → Ctx k → Node k → ℕ → Change
leads χ n' N' = some (record { root = plug χ n'; next = N' })

some_T : {k : Kind} (ns : Nodes k) → T (non_empty ns) ↔ NotEmpty ns
some_T nil = (λ h. h, λ h. h)
some_T (cons n ns) = (λ h. tt, λ h. tt)

wait_T : (op : Op) → T (is_wait op) ↔ (op ≡ wait)
wait_T wait = (λ h. refl, λ h. tt)
wait_T cond = (λ h. absurd h, λ e. absurd (subst (λ o. T (is_wait o)) (sym e) tt))
wait_T commit = (λ h. absurd h, λ e. absurd (subst (λ o. T (is_wait o)) (sym e) tt))

module _ (P : Program) (N : ℕ) where
  pub effect_complete : {r : ℕ} {pl : Place} {k : Kind} {χ : Ctx k} {n n' : Node k} {N' : ℕ} → Transition P N r pl k χ n n' N' → effect P N r pl ≡ leads χ n' N'
  unfolding effect
  effect_complete (Tr.constraint_atom χ vs σ l r c) = refl
  effect_complete (Tr.program_atom (in_and χ vs σ l r) p xs b e) = rw e
  effect_complete (Tr.composition χ vs σ l r a b) = refl
  effect_complete (Tr.hiding χ vs σ l r n a) = refl
  effect_complete (Tr.choosing (in_and χ vs σ l r) op cs) = refl
  effect_complete (Tr.promotion χ ws θ l r op vs σ b q) = provided_yes (is_wait op || quiet? vs (env χ ++ θ) σ) _ ((or_T (is_wait op) (quiet? vs (env χ ++ θ) σ)).1 (elim q [ inl e ↦ inl ((wait_T op).1 e) | inr h ↦ inr ((quiet_iff vs (env χ ++ θ) σ).1 h) ]))
  effect_complete (Tr.condition χ l r vs σ b q s) = provided_yes (quiet? vs (env χ) σ && non_empty r) _ ((and_T (quiet? vs (env χ) σ) (non_empty r)).1 ((quiet_iff vs (env χ) σ).1 q, (some_T r).1 s))
  effect_complete (Tr.committing χ l r vs σ b q s) = provided_yes (quiet? vs (env χ) σ && (non_empty l || non_empty r)) _ ((and_T (quiet? vs (env χ) σ) (non_empty l || non_empty r)).1 ((quiet_iff vs (env χ) σ).1 q, (or_T (non_empty l) (non_empty r)).1 (elim s [ inl a ↦ inl ((some_T l).1 a) | inr a ↦ inr ((some_T r).1 a) ])))
  effect_complete (Tr.environment_failure χ vs σ ms u) = provided_yes (not (satisfiable? (env χ ++ σ))) _ ((not_T (satisfiable? (env χ ++ σ))).1 (λ t. u ((satisfiable_iff (env χ ++ σ)).0 t)))
  effect_complete (Tr.goal_failure χ vs σ l r op) = refl
  effect_complete (Tr.guard_failure χ op l r b) = refl
  effect_complete (Tr.splitting χ vs σ l r us τ b t ts) = refl
  effect_complete (Tr.distribution χ op l r g gs b) = refl
  effect_complete (Tr.flattening χ l r ns) = refl
