-- The stability test decides stability, said of transitions and trees.
use mathlib.Core.Path.{◌≡◌, refl, ap, sym, ◌∙◌, subst}
use mathlib.Core.Logic.{◌↔◌, inl, inr}
use mathlib.Core.List.{List, [], ◌∷◌}
use mathlib.Core.Bool.{Bool, ◌&&◌, not}
use mathlib.Core.Option.{Option, some, none, some-injective}
use Prim.Native.Nat.{ℕ, zero, suc, ◌+◌}
use lib.Dec.{T, leb, ltb, leb→le, le→leb, ltb→lt, lt→ltb}
use Rattle.constraint.specs.Constraint.{Store, Quiet, In}
use Rattle.constraint.specs.Solve.{quiet?}
use Rattle.constraint.proofs.Lists.{and_T, or_T, not_T}
use Rattle.constraint.proofs.Renamed.{quiet_iff}
use Rattle.akl.specs.Base.{is_some, nth, size, any, all, range}
use Rattle.akl.specs.Syntax.{Program}
use Rattle.akl.specs.Configuration.{Kind, Node, Ctx, top, plug, env, Config}
use Rattle.akl.specs.Places.{Place, at, places, place, count, place_number, holder_number, inside}
use Rattle.akl.specs.Table.{Row, table, rule_row, statement_kind, or_kind, kind_at}
use Rattle.akl.specs.Rules.{Change, effect}
use Rattle.akl.specs.Stability.{fits_row, is_determinate, rewritten, row_disturbs, disturbs, quiescent, locals, stores_down, stable}
use Rattle.akl.specs.Step.{splitting}
use Rattle.theory.specs.Transition.{Transition}
use Rattle.theory.specs.Transition as Tr
use Rattle.accept.specs.Inner.{AtOrIn}
use Rattle.accept.specs.Accepts.{Undisturbed, Stable}
use Rattle.accept.proofs.Effects.{row_range, effect_complete}
use Rattle.accept.proofs.EffectSound.{whole, effect_sound}
use Rattle.accept.proofs.PlaceLaws.{no_place, place_whole}
use Rattle.accept.proofs.Within.{Inside, inside_iff}
use Rattle.accept.proofs.Inner.{Each, quiet_inside_iff}

-- ---------------------------------------------------------------------------------------------
-- The row of a transition's rule.

pub record RowOf {k : Kind} (r : ℕ) (pl : Place) (χ : Ctx k) : Type 0 where
  pub row : Row
  pub is_row : rule_row r ≡ some row
  pub fits : T (fits_row row pl)
  pub rewrites : rewritten row.rewrites pl ≡ place_number χ
  pub mode : ¬ (r ≡ splitting) → T (is_determinate row.mode)

module _ {P : Program} {N : ℕ} where
  pub transition_row : {r : ℕ} {pl : Place} {k : Kind} {χ : Ctx k} {n n' : Node k} {N' : ℕ} → Transition P N r pl k χ n n' N' → RowOf r pl χ
  unfolding rule_row nth table kind_at statement_kind or_kind holder_number place_number
  transition_row (Tr.constraint_atom χ vs σ l r c) = record { row = _; is_row = refl; fits = tt; rewrites = refl; mode = λ n. tt }
  transition_row (Tr.program_atom χ p xs b e) = record { row = _; is_row = refl; fits = tt; rewrites = refl; mode = λ n. tt }
  transition_row (Tr.composition χ vs σ l r a b) = record { row = _; is_row = refl; fits = tt; rewrites = refl; mode = λ n. tt }
  transition_row (Tr.hiding χ vs σ l r n a) = record { row = _; is_row = refl; fits = tt; rewrites = refl; mode = λ n. tt }
  transition_row (Tr.choosing χ op cs) = record { row = _; is_row = refl; fits = tt; rewrites = refl; mode = λ n. tt }
  transition_row (Tr.promotion χ ws θ l r op vs σ b q) = record { row = _; is_row = refl; fits = tt; rewrites = refl; mode = λ n. tt }
  transition_row (Tr.condition χ l r vs σ b q s) = record { row = _; is_row = refl; fits = tt; rewrites = refl; mode = λ n. tt }
  transition_row (Tr.committing χ l r vs σ b q s) = record { row = _; is_row = refl; fits = tt; rewrites = refl; mode = λ n. tt }
  transition_row (Tr.environment_failure χ vs σ ms u) = record { row = _; is_row = refl; fits = tt; rewrites = refl; mode = λ n. tt }
  transition_row (Tr.goal_failure χ vs σ l r op) = record { row = _; is_row = refl; fits = tt; rewrites = refl; mode = λ n. tt }
  transition_row (Tr.guard_failure χ op l r b) = record { row = _; is_row = refl; fits = tt; rewrites = refl; mode = λ n. tt }
  transition_row (Tr.splitting χ vs σ l r us τ b t ts) = record { row = _; is_row = refl; fits = tt; rewrites = refl; mode = λ n. absurd (n refl) }
  transition_row (Tr.distribution χ op l r g gs b) = record { row = _; is_row = refl; fits = tt; rewrites = refl; mode = λ n. tt }
  transition_row (Tr.flattening χ l r ns) = record { row = _; is_row = refl; fits = tt; rewrites = refl; mode = λ n. tt }

-- the goal that is rewritten stands in the configuration
pub transition_whole : {P : Program} {N r : ℕ} {pl : Place} {k : Kind} {χ : Ctx k} {n n' : Node k} {N' : ℕ} → Transition P N r pl k χ n n' N' → plug χ n ≡ whole pl
unfolding plug
transition_whole (Tr.constraint_atom χ vs σ l r c) = refl
transition_whole (Tr.program_atom χ p xs b e) = refl
transition_whole (Tr.composition χ vs σ l r a b) = refl
transition_whole (Tr.hiding χ vs σ l r n a) = refl
transition_whole (Tr.choosing χ op cs) = refl
transition_whole (Tr.promotion χ ws θ l r op vs σ b q) = refl
transition_whole (Tr.condition χ l r vs σ b q s) = refl
transition_whole (Tr.committing χ l r vs σ b q s) = refl
transition_whole (Tr.environment_failure χ vs σ ms u) = refl
transition_whole (Tr.goal_failure χ vs σ l r op) = refl
transition_whole (Tr.guard_failure χ op l r b) = refl
transition_whole (Tr.splitting χ vs σ l r us τ b t ts) = refl
transition_whole (Tr.distribution χ op l r g gs b) = refl
transition_whole (Tr.flattening χ l r ns) = refl

-- rule 12 is not determinate
twelve_mode : (w : Row) → rule_row splitting ≡ some w → T (is_determinate w.mode) → ⊥
unfolding rule_row nth table
twelve_mode w e = subst (λ o. Mode-of o → ⊥) e (λ h. h)
  where
    Mode-of : Option Row → Type 0
    Mode-of none = ⊥
    Mode-of (some v) = T (is_determinate v.mode)

-- ---------------------------------------------------------------------------------------------
-- Tests over lists.

any_nth : {A : Type 0} (p : A → Bool) (l : List A) → T (any p l) → (j : ℕ) × (x : A) × (nth l j ≡ some x) × T (p x)
unfolding any nth
any_nth {A = A} p [] h = elim h [ ]
any_nth p (y ∷ l) h = elim ((or_T (p y) (any p l)).0 h) [ inl t ↦ (0, y, refl, t) | inr t ↦ let w = any_nth p l t in (suc w.0, w.1, w.2, w.3) ]

nth_any : {A : Type 0} (p : A → Bool) (l : List A) (j : ℕ) (x : A) → nth l j ≡ some x → T (p x) → T (any p l)
unfolding any nth
nth_any p [] j x e t = absurd (no_place x e)
nth_any p (y ∷ l) zero x e t = (or_T (p y) (any p l)).1 (inl (subst (λ z. T (p z)) (sym (some-injective y x e)) t))
nth_any p (y ∷ l) (suc j) x e t = (or_T (p y) (any p l)).1 (inr (nth_any p l j x e t))

in_any : (p : ℕ → Bool) (l : List ℕ) (x : ℕ) → In x l → T (p x) → T (any p l)
unfolding any
in_any p [] x i t = elim i [ ]
in_any p (y ∷ l) x (inl e) t = (or_T (p y) (any p l)).1 (inl (subst (λ z. T (p z)) e t))
in_any p (y ∷ l) x (inr i) t = (or_T (p y) (any p l)).1 (inr (in_any p l x i t))

any_in : (p : ℕ → Bool) (l : List ℕ) → T (any p l) → (x : ℕ) × T (p x)
unfolding any
any_in p [] h = elim h [ ]
any_in p (y ∷ l) h = elim ((or_T (p y) (any p l)).0 h) [ inl t ↦ (y, t) | inr t ↦ any_in p l t ]

pub inside_T : {k : Kind} (χ : Ctx k) (n : Node k) (p : ℕ) → T (inside χ n p) ↔ Inside χ n p
unfolding inside
inside_T χ n p =
    let a = and_T (leb (place_number χ) p) (ltb p (place_number χ + count n)) in
    (λ h. (leb→le (place_number χ) p (a.0 h).0, ltb→lt p (place_number χ + count n) (a.0 h).1), λ h. a.1 (le→leb (place_number χ) p h.0, lt→ltb p (place_number χ + count n) h.1))

is_some_of : (c : Change) → T (is_some c) → (d : Config) × (c ≡ some d)
is_some_of none h = elim h [ ]
is_some_of (some d) h = (d, refl)

quiet_each : (vs : List ℕ) (e : Store) (l : List Store) → T (all (quiet? vs e) l) ↔ Each (Quiet vs e) l
unfolding all
quiet_each vs e [] = (λ h. tt, λ h. tt)
quiet_each vs e (σ ∷ l) =
    let a = and_T (quiet? vs e σ) (all (quiet? vs e) l) in
    let q = quiet_iff vs e σ in
    let ih = quiet_each vs e l in
    (λ h. (q.0 (a.0 h).0, ih.0 (a.0 h).1), λ h. a.1 (q.1 h.0, ih.1 h.1))

-- ---------------------------------------------------------------------------------------------
-- Stability.

module _ (P : Program) (c : Config) {k : Kind} (χ : Ctx k) (n : Node k) where
  -- as the test goes, by numbers of places
  abbrev Untouched : Type 0
  Untouched = (p r : ℕ) (pl : Place) (j : Kind) (χ' : Ctx j) (m m' : Node j) (N' : ℕ) → place c p ≡ some pl → ¬ (r ≡ splitting) → Transition P c.next r pl j χ' m m' N' → ¬ Inside χ n (place_number χ')

  -- one rule at one place
  abbrev tests : ℕ → Place → Row → Bool
  tests r pl w = is_determinate w.mode && fits_row w pl && inside χ n (rewritten w.rewrites pl) && is_some (effect P c.next r pl)

  disturbs_row : (r : ℕ) (pl : Place) → T (disturbs P c χ n r pl) → (w : Row) × (rule_row r ≡ some w) × T (tests r pl w)
  unfolding disturbs
  disturbs_row r pl h = go (rule_row r) refl h
    where
      go : (o : Option Row) → rule_row r ≡ o → T (row_disturbs P c χ n r pl o) → (w : Row) × (rule_row r ≡ some w) × T (tests r pl w)
      go none e t = elim t [ ]
      go (some w) e t = (w, e, t)

  row_disturbs_it : (r : ℕ) (pl : Place) (w : Row) → rule_row r ≡ some w → T (tests r pl w) → T (disturbs P c χ n r pl)
  unfolding disturbs
  row_disturbs_it r pl w e t = subst (λ o. T (row_disturbs P c χ n r pl o)) (sym e) t

  quiescent_iff : T (quiescent P c χ n) ↔ Untouched
  unfolding quiescent place
  quiescent_iff = (to_it, λ h. (not_T (any at_place (places c.root top))).1 (from_it h))
    where
      at_place : Place → Bool
      at_place pl = any (λ r. disturbs P c χ n r pl) (range 1 (size table))

      to_it : T (not (any at_place (places c.root top))) → Untouched
      to_it h p r pl j χ' m m' N' e nr t i =
          let w = transition_row t in
          let d : T (disturbs P c χ n r pl) = row_disturbs_it r pl w.row w.is_row ((and_T (is_determinate w.row.mode && fits_row w.row pl && inside χ n (rewritten w.row.rewrites pl)) (is_some (effect P c.next r pl))).1 ((and_T (is_determinate w.row.mode && fits_row w.row pl) (inside χ n (rewritten w.row.rewrites pl))).1 ((and_T (is_determinate w.row.mode) (fits_row w.row pl)).1 (w.mode nr, w.fits), (inside_T χ n (rewritten w.row.rewrites pl)).1 (subst (Inside χ n) (sym w.rewrites) i)), subst (λ o. T (is_some o)) (sym (effect_complete P c.next t)) tt)) in
          (not_T (any at_place (places c.root top))).0 h (nth_any at_place (places c.root top) p pl e (in_any (λ s. disturbs P c χ n s pl) (range 1 (size table)) r (row_range r w.row w.is_row) d))

      from_it : Untouched → T (any at_place (places c.root top)) → ⊥
      from_it h t =
          let a = any_nth at_place (places c.root top) t in
          let b = any_in (λ r. disturbs P c χ n r a.1) (range 1 (size table)) a.3 in
          let w = disturbs_row b.0 a.1 b.1 in
          let t3 = (and_T (is_determinate w.0.mode && fits_row w.0 a.1 && inside χ n (rewritten w.0.rewrites a.1)) (is_some (effect P c.next b.0 a.1))).0 w.2 in
          let t2 = (and_T (is_determinate w.0.mode && fits_row w.0 a.1) (inside χ n (rewritten w.0.rewrites a.1))).0 t3.0 in
          let t1 = (and_T (is_determinate w.0.mode) (fits_row w.0 a.1)).0 t2.0 in
          let d = is_some_of (effect P c.next b.0 a.1) t3.1 in
          let f = effect_sound P c.next b.0 a.1 w.0 d.0 w.1 t1.1 d.1 in
          let v = transition_row f.transition in
          h a.0 b.0 a.1 f.kind f.context f.before f.after d.0.next a.2 (λ q. twelve_mode w.0 (subst (λ r. rule_row r ≡ some w.0) q w.1) t1.0) f.transition (subst (Inside χ n) (same_row v w.0 w.1) ((inside_T χ n (rewritten w.0.rewrites a.1)).0 t2.1))
        where
          same_row : {r : ℕ} {pl : Place} {j : Kind} {χ' : Ctx j} (v : RowOf r pl χ') (w : Row) → rule_row r ≡ some w → rewritten w.rewrites pl ≡ place_number χ'
          same_row {r} {pl} v w e = ap (λ u. rewritten u.rewrites pl) (some-injective w v.row (sym e ∙ v.is_row)) ∙ v.rewrites

  undisturbed_iff : plug χ n ≡ c.root → Untouched ↔ Undisturbed P c χ
  undisturbed_iff e = (λ h p r pl j χ' m m' N' ep nr t w. h p r pl j χ' m m' N' ep nr t ((by_number p pl χ' m ep t).1 w), λ h p r pl j χ' m m' N' ep nr t i. h p r pl j χ' m m' N' ep nr t ((by_number p pl χ' m ep t).0 i))
    where
      by_number : {r : ℕ} {j : Kind} {m' : Node j} {N' : ℕ} (p : ℕ) (pl : Place) (χ' : Ctx j) (m : Node j) → place c p ≡ some pl → Transition P c.next r pl j χ' m m' N' → Inside χ n (place_number χ') ↔ AtOrIn χ j χ'
      by_number p pl χ' m ep t = inside_iff c χ n χ' m e (transition_whole t ∙ place_whole c p pl ep)

pub stable_iff : (P : Program) (c : Config) (pl : Place) → whole pl ≡ c.root → T (stable P c pl) ↔ Stable P c pl
unfolding stable
stable_iff P c (at χ n) e =
    let a = and_T (quiescent P c χ n) (all (quiet? (locals n) (env χ)) (stores_down n [])) in
    let q = quiescent_iff P c χ n in
    let u = undisturbed_iff P c χ n e in
    let s = quiet_each (locals n) (env χ) (stores_down n []) in
    let d = quiet_inside_iff (env χ) n in
    (λ h. (u.0 (q.0 (a.0 h).0), d.0 (s.0 (a.0 h).1)), λ h. a.1 (q.1 (u.1 h.0), s.1 (d.1 h.1)))
