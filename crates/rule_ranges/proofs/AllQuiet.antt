-- A goal's stores are quiet as a stable goal's must be, if those are that its words show.
use mathlib.Core.Path.{◌≡◌, refl, ap, ap₂, sym, ◌∙◌, subst}
use mathlib.Core.Logic.{inl, inr}
use mathlib.Core.Bool.{Bool, true, false, ◌&&◌}
use mathlib.Core.List.{List, [], ◌++◌, append-nil}
use Prim.Native.Nat.{ℕ, ◌+◌, ◌-◌, ◌≤◌, ◌<◌}
use native.Mathlib.Omega.{arith}
use lib.Dec.{eqb}
use lib.ListN.{length, get_or, drop}
use lib.Seq.{get_or-take, get_or-drop}
use Rattle.constraint.specs.Tree.{Label}
use Rattle.constraint.specs.Constraint.{Store, Fresh, In}
use Rattle.constraint.specs.Solve.{quiet?}
use Rattle.akl.specs.Base.{Name, all}
use Rattle.akl.specs.Configuration as akl
use Rattle.akl.specs.Configuration.{goal, member, Node, and, Nodes, Ctx, plug, env}
use Rattle.akl.specs.Places.{Place, at, places}
use Rattle.akl.specs.Stability.{locals, stores_down}
use Rattle.accept.specs.AtPlaces.{stores_at}
use Rattle.mem_words.specs.declared.Word.{Word}
use Rattle.mem_words.specs.declared.Word.TheVariants.{Bad}
use Rattle.mem_sorts.specs.declared.Kind.TheVariants.{And}
use Rattle.mem_sorts.specs.Shapes.{kind_no}
use Rattle.store_words.specs.Boxes.{node_words}
use Rattle.store_words.specs.Contexts.{before}
use Rattle.store_words.specs.Tables.{SpeltNode}
use Rattle.solve_fields.specs.Read.{Distinct}
use Rattle.rule_words.specs.Pieces.{cut}
use Rattle.rule_effects.specs.Effects.{behind}
use Rattle.rule_effects.specs.Conditions.{kind_in, kind_at}
use Rattle.rule_effects.specs.Standing.{Stands}
use Rattle.rule_ranges.specs.Asked.{QuietIn}
use Rattle.rule_ranges.specs.Stable.{AndIn, QuietAll}
use Rattle.rule_ranges.proofs.Environment.{and_begins}
use Rattle.rule_ranges.proofs.Locals.{goal_end, goal_words}
use Rattle.rule_ranges.proofs.Quieted.{quiet_at}
use Rattle.rule_ranges.proofs.Stable.{stable_stores}
use Rattle.rule_ranges.proofs.Listed.{ands, ands_low, ands_all, Listed, none, box, other, node_listed}

and_no : (b : Bool) → b && false ≡ false
and_no true = refl
and_no false = refl

at_cut : (a b i : ℕ) (W : List Word) → i < b - a → get_or (cut a b W) i Bad ≡ get_or W (a + i) Bad
unfolding cut
at_cut a b i W h = get_or-take (b - a) (drop a W) i Bad h ∙ get_or-drop a W i Bad

module _ (num : Name → ℕ) {k : akl.Kind} {χ : Ctx k} {n : Node k} {Z W : List Word} {g : ℕ} (s : Stands num χ n Z W g) where
  -- the goal's and-boxes, by their places and by where they begin
  goal_listed : Listed num (plug χ n) (places n χ) (ands g (cut g (behind W g) W))
  unfolding ands
  goal_listed =
      subst (λ (l : List Word). Listed num (plug χ n) (places n χ) (ands g l)) (sym (goal_words num s))
      (subst (λ (l : List Place). Listed num (plug χ n) l (ands g (node_words num n []))) (append-nil (places n χ)) (node_listed num (plug χ n) n χ g [] [] refl s.begins none))

  inside : (j : ℕ) → In j (ands g (cut g (behind W g) W)) → (g ≤ j) × (j < behind W g)
  inside j i =
      let p = ands_low (cut g (behind W g) W) g j i in
      let p0 = p.0 in
      let p1 = p.1 in
      let e = goal_end num s in
      (p0, omega (arith, p1, e, ap length (goal_words num s)))

  listed : (j : ℕ) → AndIn W g j → In j (ands g (cut g (behind W g) W))
  unfolding kind_at
  listed j a =
      let h = a.from in
      let l = a.to in
      let e = goal_end num s in
      let z : g + (j - g) ≡ j = omega (arith, h) in
      let w : get_or (cut g (behind W g) W) (j - g) Bad ≡ get_or W j Bad = at_cut g (behind W g) (j - g) W (omega (arith, h, l)) ∙ ap (λ (i : ℕ). get_or W i Bad) z in
      subst (λ (x : ℕ). In x (ands g (cut g (behind W g) W))) z
      (ands_all (cut g (behind W g) W) g (j - g) (omega (arith, h, l, e, ap length (goal_words num s))) (ap (λ (x : Word). eqb (kind_in x) (kind_no And)) w ∙ a.kind))

  module _ (lab : ℕ → Label) (p : SpeltNode num lab (plug χ n)) (d : Distinct lab) (f : Fresh (locals n) (env χ)) where
    quiets : Place → Bool
    quiets pl = all (quiet? (locals n) (env χ)) (stores_at pl)

    stands : {χ' : Ctx goal} {vs : List ℕ} {σ : Store} {ms : Nodes member} {j : ℕ} → plug χ' (and vs σ ms) ≡ plug χ n → j ≡ length (before num χ' []) → Stands num χ' (and vs σ ms) Z W j
    stands w b = record { whole = s.whole ∙ ap (λ (x : Node goal). node_words num x Z) (sym w); begins = b }

    -- the answer at one of them
    answer : {χ' : Ctx goal} {vs : List ℕ} {σ : Store} {ms : Nodes member} {j : ℕ} {r : Bool} → Stands num χ' (and vs σ ms) Z W j → plug χ' (and vs σ ms) ≡ plug χ n → g ≤ j → j < behind W g → QuietIn W g j r
        → quiet? (locals n) (env χ) (env χ' ++ σ) ≡ r
    answer t w h l q = sym (quiet_at num lab p (subst (SpeltNode num lab) (sym w) p) d f s t h l q)

    all_true : {pls : List Place} {js : List ℕ} → Listed num (plug χ n) pls js → ((j : ℕ) → In j js → (g ≤ j) × (j < behind W g)) → ((j : ℕ) → AndIn W g j → QuietIn W g j true) → all quiets pls ≡ true
    unfolding all quiets
    all_true none b h = refl
    all_true (box {j = j} w e t) b h =
        let i = b j (inl refl) in
        ap₂ (λ (x y : Bool). (x && true) && y) (answer (stands w e) w i.0 i.1 (h j (record { from = i.0; to = i.1; kind = and_begins num (stands w e) }))) (all_true t (λ j' m. b j' (inr m)) h)
    all_true (other e t) b h = ap₂ (λ (x : List Store) (y : Bool). all (quiet? (locals n) (env χ)) x && y) e (all_true t b h)

    some_false : {pls : List Place} {js : List ℕ} → Listed num (plug χ n) pls js → (j : ℕ) → In j js → AndIn W g j → QuietIn W g j false → all quiets pls ≡ false
    unfolding all quiets
    some_false none j m a q = absurd m
    some_false (box {pls = pls} w e t) j (inl z) a q = ap (λ (x : Bool). (x && true) && all quiets pls) (answer (stands w (z ∙ e)) w a.from a.to q)
    some_false (box {χ = χ'} {vs = vs} {σ = σ} {ms = ms} w e t) j (inr m) a q = ap (λ (y : Bool). quiets (at χ' (and vs σ ms)) && y) (some_false t j m a q) ∙ and_no (quiets (at χ' (and vs σ ms)))
    some_false (other {pl = pl} e t) j m a q = ap (λ (y : Bool). quiets pl && y) (some_false t j m a q) ∙ and_no (quiets pl)

    -- "for each and-box at or inside it, the stores from the goal down to that box are together quiet, with all locals inside the goal
    -- as V, for the goal's environment"
    pub quiet_all : (r : Bool) → QuietAll W g r → r ≡ all (quiet? (locals n) (env χ)) (stores_down n [])
    unfolding quiets
    quiet_all true h = sym (stable_stores n χ f ∙ all_true goal_listed inside h)
    quiet_all false h = sym (stable_stores n χ f ∙ some_false goal_listed h.0 (listed h.0 h.1) h.1 h.2)
