-- The walk for every state that the words mean: what holds of the answers that are left from a position on.
use mathlib.Core.Path.{◌≡◌, refl, ap, sym, ◌∙◌, subst}
use mathlib.Core.Bool.{Bool, true, false}
use mathlib.Core.List.{List, [], ◌∷◌, ◌++◌}
use Prim.Native.Nat.{ℕ, ◌+◌, ◌<◌, ◌≤◌}
use native.Mathlib.Omega.{arith}
use lib.ListN.{length}
use Rattle.constraint.specs.Constraint.{Store}
use Rattle.akl.specs.Base.{if}
use Rattle.akl.specs.Limits.{most_parts}
use Rattle.akl.specs.Configuration.{goal, member, and, Nodes, nil, cons, Ctx}
use Rattle.akl.specs.Places.{at}
use Rattle.akl.specs.Answers.{Answer, solved_box, answers, is_answer}
use Rattle.runs.specs.AnswerPlaces.{OrsAround}
use Rattle.mem_words.specs.declared.Word.{Word}
use Rattle.mem_sorts.specs.declared.Kind.TheVariants.{And}
use Rattle.store_form.specs.State.{State}
use Rattle.rule_words.specs.Scans.{close}
use Rattle.rule_words.proofs.Loops.{close_inside}
use Rattle.rule_effects.specs.Conditions.{kind_at}
use Rattle.store_room.proofs.Freshness.{formed_state}
use Rattle.step_meant.specs.Meant.{Meant, StandsAt}
use Rattle.answer_boxes.specs.Asked.{MeantSome, GoalAt, AnswerAt}
use Rattle.answer_boxes.proofs.Walk.{Left, BoxAt, clash, other, box, none_left, all_left}

-- of the answers from j on
pub record Reached (s : State) (W : List Word) (j : ℕ) (P : List Answer → Type 0) : Type 0 where
  pub rest : List Answer
  pub left : Left s W j rest
  pub holds : P rest

pub record Walking (W : List Word) (j : ℕ) (P : State → List Answer → Type 0) : Type 0 where
  pub reached : (s : State) (D : List Word) → Meant W D s → Reached s W j (P s)

-- the answer at j is the first of them
pub record First (s : State) (W : List Word) (j : ℕ) (P : List Answer → Type 0) : Type 0 where
  pub context : Ctx goal
  pub own : List ℕ
  pub store : Store
  pub ors : OrsAround context
  pub stands : StandsAt s W (at context (and own store nil)) j
  pub rest : List Answer
  pub holds : P ((own, store) ∷ rest)
  pub next : Left s W (close W j + 1) rest

first_in : {s : State} {W : List Word} {j : ℕ} (P : List Answer → Type 0) (A : List Answer) → P A → (χ : Ctx goal) (vs : List ℕ) (σ : Store) (ms : Nodes member) → OrsAround χ → StandsAt s W (at χ (and vs σ ms)) j
    → (rest : List Answer) → A ≡ solved_box vs σ ms ++ rest → Left s W (close W j + 1) rest → true ≡ is_answer (and vs σ ms) → First s W j P
first_in P A p χ vs σ (cons m ms) o h rest e l t = absurd (clash t)
first_in P A p χ vs σ nil o h rest e l t =
    record { context = χ; own = vs; store = σ; ors = o; stands = h; rest = rest; holds = subst P (e ∙ ap (λ (b : Bool). if b ((vs, σ) ∷ []) [] ++ rest) (sym t)) p; next = l }

no_answer : (vs : List ℕ) (σ : Store) (ms : Nodes member) (rest : List Answer) → false ≡ is_answer (and vs σ ms) → solved_box vs σ ms ++ rest ≡ rest
no_answer vs σ (cons m ms) rest t = refl
no_answer vs σ nil rest t = ap (λ (b : Bool). if b ((vs, σ) ∷ []) [] ++ rest) (sym t)

-- a box ends behind its first word
pub ends_later : (W : List Word) (j z : ℕ) → j < length W → z ≡ close W j → j < z
ends_later W j z h e = omega (arith, e, close_inside W j h)

module _ {W : List Word} where
  pub walk_first : (P : State → List Answer → Type 0) → ((s : State) → P s (answers s.config.root)) → Walking W 1 P
  walk_first P f = record { reached = λ s D m. record { rest = answers s.config.root; left = all_left s W m.config s.config.root (formed_state most_parts s m.stands).top_or refl; holds = f s } }

  module _ {j : ℕ} {P : State → List Answer → Type 0} (g : Walking W j P) where
    pub walk_other : (b : Bool) → b ≡ kind_at W j And → b ≡ false → Walking W (j + 1) P
    walk_other b e f = record { reached = λ s D m. let r = g.reached s D m in record { rest = r.rest; left = other s W m.config j r.rest (sym e ∙ f) r.left; holds = r.holds } }

    -- nothing is left behind the words
    pub walk_last : length W ≤ j → (s : State) (D : List Word) → Meant W D s → P s []
    walk_last h s D m = let r = g.reached s D m in subst (P s) (none_left s W m.config j r.rest h r.left) r.holds

    -- an and-box
    module _ (b : Bool) (h : j < length W) (e : b ≡ kind_at W j And) (f : b ≡ true) where
      box_there : (s : State) (D : List Word) (m : Meant W D s) → BoxAt s W j (g.reached s D m).rest
      box_there s D m = box s W m.config j (g.reached s D m).rest h (sym e ∙ f) (g.reached s D m).left

      pub walk_goal : MeantSome W → GoalAt W j
      walk_goal x =
          let q = box_there x.some_state x.some_rules x.meant in
          record { some_state = x.some_state; some_rules = x.some_rules; meant = x.meant; context = q.context; here = and q.own q.store q.members; ors = q.ors; stands = q.stands }

      -- it is an answer
      pub walk_found : (r : Bool) → AnswerAt W j r → r ≡ true → (s : State) (D : List Word) → Meant W D s → First s W j (P s)
      walk_found r a t s D m =
          let q = box_there s D m in
          first_in (P s) (g.reached s D m).rest (g.reached s D m).holds q.context q.own q.store q.members q.ors q.stands q.rest q.left q.next
          (sym t ∙ a.right s D q.context (and q.own q.store q.members) m q.ors q.stands)

      pub walk_answer : (P' : State → List Answer → Type 0) → ((s : State) (x : Answer) (A : List Answer) → P s (x ∷ A) → P' s A) → (r : Bool) → AnswerAt W j r → r ≡ true → (z : ℕ) → z ≡ close W j → Walking W (z + 1) P'
      walk_answer P' c r a t z y = subst (λ (i : ℕ). Walking W (i + 1) P') (sym y) (record { reached = λ s D m. let q = walk_found r a t s D m in record { rest = q.rest; left = q.next; holds = c s (q.own, q.store) q.rest q.holds } })

      -- it is none
      pub walk_on : (r : Bool) → AnswerAt W j r → r ≡ false → (z : ℕ) → z ≡ close W j → Walking W (z + 1) P
      walk_on r a t z y = subst (λ (i : ℕ). Walking W (i + 1) P) (sym y) (record { reached = go })
        where
          go : (s : State) (D : List Word) → Meant W D s → Reached s W (close W j + 1) (P s)
          go s D m =
              let q = box_there s D m in
              let n = no_answer q.own q.store q.members q.rest (sym t ∙ a.right s D q.context (and q.own q.store q.members) m q.ors q.stands) in
              record { rest = q.rest; left = q.next; holds = subst (P s) (q.left ∙ n) (g.reached s D m).holds }
