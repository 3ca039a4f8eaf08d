-- Whether a goal that has nothing but or-boxes around it is an answer: it is solved, and the solver finds its store satisfiable.
use mathlib.Core.Path.{◌≡◌, refl, ap, sym, ◌∙◌, subst}
use mathlib.Core.Bool.{Bool, true, false}
use mathlib.Core.List.{List, [], ◌∷◌, ◌++◌}
use Prim.Native.Nat.{ℕ, ◌+◌, ◌<◌}
use native.Mathlib.Omega.{arith}
use lib.ListN.{length, length-append}
use Rattle.constraint.specs.Constraint.{Store}
use Rattle.constraint.specs.Solve.{satisfiable?}
use Rattle.akl.specs.Base.{is_some}
use Rattle.akl.specs.Limits.{most_parts}
use Rattle.akl.specs.Rules.{solved_guard}
use Rattle.akl.specs.Configuration.{goal, Node, or, and, nil, cons, Ctx, top, in_or, in_guard, plug, env}
use Rattle.akl.specs.Places.{at}
use Rattle.akl.specs.Answers.{is_answer}
use Rattle.runs.specs.AnswerPlaces.{OrsAround}
use Rattle.mem_words.specs.declared.Word.{Word}
use Rattle.store_words.specs.Contexts.{before, after}
use Rattle.store_words.proofs.Places.{node_opens}
use Rattle.store_form.specs.State.{State, table, number_in}
use Rattle.store_form.specs.Form.{config_words}
use Rattle.rule_effects.specs.Conditions.{solved_at}
use Rattle.rule_effects.proofs.Frames.{stands_seg}
use Rattle.rule_effects.proofs.Conditions.{solved_node}
use Rattle.rule_ranges.specs.Ranges.{ranges_from}
use Rattle.rule_ranges.specs.Asked.{Roomy, RoomFor, SatIn}
use Rattle.store_room.proofs.Answered.{sat_state}
use Rattle.store_room.proofs.Placed.{room_box}
use Rattle.store_room.proofs.Drawing.{roomy_stores}
use Rattle.step_meant.specs.Meant.{Meant, StandsAt}
use Rattle.step_meant.proofs.Whole.{whole_is}
use Rattle.answer_boxes.specs.Asked.{GoalAt, AnswerAt}
use Rattle.answer_boxes.proofs.Walk.{clash}

-- or-boxes have no stores
pub env_none : (χ : Ctx goal) → OrsAround χ → env χ ≡ []
unfolding env
env_none top o = refl
env_none (in_or χ l r) o = env_none χ o
env_none (in_guard χ b) o = absurd o

module _ {W D : List Word} {s : State} (m : Meant W D s) {χ : Ctx goal} {n : Node goal} {j : ℕ} (h : StandsAt s W (at χ n) j) where
  solved_here : solved_at W j ≡ is_some (solved_guard n)
  solved_here = let b = h.begins in solved_node (number_in (table s)) (before (number_in (table s)) χ [] ∷ []) _ W j n (stands_seg (number_in (table s)) h) (omega (arith, b))

  root_here : s.config.root ≡ plug χ n
  root_here = sym (whole_is most_parts s m.stands.fits W m.config (at χ n) j h)

  there : StandsAt s (config_words s) (at χ n) j
  there = subst (λ (u : List Word). StandsAt s u (at χ n) j) m.config h

  stands_inside : j < length W
  stands_inside =
      let num = number_in (table s) in
      let o = node_opens num n (after num χ []) in
      let e = ap length (stands_seg num h ∙ ap (λ (u : List Word). before num χ [] ++ u) o.1) ∙ length-append (before num χ []) _ in
      let b = h.begins in
      omega (arith, e, b)

-- what the solver needs there
pub record CanSolve (W : List Word) (j : ℕ) : Type 0 where
  pub roomy : Roomy W
  pub room : RoomFor W (ranges_from W 0 (j + 1))

can_in : (W D : List Word) (s : State) → Meant W D s → (χ : Ctx goal) (n : Node goal) (j : ℕ) → StandsAt s W (at χ n) j → is_some (solved_guard n) ≡ true → CanSolve W j
can_in W D s m χ (or ns) j h e = absurd (clash (sym e))
can_in W D s m χ (and vs σ (cons x ms)) j h e = absurd (clash (sym e))
can_in W D s m χ (and vs σ nil) j h e =
    subst (λ (u : List Word). CanSolve u j) (sym m.config) (record { roomy = roomy_stores s m.stands; room = room_box s m.stands χ vs σ nil j (root_here m h) (there m h) })

sat_in : (W D : List Word) (s : State) → Meant W D s → (χ : Ctx goal) → OrsAround χ → (n : Node goal) (j : ℕ) (r : Bool) → StandsAt s W (at χ n) j → is_some (solved_guard n) ≡ true → SatIn W j r → r ≡ is_answer n
sat_in W D s m χ o (or ns) j r h e q = absurd (clash (sym e))
sat_in W D s m χ o (and vs σ (cons x ms)) j r h e q = absurd (clash (sym e))
sat_in W D s m χ o (and vs σ nil) j r h e q =
    sat_state most_parts s m.stands χ vs σ nil j r (root_here m h) (there m h) (subst (λ (u : List Word). SatIn u j r) m.config q) ∙ ap (λ (τ : Store). satisfiable? (τ ++ σ)) (env_none χ o)

not_in : (n : Node goal) → is_some (solved_guard n) ≡ false → false ≡ is_answer n
not_in (or ns) e = refl
not_in (and vs σ (cons x ms)) e = refl
not_in (and vs σ nil) e = absurd (clash e)

module _ {W : List Word} {j : ℕ} where
  pub goal_inside : GoalAt W j → j < length W
  goal_inside g = stands_inside g.meant g.stands

  pub can_solve : (b : Bool) → b ≡ solved_at W j → b ≡ true → GoalAt W j → CanSolve W j
  can_solve b e f g = can_in W g.some_rules g.some_state g.meant g.context g.here j g.stands (sym (solved_here g.meant g.stands) ∙ sym e ∙ f)

  pub answer_solved : (b r : Bool) → b ≡ solved_at W j → b ≡ true → SatIn W j r → AnswerAt W j r
  answer_solved b r e f q = record { right = λ s D χ n m o h. sat_in W D s m χ o n j r h (sym (solved_here m h) ∙ sym e ∙ f) q }

  pub answer_unsolved : (b : Bool) → b ≡ solved_at W j → b ≡ false → AnswerAt W j false
  answer_unsolved b e f = record { right = λ s D χ n m o h. not_in n (sym (solved_here m h) ∙ sym e ∙ f) }
