-- The members of the top or-box, one after another.
use mathlib.Core.Path.{◌≡◌, refl, ap, sym, ◌∙◌, subst}
use mathlib.Core.Bool.{Bool, true, false, ◌&&◌}
use mathlib.Core.List.{List}
use Prim.Native.Nat.{ℕ, ◌+◌, ◌≤◌}
use native.Mathlib.Omega.{arith}
use lib.Dec.{T}
use lib.ListN.{length}
use Rattle.akl.specs.Base.{if}
use Rattle.akl.specs.Limits.{most_parts}
use Rattle.akl.specs.Configuration.{goal, Node, or, and, Nodes, nil, cons, ◌+n◌, one, top, in_or}
use Rattle.akl.specs.Answers.{final, open_state, is_answer, all_answers, state}
use Rattle.akl.specs.WellFormed.{is_or}
use Rattle.mem_words.specs.declared.Word.{Word}
use Rattle.store_form.specs.State.{State}
use Rattle.rule_words.specs.Scans.{close}
use Rattle.rule_effects.specs.Conditions.{ends_at}
use Rattle.store_room.proofs.Freshness.{formed_state}
use Rattle.step_meant.specs.Meant.{Meant}
use Rattle.answer_boxes.specs.Asked.{MeantSome, GoalAt, AnswerAt, state_number, StateIs}
use Rattle.answer_boxes.proofs.Between.{Between, inside_words, ends_here, stands_here, goes_on, goes_first}
use Rattle.answer_boxes.proofs.Walk.{clash}

-- all members before j are answers, and there is one from 1 on: those from j on decide
pub record Decided (s : State) (j : ℕ) : Type 0 where
  pub before : Nodes goal
  pub behind : Nodes goal
  pub between : Between s top before behind j
  pub decides : state s.config.root ≡ if (all_answers behind) final open_state

pub record Members (W : List Word) (j : ℕ) : Type 0 where
  pub decided : (s : State) (D : List Word) → Meant W D s → Decided s j

-- the top or-box
failed_in : (s : State) (W D : List Word) → Meant W D s → (g : Node goal) → s.config.root ≡ g → T (is_or g) → ends_at W 1 ≡ true → 0 ≡ state_number (state g)
unfolding state
failed_in s W D m (or nil) e t h = refl
failed_in s W D m (or (cons n ns)) e t h = absurd (clash (sym h ∙ ends_here s W m.config top nil (cons n ns) 1 (goes_first s W m.config (cons n ns) e)))
failed_in s W D m (and vs σ ms) e t h = absurd t

first_in : (s : State) (W D : List Word) → Meant W D s → (g : Node goal) → s.config.root ≡ g → T (is_or g) → ends_at W 1 ≡ false → Decided s 1
unfolding state
first_in s W D m (or nil) e t h = absurd (clash (sym (ends_here s W m.config top nil nil 1 (goes_first s W m.config nil e)) ∙ h))
first_in s W D m (or (cons n ns)) e t h = record { before = nil; behind = cons n ns; between = goes_first s W m.config (cons n ns) e; decides = ap state e }
first_in s W D m (and vs σ ms) e t h = absurd t

module _ {W : List Word} where
  pub state_failed : (b : Bool) → b ≡ ends_at W 1 → b ≡ true → StateIs W 0
  state_failed b e f = record { right = λ s D m. failed_in s W D m s.config.root refl (formed_state most_parts s m.stands).top_or (sym e ∙ f) }

  pub members_first : (b : Bool) → b ≡ ends_at W 1 → b ≡ false → Members W 1
  members_first b e f = record { decided = λ s D m. first_in s W D m s.config.root refl (formed_state most_parts s m.stands).top_or (sym e ∙ f) }

-- the members from j on
module _ (s : State) (W : List Word) (D : List Word) (m : Meant W D s) (j : ℕ) where
  final_in : (l r : Nodes goal) → Between s top l r j → state s.config.root ≡ if (all_answers r) final open_state → ends_at W j ≡ true → 1 ≡ state_number (state s.config.root)
  unfolding all_answers
  final_in l nil b d h = ap state_number (sym d)
  final_in l (cons n r) b d h = absurd (clash (sym h ∙ ends_here s W m.config top l (cons n r) j b))

  -- a member is there
  pub record Member : Type 0 where
    pub before : Nodes goal
    pub here : Node goal
    pub behind : Nodes goal
    pub between : Between s top before (cons here behind) j
    pub decides : state s.config.root ≡ if (is_answer here && all_answers behind) final open_state

  member_in : (l r : Nodes goal) → Between s top l r j → state s.config.root ≡ if (all_answers r) final open_state → ends_at W j ≡ false → Member
  unfolding all_answers
  member_in l nil b d h = absurd (clash (sym (ends_here s W m.config top l nil j b) ∙ h))
  member_in l (cons n r) b d h = record { before = l; here = n; behind = r; between = b; decides = d }

module _ {W : List Word} {j : ℕ} (g : Members W j) where
  pub members_past : length W ≤ j → StateIs W 1
  members_past h = record { right = λ s D m. let d = g.decided s D m in let x = inside_words s W m.config top d.before d.behind j d.between in absurd (omega (arith, x, h)) }

  pub members_final : (b : Bool) → b ≡ ends_at W j → b ≡ true → StateIs W 1
  members_final b e f = record { right = λ s D m. let d = g.decided s D m in final_in s W D m j d.before d.behind d.between d.decides (sym e ∙ f) }

  module _ (b : Bool) (e : b ≡ ends_at W j) (f : b ≡ false) where
    member_there : (s : State) (D : List Word) (m : Meant W D s) → Member s W D m j
    member_there s D m = let d = g.decided s D m in member_in s W D m j d.before d.behind d.between d.decides (sym e ∙ f)

    pub members_goal : MeantSome W → GoalAt W j
    members_goal x =
        let q = member_there x.some_state x.some_rules x.meant in
        record {
          some_state = x.some_state;
          some_rules = x.some_rules;
          meant = x.meant;
          context = in_or top q.before q.behind;
          here = q.here;
          ors = tt;
          stands = stands_here x.some_state W x.meant.config top q.before q.behind q.here j q.between;
        }

    is_here : (r : Bool) → AnswerAt W j r → (s : State) (D : List Word) (m : Meant W D s) → r ≡ is_answer (member_there s D m).here
    is_here r a s D m =
        let q = member_there s D m in
        a.right s D (in_or top q.before q.behind) q.here m tt (stands_here s W m.config top q.before q.behind q.here j q.between)

    pub members_open : (r : Bool) → AnswerAt W j r → r ≡ false → StateIs W 2
    members_open r a t = record { right = λ s D m. let q = member_there s D m in sym (ap state_number (q.decides ∙ ap (λ (x : Bool). if (x && all_answers q.behind) final open_state) (sym (is_here r a s D m) ∙ t))) }

    pub members_on : (r : Bool) → AnswerAt W j r → r ≡ true → (z : ℕ) → z ≡ close W j → Members W (z + 1)
    members_on r a t z y = subst (λ (i : ℕ). Members W (i + 1)) (sym y) (record { decided = go })
      where
        go : (s : State) (D : List Word) → Meant W D s → Decided s (close W j + 1)
        go s D m =
            let q = member_there s D m in
            record {
              before = q.before +n one q.here;
              behind = q.behind;
              between = goes_on s W m.config top q.before q.behind q.here j q.between;
              decides = q.decides ∙ ap (λ (x : Bool). if (x && all_answers q.behind) final open_state) (sym (is_here r a s D m) ∙ t);
            }
