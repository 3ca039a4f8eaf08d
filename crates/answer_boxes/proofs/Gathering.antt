-- The answers of a configuration are those among its boxes, in their order.
use mathlib.Core.Path.{◌≡◌, refl, sym}
use mathlib.Core.Bool.{Bool, true, false}
use mathlib.Core.List.{List, [], ◌∷◌}
use Prim.Native.Nat.{ℕ, zero, suc, ◌+◌, ◌<◌, ◌≤◌}
use native.Mathlib.Omega.{arith}
use lib.Dec.{eqb}
use lib.ListN.{length, get_or}
use Rattle.akl.specs.Limits.{most_parts}
use Rattle.akl.specs.Answers.{Answer, answers}
use Rattle.mem_words.specs.declared.Word.{Word}
use Rattle.mem_words.specs.declared.Word.TheVariants.{Bad}
use Rattle.mem_sorts.specs.declared.Kind.TheVariants.{And}
use Rattle.store_form.specs.State.{State}
use Rattle.store_form.specs.Form.{config_words}
use Rattle.rule_words.proofs.Loops.{close_inside}
use Rattle.rule_effects.specs.Effects.{behind}
use Rattle.rule_effects.specs.Conditions.{kind_in, kind_at}
use Rattle.store_room.proofs.Freshness.{formed_state}
use Rattle.step_meant.specs.Meant.{Meant}
use Rattle.answer_boxes.specs.Boxes.{boxes_from, boxes, Gathered}
use Rattle.answer_boxes.proofs.Walk.{Left, clash, other, box, none_left, all_left}

-- no place begins behind all words
inside_kind : (W : List Word) (j : ℕ) → eqb (kind_in (get_or W j Bad)) 1 ≡ true → j < length W
inside_kind [] j e = absurd (clash (sym e))
inside_kind (x ∷ W) zero e = omega arith
inside_kind (x ∷ W) (suc j) e = omega (arith, inside_kind W j e)

kind_inside : (W : List Word) (j : ℕ) → kind_at W j And ≡ true → j < length W
unfolding kind_at
kind_inside W j e = inside_kind W j e

module _ (s : State) (W : List Word) (w : W ≡ config_words s) where
  gather_step : (n j : ℕ) (A : List Answer) → length W ≤ j + suc n → Left s W j A → ((i : ℕ) (B : List Answer) → length W ≤ i + n → Left s W i B → Gathered s W (boxes_from n W i) B) → (k : Bool) → kind_at W j And ≡ k
      → Gathered s W (elim k as (λ z. List ℕ) [ true ↦ j ∷ boxes_from n W (behind W j) | false ↦ boxes_from n W (j + 1) ]) A
  gather_step n j A h l go true e =
      let i = kind_inside W j e in
      let q = box s W w j A i e l in
      (record { context = q.context; own = q.own; store = q.store; members = q.members; ors = q.ors; stands = q.stands }, q.rest, q.left, go (behind W j) q.rest (omega (arith, h, close_inside W j i)) q.next)
  gather_step n j A h l go false e = go (j + 1) A (omega (arith, h)) (other s W w j A e l)

  gather_from : (n j : ℕ) (A : List Answer) → length W ≤ j + n → Left s W j A → Gathered s W (boxes_from n W j) A
  unfolding boxes_from
  gather_from zero j A h l = none_left s W w j A (omega (arith, h)) l
  gather_from (suc n) j A h l = gather_step n j A h l (gather_from n) (kind_at W j And) refl

pub boxes_gather : (W D : List Word) (s : State) → Meant W D s → Gathered s W (boxes W) (answers s.config.root)
unfolding boxes
boxes_gather W D s m = gather_from s W m.config (length W) 1 (answers s.config.root) (omega arith) (all_left s W m.config s.config.root (formed_state most_parts s m.stands).top_or refl)
