-- The answers to a question for the state. Assumes nothing.
use mathlib.Core.Path.{◌≡◌, refl, sym, ap, ap₂, ◌∙◌, subst}
use mathlib.Core.List.{List}
use mathlib.Core.Bool.{Bool, true, false}
use mathlib.Core.Option.{Option, some, none}
use Prim.Native.Nat.{ℕ, ◌+◌, ◌*◌, ◌≤◌, ◌<◌}
use native.Mathlib.Omega.{arith}
use lib.ListN.{length}
use Rattle.akl.specs.Limits.{most_parts}
use Rattle.akl.specs.Answers as akl
use Rattle.akl.specs.Answers.{failed, final, open_state, state}
use Rattle.runs.specs.Outcomes.{stands}
use Rattle.mem_words.specs.declared.Word.{Word}
use Rattle.mem_words.specs.Words.{words}
use Rattle.mem_parts.specs.Parts.{cut}
use Rattle.check_held.specs.Checks.{words_in}
use Rattle.store_form.specs.State.{State}
use Rattle.store_form.specs.Form.{rules_words}
use Rattle.store_form.proofs.Lengths.{lengths}
use Rattle.store_calls.specs.Outcomes.{Called, called, slices_short, held, on_held, on_state, state_outcome}
use Rattle.store_calls.proofs.Any.{held_stands}
use Rattle.store_views.proofs.Views.{held_begins, config_within, config_there}
use Rattle.store_lent.specs.Lent.{working_bytes}
use Rattle.step_meant.specs.Meant.{Meant}
use Rattle.step_meant.specs.Deciding.{HoldsState}
use Rattle.answer_boxes.specs.Asked.{MeantSome, StateIs, state_number}
use Rattle.refusals.specs.declared.Refusal.{Refusal}
use Rattle.refusals.specs.Refusals.{number_of}
use Rattle.std.specs.Prelude.{Err}
use Rattle.call_slices.specs.Admitted.{Admits}
use Rattle.call_slices.proofs.Slices.{refused_call}
use Rattle.call_state.specs.Called.{state_told, StateTo}

module _ (b : List ℕ) (w : ℕ) where
  abbrev asked : State → Called
  asked s = called (stands (state s.config.root)) b

  abbrev told_of : Bool → Option State → ℕ
  told_of short h = state_told (on_held b asked short h).told

  -- 8 and 9
  pub to_refused : (e : Refusal) → Admits b w (Err e) → StateTo b w (number_of e)
  unfolding state_outcome
  to_refused e a = record { number = sym (ap (λ (c : Called). state_told c.told) (refused_call b w e a asked)) }

  pub to_state : (s : State) (r : ℕ) → slices_short most_parts working_bytes b w ≡ false → held most_parts b ≡ some s → r ≡ state_number (state s.config.root) → StateTo b w (256 * r)
  unfolding state_outcome on_state
  to_state s r e h q = record { number = ap (λ (x : ℕ). 256 * x) q ∙ ap₂ told_of (sym e) (sym h) }

-- the words of the configuration mean the state that the store holds
pub config_meant : (b : List ℕ) (n : ℕ) (s : State) → n ≡ words_in b → held most_parts b ≡ some s → Meant (words (cut 159837 (159837 + 3 * n) b)) (rules_words s) s
config_meant b n s en h =
    let p = held_begins most_parts (omega arith) b s h in
    record {
      stands = held_stands most_parts (omega arith) b s h;
      config = ap (λ (x : ℕ). words (cut 159837 (159837 + 3 * x) b)) en ∙ config_there most_parts (omega arith) s p.1 _ b p.0;
      rules = refl;
    }

pub config_fits : (b : List ℕ) (n : ℕ) → n ≡ words_in b → HoldsState b → 159837 + 3 * n ≤ 245853
config_fits b n en h =
    let p = held_begins most_parts (omega arith) b h.state h.holds in
    omega (arith, en, lengths.0, config_within most_parts (omega arith) h.state p.1 _ b p.0)

pub some_meant : (b : List ℕ) (n : ℕ) → n ≡ words_in b → HoldsState b → MeantSome (words (cut 159837 (159837 + 3 * n) b))
some_meant b n en h = record { some_state = h.state; some_rules = rules_words h.state; meant = config_meant b n h.state en h.holds }

pub answered : (b : List ℕ) (w n r : ℕ) → slices_short most_parts working_bytes b w ≡ false → n ≡ words_in b → HoldsState b → StateIs (words (cut 159837 (159837 + 3 * n) b)) r → StateTo b w (256 * r)
answered b w n r e en h q = to_state b w h.state r e h.holds (q.right h.state (rules_words h.state) (config_meant b n h.state en h.holds))

-- there are three states
pub state_small : {W : List Word} {r : ℕ} → MeantSome W → StateIs W r → r ≤ 2
state_small {W} {r} m q = go (state m.some_state.config.root) (q.right m.some_state m.some_rules m.meant)
  where
    go : (s : akl.State) → r ≡ state_number s → r ≤ 2
    go failed e = omega (arith, e)
    go final e = omega (arith, e)
    go open_state e = omega (arith, e)
