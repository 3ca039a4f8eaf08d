-- The outcome of a question for an answer, by what the code finds.
use mathlib.Core.Path.{◌≡◌, refl, sym, ap, ap₂, ◌∙◌, subst}
use mathlib.Core.List.{List, ◌++◌}
use mathlib.Core.Bool.{Bool, true, false}
use mathlib.Core.Option.{Option, some, none}
use Prim.Native.Nat.{ℕ, ◌+◌, ◌≤◌, ◌<◌}
use native.Mathlib.Omega.{arith}
use native.Mathlib.Decide.{dec_lt}
use borrow.Author.Tests.{lt-ltb, le-ltb}
use lib.Dec.{ltb}
use lib.ListN.{length, drop}
use Rattle.akl.specs.Base.{Name, Result, refused, ok, if, size}
use Rattle.akl.specs.Limits.{most_parts}
use Rattle.akl.specs.Configuration.{goal, Node}
use Rattle.akl.specs.Answers.{Answer, answer, answer_text, numbered, fitted}
use Rattle.runs.specs.Outcomes.{Outcome, refusal, shown}
use Rattle.store_form.specs.State.{State, names_of}
use Rattle.store_words.proofs.Sizes.{size_length}
use Rattle.store_calls.specs.Outcomes.{Called, slices_short, held, on_held, on_state, answer_done, answer_outcome}
use Rattle.store_calls.specs.Handed.{written}
use Rattle.store_lent.specs.Lent.{working_bytes}
use Rattle.step_meant.specs.Deciding.{HoldsState}
use Rattle.answer_emit.specs.Put.{put, Put}
use Rattle.answer_emit.proofs.Put.{put_fits}
use Rattle.refusals.specs.declared.Refusal.{Refusal}
use Rattle.refusals.specs.Refusals.{number_of}
use Rattle.std.specs.Prelude.{Err}
use Rattle.call_slices.specs.Admitted.{Admits}
use Rattle.call_slices.proofs.Slices.{refused_call}
use Rattle.call_answer.specs.Called.{answer_told, AnswerTo, state_answer, AnswerOf}

module _ (b : List ℕ) (w n : ℕ) (O : List ℕ) where
  abbrev outcome : Bool → Option State → Outcome
  outcome short h = (on_held b (λ s. answer_done b (answer (names_of s) s.config.root n (length O))) short h).told

  is : {o : Outcome} (O' : List ℕ) (x : ℕ) → o ≡ (answer_outcome most_parts working_bytes b w n (length O)).told → x ≡ answer_told o → O' ≡ written O o → AnswerTo b w n O O' x
  is O' x e p q = record { number = p ∙ ap answer_told e; out = q ∙ ap (written O) e }

  abbrev asked : State → Called
  asked s = answer_done b (answer (names_of s) s.config.root n (length O))

  -- 8 and 9
  pub to_refused : (e : Refusal) → Admits b w (Err e) → AnswerTo b w n O O (number_of e)
  unfolding answer_outcome written
  to_refused e a = let r = refused_call b w e a asked in record { number = sym (ap (λ (c : Called). answer_told c.told) r); out = sym (ap (λ (c : Called). written O c.told) r) }

  pub to_answer : (O' : List ℕ) (x : ℕ) → slices_short most_parts working_bytes b w ≡ false → (h : HoldsState b) → AnswerOf b n O O' x → AnswerTo b w n O O' x
  unfolding answer_outcome on_state
  to_answer O' x e h a = is O' x (ap₂ outcome (sym e) (sym h.holds)) (a.number h) (a.out h)

-- the answer that has the number, in a state
module _ (b : List ℕ) (s : State) (n m : ℕ) where
  abbrev found : Option Answer → Result (List ℕ)
  found o = elim o as (λ z. Result (List ℕ)) [ none ↦ refused 16 | some a ↦ fitted m (answer_text (names_of s) a) ]

  at_found : (o : Option Answer) → numbered s.config.root n ≡ o → state_answer b s n m ≡ (answer_done b (found o)).told
  unfolding answer
  at_found o e = ap (λ (z : Option Answer). (answer_done b (found z)).told) e

  pub state_16 : numbered s.config.root n ≡ none → state_answer b s n m ≡ refusal 16
  state_16 e = at_found none e

  module _ (a : Answer) (e : numbered s.config.root n ≡ some a) where
    abbrev text : List ℕ
    text = answer_text (names_of s) a

    abbrev as_fits : Bool → Outcome
    as_fits t = (answer_done b (if t (refused 17) (ok text))).told

    pub state_17 : m < length text → state_answer b s n m ≡ refusal 17
    state_17 l = at_found (some a) e ∙ ap as_fits (lt-ltb m (size text) (omega (arith, l, size_length text)))

    pub state_shown : length text ≤ m → state_answer b s n m ≡ shown text
    state_shown l = at_found (some a) e ∙ ap as_fits (le-ltb m (size text) (omega (arith, l, size_length text)))

module _ (b : List ℕ) (n : ℕ) (O : List ℕ) where
  -- there is none
  pub of_16 : ((h : HoldsState b) → numbered h.state.config.root n ≡ none) → AnswerOf b n O O 16
  unfolding written
  of_16 e = record {
    number = λ h. ap answer_told (sym (state_16 b h.state n (length O) (e h)));
    out = λ h. ap (written O) (sym (state_16 b h.state n (length O) (e h)));
  }

  -- its text is put, or only counted
  module _ (a : (h : HoldsState b) → Answer) (e : (h : HoldsState b) → numbered h.state.config.root n ≡ some (a h)) where
    abbrev text_of : (h : HoldsState b) → List ℕ
    text_of h = answer_text (names_of h.state) (a h)

    pub of_17 : (O' : List ℕ) (r : ℕ) → ((h : HoldsState b) → Put (text_of h) false O 0 O' r) → length O < r → AnswerOf b n O O' 17
    unfolding written
    of_17 O' r p l = record {
      number = λ h. ap answer_told (sym (state_17 b h.state n (length O) (a h) (e h) (over h)));
      out = λ h. (p h).kept refl ∙ ap (written O) (sym (state_17 b h.state n (length O) (a h) (e h) (over h)));
    }
      where
        over : (h : HoldsState b) → length O < length (text_of h)
        over h = go (dec_lt (length O) (length (text_of h)))
          where
            go : Dec (length O < length (text_of h)) → length O < length (text_of h)
            go (yes q) = q
            go (no q) = absurd (omega (arith, l, ((p h).fits (omega arith)).0))

    pub of_text : (O' : List ℕ) (r : ℕ) → ((h : HoldsState b) → Put (text_of h) true O 0 O' r) → r ≤ length O → AnswerOf b n O O' (256 + r)
    unfolding written put
    of_text O' r p l = record {
      number = λ h. ap (λ (k : ℕ). 256 + k) (ends h) ∙ ap answer_told (sym (state_shown b h.state n (length O) (a h) (e h) (within h)));
      out = λ h. ((p h).fits (put_fits (p h) l)).1 ∙ ap (λ (k : ℕ). text_of h ++ drop k O) (same h) ∙ ap (written O) (sym (state_shown b h.state n (length O) (a h) (e h) (within h)));
    }
      where
        within : (h : HoldsState b) → length (text_of h) ≤ length O
        within h = omega (arith, put_fits (p h) l)

        ends : (h : HoldsState b) → r ≡ length (text_of h)
        ends h = omega (arith, ((p h).fits (put_fits (p h) l)).0)

        same : (h : HoldsState b) → 0 + length (text_of h) ≡ length (text_of h)
        same h = omega arith
