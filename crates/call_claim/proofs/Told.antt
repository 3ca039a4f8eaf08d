-- What the numbers that calls returned say of the configuration that they were made on. Assumes nothing.
use mathlib.Core.Path.{◌≡◌, refl, ap, sym, ◌∙◌, subst}
use mathlib.Core.Logic.{◌⊎◌, inl, inr}
use mathlib.Core.List.{List, [], ◌∷◌, ◌++◌}
use mathlib.Core.Bool.{Bool, true, false}
use mathlib.Core.Option.{Option, some, none}
use Prim.Native.Nat.{ℕ, zero, suc, ◌+◌, ◌*◌, ◌≤◌}
use native.Mathlib.Omega.{arith}
use borrow.Author.Tests.{ltb-true, ltb-false}
use lib.Dec.{ltb}
use lib.ListN.{length, take, drop}
use lib.Seq.{take-append_seam}
use Rattle.akl.specs.Base.{Name, size, nth, if, Result, refused, ok}
use Rattle.akl.specs.Limits.{most_parts}
use Rattle.akl.specs.Syntax.{Program}
use Rattle.akl.specs.Configuration.{goal, Node, or, and, nil, cons, Config}
use Rattle.akl.specs.Answers.{Answer, answers, answers_all, all_answers, answer_text, numbered, fitted, answer, State, failed, final, open_state, state}
use Rattle.runs.specs.Calls.{ask_answer, ask_state, Ended}
use Rattle.runs.specs.Outcomes.{Outcome, refusal, accepted, shown, stands, answer_outcome, outcome}
use Rattle.store_calls.specs.Handed.{written}
use Rattle.store_calls.specs.Calls.{unless_short}
use Rattle.answer_boxes.specs.Asked.{state_number}
use Rattle.call_answer.specs.Called.{answer_told}
use Rattle.call_state.specs.Called.{state_told}
use Rattle.call_claim.specs.Host.{Request, for_answer, for_state, HostCall}
use Rattle.call_claim.specs.HostRun.{short, Gets, CallGets}
use Rattle.call_claim.specs.Table.{HandedOut, ToldEnded, ToldCount, ToldLast}

-- A question for an answer is refused with 16 or 17,
abbrev Low : Result (List ℕ) → Type 0
Low (refused n) = n ≤ 17
Low (ok t) = Unit {0}

low_answer : (xs : List Name) (g : Node goal) (n m : ℕ) → Low (answer xs g n m)
unfolding answer
low_answer xs g n m = go (numbered g n)
  where
    fit : (u : Bool) (t : List ℕ) → Low (if u (refused 17) (ok t))
    fit true t = omega arith
    fit false t = tt

    go : (o : Option Answer) → Low (elim o as (λ v. Result (List ℕ)) [ none ↦ refused 16 | some a ↦ fitted m (answer_text xs a) ])
    go none = omega arith
    go (some a) = fit (ltb m (size (answer_text xs a))) (answer_text xs a)

-- and its text does not depend on the slice.
text_in : Outcome → List ℕ
text_in (refusal n) = []
text_in (accepted n r) = []
text_in (shown t) = t
text_in (stands s) = []

clash : {A : Type 0} (j : ℕ) (s : List ℕ) → refusal j ≡ shown s → A
clash j s e = let z : ◌≡◌ {A = ℕ} 0 1 = ap (λ (o : Outcome). elim o as (λ v. ℕ) [ refusal i ↦ 0 | accepted i r ↦ 1 | shown x ↦ 1 | stands x ↦ 1 ]) e in absurd (omega (arith, z))

pub shown_once : (xs : List Name) (g : Node goal) (n m m' : ℕ) (t t' : List ℕ) → answer_outcome (answer xs g n m) ≡ shown t → answer_outcome (answer xs g n m') ≡ shown t' → t ≡ t'
unfolding answer text_in
shown_once xs g n m m' t t' = go (numbered g n)
  where
    fit : (u : Bool) (a s : List ℕ) → answer_outcome (if u (refused 17) (ok a)) ≡ shown s → a ≡ s
    fit true a s e = clash 17 s e
    fit false a s e = ap text_in e

    go : (o : Option Answer) → answer_outcome (elim o as (λ v. Result (List ℕ)) [ none ↦ refused 16 | some a ↦ fitted m (answer_text xs a) ]) ≡ shown t →
        answer_outcome (elim o as (λ v. Result (List ℕ)) [ none ↦ refused 16 | some a ↦ fitted m' (answer_text xs a) ]) ≡ shown t' → t ≡ t'
    go none e f = clash 16 t e
    go (some a) e f = sym (fit (ltb m (size (answer_text xs a))) (answer_text xs a) t e) ∙ fit (ltb m' (size (answer_text xs a))) (answer_text xs a) t' f

-- A text is shown for numbers from 1 to that of the answers.
nth_none : {A : Type 0} (l : List A) (i : ℕ) → size l ≤ i → nth l i ≡ none
unfolding nth size
nth_none [] i h = refl
nth_none (x ∷ l) zero h = absurd (omega (arith, h))
nth_none (x ∷ l) (suc i) h = nth_none l i (omega (arith, h))

pub shown_numbered : (xs : List Name) (g : Node goal) (n m : ℕ) (t : List ℕ) → answer_outcome (answer xs g n m) ≡ shown t → (1 ≤ n) × (n ≤ size (answers g))
unfolding answer
shown_numbered xs g zero m t e = clash 16 t e
shown_numbered xs g (suc i) m t e = (omega arith, within (ltb i (size (answers g))) refl)
  where
    within : (v : Bool) → ltb i (size (answers g)) ≡ v → suc i ≤ size (answers g)
    within true q = omega (arith, ltb-true i (size (answers g)) q)
    within false q =
        let none_there : nth (answers g) i ≡ none = nth_none (answers g) i (ltb-false i (size (answers g)) q) in
        clash 16 t (sym (ap (λ (o : Option Answer). answer_outcome (elim o as (λ v. Result (List ℕ)) [ none ↦ refused 16 | some a ↦ fitted m (answer_text xs a) ])) none_there) ∙ e)

-- 16 is told where there is no answer of the number.
none_behind : {A : Type 0} (l : List A) (i : ℕ) → nth l i ≡ none → size l ≤ i
unfolding nth size
none_behind [] i e = omega arith
none_behind {A} (x ∷ l) zero e = let z : ◌≡◌ {A = ℕ} 1 0 = ap (λ (o : Option A). elim o as (λ v. ℕ) [ none ↦ 0 | some a ↦ 1 ]) e in absurd (omega (arith, z))
none_behind (x ∷ l) (suc i) e = omega (arith, none_behind l i e)

none_numbered : (xs : List Name) (g : Node goal) (n m : ℕ) → answer_told (answer_outcome (answer xs g (suc n) m)) ≡ 16 → size (answers g) ≤ n
unfolding answer
none_numbered xs g n m = go (nth (answers g) n) refl
  where
    fit : {A : Type 0} (u : Bool) (t : List ℕ) → answer_told (answer_outcome (if u (refused 17) (ok t))) ≡ 16 → A
    fit true t e = absurd (omega (arith, e))
    fit false t e = absurd (omega (arith, e))

    go : (o : Option Answer) → nth (answers g) n ≡ o → answer_told (answer_outcome (elim o as (λ v. Result (List ℕ)) [ none ↦ refused 16 | some a ↦ fitted m (answer_text xs a) ])) ≡ 16 → size (answers g) ≤ n
    go none q e = none_behind (answers g) n q
    go (some a) q e = fit (ltb m (size (answer_text xs a))) (answer_text xs a) e

state_index : State → ℕ
state_index failed = 0
state_index final = 1
state_index open_state = 1

-- No answer stands in a failed configuration.
pub failed_none : (g : Node goal) → state g ≡ failed → answers g ≡ []
unfolding state answers answers_all state_index
failed_none (or nil) e = refl
failed_none (or (cons n ns)) e = absurd (other (all_answers (cons n ns)) e)
  where
    other : (v : Bool) → if v final open_state ≡ failed → ⊥
    other true q = absurd (let z : ◌≡◌ {A = ℕ} 1 0 = ap state_index q in omega (arith, z))
    other false q = absurd (let z : ◌≡◌ {A = ℕ} 1 0 = ap state_index q in omega (arith, z))
failed_none (and vs σ ms) e = absurd (let z : ◌≡◌ {A = ℕ} 1 0 = ap state_index e in omega (arith, z))

module _ (P : Program) (xs : List Name) (d : Config) (k : HostCall) (C : CallGets P xs d k) where
  -- a call that handed out a text: its working slice was long enough, and the text is the answer's
  pub handed_shown : (n : ℕ) (t : List ℕ) (H : HandedOut k n t) → (short k ≡ false) × (outcome most_parts P xs d (ask_answer n (length H.out)) ≡ shown t)
  unfolding written
  handed_shown n t H = go (short k) refl G.0 G.1
    where
      G : Gets P xs d (short k) (for_answer n H.out H.out') k.returned
      G = subst (λ (r : Request). Gets P xs d (short k) r k.returned) H.asked C.gets

      told : (r : Result (List ℕ)) → Low r → k.returned ≡ answer_told (answer_outcome r) → H.out' ≡ written H.out (answer_outcome r) → answer_outcome r ≡ shown t
      told (refused j) l e w = absurd (omega (arith, l, e, H.number))
      told (ok s) l e w =
          let long : length s ≡ length t = omega (arith, e, H.number) in
          let same : s ≡ t =
          sym (take-append_seam s (drop (length s) H.out))
          ∙ ap (λ (i : ℕ). take i (s ++ drop (length s) H.out)) long
          ∙ ap (take (length t)) (sym w)
          ∙ H.text in
          ap (λ (x : List ℕ). shown x) same

      go : (v : Bool) → short k ≡ v → k.returned ≡ answer_told (outcome most_parts P xs d (unless_short v (ask_answer n (length H.out)))) →
          H.out' ≡ written H.out (outcome most_parts P xs d (unless_short v (ask_answer n (length H.out)))) → (short k ≡ false) × (outcome most_parts P xs d (ask_answer n (length H.out)) ≡ shown t)
      go true q e w = absurd (omega (arith, e, H.number))
      go false q e w = (q, told (answer xs d.root n (length H.out)) (low_answer xs d.root n (length H.out)) e w)

  -- a state that is told to be failed or final is
  pub ended_is : ToldEnded k → Ended (state d.root)
  ended_is E = go (short k) (subst (λ (r : Request). Gets P xs d (short k) r k.returned) E.asked C.gets)
    where
      which : (z : State) → k.returned ≡ 256 * state_number z → Ended z
      which failed e = tt
      which final e = tt
      which open_state e = elim E.number [ inl a ↦ absurd (omega (arith, e, a)) | inr a ↦ absurd (omega (arith, e, a)) ]

      go : (v : Bool) → k.returned ≡ state_told (outcome most_parts P xs d (unless_short v ask_state)) → Ended (state d.root)
      go true e = elim E.number [ inl a ↦ absurd (omega (arith, e, a)) | inr a ↦ absurd (omega (arith, e, a)) ]
      go false e = which (state d.root) e

  -- and failed where 0 is told
  pub zero_failed : k.request ≡ for_state → k.returned ≡ 0 → state d.root ≡ failed
  zero_failed f z = go (short k) (subst (λ (r : Request). Gets P xs d (short k) r k.returned) f C.gets)
    where
      which : (s : State) → k.returned ≡ 256 * state_number s → s ≡ failed
      which failed e = refl
      which final e = absurd (omega (arith, e, z))
      which open_state e = absurd (omega (arith, e, z))

      go : (v : Bool) → k.returned ≡ state_told (outcome most_parts P xs d (unless_short v ask_state)) → state d.root ≡ failed
      go true e = absurd (omega (arith, e, z))
      go false e = which (state d.root) e

  -- and so many answers as are told are there
  pub count_is : (n : ℕ) → ToldCount k n → size (answers d.root) ≡ n
  count_is n E = go (short k) (subst (λ (r : Request). Gets P xs d (short k) r k.returned) E.asked C.gets)
    where
      go : (v : Bool) → k.returned ≡ if v 8 (256 * size (answers d.root)) → size (answers d.root) ≡ n
      go true e = absurd (omega (arith, e, E.number))
      go false e = omega (arith, e, E.number)

  -- and no more than n, where there is none behind the n-th
  pub last_is : (n : ℕ) → ToldLast k n → size (answers d.root) ≤ n
  last_is n E = go (short k) G.0
    where
      G : Gets P xs d (short k) (for_answer (suc n) E.out E.out') k.returned
      G = subst (λ (r : Request). Gets P xs d (short k) r k.returned) E.asked C.gets

      go : (v : Bool) → k.returned ≡ answer_told (outcome most_parts P xs d (unless_short v (ask_answer (suc n) (length E.out)))) → size (answers d.root) ≤ n
      go true e = absurd (omega (arith, e, E.number))
      go false e = none_numbered xs d.root n (length E.out) (omega (arith, e, E.number))

  -- either way a host knows the most that there can be
  pub at_most : (n : ℕ) → ToldCount k n ⊎ ToldLast k n → size (answers d.root) ≤ n
  at_most n (inl E) = omega (arith, count_is n E)
  at_most n (inr E) = last_is n E
