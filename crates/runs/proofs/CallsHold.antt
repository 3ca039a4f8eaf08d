-- What holds of each call: a steps text is its accepted steps, and an answer call gives 16, 17 or the answer's text.
use mathlib.Core.Path.{◌≡◌, refl, ap, sym, ◌∙◌, subst}
use mathlib.Core.Logic.{◌↔◌, ◌⊎◌, inl, inr}
use mathlib.Core.List.{List, [], ◌∷◌, ◌++◌, map}
use mathlib.Core.Bool.{Bool, true, false}
use mathlib.Core.Option.{Option, some, none}
use Prim.Native.Nat.{ℕ, zero, suc, ◌+◌, ◌≤◌, ◌<◌}
use native.Mathlib.Omega.{arith}
use lib.Dec.{T, ltb, ltb→lt, nltb→le}
use Rattle.constraint.specs.Constraint.{Asg}
use Rattle.constraint.proofs.Lists.{not_T}
use Rattle.akl.specs.Base.{Name, size, nth, if, Result, refused, ok}
use Rattle.akl.specs.Syntax.{Program}
use Rattle.akl.specs.Reader.{Query}
use Rattle.akl.specs.StepsText.{Step, read_steps}
use Rattle.akl.specs.Configuration.{goal, Node, Config}
use Rattle.akl.specs.Step.{step, Run, steps}
use Rattle.akl.specs.Answers.{Answer, Terms, answers, answer_text, numbered, answer}
use Rattle.theory.specs.Meaning.{QuerySolution}
use Rattle.runs.specs.Calls.{Call, one_step, steps_text, ask_answer, ask_state, unfit_call, Move, move, stepped, texted, after_call, step_moves, steps_moves, text_moves, call_moves, after_calls, calls_moves, AnswerIn, Allows}
use Rattle.runs.specs.Outcomes.{Outcome, refusal, accepted, shown, stands, step_outcome, text_outcome, answer_outcome, outcome, outcomes}
use Rattle.runs.specs.Shown.{Fair, FitsText, shown_terms, ReadsAs}
use Rattle.runs.specs.CallHolds.{Counts, Next, TextHolds, TextGiven, AnswerHolds, StepTold, TextTold, Told, CallHolds}
use Rattle.runs.proofs.Runs.{call_chain}
use Rattle.runs.proofs.SameText.{text_solutions, text_reads, reads_once}

-- ---------------------------------------------------------------------------------------------
-- Steps texts.

module _ (limit : ℕ) (P : Program) (xs : List Name) where
  -- a list of steps, n having been accepted before
  record Cut (c : Config) (n : ℕ) (ss : List Step) : Type 0 where
    pub done : List Step
    pub left : List Step
    pub cut : ss ≡ done ++ left
    pub singles : outcomes limit P xs c (map one_step done) ≡ map (λ s. accepted 1 0) done
    pub same_end : (steps limit P c n ss).config ≡ after_calls limit P c (map one_step done)
    pub same_moves : steps_moves limit P c ss ≡ calls_moves limit P c (map one_step done)
    pub is_next : Next limit P (steps limit P c n ss).config left (steps limit P c n ss).refusal
    pub number : (steps limit P c n ss).accepted ≡ n + size done

  cut_steps : (ss : List Step) (c : Config) (n : ℕ) → Cut c n ss
  unfolding steps steps_moves outcomes after_calls calls_moves size
  cut_steps [] c n = record { done = []; left = []; cut = refl; singles = refl; same_end = refl; same_moves = refl; is_next = refl; number = omega arith }
  cut_steps (s ∷ ss) c n = go (step limit P c s) refl (λ d. cut_steps ss d (suc n))
    where
      run_of : Result Config → Run
      run_of r = elim r as (λ x. Run) [ refused k ↦ record { accepted = n; refusal = k; config = c } | ok d ↦ steps limit P d (suc n) ss ]

      moves_of : Result Config → List Move
      moves_of r = elim r as (λ x. List Move) [ refused k ↦ [] | ok d ↦ move c s d ∷ steps_moves limit P d ss ]

      go : (r : Result Config) → step limit P c s ≡ r → ((d : Config) → Cut d (suc n) ss) → Cut c n (s ∷ ss)
      go (refused k) e ih = record {
        done = [];
        left = s ∷ ss;
        cut = refl;
        singles = refl;
        same_end = ap (λ r. (run_of r).config) e;
        same_moves = ap moves_of e;
        is_next = ap (λ x. step limit P x s) (ap (λ r. (run_of r).config) e) ∙ e ∙ ap refused (sym (ap (λ r. (run_of r).refusal) e));
        number = ap (λ r. (run_of r).accepted) e ∙ plain;
      }
        where
          plain : n ≡ n + 0
          plain = omega arith
      go (ok d) e ih =
          let w = ih d in
          let end : (run_of (step limit P c s)).config ≡ (steps limit P d (suc n) ss).config = ap (λ r. (run_of r).config) e in
          let ref : (run_of (step limit P c s)).refusal ≡ (steps limit P d (suc n) ss).refusal = ap (λ r. (run_of r).refusal) e in
          record {
            done = s ∷ w.done;
            left = w.left;
            cut = ap (λ l. s ∷ l) w.cut;
            singles = ap (λ r. step_outcome r ∷ outcomes limit P xs (stepped c r) (map one_step w.done)) e ∙ ap (λ l. accepted 1 0 ∷ l) w.singles;
            same_end = end ∙ w.same_end ∙ sym (ap (λ r. after_calls limit P (stepped c r) (map one_step w.done)) e);
            same_moves = ap moves_of e ∙ ap (λ l. move c s d ∷ l) w.same_moves ∙ sym (ap (λ r. step_moves c s r ++ calls_moves limit P (stepped c r) (map one_step w.done)) e);
            is_next = subst (λ x. Next limit P x.config w.left x.refusal) (sym (ap run_of e)) w.is_next;
            number = ap (λ r. (run_of r).accepted) e ∙ more w.done (steps limit P d (suc n) ss).accepted w.number;
          }
        where
          more : (l : List Step) (x : ℕ) → x ≡ suc n + size l → x ≡ n + suc (size l)
          more l x p = omega arith

  text_holds : (c : Config) (t : List ℕ) (ss : List Step) → read_steps t ≡ ok ss → TextHolds limit P xs c t ss
  text_holds c t ss e =
      let w = cut_steps ss c 0 in
      let same : texted limit P c (read_steps t) ≡ (steps limit P c 0 ss).config = ap (texted limit P c) e in
      record {
        done = w.done;
        left = w.left;
        cut = w.cut;
        singles = w.singles;
        same_end = same ∙ w.same_end;
        same_moves = ap (text_moves limit P c) e ∙ w.same_moves;
        next = (steps limit P c 0 ss).refusal;
        is_next = subst (λ x. Next limit P x w.left (steps limit P c 0 ss).refusal) (sym same) w.is_next;
        told = ap (text_outcome limit P c) e ∙ ap (λ k. accepted k (steps limit P c 0 ss).refusal) (w.number ∙ zero_plus (size w.done));
      }
    where
      zero_plus : (k : ℕ) → 0 + k ≡ k
      zero_plus k = omega arith

  -- The number accepted is that of the accepted steps.
  steps_count : (ss : List Step) (c : Config) (n : ℕ) → n + size (steps_moves limit P c ss) ≡ (steps limit P c n ss).accepted
  unfolding steps steps_moves size
  steps_count [] c n = omega arith
  steps_count (s ∷ ss) c n = go (step limit P c s) (λ d. steps_count ss d (suc n))
    where
      go : (r : Result Config) → ((d : Config) → suc n + size (steps_moves limit P d ss) ≡ (steps limit P d (suc n) ss).accepted) →
          n + size {A = Move} (elim r as (λ x. List Move) [ refused k ↦ [] | ok d ↦ move c s d ∷ steps_moves limit P d ss ]) ≡ (elim r as (λ x. Run) [ refused k ↦ record { accepted = n; refusal = k; config = c } | ok d ↦ steps limit P d (suc n) ss ]).accepted
      go (refused k) ih = omega arith
      go (ok d) ih = omega (arith, ih d)

  call_counts : (c : Config) (k : Call) → Counts (outcome limit P xs c k) (call_moves limit P c k)
  unfolding size
  call_counts c (one_step s) = go (step limit P c s)
    where
      go : (r : Result Config) → Counts (step_outcome r) (step_moves c s r)
      go (refused n) = refl
      go (ok d) = refl
  call_counts c (steps_text t) = go (read_steps t)
    where
      go : (r : Result (List Step)) → Counts (text_outcome limit P c r) (text_moves limit P c r)
      go (refused n) = refl
      go (ok ss) = let w = steps_count ss c 0 in omega arith
  call_counts c (ask_answer n m) = go (answer xs c.root n m)
    where
      go : (r : Result (List ℕ)) → Counts (answer_outcome r) []
      go (refused k) = refl
      go (ok t) = refl
  call_counts c ask_state = refl
  call_counts c (unfit_call u) = refl

-- ---------------------------------------------------------------------------------------------
-- Answers.

pub nth_answer : (l : List Answer) (n : ℕ) (a : Answer) → nth l n ≡ some a → AnswerIn a l
unfolding nth
nth_answer [] n a e = absurd (nope e)
  where
    nope : ◌≡◌ {A = Option Answer} none (some a) → ⊥
    nope q = let z : ◌≡◌ {A = ℕ} 0 1 = cc in omega arith
nth_answer (b ∷ l) zero a e = inl (sym (cc e))
nth_answer (b ∷ l) (suc n) a e = inr (nth_answer l n a e)

-- there is an n-th exactly below the list's size
nth_below : (l : List Answer) (n : ℕ) (a : Answer) → nth l n ≡ some a → n < size l
unfolding nth size
nth_below [] n a e = absurd (nope e)
  where
    nope : ◌≡◌ {A = Option Answer} none (some a) → ⊥
    nope q = let z : ◌≡◌ {A = ℕ} 0 1 = cc in omega arith
nth_below (b ∷ l) zero a e = omega arith
nth_below (b ∷ l) (suc n) a e = let w = nth_below l n a e in omega arith

nth_beyond : (l : List Answer) (n : ℕ) → nth l n ≡ none → size l ≤ n
unfolding nth size
nth_beyond [] n e = omega arith
nth_beyond (b ∷ l) zero e = absurd (nope e)
  where
    nope : ◌≡◌ {A = Option Answer} (some b) none → ⊥
    nope q = let z : ◌≡◌ {A = ℕ} 0 1 = cc in omega arith
nth_beyond (b ∷ l) (suc n) e = let w = nth_beyond l n e in omega arith

module _ (xs : List Name) (g : Node goal) (n m : ℕ) where
  abbrev pub fitted : Answer → Result (List ℕ)
  fitted a = if (ltb m (size (answer_text xs a))) (refused 17) (ok (answer_text xs a))

  abbrev pub found : Option Answer → Result (List ℕ)
  found o = elim o as (λ z. Result (List ℕ)) [ none ↦ refused 16 | some a ↦ fitted a ]

  pub answer_found : (o : Option Answer) → numbered g n ≡ o → answer_outcome (answer xs g n m) ≡ answer_outcome (found o)
  unfolding answer
  answer_found o e = ap (λ z. answer_outcome (found z)) e

  refusal_not : (t : List ℕ) (k : ℕ) → refusal k ≡ shown t → ⊥
  refusal_not t k q = let z : ◌≡◌ {A = ℕ} 0 1 = cc in omega arith

  text_given : (a : Answer) → TextGiven xs a m (answer_outcome (fitted a))
  text_given a = go (ltb m (size (answer_text xs a))) refl
    where
      go : (b : Bool) → ltb m (size (answer_text xs a)) ≡ b → TextGiven xs a m (answer_outcome (if b (refused 17) (ok (answer_text xs a))))
      go true p =
          let l : m < size (answer_text xs a) = ltb→lt m (size (answer_text xs a)) (subst T (sym p) tt) in
          record { long = (λ e. l, λ e. refl); given = (λ e. absurd (refusal_not (answer_text xs a) 17 e), λ h. absurd (omega arith)) }
      go false p =
          let l : size (answer_text xs a) ≤ m = nltb→le m (size (answer_text xs a)) ((not_T (ltb m (size (answer_text xs a)))).1 (λ h. subst T p h)) in
          record { given = (λ e. l, λ e. refl); long = (λ e. absurd (refusal_not (answer_text xs a) 17 (sym e)), λ h. absurd (omega arith)) }

  -- which answer it is that is shown
  shown_is : (o : Option Answer) (t : List ℕ) → answer_outcome (found o) ≡ shown t → (a : Answer) × (o ≡ some a) × (t ≡ answer_text xs a)
  shown_is none t e = absurd (refusal_not t 16 e)
  shown_is (some a) t e = (a, refl, go (ltb m (size (answer_text xs a))) e)
    where
      go : (b : Bool) → answer_outcome (if b (refused 17) (ok (answer_text xs a))) ≡ shown t → t ≡ answer_text xs a
      go true q = absurd (refusal_not t 17 q)
      go false q = sym (cc q)

  not_sixteen : (a : Answer) → answer_outcome (fitted a) ≡ refusal 16 → ⊥
  not_sixteen a = go (ltb m (size (answer_text xs a)))
    where
      go : (b : Bool) → answer_outcome (if b (refused 17) (ok (answer_text xs a))) ≡ refusal 16 → ⊥
      go true q = let z : ◌≡◌ {A = ℕ} 17 16 = cc q in omega arith
      go false q = refusal_not (answer_text xs a) 16 (sym q)

numbered_in : (xs : List Name) (g : Node goal) (n : ℕ) (a : Answer) → numbered g n ≡ some a → AnswerIn a (answers g)
numbered_in xs g zero a q = absurd (nope q)
  where
    nope : ◌≡◌ {A = Option Answer} none (some a) → ⊥
    nope r = let z : ◌≡◌ {A = ℕ} 0 1 = cc in omega arith
numbered_in xs g (suc k) a q = nth_answer (answers g) k a q

missing_iff : (xs : List Name) (g : Node goal) (n m : ℕ) → (answer_outcome (answer xs g n m) ≡ refusal 16) ↔ ((n ≡ 0) ⊎ (size (answers g) < n))
missing_iff xs g zero m = (λ e. inl refl, λ h. answer_found xs g 0 m none refl)
missing_iff xs g (suc i) m = go (nth (answers g) i) refl
  where
    go : (o : Option Answer) → nth (answers g) i ≡ o → (answer_outcome (answer xs g (suc i) m) ≡ refusal 16) ↔ ((suc i ≡ 0) ⊎ (size (answers g) < suc i))
    go none p = (λ e. inr (let w = nth_beyond (answers g) i p in omega arith), λ h. answer_found xs g (suc i) m none p)
    go (some a) p = (λ e. absurd (not_sixteen xs g (suc i) m a (sym (answer_found xs g (suc i) m (some a) p) ∙ e)), λ h. absurd (elim h [ inl e ↦ omega arith | inr l ↦ (let w = nth_below (answers g) i a p in omega arith) ]))

-- the text of the answer of number i + 1, where it fits the slice
pub answer_handed : (xs : List Name) (g : Node goal) (i m : ℕ) (a : Answer) → nth (answers g) i ≡ some a → size (answer_text xs a) ≤ m →
    answer_outcome (answer xs g (suc i) m) ≡ shown (answer_text xs a)
answer_handed xs g i m a e l = answer_found xs g (suc i) m (some a) e ∙ (text_given xs g (suc i) m a).given.1 l

module _ (P : Program) (query : Query) (d : Config) (fair_of : (a : Answer) → AnswerIn a (answers d.root) → Fair a) (sound : (a : Answer) → AnswerIn a (answers d.root) → (ρ : Asg) → Allows (size query.variables) a ρ → QuerySolution P query ρ) where
  abbrev ys : List Name
  ys = query.variables

  answer_holds : (n m : ℕ) → AnswerHolds P query d n m (answer_outcome (answer ys d.root n m))
  answer_holds n m = record {
    missing = missing_iff ys d.root n m;
    numbered = λ i a e p. subst (TextGiven ys a m) (sym (answer_found ys d.root n m (some a) (ap (numbered d.root) e ∙ p))) (text_given ys d.root n m a);
    reads = λ t e. let w = which t e in (shown_terms (size ys) w.0, subst (λ z. ReadsAs ys z (shown_terms (size ys) w.0)) (sym w.2) (text_reads ys w.0 (fair_of w.0 w.1)));
    satisfies = λ t e ts r ρ h.
        let w = which t e in
        let f = fair_of w.0 w.1 in
        let same : ts ≡ shown_terms (size ys) w.0 = reads_once ys t ts (shown_terms (size ys) w.0) r (subst (λ z. ReadsAs ys z (shown_terms (size ys) w.0)) (sym w.2) (text_reads ys w.0 f)) in
        sound w.0 w.1 ρ ((text_solutions ys w.0 f ρ).0 (subst (λ z. FitsText (size ys) z ρ) same h));
  }
    where
      which : (t : List ℕ) → answer_outcome (answer ys d.root n m) ≡ shown t → (a : Answer) × AnswerIn a (answers d.root) × (t ≡ answer_text ys a)
      which t e =
          let w = shown_is ys d.root n m (numbered d.root n) t (sym (answer_found ys d.root n m (numbered d.root n) refl) ∙ e) in
          (w.0, numbered_in ys d.root n w.0 w.1, w.2)

  call_told : (limit : ℕ) (k : Call) → Told limit P query d k (outcome limit P ys d k)
  call_told limit (one_step s) = record { not_taken = λ n e. ap step_outcome e; taken = λ f e. (ap step_outcome e, ap (step_moves d s) e) }
  call_told limit (steps_text t) = record { not_read = λ n e. ap (text_outcome limit P d) e; read = λ ss e. text_holds limit P ys d t ss e }
  call_told limit (ask_answer n m) = answer_holds n m
  call_told limit ask_state = refl
  call_told limit (unfit_call u) = refl

  pub call_holds : (limit : ℕ) (k : Call) → CallHolds limit P query d k
  call_holds limit k = record { chain = call_chain limit P d k; counts = call_counts limit P ys d k; told = call_told limit k }
