-- What holds of one call, made on the configuration d, and of one accepted step.
use Rattle.std.specs.Prelude.{◌≡◌, ◌↔◌, ◌⊎◌, List, [], ◌∷◌, ◌++◌, map, ℕ, suc, ◌≤◌, ◌<◌, T}
use Rattle.std.proofs.Math.Option.{some}
use Rattle.constraint.specs.Constraint.{Asg}
use Rattle.akl.specs.Base.{Name, size, nth, Result, refused, ok}
use Rattle.akl.specs.Syntax.{Program}
use Rattle.akl.specs.Reader.{Query}
use Rattle.akl.specs.StepsText.{Step, read_steps}
use Rattle.akl.specs.Configuration.{Config}
use Rattle.akl.specs.Step.{step}
use Rattle.akl.specs.Answers.{Answer, Terms, answers, answer_text, state}
use Rattle.akl.specs.WellFormed.{well_formed}
use Rattle.theory.specs.Meaning.{Solution, QuerySolution}
use Rattle.runs.specs.Calls.{Unfit, Call, one_step, steps_text, ask_answer, ask_state, unfit_call, Move, move, after_call, call_moves, after_calls, calls_moves, Chain, Keeps-all}
use Rattle.runs.specs.Outcomes.{Outcome, refusal, accepted, shown, stands, unfit_number, outcome, outcomes}
use Rattle.runs.specs.Shown.{FitsText, shown_terms, ReadsAs}

-- An accepted step: "no accepted step adds a solution, only condition and commit steps (7, 8) lose one".
pub record StepHolds (limit : ℕ) (P : Program) (xs : List Name) (m : Move) : Type 0 where
  pub taken_on : step limit P m.before m.taken ≡ ok m.after
  pub formed : T (well_formed limit P xs m.after)
  pub adds_none : (ρ : Asg) → Solution P (size xs) m.after ρ → Solution P (size xs) m.before ρ
  pub loses_none : Keeps-all m → (ρ : Asg) → Solution P (size xs) m.before ρ → Solution P (size xs) m.after ρ

-- The number accepted is that of the steps; where none is spoken of, nothing is done.
abbrev pub Counts : Outcome → List Move → Type 0
Counts (refusal n) ms = ms ≡ []
Counts (accepted n r) ms = size ms ≡ n
Counts (shown t) ms = ms ≡ []
Counts (stands s) ms = ms ≡ []

-- The next step of those left is refused with r; r is 0 where none is left.
abbrev pub Next : ℕ → Program → Config → List Step → ℕ → Type 0
Next limit P d [] r = r ≡ 0
Next limit P d (s ∷ ss) r = step limit P d s ≡ refused r

-- A steps text whose steps are ss: it does what the accepted ones, the first of them, do as single calls one after the other,
-- and tells their number and why the next one is refused.
pub record TextHolds (limit : ℕ) (P : Program) (xs : List Name) (d : Config) (t : List ℕ) (ss : List Step) : Type 0 where
  pub done : List Step
  pub left : List Step
  pub cut : ss ≡ done ++ left
  pub singles : outcomes limit P xs d (map one_step done) ≡ map (λ s. accepted 1 0) done
  pub same_end : after_call limit P d (steps_text t) ≡ after_calls limit P d (map one_step done)
  pub same_moves : call_moves limit P d (steps_text t) ≡ calls_moves limit P d (map one_step done)
  pub next : ℕ
  pub is_next : Next limit P (after_call limit P d (steps_text t)) left next
  pub told : outcome limit P xs d (steps_text t) ≡ accepted (size done) next

-- The answer a stands at the number asked for: 17 exactly when its text is longer than the slice, else its text.
pub record TextGiven (xs : List Name) (a : Answer) (m : ℕ) (o : Outcome) : Type 0 where
  pub given : (o ≡ shown (answer_text xs a)) ↔ (size (answer_text xs a) ≤ m)
  pub long : (o ≡ refusal 17) ↔ (m < size (answer_text xs a))

-- A question for the answer of number n, in a slice of length m.
pub record AnswerHolds (P : Program) (query : Query) (d : Config) (n m : ℕ) (o : Outcome) : Type 0 where
  -- 16: "no answer of that number, counted from 1"
  pub missing : (o ≡ refusal 16) ↔ ((n ≡ 0) ⊎ (size (answers d.root) < n))
  pub numbered : (i : ℕ) (a : Answer) → n ≡ suc i → nth (answers d.root) i ≡ some a → TextGiven query.variables a m o
  -- the text reads as terms, in one way, and whatever trees fit them satisfy the query
  pub reads : (t : List ℕ) → o ≡ shown t → (ts : Terms) × ReadsAs query.variables t ts
  pub satisfies : (t : List ℕ) → o ≡ shown t → (ts : Terms) → ReadsAs query.variables t ts → (ρ : Asg) → FitsText (size query.variables) ts ρ →
      QuerySolution P query ρ

-- A step: its refusal, or one step accepted and done.
pub record StepTold (limit : ℕ) (P : Program) (d : Config) (s : Step) (o : Outcome) : Type 0 where
  pub not_taken : (n : ℕ) → step limit P d s ≡ refused n → o ≡ refusal n
  pub taken : (e : Config) → step limit P d s ≡ ok e → (o ≡ accepted 1 0) × (call_moves limit P d (one_step s) ≡ move d s e ∷ [])

-- A steps text: refused whole with 1 or 18, or its steps.
pub record TextTold (limit : ℕ) (P : Program) (xs : List Name) (d : Config) (t : List ℕ) (o : Outcome) : Type 0 where
  pub not_read : (n : ℕ) → read_steps t ≡ refused n → o ≡ refusal n
  pub read : (ss : List Step) → read_steps t ≡ ok ss → TextHolds limit P xs d t ss

-- What each kind of call comes to, o being its outcome.
abbrev pub Told : ℕ → Program → Query → Config → Call → Outcome → Type 0
Told limit P query d (one_step s) o = StepTold limit P d s o
Told limit P query d (steps_text t) o = TextTold limit P query.variables d t o
Told limit P query d (ask_answer n m) o = AnswerHolds P query d n m o
Told limit P query d ask_state o = o ≡ stands (state d.root)
Told limit P query d (unfit_call u) o = o ≡ refusal (unfit_number u)

pub record CallHolds (limit : ℕ) (P : Program) (query : Query) (d : Config) (k : Call) : Type 0 where
  -- the accepted steps lead on from d; without any, the configuration is as before
  pub chain : Chain limit P d (call_moves limit P d k) (after_call limit P d k)
  pub counts : Counts (outcome limit P query.variables d k) (call_moves limit P d k)
  pub told : Told limit P query d k (outcome limit P query.variables d k)
