-- Runs, on abstract configurations: lists of calls from the start of a query, and the steps accepted on the way.
use Rattle.std.specs.Prelude.{◌≡◌, ◌⊎◌, List, [], ◌∷◌, ◌++◌, Bool, ◌||◌, not, ℕ, zero, suc, T, eqb}
use Rattle.std.proofs.Common.{inl, inr}
use Rattle.constraint.specs.Constraint.{Asg, Off, Sats}
use Rattle.akl.specs.Base.{Name, size, Result, refused, ok}
use Rattle.akl.specs.Syntax.{Program}
use Rattle.akl.specs.StepsText.{Step, read_steps}
use Rattle.akl.specs.Configuration.{Config}
use Rattle.akl.specs.Step.{step, Run, steps}
use Rattle.akl.specs.Answers.{Answer, State, failed, final, open_state}
use Rattle.theory.specs.Meaning.{hidden_locals}

-- Why a call may be refused before anything is tried: 8 "store or working slice shorter than the documented length",
-- 9 "store holds no well-formed program and configuration".
pub data Unfit : Type 0 where
  slice_short store_bad : Unfit

-- A call: a step, a steps text, a question for the answer of a number in a slice of a length, or for the state; or any call
-- that is refused for its slices or its store.
pub data Call : Type 0 where
  one_step : Step → Call
  steps_text : List ℕ → Call
  ask_answer : ℕ → ℕ → Call
  ask_state : Call
  unfit_call : Unfit → Call

-- The configuration after a call, refused or not.
abbrev pub stepped : Config → Result Config → Config
stepped c (refused n) = c
stepped c (ok d) = d

abbrev pub texted : ℕ → Program → Config → Result (List Step) → Config
texted limit P c (refused n) = c
texted limit P c (ok ss) = (steps limit P c 0 ss).config

abbrev pub after_call : ℕ → Program → Config → Call → Config
after_call limit P c (one_step s) = stepped c (step limit P c s)
after_call limit P c (steps_text t) = texted limit P c (read_steps t)
after_call limit P c (ask_answer n m) = c
after_call limit P c ask_state = c
after_call limit P c (unfit_call u) = c

-- An accepted step: the configurations before and after it.
pub record Move : Type 0 where
  pub before : Config
  pub taken : Step
  pub after : Config

abbrev pub move : Config → Step → Config → Move
move c s d = record { before = c; taken = s; after = d }

-- The steps that a call accepts, in their order.
abbrev pub step_moves : Config → Step → Result Config → List Move
step_moves c s (refused n) = []
step_moves c s (ok d) = move c s d ∷ []

unfoldable pub steps_moves : ℕ → Program → Config → List Step → List Move
steps_moves limit P c [] = []
steps_moves limit P c (s ∷ ss) = elim (step limit P c s) [ refused n ↦ [] | ok d ↦ move c s d ∷ steps_moves limit P d ss ]

abbrev pub text_moves : ℕ → Program → Config → Result (List Step) → List Move
text_moves limit P c (refused n) = []
text_moves limit P c (ok ss) = steps_moves limit P c ss

abbrev pub call_moves : ℕ → Program → Config → Call → List Move
call_moves limit P c (one_step s) = step_moves c s (step limit P c s)
call_moves limit P c (steps_text t) = text_moves limit P c (read_steps t)
call_moves limit P c (ask_answer n m) = []
call_moves limit P c ask_state = []
call_moves limit P c (unfit_call u) = []

-- A list of calls: the configuration they lead to, and all steps accepted on the way.
unfoldable pub after_calls : ℕ → Program → Config → List Call → Config
after_calls limit P c [] = c
after_calls limit P c (k ∷ ks) = after_calls limit P (after_call limit P c k) ks

unfoldable pub calls_moves : ℕ → Program → Config → List Call → List Move
calls_moves limit P c [] = []
calls_moves limit P c (k ∷ ks) = call_moves limit P c k ++ calls_moves limit P (after_call limit P c k) ks

-- From c to d by accepted steps, one after the other.
abbrev pub Chain : ℕ → Program → Config → List Move → Config → Type 0
Chain limit P c [] d = c ≡ d
Chain limit P c (m ∷ ms) d = (m.before ≡ c) × (step limit P m.before m.taken ≡ ok m.after) × Chain limit P m.after ms d

-- "condition and commit steps (7, 8)"
abbrev pub prunes : ℕ → Bool
prunes r = eqb r 7 || eqb r 8

-- The step is neither.
abbrev pub Keeps-all : Move → Type 0
Keeps-all m = T (not (prunes m.taken.rule))

-- None among them is a condition or commit step.
abbrev pub NoPruning : List Move → Type 0
NoPruning [] = Unit {0}
NoPruning (m ∷ ms) = Keeps-all m × NoPruning ms

-- The answer is one of the list.
abbrev pub AnswerIn : Answer → List Answer → Type 0
AnswerIn a [] = ⊥
AnswerIn a (b ∷ bs) = (a ≡ b) ⊎ AnswerIn a bs

-- What an answer allows: trees that satisfy its store with some trees for its locals but the query's.
abbrev pub Allows : ℕ → Answer → Asg → Type 0
Allows q a ρ = (ρ' : Asg) × Off (hidden_locals q a.0) ρ ρ' × Sats ρ' a.1

-- What some answer of the list allows.
abbrev pub AllowedBy : ℕ → List Answer → Asg → Type 0
AllowedBy q [] ρ = ⊥
AllowedBy q (a ∷ bs) ρ = Allows q a ρ ⊎ AllowedBy q bs ρ

-- Failed or final.
abbrev pub Ended : State → Type 0
Ended failed = Unit {0}
Ended final = Unit {0}
Ended open_state = ⊥
