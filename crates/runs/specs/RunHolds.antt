-- Demand 3 as one claim: what holds of every list of calls from the start c of a query. No accepted step adds a solution, only
-- condition and commit steps (7, 8) lose one; whatever an answer allows, and whatever fits its text, satisfies the query;
-- without 7 and 8 the configuration has exactly the query's solutions, and if failed or final its answers allow exactly these.
-- Each call's outcome tells what it did.
use Rattle.std.specs.Prelude.{◌≡◌, ◌↔◌, List, [], ◌∷◌, ◌++◌, ℕ, ◌≤◌, T}
use Rattle.std.proofs.Math.Option.{some}
use Rattle.constraint.specs.Constraint.{Asg}
use Rattle.akl.specs.Base.{Name, size, nth}
use Rattle.akl.specs.Syntax.{Program}
use Rattle.akl.specs.Reader.{Query}
use Rattle.akl.specs.Configuration.{Config}
use Rattle.akl.specs.Answers.{Answer, Terms, answers, answer_text, state}
use Rattle.akl.specs.WellFormed.{well_formed}
use Rattle.theory.specs.Meaning.{Solution, QuerySolution, SameBelow}
use Rattle.runs.specs.Calls.{Call, ask_answer, Move, after_call, call_moves, after_calls, calls_moves, Chain, NoPruning, AnswerIn, AllowedBy, Ended, Allows}
use Rattle.runs.specs.Outcomes.{Outcome, shown, outcome, outcomes}
use Rattle.runs.specs.CallHolds.{StepHolds, CallHolds}
use Rattle.runs.specs.Shown.{FitsText, shown_terms, line_bytes, ReadsAs}

-- The call k of the list ks, js being those before it and ls those behind it: it is made on what js lead to, and ls go on from
-- where it leads.
module _ (limit : ℕ) (P : Program) (query : Query) (c : Config) (ks js : List Call) (k : Call) (ls : List Call) where
  abbrev here : Config
  here = after_calls limit P c js

  abbrev there : Config
  there = after_call limit P here k

  pub record CallAt : Type 0 where
    pub holds : CallHolds limit P query here k
    pub tells : nth (outcomes limit P query.variables c ks) (size js) ≡ some (outcome limit P query.variables here k)
    pub goes_on : after_calls limit P c ks ≡ after_calls limit P there ls
    pub steps_on : calls_moves limit P c ks ≡ calls_moves limit P c js ++ (call_moves limit P here k ++ calls_moves limit P there ls)

module _ (limit : ℕ) (P : Program) (query : Query) (c : Config) (ks : List Call) where
  abbrev names : List Name
  names = query.variables

  abbrev q : ℕ
  q = size query.variables

  -- the steps accepted on the way, and the configuration that the calls lead to
  abbrev moves : List Move
  moves = calls_moves limit P c ks

  abbrev end : Config
  end = after_calls limit P c ks

  -- The trees fit a text that an answer call hands back, in any slice that is long enough.
  pub record TextFits (ρ : Asg) : Type 0 where
    pub number : ℕ
    pub text : List ℕ
    pub shows : Terms
    pub handed : (m : ℕ) → size text ≤ m → outcome limit P names end (ask_answer number m) ≡ shown text
    pub reads : ReadsAs names text shows
    pub fits : FitsText q shows ρ

  pub record RunHolds : Type 0 where
    -- the configuration is well formed
    pub formed : T (well_formed limit P names end)
    -- the steps accepted on the way lead to it from the start
    pub chain : Chain limit P c moves end
    -- no accepted step adds a solution, only 7 and 8 lose one: said of the i-th
    pub each_step : (i : ℕ) (m : Move) → nth moves i ≡ some m → StepHolds limit P names m
    -- each call
    pub each_call : (js : List Call) (k : Call) (ls : List Call) → ks ≡ js ++ (k ∷ ls) → CallAt limit P query c ks js k ls
    -- solutions are trees for the query's variables: those of other variables do not matter
    pub own_variables : (ρ ρ' : Asg) → SameBelow q ρ ρ' →
        (Solution P q end ρ ↔ Solution P q end ρ') × (QuerySolution P query ρ ↔ QuerySolution P query ρ')
    -- the configuration has no solution that the query has not
    pub sound : (ρ : Asg) → Solution P q end ρ → QuerySolution P query ρ
    -- whatever an answer allows satisfies the query
    pub answers_sound : (a : Answer) → AnswerIn a (answers end.root) → (ρ : Asg) → Allows q a ρ → QuerySolution P query ρ
    -- without 7 and 8 the configuration has exactly the query's solutions
    pub exact : NoPruning moves → (ρ : Asg) → Solution P q end ρ ↔ QuerySolution P query ρ
    -- and if failed or final its answers allow exactly these
    pub answers_exact : NoPruning moves → Ended (state end.root) →
        (ρ : Asg) → AllowedBy q (answers end.root) ρ ↔ QuerySolution P query ρ
    -- so that each of them fits a text that is handed out
    pub texts_exact : NoPruning moves → Ended (state end.root) → (ρ : Asg) → QuerySolution P query ρ → TextFits ρ
    -- the trees that fit an answer's text are exactly its solutions
    pub texts_right : (a : Answer) → AnswerIn a (answers end.root) →
        (answer_text names a ≡ line_bytes names (shown_terms q a)) × ((ρ : Asg) → FitsText q (shown_terms q a) ρ ↔ Allows q a ρ)
    -- two answers of the query, also of another run's end, have the same text exactly when they have the same solutions
    pub texts_apart : (ls : List Call) (a b : Answer) → AnswerIn a (answers end.root) → AnswerIn b (answers (after_calls limit P c ls).root) →
        (answer_text names a ≡ answer_text names b) ↔ ((ρ : Asg) → Allows q a ρ ↔ Allows q b ρ)
