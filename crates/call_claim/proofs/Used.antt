-- The claim used, in demand 3's words, for what a host sees. P, goal and config are what the texts of an accepted start give; the calls
-- ks are made after it.
use mathlib.Core.Path.{◌≡◌, ap, ◌∙◌}
use mathlib.Core.List.{List, ◌∷◌, ◌++◌}
use mathlib.Core.Bool.{Bool, false}
use Prim.Native.Nat.{ℕ}
use lib.ListN.{length}
use Rattle.constraint.specs.Constraint.{Asg}
use Rattle.akl.specs.Base.{Name, size, ok}
use Rattle.akl.specs.Limits.{most_parts}
use Rattle.akl.specs.Syntax.{Program}
use Rattle.akl.specs.Reader.{Query, read_program, read_query}
use Rattle.akl.specs.Configuration.{Config}
use Rattle.akl.specs.Record.{start}
use Rattle.akl.specs.Answers.{Terms}
use Rattle.theory.specs.Meaning.{QuerySolution}
use Rattle.runs.specs.Calls.{Call, ask_answer, after_calls}
use Rattle.runs.specs.Outcomes.{outcome}
use Rattle.runs.specs.Shown.{ReadsAs, FitsText}
use Rattle.runs.specs.CallHolds.{AnswerHolds}
use Rattle.start_call.specs.Called.{StartCalled}
use Rattle.call_claim.specs.Host.{Request, for_answer, HostCall, History}
use Rattle.call_claim.specs.HostRun.{short, stands_for, calls, CallGets}
use Rattle.call_claim.specs.Table.{Among, HandedOut, FitsSome}
use Rattle.call_claim.proofs.Histories.{calls_parts}
use Rattle.call_claim.proofs.Facts.{Facts, facts}
use Rattle.call_claim.proofs.Told.{handed_shown}

-- a call and those behind it
calls_from : (k : HostCall) (ls : List HostCall) (v : Bool) (r : Request) → short k ≡ v → k.request ≡ r → calls (k ∷ ls) ≡ stands_for v r ++ calls ls
unfolding calls
calls_from k ls v r e f = ap (λ (x : Bool). stands_for x k.request ++ calls ls) e ∙ ap (λ (x : Request). stands_for v x ++ calls ls) f

module _ (text query b₀ u b u' : List ℕ) (S : StartCalled text query b₀ u b u' 0) (P : Program) (goal : Query) (config : Config) (rp : read_program text ≡ ok P) (rq : read_query P query ≡ ok goal) (rs : start most_parts goal ≡ ok config) where
  -- the names of the query's variables
  abbrev names : List Name
  names = goal.variables

  -- the configuration that calls lead to
  abbrev after : List HostCall → Config
  after js = after_calls most_parts P config (calls js)

  module _ (ks : List HostCall) (c : List ℕ) (h : History b ks c) where
    claim : Facts P goal config ks
    claim = facts text query b₀ u b u' S P goal config rp rq rs ks c h

    module _ (k : HostCall) (A : Among k ks) (n : ℕ) (t : List ℕ) (H : HandedOut k n t) where
      gets : CallGets P names (after A.before) k
      gets = claim.each_call A.before k A.behind A.is

      cut : calls ks ≡ calls A.before ++ (ask_answer n (length H.out) ∷ calls A.behind)
      cut =
          ap calls A.is
          ∙ calls_parts A.before (k ∷ A.behind)
          ∙ ap (λ (l : List Call). calls A.before ++ l) (calls_from k A.behind false (for_answer n H.out H.out') (handed_shown P names (after A.before) k gets n t H).0 H.asked)

      told : AnswerHolds P goal (after A.before) n (length H.out) (outcome most_parts P names (after A.before) (ask_answer n (length H.out)))
      told = (claim.run.each_call (calls A.before) (ask_answer n (length H.out)) (calls A.behind) cut).holds.told

      -- A text that any of the calls handed out reads as terms,
      pub handed_reads : (ts : Terms) × ReadsAs names t ts
      handed_reads = told.reads t (handed_shown P names (after A.before) k gets n t H).1

      -- and whatever trees fit it satisfy the query.
      pub handed_satisfies : (ts : Terms) → ReadsAs names t ts → (ρ : Asg) → FitsText (size names) ts ρ → QuerySolution P goal ρ
      handed_satisfies = told.satisfies t (handed_shown P names (after A.before) k gets n t H).1

    pub fits_satisfies : (ρ : Asg) → FitsSome names ks ρ → QuerySolution P goal ρ
    fits_satisfies ρ f = handed_satisfies f.call f.among f.answer f.bytes f.handed f.shows f.reads ρ f.fits
