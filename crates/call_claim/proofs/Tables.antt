-- The table of answers that a host has from its calls is the table of the query's solutions: whatever steps were accepted, if none of
-- them was a condition or commit step (7, 8), and the state is told to be failed or final.
use mathlib.Core.Path.{◌≡◌, refl, ap, sym, ◌∙◌, subst}
use mathlib.Core.Logic.{◌↔◌}
use mathlib.Core.List.{List, [], ◌∷◌, ◌++◌, append_assoc}
use mathlib.Core.Bool.{Bool, true, false}
use Prim.Native.Nat.{ℕ}
use native.Mathlib.Omega.{arith}
use lib.ListN.{length}
use Rattle.constraint.specs.Constraint.{Asg}
use Rattle.akl.specs.Base.{Name, size, ok}
use Rattle.akl.specs.Limits.{most_parts}
use Rattle.akl.specs.Syntax.{Program}
use Rattle.akl.specs.Reader.{Query, read_program, read_query}
use Rattle.akl.specs.Configuration.{Config}
use Rattle.akl.specs.Record.{start}
use Rattle.akl.specs.Answers.{Answer}
use Rattle.theory.specs.Meaning.{QuerySolution}
use Rattle.runs.specs.Calls.{ask_answer, after_calls, AllowedBy, Ended}
use Rattle.runs.specs.Outcomes.{shown, outcome}
use Rattle.runs.specs.Shown.{ReadsAs}
use Rattle.runs.specs.RunHolds.{TextFits}
use Rattle.start_call.specs.Called.{StartCalled}
use Rattle.call_claim.specs.Host.{Request, for_step, for_run, for_answer, for_state, for_count, for_start, HostCall, History}
use Rattle.call_claim.specs.Seen.{accepted_steps, NoneLoses}
use Rattle.call_claim.specs.HostRun.{short, stands_for, calls, CallGets}
use Rattle.call_claim.specs.Table.{Among, FitsSome, Question, Questions, WholeTable}
use Rattle.call_claim.proofs.Histories.{after_parts, calls_parts}
use Rattle.call_claim.proofs.Facts.{Facts, facts, none_prunes, first_part}
use Rattle.call_claim.proofs.Told.{shown_once, shown_numbered, failed_none, handed_shown, ended_is, zero_failed, at_most}
use Rattle.call_claim.proofs.Used.{fits_satisfies}

-- Questions lead nowhere.
question_leaves : (P : Program) (d : Config) (v : Bool) (r : Request) → Question r → after_calls most_parts P d (stands_for v r) ≡ d
unfolding after_calls
question_leaves P d v (for_step k) q = absurd q
question_leaves P d v (for_run t) q = absurd q
question_leaves P d true (for_answer n o o') q = refl
question_leaves P d false (for_answer n o o') q = refl
question_leaves P d true for_state q = refl
question_leaves P d false for_state q = refl
question_leaves P d v for_count q = refl
question_leaves P d v (for_start t q) h = refl

questions_leave : (P : Program) (qs : List HostCall) (d : Config) → Questions qs → after_calls most_parts P d (calls qs) ≡ d
unfolding calls after_calls
questions_leave P [] d q = refl
questions_leave P (k ∷ qs) d q =
    after_parts P (stands_for (short k) k.request) (calls qs) d
    ∙ ap (λ (z : Config). after_calls most_parts P z (calls qs)) (question_leaves P d (short k) k.request q.0)
    ∙ questions_leave P qs d q.1

questions_before : (js ls : List HostCall) → Questions (js ++ ls) → Questions js
questions_before [] ls q = tt
questions_before (j ∷ js) ls q = (q.0, questions_before js ls q.1)

module _ (text query b₀ u b u' : List ℕ) (S : StartCalled text query b₀ u b u' 0) (P : Program) (goal : Query) (config : Config) (rp : read_program text ≡ ok P) (rq : read_query P query ≡ ok goal) (rs : start most_parts goal ≡ ok config) where
  -- the names of the query's variables
  abbrev names : List Name
  names = goal.variables

  -- ks are any calls, qs the questions behind them
  module _ (ks qs : List HostCall) (c : List ℕ) (h : History b (ks ++ qs) c) where
    -- the configuration that ks lead to
    abbrev end : Config
    end = after_calls most_parts P config (calls ks)

    claim : Facts P goal config ks
    claim = let r = first_part ks qs b c h in facts text query b₀ u b u' S P goal config rp rq rs ks r.0 r.1

    -- each question is asked there
    asked_there : Questions qs → (k : HostCall) → Among k qs → CallGets P names end k
    asked_there Q k A =
        let before : after_calls most_parts P config (calls (ks ++ A.before)) ≡ end =
        ap (after_calls most_parts P config) (calls_parts ks A.before)
        ∙ after_parts P (calls ks) (calls A.before) config
        ∙ questions_leave P A.before end (questions_before A.before (k ∷ A.behind) (subst Questions A.is Q)) in
        subst (λ (d : Config). CallGets P names d k) before
        ((facts text query b₀ u b u' S P goal config rp rq rs (ks ++ qs) c h).each_call (ks ++ A.before) k A.behind
        (ap (λ (l : List HostCall). ks ++ l) A.is ∙ sym (append_assoc ks A.before (k ∷ A.behind))))

    -- A text that an answer call would hand out there was handed out.
    was_handed : WholeTable qs → (ρ : Asg) → TextFits most_parts P goal config (calls ks) ρ → FitsSome names qs ρ
    was_handed W ρ f =
        let there = asked_there W.questions in
        let e : outcome most_parts P names end (ask_answer f.number (size f.text)) ≡ shown f.text = f.handed (size f.text) (omega arith) in
        let n = shown_numbered names end.root f.number (size f.text) f.text e in
        let N = at_most P names end W.count_call (there W.count_call W.count_among) W.count W.counted in
        let w = W.each f.number n.0 (omega (arith, n.1, N)) in
        let same : f.text ≡ w.1 =
        shown_once names end.root f.number (size f.text) (length w.3.out) f.text w.1 e
        (handed_shown P names end w.0 (there w.0 w.2) f.number w.1 w.3).1 in
        record {
          call = w.0;
          among = w.2;
          answer = f.number;
          bytes = w.1;
          handed = w.3;
          shows = f.shows;
          reads = subst (λ (t : List ℕ). ReadsAs names t f.shows) same f.reads;
          fits = f.fits;
        }

    -- No solution is lost: each fits a text that was handed out.
    solutions_fit : WholeTable qs → NoneLoses (accepted_steps ks) → (ρ : Asg) → QuerySolution P goal ρ → FitsSome names qs ρ
    solutions_fit W m ρ s =
        was_handed W ρ
        (claim.run.texts_exact (none_prunes P goal config ks claim m)
        (ended_is P names end W.state_call (asked_there W.questions W.state_call W.state_among) W.ended) ρ s)

    among_all : (k : HostCall) → Among k qs → Among k (ks ++ qs)
    among_all k A = record {
      before = ks ++ A.before;
      behind = A.behind;
      is = ap (λ (l : List HostCall). ks ++ l) A.is ∙ sym (append_assoc ks A.before (k ∷ A.behind));
    }

    -- The trees that fit the texts handed out are exactly the query's solutions.
    pub table_exact : WholeTable qs → NoneLoses (accepted_steps ks) → (ρ : Asg) → FitsSome names qs ρ ↔ QuerySolution P goal ρ
    table_exact W m ρ = (
      λ f. fits_satisfies text query b₀ u b u' S P goal config rp rq rs (ks ++ qs) c h ρ
          (record { call = f.call; among = among_all f.call f.among; answer = f.answer; bytes = f.bytes; handed = f.handed; shows = f.shows; reads = f.reads; fits = f.fits }),
      solutions_fit W m ρ,
    )

    -- Where the state is told to be failed, the query has no solution.
    pub failed_has_none : Questions qs → (k : HostCall) → Among k qs → k.request ≡ for_state → k.returned ≡ 0 → NoneLoses (accepted_steps ks) → (ρ : Asg) → QuerySolution P goal ρ → ⊥
    failed_has_none Q k A r z m ρ s =
        let f = zero_failed P names end k (asked_there Q k A) r z in
        subst (λ (l : List Answer). AllowedBy (size names) l ρ) (failed_none end.root f)
        ((claim.run.answers_exact (none_prunes P goal config ks claim m) (subst Ended (sym f) tt) ρ).1 s)
