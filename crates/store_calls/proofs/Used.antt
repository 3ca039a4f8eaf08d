-- The claim on bytes, used: whatever calls were made on the bytes of a query's start, an answer's text that a call then hands back reads
-- as terms, and the trees that fit them satisfy the query; failed or final without condition and commit steps, every solution fits a
-- text that a call hands back.
use mathlib.Core.Path.{◌≡◌, refl, ap, sym, ◌∙◌, subst}
use mathlib.Core.List.{List, [], ◌∷◌, ◌++◌, map}
use mathlib.Core.Bool.{Bool, false}
use Prim.Native.Nat.{ℕ, ◌<◌, ◌≤◌}
use Rattle.constraint.specs.Constraint.{Asg}
use Rattle.akl.specs.Base.{Name, size, ok}
use Rattle.akl.specs.Syntax.{Program}
use Rattle.akl.specs.Reader.{Query, read_program, read_query}
use Rattle.akl.specs.Configuration.{Config}
use Rattle.akl.specs.Record.{start}
use Rattle.akl.specs.Answers.{Terms, state}
use Rattle.akl.specs.Answers as answers
use Rattle.theory.specs.Meaning.{QuerySolution}
use Rattle.runs.specs.Calls.{Call, ask_answer, after_calls, calls_moves, NoPruning, Ended}
use Rattle.runs.specs.Outcomes.{Outcome, refusal, accepted, shown, stands, outcome}
use Rattle.runs.specs.Shown.{FitsText, ReadsAs}
use Rattle.runs.specs.CallHolds.{AnswerHolds}
use Rattle.runs.proofs.Demand3.{run_holds}
use Rattle.store_form.specs.State.{State, program_of, names_of}
use Rattle.store_form.specs.Form.{store_bytes}
use Rattle.store_form.proofs.Keeping.{with_config}
use Rattle.store_calls.specs.Outcomes.{Called, answer_outcome, state_outcome}
use Rattle.store_calls.specs.Calls.{Asked, for_answer, for_state, ByteCall, asked_meant, call_outcome, bytes_after, meant}
use Rattle.store_calls.specs.OnBytes.{Begins}
use Rattle.store_calls.proofs.OnBytes.{not_below, call_on_bytes}
use Rattle.store_calls.proofs.Demand3.{run_on_bytes}

module _ (limit : ℕ) (low : limit < 65536) (rules text : List ℕ) (P : Program) (query : Query) (c : Config) (rp : read_program rules ≡ ok P) (rq : read_query P text ≡ ok query) (rs : start limit query ≡ ok c) (s : State) (B : Begins limit s P query c) (work : ℕ) (rest : List ℕ) (js : List ByteCall) (w : ℕ) (enough : work ≤ w) where
  -- the slice after the calls js
  abbrev here : List ℕ
  here = bytes_after limit work (store_bytes limit s ++ rest) js

  abbrev names : List Name
  names = query.variables

  abbrev calls : List Call
  calls = map (meant work) js

  abbrev end : Config
  end = after_calls limit P c calls

  -- a question there, by its outcome on the configuration
  asked_there : (a : Asked) → (call_outcome limit work here (record { asked = a; working = w })).told ≡ outcome limit P names end (asked_meant false a)
  unfolding meant
  asked_there a =
      let R = run_on_bytes limit low rules text P query c rp rq rs s B work rest js in
      let k : ByteCall = record { asked = a; working = w } in
      ap (λ (b : List ℕ). (call_outcome limit work b k).told) R.bytes
      ∙ ap (λ (r : Called). r.told) (call_on_bytes limit low work rest (with_config s end) R.stand k)
      ∙ ap (λ (u : Bool). outcome limit (program_of s) (names_of s) end (asked_meant u a)) (not_below w work enough)
      ∙ ap (λ (Q : Program). outcome limit Q (names_of s) end (asked_meant false a)) B.program
      ∙ ap (λ (xs : List Name). outcome limit P xs end (asked_meant false a)) B.names

  answer_there : (n m : ℕ) → (answer_outcome limit work here w n m).told ≡ outcome limit P names end (ask_answer n m)
  unfolding call_outcome
  answer_there n m = asked_there (for_answer n m)

  state_there : (state_outcome limit work here w).told ≡ stands (state end.root)
  unfolding call_outcome
  state_there = asked_there for_state

  answer_holds : (n m : ℕ) → AnswerHolds P query end n m (outcome limit P names end (ask_answer n m))
  answer_holds n m = ((run_holds limit rules text P query c rp rq rs (calls ++ (ask_answer n m ∷ []))).each_call calls (ask_answer n m) [] refl).holds.told

  module _ (n m : ℕ) (t : List ℕ) (e : (answer_outcome limit work here w n m).told ≡ shown t) where
    -- A text that is handed back reads as terms,
    pub handed_reads : (ts : Terms) × ReadsAs names t ts
    handed_reads = (answer_holds n m).reads t (sym (answer_there n m) ∙ e)

    -- and the trees that fit them satisfy the query.
    pub handed_satisfies : (ts : Terms) → ReadsAs names t ts → (ρ : Asg) → FitsText (size names) ts ρ → QuerySolution P query ρ
    handed_satisfies = (answer_holds n m).satisfies t (sym (answer_there n m) ∙ e)

  -- The trees fit a text that is handed back, in any slice that is long enough.
  pub record Handed (ρ : Asg) : Type 0 where
    pub number : ℕ
    pub bytes : List ℕ
    pub shows : Terms
    pub handed : (m : ℕ) → size bytes ≤ m → (answer_outcome limit work here w number m).told ≡ shown bytes
    pub reads : ReadsAs names bytes shows
    pub fits : FitsText (size names) shows ρ

  told_state : answers.State → Outcome → answers.State
  told_state z (refusal n) = z
  told_state z (accepted n r) = z
  told_state z (shown t) = z
  told_state z (stands x) = x

  -- Where the state is told to be failed or final, and no step was a condition or commit step, every solution fits one.
  pub solutions_handed : (z : answers.State) → (state_outcome limit work here w).told ≡ stands z → Ended z → NoPruning (calls_moves limit P c calls) → (ρ : Asg) → QuerySolution P query ρ → Handed ρ
  unfolding told_state
  solutions_handed z e d m ρ h =
      let q : state end.root ≡ z = ap (told_state z) (sym state_there ∙ e) in
      let f = (run_holds limit rules text P query c rp rq rs calls).texts_exact m (subst Ended (sym q) d) ρ h in
      record {
        number = f.number;
        bytes = f.text;
        shows = f.shows;
        handed = λ l g. answer_there f.number l ∙ f.handed l g;
        reads = f.reads;
        fits = f.fits;
      }
