-- Closed uses of demand 3, on the record of document 01 with refused calls and questions in between. A definition that made the
-- claim say less would still be proved of every run; it is not what is used here.
use mathlib.Core.Path.{◌≡◌, refl, ap, sym, ◌∙◌, subst}
use mathlib.Core.Logic.{◌↔◌, ◌⊎◌, inl, inr}
use mathlib.Core.List.{List, [], ◌∷◌, ◌++◌, map}
use mathlib.Core.Option.{some}
use Prim.Native.Nat.{ℕ, zero, suc, ◌<◌}
use native.Mathlib.Omega.{arith}
use Rattle.constraint.specs.Tree.{Tree, node, fnil, fcons}
use Rattle.constraint.specs.Constraint.{Asg, Off, ctrue, capp}
use Rattle.akl.specs.Base.{bytes, size, nth, Result, refused, ok}
use Rattle.akl.specs.Syntax.{Program, atom}
use Rattle.akl.specs.StepsText.{Step}
use Rattle.akl.specs.Reader.{Query, read_program, read_query}
use Rattle.akl.specs.Configuration.{or, nil, Config}
use Rattle.akl.specs.Step.{step, steps}
use Rattle.akl.specs.Record.{start}
use Rattle.akl.specs.Answers.{Answer, built, no_terms, more_terms, answers, final, open_state}
use Rattle.akl.specs.Computed.{everything}
use Rattle.theory.specs.Meaning.{Solution, QuerySolution}
use Rattle.runs.specs.Calls.{slice_short, store_bad, Call, Allows, one_step, steps_text, ask_answer, ask_state, unfit_call, Move, move, after_calls, calls_moves, call_moves, steps_moves}
use Rattle.runs.specs.Outcomes.{Outcome, refusal, accepted, shown, stands, outcome, outcomes}
use Rattle.runs.specs.Shown.{term_bytes, bindings_bytes}
use Rattle.runs.specs.CallHolds.{Next, TextHolds, CallHolds}
use Rattle.runs.specs.RunHolds.{RunHolds}
use Rattle.runs.proofs.Demand3.{demand_3}

unfoldable pub program_of : Result Program → Program
program_of (refused n) = []
program_of (ok P) = P

unfoldable pub query_of : Result Query → Query
query_of (refused n) = record { variables = []; statement = atom ctrue }
query_of (ok q) = q

unfoldable pub config_of : Result Config → Config
config_of (refused n) = record { root = or nil; next = 0 }
config_of (ok c) = c

abbrev pub line : ℕ → ℕ → ℕ → Step
line r p a = record { rule = r; place = p; argument = a }

-- the record's program, query and start
unfoldable pub P₀ : Program
P₀ = program_of (read_program (bytes "amend(K) := (K = kept ? true ; K = new ? true)."))

unfoldable pub q₀ : Query
q₀ = query_of (read_query P₀ (bytes "amend(K)."))

unfoldable pub c₀ : Config
c₀ = config_of (start 2048 q₀)

-- its ten steps as two texts and a single call, the first text with a step that is refused; refused calls and questions between
abbrev pub first_text : Call
first_text = steps_text (bytes "5 2 0\n1 5 0\n1 7 0\n12 2 1\n6 99 0\n14 1 0\n")

abbrev pub second_text : Call
second_text = steps_text (bytes "14 1 0\n6 2 0\n6 4 0\n1 2 0\n1 3 0\n")

unfoldable pub before₀ : List Call
before₀ = unfit_call store_bad ∷ one_step (line 9 1 0) ∷ ask_answer 1 9 ∷ steps_text (bytes "1") ∷ one_step (line 2 2 0) ∷ unfit_call slice_short ∷ []

unfoldable pub behind₀ : List Call
behind₀ = ask_state ∷ second_text ∷ []

unfoldable pub ks₀ : List Call
ks₀ = before₀ ++ (first_text ∷ behind₀)

held : (ks : List Call) → RunHolds 2048 P₀ q₀ c₀ ks
unfolding everything P₀ q₀ c₀ program_of query_of config_of
held ks = demand_3 (bytes "amend(K) := (K = kept ? true ; K = new ? true).") (bytes "amend(K).") P₀ q₀ c₀ refl refl refl ks

unfoldable pub kept : Tree
kept = node (bytes "kept") fnil

unfoldable pub new : Tree
new = node (bytes "new") fnil

-- The query's solutions are exactly those of the two answers.
pub used_answers : (ρ : Asg) → QuerySolution P₀ q₀ ρ ↔ ((ρ 0 ≡ kept) ⊎ (ρ 0 ≡ new))
unfolding everything P₀ q₀ c₀ before₀ behind₀ ks₀ program_of query_of config_of after_calls calls_moves steps_moves kept new
used_answers ρ =
    let h = (held ks₀).answers_exact (tt, (tt, (tt, (tt, (tt, (tt, (tt, (tt, (tt, (tt, tt)))))))))) tt ρ in (
      λ s. elim (h.1 s) [ inl a ↦ inl (a.1 0 (λ i. i) ∙ a.2.0) | inr r ↦ elim r [ inl b ↦ inr (b.1 0 (λ i. i) ∙ b.2.0) | inr e ↦ absurd e ] ],
      λ s. h.0 (elim s [ inl e ↦ inl (ρ, (λ x i. refl), (e, tt)) | inr e ↦ inr (inl (ρ, (λ x i. refl), (e, tt))) ]),
    )

-- They are the same with other trees for other variables.
pub used_own : (ρ ρ' : Asg) → ρ 0 ≡ ρ' 0 → QuerySolution P₀ q₀ ρ ↔ QuerySolution P₀ q₀ ρ'
unfolding everything P₀ q₀ c₀ program_of query_of config_of
used_own ρ ρ' e = ((held []).own_variables ρ ρ' first).1
  where
    first : (x : ℕ) → x < 1 → ρ x ≡ ρ' x
    first zero l = e
    first (suc x) l = absurd (omega arith)

-- What each call comes to.
pub used_outcomes : outcomes 2048 P₀ q₀.variables c₀ (ks₀ ++ (ask_answer 1 7 ∷ ask_answer 2 7 ∷ ask_answer 3 9 ∷ ask_answer 0 9 ∷ ask_state ∷ [])) ≡ refusal 9 ∷ refusal 13 ∷ refusal 16 ∷ refusal 18 ∷ accepted 1 0 ∷ refusal 8 ∷ accepted 4 11 ∷ stands open_state ∷ accepted 5 0 ∷ refusal 17 ∷ shown (bytes "K = new") ∷ refusal 16 ∷ refusal 16 ∷ stands final ∷ []
unfolding everything P₀ q₀ c₀ before₀ behind₀ ks₀ program_of query_of config_of after_calls outcomes
used_outcomes = refl

-- The configurations before and after the splitting, a step inside the first text, have the same solutions.
unfoldable pub ran₀ : List Step → Config
ran₀ ss = (steps 2048 P₀ c₀ 0 ss).config

unfoldable pub unsplit : Config
unsplit = ran₀ (line 2 2 0 ∷ line 5 2 0 ∷ line 1 5 0 ∷ line 1 7 0 ∷ [])

unfoldable pub split : Config
split = ran₀ (line 2 2 0 ∷ line 5 2 0 ∷ line 1 5 0 ∷ line 1 7 0 ∷ line 12 2 1 ∷ [])

pub used_step : (ρ : Asg) → Solution P₀ 1 unsplit ρ ↔ Solution P₀ 1 split ρ
unfolding everything P₀ q₀ c₀ before₀ behind₀ ks₀ program_of query_of config_of after_calls calls_moves steps_moves ran₀ unsplit split
used_step ρ = let w = (held ks₀).each_step 4 (move unsplit (line 12 2 1) split) refl in (w.loses_none tt ρ, w.adds_none ρ)

-- The first text: four steps are accepted, the fifth is refused with 11, and the second text goes on from there.
pub used_number : size (call_moves 2048 P₀ (after_calls 2048 P₀ c₀ before₀) first_text) ≡ 4
unfolding everything P₀ q₀ c₀ before₀ behind₀ ks₀ program_of query_of config_of after_calls steps_moves
used_number = ((held ks₀).each_call before₀ first_text behind₀ refl).holds.counts

pub used_going_on : after_calls 2048 P₀ c₀ ks₀ ≡ after_calls 2048 P₀ split behind₀
unfolding everything P₀ q₀ c₀ before₀ behind₀ ks₀ program_of query_of config_of after_calls ran₀ split
used_going_on = ((held ks₀).each_call before₀ first_text behind₀ refl).goes_on

-- It does what four single steps do, each accepted, and the next one is refused with 11.
abbrev pub unfolded : Config
unfolded = after_calls 2048 P₀ c₀ before₀

first_held : TextHolds 2048 P₀ q₀.variables unfolded (bytes "5 2 0\n1 5 0\n1 7 0\n12 2 1\n6 99 0\n14 1 0\n") (line 5 2 0 ∷ line 1 5 0 ∷ line 1 7 0 ∷ line 12 2 1 ∷ line 6 99 0 ∷ line 14 1 0 ∷ [])
unfolding everything before₀ behind₀ ks₀
first_held = ((held ks₀).each_call before₀ first_text behind₀ refl).holds.told.read (line 5 2 0 ∷ line 1 5 0 ∷ line 1 7 0 ∷ line 12 2 1 ∷ line 6 99 0 ∷ line 14 1 0 ∷ []) refl

first_told : (size first_held.done ≡ 4) × (first_held.next ≡ 11)
unfolding everything P₀ q₀ c₀ before₀ behind₀ ks₀ program_of query_of config_of after_calls
first_told =
    let e : accepted 4 11 ≡ accepted (size first_held.done) first_held.next = first_held.told in
    let n : size first_held.done ≡ 4 = cc e in
    let r : first_held.next ≡ 11 = cc e in
    (n, r)

pub used_text : (done : List Step) × (size done ≡ 4) × (split ≡ after_calls 2048 P₀ unfolded (map one_step done)) × (outcomes 2048 P₀ q₀.variables unfolded (map one_step done) ≡ map (λ s. accepted 1 0) done)
unfolding everything P₀ q₀ c₀ before₀ behind₀ ks₀ program_of query_of config_of after_calls ran₀ split
used_text = (first_held.done, first_told.0, first_held.same_end, first_held.singles)

pub used_next : (s : Step) × (step 2048 P₀ split s ≡ refused 11)
unfolding everything P₀ q₀ c₀ before₀ behind₀ ks₀ program_of query_of config_of after_calls ran₀ split
used_next = go first_held.left first_held.next first_told.1 first_held.is_next
  where
    go : (l : List Step) (r : ℕ) → r ≡ 11 → Next 2048 P₀ split l r → (s : Step) × (step 2048 P₀ split s ≡ refused 11)
    go [] r p e = absurd (omega arith)
    go (s ∷ l) r p e = (s, e ∙ ap refused p)

-- The splitting is accepted where it stands in the chain; a refused step is no step.
pub used_chain : step 2048 P₀ unsplit (line 12 2 1) ≡ ok split
unfolding everything P₀ q₀ c₀ before₀ behind₀ ks₀ program_of query_of config_of after_calls calls_moves steps_moves ran₀ unsplit split
used_chain = (held ks₀).chain.2.2.2.2.1

pub used_refused : call_moves 2048 P₀ c₀ (one_step (line 9 1 0)) ≡ []
unfolding everything P₀ q₀ c₀ program_of query_of config_of after_calls
used_refused = ((held (one_step (line 9 1 0) ∷ [])).each_call [] (one_step (line 9 1 0)) [] refl).holds.counts

-- A single step that is accepted, one that is refused, and a text that is no steps text.
pub used_single : outcome 2048 P₀ q₀.variables c₀ (one_step (line 2 2 0)) ≡ accepted 1 0
unfolding everything P₀ q₀ c₀ program_of query_of config_of after_calls ran₀
used_single = (((held (one_step (line 2 2 0) ∷ [])).each_call [] (one_step (line 2 2 0)) [] refl).holds.told.taken (ran₀ (line 2 2 0 ∷ [])) refl).0

pub used_not_taken : outcome 2048 P₀ q₀.variables c₀ (one_step (line 9 1 0)) ≡ refusal 13
unfolding everything P₀ q₀ c₀ program_of query_of config_of after_calls
used_not_taken = ((held (one_step (line 9 1 0) ∷ [])).each_call [] (one_step (line 9 1 0)) [] refl).holds.told.not_taken 13 refl

pub used_not_read : outcome 2048 P₀ q₀.variables c₀ (steps_text (bytes "1")) ≡ refusal 18
unfolding everything P₀ q₀ c₀ program_of query_of config_of after_calls
used_not_read = ((held (steps_text (bytes "1") ∷ [])).each_call [] (steps_text (bytes "1")) [] refl).holds.told.not_read 18 refl

-- Questions at the end: the text of the second answer where it fits its slice, 17 where it does not, 16 beyond the last.
asked : (k : Call) → CallHolds 2048 P₀ q₀ (after_calls 2048 P₀ c₀ ks₀) k
asked k = ((held (ks₀ ++ (k ∷ []))).each_call ks₀ k [] refl).holds

unfoldable pub second_answer : Answer
second_answer = (0 ∷ [], capp 0 (bytes "new") [] ∷ [])

pub used_given : outcome 2048 P₀ q₀.variables (after_calls 2048 P₀ c₀ ks₀) (ask_answer 2 7) ≡ shown (bytes "K = new")
unfolding everything P₀ q₀ c₀ before₀ behind₀ ks₀ program_of query_of config_of after_calls second_answer
used_given = ((asked (ask_answer 2 7)).told.numbered 1 second_answer refl refl).given.1 (omega arith)

pub used_long : outcome 2048 P₀ q₀.variables (after_calls 2048 P₀ c₀ ks₀) (ask_answer 2 6) ≡ refusal 17
unfolding everything P₀ q₀ c₀ before₀ behind₀ ks₀ program_of query_of config_of after_calls second_answer
used_long = ((asked (ask_answer 2 6)).told.numbered 1 second_answer refl refl).long.1 (omega arith)

pub used_missing : outcome 2048 P₀ q₀.variables (after_calls 2048 P₀ c₀ ks₀) (ask_answer 3 9) ≡ refusal 16
unfolding everything P₀ q₀ c₀ before₀ behind₀ ks₀ program_of query_of config_of after_calls
used_missing = (asked (ask_answer 3 9)).told.missing.1 (inr (omega arith))

-- What fits that text satisfies the query.
pub used_fits : (ρ : Asg) → ρ 0 ≡ new → QuerySolution P₀ q₀ ρ
unfolding everything P₀ q₀ c₀ before₀ behind₀ ks₀ program_of query_of config_of after_calls new term_bytes bindings_bytes
used_fits ρ e = (asked (ask_answer 2 7)).told.satisfies (bytes "K = new") refl (more_terms (built (bytes "new") no_terms) no_terms) (record { as_many = tt; spelled = ((tt, tt), tt); printed = refl }) ρ (ρ, ap (λ t. fcons t fnil) e)

-- The state, and a call refused for its store, after which all is as before.
pub used_state : outcome 2048 P₀ q₀.variables (after_calls 2048 P₀ c₀ ks₀) ask_state ≡ stands final
unfolding everything P₀ q₀ c₀ before₀ behind₀ ks₀ program_of query_of config_of after_calls
used_state = (asked ask_state).told

pub used_unfit : (outcome 2048 P₀ q₀.variables (after_calls 2048 P₀ c₀ ks₀) (unfit_call store_bad) ≡ refusal 9) × (after_calls 2048 P₀ c₀ (ks₀ ++ (unfit_call store_bad ∷ [])) ≡ after_calls 2048 P₀ c₀ ks₀)
unfolding after_calls
used_unfit =
    let w = (held (ks₀ ++ (unfit_call store_bad ∷ []))).each_call ks₀ (unfit_call store_bad) [] refl in
    (w.holds.told, w.goes_on ∙ sym w.holds.chain)

-- The first answer at the end of one run and the second at the end of another have different texts, and so not the same solutions.
unfoldable pub ls₀ : List Call
ls₀ = steps_text (bytes "2 2 0\n5 2 0\n1 8 0\n1 5 0\n12 2 1\n14 1 0\n6 2 0\n6 4 0\n1 4 0\n1 2 0\n") ∷ []

unfoldable pub first_answer : Answer
first_answer = (0 ∷ [], capp 0 (bytes "kept") [] ∷ [])

pub used_apart : ((ρ : Asg) → Allows 1 first_answer ρ ↔ Allows 1 second_answer ρ) → ⊥
unfolding everything P₀ q₀ c₀ before₀ behind₀ ks₀ ls₀ program_of query_of config_of after_calls first_answer second_answer
used_apart h =
    let e = ((held ks₀).texts_apart ls₀ first_answer second_answer (inl refl) (inr (inl refl))).1 h in
    let z : ◌≡◌ {A = ℕ} 107 110 = ap (λ (l : List ℕ). nth_byte l 4) e in
    omega (arith, z)
  where
    nth_byte : List ℕ → ℕ → ℕ
    nth_byte [] n = 0
    nth_byte (x ∷ l) zero = x
    nth_byte (x ∷ l) (suc n) = nth_byte l n

-- A solution of the query fits a text that an answer call hands out.
pub used_handed : (ρ : Asg) → ρ 0 ≡ kept → (n : ℕ) × (t : List ℕ) × (outcome 2048 P₀ q₀.variables (after_calls 2048 P₀ c₀ ks₀) (ask_answer n (size t)) ≡ shown t)
unfolding everything P₀ q₀ c₀ before₀ behind₀ ks₀ program_of query_of config_of after_calls calls_moves steps_moves
used_handed ρ e =
    let w = (held ks₀).texts_exact (tt, (tt, (tt, (tt, (tt, (tt, (tt, (tt, (tt, (tt, tt)))))))))) tt ρ ((used_answers ρ).1 (inl e)) in
    (w.number, w.text, w.handed (size w.text) (omega arith))
