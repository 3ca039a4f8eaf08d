-- What `runcheck` prints for three accepted texts is what the calls of the record hand back, one after the other.
use mathlib.Core.Path.{◌≡◌, refl, ap, sym, ◌∙◌, subst}
use mathlib.Core.List.{List, [], ◌∷◌, ◌++◌, append_assoc, append-nil}
use mathlib.Core.Bool.{Bool, true, false}
use mathlib.Core.Option.{some}
use Prim.Native.Nat.{ℕ, zero, suc, ◌+◌}
use lib.Dec.{ltb}
use Rattle.akl.specs.Base.{Name, bytes, size, nth, flat, if, Result, refused, ok}
use Rattle.akl.specs.Limits.{most_parts, answer_bytes}
use Rattle.akl.specs.Syntax.{Program}
use Rattle.akl.specs.Reader.{Query, read_program, read_query}
use Rattle.akl.specs.StepsText.{Step, read_steps}
use Rattle.akl.specs.Configuration.{goal, Node, Config}
use Rattle.akl.specs.Step.{steps}
use Rattle.akl.specs.Record.{start, Checked, checked_run, two_lines, answer_line, printed, runcheck}
use Rattle.akl.specs.Answers.{Answer, answers, answer_text, answer, state, state_text}
use Rattle.runs.specs.Calls.{Call, steps_text, ask_answer, ask_state, texted, after_calls}
use Rattle.runs.specs.Outcomes.{Outcome, text_outcome, answer_outcome, outcomes}
use Rattle.runs.specs.RecordCalls.{asks, record_calls, outcome_lines}
use Rattle.runs.proofs.CallsHold.{answer_found}

-- one answer
answer_printed : (xs : List Name) (a : Answer) →
    outcome_lines (answer_outcome (if (ltb answer_bytes (size (answer_text xs a))) (refused 17) (ok (answer_text xs a)))) ≡ answer_line xs a
unfolding answer_line
answer_printed xs a = go (ltb answer_bytes (size (answer_text xs a)))
  where
    go : (b : Bool) →
        outcome_lines (answer_outcome (if b (refused 17) (ok (answer_text xs a)))) ≡
        (bytes "answer " ++ elim (if b (refused 17) (ok (answer_text xs a))) as (λ z. List ℕ) [ refused n ↦ bytes "long" | ok t ↦ t ]) ++ bytes "\n"
    go true = refl
    go false = refl

nth_mid : (l r : List Answer) (a : Answer) → nth (l ++ (a ∷ r)) (size l) ≡ some a
unfolding nth size
nth_mid [] r a = refl
nth_mid (b ∷ l) r a = nth_mid l r a

size_more : (l : List Answer) (a : Answer) → size (l ++ (a ∷ [])) ≡ suc (size l)
unfolding size
size_more [] a = refl
size_more (b ∷ l) a = ap suc (size_more l a)

-- the answers r, those of l having been asked for
asked_printed : (P : Program) (xs : List Name) (d : Config) (ks : List Call) (r l : List Answer) → answers d.root ≡ l ++ r →
    flat outcome_lines (outcomes most_parts P xs d (asks (suc (size l)) (size r) ++ ks)) ≡ flat (answer_line xs) r ++ flat outcome_lines (outcomes most_parts P xs d ks)
unfolding asks outcomes flat size
asked_printed P xs d ks [] l e = refl
asked_printed P xs d ks (a ∷ r) l e =
    let here = answer_found xs d.root (suc (size l)) answer_bytes (some a) (ap (λ z. nth z (size l)) e ∙ nth_mid l r a) in
    let one : outcome_lines (answer_outcome (answer xs d.root (suc (size l)) answer_bytes)) ≡ answer_line xs a = ap outcome_lines here ∙ answer_printed xs a in
    let rest : flat outcome_lines (outcomes most_parts P xs d (asks (suc (suc (size l))) (size r) ++ ks)) ≡ flat (answer_line xs) r ++ flat outcome_lines (outcomes most_parts P xs d ks) = subst (λ n. flat outcome_lines (outcomes most_parts P xs d (asks (suc n) (size r) ++ ks)) ≡ flat (answer_line xs) r ++ flat outcome_lines (outcomes most_parts P xs d ks)) (size_more l a) (asked_printed P xs d ks r (l ++ (a ∷ [])) (e ∙ sym (append_assoc l (a ∷ []) r))) in
    (λ i. one i ++ rest i) ∙ sym (append_assoc (answer_line xs a) (flat (answer_line xs) r) (flat outcome_lines (outcomes most_parts P xs d ks)))

-- three accepted texts
checked : (rules text t : List ℕ) (P : Program) (query : Query) (ss : List Step) (c : Config) → read_program rules ≡ ok P →
    read_query P text ≡ ok query → read_steps t ≡ ok ss → start most_parts query ≡ ok c →
    checked_run most_parts rules text t ≡ ok (record { variables = query.variables; run = steps most_parts P c 0 ss })
unfolding checked_run
checked rules text t P query ss c rp rq rt rs = ap by_program rp ∙ ap by_query rq ∙ ap by_steps rt ∙ ap by_start rs
  where
    by_start : Result Config → Result Checked
    by_start r = elim r as (λ x. Result Checked) [ refused n ↦ refused n | ok d ↦ ok (record { variables = query.variables; run = steps most_parts P d 0 ss }) ]

    by_steps : Result (List Step) → Result Checked
    by_steps r = elim r as (λ x. Result Checked) [ refused n ↦ refused n | ok us ↦ elim (start most_parts query) as (λ x. Result Checked) [ refused n ↦ refused n | ok d ↦ ok (record { variables = query.variables; run = steps most_parts P d 0 us }) ] ]

    by_query : Result Query → Result Checked
    by_query r = elim r as (λ x. Result Checked) [ refused n ↦ refused n | ok q ↦ elim (read_steps t) as (λ x. Result Checked) [ refused n ↦ refused n | ok us ↦ elim (start most_parts q) as (λ x. Result Checked) [ refused n ↦ refused n | ok d ↦ ok (record { variables = q.variables; run = steps most_parts P d 0 us }) ] ] ]

    by_program : Result Program → Result Checked
    by_program r = elim r as (λ x. Result Checked) [ refused n ↦ refused n | ok O ↦ elim (read_query O text) as (λ x. Result Checked) [ refused n ↦ refused n | ok q ↦ elim (read_steps t) as (λ x. Result Checked) [ refused n ↦ refused n | ok us ↦ elim (start most_parts q) as (λ x. Result Checked) [ refused n ↦ refused n | ok d ↦ ok (record { variables = q.variables; run = steps most_parts O d 0 us }) ] ] ] ]

pub record_printed : (rules text t : List ℕ) (P : Program) (query : Query) (ss : List Step) (c : Config) → read_program rules ≡ ok P →
    read_query P text ≡ ok query → read_steps t ≡ ok ss → start most_parts query ≡ ok c →
    runcheck rules text t ≡ flat outcome_lines (outcomes most_parts P query.variables c (record_calls t (size (answers (after_calls most_parts P c (steps_text t ∷ [])).root))))
unfolding runcheck printed outcomes flat after_calls size
record_printed rules text t P query ss c rp rq rt rs =
    let xs = query.variables in
    let d = (steps most_parts P c 0 ss).config in
    let a = two_lines (steps most_parts P c 0 ss).accepted (steps most_parts P c 0 ss).refusal in
    let b = flat (answer_line xs) (answers d.root) in
    let z = (bytes "state " ++ state_text (state d.root)) ++ bytes "\n" in
    let mid = ap (λ l. a ++ l) (ap (λ l. b ++ l) (sym (append-nil z)) ∙ sym (asked_printed P xs d (ask_state ∷ []) (answers d.root) [] refl)) in
    ap printed (checked rules text t P query ss c rp rq rt rs) ∙ append_assoc a b z ∙ mid ∙ sym (ap (λ r. outcome_lines (text_outcome most_parts P c r) ++ flat outcome_lines (outcomes most_parts P xs (texted most_parts P c r) (asks 1 (size (answers (texted most_parts P c r).root)) ++ (ask_state ∷ [])))) rt)
