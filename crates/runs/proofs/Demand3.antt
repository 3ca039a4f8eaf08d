-- Demand 3 whole, from the texts: over every list of calls from a query's start.
use mathlib.Core.Path.{◌≡◌, refl, ap, sym, ◌∙◌, subst}
use mathlib.Core.Logic.{◌↔◌, ◌⊎◌, inl, inr}
use mathlib.Core.List.{List, [], ◌∷◌, ◌++◌, append_assoc}
use mathlib.Core.Option.{some}
use Prim.Native.Nat.{ℕ, zero, suc}
use lib.Dec.{T}
use Rattle.constraint.specs.Constraint.{Asg}
use Rattle.akl.specs.Base.{size, nth, ok}
use Rattle.akl.specs.Limits.{most_parts}
use Rattle.akl.specs.Syntax.{Program}
use Rattle.akl.specs.Reader.{Query, read_program, read_query}
use Rattle.akl.specs.Configuration.{Config}
use Rattle.akl.specs.Record.{start}
use Rattle.akl.specs.Answers.{Answer, answers, answer_text}
use Rattle.akl.specs.WellFormed.{program_passes}
use Rattle.theory.specs.Formed.{Formed, QueryFits}
use Rattle.runs.specs.Calls.{Call, after_call, call_moves, after_calls, calls_moves, AnswerIn, AllowedBy, Allows}
use Rattle.runs.specs.Outcomes.{outcome, outcomes}
use Rattle.runs.specs.Shown.{Fair, shown_terms}
use Rattle.runs.specs.RunHolds.{CallAt, TextFits, RunHolds}
use Rattle.theory.proofs.Reflect.{formed_iff}
use Rattle.theory.proofs.OwnVariables.{solution_own, query_own}
use Rattle.texts.proofs.Reading.{read_program_passes, read_query_fits}
use Rattle.runs.proofs.Runs.{calls_chain, run_formed, run_steps, run_sound, run_answers_sound, run_exact, run_answers_exact}
use Rattle.runs.proofs.SameText.{fair, text_shown, text_solutions, text_reads, same_text_iff}
use Rattle.runs.proofs.CallsHold.{nth_answer, answer_handed, call_holds}

-- A list of calls, cut at one of them.
module _ (limit : ℕ) (P : Program) where
  end_cut : (js : List Call) (k : Call) (ls : List Call) (c : Config) →
      after_calls limit P c (js ++ (k ∷ ls)) ≡ after_calls limit P (after_call limit P (after_calls limit P c js) k) ls
  unfolding after_calls
  end_cut [] k ls c = refl
  end_cut (j ∷ js) k ls c = end_cut js k ls (after_call limit P c j)

  moves_cut : (js : List Call) (k : Call) (ls : List Call) (c : Config) →
      calls_moves limit P c (js ++ (k ∷ ls)) ≡ calls_moves limit P c js ++ (call_moves limit P (after_calls limit P c js) k ++ calls_moves limit P (after_call limit P (after_calls limit P c js) k) ls)
  unfolding after_calls calls_moves
  moves_cut [] k ls c = refl
  moves_cut (j ∷ js) k ls c =
      let d = after_call limit P c j in
      ap (λ l. call_moves limit P c j ++ l) (moves_cut js k ls d) ∙ sym (append_assoc (call_moves limit P c j) (calls_moves limit P d js) (call_moves limit P (after_calls limit P d js) k ++ calls_moves limit P (after_call limit P (after_calls limit P d js) k) ls))

  outcomes_cut : (query : Query) (js : List Call) (k : Call) (ls : List Call) (c : Config) →
      nth (outcomes limit P query.variables c (js ++ (k ∷ ls))) (size js) ≡ some (outcome limit P query.variables (after_calls limit P c js) k)
  unfolding after_calls outcomes nth size
  outcomes_cut query [] k ls c = refl
  outcomes_cut query (j ∷ js) k ls c = outcomes_cut query js k ls (after_call limit P c j)

-- which answer allows the trees
allowing : (q : ℕ) (l : List Answer) (ρ : Asg) → AllowedBy q l ρ → (i : ℕ) × (a : Answer) × (nth l i ≡ some a) × Allows q a ρ
unfolding nth
allowing q [] ρ i = elim i [ ]
allowing q (a ∷ l) ρ (inl h) = (0, a, refl, h)
allowing q (a ∷ l) ρ (inr h) = let w = allowing q l ρ h in (suc w.0, w.1, w.2, w.3)

-- For any limit on the parts.
pub run_holds : (limit : ℕ) (rules text : List ℕ) (P : Program) (query : Query) (c : Config) → read_program rules ≡ ok P →
    read_query P text ≡ ok query → start limit query ≡ ok c → (ks : List Call) → RunHolds limit P query c ks
run_holds limit rules text P query c rp rq rs ks = record {
  formed = (formed_iff limit P query.variables (end ks)).1 (f ks);
  chain = calls_chain limit P ks c;
  each_step = run_steps limit P good query fits c rs ks;
  each_call = λ js k ls e. subst (λ z. CallAt limit P query c z js k ls) (sym e) (record {
    holds = call_holds P query (end js) (fair_of js) (run_answers_sound limit P good query fits c rs js) limit k;
    tells = outcomes_cut limit P query js k ls c;
    goes_on = end_cut limit P js k ls c;
    steps_on = moves_cut limit P js k ls c;
  });
  sound = run_sound limit P good query fits c rs ks;
  own_variables = λ ρ ρ' a. (solution_own limit P query.variables (end ks) (f ks) ρ ρ' a, query_own P query fits ρ ρ' a);
  answers_sound = run_answers_sound limit P good query fits c rs ks;
  exact = run_exact limit P good query fits c rs ks;
  answers_exact = run_answers_exact limit P good query fits c rs ks;
  texts_exact = λ m e ρ h. text_fits ks ρ ((run_answers_exact limit P good query fits c rs ks m e ρ).1 h);
  texts_right = λ a i. (text_shown query.variables a (fair_of ks a i), text_solutions query.variables a (fair_of ks a i));
  texts_apart = λ ls a b i j. same_text_iff query.variables a b (fair_of ks a i) (fair_of ls b j);
}
  where
    good : T (program_passes P)
    good = read_program_passes rules P rp

    fits : QueryFits P query
    fits = read_query_fits P text query rq

    end : List Call → Config
    end ms = after_calls limit P c ms

    f : (ms : List Call) → Formed limit P query.variables (after_calls limit P c ms)
    f ms = run_formed limit P good query fits c rs ms

    fair_of : (ms : List Call) (a : Answer) → AnswerIn a (answers (after_calls limit P c ms).root) → Fair a
    fair_of ms a i = fair P (after_calls limit P c ms).next (after_calls limit P c ms).root a (f ms).scopes (f ms).statements i

    text_fits : (ms : List Call) (ρ : Asg) → AllowedBy (size query.variables) (answers (after_calls limit P c ms).root) ρ → TextFits limit P query c ms ρ
    text_fits ms ρ h =
        let w = allowing (size query.variables) (answers (after_calls limit P c ms).root) ρ h in
        let g = fair_of ms w.1 (nth_answer (answers (after_calls limit P c ms).root) w.0 w.1 w.2) in
        record {
          number = suc w.0;
          text = answer_text query.variables w.1;
          shows = shown_terms (size query.variables) w.1;
          handed = λ m l. answer_handed query.variables (after_calls limit P c ms).root w.0 m w.1 w.2 l;
          reads = text_reads query.variables w.1 g;
          fits = (text_solutions query.variables w.1 g ρ).1 w.3;
        }

-- Demand 3, at document 01's limit.
pub demand_3 : (rules text : List ℕ) (P : Program) (query : Query) (c : Config) → read_program rules ≡ ok P → read_query P text ≡ ok query →
    start most_parts query ≡ ok c → (ks : List Call) → RunHolds most_parts P query c ks
demand_3 rules text P query c rp rq rs ks = run_holds most_parts rules text P query c rp rq rs ks
