-- Lists of calls, on abstract configurations: the accepted steps are a chain from the start, and what a chain keeps.
use mathlib.Core.Path.{◌≡◌, refl, ap, sym, ◌∙◌, subst}
use mathlib.Core.Logic.{◌↔◌, ◌⊎◌, inl, inr}
use mathlib.Core.List.{List, [], ◌∷◌, ◌++◌}
use mathlib.Core.Bool.{not}
use mathlib.Core.Option.{Option, some, none}
use Prim.Native.Nat.{ℕ, zero, suc, ◌+◌}
use native.Mathlib.Omega.{arith}
use lib.Dec.{T, eqb}
use Rattle.constraint.proofs.Lists.{or_T, eqb_T}
use Rattle.constraint.specs.Constraint.{Asg}
use Rattle.akl.specs.Base.{Name, size, nth, Result, refused, ok}
use Rattle.akl.specs.Syntax.{Program}
use Rattle.akl.specs.Reader.{Query}
use Rattle.akl.specs.StepsText.{Step, read_steps}
use Rattle.akl.specs.Configuration.{Config}
use Rattle.akl.specs.Step.{step, Run, steps}
use Rattle.akl.specs.Record.{start}
use Rattle.akl.specs.Answers.{Answer, answers, state}
use Rattle.theory.specs.Meaning.{Atoms, Solution, QuerySolution}
use Rattle.akl.specs.WellFormed.{program_passes}
use Rattle.theory.specs.Formed.{Formed, QueryFits}
use Rattle.runs.specs.Calls.{Call, one_step, steps_text, ask_answer, ask_state, unfit_call, Move, move, stepped, texted, after_call, step_moves, steps_moves, text_moves, call_moves, after_calls, calls_moves, Chain, prunes, Keeps-all, NoPruning, AnswerIn, AllowedBy, Ended, Allows}
use Rattle.runs.specs.CallHolds.{StepHolds}
use Rattle.theory.proofs.Reflect.{formed_iff}
use Rattle.accept.proofs.Accepted.{accepts_iff}
use Rattle.accept.proofs.StepTheorem.{step_formed, step_gains_none, step_loses_none}
use Rattle.runs.proofs.Start.{start_formed, start_solutions}
use Rattle.runs.proofs.AnswerSolutions.{allowed_in, answers_sound, ended_complete}

module _ (limit : ℕ) (P : Program) where
  -- Chains, one behind the other.
  pub chain_append : (ms ns : List Move) (c d e : Config) → Chain limit P c ms d → Chain limit P d ns e → Chain limit P c (ms ++ ns) e
  chain_append [] ns c d e p q = subst (λ x. Chain limit P x ns e) (sym p) q
  chain_append (m ∷ ms) ns c d e p q = (p.0, p.1, chain_append ms ns m.after d e p.2 q)

  one_chain : (c : Config) (s : Step) (r : Result Config) → step limit P c s ≡ r → Chain limit P c (step_moves c s r) (stepped c r)
  one_chain c s (refused n) e = refl
  one_chain c s (ok d) e = (refl, e, refl)

  steps_chain : (ss : List Step) (c : Config) (n : ℕ) → Chain limit P c (steps_moves limit P c ss) (steps limit P c n ss).config
  unfolding steps steps_moves
  steps_chain [] c n = refl
  steps_chain (s ∷ ss) c n = go (step limit P c s) refl (λ d. steps_chain ss d (suc n))
    where
      go : (r : Result Config) → step limit P c s ≡ r →
          ((d : Config) → Chain limit P d (steps_moves limit P d ss) (steps limit P d (suc n) ss).config) →
          Chain limit P c (elim r as (λ x. List Move) [ refused k ↦ [] | ok d ↦ move c s d ∷ steps_moves limit P d ss ]) (elim r as (λ x. Run) [ refused k ↦ record { accepted = n; refusal = k; config = c } | ok d ↦ steps limit P d (suc n) ss ]).config
      go (refused k) e ih = refl
      go (ok d) e ih = (refl, e, ih d)

  pub call_chain : (c : Config) (k : Call) → Chain limit P c (call_moves limit P c k) (after_call limit P c k)
  call_chain c (one_step s) = one_chain c s (step limit P c s) refl
  call_chain c (steps_text t) = go (read_steps t)
    where
      go : (r : Result (List Step)) → Chain limit P c (text_moves limit P c r) (texted limit P c r)
      go (refused n) = refl
      go (ok ss) = steps_chain ss c 0
  call_chain c (ask_answer n m) = refl
  call_chain c ask_state = refl
  call_chain c (unfit_call u) = refl

  -- The steps accepted on the way lead to the end.
  pub calls_chain : (ks : List Call) (c : Config) → Chain limit P c (calls_moves limit P c ks) (after_calls limit P c ks)
  unfolding after_calls calls_moves
  calls_chain [] c = refl
  calls_chain (k ∷ ks) c = chain_append (call_moves limit P c k) (calls_moves limit P (after_call limit P c k) ks) c (after_call limit P c k) (after_calls limit P (after_call limit P c k) ks) (call_chain c k) (calls_chain ks (after_call limit P c k))

-- "only condition and commit steps (7, 8)": these two rules, and no other
pub prunes_iff : (r : ℕ) → T (prunes r) ↔ ((r ≡ 7) ⊎ (r ≡ 8))
prunes_iff r = (
  (λ t. elim ((or_T (eqb r 7) (eqb r 8)).0 t) [ inl a ↦ inl ((eqb_T r 7).0 a) | inr b ↦ inr ((eqb_T r 8).0 b) ]),
  (λ s. (or_T (eqb r 7) (eqb r 8)).1 (elim s [ inl e ↦ inl ((eqb_T r 7).1 e) | inr e ↦ inr ((eqb_T r 8).1 e) ])),
)

-- neither 7 nor 8
not_seven : (m : Move) → Keeps-all m → ¬ (m.taken.rule ≡ 7)
not_seven m n e = subst (λ r. T (not (prunes r))) e n

not_eight : (m : Move) → Keeps-all m → ¬ (m.taken.rule ≡ 8)
not_eight m n e = subst (λ r. T (not (prunes r))) e n

module _ (limit : ℕ) (P : Program) (xs : List Name) where
  abbrev q : ℕ
  q = size xs

  after_formed : (m : Move) → Formed limit P xs m.before → step limit P m.before m.taken ≡ ok m.after → Formed limit P xs m.after
  after_formed m f e = step_formed limit P xs m.before m.taken m.after f ((accepts_iff limit P m.before m.taken m.after).0 e)

  move_holds : (m : Move) → Formed limit P xs m.before → step limit P m.before m.taken ≡ ok m.after → StepHolds limit P xs m
  move_holds m f e =
      let a = (accepts_iff limit P m.before m.taken m.after).0 e in
      record { taken_on = e; formed = (formed_iff limit P xs m.after).1 (after_formed m f e); adds_none = step_gains_none limit P xs m.before m.taken m.after f a; loses_none = λ n. step_loses_none limit P xs m.before m.taken m.after f a (not_seven m n) (not_eight m n) }

  -- Each step of a chain from a well-formed configuration.
  pub chain_holds : (ms : List Move) (c d : Config) → Formed limit P xs c → Chain limit P c ms d → (i : ℕ) (m : Move) → nth ms i ≡ some m → StepHolds limit P xs m
  unfolding nth
  chain_holds [] c d f p i m e = absurd (nope e)
    where
      nope : ◌≡◌ {A = Option Move} none (some m) → ⊥
      nope r = let z : ◌≡◌ {A = ℕ} 0 1 = cc in omega arith
  chain_holds (n ∷ ms) c d f p zero m e =
      let g : n ≡ m = cc e in
      subst (StepHolds limit P xs) g (move_holds n (subst (Formed limit P xs) (sym p.0) f) p.1)
  chain_holds (n ∷ ms) c d f p (suc i) m e = chain_holds ms n.after d (after_formed n (subst (Formed limit P xs) (sym p.0) f) p.1) p.2 i m e

  -- From c to d by the steps ms: well-formedness is kept, no solution is added, and none is lost where no rule is 7 or 8.
  pub record Leads (c d : Config) (ms : List Move) : Type 0 where
    pub formed : Formed limit P xs d
    pub gains_none : (ρ : Asg) → Solution P q d ρ → Solution P q c ρ
    pub loses_none : NoPruning ms → (ρ : Asg) → Solution P q c ρ → Solution P q d ρ

  pub chain_leads : (ms : List Move) (c d : Config) → Formed limit P xs c → Chain limit P c ms d → Leads c d ms
  chain_leads [] c d f p = record { formed = subst (Formed limit P xs) p f; gains_none = λ ρ h. subst (λ x. Solution P q x ρ) (sym p) h; loses_none = λ n ρ h. subst (λ x. Solution P q x ρ) p h }
  chain_leads (m ∷ ms) c d f p =
      let g = subst (Formed limit P xs) (sym p.0) f in
      let a = move_holds m g p.1 in
      let b = chain_leads ms m.after d (after_formed m g p.1) p.2 in
      record { formed = b.formed; gains_none = λ ρ h. subst (λ x. Solution P q x ρ) p.0 (a.adds_none ρ (b.gains_none ρ h)); loses_none = λ n ρ h. b.loses_none n.1 ρ (a.loses_none n.0 ρ (subst (λ x. Solution P q x ρ) (sym p.0) h)) }

-- Over every list of calls from the start of a query.
module _ (limit : ℕ) (P : Program) (good : T (program_passes P)) (query : Query) (f : QueryFits P query) (c : Config) (e : start limit query ≡ ok c) (ks : List Call) where
  abbrev end : Config
  end = after_calls limit P c ks

  abbrev n : ℕ
  n = size query.variables

  leads : Leads limit P query.variables c end (calls_moves limit P c ks)
  leads = chain_leads limit P query.variables (calls_moves limit P c ks) c end (start_formed P good query f limit c e) (calls_chain limit P ks c)

  pub run_formed : Formed limit P query.variables end
  run_formed = leads.formed

  -- No accepted step adds a solution, only 7 and 8 lose one.
  pub run_steps : (i : ℕ) (m : Move) → nth (calls_moves limit P c ks) i ≡ some m → StepHolds limit P query.variables m
  run_steps = chain_holds limit P query.variables (calls_moves limit P c ks) c end (start_formed P good query f limit c e) (calls_chain limit P ks c)

  -- Every solution of the configuration is one of the query.
  pub run_sound : (ρ : Asg) → Solution P n end ρ → QuerySolution P query ρ
  run_sound ρ h = (start_solutions P good query f limit c e ρ).0 (leads.gains_none ρ h)

  -- Whatever an answer allows satisfies the query.
  pub run_answers_sound : (a : Answer) → AnswerIn a (answers end.root) → (ρ : Asg) → Allows n a ρ → QuerySolution P query ρ
  run_answers_sound a i ρ h = run_sound ρ (answers_sound (Atoms P) n ρ end.root (allowed_in n a (answers end.root) ρ i h))

  -- Without 7 and 8 the configuration has exactly the query's solutions.
  pub run_exact : NoPruning (calls_moves limit P c ks) → (ρ : Asg) → Solution P n end ρ ↔ QuerySolution P query ρ
  run_exact m ρ = (run_sound ρ, λ h. leads.loses_none m ρ ((start_solutions P good query f limit c e ρ).1 h))

  -- .. and if it is failed or final, its answers allow exactly these.
  pub run_answers_exact : NoPruning (calls_moves limit P c ks) → Ended (state end.root) → (ρ : Asg) → AllowedBy n (answers end.root) ρ ↔ QuerySolution P query ρ
  run_answers_exact m s ρ = (λ h. run_sound ρ (answers_sound (Atoms P) n ρ end.root h), λ h. ended_complete (Atoms P) n ρ end.root s ((run_exact m ρ).1 h))
