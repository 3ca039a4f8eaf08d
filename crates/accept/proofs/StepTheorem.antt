-- An accepted step keeps the store well formed, adds no solution, and loses none unless its rule is 7 or 8.
use mathlib.Core.Path.{◌≡◌, refl, ap, sym, ◌∙◌, subst}
use mathlib.Core.Logic.{◌↔◌, ◌⊎◌, inl, inr}
use mathlib.Core.List.{List, [], ◌∷◌, ◌++◌}
use mathlib.Core.Option.{some}
use Prim.Native.Nat.{ℕ, zero, suc, ◌≤◌}
use native.Mathlib.Omega.{arith}
use lib.Dec.{T}
use Rattle.constraint.specs.Constraint.{Asg, In, vars_all}
use Rattle.akl.specs.Base.{Name, size, Result, ok}
use Rattle.akl.specs.Syntax.{Op, Stmt, Program}
use Rattle.akl.specs.StepsText.{Step}
use Rattle.akl.specs.Configuration.{Kind, goal, member, guarded, Node, or, and, stmt, choice_box, guard, Nodes, nil, cons, ◌+n◌, Ctx, top, in_or, in_and, in_choice, in_guard, plug, env, Config}
use Rattle.akl.specs.Places.{Place, at}
use Rattle.akl.specs.Stability.{locals}
use Rattle.akl.specs.Step.{step}
use Rattle.theory.specs.Meaning.{Atoms, nothing, HoldsWith, Solution}
use Rattle.akl.specs.WellFormed.{program_passes, is_or}
use Rattle.theory.specs.Scope.{Ok, Below, scope}
use Rattle.theory.specs.Entails.{Entails}
use Rattle.theory.specs.Transition.{Transition}
use Rattle.theory.specs.Transition as Tr
use Rattle.theory.specs.Formed.{High, QueryLocal, Formed}
use Rattle.accept.specs.Accepts.{Accepts}
use Rattle.theory.proofs.Agreement.{nothing_fits}
use Rattle.theory.proofs.Context.{in_context}
use Rattle.theory.proofs.Keeping.{Keeps, keep_context}
use Rattle.theory.proofs.InContext.{Pass, pass_context, query_context}
use Rattle.theory.proofs.StepKeeps.{transition_keeps, transition_more, transition_passes, transition_query}
use Rattle.theory.proofs.StepMeaning.{gains_none, loses_none}
use Rattle.accept.proofs.EffectSound.{whole}
use Rattle.accept.proofs.PlaceLaws.{place_whole}
use Rattle.accept.proofs.Stable.{transition_whole}
use Rattle.accept.proofs.Accepted.{accepts_iff}

-- the top stays an or-box
abbrev IsOr : {k : Kind} → Node k → Type 0
IsOr (or ns) = Unit {0}
IsOr (and vs σ ms) = ⊥
IsOr (stmt s) = ⊥
IsOr (choice_box op gs) = ⊥
IsOr (guard g b) = ⊥

or_context : {k : Kind} (χ : Ctx k) (n n' : Node k) → (IsOr n → IsOr n') → IsOr (plug χ n) → IsOr (plug χ n')
unfolding plug
or_context top n n' f h = f h
or_context (in_or χ l r) n n' f h = or_context χ (or (l +n cons n r)) (or (l +n cons n' r)) (λ u. tt) h
or_context (in_and χ vs σ l r) n n' f h = or_context χ (and vs σ (l +n cons n r)) (and vs σ (l +n cons n' r)) (λ u. u) h
or_context (in_choice χ op l r) n n' f h = or_context χ (choice_box op (l +n cons n r)) (choice_box op (l +n cons n' r)) (λ u. u) h
or_context (in_guard χ b) n n' f h = or_context χ (guard n b) (guard n' b) (λ u. u) h

transition_or : {P : Program} {N r : ℕ} {pl : Place} {k : Kind} {χ : Ctx k} {n n' : Node k} {N' : ℕ} → Transition P N r pl k χ n n' N' → IsOr n → IsOr n'
transition_or (Tr.constraint_atom χ vs σ l r c) u = absurd u
transition_or (Tr.program_atom χ p xs b e) u = absurd u
transition_or (Tr.composition χ vs σ l r a b) u = absurd u
transition_or (Tr.hiding χ vs σ l r n a) u = absurd u
transition_or (Tr.choosing χ op cs) u = absurd u
transition_or (Tr.promotion χ ws θ l r op vs σ b q) u = absurd u
transition_or (Tr.condition χ l r vs σ b q s) u = absurd u
transition_or (Tr.committing χ l r vs σ b q s) u = absurd u
transition_or (Tr.environment_failure χ vs σ ms q) u = absurd u
transition_or (Tr.goal_failure χ vs σ l r op) u = absurd u
transition_or (Tr.guard_failure χ op l r b) u = absurd u
transition_or (Tr.splitting χ vs σ l r us τ b t ts) u = absurd u
transition_or (Tr.distribution χ op l r g gs b) u = absurd u
transition_or (Tr.flattening χ l r ns) u = tt

is_or_T : (n : Node goal) → T (is_or n) ↔ IsOr n
is_or_T (or ns) = (λ h. h, λ h. h)
is_or_T (and vs σ ms) = (λ h. h, λ h. h)

no_below : (N : ℕ) → Below [] N
no_below N x i = absurd i

module _ (limit : ℕ) (P : Program) (xs : List Name) (c : Config) (s : Step) (d : Config) (f : Formed limit P xs c) (h : Accepts limit P c s d) where
  abbrev q : ℕ
  q = size xs

  same : plug h.context h.before ≡ c.root
  same = transition_whole h.transition ∙ place_whole c s.place h.at_place h.is_place

  passing : Pass P h.before × ((Pass P h.before → Pass P h.after) → Pass P (plug h.context h.after))
  passing = pass_context P h.context h.before h.after (subst (Pass P) (sym same) f.statements)

  -- Numbers are never given back: the next fresh number does not fall.
  pub step_numbers : c.next ≤ d.next
  step_numbers = transition_more P f.program c.next h.transition

  keeps : Keeps c.next d.next (scope h.context) h.before h.after
  keeps = transition_keeps P f.program c.next h.transition passing.0

  before_ok : Ok (plug h.context h.before) c.next []
  before_ok = subst (λ g. Ok g c.next []) (sym same) f.scopes

  after_ok : Ok (plug h.context h.after) d.next []
  after_ok = (keep_context c.next d.next step_numbers h.context h.before h.after keeps).ok before_ok (no_below c.next)

  higher : High q (locals h.before) → High q (locals h.after)
  higher w x i = elim (keeps.old_or_fresh x i) [ inl j ↦ w x j | inr l ↦ omega (arith, f.above) ]

  -- Well-formedness is kept.
  pub step_formed : Formed limit P xs d
  step_formed = record {
    program = f.program;
    names = f.names;
    top_or = (is_or_T d.root).1 (subst IsOr (sym h.result) (or_context h.context h.before h.after (transition_or h.transition) (subst IsOr (sym same) ((is_or_T c.root).0 f.top_or))));
    statements = subst (Pass P) (sym h.result) (passing.1 (transition_passes P f.program c.next h.transition));
    scopes = subst (λ g. Ok g d.next []) (sym h.result) after_ok;
    query = subst (λ g. QueryLocal g q) (sym h.result) (query_context h.context h.before h.after q (transition_query P c.next q h.transition) higher (subst (λ g. QueryLocal g q) (sym same) f.query));
    above = omega (arith, f.above, step_numbers);
    last = h.numbers_left;
    fit = h.fit;
  }

  -- the two configurations, where nothing is around them
  entailed : (n n' : Node goal) (N N' : ℕ) → Entails (Atoms P) q N N' [] [] n n' → Ok n N [] → Ok n' N' [] → (ρ : Asg) → HoldsWith n (Atoms P) q ρ nothing → HoldsWith n' (Atoms P) q ρ nothing
  unfolding vars_all
  entailed n n' N N' e w w' ρ x = e w w' (no_below N) (no_below N') (λ y i. i) ρ tt nothing (nothing_fits n []) (nothing_fits n' []) x

  -- No accepted step adds a solution.
  pub step_gains_none : (ρ : Asg) → Solution P q d ρ → Solution P q c ρ
  step_gains_none ρ x = subst (λ g. HoldsWith g (Atoms P) q ρ nothing) same (entailed (plug h.context h.after) (plug h.context h.before) d.next c.next (in_context (Atoms P) q d.next c.next h.context h.after h.before (gains_none P f.program q c.next f.above h.transition passing.0)) after_ok before_ok ρ (subst (λ g. HoldsWith g (Atoms P) q ρ nothing) h.result x))

  -- None but 7 and 8 loses one.
  pub step_loses_none : ¬ (s.rule ≡ 7) → ¬ (s.rule ≡ 8) → (ρ : Asg) → Solution P q c ρ → Solution P q d ρ
  step_loses_none n7 n8 ρ x = subst (λ g. HoldsWith g (Atoms P) q ρ nothing) (sym h.result) (entailed (plug h.context h.before) (plug h.context h.after) c.next d.next (in_context (Atoms P) q c.next d.next h.context h.before h.after (loses_none P f.program q c.next f.above h.transition n7 n8 passing.0)) before_ok after_ok ρ (subst (λ g. HoldsWith g (Atoms P) q ρ nothing) (sym same) x))
