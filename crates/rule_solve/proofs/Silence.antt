-- The environment of a goal told, then the stores inside it, then the quiet test since the mark between them. Assumes nothing.
use mathlib.Core.Path.{◌≡◌, sym, subst}
use mathlib.Core.List.{List, [], ◌∷◌, ◌++◌, append-nil}
use Prim.Native.Nat.{ℕ}
use Rattle.constraint.specs.Tree.{Label}
use Rattle.constraint.specs.Constraint.{Store, Satisfiable, Quiet, Fresh}
use Rattle.mem_words.specs.declared.Word.{Word}
use Rattle.solve_fields.specs.Read.{Distinct}
use Rattle.solve_tells.specs.Draws.{Drawn}
use Rattle.solve_quiet.specs.Solver.{Marking, CanCalm, Calmed, Kept}
use Rattle.solve_quiet.specs.declared.Calm.{Calm}
use Rattle.solve_quiet.specs.declared.Calm.TheVariants.{Silent, Loudly, NoSpace}
use Rattle.work_tables.specs.Tables.{cells_of, vars_of, olds_of, pos_of, log_of, marks_of, stack_of, dones_of, locals_of, Laid, Logged, Tried}
use Rattle.work_marks.specs.Marks.{Mark, trail_at, apps_at, used_at, all_told, Returns}
use Rattle.work_marks.proofs.Walking.{walk_kept, returns_below}
use Rattle.work_marks.proofs.Verdicts.{walk_can_calm, walk_silent, walk_loud, none_loud}
use Rattle.work_marks.proofs.Rooms.{quiet_never}
use Rattle.work_enter.specs.Enters.{At}
use Rattle.rule_ranges.specs.Ranges.{Range, told_all}
use Rattle.rule_ranges.proofs.Drawing.{drawn_left, drawn_right}
use Rattle.rule_tells.specs.Telling.{CanTellAll, Onward, AllOf, NoneOf}
use Rattle.rule_tells.proofs.Adding.{told_none, can_middle}
use Rattle.rule_solve.proofs.Starts.{env_told, env_satisfied}
use Rattle.rule_solve.proofs.Idling.{at_returns}

module _ (W : List Word) (B : List ℕ) (es qs : List Range) (c : CanTellAll W B (es ++ qs) 0 0 0) (start : At B 0 0 0 []) where
  pub env_can : CanTellAll W B es 0 0 0
  env_can = can_middle W B B [] es qs 0 0 0 0 0 0 c (told_none W B 0 0 0)

  -- the environment was told
  module _ (Y : List ℕ) (u n a : ℕ) (p : AllOf W B es 0 0 0 Y u n a) where
    pub inner_can : CanTellAll W Y qs u n a
    inner_can = can_middle W B Y es qs [] 0 0 0 u n a (subst (λ (ps : List Range). CanTellAll W B (es ++ ps) 0 0 0) (sym (append-nil qs)) c) p

    outer : Onward W es Y u n a []
    outer = p.on [] start

    before : List Mark
    before = outer.news ++ []

    outer_at : At Y u n a before
    unfolding before
    outer_at = outer.at

    outer_told : (lab : ℕ → Label) → all_told lab before ≡ told_all lab W es
    unfolding before
    outer_told lab = env_told lab W es outer.news (outer.told lab)

    pub outer_satisfied : (lab : ℕ → Label) → Satisfiable (told_all lab W es)
    outer_satisfied lab = env_satisfied lab W es Y u n a outer

    -- what has no solution with it is not quiet
    pub inner_none : (vs : List ℕ) (Z : List ℕ) (k : ℕ) → NoneOf W Y qs u n a Z k → (lab : ℕ → Label) → Distinct lab → Fresh vs (told_all lab W es) → Quiet vs (told_all lab W es) (told_all lab W qs) → ⊥
    inner_none vs Z k q lab d fr = none_loud vs (told_all lab W es) (told_all lab W qs) fr (outer_satisfied lab) (λ s. q.none before outer_at lab d (subst (λ (σ : Store). Satisfiable (σ ++ told_all lab W qs)) (sym (outer_told lab)) s))

    -- it and the environment can be taken back
    pub none_returns : (Z : List ℕ) (k : ℕ) → NoneOf W Y qs u n a Z k → Returns Z k []
    none_returns Z k q = returns_below outer.news [] Z k (q.returns (outer.news ++ []) outer.at)

    -- the stores inside were told
    module _ (Z : List ℕ) (v m b : ℕ) (q : AllOf W Y qs u n a Z v m b) where
      inner : Onward W qs Z v m b before
      inner = q.on before outer_at

      since : List Mark
      since = inner.news

      -- what is true of the numbers of the marks is true of those that were handed back
      at_marks : (Q : ℕ → ℕ → ℕ → ℕ → Type 0) → Q (used_at (since ++ before)) (trail_at (since ++ before)) (apps_at (since ++ before)) (trail_at before) → Q v m b n
      unfolding since
      at_marks Q x = subst (λ (k : ℕ). Q k m b n) inner.at.is_used (subst (λ (k : ℕ). Q (used_at (since ++ before)) k b n) inner.at.is_trail (subst (λ (k : ℕ). Q (used_at (since ++ before)) (trail_at (since ++ before)) k n) inner.at.is_apps (subst (Q (used_at (since ++ before)) (trail_at (since ++ before)) (apps_at (since ++ before))) outer_at.is_trail x)))

      to_marks : (Q : ℕ → ℕ → ℕ → ℕ → Type 0) → Q v m b n → Q (used_at (since ++ before)) (trail_at (since ++ before)) (apps_at (since ++ before)) (trail_at before)
      to_marks Q x = at_marks (λ (i k l o : ℕ). Q i k l o → Q (used_at (since ++ before)) (trail_at (since ++ before)) (apps_at (since ++ before)) (trail_at before)) (λ y. y) x

      pub can_quiet : Laid Z × Logged v × CanCalm (log_of v Z) (locals_of Z) (pos_of Z) (cells_of Z) (vars_of Z) (olds_of Z) (marks_of Z) (stack_of Z) (dones_of Z) m b n
      unfolding since
      can_quiet = at_marks (λ (i k l o : ℕ). Laid Z × Logged i × CanCalm (log_of i Z) (locals_of Z) (pos_of Z) (cells_of Z) (vars_of Z) (olds_of Z) (marks_of Z) (stack_of Z) (dones_of Z) k l o) (walk_can_calm since before Z inner.at.walk)

      calmed_at : (r : Calm) → Calmed (log_of v Z) (locals_of Z) (pos_of Z) (cells_of Z) (vars_of Z) (olds_of Z) m b n r → Calmed (log_of (used_at (since ++ before)) Z) (locals_of Z) (pos_of Z) (cells_of Z) (vars_of Z) (olds_of Z) (trail_at (since ++ before)) (apps_at (since ++ before)) (trail_at before) r
      calmed_at r = to_marks (λ (i k l o : ℕ). Calmed (log_of i Z) (locals_of Z) (pos_of Z) (cells_of Z) (vars_of Z) (olds_of Z) k l o r)

      pub inner_silent : (vs : List ℕ) → Marking (locals_of Z) vs → Calmed (log_of v Z) (locals_of Z) (pos_of Z) (cells_of Z) (vars_of Z) (olds_of Z) m b n Silent → (lab : ℕ → Label) → Fresh vs (told_all lab W es) → Quiet vs (told_all lab W es) (told_all lab W qs)
      unfolding since
      inner_silent vs mk k lab fr =
          subst (λ (σ : Store). Quiet vs σ (told_all lab W qs)) (outer_told lab) (subst (Quiet vs (all_told lab before)) (inner.told lab)
          (walk_silent since before Z inner.at.walk lab vs (calmed_at Silent k) mk (subst (Fresh vs) (sym (outer_told lab)) fr)))

      pub inner_loud : (vs : List ℕ) → Marking (locals_of Z) vs → Calmed (log_of v Z) (locals_of Z) (pos_of Z) (cells_of Z) (vars_of Z) (olds_of Z) m b n Loudly → (lab : ℕ → Label) → Fresh vs (told_all lab W es) → Quiet vs (told_all lab W es) (told_all lab W qs) → ⊥
      unfolding since
      inner_loud vs mk k lab fr qu =
          walk_loud since before Z inner.at.walk lab vs (calmed_at Loudly k) mk (subst (Fresh vs) (sym (outer_told lab)) fr) (subst Satisfiable (sym (outer_told lab)) (outer_satisfied lab))
          (subst (λ (σ : Store). Quiet vs σ (all_told lab since)) (sym (outer_told lab)) (subst (Quiet vs (told_all lab W es)) (sym (inner.told lab)) qu))

      -- there is room for the test
      pub inner_room : Calmed (log_of v Z) (locals_of Z) (pos_of Z) (cells_of Z) (vars_of Z) (olds_of Z) m b n NoSpace → ⊥
      unfolding since
      inner_room k =
          let d = c.drawn in let l = c.logged in
          quiet_never (since ++ before) Z (trail_at before) c.others inner.at.walk (subst (λ (i : ℕ). Drawn (log_of i Z) (0 ∷ c.others)) (sym inner.at.is_used) (q.drawn (0 ∷ c.others) (p.drawn (0 ∷ c.others) l (drawn_left W es qs (0 ∷ c.others) d)) (drawn_right W es qs (0 ∷ c.others) d))) c.trail (calmed_at NoSpace k)

      -- after it all can be taken back
      pub inner_returns : (X : List ℕ) → Kept (cells_of Z) (vars_of Z) (olds_of Z) m (cells_of X) (vars_of X) (olds_of X) → Tried Z X → Returns X m []
      unfolding since
      inner_returns X k t =
          let p = inner.at in
          at_returns (since ++ before) X v m b (record {
            walk = walk_kept (since ++ before) Z X p.walk (subst (λ (i : ℕ). Kept (cells_of Z) (vars_of Z) (olds_of Z) i (cells_of X) (vars_of X) (olds_of X)) (sym p.is_trail) k) t;
            is_used = p.is_used;
            is_trail = p.is_trail;
            is_apps = p.is_apps;
          })
