-- Satisfiable and Quiet of a walk: what the solver's answers say of all that was told, and between any mark and the latest. Assumes nothing.
use mathlib.Core.Path.{◌≡◌, refl, ap, sym, ◌∙◌, subst}
use mathlib.Core.Logic.{◌↔◌}
use mathlib.Core.Bool.{Bool, true, false}
use mathlib.Core.List.{List, [], ◌∷◌, ◌++◌, append_assoc}
use Prim.Native.Nat.{ℕ, ◌+◌, ◌≤◌, ◌<◌}
use native.Mathlib.Omega.{arith}
use lib.ListN.{length}
use Rattle.constraint.specs.Tree.{Label}
use Rattle.constraint.specs.Constraint.{Asg, Store, Sats, Satisfiable, Quiet, Fresh}
use Rattle.constraint.proofs.Entail.{sats_append}
use Rattle.constraint.proofs.Trees.{sats_off}
use Rattle.mem_numbers.specs.Decides.{Decides}
use Rattle.mem_words.specs.declared.Word.{Word}
use Rattle.solve_classes.specs.Means.{Apps}
use Rattle.solve_fields.specs.Read.{Distinct, Vars}
use Rattle.solve_tells.specs.Tells.{State, Means, Left}
use Rattle.solve_tells.specs.declared.Told.TheVariants.{Failed}
use Rattle.solve_explores.specs.Search.{Fitting, CanTest, Tested, Acyclic}
use Rattle.solve_explores.specs.Since.{CanSince, TestedSince}
use Rattle.solve_quiet.specs.Owners.{CanLookAll}
use Rattle.solve_quiet.specs.Solver.{Solved, Marking, Before, Since, Calmed, CanCalm}
use Rattle.solve_quiet.specs.declared.Calm.TheVariants.{Silent, Loudly}
use Rattle.solve_quiet.proofs.Verdict.{solved}
use Rattle.work_tables.specs.Tables.{cells_of, vars_of, olds_of, pos_of, log_of, marks_of, stack_of, dones_of, locals_of, Laid, Logged, length_mark, length_stack, length_done, length_cell, length_pos, length_locals}
use Rattle.work_grows.proofs.Growing.{state_more, means_more}
use Rattle.work_walk.specs.Pushes.{CanPush, Pushed, pushed_range}
use Rattle.work_marks.specs.Marks.{Mark, trail_at, apps_at, used_at, all_told, range_told, Here, Under, Stand, Walk}
use Rattle.work_marks.proofs.Ranks.{satisfiable_acyclic}
use Rattle.work_marks.proofs.Standing.{all_since, stand_here, under_here, under_then}
use Rattle.work_marks.proofs.Walking.{walk_returns, returns_can_back, more_means}

here : (ms : List Mark) (L : List ℕ) → Walk L ms → Here ms (log_of (used_at ms) L) (pos_of L) (cells_of L) (vars_of L) (olds_of L)
here ms L w = stand_here ms (log_of (used_at ms) L) (pos_of L) (cells_of L) (vars_of L) (olds_of L) w.stand

walk_fitting : (ms : List Mark) (L : List ℕ) → Walk L ms → Fitting (log_of (used_at ms) L) (pos_of L) (cells_of L) (marks_of L) (stack_of L) (dones_of L) (apps_at ms)
walk_fitting ms L w =
    let s = (here ms L w).state in
    let h = w.laid in
    record { look = record { up = s.sound.up; vars = s.sound.vars }; apps = s.apps; few = omega (arith, s.fit_p, length_pos h); fit_p = s.fit_p; fit_m = omega (arith, s.fit_p, length_pos h, length_mark h); fit_k = omega (arith, s.fit_p, length_pos h, length_stack h); fit_d = omega (arith, s.fit_p, length_pos h, length_done h); long = s.sound.long }

-- `satisfiable` may be called, and says whether all that was told has a solution
pub walk_can_test : (ms : List Mark) (L : List ℕ) → Walk L ms → Laid L × Logged (used_at ms) × CanTest (log_of (used_at ms) L) (pos_of L) (cells_of L) (marks_of L) (stack_of L) (dones_of L) (apps_at ms)
walk_can_test ms L w = (w.laid, record { most = w.room }, record { fits = walk_fitting ms L w })

pub walk_satisfiable : (ms : List Mark) (L : List ℕ) (r : Bool) → Walk L ms → Solved (log_of (used_at ms) L) (pos_of L) (cells_of L) r → (lab : ℕ → Label) → Decides (Satisfiable (all_told lab ms)) r
walk_satisfiable ms L r w s lab = s.right lab (all_told lab ms) ((here ms L w).means lab)

-- what has a solution has one at every mark below
pub lower_satisfiable : (lab : ℕ → Label) (news ms : List Mark) → Satisfiable (all_told lab (news ++ ms)) → Satisfiable (all_told lab ms)
lower_satisfiable lab news ms s = (s.0, ((sats_append s.0 (all_told lab ms) (all_told lab news)).0 (subst (Sats s.0) (all_since lab news ms) s.1)).0)

-- `quiet` may be called for every mark
pub walk_can_calm : (news ms : List Mark) (L : List ℕ) → Walk L (news ++ ms) → Laid L × Logged (used_at (news ++ ms)) × CanCalm (log_of (used_at (news ++ ms)) L) (locals_of L) (pos_of L) (cells_of L) (vars_of L) (olds_of L) (marks_of L) (stack_of L) (dones_of L) (trail_at (news ++ ms)) (apps_at (news ++ ms)) (trail_at ms)
walk_can_calm news ms L w =
    let s = (here (news ++ ms) L w).state in
    let b = returns_can_back ms L (trail_at (news ++ ms)) (walk_returns news ms L w) in (
      w.laid,
      record { most = w.room },
      record {
        state = s;
        fits = walk_fitting (news ++ ms) L w;
        looks = record { up = s.sound.up; le = b.le; fit_x = b.fit_x; fit_c = b.fit_c; olds = b.vars; locals = omega (arith, length_cell w.laid, length_locals w.laid); plain = s.sound.plain };
      },
    )

-- what stands at a mark
base : (news ms : List Mark) (L : List ℕ) → Walk L (news ++ ms) → Under (Stand ms) ms (log_of (used_at (news ++ ms)) L) (pos_of L) (cells_of L) (vars_of L) (olds_of L) (trail_at (news ++ ms)) (apps_at (news ++ ms))
base news ms L w = under_then news ms (log_of (used_at (news ++ ms)) L) (pos_of L) (cells_of L) (vars_of L) (olds_of L) (trail_at (news ++ ms)) (apps_at (news ++ ms)) (under_here (news ++ ms) (log_of (used_at (news ++ ms)) L) (pos_of L) (cells_of L) (vars_of L) (olds_of L) w.stand)

module _ (news ms : List Mark) (L : List ℕ) (w : Walk L (news ++ ms)) (lab : ℕ → Label) (vs : List ℕ) where
  -- where its environment has a solution
  before : Fresh vs (all_told lab ms) → Satisfiable (all_told lab ms) → Before (log_of (used_at (news ++ ms)) L) (pos_of L) (cells_of L) (vars_of L) (olds_of L) (trail_at (news ++ ms)) (apps_at (news ++ ms)) lab vs (all_told lab ms) (base news ms L w).pos (base news ms L w).cells (base news ms L w).vars (base news ms L w).olds (trail_at ms) (apps_at ms)
  before fr sa =
      let top = here (news ++ ms) L w in
      let u = base news ms L w in
      let h = stand_here ms u.words u.pos u.cells u.vars u.olds u.stood in
      let vw : Vars (u.words ++ u.more) (length u.cells) = subst (Vars (u.words ++ u.more)) u.left.step.grown.size_t (subst (λ (v : List Word). Vars v (length (cells_of L))) u.log top.state.sound.vars) in
      let lw : length (u.words ++ u.more) < 4294967296 = subst (λ (v : List Word). length v < 4294967296) u.log top.state.sound.long in
      let st : State (log_of (used_at (news ++ ms)) L) u.pos u.cells u.vars u.olds (trail_at ms) (apps_at ms) = subst (λ (v : List Word). State v u.pos u.cells u.vars u.olds (trail_at ms) (apps_at ms)) (sym u.log) (state_more u.words u.more u.pos u.cells u.vars u.olds (trail_at ms) (apps_at ms) vw lw h.state) in
      let me : Means lab (log_of (used_at (news ++ ms)) L) u.pos u.cells (all_told lab ms) = subst (λ (v : List Word). Means lab v u.pos u.cells (all_told lab ms)) (sym u.log) (means_more lab u.words u.more u.pos u.cells (apps_at ms) (all_told lab ms) h.closed h.state.apps (h.means lab)) in
      record { left = u.left; state = st; acyclic = satisfiable_acyclic lab (log_of (used_at (news ++ ms)) L) u.pos u.cells (all_told lab ms) me sa; means = me; fresh = fr }

  since_says : (Q : List ℕ → Store → Store → Type 0) → Since (log_of (used_at (news ++ ms)) L) (locals_of L) (pos_of L) (cells_of L) (vars_of L) (olds_of L) (trail_at (news ++ ms)) (apps_at (news ++ ms)) (trail_at ms) Q → Marking (locals_of L) vs → Fresh vs (all_told lab ms) → Satisfiable (all_told lab ms) → Q vs (all_told lab ms) (all_told lab news)
  since_says Q k mk fr sa =
      k.right (base news ms L w).pos (base news ms L w).cells (base news ms L w).vars (base news ms L w).olds (apps_at ms) lab vs (all_told lab ms) (all_told lab news) (before fr sa) mk
      (subst (Means lab (log_of (used_at (news ++ ms)) L) (pos_of L) (cells_of L)) (all_since lab news ms) ((here (news ++ ms) L w).means lab))

  -- it says whether all since the mark, with the marked locals, is quiet for all before it
  pub walk_silent : Calmed (log_of (used_at (news ++ ms)) L) (locals_of L) (pos_of L) (cells_of L) (vars_of L) (olds_of L) (trail_at (news ++ ms)) (apps_at (news ++ ms)) (trail_at ms) Silent → Marking (locals_of L) vs → Fresh vs (all_told lab ms) → Quiet vs (all_told lab ms) (all_told lab news)
  walk_silent k mk fr ρ s = since_says Quiet k mk fr (ρ, s) ρ s

  pub walk_loud : Calmed (log_of (used_at (news ++ ms)) L) (locals_of L) (pos_of L) (cells_of L) (vars_of L) (olds_of L) (trail_at (news ++ ms)) (apps_at (news ++ ms)) (trail_at ms) Loudly → Marking (locals_of L) vs → Fresh vs (all_told lab ms) → Satisfiable (all_told lab ms) → Quiet vs (all_told lab ms) (all_told lab news) → ⊥
  walk_loud k mk fr sa = since_says (λ us env σ. Quiet us env σ → ⊥) k mk fr sa

-- the cycle test may be made since every mark, and says whether all that was told has a solution where all up to the mark has one
pub walk_can_since : (news ms : List Mark) (L : List ℕ) → Walk L (news ++ ms) → Laid L × Logged (used_at (news ++ ms)) × CanSince (log_of (used_at (news ++ ms)) L) (pos_of L) (cells_of L) (vars_of L) (marks_of L) (stack_of L) (dones_of L) (trail_at (news ++ ms)) (apps_at (news ++ ms)) (trail_at ms)
walk_can_since news ms L w =
    let b = returns_can_back ms L (trail_at (news ++ ms)) (walk_returns news ms L w) in
    (w.laid, record { most = w.room }, record { fits = walk_fitting (news ++ ms) L w; le = b.le; fit_x = b.fit_x; vars = b.vars })

fresh_none : (σ : Store) → Fresh [] σ
fresh_none [] = tt
fresh_none (c ∷ σ) = ((λ x i k. absurd k), fresh_none σ)

pub walk_satisfiable_since : (news ms : List Mark) (L : List ℕ) (r : Bool) → Walk L (news ++ ms) → TestedSince (log_of (used_at (news ++ ms)) L) (pos_of L) (cells_of L) (vars_of L) (olds_of L) (trail_at (news ++ ms)) (apps_at (news ++ ms)) (trail_at ms) r
    → (lab : ℕ → Label) → Satisfiable (all_told lab ms) → Decides (Satisfiable (all_told lab (news ++ ms))) r
walk_satisfiable_since news ms L r w t lab sa = walk_satisfiable (news ++ ms) L r w (solved (log_of (used_at (news ++ ms)) L) (pos_of L) (cells_of L) r (here (news ++ ms) L w).state.sound.up (tested r t)) lab
  where
    tested : (r : Bool) → TestedSince (log_of (used_at (news ++ ms)) L) (pos_of L) (cells_of L) (vars_of L) (olds_of L) (trail_at (news ++ ms)) (apps_at (news ++ ms)) (trail_at ms) r → Tested (log_of (used_at (news ++ ms)) L) (pos_of L) (cells_of L) r
    tested true t = let b = before news ms L w lab [] (fresh_none (all_told lab ms)) sa in t (base news ms L w).pos (base news ms L w).cells (base news ms L w).vars (base news ms L w).olds (apps_at ms) b.left b.state b.acyclic
    tested false t = t

-- what has no solution together with an environment that has one is not quiet for it
pub none_loud : (vs : List ℕ) (env σ : Store) → Fresh vs env → Satisfiable env → (Satisfiable (env ++ σ) → ⊥) → Quiet vs env σ → ⊥
none_loud vs env σ fr sa k q =
    let ρ = sa.0 in
    let w = q ρ sa.1 in
    k (w.0, (sats_append w.0 env σ).1 (sats_off vs ρ w.0 env fr w.1 sa.1, w.2))

-- a push that failed: all that was told and the range have no solution
pub walk_clash : (ms : List Mark) (S : List Word) (L X : List ℕ) (from len n a : ℕ) → Walk L ms → CanPush S L (used_at ms) (trail_at ms) (apps_at ms) from len → Pushed S L (used_at ms) (trail_at ms) (apps_at ms) from len X (Failed n a) → (lab : ℕ → Label) → Distinct lab → Satisfiable (all_told lab ms ++ range_told S from len lab) → ⊥
walk_clash ms S L X from len n a w c p lab d s =
    p.told.none lab d (all_told lab ms) (more_means ms S L X from len w c lab) s.0 (subst (λ (σ : Store). Sats s.0 (all_told lab ms ++ σ)) (sym (pushed_range S L (used_at ms) (trail_at ms) (apps_at ms) from len c lab)) s.1)

-- so it is quiet at no mark whose environment has a solution
pub walk_clash_loud : (news ms : List Mark) (S : List Word) (L X : List ℕ) (from len n a : ℕ) → Walk L (news ++ ms) → CanPush S L (used_at (news ++ ms)) (trail_at (news ++ ms)) (apps_at (news ++ ms)) from len → Pushed S L (used_at (news ++ ms)) (trail_at (news ++ ms)) (apps_at (news ++ ms)) from len X (Failed n a)
    → (lab : ℕ → Label) → Distinct lab → (vs : List ℕ) → Fresh vs (all_told lab ms) → Satisfiable (all_told lab ms) → Quiet vs (all_told lab ms) (all_told lab news ++ range_told S from len lab) → ⊥
walk_clash_loud news ms S L X from len n a w c p lab d vs fr sa =
    none_loud vs (all_told lab ms) (all_told lab news ++ range_told S from len lab) fr sa (λ t. walk_clash (news ++ ms) S L X from len n a w c p lab d
    (t.0, subst (Sats t.0) (sym (append_assoc (all_told lab ms) (all_told lab news) (range_told S from len lab)) ∙ ap (λ (σ : Store). σ ++ range_told S from len lab) (sym (all_since lab news ms))) t.1))
