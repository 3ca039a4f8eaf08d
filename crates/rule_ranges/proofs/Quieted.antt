-- What is asked of the stores from a goal down to an and-box in it is whether they are quiet for the goal's environment.
use mathlib.Core.Path.{◌≡◌, refl, ap, ap₂, sym, ◌∙◌, subst}
use mathlib.Core.Logic.{◌↔◌}
use mathlib.Core.Bool.{Bool}
use mathlib.Core.List.{List, [], ◌∷◌, ◌++◌, append-nil, append_assoc}
use Prim.Native.Nat.{ℕ, ◌+◌, ◌≤◌, ◌<◌}
use native.Mathlib.Numerals.{add-one}
use native.Mathlib.Omega.{arith}
use Rattle.constraint.specs.Tree.{Label}
use Rattle.constraint.specs.Constraint as constraint
use Rattle.constraint.specs.Constraint.{Asg, Sats, Quiet, Fresh}
use Rattle.constraint.specs.Solve.{quiet?}
use Rattle.constraint.proofs.Entail.{sats_append}
use Rattle.akl.specs.Base.{Name}
use Rattle.akl.specs.Configuration as akl
use Rattle.akl.specs.Configuration.{goal, member, Node, and, Nodes, nil, Ctx, plug, env}
use Rattle.akl.specs.Stability.{locals}
use Rattle.mem_numbers.specs.Decides.{Decides}
use Rattle.mem_words.specs.declared.Word.{Word}
use Rattle.store_words.specs.Tables.{SpeltNode}
use Rattle.solve_fields.specs.Read.{Distinct}
use Rattle.work_marks.specs.Marks.{range_told}
use Rattle.rule_effects.specs.Effects.{behind}
use Rattle.rule_effects.specs.Standing.{Stands}
use Rattle.rule_ranges.specs.Ranges.{Range, ranges, ranges_from, told_all}
use Rattle.rule_ranges.specs.Asked.{QuietIn}
use Rattle.rule_ranges.proofs.Own.{spelt_in, store_told}
use Rattle.rule_ranges.proofs.Alike.{Alike, same_quiet}
use Rattle.rule_ranges.proofs.Environment.{ranges_end}
use Rattle.rule_ranges.proofs.Judged.{env_alike, both_alike, own_first}
use Rattle.rule_ranges.proofs.Locals.{locals_are}
use Rattle.rule_ranges.proofs.Split.{ranges_split}

pub told_append : (lab : ℕ → Label) (W : List Word) (a b : List Range) → told_all lab W (a ++ b) ≡ told_all lab W a ++ told_all lab W b
unfolding told_all
told_append lab W [] b = refl
told_append lab W (r ∷ a) b =
    let c = range_told W r.from r.len lab in
    ap (λ (s : constraint.Store). c ++ s) (told_append lab W a b) ∙ sym (append_assoc c (told_all lab W a) (told_all lab W b))

module _ (num : Name → ℕ) (lab : ℕ → Label) where
  -- the answer for the goal's locals and environment, θ being what has the solutions of the stores asked of, with the environment
  answers : {k : akl.Kind} {χ : Ctx k} {n : Node k} {Z W : List Word} {g j : ℕ} {r : Bool} (θ : constraint.Store)
      → ((ρ : Asg) → Sats ρ (told_all lab W (ranges_from W 0 g)) → (Sats ρ (told_all lab W (ranges_from W g (j + 1))) ↔ Sats ρ θ))
      → SpeltNode num lab (plug χ n) → Distinct lab → Fresh (locals n) (env χ) → Stands num χ n Z W g → QuietIn W g j r → r ≡ quiet? (locals n) (env χ) θ
  answers {k} {χ} {n} {Z} {W} {g} {j} {r} θ t p d f s q =
      let e = told_all lab W (ranges_from W 0 g) in
      let a : Alike e (env χ) = env_alike num lab p s in
      let h : Fresh (locals n) e = (a.fresh (locals n)).1 f in
      let u : Fresh (locals n) e → Decides (Quiet (locals n) e (told_all lab W (ranges_from W g (j + 1)))) r =
      subst (λ (vs : List ℕ). Fresh vs e → Decides (Quiet vs e (told_all lab W (ranges_from W g (j + 1)))) r) (locals_are num s) (q.right lab d) in
      same_quiet (locals n) (told_all lab W (ranges_from W g (j + 1))) θ a t h (u h)

  -- "for each and-box at or inside it, the stores from the goal down to that box": with the goal's environment they are the box's
  -- environment and store
  pub quiet_at : {k : akl.Kind} {χ : Ctx k} {n : Node k} {χ' : Ctx goal} {vs : List ℕ} {σ : constraint.Store} {ms : Nodes member} {Z W : List Word} {g j : ℕ} {r : Bool}
      → SpeltNode num lab (plug χ n) → SpeltNode num lab (plug χ' (and vs σ ms)) → Distinct lab → Fresh (locals n) (env χ) → Stands num χ n Z W g → Stands num χ' (and vs σ ms) Z W j → g ≤ j → j < behind W g
      → QuietIn W g j r → r ≡ quiet? (locals n) (env χ) (env χ' ++ σ)
  quiet_at {k} {χ} {n} {χ'} {vs} {σ} {ms} {Z} {W} {g} {j} p p' d f s s' h l q =
      let e = told_all lab W (ranges_from W 0 g) in
      let θ = told_all lab W (ranges_from W g (j + 1)) in
      let b = both_alike num lab p' s' in
      let w : told_all lab W (ranges_from W 0 (j + 1)) ≡ θ ++ e = ap (told_all lab W) (ranges_split num s s' h l) ∙ told_append lab W (ranges_from W g (j + 1)) (ranges_from W 0 g) in
      answers (env χ' ++ σ)
      (λ ρ z. (λ y. (b.sats ρ).0 (subst (Sats ρ) (sym w) ((sats_append ρ θ e).1 (y, z))), λ y. ((sats_append ρ θ e).0 (subst (Sats ρ) w ((b.sats ρ).1 y))).0))
      p d f s q

  -- a goal that is an and-box, and its own store
  pub quiet_own : {χ : Ctx goal} {vs : List ℕ} {σ : constraint.Store} {ms : Nodes member} {Z W : List Word} {g : ℕ} {r : Bool}
      → SpeltNode num lab (plug χ (and vs σ ms)) → Distinct lab → Fresh (locals (and vs σ ms)) (env χ) → Stands num χ (and vs σ ms) Z W g → QuietIn W g g r → r ≡ quiet? (locals (and vs σ ms)) (env χ) σ
  unfolding ranges_from told_all
  quiet_own {χ} {vs} {σ} {ms} {Z} {W} {g} p d f s q =
      let w : told_all lab W (ranges_from W g (g + 1)) ≡ σ =
      ap (λ (f : ℕ). told_all lab W (ranges f W g (g + 1))) (add-one g)
      ∙ ap (told_all lab W) (own_first num g g (omega arith) s)
      ∙ ap₂ (λ (a b : constraint.Store). a ++ b) (store_told num lab (spelt_in num lab χ (and vs σ ms) p).0 s) (ap (told_all lab W) (ranges_end g W g g (omega arith)))
      ∙ append-nil σ in
      answers σ (λ ρ z. (λ y. subst (Sats ρ) w y, λ y. subst (Sats ρ) (sym w) y)) p d f s q

  -- a solved guard
  pub quiet_guard : {χ : Ctx goal} {vs : List ℕ} {σ : constraint.Store} {Z W : List Word} {g : ℕ} {r : Bool}
      → SpeltNode num lab (plug χ (and vs σ nil)) → Distinct lab → Fresh vs (env χ) → Stands num χ (and vs σ nil) Z W g → QuietIn W g g r → r ≡ quiet? vs (env χ) σ
  unfolding locals
  quiet_guard {χ} {vs} {σ} p d f s q =
      let e : vs ++ [] ≡ vs = append-nil vs in
      quiet_own p d (subst (λ (l : List ℕ). Fresh l (env χ)) (sym e) f) s q ∙ ap (λ (l : List ℕ). quiet? l (env χ) σ) e
