-- What is asked of the stores around a position is what is asked of environment and store.
use mathlib.Core.Path.{◌≡◌, ap, sym, ◌∙◌, subst}
use mathlib.Core.Bool.{Bool}
use mathlib.Core.List.{List, ◌∷◌, ◌++◌}
use Prim.Native.Nat.{ℕ, suc, ◌+◌, ◌≤◌}
use native.Mathlib.Numerals.{add-one}
use native.Mathlib.Omega.{arith}
use Rattle.constraint.specs.Tree.{Label}
use Rattle.constraint.specs.Constraint as constraint
use Rattle.constraint.specs.Solve.{satisfiable?}
use Rattle.akl.specs.Base.{Name}
use Rattle.akl.specs.Configuration as akl
use Rattle.akl.specs.Configuration.{goal, member, Node, and, Nodes, Ctx, plug, env}
use Rattle.mem_words.specs.declared.Word.{Word}
use Rattle.store_words.specs.Tables.{SpeltNode}
use Rattle.solve_fields.specs.Read.{Distinct}
use Rattle.rule_effects.specs.Standing.{Stands}
use Rattle.rule_ranges.specs.Ranges.{Range, store_range, ranges, ranges_from, told_all}
use Rattle.rule_ranges.specs.Asked.{SatIn}
use Rattle.rule_ranges.proofs.Around.{opens_itself}
use Rattle.rule_ranges.proofs.Ranged.{Ranged, then, together, told_ranged}
use Rattle.rule_ranges.proofs.Own.{spelt_in, store_held}
use Rattle.rule_ranges.proofs.Alike.{Alike, alike_turned, same_satisfiable}
use Rattle.rule_ranges.proofs.Environment.{context_stores, around_alike, spelt_around, ranges_step, and_adds, around_ranged}

module _ (num : Name → ℕ) where
  -- the environment of a node
  pub env_ranged : {k : akl.Kind} {χ : Ctx k} {n : Node k} {Z W : List Word} {i : ℕ} → Stands num χ n Z W i → Ranged num W (ranges_from W 0 i) (context_stores χ)
  unfolding ranges_from
  env_ranged {k} {χ} {n} {Z} {W} {i} s = around_ranged num χ n i Z W i (omega arith) s

  pub env_told : (lab : ℕ → Label) {k : akl.Kind} {χ : Ctx k} {n : Node k} {Z W : List Word} {i : ℕ} → SpeltNode num lab (plug χ n) → Stands num χ n Z W i → told_all lab W (ranges_from W 0 i) ≡ together (context_stores χ)
  env_told lab {k} {χ} {n} {Z} {W} {i} p s = told_ranged lab (spelt_around num lab χ n p) (env_ranged s)

  pub env_alike : (lab : ℕ → Label) {k : akl.Kind} {χ : Ctx k} {n : Node k} {Z W : List Word} {i : ℕ} → SpeltNode num lab (plug χ n) → Stands num χ n Z W i → Alike (told_all lab W (ranges_from W 0 i)) (env χ)
  env_alike lab {k} {χ} p s = subst (λ (z : constraint.Store). Alike z (env χ)) (sym (env_told lab p s)) (around_alike χ)

  module _ {χ : Ctx goal} {vs : List ℕ} {σ : constraint.Store} {ms : Nodes member} {Z W : List Word} {j : ℕ} where
    -- the first range behind an and-box's first word is its own
    pub own_first : (f t : ℕ) → t ≤ j → Stands num χ (and vs σ ms) Z W j → ranges (suc f) W t (j + 1) ≡ store_range W j ∷ ranges f W t j
    own_first f t h s = ranges_step f W t (j + 1) j (opens_itself num s) (omega arith) h ∙ and_adds num (ranges f W t j) s

    -- an and-box's environment and its store
    pub both_ranged : Stands num χ (and vs σ ms) Z W j → Ranged num W (ranges_from W 0 (j + 1)) (σ ∷ context_stores χ)
    unfolding ranges_from
    both_ranged s =
        let e : ranges (j + 1) W 0 (j + 1) ≡ store_range W j ∷ ranges j W 0 j = ap (λ (f : ℕ). ranges f W 0 (j + 1)) (add-one j) ∙ own_first j 0 (omega arith) s in
        subst (λ (rs : List Range). Ranged num W rs (σ ∷ context_stores χ)) (sym e) (then (store_held num s) (around_ranged num χ (and vs σ ms) j Z W j (omega arith) s))

    pub both_told : (lab : ℕ → Label) → SpeltNode num lab (plug χ (and vs σ ms)) → Stands num χ (and vs σ ms) Z W j → told_all lab W (ranges_from W 0 (j + 1)) ≡ σ ++ together (context_stores χ)
    unfolding together
    both_told lab p s = told_ranged lab ((spelt_in num lab χ (and vs σ ms) p).0, spelt_around num lab χ (and vs σ ms) p) (both_ranged s)

    pub both_alike : (lab : ℕ → Label) → SpeltNode num lab (plug χ (and vs σ ms)) → Stands num χ (and vs σ ms) Z W j → Alike (told_all lab W (ranges_from W 0 (j + 1))) (env χ ++ σ)
    both_alike lab p s = subst (λ (z : constraint.Store). Alike z (env χ ++ σ)) (sym (both_told lab p s)) (alike_turned σ (around_alike χ))

    -- rule 9's question
    pub sat_at : {lab : ℕ → Label} {r : Bool} → SpeltNode num lab (plug χ (and vs σ ms)) → Distinct lab → Stands num χ (and vs σ ms) Z W j → SatIn W j r → r ≡ satisfiable? (env χ ++ σ)
    sat_at {lab} p d s q = same_satisfiable (both_alike lab p s) (q.right lab d)
