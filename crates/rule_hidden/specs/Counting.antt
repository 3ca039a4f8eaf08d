-- The hidden variables of clauses counted, up to more than there may be. Assumes nothing.
use Rattle.std.specs.Prelude.{◌≡◌, refl, Bool, true, false, List, ℕ, ◌+◌, ◌<◌, ◌≤◌, length, get_or}
use Rattle.std.proofs.Common.{ap, ◌∙◌, arith}
use Rattle.std.proofs.Math.Path.{sym}
use Rattle.std.proofs.Math.Decide.{dec_lt}
use Rattle.mem_words.specs.declared.Word.{Word}
use Rattle.mem_words.specs.declared.Word.TheVariants.{Bad}
use Rattle.rule_words.specs.Scans.{close}
use Rattle.rule_effects.specs.Effects.{behind, begins_clause, hides}
use Rattle.rule_clauses.specs.Going.{here, hidden, stop, outside, turn}

-- r is h, or both are more than 65,536
pub record Capped (h r : ℕ) : Type 0 where
  pub small : h ≤ 65536 → r ≡ h
  pub large : 65536 < h → 65536 < r

-- t are counted before the clause at j
pub record Counting (W : List Word) (from j t : ℕ) : Type 0 where
  pub low : t + hidden W j ≡ hidden W from

pub counted_none : (W : List Word) (from : ℕ) → Counting W from from 0
counted_none W from = record { low = omega arith }

module _ {W : List Word} {from j t : ℕ} where
  pub counted_one : (n c : ℕ) (w : Word) (b : Bool) → Counting W from j t → w ≡ get_or W j Bad → b ≡ begins_clause w → b ≡ true → n ≡ hides W j → c ≡ close W j → Counting W from (c + 1) (t + n)
  counted_one n c w b g e f y m q =
      let i : here W j ≡ true = ap begins_clause (sym e) ∙ sym f ∙ y in
      let v : hidden W (c + 1) ≡ hidden W (behind W j) = ap (λ (x : ℕ). hidden W (x + 1)) q in
      record { low = omega (arith, g.low, (turn W j 0 i).1, m, v) }

  pub too_many : Counting W from j t → 65536 < t → Capped (hidden W from) t
  too_many g h = record { small = λ k. absurd (omega (arith, g.low)); large = λ k. h }

  nothing_left : Counting W from j t → hidden W j ≡ 0 → Capped (hidden W from) t
  nothing_left g z = record { small = λ k. omega (arith, g.low, z); large = λ k. omega (arith, g.low, z) }

  pub counted_last : (w : Word) (b : Bool) → Counting W from j t → w ≡ get_or W j Bad → b ≡ begins_clause w → b ≡ false → Capped (hidden W from) t
  unfolding hidden
  counted_last w b g e f y = nothing_left g (stop W (length W) j 0 (ap begins_clause (sym e) ∙ sym f ∙ y)).1

  pub counted_all : Counting W from j t → length W ≤ j → Capped (hidden W from) t
  unfolding hidden
  counted_all g h = nothing_left g (stop W (length W) j 0 (outside W j h)).1
