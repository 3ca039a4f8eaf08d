-- The words of a rule's effect where its number is known.
use mathlib.Core.Path.{◌≡◌, refl, ap, sym, ◌∙◌}
use mathlib.Core.Bool.{Bool, true, false, cond}
use mathlib.Core.List.{List}
use Prim.Native.Nat.{ℕ, ◌+◌, ◌<◌}
use native.Mathlib.Omega.{arith}
use lib.Dec.{eqb}
use borrow.Author.Tests.{ne_eqb}
use lib.ListN.{get_or}
use Rattle.mem_words.specs.declared.Word.{Word}
use Rattle.mem_words.specs.declared.Word.TheVariants.{Bad}
use Rattle.rule_build.specs.Built.{Built, built_as}
use Rattle.rule_effects.specs.Effects.{effect_1, effect_2, effect_3, effect_4, effect_5, effect_6, effect_7, effect_8, effect_9, effect_10, effect_11, effect_12, effect_13, effect_14, fresh_4, fresh_5, number_in}
use Rattle.rule_hidden.specs.Counting.{Capped}
use Rattle.rule_clauses.specs.Going.{hidden}
use Rattle.rule_rewrite.specs.Rewriting.{effect_words, fresh_words}

module _ (W D : List Word) (i next : ℕ) {cap n : ℕ} {O : List Word} (r : ℕ) where
  by_number : (k : ℕ) → r ≡ k → Built cap (effect_words W D k i next) n O → Built cap (effect_words W D r i next) n O
  by_number k e b = built_as (effect_words W D r i next) (ap (λ (x : ℕ). effect_words W D x i next) (sym e)) b

  pub at_1 : r ≡ 1 → Built cap (effect_1 W i) n O → Built cap (effect_words W D r i next) n O
  unfolding effect_words
  at_1 e b = by_number 1 e b

  pub at_2 : r ≡ 2 → Built cap (effect_2 W D i) n O → Built cap (effect_words W D r i next) n O
  unfolding effect_words
  at_2 e b = by_number 2 e b

  pub at_3 : r ≡ 3 → Built cap (effect_3 W i) n O → Built cap (effect_words W D r i next) n O
  unfolding effect_words
  at_3 e b = by_number 3 e b

  pub at_4 : r ≡ 4 → Built cap (effect_4 W i next) n O → Built cap (effect_words W D r i next) n O
  unfolding effect_words
  at_4 e b = by_number 4 e b

  pub at_5 : r ≡ 5 → Built cap (effect_5 W i next) n O → Built cap (effect_words W D r i next) n O
  unfolding effect_words
  at_5 e b = by_number 5 e b

  pub at_6 : r ≡ 6 → Built cap (effect_6 W i) n O → Built cap (effect_words W D r i next) n O
  unfolding effect_words
  at_6 e b = by_number 6 e b

  pub at_7 : r ≡ 7 → Built cap (effect_7 W i) n O → Built cap (effect_words W D r i next) n O
  unfolding effect_words
  at_7 e b = by_number 7 e b

  pub at_8 : r ≡ 8 → Built cap (effect_8 W i) n O → Built cap (effect_words W D r i next) n O
  unfolding effect_words
  at_8 e b = by_number 8 e b

  pub at_9 : r ≡ 9 → Built cap (effect_9 W i) n O → Built cap (effect_words W D r i next) n O
  unfolding effect_words
  at_9 e b = by_number 9 e b

  pub at_10 : r ≡ 10 → Built cap (effect_10 W i) n O → Built cap (effect_words W D r i next) n O
  unfolding effect_words
  at_10 e b = by_number 10 e b

  pub at_11 : r ≡ 11 → Built cap (effect_11 W i) n O → Built cap (effect_words W D r i next) n O
  unfolding effect_words
  at_11 e b = by_number 11 e b

  pub at_12 : r ≡ 12 → Built cap (effect_12 W i) n O → Built cap (effect_words W D r i next) n O
  unfolding effect_words
  at_12 e b = by_number 12 e b

  pub at_13 : r ≡ 13 → Built cap (effect_13 W i) n O → Built cap (effect_words W D r i next) n O
  unfolding effect_words
  at_13 e b = by_number 13 e b

  pub at_14 : r ≡ 14 → Built cap (effect_14 W i) n O → Built cap (effect_words W D r i next) n O
  unfolding effect_words
  at_14 e b = by_number 14 e b

-- The fresh numbers of rules 4 and 5; the others take none.
module _ (W : List Word) (i r : ℕ) where
  pub fresh_at_4 : r ≡ 4 → fresh_words W r i ≡ fresh_4 W i
  unfolding fresh_words
  fresh_at_4 e = ap (λ (x : ℕ). fresh_words W x i) e

  pub fresh_at_5 : r ≡ 5 → fresh_words W r i ≡ fresh_5 W i
  unfolding fresh_words
  fresh_at_5 e = ap (λ (x : ℕ). fresh_words W x i) e

  pub fresh_other : ¬ (r ≡ 4) → ¬ (r ≡ 5) → fresh_words W r i ≡ 0
  unfolding fresh_words
  fresh_other a b =
      ap (λ (x : Bool). cond x (fresh_4 W i) (cond (eqb r 5) (fresh_5 W i) 0)) (ne_eqb r 4 a) ∙ ap (λ (x : Bool). cond x (fresh_5 W i) 0) (ne_eqb r 5 b)

  capped_as : {a b n : ℕ} → a ≡ b → Capped b n → Capped a n
  capped_as {a} {b} {n} e c = record { small = λ h. c.small (omega (arith, e)) ∙ sym e; large = λ h. c.large (omega (arith, e)) }

  pub counts_4 : {n : ℕ} → r ≡ 4 → n ≡ number_in (get_or W (i + 2) Bad) → n < 65536 → Capped (fresh_words W r i) n
  unfolding fresh_4
  counts_4 e f h = capped_as (fresh_at_4 e ∙ sym f) (record { small = λ _. refl; large = λ g. absurd (omega arith) })

  pub counts_5 : {n : ℕ} → r ≡ 5 → Capped (hidden W (i + 2)) n → Capped (fresh_words W r i) n
  unfolding fresh_5 hidden
  counts_5 e c = capped_as (fresh_at_5 e) c

  pub counts_none : ¬ (r ≡ 4) → ¬ (r ≡ 5) → Capped (fresh_words W r i) 0
  counts_none a b = capped_as (fresh_other a b) (record { small = λ _. refl; large = λ g. g })
