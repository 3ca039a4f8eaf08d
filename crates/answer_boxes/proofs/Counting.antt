-- Answers counted on the walk.
use mathlib.Core.Path.{◌≡◌}
use mathlib.Core.Bool.{Bool, true}
use mathlib.Core.List.{List}
use Prim.Native.Nat.{ℕ, ◌+◌, ◌<◌, ◌≤◌}
use native.Mathlib.Nat.{zero-add}
use native.Mathlib.Omega.{arith}
use lib.ListN.{length}
use Rattle.akl.specs.Base.{size}
use Rattle.akl.specs.Answers.{Answer, answers}
use Rattle.mem_words.specs.declared.Word.{Word}
use Rattle.mem_sorts.specs.declared.Kind.TheVariants.{And}
use Rattle.store_form.specs.State.{State}
use Rattle.rule_words.specs.Scans.{close}
use Rattle.rule_effects.specs.Conditions.{kind_at}
use Rattle.answer_boxes.specs.Asked.{AnswerAt, CountIs}
use Rattle.answer_boxes.proofs.Walking.{Walking, walk_first, walk_last, walk_answer}

-- c answers stand before j
abbrev pub Counts : ℕ → State → List Answer → Type 0
Counts c s A = c + size A ≡ size (answers s.config.root)

abbrev pub Counting : List Word → ℕ → ℕ → Type 0
Counting W j c = Walking W j (Counts c)

module _ {W : List Word} where
  pub count_first : Counting W 1 0
  count_first = walk_first (Counts 0) (λ s. zero-add (size (answers s.config.root)))

  pub count_answer : (j c : ℕ) → Counting W j c → (b : Bool) → j < length W → b ≡ kind_at W j And → b ≡ true → (r : Bool) → AnswerAt W j r → r ≡ true → (z : ℕ) → z ≡ close W j → Counting W (z + 1) (c + 1)
  unfolding size
  count_answer j c g b h e f r a t z y = walk_answer g b h e f (Counts (c + 1)) (λ s x A p. omega (arith, p)) r a t z y

  pub count_last : (j c : ℕ) → Counting W j c → length W ≤ j → CountIs W c
  unfolding size
  count_last j c g h = record { right = λ s D m. let p = walk_last g h s D m in omega (arith, p) }
