-- The answer of a number found on the walk.
use mathlib.Core.Path.{◌≡◌, refl, sym, ◌∙◌, subst}
use mathlib.Core.Logic.{◌⊎◌, inl, inr}
use mathlib.Core.Bool.{Bool, true}
use mathlib.Core.List.{List, [], ◌∷◌}
use mathlib.Core.Option.{Option, some, none}
use Prim.Native.Nat.{ℕ, zero, suc, ◌+◌, ◌-◌, ◌<◌, ◌≤◌}
use native.Mathlib.Omega.{arith}
use lib.ListN.{length}
use Rattle.akl.specs.Base.{nth}
use Rattle.akl.specs.Configuration.{goal, Node}
use Rattle.akl.specs.Answers.{Answer, answers, numbered}
use Rattle.mem_words.specs.declared.Word.{Word}
use Rattle.mem_sorts.specs.declared.Kind.TheVariants.{And}
use Rattle.store_form.specs.State.{State}
use Rattle.rule_words.specs.Scans.{close}
use Rattle.rule_effects.specs.Conditions.{kind_at}
use Rattle.step_meant.specs.Meant.{Meant}
use Rattle.answer_boxes.specs.Asked.{AnswerAt, AnswerStands, Found}
use Rattle.answer_boxes.proofs.Walking.{Walking, walk_first, walk_last, walk_found, walk_answer}

-- the k-th of a list, counted from 1
abbrev pub kth : List Answer → ℕ → Option Answer
kth A zero = none
kth A (suc k) = nth A k

-- of the answers from j on the k-th is looked for
abbrev pub Looks : ℕ → ℕ → State → List Answer → Type 0
Looks n k s A = kth A k ≡ numbered s.config.root n

abbrev pub Finding : List Word → ℕ → ℕ → ℕ → Type 0
Finding W n j k = Walking W j (Looks n k)

all_kth : (g : Node goal) (n : ℕ) → kth (answers g) n ≡ numbered g n
all_kth g zero = refl
all_kth g (suc n) = refl

less : (k : ℕ) (x : Answer) (A : List Answer) (o : Option Answer) → 1 < k → kth (x ∷ A) k ≡ o → kth A (k - 1) ≡ o
unfolding nth
less zero x A o h e = absurd (omega (arith, h))
less (suc zero) x A o h e = absurd (omega (arith, h))
less (suc (suc k)) x A o h e = let z : suc k ≡ suc (suc k) - 1 = omega arith in subst (λ (i : ℕ). kth A i ≡ o) z e

at_first : (x : Answer) (A : List Answer) → kth (x ∷ A) 1 ≡ some x
unfolding nth
at_first x A = refl

kth_none : (k : ℕ) → kth [] k ≡ none
unfolding nth
kth_none zero = refl
kth_none (suc k) = refl

module _ (W : List Word) (n : ℕ) where
  -- answers are counted from 1
  pub find_zero : (r : ℕ) → n ≡ 0 → r ≡ length W → Found W n r
  find_zero r e h = record { right = λ s D m. inl (subst (λ (i : ℕ). numbered s.config.root i ≡ none) (sym e) refl, h) }

  pub find_first : Finding W n 1 n
  find_first = walk_first (Looks n n) (λ s. all_kth s.config.root n)

  module _ (j k : ℕ) (g : Finding W n j k) where
    pub find_last : length W ≤ j → (r : ℕ) → r ≡ length W → Found W n r
    find_last h r e = record { right = λ s D m. inl (sym (walk_last g h s D m) ∙ kth_none k, e) }

    module _ (b : Bool) (h : j < length W) (e : b ≡ kind_at W j And) (f : b ≡ true) (r : Bool) (a : AnswerAt W j r) (t : r ≡ true) where
      -- it is this one
      pub find_here : k ≡ 1 → Found W n j
      find_here o = record { right = go }
        where
          go : (s : State) (D : List Word) → Meant W D s → ((numbered s.config.root n ≡ none) × (j ≡ length W)) ⊎ AnswerStands s W n j
          go s D m =
              let q = walk_found g b h e f r a t s D m in
              inr (record { own = q.own; store = q.store; context = q.context; is = sym (subst (λ (i : ℕ). kth ((q.own, q.store) ∷ q.rest) i ≡ numbered s.config.root n) o q.holds) ∙ at_first (q.own, q.store) q.rest; ors = q.ors; stands = q.stands })

      -- it is a later one
      pub find_answer : 1 < k → (z : ℕ) → z ≡ close W j → Finding W n (z + 1) (k - 1)
      find_answer l z y = walk_answer g b h e f (Looks n (k - 1)) (λ s x A p. less k x A (numbered s.config.root n) l p) r a t z y
