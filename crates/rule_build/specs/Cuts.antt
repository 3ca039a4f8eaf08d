-- Ranges that reach past the end of the words, or are none. Assumes nothing.
use Rattle.std.specs.Prelude.{◌≡◌, refl, ◌⊎◌, List, [], ◌∷◌, ◌++◌, ℕ, ◌+◌, ◌-◌, ◌<◌, ◌≤◌, length, take, drop, min}
use Rattle.std.proofs.Common.{ap, ap₂, sym, ◌∙◌, inl, inr, arith, length-drop, drop_of_length-le, take_all}
use Rattle.std.proofs.Math.Seq.{take-nil}
use Rattle.std.proofs.Math.Decide.{dec_lt}
use Rattle.mem_words.specs.declared.Word.{Word}
use Rattle.mem_copies.specs.Runs.{run}
use Rattle.rule_words.specs.Pieces.{cut}
use Rattle.rule_build.specs.Built.{Appended, appended_as}

-- r is the lesser of a and b
pub record Least (a b r : ℕ) : Type 0 where
  pub left : r ≤ a
  pub right : r ≤ b
  pub one : (r ≡ a) ⊎ (r ≡ b)

pub least_min : (a b r : ℕ) → r ≡ min a b → Least a b r
least_min a b r e = go (dec_lt a b)
  where
    go : Dec (a < b) → Least a b r
    go (yes h) = record { left = omega (arith, e); right = omega (arith, e); one = inl (omega (arith, e)) }
    go (no h) = record { left = omega (arith, e); right = omega (arith, e); one = inr (omega (arith, e)) }

-- the range from s up to e is that from a up to b, as far as there are words
pub cut_clamp : (a b s e n : ℕ) (W : List Word) → n ≡ length W → Least b n e → Least a e s → run s (e - s) W ≡ cut a b W
unfolding cut run
cut_clamp a b s e n W l p q = go q.one p.one
  where
    go : (s ≡ a) ⊎ (s ≡ e) → (e ≡ b) ⊎ (e ≡ n) → take (e - s) (drop s W) ≡ take (b - a) (drop a W)
    go (inl u) (inl v) = ap₂ (λ (x y : ℕ). take (x - y) (drop y W)) v u
    go (inl u) (inr v) = ap (λ (y : ℕ). take (e - y) (drop y W)) u ∙ take_all (e - a) (drop a W) (omega (arith, length-drop a W)) ∙ sym (take_all (b - a) (drop a W) (omega (arith, length-drop a W, p.left)))
    go (inr u) (inl v) = let z : e - s ≡ 0 = omega arith in let y : 0 ≡ b - a = omega (arith, q.left) in ap (λ (x : ℕ). take x (drop s W)) z ∙ ap (λ (x : ℕ). take x (drop a W)) y
    go (inr u) (inr v) = let z : e - s ≡ 0 = omega arith in ap (λ (x : ℕ). take x (drop s W)) z ∙ sym (ap (take (b - a)) (let h : length W ≤ a = omega (arith, q.left) in drop_of_length-le W h) ∙ take-nil (b - a))

-- the first m words, and those from m on, as ranges
cut_take : (m : ℕ) (W : List Word) → cut 0 m W ≡ take m W
unfolding cut
cut_take m W = let e : m - 0 ≡ m = omega arith in ap (λ (x : ℕ). take x W) e

cut_drop : (m n : ℕ) (W : List Word) → n ≡ length W → cut m n W ≡ drop m W
unfolding cut
cut_drop m n W e = take_all (n - m) (drop m W) (omega (arith, length-drop m W))

pub first : (W : List Word) {O X : List Word} {k r : ℕ} (m : ℕ) → Appended O k (cut 0 m W) r X → Appended O k (take m W) r X
first W m a = appended_as (take m W) (cut_take m W) a

pub rest : (W : List Word) {O X : List Word} {k r : ℕ} (m n : ℕ) → n ≡ length W → Appended O k (cut m n W) r X → Appended O k (drop m W) r X
rest W m n e a = appended_as (drop m W) (cut_drop m n W e) a
