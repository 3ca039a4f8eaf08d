-- A finger in words: a position, and how many places begin before it. It stays right as long as the words before it stay. Assumes nothing.
use Rattle.std.specs.Prelude.{◌≡◌, refl, Bool, true, false, cond, List, [], ◌∷◌, ℕ, zero, suc, ◌+◌, ◌-◌, ◌<◌, ◌≤◌, length, take, drop}
use Rattle.std.proofs.Common.{ap, sym, ◌∙◌, arith}
use Rattle.mem_words.specs.declared.Word.{Word}
use Rattle.store_words.specs.Contexts.{place_at}
use Rattle.mem_tallies.specs.Tallies.{total}
use Rattle.rule_places.specs.declared.Finger.{Finger}
use Rattle.rule_places.specs.Finding.{begins, hits, passed, one_word}
use Rattle.rule_places.specs.Pieces.{place_one, over}

pub record Points (W : List Word) (f : Finger) : Type 0 where
  pub inside : f.at ≤ length W
  pub counted : f.before ≡ total place_one (take f.at W)

pub points_first : (W : List Word) → Points W (record { at = 0; before = 0 })
unfolding total
points_first W = record { inside = omega arith; counted = refl }

pub points_kept : (W X : List Word) (f : Finger) → Points W f → take f.at X ≡ take f.at W → f.at ≤ length X → Points X f
points_kept W X f q e h = record { inside = h; counted = q.counted ∙ ap (total place_one) (sym e) }

-- a place that is not before the finger is as far from it as it is
pub from_finger : (W : List Word) (f : Finger) (p : ℕ) → Points W f → f.before ≤ p → f.at + place_at (drop f.at W) (p - f.before) ≡ place_at W p
from_finger W f p q h =
    let e : p - f.before ≡ p - total place_one (take f.at W) = ap (λ (k : ℕ). p - k) q.counted in
    ap (λ (k : ℕ). f.at + place_at (drop f.at W) k) e ∙ sym (over f.at W p q.inside (omega (arith, q.counted, h)))

-- p places are before the one of number p
pub before_place : (W : List Word) (p : ℕ) → place_at W p < length W → total place_one (take (place_at W p) W) ≡ p
unfolding total
before_place [] p h = absurd (omega arith)
before_place (w ∷ W) p h = go (begins w) refl p (one_word w W p) h (before_place W)
  where
    go : (b : Bool) → begins w ≡ b → (p : ℕ) → place_at (w ∷ W) p ≡ cond (hits w p) 0 (suc (place_at W (passed w p))) → place_at (w ∷ W) p < suc (length W) → ((q : ℕ) → place_at W q < length W → total place_one (take (place_at W q) W) ≡ q) → total place_one (take (place_at (w ∷ W) p) (w ∷ W)) ≡ p
    go true e zero o h rec =
        let z : place_at (w ∷ W) zero ≡ 0 = o ∙ ap (λ (b : Bool). cond b 0 (suc (place_at W (passed w zero)))) e in
        ap (λ (k : ℕ). total place_one (take k (w ∷ W))) z
    go true e (suc p) o h rec =
        let m : passed w (suc p) ≡ p = ap (λ (b : Bool). cond b (suc p - 1) (suc p)) e ∙ omega arith in
        let z : place_at (w ∷ W) (suc p) ≡ suc (place_at W p) = o ∙ ap (λ (k : ℕ). suc (place_at W k)) m in
        let y : place_one w ≡ 1 = ap (λ (b : Bool). cond b 1 0) e in
        ap (λ (k : ℕ). total place_one (take k (w ∷ W))) z ∙ omega (arith, y, rec p (omega (arith, z, h)))
    go false e zero o h rec =
        let m : passed w zero ≡ zero = ap (λ (b : Bool). cond b (zero - 1) zero) e in
        let z : place_at (w ∷ W) zero ≡ suc (place_at W zero) = o ∙ ap (λ (b : Bool). cond b 0 (suc (place_at W (passed w zero)))) e ∙ ap (λ (k : ℕ). suc (place_at W k)) m in
        let y : place_one w ≡ 0 = ap (λ (b : Bool). cond b 1 0) e in
        ap (λ (k : ℕ). total place_one (take k (w ∷ W))) z ∙ omega (arith, y, rec zero (omega (arith, z, h)))
    go false e (suc p) o h rec =
        let m : passed w (suc p) ≡ suc p = ap (λ (b : Bool). cond b (suc p - 1) (suc p)) e in
        let z : place_at (w ∷ W) (suc p) ≡ suc (place_at W (suc p)) = o ∙ ap (λ (k : ℕ). suc (place_at W k)) m in
        let y : place_one w ≡ 0 = ap (λ (b : Bool). cond b 1 0) e in
        ap (λ (k : ℕ). total place_one (take k (w ∷ W))) z ∙ omega (arith, y, rec (suc p) (omega (arith, z, h)))
