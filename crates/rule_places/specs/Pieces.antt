-- The search for a place, sixteen words at a time. Assumes nothing.
use Rattle.std.specs.Prelude.{◌≡◌, refl, Bool, true, false, cond, List, [], ◌∷◌, ℕ, zero, suc, ◌+◌, ◌-◌, ◌*◌, ◌<◌, ◌≤◌, length, take, drop}
use Rattle.std.proofs.Common.{ap, ap₂, sym, ◌∙◌, zero-add, arith, length-drop, drop-drop}
use Rattle.mem_words.specs.declared.Word.{Word}
use Rattle.mem_words.specs.declared.Word.TheVariants.{End, Free, Level, Num, Place, Inner, Bad}
use Rattle.mem_words.specs.Words.{words, word, place_word}
use Rattle.store_words.specs.Contexts.{place_at}
use Rattle.mem_tallies.specs.Tallies.{total, firsts, Tallied, sixteen, tallied_few}
use Rattle.rule_places.specs.declared.Ahead.{Ahead}
use Rattle.rule_places.specs.Finding.{begins, hits, passed, one_word}

-- 1 for a word with which a place begins
abbrev pub place_one : Word → ℕ
place_one w = cond (begins w) 1 0

-- sixteen words and one more are there from word i on, and m marks the bytes with which words begin
pub record InPiece (b : List ℕ) (i : ℕ) (m : List ℕ) : Type 0 where
  pub inside : i + 17 ≤ length (words b)
  pub marks : m ≡ firsts 16

-- the place at e is as far as it is from where the search stands
pub record AheadOf (W : List Word) (e : ℕ) (a : Ahead) : Type 0 where
  pub within : a.at ≤ length W
  pub same : a.at + place_at (drop a.at W) a.left ≡ e

pub one_not : (c v : ℕ) → (c ≡ 4 → ⊥) → 0 ≡ place_one (word c v)
one_not zero zero n = refl
one_not zero (suc v) n = refl
one_not (suc zero) v n = refl
one_not (suc (suc zero)) v n = refl
one_not (suc (suc (suc zero))) v n = refl
one_not (suc (suc (suc (suc zero)))) v n = absurd (n refl)
one_not (suc (suc (suc (suc (suc zero))))) v n = inner v
  where
    inner : (v : ℕ) → 0 ≡ place_one (word 5 v)
    inner zero = refl
    inner (suc zero) = refl
    inner (suc (suc zero)) = refl
    inner (suc (suc (suc zero))) = refl
    inner (suc (suc (suc (suc zero)))) = refl
    inner (suc (suc (suc (suc (suc zero))))) = refl
    inner (suc (suc (suc (suc (suc (suc zero)))))) = refl
    inner (suc (suc (suc (suc (suc (suc (suc zero))))))) = refl
    inner (suc (suc (suc (suc (suc (suc (suc (suc zero)))))))) = refl
    inner (suc (suc (suc (suc (suc (suc (suc (suc (suc zero))))))))) = refl
    inner (suc (suc (suc (suc (suc (suc (suc (suc (suc (suc zero)))))))))) = refl
    inner (suc (suc (suc (suc (suc (suc (suc (suc (suc (suc (suc zero))))))))))) = refl
    inner (suc (suc (suc (suc (suc (suc (suc (suc (suc (suc (suc (suc zero)))))))))))) = refl
    inner (suc (suc (suc (suc (suc (suc (suc (suc (suc (suc (suc (suc (suc v))))))))))))) = refl
one_not (suc (suc (suc (suc (suc (suc c)))))) v n = refl

place_high : (v : ℕ) → 7 ≤ v → 0 ≡ place_one (place_word v)
place_high zero h = absurd (omega arith)
place_high (suc zero) h = absurd (omega arith)
place_high (suc (suc zero)) h = absurd (omega arith)
place_high (suc (suc (suc zero))) h = absurd (omega arith)
place_high (suc (suc (suc (suc zero)))) h = absurd (omega arith)
place_high (suc (suc (suc (suc (suc zero))))) h = absurd (omega arith)
place_high (suc (suc (suc (suc (suc (suc zero)))))) h = absurd (omega arith)
place_high (suc (suc (suc (suc (suc (suc (suc v))))))) h = refl

place_low : (v : ℕ) → v < 7 → 1 ≡ place_one (place_word v)
place_low zero h = refl
place_low (suc zero) h = refl
place_low (suc (suc zero)) h = refl
place_low (suc (suc (suc zero))) h = refl
place_low (suc (suc (suc (suc zero)))) h = refl
place_low (suc (suc (suc (suc (suc zero))))) h = refl
place_low (suc (suc (suc (suc (suc (suc zero)))))) h = refl
place_low (suc (suc (suc (suc (suc (suc (suc v))))))) h = absurd (omega arith)

pub one_high : (c v : ℕ) → c ≡ 4 → 7 ≤ v → 0 ≡ place_one (word c v)
one_high c v e h = place_high v h ∙ ap (λ (k : ℕ). place_one (word k v)) (sym e)

pub one_low : (c v : ℕ) → c ≡ 4 → v < 7 → 1 ≡ place_one (word c v)
one_low c v e h = place_low v h ∙ ap (λ (k : ℕ). place_one (word k v)) (sym e)

one_le : (w : Word) → place_one w ≤ 1
one_le w = go (begins w)
  where
    go : (b : Bool) → cond b 1 0 ≤ 1
    go true = omega arith
    go false = omega arith

-- of sixteen words at most sixteen
pub tally_few : {b : List ℕ} {i k s : ℕ} → k ≤ 48 → Tallied place_one b i k s → s ≤ 16
tally_few h T = tallied_few 1 one_le h T

step_yes : (w : Word) (r : List Word) (p : ℕ) → begins w ≡ true → 1 ≤ p → place_at (w ∷ r) p ≡ suc (place_at r (p - 1))
step_yes w r zero e h = absurd (omega arith)
step_yes w r (suc p) e h = one_word w r (suc p) ∙ ap (λ (b : Bool). suc (place_at r (cond b (suc p - 1) (suc p)))) e

step_no : (w : Word) (r : List Word) (p : ℕ) → begins w ≡ false → place_at (w ∷ r) p ≡ suc (place_at r p)
step_no w r zero e = one_word w r zero ∙ ap (λ (b : Bool). cond b 0 (suc (place_at r (cond b (0 - 1) 0)))) e
step_no w r (suc p) e = one_word w r (suc p) ∙ ap (λ (b : Bool). suc (place_at r (cond b (suc p - 1) (suc p)))) e

-- places passed over
pub over : (n : ℕ) (l : List Word) (p : ℕ) → n ≤ length l → total place_one (take n l) ≤ p → place_at l p ≡ n + place_at (drop n l) (p - total place_one (take n l))
unfolding total
over zero l p h g = let e : p ≡ p - 0 = omega arith in ap (place_at l) e ∙ sym (zero-add (place_at l (p - 0)))
over (suc n) [] p h g = absurd (omega arith)
over (suc n) (w ∷ l) p h g = go (begins w) refl (over n l)
  where
    go : (b : Bool) → begins w ≡ b → ((q : ℕ) → n ≤ length l → total place_one (take n l) ≤ q → place_at l q ≡ n + place_at (drop n l) (q - total place_one (take n l)))
        → place_at (w ∷ l) p ≡ suc n + place_at (drop n l) (p - (place_one w + total place_one (take n l)))
    go true e rec =
        let o : place_one w ≡ 1 = ap (λ (b : Bool). cond b 1 0) e in
        let m : p - 1 - total place_one (take n l) ≡ p - (place_one w + total place_one (take n l)) = omega arith in
        step_yes w l p e (omega arith) ∙ ap suc (rec (p - 1) (omega arith) (omega arith)) ∙ ap (λ (k : ℕ). suc (n + place_at (drop n l) k)) m ∙ omega arith
    go false e rec =
        let o : place_one w ≡ 0 = ap (λ (b : Bool). cond b 1 0) e in
        let m : p - total place_one (take n l) ≡ p - (place_one w + total place_one (take n l)) = omega arith in
        step_no w l p e ∙ ap suc (rec p (omega arith) (omega arith)) ∙ ap (λ (k : ℕ). suc (n + place_at (drop n l) k)) m ∙ omega arith

pub ahead_none : (W : List Word) (p : ℕ) → 0 + place_at (drop 0 W) p ≡ place_at W p
ahead_none W p = zero-add (place_at W p)

pub ahead_more : (b : List ℕ) (i p q s : ℕ) → i + 17 ≤ length (words b) → Tallied place_one b i 48 s → s ≤ p → q ≡ p - s → i + place_at (drop i (words b)) p ≡ i + 16 + place_at (drop (i + 16) (words b)) q
ahead_more b i p q s h T g f =
    let W = words b in
    let t : s ≡ total place_one (take 16 (drop i W)) = sixteen T in
    let v : p - total place_one (take 16 (drop i W)) ≡ q = omega arith in
    let u : place_at (drop i W) p ≡ 16 + place_at (drop (i + 16) W) q =
    over 16 (drop i W) p (omega (arith, length-drop i W)) (omega arith) ∙ ap₂ (λ (l : List Word) (k : ℕ). 16 + place_at l k) (drop-drop 16 i W) v in
    omega (arith, u)
