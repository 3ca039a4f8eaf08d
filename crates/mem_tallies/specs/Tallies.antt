-- What a run of words comes to, each word counted by a function of it, added up over the bytes of the run: every byte is looked at
-- with the two behind it as if a word began with it, and what does not begin one counts nothing. Assumes nothing.
use Rattle.std.specs.Prelude.{◌≡◌, refl, List, [], ◌∷◌, ◌++◌, ℕ, zero, suc, ◌+◌, ◌-◌, ◌*◌, ◌/◌, ◌<◌, ◌≤◌, length, get_or, take, drop}
use Rattle.std.proofs.Common.{ap, ap₂, sym, subst, ◌∙◌, add-one, arith, length-drop, take-suc, get_or-drop}
use Rattle.std.proofs.Math.Decide.{ℕ_discrete}
use Rattle.mem_words.specs.declared.Word.{Word}
use Rattle.mem_words.specs.declared.Word.TheVariants.{Bad}
use Rattle.mem_words.specs.Words.{words, word, get_d_words}

-- what the words come to
unfoldable pub total : (Word → ℕ) → List Word → ℕ
total f [] = 0
total f (w ∷ l) = f w + total f l

-- among the bytes of n words: 1 for those with which they begin, 0 for the others
unfoldable pub firsts : ℕ → List ℕ
firsts zero = []
firsts (suc n) = 1 ∷ 0 ∷ 0 ∷ firsts n

pub marks_many : {m : List ℕ} → m ≡ firsts 16 → length m ≡ 48
unfolding firsts
marks_many e = ap length e

-- what counts only at such a byte
abbrev pub if_first : ℕ → ℕ → ℕ
if_first zero x = 0
if_first (suc m) x = x

pub first_no : (m x : ℕ) → m ≡ 0 → 0 ≡ if_first m x
first_no m x e = ap (λ (k : ℕ). if_first k x) (sym e)

pub first_yes : (m x r : ℕ) → (m ≡ 0 → ⊥) → r ≡ x → r ≡ if_first m x
first_yes zero x r n e = absurd (n refl)
first_yes (suc m) x r n e = e

-- s is what the words come to, from word i on, that begin in the first k bytes
pub record Tallied (f : Word → ℕ) (b : List ℕ) (i k s : ℕ) : Type 0 where
  pub is : s ≡ total f (take ((k + 2) / 3) (drop i (words b)))

-- the three bytes that are looked at, and whether a word begins with the first
pub record Looked (b : List ℕ) (i k m c lo hi : ℕ) : Type 0 where
  pub inside : i + 17 ≤ length (words b)
  pub near : k < 48
  pub mark : m ≡ get_or (firsts 16) k 0
  pub class : c ≡ get_or b (3 * i + k) 0
  pub low : lo ≡ get_or b (3 * i + k + 1) 0
  pub high : hi ≡ get_or b (3 * i + k + 2) 0

pub total_append : (f : Word → ℕ) (a b : List Word) → total f (a ++ b) ≡ total f a + total f b
unfolding total
total_append f [] b = omega arith
total_append f (w ∷ a) b = omega (arith, total_append f a b)

total_few : (f : Word → ℕ) (m : ℕ) → ((w : Word) → f w ≤ m) → (n : ℕ) (l : List Word) → total f (take n l) ≤ m * n
unfolding total
total_few f m h zero l = omega arith
total_few f m h (suc n) [] = omega arith
total_few f m h (suc n) (w ∷ l) = omega (arith, h w, total_few f m h n l)

-- one word more
total_suc : (f : Word → ℕ) (l : List Word) (n : ℕ) → n < length l → total f (take (n + 1) l) ≡ total f (take n l) + f (get_or l n Bad)
unfolding total
total_suc f l n h =
    ap (λ (k : ℕ). total f (take k l)) (add-one n) ∙ ap (total f) (take-suc l n Bad h)
    ∙ total_append f (take n l) (get_or l n Bad ∷ []) ∙ omega arith

first_at : (n q : ℕ) → q < n → get_or (firsts n) (3 * q) 0 ≡ 1
unfolding firsts
first_at zero q h = absurd (omega arith)
first_at (suc n) zero h = refl
first_at (suc n) (suc q) h = let e : 3 * suc q ≡ suc (suc (suc (3 * q))) = omega arith in ap (λ (k : ℕ). get_or (firsts (suc n)) k 0) e ∙ first_at n q (omega arith)

second_at : (n q : ℕ) → q < n → get_or (firsts n) (3 * q + 1) 0 ≡ 0
unfolding firsts
second_at zero q h = absurd (omega arith)
second_at (suc n) zero h = refl
second_at (suc n) (suc q) h = let e : 3 * suc q + 1 ≡ suc (suc (suc (3 * q + 1))) = omega arith in ap (λ (k : ℕ). get_or (firsts (suc n)) k 0) e ∙ second_at n q (omega arith)

third_at : (n q : ℕ) → q < n → get_or (firsts n) (3 * q + 2) 0 ≡ 0
unfolding firsts
third_at zero q h = absurd (omega arith)
third_at (suc n) zero h = refl
third_at (suc n) (suc q) h = let e : 3 * suc q + 2 ≡ suc (suc (suc (3 * q + 2))) = omega arith in ap (λ (k : ℕ). get_or (firsts (suc n)) k 0) e ∙ third_at n q (omega arith)

pub tallied_none : (f : Word → ℕ) (b : List ℕ) (i : ℕ) → Tallied f b i 0 0
unfolding total
tallied_none f b i = record { is = refl }

pub tallied_more : {f : Word → ℕ} {b : List ℕ} {i k s m c lo hi r : ℕ} → Tallied f b i k s → Looked b i k m c lo hi → r ≡ if_first m (f (word c (lo + hi * 256))) → Tallied f b i (k + 1) (s + r)
tallied_more {f} {b} {i} {k} {s} {m} {c} {lo} {hi} {r} T o e = record { is = go (k / 3) (ℕ_discrete k (3 * (k / 3))) (ℕ_discrete k (3 * (k / 3) + 1)) refl }
  where
    after : ℕ → ℕ
    after n = total f (take n (drop i (words b)))

    skipped : (q : ℕ) → (k + 2) / 3 ≡ q → (k + 1 + 2) / 3 ≡ q → m ≡ 0 → s + r ≡ after ((k + 1 + 2) / 3)
    skipped q u v z =
        let y : r ≡ 0 = e ∙ ap (λ (n : ℕ). if_first n (f (word c (lo + hi * 256)))) z in
        let x : s + r ≡ s = omega arith in
        x ∙ T.is ∙ ap after (u ∙ sym v)

    go : (q : ℕ) → Dec (k ≡ 3 * q) → Dec (k ≡ 3 * q + 1) → q ≡ k / 3 → s + r ≡ after ((k + 1 + 2) / 3)
    go q (yes h) _ g =
        let near : k < 48 = o.near in
        let inside : i + 17 ≤ length (words b) = o.inside in
        let z : m ≡ 1 = o.mark ∙ ap (λ (n : ℕ). get_or (firsts 16) n 0) h ∙ first_at 16 q (omega arith) in
        let y : r ≡ f (word c (lo + hi * 256)) = e ∙ ap (λ (n : ℕ). if_first n (f (word c (lo + hi * 256)))) z in
        let at : 3 * i + k ≡ 3 * (i + q) = omega arith in
        let lo_at : 3 * i + k + 1 ≡ 3 * (i + q) + 1 = omega arith in
        let hi_at : 3 * i + k + 2 ≡ 3 * (i + q) + 1 + 1 = omega arith in
        let c_is : c ≡ get_or b (3 * (i + q)) 0 = o.class ∙ ap (λ (n : ℕ). get_or b n 0) at in
        let lo_is : lo ≡ get_or b (3 * (i + q) + 1) 0 = o.low ∙ ap (λ (n : ℕ). get_or b n 0) lo_at in
        let hi_is : hi ≡ get_or b (3 * (i + q) + 1 + 1) 0 = o.high ∙ ap (λ (n : ℕ). get_or b n 0) hi_at in
        let v_is : lo + hi * 256 ≡ get_or b (3 * (i + q) + 1) 0 + (get_or b (3 * (i + q) + 1 + 1) 0 + 0 * 256) * 256 = omega arith in
        let w_is : word c (lo + hi * 256) ≡ get_or (drop i (words b)) q Bad = ap₂ word c_is v_is ∙ sym (get_d_words b (i + q) (omega arith)) ∙ sym (get_or-drop i (words b) q Bad) in
        let x : s + r ≡ after ((k + 2) / 3) + f (get_or (drop i (words b)) q Bad) = ap₂ (λ (a d : ℕ). a + d) T.is (y ∙ ap f w_is) in
        let u : (k + 2) / 3 ≡ q = omega arith in
        let t : (k + 1 + 2) / 3 ≡ q + 1 = omega arith in
        x ∙ ap (λ (n : ℕ). after n + f (get_or (drop i (words b)) q Bad)) u ∙ sym (total_suc f (drop i (words b)) q (omega (arith, length-drop i (words b)))) ∙ ap after (sym t)
    go q (no h) (yes h1) g =
        let near : k < 48 = o.near in
        skipped (q + 1) (omega arith) (omega arith) (o.mark ∙ ap (λ (n : ℕ). get_or (firsts 16) n 0) h1 ∙ second_at 16 q (omega arith))
    go q (no h) (no h1) g =
        let near : k < 48 = o.near in
        let h2 : k ≡ 3 * q + 2 = omega arith in
        skipped (q + 1) (omega arith) (omega arith) (o.mark ∙ ap (λ (n : ℕ). get_or (firsts 16) n 0) h2 ∙ third_at 16 q (omega arith))

-- sixteen words
pub tallied_all : {f : Word → ℕ} {b : List ℕ} {i k s : ℕ} → k ≡ 48 → Tallied f b i k s → Tallied f b i 48 s
tallied_all {f} {b} {i} {k} {s} e T = subst (λ (n : ℕ). Tallied f b i n s) e T

pub sixteen : {f : Word → ℕ} {b : List ℕ} {i s : ℕ} → Tallied f b i 48 s → s ≡ total f (take 16 (drop i (words b)))
sixteen T = T.is

-- at most sixteen times what one word can come to
pub tallied_few : {f : Word → ℕ} {b : List ℕ} {i k s : ℕ} (m : ℕ) → ((w : Word) → f w ≤ m) → k ≤ 48 → Tallied f b i k s → s ≤ m * 16
tallied_few {f} {b} {i} {k} {s} m g h T =
    let e : (k + 2) / 3 ≤ 16 = omega arith in
    let u : s ≤ m * ((k + 2) / 3) = omega (arith, T.is, total_few f m g ((k + 2) / 3) (drop i (words b))) in
    ≤_trans u (mul_le m e)
  where
    mul_le : (m : ℕ) {x y : ℕ} → x ≤ y → m * x ≤ m * y
    mul_le zero h = omega arith
    mul_le (suc m) h = omega (arith, mul_le m h)

    ≤_trans : {x y z : ℕ} → x ≤ y → y ≤ z → x ≤ z
    ≤_trans h g = omega (arith, h, g)
