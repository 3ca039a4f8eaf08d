-- The search for a definition, one after another. Assumes nothing.
use Rattle.std.specs.Prelude.{◌≡◌, refl, Bool, true, false, cond, ◌&&◌, List, ℕ, zero, suc, ◌+◌, ◌-◌, ◌<◌, ◌≤◌, eqb, ltb, length, get_or}
use Rattle.std.proofs.Common.{ap, ap₂, sym, ◌∙◌, arith, lt-ltb, le-ltb, eq-eqb, ne_eqb}
use Rattle.std.proofs.Math.Decide.{dec_lt}
use Rattle.mem_words.specs.declared.Word.{Word}
use Rattle.mem_words.specs.declared.Word.TheVariants.{Bad}
use Rattle.rule_words.specs.Scans.{close}
use Rattle.rule_words.proofs.Loops.{close_inside, close_past}
use Rattle.rule_effects.specs.Effects.{behind, number_in, heads_match, body_from, body_of}

-- the next definition is further on
pub further : (D : List Word) (j : ℕ) → j < length D → j < close D (j + 2)
further D j h = go (dec_lt (j + 2) (length D))
  where
    go : Dec (j + 2 < length D) → j < close D (j + 2)
    go (yes a) = omega (arith, close_inside D (j + 2) a)
    go (no a) = omega (arith, close_past D (j + 2) (omega arith))

past : (D : List Word) (f j p n : ℕ) → length D ≤ j → body_from f D j p n ≡ length D
unfolding body_from
past D zero j p n h = refl
past D (suc f) j p n h = ap (λ (b : Bool). cond b (cond (heads_match D j p n) (j + 2) (body_from f D (behind D (j + 2)) p n)) (length D)) (le-ltb j (length D) h)

on : (D : List Word) (f j p n : ℕ) → j < length D → body_from (suc f) D j p n ≡ cond (heads_match D j p n) (j + 2) (body_from f D (behind D (j + 2)) p n)
unfolding body_from
on D f j p n h = ap (λ (b : Bool). cond b (cond (heads_match D j p n) (j + 2) (body_from f D (behind D (j + 2)) p n)) (length D)) (lt-ltb j (length D) h)

-- any bound that is large enough does
enough : (f g : ℕ) (D : List Word) (j p n : ℕ) → length D ≤ f + j → length D ≤ g + j → body_from f D j p n ≡ body_from g D j p n
enough zero g D j p n a b = let h : length D ≤ j = omega arith in past D zero j p n h ∙ sym (past D g j p n h)
enough (suc f) zero D j p n a b = let h : length D ≤ j = omega arith in past D (suc f) j p n h ∙ sym (past D zero j p n h)
enough (suc f) (suc g) D j p n a b = go (dec_lt j (length D)) (λ x y. enough f g D (behind D (j + 2)) p n x y)
  where
    go : Dec (j < length D) → (length D ≤ f + behind D (j + 2) → length D ≤ g + behind D (j + 2) → body_from f D (behind D (j + 2)) p n ≡ body_from g D (behind D (j + 2)) p n) → body_from (suc f) D j p n ≡ body_from (suc g) D j p n
    go (yes h) ih =
        let k = further D j h in
        on D f j p n h ∙ ap (cond (heads_match D j p n) (j + 2)) (ih (omega (arith, k)) (omega (arith, k))) ∙ sym (on D g j p n h)
    go (no h) ih = let l : length D ≤ j = omega arith in past D (suc f) j p n l ∙ sym (past D (suc g) j p n l)

-- how the search goes on from j
unfoldable pub left : List Word → ℕ → ℕ → ℕ → ℕ
left D j p n = body_from (length D) D j p n

turn : (D : List Word) (j p n : ℕ) → j < length D → left D j p n ≡ cond (heads_match D j p n) (j + 2) (left D (behind D (j + 2)) p n)
unfolding left
turn D j p n h =
    let f : ℕ = length D - 1 in
    let e : length D ≡ suc f = omega arith in
    let k = further D j h in
    ap (λ (x : ℕ). body_from x D j p n) e ∙ on D f j p n h ∙ ap (cond (heads_match D j p n) (j + 2)) (enough f (length D) D (behind D (j + 2)) p n (omega (arith, k)) (omega arith))

pub found_here : (D : List Word) (j p n : ℕ) (b : Bool) → j < length D → b ≡ heads_match D j p n → b ≡ true → j + 2 ≡ left D j p n
found_here D j p n b h e t = sym (turn D j p n h ∙ ap (λ (x : Bool). cond x (j + 2) (left D (behind D (j + 2)) p n)) (sym e ∙ t))

pub not_here : (D : List Word) (j p n c : ℕ) (b : Bool) → j < length D → b ≡ heads_match D j p n → b ≡ false → c ≡ close D (j + 2) → left D (c + 1) p n ≡ left D j p n
not_here D j p n c b h e t q = ap (λ (x : ℕ). left D (x + 1) p n) q ∙ sym (turn D j p n h ∙ ap (λ (x : Bool). cond x (j + 2) (left D (behind D (j + 2)) p n)) (sym e ∙ t))

pub not_found : (D : List Word) (j p n : ℕ) → length D ≤ j → length D ≡ left D j p n
unfolding left
not_found D j p n h = sym (past D (length D) j p n h)

-- the two tests of a head
pub head_is : (D : List Word) (j p n x y : ℕ) → x ≡ number_in (get_or D j Bad) → y ≡ number_in (get_or D (j + 1) Bad) → x ≡ p → y ≡ n → true ≡ heads_match D j p n
unfolding heads_match
head_is D j p n x y e f a b = sym (ap₂ (λ (u v : Bool). u && v) (eq-eqb _ p (sym e ∙ a)) (eq-eqb _ n (sym f ∙ b)))

pub name_is_not : (D : List Word) (j p n x : ℕ) → x ≡ number_in (get_or D j Bad) → (x ≡ p → ⊥) → false ≡ heads_match D j p n
unfolding heads_match
name_is_not D j p n x e a = sym (ap (λ (u : Bool). u && eqb (number_in (get_or D (j + 1) Bad)) n) (ne_eqb _ p (λ q. a (e ∙ q))))

pub arity_is_not : (D : List Word) (j p n x y : ℕ) → x ≡ number_in (get_or D j Bad) → y ≡ number_in (get_or D (j + 1) Bad) → x ≡ p → (y ≡ n → ⊥) → false ≡ heads_match D j p n
unfolding heads_match
arity_is_not D j p n x y e f a b = sym (ap₂ (λ (u v : Bool). u && v) (eq-eqb _ p (sym e ∙ a)) (ne_eqb _ n (λ q. b (f ∙ q))))

-- the search for the body of an atom
pub body_of_is : (W D : List Word) (i p n v r : ℕ) → p ≡ number_in (get_or W (i + 2) Bad) → v ≡ close W (i + 1) → n ≡ v - (i + 3) → r ≡ left D 0 p n → r ≡ body_of W D i
unfolding body_of left
body_of_is W D i p n v r e q t f = f ∙ ap₂ (body_from (length D) D 0) e (t ∙ ap (λ (x : ℕ). x - (i + 3)) q)
