-- The test of query variables, word by word. Assumes nothing.
use Rattle.std.specs.Prelude.{◌≡◌, refl, List, [], ◌∷◌, Bool, true, false, ◌&&◌, ◌||◌, not, ℕ, zero, suc, ◌+◌, ◌-◌, ◌≤◌, ◌<◌, eqb, leb, length, drop}
use Rattle.std.proofs.Common.{ap, sym, ◌∙◌, arith, eq-eqb, ne_eqb, drop-drop}
use Rattle.constraint.specs.Solve.{elem}
use Rattle.akl.specs.Base.{all, range}
use Rattle.mem_words.specs.declared.Word.{Word}
use Rattle.mem_words.specs.declared.Word.TheVariants.{End, Free, Level, Num, Place, Inner, Bad}
use Rattle.mem_words.specs.Words.{Read}
use Rattle.check_words.specs.Frees.{frees, is_and}
use Rattle.check_words.specs.Passes.{drop_word, drop_end, frees_past, goes_on, stops}
use Rattle.check_words.specs.Query.{up, down, depth_after, locals_after, box_passes, opening_passes, local_passes, word_passes, query_from, query_passed}

pub fall_is : (d : ℕ) → d - 1 ≡ down d
fall_is zero = refl
fall_is (suc d) = omega arith

pub rise_box : (b : Bool) (d : ℕ) → b ≡ true → d + 1 ≡ up b d
rise_box b d e = let z : d + 1 ≡ suc d = omega arith in z ∙ sym (ap (λ (b : Bool). up b d) e)

pub rise_none : (b : Bool) (d : ℕ) → b ≡ false → d ≡ 0 → 0 ≡ up b d
rise_none b d e z = sym (ap (λ (b : Bool). up b d) e ∙ ap (up false) z)

pub rise_some : (b : Bool) (d : ℕ) → b ≡ false → (d ≡ 0 → ⊥) → d + 1 ≡ up b d
rise_some b d e n = go d n ∙ sym (ap (λ (b : Bool). up b d) e)
  where
    go : (d : ℕ) → (d ≡ 0 → ⊥) → d + 1 ≡ up false d
    go zero n = absurd (n refl)
    go (suc d) n = omega arith

pub deep_at_most : (d : ℕ) (w : Word) → depth_after d w ≤ d + 1
deep_at_most zero End = omega arith
deep_at_most (suc d) End = omega arith
deep_at_most d (Free x) = omega arith
deep_at_most d (Level l) = omega arith
deep_at_most d (Num n) = omega arith
deep_at_most d (Place k) = go (is_and k) d
  where
    go : (b : Bool) (d : ℕ) → up b d ≤ d + 1
    go true d = omega arith
    go false zero = omega arith
    go false (suc d) = omega arith
deep_at_most zero (Inner s) = omega arith
deep_at_most (suc d) (Inner s) = omega arith
deep_at_most d Bad = omega arith

pub local_is : (q : ℕ) (l : Bool) (x : ℕ) → (not l || leb q x) ≡ local_passes q l x
local_is q true x = refl
local_is q false x = refl

-- whether x is among the variables at i, those before j having been looked at
pub record Looking (x : ℕ) (W : List Word) (i j : ℕ) : Type 0 where
  pub answer : elem x (frees (drop i W)) ≡ elem x (frees (drop j W))

pub look_none : {x : ℕ} {W : List Word} {i j : ℕ} → Looking x W i j → frees (drop j W) ≡ [] → false ≡ elem x (frees (drop i W))
unfolding elem
look_none {x} {W} {i} {j} l e = sym (l.answer ∙ ap (elem x) e)

step : (x y : ℕ) (W : List Word) (j : ℕ) → frees (drop j W) ≡ y ∷ frees (drop (j + 1) W) → elem x (frees (drop j W)) ≡ (eqb x y || elem x (frees (drop (j + 1) W)))
unfolding elem
step x y W j e = ap (elem x) e

pub look_found : {x y : ℕ} {W : List Word} {i j : ℕ} → Looking x W i j → frees (drop j W) ≡ y ∷ frees (drop (j + 1) W) → x ≡ y → true ≡ elem x (frees (drop i W))
look_found {x} {y} {W} {i} {j} l e q = sym (l.answer ∙ step x y W j e ∙ ap (λ (b : Bool). b || elem x (frees (drop (j + 1) W))) (eq-eqb x y q))

pub look_on : {x y : ℕ} {W : List Word} {i j : ℕ} → Looking x W i j → frees (drop j W) ≡ y ∷ frees (drop (j + 1) W) → (x ≡ y → ⊥) → Looking x W i (j + 1)
look_on {x} {y} {W} {i} {j} l e q = record { answer = l.answer ∙ step x y W j e ∙ ap (λ (b : Bool). b || elem x (frees (drop (j + 1) W))) (ne_eqb x y q) }

pub look_past : {x : ℕ} {W : List Word} {i j : ℕ} → length W ≤ j → Looking x W i j → false ≡ elem x (frees (drop i W))
unfolding elem
look_past {x} {W} {i} {j} h l = sym (l.answer ∙ ap (elem x) (frees_past W j h))

-- whether each of q variables passes a test, those below x having passed it
pub record Trying (p : ℕ → Bool) (q x : ℕ) : Type 0 where
  pub answer : all p (range 0 q) ≡ all p (range x (q - x))

pub try_first : (p : ℕ → Bool) (q : ℕ) → Trying p q 0
try_first p q = let e : q ≡ q - 0 = omega arith in record { answer = ap (λ (n : ℕ). all p (range 0 n)) e }

one : (p : ℕ → Bool) (q x : ℕ) → x < q → all p (range x (q - x)) ≡ (p x && all p (range (x + 1) (q - (x + 1))))
unfolding all range
one p q x h =
    let e : q - x ≡ suc (q - (x + 1)) = omega arith in
    let s : suc x ≡ x + 1 = omega arith in
    ap (λ (n : ℕ). all p (range x n)) e ∙ ap (λ (y : ℕ). p x && all p (range y (q - (x + 1)))) s

pub try_on : (p : ℕ → Bool) (q x : ℕ) → x < q → Trying p q x → p x ≡ true → Trying p q (x + 1)
try_on p q x h l t = record { answer = l.answer ∙ goes_on (all p (range x (q - x))) (p x) (all p (range (x + 1) (q - (x + 1)))) (one p q x h) t }

pub try_failed : (p : ℕ → Bool) (q x : ℕ) → x < q → Trying p q x → p x ≡ false → false ≡ all p (range 0 q)
try_failed p q x h l f = stops (all p (range x (q - x))) (p x) (all p (range (x + 1) (q - (x + 1)))) (one p q x h) f ∙ sym l.answer

pub try_last : (p : ℕ → Bool) (q x : ℕ) → q ≤ x → Trying p q x → true ≡ all p (range 0 q)
unfolding all range
try_last p q x h l = let e : q - x ≡ 0 = omega arith in sym (l.answer ∙ ap (λ (n : ℕ). all p (range x n)) e)

-- an opening
pub no_box : (q : ℕ) (b : Bool) (d : ℕ) (W : List Word) → b ≡ false → true ≡ opening_passes q b d W
no_box q b d W e = sym (ap (λ (b : Bool). opening_passes q b d W) e)

pub inner_box : (q : ℕ) (b : Bool) (d : ℕ) (W : List Word) → (d ≡ 0 → ⊥) → true ≡ opening_passes q b d W
inner_box q true zero W n = absurd (n refl)
inner_box q true (suc d) W n = refl
inner_box q false zero W n = refl
inner_box q false (suc d) W n = refl

pub outer_box : (q : ℕ) (b : Bool) (d : ℕ) (W : List Word) (i : ℕ) → b ≡ true → d ≡ 0 → all (λ x. elem x (frees (drop (i + 1) W))) (range 0 q) ≡ opening_passes q b d (drop i W)
unfolding box_passes
outer_box q b d W i e z =
    ap (λ (X : List Word). all (λ x. elem x (frees X)) (range 0 q)) (sym (drop-drop 1 i W))
    ∙ sym (ap (λ (b : Bool). opening_passes q b d (drop i W)) e ∙ ap (λ (d : ℕ). opening_passes q true d (drop i W)) z)

-- the words from i on are left
pub record Left (q : ℕ) (W : List Word) (l : Bool) (d i : ℕ) : Type 0 where
  pub answer : query_passed q W ≡ query_from q l d (drop i W)

pub begins : (q : ℕ) (W : List Word) → Left q W false 0 0
unfolding query_passed
begins q W = record { answer = refl }

read : (q : ℕ) (l : Bool) (d : ℕ) (W : List Word) (i : ℕ) (w : Word) → i < length W → Read W i w → query_from q l d (drop i W) ≡ (word_passes q l d w (drop (i + 1) W) && query_from q (locals_after l d w) (depth_after d w) (drop (i + 1) W))
unfolding query_from
read q l d W i w h e = ap (query_from q l d) (drop_word W i w h e)

pub goes : {q : ℕ} {W : List Word} {l : Bool} {d i : ℕ} {w : Word} (r : Bool) → i < length W → Left q W l d i → Read W i w → r ≡ word_passes q l d w (drop (i + 1) W) → r ≡ true → (m : Bool) (e : ℕ) → m ≡ locals_after l d w → e ≡ depth_after d w → Left q W m e (i + 1)
goes {q} {W} {l} {d} {i} {w} r h a e f t m k u v = record {
  answer =
      a.answer
      ∙ goes_on (query_from q l d (drop i W)) (word_passes q l d w (drop (i + 1) W)) (query_from q (locals_after l d w) (depth_after d w) (drop (i + 1) W)) (read q l d W i w h e) (sym f ∙ t)
      ∙ sym (ap (λ (m : Bool). query_from q m k (drop (i + 1) W)) u ∙ ap (λ (k : ℕ). query_from q (locals_after l d w) k (drop (i + 1) W)) v);
}

pub refuses : {q : ℕ} {W : List Word} {l : Bool} {d i : ℕ} {w : Word} (r : Bool) → i < length W → Left q W l d i → Read W i w → r ≡ word_passes q l d w (drop (i + 1) W) → r ≡ false → false ≡ query_passed q W
refuses {q} {W} {l} {d} {i} {w} r h a e f t =
    stops (query_from q l d (drop i W)) (word_passes q l d w (drop (i + 1) W)) (query_from q (locals_after l d w) (depth_after d w) (drop (i + 1) W)) (read q l d W i w h e) (sym f ∙ t) ∙ sym a.answer

pub ends : {q : ℕ} {W : List Word} {l : Bool} {d i : ℕ} → length W ≤ i → Left q W l d i → true ≡ query_passed q W
unfolding query_from
ends {q} {W} {l} {d} {i} h a = sym (a.answer ∙ ap (query_from q l d) (drop_end W i h))
