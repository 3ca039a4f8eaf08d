-- Bytes are the bytes of the numbers in them. Assumes nothing.
use mathlib.Core.Path.{◌≡◌, refl, sym, ap, ap₂, ◌∙◌, subst}
use mathlib.Core.List.{List, [], ◌∷◌}
use Prim.Native.Nat.{ℕ, zero, suc, ◌+◌, ◌*◌, ◌/◌, ◌%◌, ◌≤◌, ◌<◌}
use native.Mathlib.Omega.{arith}
use native.Mathlib.Numerals.{add-one}
use lib.ListN.{length, get_or, take, drop, drop_of_length-le}
use lib.Seq.{drop-cons, length-take-le, get_or-take}
use Rattle.mem_numbers.specs.Numbers.{value_at, triples, length_triples, get_or_triples}
use Rattle.mem_numbers.specs.Prefix.{triples_prefix}
use Rattle.mem_words.specs.Form.{Bytes}
use Rattle.store_form.specs.Form.{number_bytes, numbers_bytes}

-- every element is a byte, as code knows it of a lent slice
abbrev pub ByteList : List ℕ → Type 0
ByteList l = (i : ℕ) → get_or l i 0 < 256

pub all_bytes : (l : List ℕ) → ByteList l → Bytes l
all_bytes [] h = tt
all_bytes (x ∷ l) h = (h 0, all_bytes l (λ i. h (suc i)))

-- three bytes and what follows them
three_of : (l : List ℕ) (j : ℕ) → j + 3 ≤ length l → drop j l ≡ get_or l j 0 ∷ (get_or l (j + 1) 0 ∷ (get_or l (j + 1 + 1) 0 ∷ drop (j + 3) l))
three_of l j h =
    let e : suc (j + 1 + 1) ≡ j + 3 = omega arith in
    drop-cons l j 0 (omega arith) ∙ ap (λ (x : List ℕ). get_or l j 0 ∷ x)
    (ap (λ (k : ℕ). drop k l) (sym (add-one j)) ∙ drop-cons l (j + 1) 0 (omega arith) ∙ ap (λ (x : List ℕ). get_or l (j + 1) 0 ∷ x)
    (ap (λ (k : ℕ). drop k l) (sym (add-one (j + 1))) ∙ drop-cons l (j + 1 + 1) 0 (omega arith) ∙ ap (λ (k : ℕ). get_or l (j + 1 + 1) 0 ∷ drop k l) e))

low : (b c : ℕ) → b < 256 → (b + c * 256) % 256 ≡ b
low b c h = omega arith

small : (c : ℕ) → c < 256 → c % 256 ≡ c
small c h = omega arith

number_there : (a b c : ℕ) (r : List ℕ) → a < 256 → b < 256 → c < 256 → number_bytes (a + (b + (c + 0 * 256) * 256) * 256) r ≡ a ∷ (b ∷ (c ∷ r))
unfolding number_bytes
number_there a b c r ha hb hc =
    let v = a + (b + (c + 0 * 256) * 256) * 256 in
    let p : v % 256 ≡ a = omega arith in
    let d : v / 256 ≡ b + c * 256 = omega arith in
    let q : v / 256 % 256 ≡ b = ap (λ (x : ℕ). x % 256) d ∙ low b c hb in
    let t : v / 65536 ≡ c = omega arith in
    let s : v / 65536 % 256 ≡ c = ap (λ (x : ℕ). x % 256) t ∙ small c hc in
    ap₂ (λ (x : ℕ) (y : List ℕ). x ∷ y) p (ap₂ (λ (x : ℕ) (y : List ℕ). x ∷ y) q (ap (λ (x : ℕ). x ∷ r) s))

numbers_from : (n i : ℕ) (l : List ℕ) → length l ≡ 3 * (i + n) → ByteList l → numbers_bytes (drop i (triples l)) ≡ drop (3 * i) l
unfolding numbers_bytes
numbers_from zero i l e b =
    let f : length (triples l) ≤ i = omega (arith, length_triples l) in
    let g : length l ≤ 3 * i = omega arith in
    ap numbers_bytes (drop_of_length-le (triples l) f) ∙ sym (drop_of_length-le l g)
numbers_from (suc n) i l e b =
    let f : i < length (triples l) = omega (arith, length_triples l) in
    let h = numbers_from n (suc i) l (omega arith) b in
    let k : 3 * suc i ≡ 3 * i + 3 = omega arith in
    ap numbers_bytes (drop-cons (triples l) i 0 f)
    ∙ ap₂ number_bytes (get_or_triples l i f) (h ∙ ap (λ (j : ℕ). drop j l) k)
    ∙ number_there (get_or l (3 * i) 0) (get_or l (3 * i + 1) 0) (get_or l (3 * i + 1 + 1) 0) (drop (3 * i + 3) l) (b (3 * i)) (b (3 * i + 1)) (b (3 * i + 1 + 1))
    ∙ sym (three_of l (3 * i) (omega arith))

-- whole numbers
pub numbers_there : (n : ℕ) (l : List ℕ) → length l ≡ 3 * n → ByteList l → numbers_bytes (triples l) ≡ l
numbers_there n l e b = numbers_from n 0 l (omega arith) b

take_bytes : (k : ℕ) (l : List ℕ) → ByteList l → ByteList (take k l)
take_bytes zero l b i = omega arith
take_bytes (suc k) [] b i = omega arith
take_bytes (suc k) (x ∷ l) b zero = b 0
take_bytes (suc k) (x ∷ l) b (suc i) = take_bytes k l (λ j. b (suc j)) i

-- the first n
pub first_numbers : (n : ℕ) (l : List ℕ) → 3 * n ≤ length l → ByteList l → numbers_bytes (take n (triples l)) ≡ take (3 * n) l
first_numbers n l h b = ap numbers_bytes (sym (triples_prefix l n h)) ∙ numbers_there n (take (3 * n) l) (length-take-le (3 * n) l h) (take_bytes (3 * n) l b)
