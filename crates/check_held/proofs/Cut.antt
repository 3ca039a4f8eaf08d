-- Bytes cut into pieces and put together again: numbers of three bytes, words, regions with zeros behind what is used.
use mathlib.Core.Path.{◌≡◌, refl, ap, ap₂, sym, ◌∙◌, subst}
use mathlib.Core.List.{List, [], ◌∷◌, ◌++◌, append_assoc, map}
use Prim.Native.Nat.{ℕ, zero, suc, ◌+◌, ◌-◌, ◌*◌, ◌/◌, ◌%◌, ◌<◌, ◌≤◌}
use native.Mathlib.Omega.{arith}
use native.Mathlib.Decide.{ℕ_discrete}
use lib.ListN.{length, get_or, take, drop, replicate, length-replicate, length-drop, take-append-drop}
use lib.Seq.{ext_get_or, length-take-le, get_or-take, get_or-drop, drop-drop, get_or-append-add}
use Rattle.mem_numbers.specs.Numbers.{triples, value_at, length_triples, get_or_triples, zero_byte}
use Rattle.mem_numbers.specs.Chunks.{chunks}
use Rattle.mem_words.specs.Words.{words, read_word, word_small}
use Rattle.mem_words.specs.Form.{Bytes, AllSmall}
use Rattle.store_form.specs.Form.{number_bytes, numbers_bytes, region}
use Rattle.store_form.specs.Holding.{piece}
use Rattle.store_form.proofs.Bytes.{Triples, length_numbers_bytes, numbers_back}
use Rattle.check_zeros.specs.Zeros.{Zeros}

-- ---------------------------------------------------------------------------------------------
-- Bytes below 256.

pub byte_at : (l : List ℕ) → Bytes l → (i : ℕ) → get_or l i 0 < 256
byte_at [] b i = omega arith
byte_at (x ∷ l) b zero = b.0
byte_at (x ∷ l) b (suc i) = byte_at l b.1 i

pub bytes_take : (n : ℕ) (l : List ℕ) → Bytes l → Bytes (take n l)
bytes_take zero l b = tt
bytes_take (suc n) [] b = tt
bytes_take (suc n) (x ∷ l) b = (b.0, bytes_take n l b.1)

pub bytes_drop : (n : ℕ) (l : List ℕ) → Bytes l → Bytes (drop n l)
bytes_drop zero l b = b
bytes_drop (suc n) [] b = tt
bytes_drop (suc n) (x ∷ l) b = bytes_drop n l b.1

pub bytes_piece : (o k : ℕ) (b : List ℕ) → Bytes b → Bytes (piece o k b)
unfolding piece
bytes_piece o k b h = bytes_take (3 * k) (drop o b) (bytes_drop o b h)

pub bytes_numbers : (L : List ℕ) → Bytes (numbers_bytes L)
unfolding numbers_bytes number_bytes
bytes_numbers [] = tt
bytes_numbers (v ∷ L) = (omega arith, (omega arith, (omega arith, bytes_numbers L)))

-- ---------------------------------------------------------------------------------------------
-- Numbers.

-- bytes below 256 of one length that are cut into the same numbers are the same
three_bytes : (a b c x y z : ℕ) → a < 256 → b < 256 → c < 256 → x < 256 → y < 256 → z < 256 → a + (b + (c + 0 * 256) * 256) * 256 ≡ x + (y + (z + 0 * 256) * 256) * 256 → (a ≡ x) × (b ≡ y) × (c ≡ z)
three_bytes a b c x y z p q r s t u e = (omega arith, omega arith, omega arith)

triples_once : (n : ℕ) (l m : List ℕ) → length l ≡ 3 * n → length m ≡ 3 * n → Bytes l → Bytes m → triples l ≡ triples m → l ≡ m
triples_once n l m p q b d e = ext_get_or 0 l m (p ∙ sym q) (λ j h. at j (omega arith))
  where
    whole : (i : ℕ) → i < n → (get_or l (3 * i) 0 ≡ get_or m (3 * i) 0) × (get_or l (3 * i + 1) 0 ≡ get_or m (3 * i + 1) 0) × (get_or l (3 * i + 1 + 1) 0 ≡ get_or m (3 * i + 1 + 1) 0)
    whole i h =
        let u : i < length (triples l) = omega (arith, length_triples l) in
        let v : i < length (triples m) = omega (arith, length_triples m) in
        let w : value_at 3 l (3 * i) ≡ value_at 3 m (3 * i) = sym (get_or_triples l i u) ∙ ap (λ (t : List ℕ). get_or t i 0) e ∙ get_or_triples m i v in
        three_bytes (get_or l (3 * i) 0) (get_or l (3 * i + 1) 0) (get_or l (3 * i + 1 + 1) 0) (get_or m (3 * i) 0) (get_or m (3 * i + 1) 0) (get_or m (3 * i + 1 + 1) 0) (byte_at l b (3 * i)) (byte_at l b (3 * i + 1)) (byte_at l b (3 * i + 1 + 1)) (byte_at m d (3 * i)) (byte_at m d (3 * i + 1)) (byte_at m d (3 * i + 1 + 1)) w

    there : (j k : ℕ) → j ≡ k → get_or l k 0 ≡ get_or m k 0 → get_or l j 0 ≡ get_or m j 0
    there j k z w = ap (λ (i : ℕ). get_or l i 0) z ∙ w ∙ ap (λ (i : ℕ). get_or m i 0) (sym z)

    at : (j : ℕ) → j < 3 * n → get_or l j 0 ≡ get_or m j 0
    at j h = go (ℕ_discrete (j % 3) 0) (ℕ_discrete (j % 3) 1) (whole (j / 3) (omega arith))
      where
        go : Dec (j % 3 ≡ 0) → Dec (j % 3 ≡ 1) → (get_or l (3 * (j / 3)) 0 ≡ get_or m (3 * (j / 3)) 0) × (get_or l (3 * (j / 3) + 1) 0 ≡ get_or m (3 * (j / 3) + 1) 0) × (get_or l (3 * (j / 3) + 1 + 1) 0 ≡ get_or m (3 * (j / 3) + 1 + 1) 0) → get_or l j 0 ≡ get_or m j 0
        go (yes z) y w = there j (3 * (j / 3)) (omega arith) w.0
        go (no z) (yes y) w = there j (3 * (j / 3) + 1) (omega arith) w.1
        go (no z) (no y) w = there j (3 * (j / 3) + 1 + 1) (omega arith) w.2

-- numbers of three bytes
small_triples : (L : List ℕ) → ((i : ℕ) → i < length L → get_or L i 0 < 16777216) → Triples L
small_triples [] h = tt
small_triples (v ∷ L) h = (h 0 (omega arith), small_triples L (λ i g. h (suc i) (omega arith)))

value_small : (l : List ℕ) → Bytes l → (i : ℕ) → i < length (triples l) → get_or (triples l) i 0 < 16777216
value_small l b i h =
    let e = get_or_triples l i h in
    let x = byte_at l b (3 * i) in
    let y = byte_at l b (3 * i + 1) in
    let z = byte_at l b (3 * i + 1 + 1) in
    omega arith

-- the bytes of the numbers that bytes are cut into are those bytes
pub triples_bytes : (n : ℕ) (l : List ℕ) → length l ≡ 3 * n → Bytes l → numbers_bytes (triples l) ≡ l
triples_bytes n l e b =
    let t = length_triples l in
    let k = length_numbers_bytes (triples l) in
    triples_once n (numbers_bytes (triples l)) l (omega arith) e (bytes_numbers (triples l)) b (numbers_back (triples l) (small_triples (triples l) (value_small l b)))

-- ---------------------------------------------------------------------------------------------
-- Regions.

pub length_piece : (o k : ℕ) (b : List ℕ) → o + 3 * k ≤ length b → length (piece o k b) ≡ 3 * k
unfolding piece
length_piece o k b h = length-take-le (3 * k) (drop o b) (omega (arith, length-drop o b))

-- a list that begins with k bytes and has zeros behind them up to n
zeros_are : (k n : ℕ) (l : List ℕ) → k ≤ n → n ≤ length l → Zeros l k n → take (n - k) (drop k l) ≡ replicate (n - k) 0
zeros_are k n l h g z =
    let d = length-drop k l in
    let e : length (take (n - k) (drop k l)) ≡ n - k = length-take-le (n - k) (drop k l) (omega arith) in
    ext_get_or 0 (take (n - k) (drop k l)) (replicate (n - k) 0) (e ∙ sym (length-replicate {A = ℕ} (n - k) 0)) (λ i j. at i (omega arith))
  where
    at : (i : ℕ) → i < n - k → get_or (take (n - k) (drop k l)) i 0 ≡ get_or (replicate (n - k) 0) i 0
    at i j = get_or-take (n - k) (drop k l) i 0 j ∙ get_or-drop k l i 0 ∙ z (k + i) (omega arith) (omega arith) ∙ sym (zero_byte (n - k) i)

pub as_region : (k n : ℕ) (l : List ℕ) → k ≤ n → n ≤ length l → Zeros l k n → l ≡ region n (take k l) (drop n l)
unfolding region
as_region k n l h g z =
    let e : length (take k l) ≡ k = length-take-le k l (omega arith) in
    let d : k + (n - k) ≡ n = omega arith in
    sym (take-append-drop k l)
    ∙ ap (λ (t : List ℕ). take k l ++ t) (sym (take-append-drop (n - k) (drop k l)) ∙ ap₂ (λ (u v : List ℕ). u ++ v) (zeros_are k n l h g z) (drop-drop (n - k) k l ∙ ap (λ (m : ℕ). drop m l) d))
    ∙ ap (λ (m : ℕ). take k l ++ (replicate (n - m) 0 ++ drop n l)) (sym e)

pub region_at : (o k n : ℕ) (b : List ℕ) → 3 * k ≤ n → o + n ≤ length b → Zeros b (o + 3 * k) (o + n) → drop o b ≡ region n (piece o k b) (drop (o + n) b)
unfolding piece
region_at o k n b h g z =
    let d = length-drop o b in
    as_region (3 * k) n (drop o b) h (omega arith) (λ i p q. get_or-drop o b i 0 ∙ z (o + i) (omega arith) (omega arith))
    ∙ ap (region n (take (3 * k) (drop o b))) (drop-drop n o b)

pub region_append : (n : ℕ) (l x r : List ℕ) → region n l (x ++ r) ≡ region n l x ++ r
unfolding region
region_append n l x r =
    ap (λ (t : List ℕ). l ++ t) (sym (append_assoc (replicate (n - length l) 0) x r))
    ∙ sym (append_assoc l (replicate (n - length l) 0 ++ x) r)

pub region_end : (n : ℕ) (l r : List ℕ) → region n l r ≡ region n l [] ++ r
region_end n l r = region_append n l [] r

-- what stands behind what is used is zero
pub region_zero : (n : ℕ) (l r : List ℕ) (i : ℕ) → length l ≤ i → i < n → get_or (region n l r) i 0 ≡ 0
unfolding region
region_zero n l r i h g =
    let e : i ≡ length l + (i - length l) = omega arith in
    ap (λ (j : ℕ). get_or (l ++ (replicate (n - length l) 0 ++ r)) j 0) e
    ∙ get_or-append-add l (replicate (n - length l) 0 ++ r) (i - length l) 0
    ∙ front (n - length l) r (i - length l) (omega arith)
  where
    front : (m : ℕ) (r : List ℕ) (j : ℕ) → j < m → get_or (replicate m 0 ++ r) j 0 ≡ 0
    front zero r j h = absurd (omega arith)
    front (suc m) r zero h = refl
    front (suc m) r (suc j) h = front m r j (omega arith)

-- ---------------------------------------------------------------------------------------------
-- Words.

pieces_small : (n : ℕ) (l : List ℕ) → length l ≡ 3 * n → Bytes l → AllSmall (map read_word (chunks n 3 l))
unfolding chunks
pieces_small zero l e b = tt
pieces_small (suc n) [] e b = absurd (omega (arith, e))
pieces_small (suc n) (x ∷ []) e b = absurd (omega (arith, e))
pieces_small (suc n) (x ∷ (y ∷ [])) e b = absurd (omega (arith, e))
pieces_small (suc n) (x ∷ (y ∷ (z ∷ l))) e b =
    let p = b.1.0 in
    let q = b.1.1.0 in
    (word_small x (y + (z + 0 * 256) * 256) (omega arith), pieces_small n l (omega (arith, e)) b.1.1.1)

-- words that were read have values of two bytes
pub words_small : (n : ℕ) (l : List ℕ) → length l ≡ 3 * n → Bytes l → AllSmall (words l)
unfolding words
words_small n l e b =
    let m : n ≡ length l / 3 = omega (arith, e) in
    subst (λ (k : ℕ). AllSmall (map read_word (chunks k 3 l))) m (pieces_small n l e b)
