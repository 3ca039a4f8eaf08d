-- Numbers in a list of bytes, the low byte first, of any width, by the laws of pieces; those of two, three and four bytes have names.
-- Assumes nothing.
use Rattle.std.specs.Prelude.{◌≡◌, refl, List, [], ◌∷◌, map, ℕ, zero, suc, ◌+◌, ◌-◌, ◌*◌, ◌/◌, ◌%◌, ◌^◌, ◌<◌, ◌≤◌, length, get_or, set, take, drop, replicate}
use Rattle.std.proofs.Common.{ap, sym, ◌∙◌, add-one, lit<, not-suc-le-zero, le_of_suc-le-suc, arith, length-set, drop-cons}
use Rattle.std.proofs.Math.Decide.{dec_lt}
use Rattle.std.proofs.Math.Nat.{pow-suc, pow-le-pow_right, mul-le-mul_right, div-mul-le_self}
use Rattle.std.proofs.lemmas.List.{length-map}
use Rattle.std.proofs.Math.ListN.{get_or-map}
use Rattle.std.proofs.lemmas.List.Edits.{sets}
use Rattle.std.proofs.Math.Seq.{length-sets}
use Rattle.mem_numbers.specs.Chunks.{chunks, length_chunks, get_or_chunks, set_chunks}
use Rattle.mem_numbers.specs.Stored.{Stored}

-- the value of a piece
abbrev pub value : List ℕ → ℕ
value [] = 0
value (b ∷ bs) = b + value bs * 256

-- the value of the w bytes from j on, as code reads them
abbrev pub value_at : ℕ → List ℕ → ℕ → ℕ
value_at zero l j = 0
value_at (suc w) l j = get_or l j 0 + value_at w l (j + 1) * 256

-- the bytes bs stored one by one from j on, as code stores them
abbrev pub stores : List ℕ → ℕ → List ℕ → List ℕ
stores l j [] = l
stores l j (b ∷ bs) = stores (set l j b) (j + 1) bs

-- the first n numbers of w bytes each
pub numbers : ℕ → ℕ → List ℕ → List ℕ
numbers n w l = map value (chunks n w l)

-- the numbers of w bytes each of a list of bytes; bytes left over are no number
pub numbers_of : ℕ → List ℕ → List ℕ
numbers_of w l = numbers (length l / w) w l

-- the two-byte numbers of a list of bytes, the three-byte ones and the four-byte ones
abbrev pub shorts : List ℕ → List ℕ
shorts = numbers_of 2

abbrev pub triples : List ℕ → List ℕ
triples = numbers_of 3

abbrev pub longs : List ℕ → List ℕ
longs = numbers_of 4

-- the w bytes of v, the low byte first
abbrev pub digits : ℕ → ℕ → List ℕ
digits zero v = []
digits (suc w) v = v % 256 ∷ digits w (v / 256)

-- a number that was read: the element, and its bound
pub record Got (L : List ℕ) (i bound r : ℕ) : Type 0 where
  pub is : r ≡ get_or L i 0
  pub small : r < bound

-- what a number may be written to
pub record CanPut (L : List ℕ) (i bound v : ℕ) : Type 0 where
  pub inside : i < length L
  pub small : v < bound

-- the number of elements
pub record Counted {A : Type 0} (L : List A) (r : ℕ) : Type 0 where
  pub is : r ≡ length L
  pub small : r < 2 ^ 63

value_at_lem : (w : ℕ) (l : List ℕ) (j : ℕ) → j + w ≤ length l → value (take w (drop j l)) ≡ value_at w l j
value_at_lem zero l j h = refl
value_at_lem (suc w) l j h =
    ap (λ (x : List ℕ). value (take (suc w) x)) (drop-cons l j 0 (omega arith))
    ∙ ap (λ (x : ℕ). get_or l j 0 + x * 256) (ap (λ (k : ℕ). value (take w (drop k l))) (sym (add-one j)) ∙ value_at_lem w l (j + 1) (omega arith))

stores_sets : (l : List ℕ) (j : ℕ) (bs : List ℕ) → stores l j bs ≡ sets l j bs
stores_sets l j [] = refl
stores_sets l j (b ∷ bs) = stores_sets (set l j b) (j + 1) bs ∙ ap (λ (k : ℕ). sets (set l j b) k bs) (add-one j)

map_set : {A B : Type 0} (f : A → B) (l : List A) (i : ℕ) (a : A) → map f (set l i a) ≡ set (map f l) i (f a)
map_set f [] i a = refl
map_set f (x ∷ l) zero a = refl
map_set {A} {B} f (x ∷ l) (suc i) a = ap (λ (t : List B). f x ∷ t) (map_set f l i a)

-- the laws for any reading f of the pieces, and any width w
module _ {B : Type 0} (f : List ℕ → B) (n w : ℕ) (l : List ℕ) where
  pub length_read : length (map f (chunks n w l)) ≡ n
  length_read = length-map (chunks n w l) f ∙ length_chunks n w l

  pub get_d_read : (i : ℕ) → i < n → get_or (map f (chunks n w l)) i (f []) ≡ f (take w (drop (w * i) l))
  get_d_read i h = get_or-map f (chunks n w l) i [] ∙ ap f (get_or_chunks n w l i h)

  pub stored_read : (i : ℕ) (bs : List ℕ) (v : B) → i < n → length bs ≡ w → w * i + w ≤ length l → f bs ≡ v → Stored (map f (chunks n w l)) i v (map f (chunks n w (stores l (w * i) bs)))
  stored_read i bs v h e r p =
      let q : map f (chunks n w (stores l (w * i) bs)) ≡ set (map f (chunks n w l)) i v =
      ap (λ (x : List ℕ). map f (chunks n w x)) (stores_sets l (w * i) bs) ∙ ap (map f) (set_chunks n w l bs i h e r) ∙ map_set f (chunks n w l) i bs ∙ ap (set (map f (chunks n w l)) i) p in
      record { list = q; long = ap length q ∙ length-set (map f (chunks n w l)) i v }

pub length_stores : (l : List ℕ) (j : ℕ) (bs : List ℕ) → length (stores l j bs) ≡ length l
length_stores l j bs = ap length (stores_sets l j bs) ∙ length-sets l j bs

pub length_numbers : (w : ℕ) (l : List ℕ) → length (numbers_of w l) ≡ length l / w
unfolding numbers_of numbers
length_numbers w l = length_read value (length l / w) w l

-- a piece of those that are there lies within the list
pub inside : (w n i : ℕ) → 0 < w → i < n / w → w * i + w ≤ n
inside w n i z h =
    let a : (i + 1) * w ≤ n / w * w = mul-le-mul_right w (omega arith) in
    let b = div-mul-le_self n w in
    omega arith

-- the bytes of a number that is there lie within the list
pub room_of : (w : ℕ) (l : List ℕ) (i : ℕ) → 0 < w → i < length (numbers_of w l) → w * i + w ≤ length l
room_of w l i z h = inside w (length l) i z (omega (arith, length_numbers w l))

pub get_or_numbers : (w : ℕ) (l : List ℕ) (i : ℕ) → 0 < w → i < length (numbers_of w l) → get_or (numbers_of w l) i 0 ≡ value_at w l (w * i)
unfolding numbers_of numbers
get_or_numbers w l i z h =
    let k : i < length l / w = omega (arith, length_numbers w l) in
    get_d_read value (length l / w) w l i k ∙ value_at_lem w l (w * i) (inside w (length l) i z k)

-- a list of bytes that was stored to is cut as before
pub stored_numbers : (w : ℕ) (l bs : List ℕ) (i v : ℕ) → 0 < w → i < length (numbers_of w l) → length bs ≡ w → value bs ≡ v → Stored (numbers_of w l) i v (numbers_of w (stores l (w * i) bs))
unfolding numbers_of numbers
stored_numbers w l bs i v z h e p =
    let k : i < length l / w = omega (arith, length_numbers w l) in
    rw (length_stores l (w * i) bs) (stored_read value (length l / w) w l i bs v k e (inside w (length l) i z k) p)

-- one byte more, as a loop reads it and stores it
pub value_more : (w k : ℕ) (l : List ℕ) (j : ℕ) → k < w → value_at (w - k) l j ≡ get_or l j 0 + value_at (w - (k + 1)) l (j + 1) * 256
value_more w k l j h = let z : w - k ≡ suc (w - (k + 1)) = omega arith in ap (λ (m : ℕ). value_at m l j) z

pub stores_more : (w k : ℕ) (l : List ℕ) (j v : ℕ) → k < w → stores l j (digits (w - k) v) ≡ stores (set l j (v % 256)) (j + 1) (digits (w - (k + 1)) (v / 256))
stores_more w k l j v h = let z : w - k ≡ suc (w - (k + 1)) = omega arith in ap (λ (m : ℕ). stores l j (digits m v)) z

pub below_more : (w k v b : ℕ) → k < w → v < 256 ^ (w - (k + 1)) → b < 256 → v * 256 + b < 256 ^ (w - k)
below_more w k v b h p q =
    let z : w - k ≡ suc (w - (k + 1)) = omega arith in
    let e = pow-suc 256 (w - (k + 1)) in
    rw z (omega arith)

-- what seven bytes hold fits a machine number
pub below_room : (w k v : ℕ) → k < w → w < 8 → v < 256 ^ (w - (k + 1)) → v * 256 + 255 < 2 ^ 64
below_room w k v h g p =
    let lt : w - (k + 1) ≤ 6 = omega arith in
    let a : 256 ^ (w - (k + 1)) ≤ 256 ^ 6 = pow-le-pow_right (lit< tt) lt in
    omega arith

pub length_digits : (w v : ℕ) → length (digits w v) ≡ w
length_digits zero v = refl
length_digits (suc w) v = ap suc (length_digits w (v / 256))

pub value_digits : (w v : ℕ) → v < 256 ^ w → value (digits w v) ≡ v
value_digits zero v h = omega arith
value_digits (suc w) v h =
    let p = pow-suc 256 w in
    let q : v / 256 < 256 ^ w = omega arith in
    let r = value_digits w (v / 256) q in
    omega arith

-- bytes that are all zero are numbers that are all zero

pub zero_byte : (n i : ℕ) → ◌≡◌ {A = ℕ} (get_or (replicate n 0) i 0) 0
zero_byte zero i = refl
zero_byte (suc n) zero = refl
zero_byte (suc n) (suc i) = zero_byte n i

pub zero_at : (w n j : ℕ) → value_at w (replicate n 0) j ≡ 0
zero_at zero n j = refl
zero_at (suc w) n j = omega (arith, zero_byte n j, zero_at w n (j + 1))

past : (l : List ℕ) (i : ℕ) → length l ≤ i → get_or l i 0 ≡ 0
past [] i h = refl
past (x ∷ l) zero h = absurd (not-suc-le-zero h)
past (x ∷ l) (suc i) h = past l i (le_of_suc-le-suc h)

pub zero_numbers : (w n i : ℕ) → 0 < w → get_or (numbers_of w (replicate n 0)) i 0 ≡ 0
zero_numbers w n i z = go (dec_lt i (length (numbers_of w (replicate n 0))))
  where
    go : Dec (i < length (numbers_of w (replicate n 0))) → get_or (numbers_of w (replicate n 0)) i 0 ≡ 0
    go (yes h) = get_or_numbers w (replicate n 0) i z h ∙ zero_at w n (w * i)
    go (no h) = past (numbers_of w (replicate n 0)) i (omega arith)

-- the laws at the widths that have names

pub length_shorts : (l : List ℕ) → length (shorts l) ≡ length l / 2
length_shorts = length_numbers 2

pub get_or_shorts : (l : List ℕ) (i : ℕ) → i < length (shorts l) → get_or (shorts l) i 0 ≡ value_at 2 l (2 * i)
get_or_shorts l i h = get_or_numbers 2 l i (lit< tt) h

pub stored_shorts : (l bs : List ℕ) (i v : ℕ) → i < length (shorts l) → length bs ≡ 2 → value bs ≡ v → Stored (shorts l) i v (shorts (stores l (2 * i) bs))
stored_shorts l bs i v h e p = stored_numbers 2 l bs i v (lit< tt) h e p

pub zero_shorts : (n i : ℕ) → get_or (shorts (replicate n 0)) i 0 ≡ 0
zero_shorts n i = zero_numbers 2 n i (lit< tt)

pub length_triples : (l : List ℕ) → length (triples l) ≡ length l / 3
length_triples = length_numbers 3

pub get_or_triples : (l : List ℕ) (i : ℕ) → i < length (triples l) → get_or (triples l) i 0 ≡ value_at 3 l (3 * i)
get_or_triples l i h = get_or_numbers 3 l i (lit< tt) h

pub stored_triples : (l bs : List ℕ) (i v : ℕ) → i < length (triples l) → length bs ≡ 3 → value bs ≡ v → Stored (triples l) i v (triples (stores l (3 * i) bs))
stored_triples l bs i v h e p = stored_numbers 3 l bs i v (lit< tt) h e p

pub zero_triples : (n i : ℕ) → get_or (triples (replicate n 0)) i 0 ≡ 0
zero_triples n i = zero_numbers 3 n i (lit< tt)

pub length_longs : (l : List ℕ) → length (longs l) ≡ length l / 4
length_longs = length_numbers 4

pub get_or_longs : (l : List ℕ) (i : ℕ) → i < length (longs l) → get_or (longs l) i 0 ≡ value_at 4 l (4 * i)
get_or_longs l i h = get_or_numbers 4 l i (lit< tt) h

pub stored_longs : (l bs : List ℕ) (i v : ℕ) → i < length (longs l) → length bs ≡ 4 → value bs ≡ v → Stored (longs l) i v (longs (stores l (4 * i) bs))
stored_longs l bs i v h e p = stored_numbers 4 l bs i v (lit< tt) h e p

pub zero_longs : (n i : ℕ) → get_or (longs (replicate n 0)) i 0 ≡ 0
zero_longs n i = zero_numbers 4 n i (lit< tt)

-- how many numbers there are
pub ruleset sizes = (length_numbers)
