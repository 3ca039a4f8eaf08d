-- The words in a part of lent bytes. Assumes nothing.
use mathlib.Core.Path.{◌≡◌, sym, ap, ap₂, ◌∙◌}
use mathlib.Core.List.{List}
use Prim.Native.Nat.{ℕ, ◌+◌, ◌-◌, ◌*◌, ◌≤◌, ◌<◌}
use native.Mathlib.Decide.{dec_lt}
use native.Mathlib.Omega.{arith}
use native.Mathlib.Nat.{min-le_right}
use lib.ListN.{length, get_or, take, drop, length-take, length-drop}
use lib.Seq.{ext_get_or, length-take-le, get_or-take, get_or-drop}
use Rattle.mem_words.specs.declared.Word.{Word}
use Rattle.mem_words.specs.declared.Word.TheVariants.{Bad}
use Rattle.mem_words.specs.Words.{words, word, length_words, get_d_words}
use Rattle.mem_parts.specs.Parts as parts
use Rattle.rule_words.specs.Scans.{close}
use Rattle.rule_words.specs.Pieces.{cut}
use Rattle.rule_words.proofs.Loops.{close_inside, close_past}
use Rattle.store_pieces.proofs.Words.{words_prefix}
use Rattle.store_parts.specs.declared.Among.TheVariants.{Others}
use Rattle.store_parts.specs.Counting.{parts_in}
use Rattle.step_parts.specs.Bounds.{piece_parts, CanBound}

module _ (l : List ℕ) (a n : ℕ) (h : 3 * a + 3 * n ≤ length l) where
  abbrev L : List ℕ
  L = take (3 * n) (drop (3 * a) l)

  long : length L ≡ 3 * n
  long = length-take-le (3 * n) (drop (3 * a) l) (omega (arith, length-drop (3 * a) l))

  byte : (j : ℕ) → j < 3 * n → get_or L j 0 ≡ get_or l (3 * a + j) 0
  byte j g = get_or-take (3 * n) (drop (3 * a) l) j 0 g ∙ get_or-drop (3 * a) l j 0

  -- the words in the bytes from the a-th word on are those from there on
  pub words_mid : words L ≡ take n (drop a (words l))
  words_mid =
      let p = length_words L in
      let q = length_words l in
      let d : length (take n (drop a (words l))) ≡ n = length-take-le n (drop a (words l)) (omega (arith, q, length-drop a (words l))) in
      ext_get_or Bad (words L) (take n (drop a (words l))) (omega (arith, p, d, long)) (λ i g. at i (omega (arith, p, long, g)))
    where
      at : (i : ℕ) → i < n → get_or (words L) i Bad ≡ get_or (take n (drop a (words l))) i Bad
      at i g =
          let p = length_words L in
          let q = length_words l in
          let e : 3 * a + 3 * i ≡ 3 * (a + i) = omega arith in
          let e1 : 3 * a + (3 * i + 1) ≡ 3 * (a + i) + 1 = omega arith in
          let e2 : 3 * a + (3 * i + 1 + 1) ≡ 3 * (a + i) + 1 + 1 = omega arith in
          let k : (x y : ℕ) → x ≡ y → get_or l x 0 ≡ get_or l y 0 = λ x y z. ap (λ (j : ℕ). get_or l j 0) z in
          get_d_words L i (omega (arith, p, long))
          ∙ ap₂ word (byte (3 * i) (omega arith) ∙ k _ _ e) (ap₂ (λ (x y : ℕ). x + (y + 0 * 256) * 256) (byte (3 * i + 1) (omega arith) ∙ k _ _ e1) (byte (3 * i + 1 + 1) (omega arith) ∙ k _ _ e2))
          ∙ sym (get_d_words l (a + i) (omega (arith, q)))
          ∙ sym (get_or-take n (drop a (words l)) i Bad g ∙ get_or-drop a (words l) i Bad)

-- no part has more words than all
pub part_length : (l : List ℕ) (a z : ℕ) → length (words (parts.cut a z l)) ≤ length (words l)
unfolding parts.cut
part_length l a z = let L = take (z - a) (drop a l) in omega (arith, length_words l, length_words L, length-take (z - a) (drop a l), length-drop a l, min-le_right (z - a) (length (drop a l)))

-- a bracket that closes opens before
pub opens_before : (W : List Word) (i : ℕ) → close W i < length W → i < close W i
opens_before W i h = go (dec_lt i (length W))
  where
    go : Dec (i < length W) → i < close W i
    go (yes g) = omega (arith, close_inside W i g)
    go (no g) = absurd (omega (arith, h, close_past W i (omega arith)))

-- what is lent to the count, and what it counts
module _ (l : List ℕ) (i e : ℕ) (q : e ≡ close (words l) i) (h : close (words l) i < length (words l)) where
  amount : 3 * e + 3 - 3 * i ≡ 3 * (e + 1 - i)
  amount = omega (arith, q, opens_before (words l) i h)

  inside : 3 * i + 3 * (e + 1 - i) ≤ length l
  inside = omega (arith, q, h, opens_before (words l) i h, length_words l)

  piece_is : words (parts.cut (3 * i) (3 * e + 3) l) ≡ cut i (close (words l) i + 1) (words l)
  unfolding cut parts.cut
  piece_is =
      ap (λ (n : ℕ). words (take n (drop (3 * i) l))) amount
      ∙ words_mid l i (e + 1 - i) inside
      ∙ ap (λ (n : ℕ). take (n + 1 - i) (drop i (words l))) q

  pub piece_counted : (p : ℕ) → p ≡ parts_in Others (words (parts.cut (3 * i) (3 * e + 3) l)) → p ≡ piece_parts (words l) i
  unfolding piece_parts
  piece_counted p c = c ∙ ap (parts_in Others) piece_is

-- the first x words of what was built
module _ (S : List ℕ) (x u r i : ℕ) (c : CanBound S x u r i) (h : x ≤ 28672) where
  first : words (take (3 * x) S) ≡ take x (words S)
  first = words_prefix S x (omega (arith, c.room))

  pub first_length : length (words (take (3 * x) S)) ≡ x
  first_length = omega (arith, c.room, length_words (take (3 * x) S), length-take-le (3 * x) S (omega (arith, c.room)))

  pub first_closed : close (take x (words S)) i < x → close (words (take (3 * x) S)) i < length (words (take (3 * x) S))
  first_closed g = omega (arith, g, first_length, ap (λ (W : List Word). close W i) first)

  pub first_piece : (p : ℕ) → p ≡ piece_parts (words (take (3 * x) S)) i → u + p ≡ u + piece_parts (take x (words S)) i
  first_piece p e = ap (λ (n : ℕ). u + n) (e ∙ ap (λ (W : List Word). piece_parts W i) first)
