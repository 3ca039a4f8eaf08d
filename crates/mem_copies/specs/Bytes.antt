-- A copy of bytes, three for each word, is a copy of words. Assumes nothing.
use Rattle.std.specs.Prelude.{◌≡◌, refl, List, ℕ, ◌+◌, ◌-◌, ◌*◌, ◌/◌, ◌<◌, ◌≤◌, length, get_or, drop}
use Rattle.std.proofs.Common.{ap, ap₂, sym, ◌∙◌, arith, length-drop, ext_get_or, get_or-drop}
use Rattle.std.proofs.Math.Decide.{dec_lt}
use Rattle.mem_words.specs.declared.Word.{Word}
use Rattle.mem_words.specs.declared.Word.TheVariants.{Bad}
use Rattle.mem_words.specs.Words.{words, word, length_words, get_d_words}
use Rattle.mem_copies.specs.Runs.{copied, Copied, length_copied, get_or_copied_before, get_or_copied_in, get_or_copied_past}

-- words whose three bytes are the same are the same
pub same_bytes : (A B : List ℕ) (i j : ℕ) → i < length (words A) → j < length (words B) → get_or A (3 * i) 0 ≡ get_or B (3 * j) 0 → get_or A (3 * i + 1) 0 ≡ get_or B (3 * j + 1) 0 → get_or A (3 * i + 1 + 1) 0 ≡ get_or B (3 * j + 1 + 1) 0
    → get_or (words A) i Bad ≡ get_or (words B) j Bad
same_bytes A B i j h g p q r =
    get_d_words A i h ∙ ap₂ word p (ap₂ (λ (x y : ℕ). x + (y + 0 * 256) * 256) q r) ∙ sym (get_d_words B j g)

module _ (D S X : List ℕ) (at from n : ℕ) (hs : from + n ≤ length (words S)) (hd : at + n ≤ length (words D)) (c : Copied D (3 * at) (drop (3 * from) S) (3 * n) X) where
  src : 3 * from + 3 * n ≤ length S
  src = omega (arith, length_words S)

  room : 3 * at + 3 * n ≤ length D
  room = omega (arith, length_words D)

  rest : 3 * n ≤ length (drop (3 * from) S)
  rest = let s = src in omega (arith, length-drop (3 * from) S)

  before : (k : ℕ) → k < 3 * at → get_or X k 0 ≡ get_or D k 0
  before k h = let r = room in ap (λ (l : List ℕ). get_or l k 0) c.list ∙ get_or_copied_before D (3 * at) (drop (3 * from) S) (3 * n) k 0 (omega arith) h

  past : (k : ℕ) → 3 * at + 3 * n ≤ k → get_or X k 0 ≡ get_or D k 0
  past k h = let r = room in ap (λ (l : List ℕ). get_or l k 0) c.list ∙ get_or_copied_past D (3 * at) (drop (3 * from) S) (3 * n) k 0 (omega arith) rest h

  within : (a b k : ℕ) → a ≡ 3 * at + k → b ≡ 3 * from + k → k < 3 * n → get_or X a 0 ≡ get_or S b 0
  within a b k e f h =
      let r = room in
      ap (λ (m : ℕ). get_or X m 0) e ∙ ap (λ (l : List ℕ). get_or l (3 * at + k) 0) c.list
      ∙ get_or_copied_in D (3 * at) (drop (3 * from) S) (3 * n) k 0 (omega arith) rest h
      ∙ get_or-drop (3 * from) S k 0 ∙ ap (λ (m : ℕ). get_or S m 0) (sym f)

  long : length (words X) ≡ length (words D)
  long = length_words X ∙ ap (λ (m : ℕ). m / 3) c.long ∙ sym (length_words D)

  enough : n ≤ length (drop from (words S))
  enough = omega (arith, length-drop from (words S))

  at_word : (i : ℕ) → i < length (words D) → get_or (words X) i Bad ≡ get_or (copied (words D) at (drop from (words S)) n) i Bad
  at_word i h = go (dec_lt i at) (dec_lt i (at + n))
    where
      go : Dec (i < at) → Dec (i < at + n) → get_or (words X) i Bad ≡ get_or (copied (words D) at (drop from (words S)) n) i Bad
      go (yes a) b =
          let l = long in
          same_bytes X D i i (omega arith) h (before (3 * i) (omega arith)) (before (3 * i + 1) (omega arith)) (before (3 * i + 1 + 1) (omega arith))
          ∙ sym (get_or_copied_before (words D) at (drop from (words S)) n i Bad (omega arith) a)
      go (no a) (yes b) =
          let l = long in
          let j : ℕ = i - at in
          let e : i ≡ at + j = omega arith in
          same_bytes X S i (from + j) (omega arith) (omega arith)
          (within (3 * i) (3 * (from + j)) (3 * j) (omega arith) (omega arith) (omega arith))
          (within (3 * i + 1) (3 * (from + j) + 1) (3 * j + 1) (omega arith) (omega arith) (omega arith))
          (within (3 * i + 1 + 1) (3 * (from + j) + 1 + 1) (3 * j + 1 + 1) (omega arith) (omega arith) (omega arith))
          ∙ sym (get_or-drop from (words S) j Bad)
          ∙ sym (get_or_copied_in (words D) at (drop from (words S)) n j Bad (omega arith) enough (omega arith))
          ∙ ap (λ (m : ℕ). get_or (copied (words D) at (drop from (words S)) n) m Bad) (sym e)
      go (no a) (no b) =
          let l = long in
          same_bytes X D i i (omega arith) h (past (3 * i) (omega arith)) (past (3 * i + 1) (omega arith)) (past (3 * i + 1 + 1) (omega arith))
          ∙ sym (get_or_copied_past (words D) at (drop from (words S)) n i Bad (omega arith) enough (omega arith))

  pub words_copied : Copied (words D) at (drop from (words S)) n (words X)
  words_copied =
      let l = long in
      record {
        list = ext_get_or Bad (words X) (copied (words D) at (drop from (words S)) n) (l ∙ sym (length_copied (words D) at (drop from (words S)) n hd enough)) (λ i h. at_word i (omega arith));
        long = l;
      }
