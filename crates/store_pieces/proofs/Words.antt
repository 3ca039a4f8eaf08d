-- Bytes are the bytes of the words in them where none is `Bad`; and none is in the words of programs and configurations. Assumes nothing.
use mathlib.Core.Path.{◌≡◌, refl, sym, ap, ap₂, ◌∙◌, subst}
use mathlib.Core.List.{List, [], ◌∷◌}
use Prim.Native.Nat.{ℕ, zero, suc, ◌+◌, ◌*◌, ◌/◌, ◌≤◌, ◌<◌}
use native.Mathlib.Omega.{arith}
use lib.ListN.{length, get_or, take}
use lib.Seq.{ext_get_or, length-take-le, get_or-take}
use Rattle.mem_numbers.specs.Numbers.{value_at}
use Rattle.mem_words.specs.declared.Word.{Word}
use Rattle.mem_words.specs.declared.Word.TheVariants.{Bad}
use Rattle.mem_words.specs.Words.{words, word, length_words, get_d_words}
use Rattle.mem_words.specs.Form.{Bytes, NoBad, bytes_of, words_bytes}
use Rattle.store_pieces.proofs.Numbers.{ByteList, all_bytes}

-- the words in the first bytes of a list are its first words
pub words_prefix : (l : List ℕ) (k : ℕ) → 3 * k ≤ length l → words (take (3 * k) l) ≡ take k (words l)
words_prefix l k h =
    let a = length_words l in
    let b : length (take (3 * k) l) ≡ 3 * k = length-take-le (3 * k) l h in
    let c = length_words (take (3 * k) l) in
    let d : length (take k (words l)) ≡ k = length-take-le k (words l) (omega arith) in
    ext_get_or Bad (words (take (3 * k) l)) (take k (words l)) (omega arith) (λ i g. at i (omega arith))
  where
    byte : (j : ℕ) → j < 3 * k → get_or (take (3 * k) l) j 0 ≡ get_or l j 0
    byte j g = get_or-take (3 * k) l j 0 g

    at : (i : ℕ) → i < k → get_or (words (take (3 * k) l)) i Bad ≡ get_or (take k (words l)) i Bad
    at i g =
        let a = length_words l in
        let b : length (take (3 * k) l) ≡ 3 * k = length-take-le (3 * k) l h in
        let c = length_words (take (3 * k) l) in
        get_d_words (take (3 * k) l) i (omega arith)
        ∙ ap₂ word (byte (3 * i) (omega arith)) (ap₂ (λ (x y : ℕ). x + (y + 0 * 256) * 256) (byte (3 * i + 1) (omega arith)) (byte (3 * i + 1 + 1) (omega arith)))
        ∙ sym (get_d_words l i (omega arith))
        ∙ sym (get_or-take k (words l) i Bad g)

take_bytes : (k : ℕ) (l : List ℕ) → Bytes l → Bytes (take k l)
take_bytes zero l b = tt
take_bytes (suc k) [] b = tt
take_bytes (suc k) (x ∷ l) b = (b.0, take_bytes k l b.1)

-- the first n words
pub first_words : (n : ℕ) (l : List ℕ) → 3 * n ≤ length l → ByteList l → NoBad (take n (words l)) → bytes_of (take n (words l)) ≡ take (3 * n) l
first_words n l h b g =
    ap bytes_of (sym (words_prefix l n h))
    ∙ words_bytes n (take (3 * n) l) (length-take-le (3 * n) l h) (take_bytes (3 * n) l (all_bytes l b)) (subst NoBad (sym (words_prefix l n h)) g)
