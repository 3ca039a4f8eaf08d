-- The one form of words in bytes: a word that is not `Bad` and its three bytes determine each other, and so do lists of words and
-- lists of bytes where nothing is `Bad`. Assumes nothing.
use Rattle.std.specs.Prelude.{◌≡◌, refl, List, [], ◌∷◌, ◌++◌, map, ℕ, zero, suc, ◌+◌, ◌*◌, ◌/◌, ◌%◌, ◌<◌, ◌≤◌, length, take, drop}
use Rattle.std.proofs.Common.{ap, ap₂, sym, ◌∙◌, subst, arith}
use Rattle.mem_numbers.specs.Chunks.{chunks}
use Rattle.mem_words.specs.declared.Word.{Word}
use Rattle.mem_words.specs.declared.Word.TheVariants.{End, Free, Level, Num, Place, Inner, Bad}
use Rattle.mem_words.specs.Words.{words, word, read_word, class_of, value_of, end_word, place_word, inner_word, Small, word_of}

-- the three bytes of a word
pub word_bytes : Word → List ℕ
word_bytes w = class_of w ∷ value_of w % 256 ∷ value_of w / 256 ∷ []

-- the bytes of a list of words
pub bytes_of : List Word → List ℕ
bytes_of [] = []
bytes_of (w ∷ W) = word_bytes w ++ bytes_of W

-- every byte is below 256
abbrev pub Bytes : List ℕ → Type 0
Bytes [] = Unit {0}
Bytes (b ∷ l) = (b < 256) × Bytes l

-- no word is `Bad`
abbrev pub NoBad : List Word → Type 0
NoBad [] = Unit {0}
NoBad (w ∷ W) = (w ≡ Bad → ⊥) × NoBad W

-- every word's value fits two bytes
abbrev pub AllSmall : List Word → Type 0
AllSmall [] = Unit {0}
AllSmall (w ∷ W) = Small w × AllSmall W

-- class and value are those that were read
pub class_of_word : (k v : ℕ) → (word k v ≡ Bad → ⊥) → (class_of (word k v) ≡ k) × (value_of (word k v) ≡ v)
class_of_word zero zero n = (refl, refl)
class_of_word zero (suc v) n = absurd (n refl)
class_of_word (suc zero) v n = (refl, refl)
class_of_word (suc (suc zero)) v n = (refl, refl)
class_of_word (suc (suc (suc zero))) v n = (refl, refl)
class_of_word (suc (suc (suc (suc zero)))) zero n = (refl, refl)
class_of_word (suc (suc (suc (suc zero)))) (suc zero) n = (refl, refl)
class_of_word (suc (suc (suc (suc zero)))) (suc (suc zero)) n = (refl, refl)
class_of_word (suc (suc (suc (suc zero)))) (suc (suc (suc zero))) n = (refl, refl)
class_of_word (suc (suc (suc (suc zero)))) (suc (suc (suc (suc zero)))) n = (refl, refl)
class_of_word (suc (suc (suc (suc zero)))) (suc (suc (suc (suc (suc zero))))) n = (refl, refl)
class_of_word (suc (suc (suc (suc zero)))) (suc (suc (suc (suc (suc (suc zero)))))) n = (refl, refl)
class_of_word (suc (suc (suc (suc zero)))) (suc (suc (suc (suc (suc (suc (suc v))))))) n = absurd (n refl)
class_of_word (suc (suc (suc (suc (suc zero))))) zero n = (refl, refl)
class_of_word (suc (suc (suc (suc (suc zero))))) (suc zero) n = (refl, refl)
class_of_word (suc (suc (suc (suc (suc zero))))) (suc (suc zero)) n = (refl, refl)
class_of_word (suc (suc (suc (suc (suc zero))))) (suc (suc (suc zero))) n = (refl, refl)
class_of_word (suc (suc (suc (suc (suc zero))))) (suc (suc (suc (suc zero)))) n = (refl, refl)
class_of_word (suc (suc (suc (suc (suc zero))))) (suc (suc (suc (suc (suc zero))))) n = (refl, refl)
class_of_word (suc (suc (suc (suc (suc zero))))) (suc (suc (suc (suc (suc (suc zero)))))) n = (refl, refl)
class_of_word (suc (suc (suc (suc (suc zero))))) (suc (suc (suc (suc (suc (suc (suc zero))))))) n = (refl, refl)
class_of_word (suc (suc (suc (suc (suc zero))))) (suc (suc (suc (suc (suc (suc (suc (suc zero)))))))) n = (refl, refl)
class_of_word (suc (suc (suc (suc (suc zero))))) (suc (suc (suc (suc (suc (suc (suc (suc (suc zero))))))))) n = (refl, refl)
class_of_word (suc (suc (suc (suc (suc zero))))) (suc (suc (suc (suc (suc (suc (suc (suc (suc (suc zero)))))))))) n = (refl, refl)
class_of_word (suc (suc (suc (suc (suc zero))))) (suc (suc (suc (suc (suc (suc (suc (suc (suc (suc (suc zero))))))))))) n = (refl, refl)
class_of_word (suc (suc (suc (suc (suc zero))))) (suc (suc (suc (suc (suc (suc (suc (suc (suc (suc (suc (suc zero)))))))))))) n = (refl, refl)
class_of_word (suc (suc (suc (suc (suc zero))))) (suc (suc (suc (suc (suc (suc (suc (suc (suc (suc (suc (suc (suc v))))))))))))) n = absurd (n refl)
class_of_word (suc (suc (suc (suc (suc (suc k)))))) v n = absurd (n refl)

-- the bytes of the word that three bytes read as
pub bytes_back : (k lo hi : ℕ) → lo < 256 → hi < 256 → (read_word (k ∷ lo ∷ hi ∷ []) ≡ Bad → ⊥) → word_bytes (read_word (k ∷ lo ∷ hi ∷ [])) ≡ k ∷ lo ∷ hi ∷ []
unfolding word_bytes
bytes_back k lo hi a b n =
    let h = class_of_word k (lo + (hi + 0 * 256) * 256) n in
    let l : value_of (word k (lo + (hi + 0 * 256) * 256)) % 256 ≡ lo = omega (arith, h.1) in
    let g : value_of (word k (lo + (hi + 0 * 256) * 256)) / 256 ≡ hi = omega (arith, h.1) in
    ap₂ (λ (x : ℕ) (y : List ℕ). x ∷ y) h.0 (ap₂ (λ (x y : ℕ). x ∷ y ∷ []) l g)

-- the word of the bytes of a word
pub word_back : (w : Word) → Small w → read_word (word_bytes w) ≡ w
unfolding word_bytes
word_back w s =
    let e : value_of w % 256 + (value_of w / 256 + 0 * 256) * 256 ≡ value_of w = omega arith in
    ap (word (class_of w)) e ∙ word_of w

-- a list of bytes that holds no `Bad` is the bytes of its words
pieces_back : (n : ℕ) (l : List ℕ) → length l ≡ 3 * n → Bytes l → NoBad (map read_word (chunks n 3 l)) → bytes_of (map read_word (chunks n 3 l)) ≡ l
unfolding bytes_of chunks
pieces_back zero [] e b g = refl
pieces_back zero (x ∷ l) e b g = absurd (omega (arith, e))
pieces_back (suc n) [] e b g = absurd (omega (arith, e))
pieces_back (suc n) (x ∷ []) e b g = absurd (omega (arith, e))
pieces_back (suc n) (x ∷ (y ∷ [])) e b g = absurd (omega (arith, e))
pieces_back (suc n) (x ∷ (y ∷ (z ∷ l))) e b g =
    let d : length l ≡ 3 * n = omega (arith, e) in
    ap₂ (λ (u v : List ℕ). u ++ v) (bytes_back x y z b.1.0 b.1.1.0 g.0) (pieces_back n l d b.1.1.1 g.1)

pub words_bytes : (n : ℕ) (l : List ℕ) → length l ≡ 3 * n → Bytes l → NoBad (words l) → bytes_of (words l) ≡ l
unfolding words
words_bytes n l e b g =
    let m : length l / 3 ≡ n = omega (arith, e) in
    subst (λ (k : ℕ). NoBad (map read_word (chunks k 3 l)) → bytes_of (map read_word (chunks k 3 l)) ≡ l) (sym m) (pieces_back n l e b) g

-- the words of the bytes of words are those words
pieces_of : (W : List Word) → AllSmall W → map read_word (chunks (length W) 3 (bytes_of W)) ≡ W
unfolding bytes_of chunks word_bytes
pieces_of [] s = refl
pieces_of (w ∷ W) s = ap₂ (λ (u : Word) (v : List Word). u ∷ v) (word_back w s.0) (pieces_of W s.1)

pub length_bytes_of : (W : List Word) → length (bytes_of W) ≡ 3 * length W
unfolding bytes_of word_bytes
length_bytes_of [] = refl
length_bytes_of (w ∷ W) = let h = length_bytes_of W in omega (arith, h)

pub bytes_words : (W : List Word) → AllSmall W → words (bytes_of W) ≡ W
unfolding words
bytes_words W s =
    let m : length (bytes_of W) / 3 ≡ length W = omega (arith, length_bytes_of W) in
    ap (λ (k : ℕ). map read_word (chunks k 3 (bytes_of W))) m ∙ pieces_of W s

-- where nothing is `Bad`, equal words have equal bytes
pub one_form : (n : ℕ) (l m : List ℕ) → length l ≡ 3 * n → length m ≡ 3 * n → Bytes l → Bytes m → NoBad (words l) → words l ≡ words m → l ≡ m
one_form n l m a b p q g e = sym (words_bytes n l a p g) ∙ ap bytes_of e ∙ words_bytes n m b q (subst NoBad e g)
