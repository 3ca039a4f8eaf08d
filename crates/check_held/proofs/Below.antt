-- The bytes of a state are below 256.
use mathlib.Core.Path.{◌≡◌, refl, ap, ap₂, sym, ◌∙◌, subst}
use mathlib.Core.List.{List, [], ◌∷◌, ◌++◌, map}
use Prim.Native.Nat.{ℕ, zero, suc, ◌+◌, ◌-◌, ◌*◌, ◌/◌, ◌%◌, ◌<◌}
use native.Mathlib.Omega.{arith}
use lib.ListN.{length, replicate}
use Rattle.mem_words.specs.declared.Word.{Word}
use Rattle.mem_words.specs.declared.Word.TheVariants.{End, Free, Level, Num, Place, Inner, Bad}
use Rattle.mem_numbers.specs.Chunks.{chunks}
use Rattle.mem_words.specs.Words.{words, word, read_word, class_of, value_of, word_of}
use Rattle.mem_words.specs.Form.{Bytes, AllSmall, NoBad, bytes_of, words_bytes}
use Rattle.store_form.specs.Sizes.{program_length, variables_length, config_length}
use Rattle.store_form.specs.State.{State, table, node_count, number_in}
use Rattle.store_form.specs.Form.{numbers_bytes, region, rules_words, config_words, header, store_bytes}
use Rattle.store_form.specs.Holding.{Fits}
use Rattle.store_form.proofs.Spelt.{small_all}
use Rattle.check_held.proofs.Good.{program_good, node_good}
use Rattle.check_held.proofs.Cut.{bytes_numbers}

bytes_append : (l m : List ℕ) → Bytes l → Bytes m → Bytes (l ++ m)
bytes_append [] m a b = b
bytes_append (x ∷ l) m a b = (a.0, bytes_append l m a.1 b)

bytes_zeros : (n : ℕ) → Bytes (replicate n 0)
bytes_zeros zero = tt
bytes_zeros (suc n) = (omega arith, bytes_zeros n)

bytes_region : (n : ℕ) (l r : List ℕ) → Bytes l → Bytes r → Bytes (region n l r)
unfolding region
bytes_region n l r a b = bytes_append l (replicate (n - length l) 0 ++ r) a (bytes_append (replicate (n - length l) 0) r (bytes_zeros (n - length l)) b)

class_small : (w : Word) → class_of w < 256
class_small End = omega arith
class_small (Free v) = omega arith
class_small (Level v) = omega arith
class_small (Num v) = omega arith
class_small (Place k) = omega arith
class_small (Inner s) = omega arith
class_small Bad = omega arith

-- the bytes of words, once more: they are read as these words, so they are the bytes of these words
spelt : List Word → List ℕ
spelt [] = []
spelt (w ∷ W) = class_of w ∷ value_of w % 256 ∷ value_of w / 256 ∷ spelt W

length_spelt : (W : List Word) → length (spelt W) ≡ 3 * length W
unfolding spelt
length_spelt [] = refl
length_spelt (w ∷ W) = omega (arith, length_spelt W)

bytes_spelt : (W : List Word) → AllSmall W → Bytes (spelt W)
unfolding spelt
bytes_spelt [] s = tt
bytes_spelt (w ∷ W) s = let v = s.0.value in (class_small w, (omega arith, (omega arith, bytes_spelt W s.1)))

pieces_spelt : (W : List Word) → map read_word (chunks (length W) 3 (spelt W)) ≡ W
unfolding spelt chunks
pieces_spelt [] = refl
pieces_spelt (w ∷ W) =
    let e : value_of w % 256 + (value_of w / 256 + 0 * 256) * 256 ≡ value_of w = omega arith in
    ap₂ (λ (u : Word) (v : List Word). u ∷ v) (ap (word (class_of w)) e ∙ word_of w) (pieces_spelt W)

words_spelt : (W : List Word) → words (spelt W) ≡ W
unfolding words
words_spelt W =
    let m : length (spelt W) / 3 ≡ length W = omega (arith, length_spelt W) in
    ap (λ (k : ℕ). map read_word (chunks k 3 (spelt W))) m ∙ pieces_spelt W

bytes_words : (W : List Word) → AllSmall W → NoBad W → Bytes (bytes_of W)
bytes_words W s g =
    let e : bytes_of W ≡ spelt W = sym (ap bytes_of (words_spelt W)) ∙ words_bytes (length W) (spelt W) (length_spelt W) (bytes_spelt W s) (subst NoBad (sym (words_spelt W)) g) in
    subst Bytes (sym e) (bytes_spelt W s)

-- Every byte of a store that a state has is below 256.
pub store_below : (limit : ℕ) (s : State) → Fits limit s → Bytes (store_bytes limit s)
unfolding store_bytes rules_words config_words
store_below limit s F =
    bytes_append (numbers_bytes (header s)) _ (bytes_numbers (header s))
    (bytes_append (numbers_bytes (table s)) _ (bytes_numbers (table s))
    (bytes_region (program_length (node_count s)) (bytes_of (rules_words s)) _ (bytes_words (rules_words s) (small_all (rules_words s) F.rules_small) (program_good (number_in (table s)) s.program))
    (bytes_region variables_length (numbers_bytes s.variables) _ (bytes_numbers s.variables)
    (bytes_region (config_length limit) (bytes_of (config_words s)) [] (bytes_words (config_words s) (small_all (config_words s) F.words_small) (node_good (number_in (table s)) s.config.root [] tt)) tt))))
