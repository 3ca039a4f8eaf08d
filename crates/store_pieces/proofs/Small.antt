-- Words of bytes have values of two bytes. Assumes nothing.
use mathlib.Core.List.{List, [], ◌∷◌, map}
use Prim.Native.Nat.{ℕ, zero, suc, ◌+◌, ◌*◌, ◌/◌}
use native.Mathlib.Omega.{arith}
use lib.ListN.{length, take, drop}
use Rattle.mem_numbers.specs.Chunks.{chunks}
use Rattle.mem_words.specs.Words.{words, read_word, word_small, Small}
use Rattle.mem_words.specs.Form.{Bytes, AllSmall}

bytes_drop : (n : ℕ) (l : List ℕ) → Bytes l → Bytes (drop n l)
bytes_drop zero l h = h
bytes_drop (suc n) [] h = tt
bytes_drop (suc n) (x ∷ l) h = bytes_drop n l h.1

piece_small : (l : List ℕ) → Bytes l → Small (read_word (take 3 l))
piece_small [] h = record { value = omega arith }
piece_small (k ∷ []) h = word_small k 0 (omega arith)
piece_small (k ∷ (x ∷ [])) h = let a = h.1.0 in word_small k (x + 0 * 256) (omega (arith, a))
piece_small (k ∷ (x ∷ (y ∷ l))) h = let a = h.1.0 in let b = h.1.1.0 in word_small k (x + (y + 0 * 256) * 256) (omega (arith, a, b))

pieces_small : (n : ℕ) (l : List ℕ) → Bytes l → AllSmall (map read_word (chunks n 3 l))
unfolding chunks
pieces_small zero l h = tt
pieces_small (suc n) l h = (piece_small l h, pieces_small n (drop 3 l) (bytes_drop 3 l h))

pub words_small : (l : List ℕ) → Bytes l → AllSmall (words l)
unfolding words
words_small l h = pieces_small (length l / 3) l h
