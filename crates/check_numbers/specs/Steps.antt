-- The test of numbers, word by word: the answer is that of the words that are left. Assumes nothing.
use Rattle.std.specs.Prelude.{◌≡◌, List, Bool, true, false, ◌&&◌, ℕ, ◌+◌, ◌≤◌, ◌<◌, length, drop}
use Rattle.std.proofs.Common.{ap, sym, ◌∙◌, le-leb}
use Rattle.std.proofs.lemmas.Bool.{lt-leb}
use Rattle.akl.specs.Base.{all}
use Rattle.mem_words.specs.declared.Word.{Word}
use Rattle.mem_words.specs.Words.{Read}
use Rattle.check_words.specs.Passes.{drop_word, drop_end, goes_on, stops}
use Rattle.check_words.specs.Frees.{word_below, numbers_passed}

-- the words from i on are left
pub record Left (q next : ℕ) (W : List Word) (i : ℕ) : Type 0 where
  pub answer : numbers_passed q next W ≡ all (word_below next) (drop i W)

pub too_many : (q next : ℕ) (W : List Word) → next < q → false ≡ numbers_passed q next W
unfolding numbers_passed
too_many q next W h = sym (ap (λ (b : Bool). b && all (word_below next) W) (lt-leb q next h))

pub begins : (q next : ℕ) (W : List Word) → q ≤ next → Left q next W 0
unfolding numbers_passed
begins q next W h = record { answer = ap (λ (b : Bool). b && all (word_below next) W) (le-leb q next h) }

one : (next : ℕ) (W : List Word) (i : ℕ) (w : Word) → i < length W → Read W i w → all (word_below next) (drop i W) ≡ (word_below next w && all (word_below next) (drop (i + 1) W))
unfolding all
one next W i w h e = ap (all (word_below next)) (drop_word W i w h e)

pub goes : {q next : ℕ} {W : List Word} {i : ℕ} {w : Word} → i < length W → Left q next W i → Read W i w → word_below next w ≡ true → Left q next W (i + 1)
goes {q} {next} {W} {i} {w} h l e t = record { answer = l.answer ∙ goes_on (all (word_below next) (drop i W)) (word_below next w) (all (word_below next) (drop (i + 1) W)) (one next W i w h e) t }

pub refuses : {q next : ℕ} {W : List Word} {i : ℕ} {w : Word} → i < length W → Left q next W i → Read W i w → word_below next w ≡ false → false ≡ numbers_passed q next W
refuses {q} {next} {W} {i} {w} h l e f = stops (all (word_below next) (drop i W)) (word_below next w) (all (word_below next) (drop (i + 1) W)) (one next W i w h e) f ∙ sym l.answer

pub ends : {q next : ℕ} {W : List Word} {i : ℕ} → length W ≤ i → Left q next W i → true ≡ numbers_passed q next W
unfolding all
ends {q} {next} {W} {i} h l = sym (l.answer ∙ ap (all (word_below next)) (drop_end W i h))
