-- A pass over words, one word at a time: what is left of the words, and of what is asked of them. Assumes nothing.
use Rattle.std.specs.Prelude.{◌≡◌, refl, List, [], ◌∷◌, Bool, true, false, ◌&&◌, ℕ, zero, suc, ◌+◌, ◌-◌, ◌≤◌, ◌<◌, length, get_or, drop}
use Rattle.std.proofs.Common.{ap, sym, ◌∙◌, arith, add-one, drop_of_length-le, drop-cons}
use Rattle.mem_words.specs.declared.Word.{Word}
use Rattle.mem_words.specs.declared.Word.TheVariants.{End, Free, Level, Num, Place, Inner, Bad}
use Rattle.mem_words.specs.Words.{Read}
use Rattle.check_words.specs.Frees.{frees, free_no}

-- the word at i was read
pub drop_word : (W : List Word) (i : ℕ) (w : Word) → i < length W → Read W i w → drop i W ≡ w ∷ drop (i + 1) W
drop_word W i w h e = drop-cons W i Bad h ∙ ap (λ (x : Word). x ∷ drop (suc i) W) (sym e.is) ∙ ap (λ (k : ℕ). w ∷ drop k W) (sym (add-one i))

-- an answer a that is that of one test and then of the rest
pub goes_on : (a b c : Bool) → a ≡ (b && c) → b ≡ true → a ≡ c
goes_on a b c e t = e ∙ ap (λ (x : Bool). x && c) t

pub stops : (a b c : Bool) → a ≡ (b && c) → b ≡ false → false ≡ a
stops a b c e f = sym (e ∙ ap (λ (x : Bool). x && c) f)

-- past the last word nothing is left
pub drop_end : (W : List Word) (i : ℕ) → length W ≤ i → drop i W ≡ []
drop_end W i h = drop_of_length-le W {i = i} h

-- the variables that the words from i on begin with: none, or the one that was read and those behind it
none_first : (w : Word) (W : List Word) → 0 ≡ free_no w → frees (w ∷ W) ≡ []
unfolding frees
none_first End W e = refl
none_first (Free x) W e = absurd (omega (arith, e))
none_first (Level l) W e = refl
none_first (Num n) W e = refl
none_first (Place k) W e = refl
none_first (Inner s) W e = refl
none_first Bad W e = refl

one_first : (w : Word) (W : List Word) (v : ℕ) → v ≡ free_no w → (v ≡ 0 → ⊥) → frees (w ∷ W) ≡ (v - 1) ∷ frees W
unfolding frees
one_first End W v e n = absurd (n e)
one_first (Free x) W v e n = let d : x ≡ v - 1 = omega (arith, e) in ap (λ (y : ℕ). y ∷ frees W) d
one_first (Level l) W v e n = absurd (n e)
one_first (Num m) W v e n = absurd (n e)
one_first (Place k) W v e n = absurd (n e)
one_first (Inner s) W v e n = absurd (n e)
one_first Bad W v e n = absurd (n e)

pub frees_none : (W : List Word) (i : ℕ) (w : Word) (v : ℕ) → i < length W → Read W i w → v ≡ free_no w → v ≡ 0 → frees (drop i W) ≡ []
frees_none W i w v h e f z = ap frees (drop_word W i w h e) ∙ none_first w (drop (i + 1) W) (sym z ∙ f)

pub frees_one : (W : List Word) (i : ℕ) (w : Word) (v : ℕ) → i < length W → Read W i w → v ≡ free_no w → (v ≡ 0 → ⊥) → frees (drop i W) ≡ (v - 1) ∷ frees (drop (i + 1) W)
frees_one W i w v h e f n = ap frees (drop_word W i w h e) ∙ one_first w (drop (i + 1) W) v f n

pub frees_past : (W : List Word) (i : ℕ) → length W ≤ i → frees (drop i W) ≡ []
unfolding frees
frees_past W i h = ap frees (drop_end W i h)
