-- The variable that a word is, as the code has it; the laws of words say it as a number and one more (free-no). Assumes nothing.
use Rattle.std.specs.Prelude.{◌≡◌, refl, Option, None, Some, List, [], ◌∷◌, ℕ, suc, ◌+◌, ◌-◌, ◌<◌, ◌≤◌, length, drop}
use Rattle.std.proofs.Common.{ap, sym, ◌∙◌, arith}
use Rattle.mem_words.specs.declared.Word.{Word}
use Rattle.mem_words.specs.declared.Word.TheVariants.{End, Free, Level, Num, Place, Inner, Bad}
use Rattle.mem_words.specs.Words.{Read, Small}
use Rattle.mem_variables.specs.declared.Variable.{Variable}
use Rattle.check_words.specs.Frees.{frees, free_no}
use Rattle.check_words.specs.Passes.{frees_none, frees_one}

abbrev pub seen : Word → Option Variable
seen End = None
seen (Free x) = Some (record { 0 = x })
seen (Level l) = None
seen (Num n) = None
seen (Place k) = None
seen (Inner s) = None
seen Bad = None

abbrev number : Option Variable → ℕ
number None = 0
number (Some x) = suc x.0

number_seen : (w : Word) → number (seen w) ≡ free_no w
number_seen End = refl
number_seen (Free x) = refl
number_seen (Level l) = refl
number_seen (Num n) = refl
number_seen (Place k) = refl
number_seen (Inner s) = refl
number_seen Bad = refl

free_small : (w : Word) → Small w → free_no w ≤ 65536
free_small End s = omega arith
free_small (Free x) s = let q = s.value in omega (arith, q)
free_small (Level l) s = omega arith
free_small (Num n) s = omega arith
free_small (Place k) s = omega arith
free_small (Inner t) s = omega arith
free_small Bad s = omega arith

module _ (w : Word) {r : Option Variable} (e : r ≡ seen w) where
  seen_nothing : r ≡ None → 0 ≡ free_no w
  seen_nothing g = sym (ap number g) ∙ ap number e ∙ number_seen w

  module _ (x : Variable) (g : r ≡ Some x) where
    seen_one : suc x.0 ≡ free_no w
    seen_one = sym (ap number g) ∙ ap number e ∙ number_seen w

    pub seen_small : Small w → x.0 < 65536
    seen_small s = omega (arith, seen_one, free_small w s)

-- the variables that the words from i on begin with: none, or the one that was seen and those behind it
module _ (W : List Word) (i : ℕ) (w : Word) {r : Option Variable} (h : i < length W) (l : Read W i w) (e : r ≡ seen w) where
  pub seen_last : r ≡ None → frees (drop i W) ≡ []
  seen_last g = frees_none W i w 0 h l (seen_nothing w e g) refl

  pub seen_first : (x : Variable) → r ≡ Some x → frees (drop i W) ≡ x.0 ∷ frees (drop (i + 1) W)
  seen_first x g =
      let d : suc x.0 - 1 ≡ x.0 = omega arith in
      frees_one W i w (suc x.0) h l (seen_one w e x g) (λ z. omega (arith, z)) ∙ ap (λ (y : ℕ). y ∷ frees (drop (i + 1) W)) d
