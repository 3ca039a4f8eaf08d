-- The number of a word that was read fits two bytes. Assumes nothing.
use Rattle.std.specs.Prelude.{◌≡◌, ℕ, ◌<◌, get_or, List}
use Rattle.std.proofs.Common.{ap, ◌∙◌, subst, sym, arith}
use Rattle.mem_words.specs.declared.Word.{Word}
use Rattle.mem_words.specs.declared.Word.TheVariants.{End, Free, Level, Num, Place, Inner, Bad}
use Rattle.mem_words.specs.Words.{Small, Read}
use Rattle.rule_effects.specs.Effects.{number_in}

number_small : (w : Word) → Small w → number_in w < 65536
number_small End s = omega arith
number_small (Free v) s = omega arith
number_small (Level v) s = omega arith
number_small (Num v) s = s.value
number_small (Place k) s = omega arith
number_small (Inner k) s = omega arith
number_small Bad s = omega arith

pub number_read : {W : List Word} {j : ℕ} {w : Word} (n : ℕ) → Read W j w → n ≡ number_in w → (n ≡ number_in (get_or W j Bad)) × (n < 65536)
number_read {W} {j} {w} n r e = (e ∙ ap number_in r.is, subst (λ (k : ℕ). k < 65536) (sym e) (number_small w r.small))
