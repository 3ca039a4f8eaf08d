-- The parts counted in the first words of bytes. Assumes nothing.
use mathlib.Core.Path.{◌≡◌, refl, ap, ◌∙◌}
use mathlib.Core.List.{List, []}
use Prim.Native.Nat.{ℕ, ◌*◌, ◌≤◌}
use native.Mathlib.Omega.{arith}
use lib.ListN.{length, take}
use lib.Seq.{length-take-le}
use Rattle.akl.specs.Base.{Name}
use Rattle.akl.specs.Configuration.{Kind, Node}
use Rattle.akl.specs.Parts.{parts}
use Rattle.mem_words.specs.declared.Word.{Word}
use Rattle.mem_words.specs.Words.{words, length_words}
use Rattle.store_words.specs.Boxes.{node_words}
use Rattle.store_form.specs.State.{State, table, number_in}
use Rattle.store_form.specs.Form.{config_words}
use Rattle.store_parts.specs.declared.Among.TheVariants.{Others}
use Rattle.store_parts.specs.Counting.{parts_in}
use Rattle.store_parts.proofs.Trees.{node_parts}
use Rattle.store_pieces.proofs.Words.{words_prefix}

-- what is lent to the count
pub lent_words : (O : List ℕ) (n : ℕ) → 3 * n ≤ length O → length (words (take (3 * n) O)) ≡ n
lent_words O n h = omega (arith, length_words (take (3 * n) O), length-take-le (3 * n) O h)

pub lent_parts : (O : List ℕ) (n p : ℕ) → 3 * n ≤ length O → p ≡ parts_in Others (words (take (3 * n) O)) → p ≡ parts_in Others (take n (words O))
lent_parts O n p h e = e ∙ ap (parts_in Others) (words_prefix O n h)

-- The words of a configuration have its parts.
pub words_parts : (num : Name → ℕ) {k : Kind} (g : Node k) (W : List Word) → W ≡ node_words num g [] → parts_in Others W ≡ parts g
unfolding parts_in
words_parts num g W e = ap (parts_in Others) e ∙ (let h = node_parts g num [] in omega (arith, h))

pub config_parts : (s : State) → parts_in Others (config_words s) ≡ parts s.config.root
unfolding config_words
config_parts s = words_parts (number_in (table s)) s.config.root (config_words s) refl
