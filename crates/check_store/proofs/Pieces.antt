-- The parts of a store that are lent are its counted pieces. Assumes nothing.
use mathlib.Core.Path.{◌≡◌, refl, sym, ap, ap₂, ◌∙◌}
use mathlib.Core.List.{List}
use Prim.Native.Nat.{ℕ, ◌+◌, ◌-◌, ◌*◌}
use native.Mathlib.Omega.{arith}
use lib.ListN.{take, drop}
use Rattle.mem_numbers.specs.Numbers.{triples}
use Rattle.mem_parts.specs.Parts.{cut}
use Rattle.mem_words.specs.declared.Word.{Word}
use Rattle.mem_words.specs.Words.{words}
use Rattle.store_form.specs.Sizes.{header_length, program_start, variables_start, config_start}
use Rattle.store_form.specs.Holding.{piece}
use Rattle.store_form.proofs.Lengths.{starts}
use Rattle.check_held.specs.Checks.{nodes_in, rules_in, variables_in, words_in, names_at, rules_at, variables_at, words_at}
use Rattle.check_rules.specs.Rules.{names_of_store, variables_of_store, rules_of_store}

cut_piece : (a o n k : ℕ) (b : List ℕ) → o ≡ a → k ≡ n → cut a (a + 3 * k) b ≡ piece o n b
unfolding cut piece
cut_piece a o n k b e f =
    let z : a + 3 * k - a ≡ 3 * n = omega arith in
    ap₂ (λ (x y : ℕ). take x (drop y b)) z (sym e)

pub names_are : (b : List ℕ) (m : ℕ) → m ≡ nodes_in b → names_of_store b m ≡ names_at b
unfolding names_of_store names_at
names_are b m e = ap triples (cut_piece 18 header_length (nodes_in b) m b starts.0 e)

pub rules_are : (b : List ℕ) (m r : ℕ) → m ≡ nodes_in b → r ≡ rules_in b → rules_of_store b m r ≡ rules_at b
unfolding rules_of_store rules_at program_start
rules_are b m r d e = ap words (cut_piece (18 + 3 * m) (program_start (nodes_in b)) (rules_in b) r b (omega (arith, d, starts.0)) e)

pub variables_are : (b : List ℕ) (q : ℕ) → q ≡ variables_in b → variables_of_store b q ≡ variables_at b
unfolding variables_of_store variables_at
variables_are b q e = ap triples (cut_piece 159789 variables_start (variables_in b) q b starts.1 e)

pub words_are : (b : List ℕ) (c : ℕ) → c ≡ words_in b → words (cut 159837 (159837 + 3 * c) b) ≡ words_at b
unfolding words_at
words_are b c e = ap words (cut_piece 159837 config_start (words_in b) c b starts.2 e)
