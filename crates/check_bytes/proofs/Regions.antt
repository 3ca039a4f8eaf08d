-- The regions of a store by their numbers, and what is not used of them. Assumes nothing.
use mathlib.Core.Path.{◌≡◌, sym, subst}
use mathlib.Core.List.{List}
use mathlib.Core.Bool.{Bool, true, false}
use Prim.Native.Nat.{ℕ, ◌+◌, ◌*◌, ◌≤◌}
use native.Mathlib.Omega.{arith}
use lib.ListN.{length}
use Rattle.mem_numbers.specs.Decides.{Decides}
use Rattle.store_form.specs.Sizes.{program_start, variables_start, config_start, config_length, store_length}
use Rattle.store_form.proofs.Lengths.{starts}
use Rattle.check_zeros.specs.Zeros.{Zeros}
use Rattle.check_held.specs.Checks.{numbers_in, nodes_in, rules_in, variables_in, words_in, Counts, Unused}
use Rattle.check_header.specs.Header.{Read, Headed, bounds}
use Rattle.check_header.specs.declared.Header.{Header}
use Rattle.check_header.specs.declared.Heading.{Heading}
use Rattle.check_header.specs.declared.Heading.TheVariants.{Counted, Wrong}
use Rattle.check_bytes.specs.Bytes.{Laid}

pub at_end : (limit : ℕ) → store_length limit ≡ 159837 + 42 * limit
unfolding store_length config_length
at_end limit = let e = starts.2 in omega arith

-- the same range, by other words
same_zeros : (b : List ℕ) (a e a' e' : ℕ) → a ≡ a' → e ≡ e' → Zeros b a e → Zeros b a' e'
same_zeros b a e a' e' p q z i h g = z i (omega arith) (omega arith)

module _ (limit : ℕ) (b : List ℕ) (L : Laid limit b) (h : Header) (R : Read limit (numbers_in b) h) where
  abbrev pub Rules : Type 0
  Rules = Zeros b (18 + 3 * h.nodes + 3 * h.rules) 159789

  abbrev pub Variables : Type 0
  Variables = Zeros b (159789 + 3 * h.variables) 159837

  abbrev pub Words : Type 0
  Words = Zeros b (159837 + 3 * h.words) (159837 + 42 * limit)

  pub whole : 159837 + 42 * limit ≤ length b
  whole = omega (arith, at_end limit, L.long)

  pub few_nodes : h.nodes ≤ 20489
  few_nodes = omega (arith, R.nodes, R.counts.nodes, bounds.0)

  pub few_rules : h.rules ≤ 40960
  few_rules = omega (arith, R.rules, R.counts.rules, bounds.1)

  pub few_together : h.nodes + h.rules ≤ 53257
  few_together = omega (arith, R.nodes, R.rules, R.counts.together, bounds.3)

  pub few_variables : h.variables ≤ 16
  few_variables = omega (arith, R.variables, R.counts.variables)

  pub few_words : h.words ≤ 14 * limit
  few_words = omega (arith, R.words, R.counts.words)

  -- where the words of the program end
  behind : program_start (nodes_in b) + 3 * rules_in b ≡ 18 + 3 * h.nodes + 3 * h.rules
  unfolding program_start
  behind = omega (arith, R.nodes, R.rules, starts.0)

  pub no_rules : (Rules → ⊥) → Unused limit b → ⊥
  no_rules n u = n (same_zeros b (program_start (nodes_in b) + 3 * rules_in b) variables_start (18 + 3 * h.nodes + 3 * h.rules) 159789 behind starts.1 u.rules)

  pub no_variables : (Variables → ⊥) → Unused limit b → ⊥
  no_variables n u = n (same_zeros b (variables_start + 3 * variables_in b) config_start (159789 + 3 * h.variables) 159837 (omega (arith, R.variables, starts.1)) starts.2 u.variables)

  pub all_unused : Rules → Variables → (r : Bool) → Decides Words r → Decides (Unused limit b) r
  all_unused p v true w = record {
    rules = same_zeros b (18 + 3 * h.nodes + 3 * h.rules) 159789 (program_start (nodes_in b) + 3 * rules_in b) variables_start (sym behind) (sym starts.1) p;
    variables = same_zeros b (159789 + 3 * h.variables) 159837 (variables_start + 3 * variables_in b) config_start (omega (arith, R.variables, starts.1)) (sym starts.2) v;
    words = same_zeros b (159837 + 3 * h.words) (159837 + 42 * limit) (config_start + 3 * words_in b) (store_length limit) (omega (arith, R.words, starts.2)) (sym (at_end limit)) w;
  }
  all_unused p v false w = λ u. w (same_zeros b (config_start + 3 * words_in b) (store_length limit) (159837 + 3 * h.words) (159837 + 42 * limit) (omega (arith, R.words, starts.2)) (at_end limit) u.words)

-- the answers of reading a header, by their equations
pub read_counted : (limit : ℕ) (l : List ℕ) (r : Heading) (h : Header) → r ≡ Counted h → Headed limit l r → Read limit l h
read_counted limit l r h e d = subst (Headed limit l) e d

pub read_wrong : (limit : ℕ) (l : List ℕ) (r : Heading) → r ≡ Wrong → Headed limit l r → Counts limit l → ⊥
read_wrong limit l r e d = subst (Headed limit l) e d
