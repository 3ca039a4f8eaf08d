-- The words of a store's bytes b: n of its configuration, and m of its program, which begins behind the names; and the region of the
-- working slice in which the next configuration is built. Assumes nothing.
use Rattle.std.specs.Prelude.{◌≡◌, List, ℕ, ◌+◌, ◌*◌, ◌≤◌, length}
use Rattle.mem_words.specs.declared.Word.{Word}
use Rattle.mem_words.specs.Words.{words}
use Rattle.mem_parts.specs.Parts.{cut}
use Rattle.check_held.specs.Checks.{nodes_in, rules_in, words_in}
use Rattle.rule_build.specs.Built.{Built}
use Rattle.rule_rewrite.specs.Rewriting.{effect_words, fresh_words}
use Rattle.step_meant.specs.Deciding.{HoldsState}

unfoldable pub config_part : List ℕ → ℕ → List Word
config_part b n = words (cut 159837 (159837 + 3 * n) b)

unfoldable pub program_part : List ℕ → ℕ → List Word
program_part b m = words (cut (18 + 3 * nodes_in b) (18 + 3 * nodes_in b + 3 * m) b)

-- the store holds a state, and these are its counts
pub record Counts (b : List ℕ) (n m : ℕ) : Type 0 where
  pub long : 245853 ≤ length b
  pub held : HoldsState b
  pub config : n ≡ words_in b
  pub rules : m ≡ rules_in b

-- a rule may be applied at i of the words W, with fresh numbers from `next` on
pub record CanRewrite (W : List Word) (r i next : ℕ) : Type 0 where
  pub there : i ≤ length W
  pub numbers : next + fresh_words W r i ≤ 65536
  pub first : 1 ≤ r
  pub last : r ≤ 14

-- the rule's effect was built as x words in the working slice w, behind the solver's tables, where there is room for 28,672
pub record WasBuilt (b : List ℕ) (n m next r i x : ℕ) (w : List ℕ) : Type 0 where
  pub built : Built 28672 (effect_words (config_part b n) (program_part b m) r i next) x (words (cut 401408 487424 w))
