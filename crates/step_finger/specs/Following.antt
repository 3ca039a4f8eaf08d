-- A finger in the words that a rule leads to from a place at i of the words W. Assumes nothing.
use Rattle.std.specs.Prelude.{◌≡◌, List, ℕ, ◌≤◌, length, take}
use Rattle.mem_words.specs.declared.Word.{Word}
use Rattle.rule_words.specs.Scans.{around}
use Rattle.rule_rewrite.specs.Rewriting.{effect_words}
use Rattle.rule_places.specs.declared.Finger.{Finger}
use Rattle.rule_places.specs.Fingers.{Points}

-- the words before the rule's place stay
pub record KeepsFront (r : ℕ) : Type 0 where
  pub same : (W D : List Word) (i next : ℕ) → i ≤ length W → take i (effect_words W D r i next) ≡ take i W

-- those before the bracket around its place do
pub record KeepsOuter (r : ℕ) : Type 0 where
  pub same : (W D : List Word) (i next : ℕ) → i ≤ length W → take (around W i) (effect_words W D r i next) ≡ take (around W i) W

-- the first q words stay
pub record Stays (W : List Word) (r i q : ℕ) : Type 0 where
  pub same : (D : List Word) (next : ℕ) → take q (effect_words W D r i next) ≡ take q W

-- f is a finger in what the rule leads to
pub record Follows (W : List Word) (r i : ℕ) (f : Finger) : Type 0 where
  pub points : (D : List Word) (next : ℕ) → Points (effect_words W D r i next) f
