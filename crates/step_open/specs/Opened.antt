-- The brackets of the goal at g that are open at a position j of its words W, by where they open, the innermost first. Assumes nothing.
use Rattle.std.specs.Prelude.{◌≡◌, List, [], ◌∷◌, ℕ, ◌+◌, ◌≤◌, ◌<◌, length, drop}
use Rattle.mem_words.specs.declared.Word.{Word}
use Rattle.rule_words.specs.Scans.{upto, close, around}

-- each is the one around the one inside it; at g none is open
unfoldable pub Chain : List Word → ℕ → ℕ → List ℕ → Type 0
Chain W g j [] = j ≡ g
Chain W g j (o ∷ os) = (around W j ≡ o) × (g ≤ o) × (o < j) × Chain W g o os

-- the goal closes where the last of them does
unfoldable pub Ahead : List Word → ℕ → ℕ → List ℕ → Type 0
Ahead W g j [] = Unit {0}
Ahead W g j (o ∷ os) = close W g ≡ j + upto (drop j W) (length os)

pub record Opened (W : List Word) (g j : ℕ) (os : List ℕ) : Type 0 where
  pub chain : Chain W g j os
  pub ahead : Ahead W g j os
