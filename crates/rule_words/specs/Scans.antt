-- Brackets in a list of words: where the bracket that opens at a position closes, and which one is open around a position.
-- Every position is allowed, and any words. Assumes nothing.
use Rattle.std.specs.Prelude.{Bool, true, false, cond, List, [], ◌∷◌, ℕ, zero, suc, ◌+◌, ◌-◌, length, get_or, drop}
use Rattle.mem_words.specs.declared.Word.{Word}
use Rattle.mem_words.specs.declared.Word.TheVariants.{End, Free, Level, Num, Place, Inner, Bad}

-- Forwards. Does the word close the bracket, where d more are open inside it?
abbrev pub closes : Word → ℕ → Bool
closes End zero = true
closes End (suc d) = false
closes (Free v) d = false
closes (Level v) d = false
closes (Num v) d = false
closes (Place k) d = false
closes (Inner s) d = false
closes Bad d = false

-- how many are open inside it behind the word
abbrev pub deeper : Word → ℕ → ℕ
deeper End d = d - 1
deeper (Free v) d = d
deeper (Level v) d = d
deeper (Num v) d = d
deeper (Place k) d = d + 1
deeper (Inner s) d = d + 1
deeper Bad d = d

-- how many words stand before the End that closes it; all that there are where none does
unfoldable pub upto : List Word → ℕ → ℕ
upto [] d = 0
upto (w ∷ l) d = cond (closes w d) 0 (suc (upto l (deeper w d)))

-- where the bracket that opens at i closes; the number of words if it does not
unfoldable pub close : List Word → ℕ → ℕ
close W i = length W - length (drop (i + 1) W) + upto (drop (i + 1) W) 0

-- Backwards. Does the word open the bracket, where d brackets were closed on the way?
abbrev pub opens : Word → ℕ → Bool
opens End d = false
opens (Free v) d = false
opens (Level v) d = false
opens (Num v) d = false
opens (Place k) zero = true
opens (Place k) (suc d) = false
opens (Inner s) zero = true
opens (Inner s) (suc d) = false
opens Bad d = false

-- how many were closed, with the word
abbrev pub higher : Word → ℕ → ℕ
higher End d = d + 1
higher (Free v) d = d
higher (Level v) d = d
higher (Num v) d = d
higher (Place k) d = d - 1
higher (Inner s) d = d - 1
higher Bad d = d

-- where the bracket that is open at i opens, d brackets having been closed on the way; 0 if none is open
unfoldable pub up : ℕ → List Word → ℕ → ℕ
up zero W d = 0
up (suc i) W d = cond (opens (get_or W i Bad) d) i (up i W (higher (get_or W i Bad) d))

unfoldable pub around : List Word → ℕ → ℕ
around W i = up i W 0
