-- Words put together from pieces of other words. Assumes nothing.
use Rattle.std.specs.Prelude.{List, [], ◌∷◌, ◌++◌, ℕ, ◌+◌, ◌-◌, length, take, drop}
use Rattle.mem_words.specs.declared.Word.{Word}

-- the words from a up to b, as far as there are any
unfoldable pub cut : ℕ → ℕ → List Word → List Word
cut a b W = take (b - a) (drop a W)

-- pieces one after the other, and then the words Z
abbrev pub cat : List (List Word) → List Word → List Word
cat [] Z = Z
cat (x ∷ X) Z = x ++ cat X Z
