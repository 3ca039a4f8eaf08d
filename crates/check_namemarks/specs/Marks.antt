-- Marks of names: one number that says how a name is spelled and how long it is, and that goes on byte by byte. Assumes nothing.
use Rattle.std.specs.Prelude.{◌≡◌, List, [], ◌∷◌, Bool, true, false, ℕ, zero, suc, ◌+◌, ◌*◌, ◌/◌, ◌%◌, ◌<◌, leb, get_or}
use Rattle.akl.specs.Base.{Name, if, all, size}
use Rattle.akl.specs.Limits.{name_bytes}
use Rattle.akl.specs.Token.{Class, small, capital, digit, underscore, blank, mark, other, class_of, word_class, digit_class}
use Rattle.read_nodes.specs.Spell.{named}

-- How a name is spelled, by the class of its first byte and whether all others may go on a word, or digits: 1 as a name, 2 as digits,
-- 3 as a variable, 0 as none of them.
abbrev pub formed : Class → Bool → Bool → ℕ
formed small a d = if a 1 0
formed capital a d = if a 3 0
formed digit a d = if d 2 0
formed underscore a d = 0
formed blank a d = 0
formed mark a d = 0
formed other a d = 0

unfoldable pub words_on : Name → Bool
words_on w = all (λ x. word_class (class_of x)) w

unfoldable pub digits_on : Name → Bool
digits_on w = all (λ x. digit_class (class_of x)) w

unfoldable pub form : Name → ℕ
form [] = 0
form (x ∷ w) = formed (class_of x) (words_on w) (digits_on w)

-- what it becomes with one byte more
abbrev pub goes : ℕ → Bool → Bool → ℕ
goes zero a d = 0
goes (suc zero) a d = if a 1 0
goes (suc (suc zero)) a d = if d 2 0
goes (suc (suc (suc f))) a d = if a (suc (suc (suc f))) 0

-- 0 for a name that is spelled in none of these ways or is too long, else 64 times the way plus the length
abbrev pub packs : ℕ → Bool → ℕ → ℕ
packs zero b l = 0
packs (suc f) true l = suc f * 64 + l
packs (suc f) false l = 0

unfoldable pub packed : ℕ → ℕ → ℕ
packed f l = packs f (leb l name_bytes) l

unfoldable pub mark_of : Name → ℕ
mark_of w = packed (form w) (size w)

-- the mark of a node, by its parent's number and mark, and the class of its byte
unfoldable pub marked : ℕ → ℕ → Class → ℕ
marked zero s c = packed (formed c true true) 1
marked (suc p) s c = packed (goes (s / 64) (word_class c) (digit_class c)) (s % 64 + 1)

-- K has the marks of the nodes below i
abbrev pub MarkedTo : List ℕ → List ℕ → ℕ → Type 0
MarkedTo N K i = (j : ℕ) → j < i → get_or K j 0 ≡ mark_of (named N j)

abbrev pub RootMarked : List ℕ → Type 0
RootMarked K = get_or K 0 0 ≡ 0
