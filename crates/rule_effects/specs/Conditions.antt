-- Conditions of rules that are on the shape alone, as tests of a configuration's words W. Assumes nothing.
use Rattle.std.specs.Prelude.{Bool, true, false, ◌&&◌, not, List, ℕ, ◌+◌, eqb, length, get_or}
use Rattle.mem_words.specs.declared.Word.{Word}
use Rattle.mem_words.specs.declared.Word.TheVariants.{End, Free, Level, Num, Place, Inner, Bad}
use Rattle.mem_sorts.specs.declared.Kind.{Kind}
use Rattle.mem_sorts.specs.declared.Kind.TheVariants.{Or, And}
use Rattle.mem_sorts.specs.Shapes.{kind_no}
use Rattle.rule_words.specs.Scans.{closes, around}
use Rattle.rule_effects.specs.Effects.{behind, store_end}

-- does a bracket end at j?
unfoldable pub ends_at : List Word → ℕ → Bool
ends_at W j = closes (get_or W j Bad) 0

-- the number of the kind of place that a word begins; 7 if it begins none
abbrev pub kind_in : Word → ℕ
kind_in End = 7
kind_in (Free v) = 7
kind_in (Level v) = 7
kind_in (Num v) = 7
kind_in (Place k) = kind_no k
kind_in (Inner s) = 7
kind_in Bad = 7

-- does a place of this kind begin at j?
unfoldable pub kind_at : List Word → ℕ → Kind → Bool
kind_at W j k = eqb (kind_in (get_or W j Bad)) (kind_no k)

-- is the box at g a solved and-box?
unfoldable pub solved_at : List Word → ℕ → Bool
solved_at W g = kind_at W g And && ends_at W (store_end W g + 1)

-- is it failure, and is it an or-box that is not empty?
unfoldable pub failure_at : List Word → ℕ → Bool
failure_at W g = kind_at W g Or && ends_at W (g + 1)

unfoldable pub parts_at : List Word → ℕ → Bool
parts_at W g = kind_at W g Or && not (ends_at W (g + 1))

-- does something stand to the right of the guarded goal at i, or to its left?
unfoldable pub right_at : List Word → ℕ → Bool
right_at W i = not (ends_at W (behind W i))

unfoldable pub left_at : List Word → ℕ → Bool
left_at W i = not (eqb (around W i + 1) i)

-- has the choice-box at i one guarded goal, or more?
unfoldable pub one_at : List Word → ℕ → Bool
one_at W i = not (ends_at W (i + 1)) && ends_at W (behind W (i + 1))

unfoldable pub more_at : List Word → ℕ → Bool
more_at W i = not (ends_at W (i + 1)) && not (ends_at W (behind W (i + 1)))
