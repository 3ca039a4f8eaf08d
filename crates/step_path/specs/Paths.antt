-- Where the brackets open that are open on a walk over the words of a goal: 28,672 numbers of two bytes, from 466,944 on in the working
-- slice, the outermost first. Assumes nothing.
use Rattle.std.specs.Prelude.{◌≡◌, true, List, [], ◌∷◌, ℕ, ◌+◌, ◌<◌, ◌≤◌, length, get_or}
use Rattle.mem_numbers.specs.Numbers.{shorts}
use Rattle.mem_numbers.specs.Stored.{Stored}
use Rattle.mem_words.specs.declared.Word.{Word}
use Rattle.mem_words.specs.declared.Word.TheVariants.{Bad}
use Rattle.mem_parts.specs.Parts.{cut, Outside}
use Rattle.work_tables.specs.Tables.{Laid}
use Rattle.rule_words.specs.Scans.{opens, close}
use Rattle.step_open.specs.Opened.{Opened}

unfoldable pub path_of : List ℕ → List ℕ
path_of L = shorts (cut 466944 524288 L)

-- the table P has the brackets os, the innermost first
unfoldable pub Placed : List ℕ → List ℕ → Type 0
Placed P [] = Unit {0}
Placed P (o ∷ os) = (get_or P (length os) 0 ≡ o) × Placed P os

-- it has those of the goal at g that are open at j; h of them are
pub record Path (W : List Word) (g : ℕ) (X : List ℕ) (j h : ℕ) : Type 0 where
  pub brackets : List ℕ
  pub opened : Opened W g j brackets
  pub placed : Placed (path_of X) brackets
  pub height : length brackets ≡ h

-- j is before the end of the goal, which is a bracket within the words
pub record Before (W : List Word) (g j : ℕ) : Type 0 where
  pub first : opens (get_or W g Bad) 0 ≡ true
  pub low : j < close W g
  pub whole : close W g < length W

pub record CanPass (W : List Word) (X : List ℕ) (j h : ℕ) : Type 0 where
  pub goal : ℕ
  pub before : Before W goal j
  pub path : Path W goal X j h
  pub few : length W ≤ 28672
  pub laid : Laid X

-- behind the word it has those that are open there, for every goal
pub record Passed (W : List Word) (L : List ℕ) (j h : ℕ) (X : List ℕ) (r : ℕ) : Type 0 where
  pub on : (g : ℕ) → Before W g j → Path W g L j h → Path W g X (j + 1) r
  pub rest : Outside 466944 524288 L X

pub record PutPlace (L : List ℕ) (i v : ℕ) (X : List ℕ) : Type 0 where
  pub list : Stored (path_of L) i v (path_of X)
  pub rest : Outside 466944 524288 L X
