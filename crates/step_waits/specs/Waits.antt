-- Guards of which a rule asks whether they are quiet: 6 at the choice-box, 7 or 8 at the guarded goal, a place inside the goal at g.
-- Assumes nothing.
use Rattle.std.specs.Prelude.{◌≡◌, Bool, ◌⊎◌, List, ℕ, ◌+◌, ◌<◌, ◌≤◌, length}
use Rattle.mem_numbers.specs.Decides.{Decides}
use Rattle.mem_words.specs.declared.Word.{Word}
use Rattle.work_tables.specs.Tables.{Laid}
use Rattle.rule_kinds.specs.Kinds.{takes_in}
use Rattle.rule_applies.specs.declared.Asks.TheVariants.{Quiet}
use Rattle.rule_applies.specs.Asking.{asks_in}
use Rattle.step_path.specs.Paths.{Path}

-- the choice-box whose only guard is at j
pub record Sole (W : List Word) (g j : ℕ) : Type 0 where
  pub place : ℕ
  pub here : j ≡ place + 2
  pub inside : g < place
  pub takes : takes_in W place ≡ 5
  pub asks : Quiet (place + 2) ≡ asks_in W place 6

-- the guarded goal whose guard is at j, with another beside it
abbrev pub Operator : List Word → ℕ → Type 0
Operator W i = (Quiet (i + 1) ≡ asks_in W i 7) ⊎ (Quiet (i + 1) ≡ asks_in W i 8)

pub record Beside (W : List Word) (g j : ℕ) : Type 0 where
  pub place : ℕ
  pub here : j ≡ place + 1
  pub inside : g < place
  pub takes : takes_in W place ≡ 6
  pub asks : Operator W place

abbrev pub Waits : List Word → ℕ → ℕ → Type 0
Waits W g j = Sole W g j ⊎ Beside W g j

-- the table of X has the h brackets of the goal at g that are open at j
pub record CanWait (W : List Word) (X : List ℕ) (g j h : ℕ) : Type 0 where
  pub order : g ≤ j
  pub low : j < length W
  pub few : length W ≤ 28672
  pub laid : Laid X
  pub path : Path W g X j h

-- is it so?
pub record IsSole (W : List Word) (g j : ℕ) (b : Bool) : Type 0 where
  pub is : Decides (Sole W g j) b

pub record Operates (W : List Word) (i : ℕ) (b : Bool) : Type 0 where
  pub is : Decides (Operator W i) b

pub record IsBeside (W : List Word) (g j : ℕ) (b : Bool) : Type 0 where
  pub is : Decides (Beside W g j) b

pub record IsWaiting (W : List Word) (g j : ℕ) (b : Bool) : Type 0 where
  pub is : Decides (Waits W g j) b
