-- The guards of a goal of which rules 6, 7 and 8 ask whether they are quiet: what a walk over them finds. Assumes nothing.
use Rattle.std.specs.Prelude.{◌≡◌, Bool, true, false, ◌⊎◌, List, [], ℕ, ◌+◌, ◌≤◌, ◌<◌}
use Rattle.mem_words.specs.declared.Word.{Word}
use Rattle.mem_sorts.specs.declared.Kind.TheVariants.{And, Cond, Commit}
use Rattle.mem_parts.specs.Parts.{Outside}
use Rattle.solve_quiet.specs.Solver.{Marking}
use Rattle.work_tables.specs.Tables.{locals_of, Laid}
use Rattle.rule_words.specs.Scans.{close}
use Rattle.rule_effects.specs.Effects.{behind}
use Rattle.rule_effects.specs.Conditions.{kind_at}
use Rattle.rule_ranges.specs.Asked.{QuietIn}
use Rattle.step_path.specs.Paths.{Path}
use Rattle.step_turn.specs.Stood.{CanWalk, Stood}
use Rattle.step_walk.specs.Calm.{BoxesCalm}
use Rattle.step_waits.specs.Waits.{Waits}

-- none of them is quiet; or one is, or there is an and-box that is not calm
pub record GuardsRest (W : List Word) (g : ℕ) (r : Bool) : Type 0 where
  pub rest : r ≡ true → (j : ℕ) → g ≤ j → j < close W g → Waits W g j → QuietIn W j j false
  pub stir : r ≡ false → BoxesCalm W g false ⊎ ((j : ℕ) × (g ≤ j) × (j < close W g) × Waits W g j × QuietIn W j j true)

-- no choice-box with the operator `->` or `|` begins at or inside the goal
pub record Operators (W : List Word) (g : ℕ) (r : Bool) : Type 0 where
  pub none : r ≡ true → (j : ℕ) → g ≤ j → j < behind W g → (kind_at W j Cond ≡ false) × (kind_at W j Commit ≡ false)

-- ---------------------------------------------------------------------------------------------
-- On the walk.

-- the walk is behind the first word of the and-box at j, of some goal
pub record CanAskOwn (W : List Word) (X : List ℕ) (j k used n a : ℕ) : Type 0 where
  pub goal : ℕ
  pub from : ℕ
  pub depth : ℕ
  pub can : CanWalk W goal
  pub order : goal ≤ j
  pub kind : kind_at W j And ≡ true
  pub stood : Stood W goal from X (j + 1) depth k used n a

-- is the box's store quiet for its environment, with its own locals? The walk is where it was, for every goal, and nothing is marked.
pub record OwnAsked (W : List Word) (L : List ℕ) (j k used n a : ℕ) (X : List ℕ) (r : Bool) : Type 0 where
  pub quiet : (g from d : ℕ) → g ≤ j → kind_at W j And ≡ true → Stood W g from L (j + 1) d k used n a → Marking (locals_of L) [] → QuietIn W j j r
  pub still : (g from d : ℕ) → Stood W g from L (j + 1) d k used n a → Stood W g from X (j + 1) d k used n a
  pub unmarked : Marking (locals_of L) [] → Marking (locals_of X) []
  pub rest : Outside 0 466944 L X
  pub laid : Laid X

-- none of those before j is quiet
pub record RestTo (W : List Word) (g j : ℕ) : Type 0 where
  pub at : (i : ℕ) → g ≤ i → i < j → Waits W g i → QuietIn W i i false

-- the walk is at j, where h brackets are open, and nothing is marked
pub record Asks (W : List Word) (g from : ℕ) (X : List ℕ) (j d k used n a h : ℕ) : Type 0 where
  pub stood : Stood W g from X j d k used n a
  pub path : Path W g X j h
  pub unmarked : Marking (locals_of X) []
  pub rest : RestTo W g j
