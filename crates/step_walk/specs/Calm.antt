-- Of a stable goal: "for each and-box at or inside it, the stores from the goal down to that box are together quiet, with all locals inside
-- the goal as V, for the goal's environment"; and rule 9 applies to none of these boxes, so that each has a solution with its environment.
-- Assumes nothing.
use Rattle.std.specs.Prelude.{◌≡◌, Bool, true, false, ◌⊎◌, List, ℕ, ◌≤◌, ◌<◌}
use Rattle.mem_words.specs.declared.Word.{Word}
use Rattle.mem_sorts.specs.declared.Kind.TheVariants.{And}
use Rattle.rule_effects.specs.Effects.{behind}
use Rattle.rule_effects.specs.Conditions.{kind_at}
use Rattle.rule_ranges.specs.Asked.{SatIn, QuietIn}
use Rattle.rule_ranges.specs.Ranges.{locals_at}
use Rattle.solve_quiet.specs.Solver.{Marking}
use Rattle.work_tables.specs.Tables.{locals_of}
use Rattle.step_turn.specs.Stood.{Stood}

-- every and-box at or inside the goal at g: its store and its environment have a solution, and the stores from the goal down to it are
-- quiet for the goal's environment; or there is one of which one of these is not so
pub record BoxesCalm (W : List Word) (g : ℕ) (r : Bool) : Type 0 where
  pub calm : r ≡ true → (j : ℕ) → g ≤ j → j < behind W g → kind_at W j And ≡ true → SatIn W j true × QuietIn W g j true
  pub loud : r ≡ false → (j : ℕ) × (g ≤ j) × (j < behind W g) × (kind_at W j And ≡ true) × (SatIn W j false ⊎ QuietIn W g j false)

-- no and-box begins at or inside the goal; or one does
pub record Boxed (W : List Word) (g : ℕ) (r : Bool) : Type 0 where
  pub none : r ≡ true → (j : ℕ) → g ≤ j → j < behind W g → kind_at W j And ≡ true → ⊥
  pub some : r ≡ false → (j : ℕ) × (g ≤ j) × (j < behind W g) × (kind_at W j And ≡ true)

-- ---------------------------------------------------------------------------------------------
-- On the walk.

-- the and-boxes of the goal that begin before j have a solution with their environments, and are quiet
pub record CalmTo (W : List Word) (g j : ℕ) : Type 0 where
  pub at : (i : ℕ) → g ≤ i → i < j → kind_at W i And ≡ true → SatIn W i true × QuietIn W g i true

-- the walk is at j, and the locals inside the goal are marked
pub record Walks (W : List Word) (g from : ℕ) (X : List ℕ) (j d k used n a : ℕ) : Type 0 where
  pub stood : Stood W g from X j d k used n a
  pub locals : Marking (locals_of X) (locals_at W g)
  pub calm : CalmTo W g j
