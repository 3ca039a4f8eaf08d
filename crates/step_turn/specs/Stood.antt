-- A walk over the and-boxes of a goal, at one of its words: what is known there, and what is handed back behind it.
-- Assumes nothing.
use Rattle.std.specs.Prelude.{◌≡◌, true, false, Option, Some, None, List, ◌∷◌, ◌++◌, ℕ, ◌+◌, ◌≤◌, ◌<◌, length, get_or}
use Rattle.constraint.specs.Tree.{Label}
use Rattle.constraint.specs.Constraint.{Satisfiable}
use Rattle.mem_words.specs.declared.Word.{Word}
use Rattle.mem_words.specs.declared.Word.TheVariants.{Bad}
use Rattle.mem_sorts.specs.declared.Kind.TheVariants.{And}
use Rattle.mem_parts.specs.Parts.{Outside}
use Rattle.solve_tells.specs.Draws.{Drawn}
use Rattle.work_tables.specs.Tables.{log_of, locals_of, Laid}
use Rattle.work_marks.specs.Marks.{Mark, all_told}
use Rattle.work_enter.specs.Enters.{At}
use Rattle.rule_words.specs.Scans.{opens, close}
use Rattle.rule_effects.specs.Effects.{behind}
use Rattle.rule_effects.specs.Conditions.{kind_at}
use Rattle.rule_ranges.specs.Ranges.{ranges_from}
use Rattle.rule_ranges.specs.Asked.{RoomFor, StoresDrawn, Roomy, SatIn}
use Rattle.step_open.specs.Opened.{Opened}
use Rattle.step_frames.specs.Frames.{frames_of}
use Rattle.step_turn.specs.Boxes.{Bracket, places, marks, inner, boxes, Told, Framed, Environment}
use Rattle.step_turn.specs.declared.Stand.{Stand}

-- the goal at g is a bracket of W, and there is room for the stores around it and from it down to each and-box
pub record CanWalk (W : List Word) (g : ℕ) : Type 0 where
  pub roomy : Roomy W
  pub first : opens (get_or W g Bad) 0 ≡ true
  pub whole : behind W g ≤ length W
  pub around : RoomFor W (ranges_from W 0 g)
  pub inside : (j : ℕ) → g ≤ j → j < behind W g → kind_at W j And ≡ true → RoomFor W (ranges_from W 0 g ++ ranges_from W g (j + 1))

-- the and-box at j has no solution with its environment
pub record Unsolved (W : List Word) (j : ℕ) : Type 0 where
  pub kind : kind_at W j And ≡ true
  pub none : SatIn W j false

-- The walk is at j: the slice X is at the mark (used, n, a), the latest of those of the brackets that are open; d of these are inside
-- the innermost of k and-boxes; all that was told has a solution. Of what is marked as local nothing is said.
pub record Stood (W : List Word) (g from : ℕ) (X : List ℕ) (j d k used n a : ℕ) : Type 0 where
  pub env : List Mark
  pub brackets : List Bracket
  pub outer : Environment W g from env
  pub opened : Opened W g j (places brackets)
  pub told : Told W env brackets
  pub framed : Framed (frames_of X) env brackets
  pub depth : inner brackets ≡ d
  pub height : boxes brackets ≡ k
  pub at : At X used n a (marks env brackets)
  pub solved : (lab : ℕ → Label) → Satisfiable (all_told lab (marks env brackets))
  pub logged : (us : List ℕ) → StoresDrawn W (0 ∷ us) → Drawn (log_of used X) (0 ∷ us)

-- it is so for some goal, and j is before the goal's end
pub record CanTurn (W : List Word) (X : List ℕ) (j d k used n a : ℕ) : Type 0 where
  pub goal : ℕ
  pub from : ℕ
  pub can : CanWalk W goal
  pub stood : Stood W goal from X j d k used n a
  pub low : j < close W goal

abbrev pub Goes : List Word → ℕ → ℕ → ℕ → List ℕ → Option Stand → Type 0
Goes W g from j X (Some s) = Stood W g from X (j + 1) s.depth s.boxes s.mark.used s.mark.trail s.mark.applications
Goes W g from j X None = Unsolved W j

-- it goes on behind the word for every goal for which it was so; what is marked as local is as it was, and what lies behind the stack
pub record Turned (W : List Word) (L : List ℕ) (j d k used n a : ℕ) (X : List ℕ) (r : Option Stand) : Type 0 where
  pub goes : (g from : ℕ) → CanWalk W g → Stood W g from L j d k used n a → j < close W g → Goes W g from j X r
  pub locals : locals_of X ≡ locals_of L
  pub rest : Outside 0 466944 L X
  pub laid : Laid X
