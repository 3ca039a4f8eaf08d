-- A place at or inside a goal, by positions; whether a rule that is determinate rewrites the goal or something inside it when it is
-- applied there. Each is said of every state that the words mean. Assumes nothing.
use Rattle.std.specs.Prelude.{◌≡◌, Bool, true, false, ◌&&◌, List, ℕ, ◌+◌, ◌<◌, ◌≤◌, eqb}
use Rattle.std.proofs.Math.Option.{Option, some, none}
use Rattle.akl.specs.Base.{any, range}
use Rattle.akl.specs.Configuration.{Kind, Node, Ctx}
use Rattle.akl.specs.Places.{Place, at}
use Rattle.akl.specs.Table.{Row, rule_row, takes_number}
use Rattle.akl.specs.Stability.{is_determinate, disturbs}
use Rattle.mem_words.specs.declared.Word.{Word}
use Rattle.store_form.specs.State.{State, program_of, config_of}
use Rattle.rule_effects.specs.Effects.{behind}
use Rattle.rule_ranges.specs.Asked.{QuietIn}
use Rattle.rule_kinds.specs.Kinds.{takes_in}
use Rattle.rule_applies.specs.declared.Asks.{Asks}
use Rattle.rule_applies.specs.declared.Asks.TheVariants.{Never, Always, Quiet, Satisfiable}
use Rattle.rule_applies.specs.Asking.{asks_in}
use Rattle.step_meant.specs.Meant.{Meant, StandsAt}

-- some state, a goal of its configuration at g and a place at or inside it at j are meant
pub record CanPlace (W D : List Word) (g j : ℕ) : Type 0 where
  pub state : State
  pub goal : Place
  pub place : Place
  pub meant : Meant W D state
  pub goal_stands : StandsAt state W goal g
  pub stands : StandsAt state W place j
  pub from : g ≤ j
  pub to : j < behind W g

-- does rule r, applied at j, disturb the goal at g?
pub record DisturbsAt (W D : List Word) (g j r : ℕ) (b : Bool) : Type 0 where
  pub right : (s : State) {k : Kind} (χ : Ctx k) (n : Node k) (pl : Place) → Meant W D s → StandsAt s W (at χ n) g → StandsAt s W pl j → b ≡ disturbs (program_of s) (config_of s) χ n r pl

-- does any of the fourteen?
pub record Disturbed (W D : List Word) (g j : ℕ) (b : Bool) : Type 0 where
  pub right : (s : State) {k : Kind} (χ : Ctx k) (n : Node k) (pl : Place) → Meant W D s → StandsAt s W (at χ n) g → StandsAt s W pl j → b ≡ any (λ r. disturbs (program_of s) (config_of s) χ n r pl) (range 1 14)

-- Inside a goal every rule rewrites the goal or something inside it, so that one answer serves all goals around the place at j: does
-- a determinate rule take the place, which is no and-box, and apply? None does where no place begins.
pub record MovedAt (W D : List Word) (j : ℕ) (b : Bool) : Type 0 where
  pub right : (takes_in W j ≡ 7 → ⊥) → (g : ℕ) → g < j → j < behind W g → Disturbed W D g j b
  pub place : b ≡ true → (takes_in W j ≡ 10 → ⊥) × (takes_in W j ≡ 7 → ⊥)

-- no guard is quiet that rule 6, 7 or 8 asks for at the place at j
pub record NoneQuiet (W : List Word) (j : ℕ) : Type 0 where
  pub promotion : takes_in W j ≡ 5 → Quiet (j + 2) ≡ asks_in W j 6 → QuietIn W (j + 2) (j + 2) false
  pub condition : takes_in W j ≡ 6 → Quiet (j + 1) ≡ asks_in W j 7 → QuietIn W (j + 1) (j + 1) false
  pub commitment : takes_in W j ≡ 6 → Quiet (j + 1) ≡ asks_in W j 8 → QuietIn W (j + 1) (j + 1) false

-- The same from the shape alone: a rule applies whatever the solver would say; or none does unless it asks for a guard that is quiet.
pub record ByShape (W : List Word) (j : ℕ) (b : Bool) : Type 0 where
  pub stirs : b ≡ true → (D : List Word) → MovedAt W D j true
  pub rests : b ≡ false → NoneQuiet W j → (D : List Word) → MovedAt W D j false

-- does a rule that asks this apply without a question to the solver?
abbrev pub is_always : Asks → Bool
is_always Never = false
is_always Always = true
is_always (Quiet q) = false
is_always (Satisfiable q) = false

-- Is a rule of this row, which asks a, determinate, does it take places of the kind of number K, and does it so apply?
abbrev pub row_moves : ℕ → Asks → Option Row → Bool
row_moves K a none = false
row_moves K a (some w) = is_determinate w.mode && eqb (takes_number w.takes) K && is_always a

-- rule r at the place at j
unfoldable pub moves_by : List Word → ℕ → ℕ → Bool
moves_by W j r = row_moves (takes_in W j) (asks_in W j r) (rule_row r)
