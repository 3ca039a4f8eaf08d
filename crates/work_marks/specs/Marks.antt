-- The marks of a walk: after each store that was told one mark, the latest first. A walk's beginning is the mark below all. Assumes nothing.
use Rattle.std.specs.Prelude.{◌≡◌, List, [], ◌∷◌, ◌++◌, ℕ, ◌+◌, ◌≤◌, length}
use Rattle.constraint.specs.Tree.{Label}
use Rattle.constraint.specs.Constraint.{Store}
use Rattle.mem_words.specs.declared.Word.{Word}
use Rattle.mem_copies.specs.Runs.{run}
use Rattle.solve_fields.specs.Read.{told}
use Rattle.solve_tells.specs.Tells.{State, Means, Left, apps_of}
use Rattle.work_tables.specs.Tables.{cells_of, vars_of, olds_of, pos_of, log_of, Laid}
use Rattle.work_log.specs.Logs.{stop}
use Rattle.work_grows.specs.Closed.{Closed}

-- a mark: the length of the trail, the applications and the used words of the log, and the store told between the mark below it and it
pub record Mark : Type 0 where
  pub trail : ℕ
  pub apps : ℕ
  pub used : ℕ
  pub store : (ℕ → Label) → Store

-- those of the latest mark; a walk begins with nothing
abbrev pub trail_at : List Mark → ℕ
trail_at [] = 0
trail_at (m ∷ ms) = m.trail

abbrev pub apps_at : List Mark → ℕ
apps_at [] = 0
apps_at (m ∷ ms) = m.apps

abbrev pub used_at : List Mark → ℕ
used_at [] = 0
used_at (m ∷ ms) = m.used

-- all that was told up to the latest mark, the outermost store first
abbrev pub all_told : (ℕ → Label) → List Mark → Store
all_told lab [] = []
all_told lab (m ∷ ms) = all_told lab ms ++ m.store lab

-- the constraints that begin in the range of a store's words
abbrev pub range_told : List Word → ℕ → ℕ → (ℕ → Label) → Store
range_told S from len lab = told lab len (run from len S ++ stop)

-- how many applications begin in it
abbrev pub apps_told : List Word → ℕ → ℕ → ℕ
apps_told S from len = apps_of len (run from len S ++ stop)

-- the mark after a range of S was told
abbrev pub after : List Mark → List Word → ℕ → ℕ → ℕ → ℕ → Mark
after ms S from len n a = record { trail = n; apps = a; used = used_at ms + len + 3; store = range_told S from len }

-- the tables have all that was told up to the mark
pub record Here (ms : List Mark) (W : List Word) (P T X C : List ℕ) : Type 0 where
  pub state : State W P T X C (trail_at ms) (apps_at ms)
  pub closed : Closed W P (apps_at ms)
  pub words : length W ≡ used_at ms
  pub means : (lab : ℕ → Label) → Means lab W P T (all_told lab ms)

-- tables from which those of the mark ms, of which Q is true, can be had back
pub record Under (Q : List Word → List ℕ → List ℕ → List ℕ → List ℕ → Type 0) (ms : List Mark) (W : List Word) (P T X C : List ℕ) (n a : ℕ) : Type 0 where
  pub words : List Word
  pub more : List Word
  pub log : W ≡ words ++ more
  pub pos : List ℕ
  pub cells : List ℕ
  pub vars : List ℕ
  pub olds : List ℕ
  pub stood : Q words pos cells vars olds
  pub left : Left W pos cells vars olds (trail_at ms) (apps_at ms) P T X C n a

-- the tables at the latest mark; those of every mark below can be had back
abbrev pub Stand : List Mark → List Word → List ℕ → List ℕ → List ℕ → List ℕ → Type 0
Stand [] W P T X C = Here [] W P T X C
Stand (m ∷ ms) W P T X C = Here (m ∷ ms) W P T X C × Under (Stand ms) ms W P T X C m.trail m.apps

-- the working slice L is at the latest mark of the walk ms
pub record Walk (L : List ℕ) (ms : List Mark) : Type 0 where
  pub laid : Laid L
  pub room : used_at ms ≤ 24576
  pub stand : Stand ms (log_of (used_at ms) L) (pos_of L) (cells_of L) (vars_of L) (olds_of L)

-- its trail has n entries and it may be at no mark, as after a push that failed: it can be brought back to the walk ms
pub record Returns (L : List ℕ) (n : ℕ) (ms : List Mark) : Type 0 where
  pub laid : Laid L
  pub used : ℕ
  pub room : used ≤ 24576
  pub apps : ℕ
  pub under : Under (Stand ms) ms (log_of used L) (pos_of L) (cells_of L) (vars_of L) (olds_of L) n apps
