-- A walk that goes one store deeper: what is asked, and what is handed back. Assumes nothing.
use Rattle.std.specs.Prelude.{◌≡◌, List, ◌∷◌, ◌++◌, ℕ, ◌+◌, ◌*◌, ◌≤◌, length}
use Rattle.constraint.specs.Tree.{Label}
use Rattle.constraint.specs.Constraint.{Satisfiable}
use Rattle.mem_words.specs.declared.Word.{Word}
use Rattle.mem_parts.specs.Parts.{Outside}
use Rattle.solve_fields.specs.Read.{Distinct, Vars}
use Rattle.solve_tells.specs.Draws.{Drawn}
use Rattle.solve_tells.specs.declared.Told.{Told}
use Rattle.solve_tells.specs.declared.Told.TheVariants.{All, Failed, NoRoom}
use Rattle.work_tables.specs.Tables.{log_of}
use Rattle.work_walk.specs.Pushes.{longer}
use Rattle.work_marks.specs.Marks.{Mark, trail_at, apps_at, used_at, all_told, range_told, apps_told, after, Walk, Returns}

-- the slice L is at the latest mark of the walk ms, and these are its numbers
pub record At (L : List ℕ) (used n a : ℕ) (ms : List Mark) : Type 0 where
  pub walk : Walk L ms
  pub is_used : used_at ms ≡ used
  pub is_trail : trail_at ms ≡ n
  pub is_apps : apps_at ms ≡ a

-- it is at a mark of some walk, the log has room for the range, and the variables of S have cells
pub record CanEnter (S : List Word) (L : List ℕ) (used n a from len : ℕ) : Type 0 where
  pub marks : List Mark
  pub at : At L used n a marks
  pub source : from + len ≤ length S
  pub room : used + len + 3 ≤ 24576
  pub vars : Vars S 65536

-- the walk has one mark more, and a solution if it had one
pub record Deeper (S : List Word) (L : List ℕ) (used n a from len : ℕ) (X : List ℕ) (m b : ℕ) : Type 0 where
  pub at : (ms : List Mark) → At L used n a ms → At X (used + len + 3) m b (after ms S from len m b ∷ ms)
  pub solved : (ms : List Mark) → At L used n a ms → (lab : ℕ → Label) → Satisfiable (all_told lab ms) → Satisfiable (all_told lab ms ++ range_told S from len lab)

-- all that was told and the range have no solution; the walk can be brought back
pub record Hopeless (S : List Word) (L : List ℕ) (used n a from len : ℕ) (X : List ℕ) (m : ℕ) : Type 0 where
  pub returns : (ms : List Mark) → At L used n a ms → Returns X m ms
  pub none : (ms : List Mark) → At L used n a ms → (lab : ℕ → Label) → Distinct lab → Satisfiable (all_told lab ms ++ range_told S from len lab) → ⊥

-- there are more different variables than the trail has room for, or more applications than positions; the walk can be brought back
pub record Lacking (S : List Word) (L : List ℕ) (used n a from len : ℕ) (X : List ℕ) (m : ℕ) : Type 0 where
  pub returns : (ms : List Mark) → At L used n a ms → Returns X m ms
  pub why : (vs : List ℕ) → Drawn (longer S L used from len) vs → 3 * length vs + 2 ≤ 8192 → a + apps_told S from len ≤ 2048 → ⊥

abbrev pub Answer : List Word → List ℕ → ℕ → ℕ → ℕ → ℕ → ℕ → List ℕ → Told → Type 0
Answer S L used n a from len X (All m b) = Deeper S L used n a from len X m b
Answer S L used n a from len X (Failed m b) = Hopeless S L used n a from len X m
Answer S L used n a from len X (NoRoom m b) = Lacking S L used n a from len X m

-- besides, the log has the range, and the marks of locals and what lies behind them are as they were
pub record Entered (S : List Word) (L : List ℕ) (used n a from len : ℕ) (X : List ℕ) (r : Told) : Type 0 where
  pub answer : Answer S L used n a from len X r
  pub log : log_of (used + len + 3) X ≡ longer S L used from len
  pub rest : Outside 0 335872 L X
