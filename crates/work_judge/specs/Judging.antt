-- One store against one environment on the working slice. Assumes nothing.
use Rattle.std.specs.Prelude.{◌≡◌, Bool, true, false, List, ◌++◌, ℕ, ◌+◌, ◌-◌, ◌*◌, ◌≤◌, length}
use Rattle.constraint.specs.Tree.{Label}
use Rattle.constraint.specs.Constraint.{Quiet, Fresh}
use Rattle.mem_words.specs.declared.Word.{Word}
use Rattle.mem_copies.specs.Runs.{run}
use Rattle.mem_parts.specs.Parts.{Outside}
use Rattle.solve_fields.specs.Read.{Distinct, Vars}
use Rattle.solve_tells.specs.Draws.{Drawn}
use Rattle.solve_quiet.specs.Solver.{Marking}
use Rattle.work_judge.specs.declared.Judged.{Judged}
use Rattle.work_judge.specs.declared.Judged.TheVariants.{Unfit, NoSpace, Silent, Loudly}
use Rattle.work_tables.specs.Tables.{locals_of, Laid}
use Rattle.work_log.specs.Logs.{stop}
use Rattle.work_walk.specs.Pushes.{longer}
use Rattle.work_marks.specs.Marks.{Mark, trail_at, apps_at, used_at, all_told, range_told, apps_told, Walk}

-- what does not fit S alone is called unfit, and only where there is no room, R, is there no answer: where both are given the
-- answer is the verdict
abbrev pub Fitted : Type 0 → Type 0 → Judged → Type 0
Fitted S R Unfit = S → ⊥
Fitted S R NoSpace = S × (R → ⊥)
Fitted S R Silent = S
Fitted S R Loudly = S

-- the verdict; where there is none, `Fitted` says why
abbrev pub Says : Type 0 → Judged → Type 0
Says Q Unfit = Unit {0}
Says Q NoSpace = Unit {0}
Says Q Silent = Q
Says Q Loudly = Q → ⊥

-- the slice is at the mark (n, a, used) of some walk, and a range may be pushed
pub record CanAgainst (S : List Word) (L : List ℕ) (used n a from len : ℕ) : Type 0 where
  pub marks : List Mark
  pub walk : Walk L marks
  pub is_used : used_at marks ≡ used
  pub is_trail : trail_at marks ≡ n
  pub is_apps : apps_at marks ≡ a
  pub source : from + len ≤ length S
  pub room : used + len + 3 ≤ 24576
  pub vars : Vars S 65536

-- a position for each application, and in the trail 3 entries for each different variable of the log's words, 0 among them, and 2 more
pub record RoomIn (W : List Word) (q : ℕ) : Type 0 where
  pub apps : q ≤ 2048
  pub vars : List ℕ
  pub drawn : Drawn W vars
  pub trail : 3 * length vars + 2 ≤ 8192

-- the answer for every walk that is at that mark: whether the range is quiet for all that was told
pub record Against (S : List Word) (L : List ℕ) (used n a from len : ℕ) (r : Judged) : Type 0 where
  pub fits : Fitted (Unit {0}) (RoomIn (longer S L used from len) (a + apps_told S from len)) r
  pub right : (ms : List Mark) → Walk L ms → used_at ms ≡ used → trail_at ms ≡ n → apps_at ms ≡ a → (lab : ℕ → Label) → Distinct lab → (vs : List ℕ) → Marking (locals_of L) vs → Fresh vs (all_told lab ms) → Says (Quiet vs (all_told lab ms) (range_told S from len lab)) r

-- the words and the ranges fit the slice
pub record Suits (S : List Word) (from mid to : ℕ) (L : List ℕ) : Type 0 where
  pub first : from ≤ mid
  pub second : mid ≤ to
  pub end : to ≤ length S
  pub room : to + 6 ≤ 24576 + from
  pub vars : Vars S 65536
  pub laid : Laid L

abbrev pub Suit : List Word → ℕ → ℕ → ℕ → List ℕ → Bool → Type 0
Suit S from mid to L true = Suits S from mid to L
Suit S from mid to L false = Suits S from mid to L → ⊥

-- the words that the log has in the end
abbrev pub written : List Word → ℕ → ℕ → ℕ → List Word
written S from mid to = (run from (mid - from) S ++ stop) ++ (run mid (to - mid) S ++ stop)

-- whether the constraints from mid on up to `to` are quiet, with the locals vs, for those from `from` on up to mid
pub record Judgement (S : List Word) (from mid to : ℕ) (vs L : List ℕ) (r : Judged) : Type 0 where
  pub fits : Fitted (Suits S from mid to L) (RoomIn (written S from mid to) (apps_told S from (mid - from) + apps_told S mid (to - mid))) r
  pub right : (lab : ℕ → Label) → Distinct lab → Fresh vs (range_told S from (mid - from) lab) → Says (Quiet vs (range_told S from (mid - from) lab) (range_told S mid (to - mid) lab)) r

-- the locals of vs are marked, and no others
pub record Locals (L vs X : List ℕ) : Type 0 where
  pub marks : Marking (locals_of X) vs
  pub rest : Outside 335872 401408 L X
