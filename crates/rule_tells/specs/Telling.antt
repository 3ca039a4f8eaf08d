-- Ranges of a configuration's words W told to the solver, one after the other on top of a mark: what is asked, and what is handed back.
-- Assumes nothing.
use Rattle.std.specs.Prelude.{◌≡◌, List, ◌∷◌, ◌++◌, ℕ, ◌+◌, ◌*◌, ◌≤◌, length}
use Rattle.constraint.specs.Tree.{Label}
use Rattle.constraint.specs.Constraint.{Satisfiable}
use Rattle.mem_words.specs.declared.Word.{Word}
use Rattle.mem_parts.specs.Parts.{Outside}
use Rattle.solve_fields.specs.Read.{Distinct, Vars}
use Rattle.solve_tells.specs.Draws.{Drawn}
use Rattle.solve_tells.specs.declared.Told as tolds
use Rattle.solve_tells.specs.declared.Told.TheVariants as told
use Rattle.work_tables.specs.Tables.{log_of}
use Rattle.work_marks.specs.Marks.{Mark, all_told, apps_told, Returns}
use Rattle.work_enter.specs.Enters.{At, Entered}
use Rattle.rule_ranges.specs.Ranges.{Range, ranges_from, told_all, log_words, apps_all}
use Rattle.rule_ranges.specs.Asked.{Within, RangesDrawn}
use Rattle.rule_tells.specs.declared.Around.{Around}
use Rattle.rule_tells.specs.declared.Around.TheVariants.{All, Failed}

-- A store entered took no more positions than it has applications.
abbrev pub Few : ℕ → ℕ → tolds.Told → Type 0
Few a q (told.All m b) = b ≤ a + q
Few a q (told.Failed m b) = Unit {0}
Few a q (told.NoRoom m b) = Unit {0}

pub record Counted (S : List Word) (L : List ℕ) (used n a from len : ℕ) (X : List ℕ) (r : tolds.Told) : Type 0 where
  pub entered : Entered S L used n a from len X r
  pub few : Few a (apps_told S from len) r

-- The slice L is at the mark (used, n, a) of some walk, and there is room for the ranges: words of the log, a position for each
-- application, and a trail for the different variables of the ranges and of the log.
pub record CanTellAll (W : List Word) (L : List ℕ) (rs : List Range) (used n a : ℕ) : Type 0 where
  pub marks : List Mark
  pub at : At L used n a marks
  pub within : Within W rs
  pub log : used + log_words rs ≤ 24576
  pub apps : a + apps_all W rs ≤ 2048
  pub vars : Vars W 65536
  pub others : List ℕ
  pub drawn : RangesDrawn W rs (0 ∷ others)
  pub logged : Drawn (log_of used L) (0 ∷ others)
  pub trail : 3 * (length others + 1) + 2 ≤ 8192

-- The walk ms goes on by marks between which the ranges were told; all that was told has a solution if it had one before.
pub record Onward (W : List Word) (rs : List Range) (X : List ℕ) (used n a : ℕ) (ms : List Mark) : Type 0 where
  pub news : List Mark
  pub at : At X used n a (news ++ ms)
  pub told : (lab : ℕ → Label) → all_told lab news ≡ told_all lab W rs
  pub solved : (lab : ℕ → Label) → Satisfiable (all_told lab ms) → Satisfiable (all_told lab (news ++ ms))

-- so does every walk that was at the mark; what was taken of the room
pub record AllOf (W : List Word) (L : List ℕ) (rs : List Range) (used n a : ℕ) (X : List ℕ) (used' n' a' : ℕ) : Type 0 where
  pub on : (ms : List Mark) → At L used n a ms → Onward W rs X used' n' a' ms
  pub words : used' ≡ used + log_words rs
  pub few : a' ≤ a + apps_all W rs
  pub drawn : (vs : List ℕ) → Drawn (log_of used L) vs → RangesDrawn W rs vs → Drawn (log_of used' X) vs

-- all that was told and the ranges have no solution; from a trail of m every walk that was at the mark can be brought back to it
pub record NoneOf (W : List Word) (L : List ℕ) (rs : List Range) (used n a : ℕ) (X : List ℕ) (m : ℕ) : Type 0 where
  pub returns : (ms : List Mark) → At L used n a ms → Returns X m ms
  pub none : (ms : List Mark) → At L used n a ms → (lab : ℕ → Label) → Distinct lab → Satisfiable (all_told lab ms ++ told_all lab W rs) → ⊥

abbrev pub Answer : List Word → List ℕ → List Range → ℕ → ℕ → ℕ → List ℕ → Around → Type 0
Answer W L rs used n a X (All u m b) = AllOf W L rs used n a X u m b
Answer W L rs used n a X (Failed m) = NoneOf W L rs used n a X m

pub record ToldAll (W : List Word) (L : List ℕ) (rs : List Range) (used n a : ℕ) (X : List ℕ) (r : Around) : Type 0 where
  pub answer : Answer W L rs used n a X r
  pub rest : Outside 0 335872 L X

-- On the way out from i, at j: the ranges rs were told, the others are those around j.
pub record Partly (W : List Word) (L : List ℕ) (s i used n a : ℕ) (X : List ℕ) (j u m b : ℕ) : Type 0 where
  pub rs : List Range
  pub split : ranges_from W s i ≡ rs ++ ranges_from W s j
  pub sofar : AllOf W L rs used n a X u m b
  pub rest : Outside 0 335872 L X
