-- A table of names N with the numbers v of a query's variables: what is decided of them, and what is left in the working slice.
-- Assumes nothing.
use Rattle.std.specs.Prelude.{◌≡◌, refl, List, Bool, true, false, ℕ, ◌<◌, ◌≤◌, length, drop}
use Rattle.std.proofs.Common.{◌∙◌, arith}
use Rattle.akl.specs.Limits.{most_query_variables}
use Rattle.mem_numbers.specs.Decides.{Decides}
use Rattle.mem_parts.specs.Parts.{cut, outside_wide, cut_left, cut_right}
use Rattle.work_tables.specs.Tables.{Laid}
use Rattle.check_rooted.specs.Rooted.{Rooted}
use Rattle.check_nodetables.specs.Tables.{Looked, Marked}
use Rattle.check_distinct.specs.Apart.{Apart}
use Rattle.check_namekinds.specs.Kinds.{KindsTo}
use Rattle.check_querynames.specs.Variables.{NamesPass}

pub record CanLook (N v : List ℕ) : Type 0 where
  pub some : 0 < length N
  pub most : length N ≤ 20490
  pub few : length v ≤ most_query_variables

-- N is a trie, no two of its nodes have the same name, and v are nodes whose names pass as those of a query's variables.
pub record NamesStand (N v : List ℕ) : Type 0 where
  pub rooted : Rooted N
  pub apart : Apart N
  pub pass : NamesPass N v

abbrev pub Told : List ℕ → List ℕ → List ℕ → Bool → Type 0
Told N v K true = NamesStand N v × KindsTo N K (length N)
Told N v K false = NamesStand N v → ⊥

-- the kinds of names were changed, and the bytes from 65,536 on up to 148,008
pub record Touched (L X : List ℕ) : Type 0 where
  pub between : cut 20490 65536 X ≡ cut 20490 65536 L
  pub after : drop 148008 X ≡ drop 148008 L
  pub long : length X ≡ length L

pub touched_none : (L : List ℕ) → Touched L L
touched_none L = record { between = refl; after = refl; long = refl }

pub touched_then : {L X Y : List ℕ} → Touched L X → Touched X Y → Touched L Y
touched_then p q = record { between = q.between ∙ p.between; after = q.after ∙ p.after; long = q.long ∙ p.long }

pub looked_touched : {L X : List ℕ} → Laid L → Looked L X → Touched L X
looked_touched h p = record { between = cut_left 20490 65536 (omega arith) (omega arith) (omega (arith, h.long)) p; after = p.after; long = p.long }

pub marked_touched : {L X : List ℕ} → Marked L X → Touched L X
marked_touched p = record { between = cut_right 20490 65536 (omega arith) p; after = (outside_wide 0 148008 (omega arith) (omega arith) p).after; long = p.long }

-- the last test decides
pub told_by : (N v K : List ℕ) (r : Bool) → Rooted N → Apart N → KindsTo N K (length N) → Decides (NamesPass N v) r → Told N v K r
told_by N v K true R A k d = (record { rooted = R; apart = A; pass = d }, k)
told_by N v K false R A k d = λ s. d s.pass
