-- The stack of a walk over the and-boxes of a goal: 8,192 entries of four numbers of two bytes, from 401,408 on in the working slice.
-- Assumes nothing.
use Rattle.std.specs.Prelude.{◌≡◌, List, ℕ, ◌+◌, ◌*◌, ◌<◌, get_or}
use Rattle.std.proofs.Common.{ap, arith}
use Rattle.mem_numbers.specs.Numbers.{shorts}
use Rattle.mem_numbers.specs.Stored.{Stored}
use Rattle.mem_parts.specs.Parts.{cut, Outside, cut_right}
use Rattle.work_tables.specs.Tables.{Laid}

unfoldable pub frames_of : List ℕ → List ℕ
frames_of L = shorts (cut 401408 466944 L)

-- what the solver changes lies before it
pub same_frames : {L X : List ℕ} → Outside 0 335872 L X → frames_of X ≡ frames_of L
unfolding frames_of
same_frames p = ap shorts (cut_right 401408 466944 (omega arith) p)

-- the entry at k: how many brackets are open inside the and-box around; the used words, the trail and the applications before the one
-- that was entered
pub record Frame (F : List ℕ) (k d used n a : ℕ) : Type 0 where
  pub depth : get_or F (4 * k) 0 ≡ d
  pub words : get_or F (4 * k + 1) 0 ≡ used
  pub trail : get_or F (4 * k + 2) 0 ≡ n
  pub apps : get_or F (4 * k + 3) 0 ≡ a

pub record CanPush (L : List ℕ) (k d used n a : ℕ) : Type 0 where
  pub laid : Laid L
  pub inside : k < 8192
  pub depth : d < 65536
  pub words : used < 65536
  pub trail : n < 65536
  pub apps : a < 65536

pub record Pushed (L : List ℕ) (k d used n a : ℕ) (X : List ℕ) : Type 0 where
  pub frame : Frame (frames_of X) k d used n a
  pub below : (i : ℕ) → i < 4 * k → get_or (frames_of X) i 0 ≡ get_or (frames_of L) i 0
  pub rest : Outside 401408 466944 L X

-- one number
pub record PutSlot (L : List ℕ) (i v : ℕ) (X : List ℕ) : Type 0 where
  pub list : Stored (frames_of L) i v (frames_of X)
  pub rest : Outside 401408 466944 L X
