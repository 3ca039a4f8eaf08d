-- Whether words are those of a configuration whose statements pass, by the tables of the working slice. Assumes nothing.
use Rattle.std.specs.Prelude.{◌≡◌, List, Bool, true, ℕ, ◌≤◌, length}
use Rattle.mem_words.specs.declared.Word.{Word}
use Rattle.mem_parts.specs.Parts.{Outside}
use Rattle.check_shapes.specs.declared.Frame.TheVariants.{Root}
use Rattle.check_shapes.specs.Passed.{config_passed}
use Rattle.check_tables.specs.Tables.{kinds_of, arities_of, Tabled, con_of, pred_of, def_of}
use Rattle.check_run.specs.Running.{runs, CanRun, Ran}

pub record CanCheck (L : List ℕ) (m : ℕ) (W : List Word) : Type 0 where
  pub tables : Tabled L m
  pub short : length W ≤ 40960

-- r says whether the words W pass
pub record Checked (L : List ℕ) (m : ℕ) (W : List Word) (X : List ℕ) (r : Bool) : Type 0 where
  pub is : r ≡ config_passed (con_of m (kinds_of L)) (pred_of m (kinds_of L)) (def_of m (arities_of L)) W
  pub rest : Outside 65536 262144 L X

pub can_run : {L : List ℕ} {m : ℕ} {W : List Word} → CanCheck L m W → CanRun L m W Root
can_run c = record { tables = c.tables; short = c.short; low = tt }

pub checked : {L X : List ℕ} {m : ℕ} {W : List Word} {r : Bool} → Ran L m true W Root X r → Checked L m W X r
unfolding config_passed runs
checked n = record { is = n.is; rest = n.rest }
