-- The table of rows: the cases marked P in document 01, the five "readings that fit the page and not the rule", one row
-- at least for every refusal 2 to 7 and 10 to 18 (9 by what is well formed), each rule's outcome in full, and rows that tell
-- the definitions from near misses (docs/TESTING.md has the list). They stand by subject in the files named here; one computed
-- test shows all of them. What a row expects is worked out by hand from document 01.
use Rattle.std.specs.Prelude.{◌≡◌, refl, List, [], ◌∷◌, ◌++◌, map, ℕ, suc}
use Rattle.akl.specs.Base.{if}
use Rattle.akl.specs.RowKinds.{Row, shows, outcome, due}
use Rattle.akl.specs.ConstraintRows.{constraint_rows}
use Rattle.akl.specs.TextRows.{times, text_rows}
use Rattle.akl.specs.RunRows.{run_rows}
use Rattle.akl.specs.StableRows.{stable_rows}
use Rattle.akl.specs.LimitRows.{limit_rows}
use Rattle.akl.specs.FormedRows.{deep, copies, definitions_to, formed_rows}
use Rattle.akl.specs.LeadRows.{lead_rows}
use Rattle.akl.specs.Computed.{everything}

rows : List Row
rows = constraint_rows ++ text_rows ++ run_rows ++ stable_rows ++ limit_rows ++ formed_rows

-- the numbers, from 1, of the rows that fail
failing : ℕ → List Row → List ℕ
failing n [] = []
failing n (r ∷ rs) = if (shows r) (failing (suc n) rs) (n ∷ failing (suc n) rs)

every_row : (failing 1 rows ≡ []) × (map outcome lead_rows ≡ map due lead_rows)
unfolding everything rows failing constraint_rows text_rows run_rows stable_rows limit_rows formed_rows lead_rows times deep copies definitions_to
every_row = (refl, refl)
