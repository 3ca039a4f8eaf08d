-- A query's variables by the numbers of their names: N are the cells of the table of names, K the kinds, v the numbers. Assumes nothing.
use Rattle.std.specs.Prelude.{List, map, ℕ, ◌≤◌, T, length}
use Rattle.akl.specs.Base.{all}
use Rattle.akl.specs.Limits.{most_query_variables}
use Rattle.akl.specs.WellFormed.{names_pass}
use Rattle.read_nodes.specs.Spell.{named}
use Rattle.store_form.specs.Holding.{below}
use Rattle.check_links.specs.Links.{Nodes}
use Rattle.check_distinct.specs.Apart.{Apart}
use Rattle.check_namekinds.specs.Kinds.{KindsTo}

pub record CanName (N K v : List ℕ) : Type 0 where
  pub nodes : Nodes N
  pub apart : Apart N
  pub kinds : KindsTo N K (length N)
  pub most : length v ≤ most_query_variables

-- The numbers are nodes, and their names pass.
pub record NamesPass (N v : List ℕ) : Type 0 where
  pub known : T (all (below (length N)) v)
  pub pass : T (names_pass (map (named N) v))
