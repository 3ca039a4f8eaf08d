-- A well-formed store, with "its program and statements would pass 2 to 7" said by texts. That akl's test (WellFormed) says the
-- same is shown in proofs/StoreTexts.antt.
use Rattle.std.specs.Prelude.{List, [], ℕ, suc, ◌≤◌, T}
use Rattle.akl.specs.Base.{Name, size}
use Rattle.akl.specs.Limits.{last_number}
use Rattle.akl.specs.Syntax.{Program}
use Rattle.akl.specs.Configuration.{Config}
use Rattle.akl.specs.Parts.{parts}
use Rattle.akl.specs.WellFormed.{is_or}
use Rattle.theory.specs.Scope.{Ok}
use Rattle.theory.specs.Formed.{QueryLocal}
use Rattle.texts.specs.Readable.{ProgramText, NamesText, StatementsText}

pub record StoreFormed (limit : ℕ) (P : Program) (xs : List Name) (c : Config) : Type 0 where
  pub program : ProgramText P
  pub names : NamesText P xs
  pub statements : StatementsText c.root P
  pub top_or : T (is_or c.root)
  pub scopes : Ok c.root c.next []
  pub query : QueryLocal c.root (size xs)
  pub above : size xs ≤ c.next
  pub last : c.next ≤ suc last_number
  pub fit : parts c.root ≤ limit
