-- What is decided of a store's bytes before its words are looked at. Assumes nothing.
use Rattle.std.specs.Prelude.{List, ℕ, ◌≤◌, length}
use Rattle.store_form.specs.Sizes.{store_length}
use Rattle.check_held.specs.Checks.{numbers_in, Counts, Unused}
use Rattle.check_header.specs.Header.{Read}
use Rattle.check_header.specs.declared.Heading.{Heading}
use Rattle.check_header.specs.declared.Heading.TheVariants.{Counted, Wrong}

pub record Laid (limit : ℕ) (b : List ℕ) : Type 0 where
  pub parts : limit ≤ 65536
  pub long : store_length limit ≤ length b

-- The header's numbers, within their bounds and with zeros behind what they count; or not.
abbrev pub BytesTold : ℕ → List ℕ → Heading → Type 0
BytesTold limit b (Counted c) = Read limit (numbers_in b) c × Unused limit b
BytesTold limit b Wrong = Counts limit (numbers_in b) → Unused limit b → ⊥
