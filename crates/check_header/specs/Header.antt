-- What reading a header promises: its numbers within their bounds, or that they are not. Assumes nothing.
use Rattle.std.specs.Prelude.{◌≡◌, refl, List, ℕ, get_or}
use Rattle.store_form.specs.Sizes.{most_nodes, most_program_words, most_together, header_length}
use Rattle.check_held.specs.Checks.{Counts}
use Rattle.check_header.specs.declared.Header.{Header}
use Rattle.check_header.specs.declared.Heading.{Heading}
use Rattle.check_header.specs.declared.Heading.TheVariants.{Counted, Wrong}

-- c has the numbers of h
pub record Read (limit : ℕ) (h : List ℕ) (c : Header) : Type 0 where
  pub nodes : c.nodes ≡ get_or h 1 0
  pub rules : c.rules ≡ get_or h 2 0
  pub variables : c.variables ≡ get_or h 3 0
  pub words : c.words ≡ get_or h 4 0
  pub next : c.next ≡ get_or h 5 0
  pub counts : Counts limit h

abbrev pub Headed : ℕ → List ℕ → Heading → Type 0
Headed limit h (Counted c) = Read limit h c
Headed limit h Wrong = Counts limit h → ⊥

-- the bounds, as numbers
pub bounds : (most_nodes ≡ 20489) × (most_program_words ≡ 40960) × (header_length ≡ 18) × (most_together ≡ 53257)
unfolding most_nodes most_program_words most_together header_length
bounds = (refl, refl, refl, refl)
