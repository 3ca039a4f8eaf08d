-- The documented lengths, and that a well-formed configuration fits its region.
use mathlib.Core.Path.{◌≡◌, refl}
use mathlib.Core.List.{List}
use Prim.Native.Nat.{ℕ, ◌*◌, ◌≤◌}
use lib.ListN.{length}
use Rattle.akl.specs.Base.{Name}
use Rattle.akl.specs.Limits.{most_parts}
use Rattle.akl.specs.Syntax.{Program}
use Rattle.theory.specs.Formed.{Formed}
use Rattle.store_words.proofs.Formed.{formed_size}
use Rattle.store_form.specs.Sizes.{most_together, part_words, header_length, variables_length, config_length, variables_start, config_start, store_length}
use Rattle.store_form.specs.State.{State, table, number_in}
use Rattle.store_form.specs.Form.{config_words}

-- Where the regions begin, and how long a store is.
pub starts : (header_length ≡ 18) × (variables_start ≡ 159789) × (config_start ≡ 159837)
unfolding header_length variables_start config_start variables_length most_together
starts = (refl, refl, refl)

-- for 2,048 parts, and for 8,192
pub lengths : (store_length most_parts ≡ 245853) × (store_length 8192 ≡ 503901)
unfolding store_length config_length header_length variables_start config_start variables_length most_together
lengths = (refl, refl)

-- the words of a well-formed configuration fit their region
pub formed_words : (limit : ℕ) (s : State) (P : Program) (xs : List Name) → Formed limit P xs s.config → length (config_words s) ≤ part_words * limit
unfolding config_words
formed_words limit s P xs f = formed_size (number_in (table s)) limit P xs s.config f
