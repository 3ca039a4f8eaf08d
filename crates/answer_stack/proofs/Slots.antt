-- Laws of the definitions of specs/Slots.
use Rattle.std.specs.Prelude.{◌≡◌, List, ℕ, ◌/◌, length}
use Rattle.std.proofs.Common.{ap, ◌∙◌, arith}
use Rattle.mem_numbers.specs.Numbers.{longs, length_longs}
use Rattle.mem_parts.specs.Parts.{cut, length_cut, CanGet, CanSet}
use Rattle.work_tables.specs.Tables.{Laid, CanRead, CanWrite}
use Rattle.answer_stack.specs.Slots.{places_of}

pub length_places : {L : List ℕ} → Laid L → length (places_of L) ≡ 2048
unfolding places_of
length_places {L} h = let k = h.long in let n : length (cut 466944 475136 L) ≡ 8192 = length_cut 466944 475136 L (omega arith) in length_longs (cut 466944 475136 L) ∙ ap (λ (n : ℕ). n / 4) n

pub get_place : {L : List ℕ} {i : ℕ} → CanRead L 2048 i → CanGet 466944 475136 L (longs (cut 466944 475136 L)) i
unfolding places_of
get_place h = record { le = omega arith; fits = omega (arith, h.laid.long); inside = omega (arith, h.inside, length_places h.laid) }

pub set_place : {L : List ℕ} {i v : ℕ} → CanWrite L 2048 i 4294967296 v → CanSet 466944 475136 L (longs (cut 466944 475136 L)) i 4294967296 v
unfolding places_of
set_place h = record { le = omega arith; fits = omega (arith, h.laid.long); inside = omega (arith, h.inside, length_places h.laid); small = h.small }
