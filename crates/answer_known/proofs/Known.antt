-- Laws of the definitions of specs/Known.
use Rattle.std.specs.Prelude.{◌≡◌, List, ℕ, ◌/◌, length}
use Rattle.std.proofs.Common.{ap, ◌∙◌, arith}
use Rattle.mem_numbers.specs.Numbers.{longs, length_longs}
use Rattle.mem_parts.specs.Parts.{cut, length_cut, CanGet, CanSet}
use Rattle.work_tables.specs.Tables.{Laid, CanRead, CanWrite}
use Rattle.answer_known.specs.Known.{known_of}

-- ---------------------------------------------------------------------------------------------
-- One entry is read or written.

pub length_known : {L : List ℕ} → Laid L → length (known_of L) ≡ 2048
unfolding known_of
length_known {L} h = let k = h.long in let n : length (cut 479232 487424 L) ≡ 8192 = length_cut 479232 487424 L (omega arith) in length_longs (cut 479232 487424 L) ∙ ap (λ (n : ℕ). n / 4) n

pub get_known : {L : List ℕ} {k : ℕ} → CanRead L 2048 k → CanGet 479232 487424 L (longs (cut 479232 487424 L)) k
unfolding known_of
get_known h = record { le = omega arith; fits = omega (arith, h.laid.long); inside = omega (arith, h.inside, length_known h.laid) }

pub set_known : {L : List ℕ} {k v : ℕ} → CanWrite L 2048 k 4294967296 v → CanSet 479232 487424 L (longs (cut 479232 487424 L)) k 4294967296 v
unfolding known_of
set_known h = record { le = omega arith; fits = omega (arith, h.laid.long); inside = omega (arith, h.inside, length_known h.laid); small = h.small }
