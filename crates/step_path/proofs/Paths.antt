-- Laws of the definitions of specs/Paths.
use Rattle.std.specs.Prelude.{◌≡◌, List, ℕ, ◌/◌, length}
use Rattle.std.proofs.Common.{ap, ◌∙◌, arith}
use Rattle.mem_numbers.specs.Numbers.{shorts, length_shorts}
use Rattle.mem_parts.specs.Parts.{cut, length_cut, CanGet, CanSet}
use Rattle.work_tables.specs.Tables.{Laid, CanRead, CanWrite}
use Rattle.step_path.specs.Paths.{path_of}

pub length_path : {L : List ℕ} → Laid L → length (path_of L) ≡ 28672
unfolding path_of
length_path {L} h = let k = h.long in let n : length (cut 466944 524288 L) ≡ 57344 = length_cut 466944 524288 L (omega arith) in length_shorts (cut 466944 524288 L) ∙ ap (λ (n : ℕ). n / 2) n

pub can_get : {L : List ℕ} {i : ℕ} → CanRead L 28672 i → CanGet 466944 524288 L (shorts (cut 466944 524288 L)) i
unfolding path_of
can_get h = record { le = omega arith; fits = omega (arith, h.laid.long); inside = omega (arith, h.inside, length_path h.laid) }

pub can_put : {L : List ℕ} {i v : ℕ} → CanWrite L 28672 i 65536 v → CanSet 466944 524288 L (shorts (cut 466944 524288 L)) i 65536 v
unfolding path_of
can_put h = record { le = omega arith; fits = omega (arith, h.laid.long); inside = omega (arith, h.inside, length_path h.laid); small = h.small }
