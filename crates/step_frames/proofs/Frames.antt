-- Laws of the definitions of specs/Frames.
use Rattle.std.specs.Prelude.{◌≡◌, List, ℕ, ◌+◌, ◌*◌, ◌/◌, ◌<◌, length}
use Rattle.std.proofs.Common.{ap, ◌∙◌, arith}
use Rattle.mem_numbers.specs.Numbers.{shorts, length_shorts}
use Rattle.mem_numbers.specs.Stored.{stored_same, stored_other}
use Rattle.mem_parts.specs.Parts.{cut, length_cut, outside_then, CanGet, CanSet}
use Rattle.work_tables.specs.Tables.{Laid, laid_after, CanRead, CanWrite}
use Rattle.step_frames.specs.Frames.{frames_of, Pushed, PutSlot}

pub length_frames : {L : List ℕ} → Laid L → length (frames_of L) ≡ 32768
unfolding frames_of
length_frames {L} h = let k = h.long in let n : length (cut 401408 466944 L) ≡ 65536 = length_cut 401408 466944 L (omega arith) in length_shorts (cut 401408 466944 L) ∙ ap (λ (n : ℕ). n / 2) n

pub can_get : {L : List ℕ} {i : ℕ} → CanRead L 32768 i → CanGet 401408 466944 L (shorts (cut 401408 466944 L)) i
unfolding frames_of
can_get h = record { le = omega arith; fits = omega (arith, h.laid.long); inside = omega (arith, h.inside, length_frames h.laid) }

pub can_put : {L : List ℕ} {i v : ℕ} → CanWrite L 32768 i 65536 v → CanSet 401408 466944 L (shorts (cut 401408 466944 L)) i 65536 v
unfolding frames_of
can_put h = record { le = omega arith; fits = omega (arith, h.laid.long); inside = omega (arith, h.inside, length_frames h.laid); small = h.small }

-- four numbers make the entry
pub pushed_of : {L A B C X : List ℕ} {k d used n a : ℕ} → Laid L → k < 8192 → PutSlot L (4 * k) d A → PutSlot A (4 * k + 1) used B → PutSlot B (4 * k + 2) n C → PutSlot C (4 * k + 3) a X → Pushed L k d used n a X
pushed_of {L} {A} {B} {C} {X} {k} {d} {used} {n} {a} h l p q r s =
    let ha = laid_after h p.rest in
    let hb = laid_after ha q.rest in
    let hc = laid_after hb r.rest in
    record {
      frame = record {
        depth = stored_other (4 * k) 0 s.list (λ e. omega arith) ∙ stored_other (4 * k) 0 r.list (λ e. omega arith) ∙ stored_other (4 * k) 0 q.list (λ e. omega arith) ∙ stored_same 0 p.list (omega (arith, length_frames h));
        words = stored_other (4 * k + 1) 0 s.list (λ e. omega arith) ∙ stored_other (4 * k + 1) 0 r.list (λ e. omega arith) ∙ stored_same 0 q.list (omega (arith, length_frames ha));
        trail = stored_other (4 * k + 2) 0 s.list (λ e. omega arith) ∙ stored_same 0 r.list (omega (arith, length_frames hb));
        apps = stored_same 0 s.list (omega (arith, length_frames hc));
      };
      below = λ i b. stored_other i 0 s.list (λ e. omega arith) ∙ stored_other i 0 r.list (λ e. omega arith) ∙ stored_other i 0 q.list (λ e. omega arith) ∙ stored_other i 0 p.list (λ e. omega arith);
      rest = outside_then (outside_then (outside_then p.rest q.rest) r.rest) s.rest;
    }
