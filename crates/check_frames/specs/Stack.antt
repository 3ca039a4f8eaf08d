-- The frames that are left behind open brackets, in the table of frames, the innermost last. Assumes nothing.
use Rattle.std.specs.Prelude.{◌≡◌, refl, List, [], ◌∷◌, ℕ, zero, suc, ◌+◌, ◌-◌, ◌≤◌, ◌<◌, length, get_or}
use Rattle.std.proofs.Common.{ap, ap₂, sym, ◌∙◌, subst, add-one, sub-one, arith}
use Rattle.mem_numbers.specs.Numbers.{longs, Got}
use Rattle.mem_numbers.specs.Stored.{Stored, stored_same, stored_other}
use Rattle.mem_parts.specs.Parts.{cut, Outside, CanGet, CanSet, Set4}
use Rattle.check_shapes.specs.declared.Frame.{Frame}
use Rattle.check_shapes.specs.declared.Frame.TheVariants.{Guards}
use Rattle.check_shapes.specs.Bounds.{Bounded, Left, frame_number, frame_of, number_frame, frame_back, frame_small, frame_bounded}
use Rattle.check_tables.specs.Tables.{frames_of, Tabled, length_frames}

-- the frames of the first h numbers
unfoldable pub stack : ℕ → List ℕ → List Frame
stack zero B = []
stack (suc h) B = number_frame (get_or B h 0) ∷ stack h B

-- a frame was put at h
pub record Pushed (L : List ℕ) (h : ℕ) (x : Frame) (X : List ℕ) : Type 0 where
  pub part : Stored (frames_of L) h (frame_number x) (frames_of X)
  pub rest : Outside 65536 262144 L X

pub record CanPush (L : List ℕ) (h : ℕ) (x : Frame) : Type 0 where
  pub tables : Tabled L 0
  pub room : h < 49152
  pub left : Left x

-- the frame at h
pub record Topped (L : List ℕ) (h : ℕ) (r : Frame) : Type 0 where
  pub is : r ≡ number_frame (get_or (frames_of L) h 0)
  pub low : Bounded r

pub record CanTop (L : List ℕ) (h : ℕ) : Type 0 where
  pub tables : Tabled L 0
  pub room : h < 49152

pub set_frame : {L : List ℕ} {h v : ℕ} {x : Frame} → CanPush L h x → v ≡ frame_number x → CanSet 65536 262144 L (longs (cut 65536 262144 L)) h 4294967296 v
unfolding frames_of
set_frame {L} {h} {v} {x} c e = record { le = omega arith; fits = omega (arith, c.tables.long); inside = omega (arith, c.room, length_frames c.tables); small = subst (λ (z : ℕ). z < 4294967296) (sym e) (frame_small x c.left) }

pub put_frame : {L X : List ℕ} {h v : ℕ} {x : Frame} → v ≡ frame_number x → Set4 65536 262144 L h v X → Pushed L h x X
unfolding frames_of
put_frame {L} {X} {h} {v} {x} e s = record { part = subst (λ (z : ℕ). Stored (longs (cut 65536 262144 L)) h z (longs (cut 65536 262144 X))) e s.part; rest = s.rest }

pub get_frame : {L : List ℕ} {h : ℕ} → CanTop L h → CanGet 65536 262144 L (longs (cut 65536 262144 L)) h
unfolding frames_of
get_frame c = record { le = omega arith; fits = omega (arith, c.tables.long); inside = omega (arith, c.room, length_frames c.tables) }

pub got_frame : {L : List ℕ} {h v : ℕ} {r : Frame} → Got (longs (cut 65536 262144 L)) h 4294967296 v → r ≡ number_frame v → Topped L h r
unfolding frames_of
got_frame {L} {h} {v} g e = record { is = e ∙ ap number_frame g.is; low = subst Bounded (sym e) (frame_bounded v g.small) }

-- a kind past the last
pub frame_rest : (k d n : ℕ) → (k ≡ 0 → ⊥) → (k ≡ 1 → ⊥) → (k ≡ 2 → ⊥) → (k ≡ 3 → ⊥) → (k ≡ 4 → ⊥) → (k ≡ 5 → ⊥) → (k ≡ 6 → ⊥) → (k ≡ 7 → ⊥) → (k ≡ 8 → ⊥) → Guards ≡ frame_of k d n
unfolding frame_of
frame_rest zero d n n0 n1 n2 n3 n4 n5 n6 n7 n8 = absurd (n0 refl)
frame_rest (suc zero) d n n0 n1 n2 n3 n4 n5 n6 n7 n8 = absurd (n1 refl)
frame_rest (suc (suc zero)) d n n0 n1 n2 n3 n4 n5 n6 n7 n8 = absurd (n2 refl)
frame_rest (suc (suc (suc zero))) d n n0 n1 n2 n3 n4 n5 n6 n7 n8 = absurd (n3 refl)
frame_rest (suc (suc (suc (suc zero)))) d n n0 n1 n2 n3 n4 n5 n6 n7 n8 = absurd (n4 refl)
frame_rest (suc (suc (suc (suc (suc zero))))) d n n0 n1 n2 n3 n4 n5 n6 n7 n8 = absurd (n5 refl)
frame_rest (suc (suc (suc (suc (suc (suc zero)))))) d n n0 n1 n2 n3 n4 n5 n6 n7 n8 = absurd (n6 refl)
frame_rest (suc (suc (suc (suc (suc (suc (suc zero))))))) d n n0 n1 n2 n3 n4 n5 n6 n7 n8 = absurd (n7 refl)
frame_rest (suc (suc (suc (suc (suc (suc (suc (suc zero)))))))) d n n0 n1 n2 n3 n4 n5 n6 n7 n8 = absurd (n8 refl)
frame_rest (suc (suc (suc (suc (suc (suc (suc (suc (suc k))))))))) d n n0 n1 n2 n3 n4 n5 n6 n7 n8 = refl

-- ---------------------------------------------------------------------------------------------
-- The stack.

pub stack_none : (B : List ℕ) → stack 0 B ≡ []
unfolding stack
stack_none B = refl

pub stack_some : (h : ℕ) (B : List ℕ) → 0 < h → stack h B ≡ number_frame (get_or B (h - 1) 0) ∷ stack (h - 1) B
unfolding stack
stack_some zero B p = absurd (omega arith)
stack_some (suc h) B p = ap (λ (k : ℕ). number_frame (get_or B k 0) ∷ stack k B) (sym (sub-one (suc h)))

above : (h j : ℕ) (v : ℕ) (B C : List ℕ) → Stored B j v C → h ≤ j → stack h C ≡ stack h B
unfolding stack
above zero j v B C s p = refl
above (suc h) j v B C s p = ap₂ (λ (y : ℕ) (l : List Frame). number_frame y ∷ l) (stored_other h 0 s (λ e. omega arith)) (above h j v B C s (omega arith))

pub stack_push : (h : ℕ) (x : Frame) (B C : List ℕ) → Stored B h (frame_number x) C → h < length B → Left x → stack (h + 1) C ≡ x ∷ stack h B
unfolding stack
stack_push h x B C s p l =
    ap (λ (k : ℕ). stack k C) (add-one h)
    ∙ ap₂ (λ (y : Frame) (t : List Frame). y ∷ t) (ap number_frame (stored_same 0 s p) ∙ frame_back x l) (above h h (frame_number x) B C s (omega arith))
