-- The lines, piece by piece. Assumes nothing.
use mathlib.Core.Path.{◌≡◌, refl, sym, ap, ◌∙◌, subst}
use mathlib.Core.List.{List, [], ◌∷◌, ◌++◌}
use mathlib.Core.Bool.{Bool, true, false}
use mathlib.Core.Option.{Option, some, none}
use Prim.Native.Nat.{ℕ, zero, suc, ◌+◌, ◌-◌, ◌*◌, ◌≤◌, ◌<◌}
use native.Mathlib.Decide.{dec_lt}
use native.Mathlib.Numerals.{add-one}
use native.Mathlib.Omega.{arith}
use lib.ListN.{length, take, drop, get_or}
use lib.Seq.{take-suc, take_all}
use Rattle.akl.specs.Base.{bytes, bytes_from, decimal}
use Rattle.akl.specs.Limits.{most_parts}
use Rattle.akl.specs.Answers as akl
use Rattle.akl.specs.Answers.{failed, final, open_state, state_text}
use Rattle.akl.specs.Record.{two_lines}
use Rattle.store_form.specs.State.{State}
use Rattle.store_calls.specs.Outcomes.{slices_short, held}
use Rattle.store_lent.specs.Lent.{working_bytes}
use Rattle.answer_boxes.specs.Asked.{state_number}
use Rattle.answer_emit.specs.Put.{put, Put}
use Rattle.answer_emit.proofs.Put.{put_then, put_as, put_nothing}
use Rattle.answer_emit.proofs.Ways.{put_wet}
use Rattle.call_state.specs.Called.{StateTo}
use Rattle.mem_parts.specs.Parts.{cut}
use borrow.Rule.Slice.PartMut.{put_mid}
use Rattle.std.specs.Prelude.{Some, None}
use Rattle.record_lines.specs.Lines.{PieceIs, answer_piece, state_piece, state_of_text, TextIn}
use Rattle.record_lines.proofs.Parts.{cut_long, part_put, part_same}
use Rattle.record_lines.proofs.Asked.{Answered, no_line, long_line, text_line, answered, Stated, stated}

-- a piece ends at the slice's length + 1 at most
pub put_within : {T O X : List ℕ} {w : Bool} {at r : ℕ} → Put T w O at X r → r ≤ length O + 1
put_within {T} {O} {X} {w} {at} {r} p = go (dec_lt (length O) (at + length T))
  where
    go : Dec (length O < at + length T) → r ≤ length O + 1
    go (yes h) = omega (arith, p.over h)
    go (no h) = omega (arith, (p.fits (omega arith)).0)

-- ---------------------------------------------------------------------------------------------
-- A text, byte by byte.

pub text_none : (T O : List ℕ) (at : ℕ) → at ≤ length O + 1 → Put (take 0 T) true O at O at
text_none T O at h = put_nothing true O at h

pub text_more : (T : List ℕ) (i : ℕ) {O X Y : List ℕ} {at r q : ℕ} → i < length T → Put (take i T) true O at X r → Put (get_or T i 0 ∷ []) true X r Y q → Put (take (i + 1) T) true O at Y q
text_more T i h a b = put_as (take (i + 1) T) (sym (ap (λ (n : ℕ). take n T) (add-one i) ∙ take-suc T i 0 h)) (put_then a b)

pub text_all : (T : List ℕ) (i : ℕ) {O X : List ℕ} {at r : ℕ} → length T ≤ i → Put (take i T) true O at X r → Put T true O at X r
text_all T i h a = put_as T (take_all i T h) a

-- ---------------------------------------------------------------------------------------------
-- The first two lines.

pub head_lines : (a n : ℕ) {O A B C D E F : List ℕ} {o p q r s t u : ℕ}
    → Put (97 ∷ 99 ∷ 99 ∷ 101 ∷ 112 ∷ 116 ∷ 101 ∷ 100 ∷ 32 ∷ []) true O o A p
    → Put (decimal a) true A p B q
    → Put (10 ∷ []) true B q C r
    → Put (114 ∷ 101 ∷ 102 ∷ 117 ∷ 115 ∷ 97 ∷ 108 ∷ 32 ∷ []) true C r D s
    → Put (decimal n) true D s E t
    → Put (10 ∷ []) true E t F u
    → Put (two_lines a n) true O o F u
unfolding two_lines bytes bytes_from
head_lines a n k l m x y z = put_then (put_then (put_then k l) m) (put_then (put_then x y) z)

-- ---------------------------------------------------------------------------------------------
-- The line of an answer. O is the lent slice, A the slice with `answer ` in front, X what the question left.

long_bytes : {X B : List ℕ} {at q : ℕ} → Put (108 ∷ 111 ∷ 110 ∷ 103 ∷ []) true X at B q → Put (bytes "long") true X at B q
unfolding bytes bytes_from
long_bytes p = p

end_bytes : {X B : List ℕ} {at q : ℕ} → Put (10 ∷ []) true X at B q → Put (bytes "\n") true X at B q
unfolding bytes bytes_from
end_bytes p = p

abbrev answer_bytes_front : List ℕ
answer_bytes_front = 97 ∷ 110 ∷ 115 ∷ 119 ∷ 101 ∷ 114 ∷ 32 ∷ []

-- lo and hi are 7 and 4,103, not written out: no large numeral then stands under what is put back.
module _ (b u : List ℕ) (n lo hi : ℕ) (low : lo ≡ 7) (high : hi ≡ 4103) (O A X u' : List ℕ) (p x : ℕ) (l : 4104 ≤ length O) (F : Put answer_bytes_front true O 0 A p) (T : TextIn b u n lo hi A u' X x) (same : length X ≡ length A) where
  abbrev piece : Option (List ℕ)
  piece = answer_piece (slices_short most_parts working_bytes b (length u)) (held most_parts b) n

  ordered : lo ≤ hi
  ordered = omega (arith, low, high)

  room : hi ≤ length A
  room = omega (arith, high, F.long, l)

  said : Answered piece (cut lo hi A) T.part x
  said = answered b (length u) n (cut lo hi A) T.part x (omega (arith, low, high, cut_long lo hi A ordered room)) T.told

  front : Put (bytes "answer ") true O 0 A 7
  unfolding bytes bytes_from
  front = subst (Put answer_bytes_front true O 0 A) (F.fits (omega (arith, l))).0 F

  -- the text stands behind it
  texted : (t : List ℕ) → length t ≤ 4096 → T.part ≡ t ++ drop (length t) (cut lo hi A) → Put t true A 7 X (7 + length t)
  texted t h e =
      subst (λ (i : ℕ). Put t true A i X (i + length t)) low
      (put_wet {T = t} (omega (arith, low, high, room, h)) refl refl (record { list = T.back ∙ part_put lo hi A ordered room t T.part (omega (arith, low, high, h)) e; long = same }))

  -- nothing is changed where it is too long
  untouched : T.part ≡ cut lo hi A → X ≡ A
  untouched e = T.back ∙ part_same lo hi A ordered room T.part e

  -- no answer of that number, or no state
  pub answer_none : x < 256 → (x ≡ 17 → ⊥) → PieceIs piece O X None
  answer_none h z = go said
    where
      go : Answered piece (cut lo hi A) T.part x → PieceIs piece O X None
      go (no_line e i) = subst (λ (o : Option (List ℕ)). PieceIs o O X None) (sym e) refl
      go (long_line e i q) = absurd (z i)
      go (text_line t e k i q) = absurd (omega (arith, h, i))

  -- 17
  pub answer_long : x ≡ 17 → (B C : List ℕ) (q r : ℕ) → Put (108 ∷ 111 ∷ 110 ∷ 103 ∷ []) true X 7 B q → Put (10 ∷ []) true B q C r → PieceIs piece O C (Some r)
  answer_long h B C q r L N = go said
    where
      go : Answered piece (cut lo hi A) T.part x → PieceIs piece O C (Some r)
      go (no_line e i) = absurd (omega (arith, h, i))
      go (long_line e i k) = subst (λ (o : Option (List ℕ)). PieceIs o O C (Some r)) (sym e) (put_then (put_then front (subst (λ (Y : List ℕ). Put (bytes "long") true Y 7 B q) (untouched k) (long_bytes L))) (end_bytes N))
      go (text_line t e k i y) = absurd (omega (arith, h, i))

  -- the text
  pub answer_there : 256 ≤ x → (C : List ℕ) (r : ℕ) → Put (10 ∷ []) true X (x - 249) C r → PieceIs piece O C (Some r)
  answer_there h C r N = go said
    where
      go : Answered piece (cut lo hi A) T.part x → PieceIs piece O C (Some r)
      go (no_line e i) = absurd (omega (arith, h, i))
      go (long_line e i k) = absurd (omega (arith, h, i))
      go (text_line t e k i y) =
          let z : x - 249 ≡ 7 + length t = omega (arith, i) in
          subst (λ (o : Option (List ℕ)). PieceIs o O C (Some r)) (sym e) (put_then (put_then front (texted t k y)) (end_bytes (subst (λ (j : ℕ). Put (10 ∷ []) true X j C r) z N)))

  -- where the line's end is put
  pub end_within : 256 ≤ x → x - 249 ≤ length X + 1
  end_within h = go said
    where
      go : Answered piece (cut lo hi A) T.part x → x - 249 ≤ length X + 1
      go (no_line e i) = absurd (omega (arith, h, i))
      go (long_line e i k) = absurd (omega (arith, h, i))
      go (text_line t e k i y) = omega (arith, i, k, same, room, high)

-- ---------------------------------------------------------------------------------------------
-- The last line.

pub named_line : (T : List ℕ) {O A B C : List ℕ} {p q r : ℕ} → Put (115 ∷ 116 ∷ 97 ∷ 116 ∷ 101 ∷ 32 ∷ []) true O 0 A p → Put T true A p B q → Put (10 ∷ []) true B q C r → Put ((bytes "state " ++ T) ++ bytes "\n") true O 0 C r
unfolding bytes bytes_from
named_line T a b c = put_then (put_then a b) c

abbrev name_bytes : akl.State → List ℕ
name_bytes failed = 102 ∷ 97 ∷ 105 ∷ 108 ∷ 101 ∷ 100 ∷ []
name_bytes final = 102 ∷ 105 ∷ 110 ∷ 97 ∷ 108 ∷ []
name_bytes open_state = 111 ∷ 112 ∷ 101 ∷ 110 ∷ []

name_is : (v : akl.State) → name_bytes v ≡ state_text v
unfolding bytes bytes_from
name_is failed = refl
name_is final = refl
name_is open_state = refl

number_once : (v w : akl.State) → 256 * state_number v ≡ 256 * state_number w → v ≡ w
number_once failed failed e = refl
number_once failed final e = absurd (omega (arith, e))
number_once failed open_state e = absurd (omega (arith, e))
number_once final failed e = absurd (omega (arith, e))
number_once final final e = refl
number_once final open_state e = absurd (omega (arith, e))
number_once open_state failed e = absurd (omega (arith, e))
number_once open_state final e = absurd (omega (arith, e))
number_once open_state open_state e = refl

small_number : (v : akl.State) (x : ℕ) → x ≡ 256 * state_number v → (x ≡ 0 → ⊥) → (x ≡ 256 → ⊥) → (x ≡ 512 → ⊥) → ⊥
small_number failed x e a b c = a e
small_number final x e a b c = b e
small_number open_state x e a b c = c e

module _ (b : List ℕ) (w x : ℕ) (S : StateTo b w x) where
  abbrev last_piece : Option (List ℕ)
  last_piece = state_piece (slices_short most_parts working_bytes b w) (held most_parts b)

  pub state_put : (v : akl.State) (O X : List ℕ) (r : ℕ) → x ≡ 256 * state_number v → Put ((bytes "state " ++ name_bytes v) ++ bytes "\n") true O 0 X r → PieceIs last_piece O X (Some r)
  state_put v O X r e P = go (slices_short most_parts working_bytes b w) (held most_parts b) (stated b w x S)
    where
      right : Put (state_of_text v) true O 0 X r
      right = subst (λ (T : List ℕ). Put ((bytes "state " ++ T) ++ bytes "\n") true O 0 X r) (name_is v) P

      eight : (u : akl.State) → 256 * state_number u ≡ 8 → ⊥
      eight failed i = omega (arith, i)
      eight final i = omega (arith, i)
      eight open_state i = omega (arith, i)

      nine : (u : akl.State) → 256 * state_number u ≡ 9 → ⊥
      nine failed i = omega (arith, i)
      nine final i = omega (arith, i)
      nine open_state i = omega (arith, i)

      go : (c : Bool) (h : Option State) → Stated c h x → PieceIs (state_piece c h) O X (Some r)
      go true h g = absurd (eight v (sym e ∙ g.given))
      go false none g = absurd (nine v (sym e ∙ g.given))
      go false (some s) g = subst (λ (u : akl.State). Put (state_of_text u) true O 0 X r) (number_once v (akl.state s.config.root) (sym e ∙ g.given)) right

  pub state_none : (x ≡ 0 → ⊥) → (x ≡ 256 → ⊥) → (x ≡ 512 → ⊥) → (O X : List ℕ) → PieceIs last_piece O X None
  state_none k l m O X = go (slices_short most_parts working_bytes b w) (held most_parts b) (stated b w x S)
    where
      go : (c : Bool) (h : Option State) → Stated c h x → PieceIs (state_piece c h) O X None
      go true h g = refl
      go false none g = refl
      go false (some s) g = absurd (small_number (akl.state s.config.root) x g.given k l m)
