-- A text written from its last byte to its first. Assumes nothing.
use mathlib.Core.Path.{◌≡◌, refl, ap, ap₂, sym, ◌∙◌}
use mathlib.Core.List.{List, [], ◌∷◌, ◌++◌, append_assoc, append-nil}
use mathlib.Core.Bool.{true}
use Prim.Native.Nat.{ℕ, suc, ◌+◌, ◌/◌, ◌%◌, ◌<◌, ◌≤◌}
use native.Mathlib.Omega.{arith}
use lib.ListN.{length, get_or, set, take, drop, length-append, length-set}
use lib.Seq.{length-take-le, take-suc, set_at, append_snoc}
use Rattle.answer_emit.specs.Put.{put, Filled}
use Rattle.answer_emit.proofs.Put.{put_none}
use Rattle.answer_emit.specs.Digits.{digits, length_digits}

-- The loop: of T the bytes P are left, which end at e; those behind them are written.
pub record Backwards (T O : List ℕ) (at : ℕ) (P : List ℕ) (e : ℕ) (X : List ℕ) : Type 0 where
  pub behind : List ℕ
  pub whole : T ≡ P ++ behind
  pub room : at + length T ≤ length O
  pub end : e ≡ at + length P
  pub list : X ≡ put true behind e O
  pub long : length X ≡ length O

pub backwards_all : (T O : List ℕ) (at e : ℕ) → at + length T ≤ length O → e ≡ at + length T → Backwards T O at T e O
backwards_all T O at e h z = record { behind = []; whole = sym (append-nil T); room = h; end = z; list = sym (put_none true e O); long = refl }

-- one byte before those that are written
put_before : (S O : List ℕ) (m b : ℕ) → m < length O → set (put true S (suc m) O) m b ≡ put true (b ∷ S) m O
unfolding put
put_before S O m b h =
    let r : List ℕ = S ++ drop (suc m + length S) O in
    let e : suc m + length S ≡ m + suc (length S) = omega arith in
    ap (λ (l : List ℕ). set l m b) (ap (λ (l : List ℕ). l ++ r) (take-suc O m 0 h) ∙ append_assoc (take m O) _ r)
    ∙ set_at (take m O) (get_or O m 0) r b m (length-take-le m O (omega arith))
    ∙ ap (λ (k : ℕ). take m O ++ (b ∷ (S ++ drop k O))) e

pub backwards_more : {T O P X : List ℕ} {at e : ℕ} (Q : List ℕ) (b m : ℕ) → Backwards T O at P e X → P ≡ Q ++ (b ∷ []) → e ≡ suc m → Backwards T O at Q m (set X m b)
backwards_more {T} {O} {P} {X} {at} {e} Q b m B p z =
    let S = B.behind in
    let n : length P ≡ length Q + 1 = ap length p ∙ length-append Q (b ∷ []) in
    let t : length T ≡ length P + length S = ap length B.whole ∙ length-append P S in
    record {
      behind = b ∷ S;
      whole = B.whole ∙ ap (λ (l : List ℕ). l ++ S) p ∙ append_snoc Q b S;
      room = B.room;
      end = omega (arith, B.end);
      list = ap (λ (l : List ℕ). set l m b) (B.list ∙ ap (λ (k : ℕ). put true S k O) z) ∙ put_before S O m b (omega (arith, B.end, B.room));
      long = length-set X m b ∙ B.long;
    }

pub backwards_end : {T O P X : List ℕ} {at e : ℕ} → Backwards T O at P e X → P ≡ [] → Filled T O at X
backwards_end {T} {O} {P} {X} {at} {e} B p =
    let n : length P ≡ 0 = ap length p in
    let z : e ≡ at = omega (arith, B.end) in
    let w : T ≡ B.behind = B.whole ∙ ap (λ (l : List ℕ). l ++ B.behind) p in
    record { list = B.list ∙ ap₂ (λ (S : List ℕ) (k : ℕ). put true S k O) (sym w) z; long = B.long }

-- what is left fits
pub backwards_room : {T O P X : List ℕ} {at e : ℕ} → Backwards T O at P e X → e ≤ length X
backwards_room {T} {O} {P} {X} {at} {e} B =
    let t : length T ≡ length P + length B.behind = ap length B.whole ∙ length-append P B.behind in
    omega (arith, B.end, B.room, B.long)

-- The loop over the digits of n: the last j digits of k are left.
pub record Printing (n len : ℕ) (O : List ℕ) (at k j : ℕ) (X : List ℕ) : Type 0 where
  pub text : Backwards (digits len n) O at (digits j k) (at + j) X

pub printing_all : (n len at : ℕ) (O : List ℕ) → at + len ≤ length O → Printing n len O at n len O
printing_all n len at O h = let l = length_digits len n in record { text = backwards_all (digits len n) O at (at + len) (omega arith) (omega arith) }

pub printing_more : {n len at k j : ℕ} {O X : List ℕ} (m b : ℕ) → Printing n len O at k j X → j ≡ suc m → b ≡ 48 + k % 10 → Printing n len O at (k / 10) m (set X (at + m) b)
unfolding digits
printing_more {n} {len} {at} {k} {j} {O} {X} m b B z e =
    record { text = backwards_more (digits m (k / 10)) b (at + m) B.text (ap (λ (i : ℕ). digits i k) z ∙ ap (λ (c : ℕ). digits m (k / 10) ++ (c ∷ [])) (sym e)) (omega arith) }

pub printing_end : {n len at k j : ℕ} {O X : List ℕ} → Printing n len O at k j X → j ≡ 0 → Filled (digits len n) O at X
unfolding digits
printing_end {n} {len} {at} {k} {j} B z = backwards_end B.text (ap (λ (i : ℕ). digits i k) z)
