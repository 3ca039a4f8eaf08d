-- The ways in which a text is put: it does not fit, it is only counted, it is written. Assumes nothing.
use mathlib.Core.Path.{◌≡◌, refl, ap, ap₂, sym, ◌∙◌}
use mathlib.Core.List.{List, [], ◌∷◌, ◌++◌}
use mathlib.Core.Bool.{Bool, true, false}
use Prim.Native.Nat.{ℕ, ◌+◌, ◌-◌, ◌<◌, ◌≤◌}
use native.Mathlib.Numerals.{add-one}
use native.Mathlib.Decide.{dec_lt}
use native.Mathlib.Omega.{arith}
use borrow.Rule.Slice.PartMut.{put_mid}
use lib.ListN.{length, set, take, drop, length-set}
use Rattle.std.proofs.Common.{drop-drop, length-append, length-take-le, length-drop}
use lib.Seq.{set_split}
use Rattle.akl.specs.Base.{if}
use Rattle.answer_emit.specs.Put.{put, Put, Ends, Filled}

pub put_over : {T O : List ℕ} {w : Bool} {at r : ℕ} → length O < at + length T → r ≡ length O + 1 → Put T w O at O r
put_over {T} {O} {w} {at} {r} h e = record { fits = λ g. absurd (omega arith); over = λ g. e; kept = λ z. refl; long = refl }

pub put_dry : {T O : List ℕ} {w : Bool} {at r : ℕ} → at + length T ≤ length O → r ≡ at + length T → w ≡ false → Put T w O at O r
unfolding put
put_dry {T} {O} {w} {at} {r} h e z =
    record { fits = λ g. (e, sym (ap (λ (b : Bool). put b T at O) z)); over = λ g. absurd (omega arith); kept = λ y. refl; long = refl }

pub put_wet : {T O X : List ℕ} {w : Bool} {at r : ℕ} → at + length T ≤ length O → r ≡ at + length T → w ≡ true → Filled T O at X → Put T w O at X r
put_wet {T} {O} {X} {w} {at} {r} h e z f =
    record {
      fits = λ g. (e, f.list ∙ sym (ap (λ (b : Bool). put b T at O) z));
      over = λ g. absurd (omega arith);
      kept = λ y. let c : ◌≡◌ {A = ℕ} 0 1 = ap (λ (b : Bool). if b 0 1) (sym z ∙ y) in absurd (omega arith);
      long = f.long;
    }

-- where a text ends decides whether it fits
fit : {cap at n r : ℕ} → Ends cap at n r → r ≤ cap → (at + n ≤ cap) × (r ≡ at + n)
fit {cap} {at} {n} {r} E h = go (dec_lt cap (at + n))
  where
    go : Dec (cap < at + n) → (at + n ≤ cap) × (r ≡ at + n)
    go (yes p) = absurd (omega (arith, E.over p))
    go (no p) = (omega arith, E.fits (omega arith))

pub fit_length : {cap at n r : ℕ} → Ends cap at n r → r ≤ cap → n ≡ r - at
fit_length E h = omega (arith, (fit E h).1)

pub fit_room : {cap at n r : ℕ} → Ends cap at n r → r ≤ cap → at + n ≤ cap
fit_room E h = (fit E h).0

pub ends_over : {T O : List ℕ} {w : Bool} {at n r : ℕ} → Ends (length O) at n r → length T ≡ n → length O < r → Put T w O at O r
ends_over {T} {O} {w} {at} {n} {r} E e h = go (dec_lt (length O) (at + n))
  where
    go : Dec (length O < at + n) → Put T w O at O r
    go (yes p) = put_over (omega arith) (E.over p)
    go (no p) = absurd (omega (arith, E.fits (omega arith)))

pub ends_dry : {T O : List ℕ} {w : Bool} {at n r : ℕ} → Ends (length O) at n r → length T ≡ n → r ≤ length O → w ≡ false → Put T w O at O r
ends_dry {T} {O} {w} {at} {n} {r} E e h z = let f = fit E h in put_dry (omega (arith, f.0)) (omega (arith, f.1)) z

pub ends_wet : {T O X : List ℕ} {w : Bool} {at n r : ℕ} → Ends (length O) at n r → length T ≡ n → r ≤ length O → w ≡ true → Filled T O at X → Put T w O at X r
ends_wet {T} {O} {X} {w} {at} {n} {r} E e h z g = let f = fit E h in put_wet (omega (arith, f.0)) (omega (arith, f.1)) z g

pub filled_as : {T U O X : List ℕ} {at : ℕ} → T ≡ U → Filled T O at X → Filled U O at X
filled_as {T} {U} {O} {X} {at} e f = record { list = f.list ∙ ap (λ (t : List ℕ). put true t at O) e; long = f.long }

-- one byte
pub filled_byte : (O : List ℕ) (at b : ℕ) → at < length O → Filled (b ∷ []) O at (set O at b)
unfolding put
filled_byte O at b h = record { list = set_split O at b h ∙ ap (λ (k : ℕ). take at O ++ (b ∷ drop k O)) (sym (add-one at)); long = length-set O at b }

-- a piece, copied from where it stands
pub filled_piece : {P Q O : List ℕ} {at k : ℕ} → at + k ≤ length O → length P ≡ k → Q ≡ P → Filled P O at (put_mid at k O Q)
unfolding put
filled_piece {P} {Q} {O} {at} {k} h l e = record {
  list = ap₂ (λ (q r : List ℕ). take at O ++ (q ++ r)) e (drop-drop k at O ∙ ap (λ (m : ℕ). drop (at + m) O) (sym l));
  long = omega (arith, h, l, ap length e, length-append (take at O) (Q ++ drop k (drop at O)), length-append Q (drop k (drop at O)), length-take-le at O (omega (arith, h)), length-drop k (drop at O), length-drop at O);
}
