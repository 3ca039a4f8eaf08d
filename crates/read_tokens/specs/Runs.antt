-- Runs of bytes that pass a test, by positions in a slice. Assumes nothing.
use Rattle.std.specs.Prelude.{◌≡◌, refl, Bool, true, false, length, take}
use Rattle.std.proofs.Math.Path.{ap}
use Rattle.std.proofs.Common.{sym, ◌∙◌, add-one, arith, length-drop, drop_of_length-le, take-suc, drop-cons, get_or-drop, length-take-le}
use mathlib.Core.List.{List, [], ◌∷◌, ◌++◌, append-nil}
use Prim.Native.Nat.{ℕ, suc, ◌+◌, ◌-◌, ◌≤◌, ◌<◌}
use Rattle.std.proofs.Math.ListN.{drop, get_or}
use Rattle.std.proofs.Math.Seq.{append_snoc}
use Rattle.akl.specs.Base.{size}
use Rattle.akl.specs.Token.{Class, class_of, span}

pub size_length : {A : Type 0} (l : List A) → size l ≡ length l
unfolding size
size_length [] = refl
size_length (x ∷ l) = ap suc (size_length l)

-- From `at` on the longest run of bytes that pass the test p ends at `end`.
pub record Ends (p : Class → Bool) (s : List ℕ) (at end : ℕ) : Type 0 where
  pub from : at ≤ end
  pub to : end ≤ length s
  pub run : span p (drop at s) ≡ (take (end - at) (drop at s), drop end s)

-- From `at` on the run goes to i at least.
pub record Runs (p : Class → Bool) (s : List ℕ) (at i : ℕ) : Type 0 where
  pub from : at ≤ i
  pub to : i ≤ length s
  pub run : span p (drop at s) ≡ (take (i - at) (drop at s) ++ (span p (drop i s)).0, (span p (drop i s)).1)

pub span_more : (p : Class → Bool) (x : ℕ) (l : List ℕ) → p (class_of x) ≡ true → span p (x ∷ l) ≡ (x ∷ (span p l).0, (span p l).1)
unfolding span
span_more p x l e = rw (e, span)

pub span_stop : (p : Class → Bool) (x : ℕ) (l : List ℕ) → p (class_of x) ≡ false → span p (x ∷ l) ≡ ([], x ∷ l)
unfolding span
span_stop p x l e = rw (e, span)

pub span_none : (p : Class → Bool) → span p [] ≡ ([], [])
unfolding span
span_none p = refl

-- one byte more of a part
pub taken_more : (s : List ℕ) (at i : ℕ) → at ≤ i → i < length s → take (i + 1 - at) (drop at s) ≡ take (i - at) (drop at s) ++ (get_or s i 0 ∷ [])
taken_more s at i h g =
    let e : i + 1 - at ≡ suc (i - at) = omega arith in
    let z : at + (i - at) ≡ i = omega arith in
    ap (λ (k : ℕ). take k (drop at s)) e
    ∙ take-suc (drop at s) (i - at) 0 (omega (arith, length-drop at s))
    ∙ ap (λ (y : ℕ). take (i - at) (drop at s) ++ (y ∷ [])) (get_or-drop at s (i - at) 0 ∙ ap (λ (k : ℕ). get_or s k 0) z)

pub runs_start : (p : Class → Bool) (s : List ℕ) (at : ℕ) → at ≤ length s → Runs p s at at
runs_start p s at h =
    let e : at - at ≡ 0 = omega arith in
    record { from = omega arith; to = h; run = ap (λ (k : ℕ). (take k (drop at s) ++ (span p (drop at s)).0, (span p (drop at s)).1)) (sym e) }

module _ (p : Class → Bool) (s : List ℕ) (at i : ℕ) (r : Runs p s at i) where
  part : List ℕ
  part = take (i - at) (drop at s)

  pub runs_more : i < length s → true ≡ p (class_of (get_or s i 0)) → Runs p s at (i + 1)
  unfolding part
  runs_more g e =
      let x = get_or s i 0 in
      let l = drop (suc i) s in
      let one : span p (drop i s) ≡ (x ∷ (span p l).0, (span p l).1) = ap (span p) (drop-cons s i 0 g) ∙ span_more p x l (sym e) in
      let all : span p (drop at s) ≡ (take (i + 1 - at) (drop at s) ++ (span p l).0, (span p l).1) =
      r.run
      ∙ ap (λ (w : List ℕ × List ℕ). (part ++ w.0, w.1)) one
      ∙ ap (λ (w : List ℕ). (w, (span p l).1)) (sym (append_snoc part x (span p l).0) ∙ ap (λ (w : List ℕ). w ++ (span p l).0) (sym (taken_more s at i r.from g))) in
      record { from = omega arith; to = omega arith; run = all ∙ ap (λ (k : ℕ). (take (i + 1 - at) (drop at s) ++ (span p (drop k s)).0, (span p (drop k s)).1)) (sym (add-one i)) }

  ended : span p (drop i s) ≡ ([], drop i s) → Ends p s at i
  unfolding part
  ended e =
      record { from = r.from; to = r.to; run = r.run ∙ ap (λ (w : List ℕ × List ℕ). (part ++ w.0, w.1)) e ∙ ap (λ (w : List ℕ). (w, drop i s)) (append-nil part) }

  pub runs_stop : i < length s → false ≡ p (class_of (get_or s i 0)) → Ends p s at i
  runs_stop g e = ended (ap (span p) (drop-cons s i 0 g) ∙ span_stop p (get_or s i 0) (drop (suc i) s) (sym e) ∙ ap (λ (w : List ℕ). ([], w)) (sym (drop-cons s i 0 g)))

  pub runs_end : length s ≤ i → Ends p s at i
  runs_end g =
      let e = drop_of_length-le s g in
      ended (ap (span p) e ∙ span_none p ∙ ap (λ (w : List ℕ). ([], w)) (sym e))

-- a run whose first byte passes is not empty
pub ends_forward : (p : Class → Bool) (s : List ℕ) (at end : ℕ) → Ends p s at end → at < length s → p (class_of (get_or s at 0)) ≡ true → at < end
ends_forward p s at end r g e =
    let x = get_or s at 0 in
    let l = drop (suc at) s in
    let f : (x ∷ (span p l).0) ≡ take (end - at) (drop at s) = ap (λ (w : List ℕ × List ℕ). w.0) (sym (ap (span p) (drop-cons s at 0 g) ∙ span_more p x l e) ∙ r.run) in
    let m : length (take (end - at) (drop at s)) ≡ end - at = length-take-le (end - at) (drop at s) (omega (arith, length-drop at s, r.to)) in
    let n : suc (length (span p l).0) ≡ end - at = ap length f ∙ m in
    omega arith
