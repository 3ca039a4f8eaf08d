-- Decimal numbers of a steps text, read digit by digit at positions of a slice. Assumes nothing.
use Rattle.std.specs.Prelude.{◌≡◌, refl, ◌⊎◌, Bool, true, false, ◌&&◌, eqb, leb, ltb, length, drop, get_or}
use Rattle.std.proofs.Math.Path.{ap}
use Rattle.std.proofs.Common.{sym, ◌∙◌, inl, inr, add-one, drop_of_length-le, drop-cons, lt-ltb, le-ltb, le-leb, eq-eqb, ne_eqb, ltb-true, ltb-false}
use mathlib.Core.List.{List, [], ◌∷◌}
use Rattle.std.proofs.Math.Option.{Option, some, none}
use Prim.Native.Nat.{ℕ, suc, ◌+◌, ◌*◌, ◌-◌, ◌≤◌, ◌<◌}
use native.Mathlib.Omega.{arith}
use Rattle.akl.specs.Base.{size, when, if, ◌>>=◌}
use Rattle.akl.specs.Limits.{step_number}
use Rattle.akl.specs.Token.{class_of, digit_class, span}
use Rattle.akl.specs.StepsText.{digits_value, decimal_number}
use Rattle.read_tokens.specs.Kinds.{cursor}
use Rattle.read_tokens.specs.Runs.{span_more, span_stop, span_none}
use Rattle.std.specs.Prelude as std
use Rattle.read_tokens.specs.declared.Cursor.{Cursor}

-- The number with one digit more, kept where it is too large already.
abbrev pub capped : ℕ → ℕ → ℕ
capped n b = if (ltb n step_number) (n * 10 + (b - 48)) n

pub record CanAdd (n b : ℕ) : Type 0 where
  pub small : n < 10 * step_number
  pub low : 48 ≤ b
  pub high : b ≤ 57

-- What a number's reading says of the text s: the number and what is left.
abbrev pub meant : List ℕ → std.Option (ℕ × Cursor) → Option (ℕ × List ℕ)
meant s (std.Some (n, c)) = some (n, drop c.0 s)
meant s std.None = none

-- The new position lies behind the old one and inside the text.
pub record Moved (s : List ℕ) (from to : ℕ) : Type 0 where
  pub ahead : from < to
  pub inside : to ≤ length s

abbrev pub Forward : List ℕ → ℕ → std.Option (ℕ × Cursor) → Type 0
Forward s from (std.Some (n, c)) = Moved s from c.0
Forward s from std.None = Unit

pub record Numbered (s : List ℕ) (from follows : ℕ) (r : std.Option (ℕ × Cursor)) : Type 0 where
  pub says : meant s r ≡ decimal_number follows (drop from s)
  pub forward : Forward s from r

-- The digits from `from` to i have been read. Their digits_value is `true-value`, and n is that, or both are too large.
pub record Digits (s : List ℕ) (from i n : ℕ) : Type 0 where
  pub true_value : ℕ
  pub behind : from ≤ i
  pub bound : n < 10 * step_number
  pub many : size (span digit_class (drop from s)).0 ≡ (i - from) + size (span digit_class (drop i s)).0
  pub left : (span digit_class (drop from s)).1 ≡ (span digit_class (drop i s)).1
  pub worth : digits_value 0 (span digit_class (drop from s)).0 ≡ digits_value true_value (span digit_class (drop i s)).0
  pub equal : (true_value ≡ n) ⊎ ((step_number ≤ n) × (step_number ≤ true_value))

pub digits_start : (s : List ℕ) (from : ℕ) → Digits s from from 0
digits_start s from =
    record { true_value = 0; behind = omega arith; bound = omega arith; many = omega arith; left = refl; worth = refl; equal = inl refl }

-- one digit more: the number read stays true, or stays too large
capped_step : (n v x m : ℕ) → n < 10 * step_number → x ≤ 57 → (v ≡ n) ⊎ ((step_number ≤ n) × (step_number ≤ v)) → m ≡ capped n x → (m < 10 * step_number) × ((v * 10 + (x - 48) ≡ m) ⊎ ((step_number ≤ m) × (step_number ≤ v * 10 + (x - 48))))
capped_step n v x m h g o q = go (ltb n step_number) refl o
  where
    go : (b : Bool) → ltb n step_number ≡ b → (v ≡ n) ⊎ ((step_number ≤ n) × (step_number ≤ v)) → (m < 10 * step_number) × ((v * 10 + (x - 48) ≡ m) ⊎ ((step_number ≤ m) × (step_number ≤ v * 10 + (x - 48))))
    go true z (inl e) =
        let k : m ≡ n * 10 + (x - 48) = q ∙ ap (λ (b : Bool). if b (n * 10 + (x - 48)) n) z in
        let l : n < step_number = ltb-true n step_number z in
        (omega arith, inl (omega arith))
    go true z (inr e) = let l : n < step_number = ltb-true n step_number z in absurd (omega arith)
    go false z (inl e) =
        let k : m ≡ n = q ∙ ap (λ (b : Bool). if b (n * 10 + (x - 48)) n) z in
        let l : step_number ≤ n = ltb-false n step_number z in
        (omega arith, inr (omega arith, omega arith))
    go false z (inr e) =
        let k : m ≡ n = q ∙ ap (λ (b : Bool). if b (n * 10 + (x - 48)) n) z in
        (omega arith, inr (omega arith, omega arith))

pub digits_more : (s : List ℕ) (from i n : ℕ) → Digits s from i n → i < length s → true ≡ digit_class (class_of (get_or s i 0)) → get_or s i 0 ≤ 57 → (m : ℕ) → m ≡ capped n (get_or s i 0) → Digits s from (i + 1) m
unfolding digits_value size
digits_more s from i n D g e h m q =
    let x = get_or s i 0 in
    let v = D.true_value in
    let one : span digit_class (drop i s) ≡ (x ∷ (span digit_class (drop (i + 1) s)).0, (span digit_class (drop (i + 1) s)).1) =
    ap (span digit_class) (drop-cons s i 0 g)
    ∙ span_more digit_class x (drop (suc i) s) (sym e)
    ∙ ap (λ (k : ℕ). (x ∷ (span digit_class (drop k s)).0, (span digit_class (drop k s)).1)) (sym (add-one i)) in
    let step = capped_step n v x m D.bound h D.equal q in
    let a = D.many in
    let b : size (span digit_class (drop i s)).0 ≡ suc (size (span digit_class (drop (i + 1) s)).0) = ap (λ (w : List ℕ × List ℕ). size w.0) one in
    record {
      true_value = v * 10 + (x - 48);
      behind = omega (arith, D.behind);
      bound = step.0;
      many = omega (arith, D.behind);
      left = D.left ∙ ap (λ (w : List ℕ × List ℕ). w.1) one;
      worth = D.worth ∙ ap (λ (w : List ℕ × List ℕ). digits_value v w.0) one;
      equal = step.1;
    }

-- the definition's tests on the digits and on what is left
abbrev allowed : List ℕ → Bool
allowed w = leb 1 (size w) && ltb (digits_value 0 w) step_number

abbrev behind_number : ℕ → List ℕ × List ℕ → Option (ℕ × List ℕ)
behind_number follows t = elim t.1 [ [] ↦ none | x ∷ l ↦ when (eqb x follows) (digits_value 0 t.0, l) ]

parted : ℕ → List ℕ × List ℕ → Option (ℕ × List ℕ)
parted follows s = when (allowed s.0) s >>= behind_number follows

decimal_parted : (follows : ℕ) (text : List ℕ) → decimal_number follows text ≡ parted follows (span digit_class text)
unfolding decimal_number parted
decimal_parted follows text = refl

parted_end : (follows : ℕ) (w : List ℕ) → parted follows (w, []) ≡ none
unfolding parted
parted_end follows w = go (allowed w)
  where
    go : (b : Bool) → (when b (w, []) >>= behind_number follows) ≡ none
    go true = refl
    go false = refl

parted_refused : (follows : ℕ) (w r : List ℕ) → allowed w ≡ false → parted follows (w, r) ≡ none
unfolding parted
parted_refused follows w r e = ap (λ (b : Bool). when b (w, r) >>= behind_number follows) e

parted_other : (follows x : ℕ) (w l : List ℕ) → (x ≡ follows → ⊥) → parted follows (w, x ∷ l) ≡ none
unfolding parted
parted_other follows x w l n = go (allowed w) (ne_eqb x follows n)
  where
    go : (b : Bool) → eqb x follows ≡ false → (when b (w, x ∷ l) >>= behind_number follows) ≡ none
    go true e = ap (λ (b : Bool). when b (digits_value 0 w, l)) e
    go false e = refl

parted_some : (follows x : ℕ) (w l : List ℕ) → allowed w ≡ true → x ≡ follows → parted follows (w, x ∷ l) ≡ some (digits_value 0 w, l)
unfolding parted
parted_some follows x w l a e =
    ap (λ (b : Bool). when b (w, x ∷ l) >>= behind_number follows) a ∙ ap (λ (b : Bool). when b (digits_value 0 w, l)) (eq-eqb x follows e)

and_false : (a : Bool) → (a && false) ≡ false
and_false true = refl
and_false false = refl

module _ (s : List ℕ) (from i n follows : ℕ) (D : Digits s from i n) where
  pub number_end : length s ≤ i → Numbered s from follows std.None
  number_end g =
      let e : (span digit_class (drop from s)).1 ≡ [] = D.left ∙ ap (λ (l : List ℕ). (span digit_class l).1) (drop_of_length-le s g) ∙ ap (λ (w : List ℕ × List ℕ). w.1) (span_none digit_class) in
      record {
        says = sym (decimal_parted follows (drop from s) ∙ ap (λ (r : List ℕ). parted follows ((span digit_class (drop from s)).0, r)) e ∙ parted_end follows (span digit_class (drop from s)).0);
        forward = tt;
      }

  module _ (g : i < length s) (e : false ≡ digit_class (class_of (get_or s i 0))) where
    here : span digit_class (drop i s) ≡ ([], get_or s i 0 ∷ drop (i + 1) s)
    here =
        ap (span digit_class) (drop-cons s i 0 g)
        ∙ span_stop digit_class (get_or s i 0) (drop (suc i) s) (sym e)
        ∙ ap (λ (k : ℕ). ([], get_or s i 0 ∷ drop k s)) (sym (add-one i))

    whole : decimal_number follows (drop from s) ≡ parted follows ((span digit_class (drop from s)).0, get_or s i 0 ∷ drop (i + 1) s)
    whole = decimal_parted follows (drop from s) ∙ ap (λ (r : List ℕ). parted follows ((span digit_class (drop from s)).0, r)) (D.left ∙ ap (λ (w : List ℕ × List ℕ). w.1) here)

    long : size (span digit_class (drop from s)).0 ≡ i - from
    unfolding size
    long =
        let a = D.many in
        let b : size (span digit_class (drop i s)).0 ≡ 0 = ap (λ (w : List ℕ × List ℕ). size w.0) here in
        omega arith

    worth_all : digits_value 0 (span digit_class (drop from s)).0 ≡ D.true_value
    unfolding digits_value
    worth_all = D.worth ∙ ap (λ (w : List ℕ × List ℕ). digits_value D.true_value w.0) here

    pub number_empty : i ≡ from → Numbered s from follows std.None
    number_empty q =
        let z : i - from ≡ 0 = omega arith in
        record {
          says = sym (whole ∙ parted_refused follows _ _ (ap (λ (k : ℕ). leb 1 k && ltb (digits_value 0 (span digit_class (drop from s)).0) step_number) (long ∙ z)));
          forward = tt;
        }

    pub number_large : step_number ≤ n → Numbered s from follows std.None
    number_large q =
        let z : step_number ≤ D.true_value = large D.equal in
        let w = (span digit_class (drop from s)).0 in
        record {
          says = sym (whole ∙ parted_refused follows w _ (ap (λ (b : Bool). leb 1 (size w) && b) (le-ltb (digits_value 0 w) step_number (omega (arith, worth_all))) ∙ and_false (leb 1 (size w))));
          forward = tt;
        }
      where
        large : (D.true_value ≡ n) ⊎ ((step_number ≤ n) × (step_number ≤ D.true_value)) → step_number ≤ D.true_value
        large (inl p) = omega arith
        large (inr p) = p.1

    pub number_other : (get_or s i 0 ≡ follows → ⊥) → Numbered s from follows std.None
    number_other q = record { says = sym (whole ∙ parted_other follows _ _ _ q); forward = tt }

    pub number_at : (i ≡ from → ⊥) → n < step_number → get_or s i 0 ≡ follows → Numbered s from follows (std.Some (n, cursor (i + 1)))
    number_at a b q =
        let w = (span digit_class (drop from s)).0 in
        let v : digits_value 0 w ≡ n = worth_all ∙ exact D.equal in
        let k : 1 ≤ size w = omega (arith, long, D.behind, a) in
        let t : allowed w ≡ true = ap (λ (b : Bool). b && ltb (digits_value 0 w) step_number) (le-leb 1 (size w) k) ∙ lt-ltb (digits_value 0 w) step_number (omega arith) in
        record {
          says = sym (whole ∙ parted_some follows (get_or s i 0) w (drop (i + 1) s) t q ∙ ap (λ (m : ℕ). some (m, drop (i + 1) s)) v);
          forward = record { ahead = omega (arith, D.behind); inside = omega arith };
        }
      where
        exact : (D.true_value ≡ n) ⊎ ((step_number ≤ n) × (step_number ≤ D.true_value)) → D.true_value ≡ n
        exact (inl p) = p
        exact (inr p) = absurd (omega arith)
