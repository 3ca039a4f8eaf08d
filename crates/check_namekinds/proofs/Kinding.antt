-- Kinds by marks, and nodes one after another. Assumes nothing.
use mathlib.Core.Path.{◌≡◌, refl, ap, ap₂, sym, ◌∙◌}
use mathlib.Core.List.{List, [], ◌∷◌}
use mathlib.Core.Bool.{Bool, true, false, ◌&&◌, ◌||◌, not}
use Prim.Native.Nat.{ℕ, zero, suc, ◌+◌, ◌*◌, ◌/◌, ◌<◌, ◌≤◌}
use native.Mathlib.Omega.{arith}
use native.Mathlib.Decide.{ℕ_discrete}
use lib.Dec.{leb}
use lib.ListN.{length, get_or}
use borrow.Author.Tests.{leb-true, leb-false}
use Rattle.akl.specs.Base.{Name, if, all, size, same, bytes, bytes_from}
use Rattle.akl.specs.Limits.{name_bytes}
use Rattle.akl.specs.Token.{Class, small, capital, digit, underscore, blank, mark, other, class_of, word_class, digit_class}
use Rattle.akl.specs.WellFormed.{is_small, is_capital, spelled_name, spelled_digits, spelled_variable, spelled_predicate}
use Rattle.mem_numbers.specs.Stored.{stored_same, stored_other}
use Rattle.mem_parts.specs.Parts.{outside_then}
use Rattle.read_nodes.specs.Spell.{named}
use Rattle.work_tables.specs.Tables.{Laid, laid_after}
use Rattle.check_nodetables.specs.Tables.{kinds_of, Marked, PutKind, length_kinds}
use Rattle.check_links.specs.Links.{Nodes}
use Rattle.check_namemarks.specs.Marks.{formed, words_on, digits_on, form, packed, mark_of}
use Rattle.check_namemarks.proofs.Marking.{packed_zero, packed_over, packed_within}
use Rattle.check_namekinds.specs.Kinds.{bit, kind_of, KindsTo, kind_small, CanKind, IsKind}

-- ---------------------------------------------------------------------------------------------
-- Kinds by marks.

-- by the way a name is spelled, and whether it is reserved
abbrev pub kinded : ℕ → Bool → ℕ
kinded zero r = 0
kinded (suc zero) r = if r 1 3
kinded (suc (suc zero)) r = 1
kinded (suc (suc (suc f))) r = 4

unfoldable pub reserved : Name → Bool
reserved w = same w (bytes "true") || same w (bytes "fail")

-- the ways to spell, by the class of the first byte, whether all others go on words or digits, whether the length fits and whether
-- it is `true` or `fail`
by_classes : (c : Class) (a d l t f : Bool) → bit (is_small c && (word_class c && a) && l || digit_class c && (digit_class c && d) && l) + 2 * bit (is_small c && (word_class c && a) && l && not t && not f) + 4 * bit (is_capital c && (word_class c && a) && l) ≡ kinded (if l (formed c a d) 0) (t || f)
by_classes small true d true true f = refl
by_classes small true d true false true = refl
by_classes small true d true false false = refl
by_classes small true d false t f = refl
by_classes small false d true t f = refl
by_classes small false d false t f = refl
by_classes capital true d true t f = refl
by_classes capital true d false t f = refl
by_classes capital false d true t f = refl
by_classes capital false d false t f = refl
by_classes digit a true true t f = refl
by_classes digit a true false t f = refl
by_classes digit a false true t f = refl
by_classes digit a false false t f = refl
by_classes underscore a d true t f = refl
by_classes underscore a d false t f = refl
by_classes blank a d true t f = refl
by_classes blank a d false t f = refl
by_classes mark a d true t f = refl
by_classes mark a d false t f = refl
by_classes other a d true t f = refl
by_classes other a d false t f = refl

-- the way in a mark: none where the name is too long
way : (f l : ℕ) → packed f l / 64 ≡ if (leb l name_bytes) f 0
way f l = go (leb l name_bytes) refl (ℕ_discrete f 0)
  where
    go : (b : Bool) → leb l name_bytes ≡ b → Dec (f ≡ 0) → packed f l / 64 ≡ if b f 0
    go true e (yes z) = let u = packed_zero f l z in omega arith
    go true e (no z) = let h = leb-true l name_bytes e in let u = packed_within f l z h in omega arith
    go false e d = let h = leb-false l name_bytes e in let u = packed_over f l (omega arith) in omega arith

empty : packed (form []) (size {A = ℕ} []) / 64 ≡ 0
unfolding form
empty = let u = packed_zero 0 (size {A = ℕ} []) refl in omega arith

pub kind_marked : (w : Name) → kind_of w ≡ kinded (mark_of w / 64) (reserved w)
unfolding kind_of mark_of reserved spelled_name spelled_digits spelled_variable spelled_predicate form words_on digits_on all
kind_marked [] = sym (ap (λ (k : ℕ). kinded k (same [] (bytes "true") || same [] (bytes "fail"))) empty)
kind_marked (x ∷ w) =
    by_classes (class_of x) (words_on w) (digits_on w) (leb (size (x ∷ w)) name_bytes) (same (x ∷ w) (bytes "true")) (same (x ∷ w) (bytes "fail"))
    ∙ ap (λ (k : ℕ). kinded k (same (x ∷ w) (bytes "true") || same (x ∷ w) (bytes "fail"))) (sym (way (form (x ∷ w)) (size (x ∷ w))))

-- by the way f of the mark, and whether the name is reserved
is_kind : (N : List ℕ) (i r : ℕ) → r ≡ kind_of (named N i) → IsKind N i r
is_kind N i r e = record { is = e; small = omega (arith, e, kind_small (named N i)) }

by_way : (N : List ℕ) (i s : ℕ) → CanKind N i s → (f : ℕ) → s / 64 ≡ f → kind_of (named N i) ≡ kinded f (reserved (named N i))
by_way N i s C f e = kind_marked (named N i) ∙ ap (λ (k : ℕ). kinded k (reserved (named N i))) (ap (λ (m : ℕ). m / 64) (sym C.mark) ∙ e)

pub kind_none : (N : List ℕ) (i s : ℕ) → CanKind N i s → s / 64 ≡ 0 → IsKind N i 0
kind_none N i s C e = is_kind N i 0 (sym (by_way N i s C 0 e))

pub kind_digits : (N : List ℕ) (i s : ℕ) → CanKind N i s → s / 64 ≡ 2 → IsKind N i 1
kind_digits N i s C e = is_kind N i 1 (sym (by_way N i s C 2 e))

pub kind_other : (N : List ℕ) (i s : ℕ) → CanKind N i s → 2 < s / 64 → IsKind N i 4
kind_other N i s C h = is_kind N i 4 (go (s / 64) refl h)
  where
    go : (f : ℕ) → s / 64 ≡ f → 2 < f → 4 ≡ kind_of (named N i)
    go zero e h = absurd (omega arith)
    go (suc zero) e h = absurd (omega arith)
    go (suc (suc zero)) e h = absurd (omega arith)
    go (suc (suc (suc f))) e h = sym (by_way N i s C (suc (suc (suc f))) e)

reserved_is : (w t f : Name) (a b : Bool) → t ≡ bytes "true" → f ≡ bytes "fail" → a ≡ same w t → b ≡ same w f → reserved w ≡ (a || b)
unfolding reserved
reserved_is w t f a b e g p q = sym (ap₂ ◌||◌ (p ∙ ap (same w) e) (q ∙ ap (same w) g))

or_right : (a b : Bool) → b ≡ true → a || b ≡ true
or_right true b e = refl
or_right false b e = e

pub kind_name : (N : List ℕ) (i s : ℕ) → CanKind N i s → s / 64 ≡ 1 → (t f : Name) (a b : Bool) → t ≡ bytes "true" → f ≡ bytes "fail" → a ≡ same (named N i) t → b ≡ same (named N i) f → a ≡ false → b ≡ false → IsKind N i 3
kind_name N i s C e t f a b x y p q u v = is_kind N i 3 (sym (by_way N i s C 1 e ∙ ap (kinded 1) (reserved_is (named N i) t f a b x y p q ∙ ap₂ ◌||◌ u v)))

pub kind_fail : (N : List ℕ) (i s : ℕ) → CanKind N i s → s / 64 ≡ 1 → (f : Name) (b : Bool) → f ≡ bytes "fail" → b ≡ same (named N i) f → b ≡ true → IsKind N i 1
kind_fail N i s C e f b y q v = is_kind N i 1 (sym (by_way N i s C 1 e ∙ ap (kinded 1) (reserved_is (named N i) (bytes "true") f (same (named N i) (bytes "true")) b refl y refl q ∙ or_right (same (named N i) (bytes "true")) b v)))

pub kind_true : (N : List ℕ) (i s : ℕ) → CanKind N i s → s / 64 ≡ 1 → (t : Name) (a : Bool) → t ≡ bytes "true" → a ≡ same (named N i) t → a ≡ true → IsKind N i 1
kind_true N i s C e t a x p u = is_kind N i 1 (sym (by_way N i s C 1 e ∙ ap (kinded 1) (reserved_is (named N i) t (bytes "fail") a (same (named N i) (bytes "fail")) x refl p refl ∙ ap (λ (b : Bool). b || same (named N i) (bytes "fail")) u)))

pub true_bytes : 116 ∷ 114 ∷ 117 ∷ 101 ∷ [] ≡ bytes "true"
unfolding bytes bytes_from
true_bytes = refl

pub fail_bytes : 102 ∷ 97 ∷ 105 ∷ 108 ∷ [] ≡ bytes "fail"
unfolding bytes bytes_from
fail_bytes = refl

-- The loop: kinds stand below i, marks from i on.
pub record Kinding (N L : List ℕ) (n : ℕ) (X : List ℕ) (i : ℕ) : Type 0 where
  pub laid : Laid X
  pub high : i ≤ n
  pub kinds : KindsTo N (kinds_of X) i
  pub marks : (j : ℕ) → i ≤ j → j < length N → get_or (kinds_of X) j 0 ≡ mark_of (named N j)
  pub rest : Marked L X

pub kinding_more : {N L X Y : List ℕ} {n i k : ℕ} → Nodes N → n ≡ length N → Kinding N L n X i → i < n → IsKind N i k → PutKind X i k Y → Kinding N L n Y (i + 1)
kinding_more {N} {L} {X} {Y} {n} {i} {k} K e M h r t =
    record {
      laid = laid_after M.laid t.rest;
      high = omega arith;
      kinds = λ j g. go j g (ℕ_discrete j i);
      marks = λ j g l. stored_other j 0 t.kinds (λ z. omega arith) ∙ M.marks j (omega arith) l;
      rest = outside_then M.rest t.rest;
    }
  where
    at : get_or (kinds_of Y) i 0 ≡ k
    at = let m = K.most in let z = length_kinds M.laid in stored_same 0 t.kinds (omega arith)

    go : (j : ℕ) → j < i + 1 → Dec (j ≡ i) → get_or (kinds_of Y) j 0 ≡ kind_of (named N j)
    go j g (yes q) = ap (λ (x : ℕ). get_or (kinds_of Y) x 0) q ∙ at ∙ r.is ∙ sym (ap (λ (x : ℕ). kind_of (named N x)) q)
    go j g (no q) = stored_other j 0 t.kinds q ∙ M.kinds j (omega arith)
