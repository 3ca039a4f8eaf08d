-- What the working slice holds while a store is checked, as views; and what is read from them. Assumes nothing.
--   from      table                                                            entries   bytes each
--   0         kinds of names: 1 a constructor, 2 a predicate's, 4 a variable's  20,490   1
--   20,992    arities: bit k for a definition with k parameters                 20,489   2
--   65,536    frames of the brackets that are open                              49,152   4
use Rattle.std.specs.Prelude.{◌≡◌, List, Bool, false, ◌&&◌, ℕ, zero, suc, ◌+◌, ◌/◌, ◌%◌, ◌^◌, ◌≤◌, ◌<◌, leb, ltb, eqb, length, get_or}
use Rattle.std.proofs.Common.{ap, sym, ◌∙◌, arith, lt-ltb, le-ltb, le-leb}
use Rattle.std.proofs.Math.Nat.{div-one}
use Rattle.std.proofs.lemmas.Bool.{lt-leb}
use Rattle.std.proofs.lemmas.Nat.{shr-shr}
use Rattle.mem_numbers.specs.Numbers.{shorts, longs, Got, length_shorts, length_longs}
use Rattle.mem_parts.specs.Parts.{cut, length_cut, Outside, cut_left, CanGet}

unfoldable pub kinds_of : List ℕ → List ℕ
kinds_of L = cut 0 20490 L

unfoldable pub arities_of : List ℕ → List ℕ
arities_of L = shorts (cut 20992 61970 L)

unfoldable pub frames_of : List ℕ → List ℕ
frames_of L = longs (cut 65536 262144 L)

-- the slice is long enough, for m names
pub record Tabled (L : List ℕ) (m : ℕ) : Type 0 where
  pub long : 524288 ≤ length L
  pub names : m ≤ 20489

-- bit k of a number
unfoldable pub bit : ℕ → ℕ → ℕ
bit zero a = a % 2
bit (suc k) a = bit k (a / 2)

-- it is the lowest one of the number shifted by k
pub bit_shifted : (k a : ℕ) → a / 2 ^ k % 2 ≡ bit k a
unfolding bit
bit_shifted zero a = ap (λ (n : ℕ). n % 2) (div-one a)
bit_shifted (suc k) a = let e : suc k ≡ 1 + k = omega arith in ap (λ (n : ℕ). a / 2 ^ n % 2) e ∙ sym (ap (λ (n : ℕ). n % 2) (shr-shr a 1 k)) ∙ bit_shifted k (a / 2)

-- of m names with the kinds B and the arities A: which numbers are those of constructors, of predicates' names, of definitions
unfoldable pub con_of : ℕ → List ℕ → ℕ → Bool
con_of m B i = ltb i m && eqb (get_or B i 0 % 2) 1

unfoldable pub pred_of : ℕ → List ℕ → ℕ → Bool
pred_of m B i = ltb i m && eqb (get_or B i 0 / 2 % 2) 1

unfoldable pub def_of : ℕ → List ℕ → ℕ → ℕ → Bool
def_of m A p k = ltb p m && (leb k 8 && eqb (bit k (get_or A p 0)) 1)

-- how long the tables are
pub length_kinds : {L : List ℕ} {m : ℕ} → Tabled L m → length (kinds_of L) ≡ 20490
unfolding kinds_of
length_kinds {L} h = let k = h.long in length_cut 0 20490 L (omega arith)

pub length_arities : {L : List ℕ} {m : ℕ} → Tabled L m → length (arities_of L) ≡ 20489
unfolding arities_of
length_arities {L} h = let k = h.long in let n : length (cut 20992 61970 L) ≡ 40978 = length_cut 20992 61970 L (omega arith) in length_shorts (cut 20992 61970 L) ∙ ap (λ (n : ℕ). n / 2) n

pub length_frames : {L : List ℕ} {m : ℕ} → Tabled L m → length (frames_of L) ≡ 49152
unfolding frames_of
length_frames {L} h = let k = h.long in let n : length (cut 65536 262144 L) ≡ 196608 = length_cut 65536 262144 L (omega arith) in length_longs (cut 65536 262144 L) ∙ ap (λ (n : ℕ). n / 4) n

pub tabled_after : {a e : ℕ} {L X : List ℕ} {m : ℕ} → Tabled L m → Outside a e L X → Tabled X m
tabled_after h p = record { long = omega (arith, h.long, p.long); names = h.names }

-- what the accessors of parts ask
pub get_kind : {L : List ℕ} {m i : ℕ} → Tabled L m → i < m → CanGet 0 20490 L (cut 0 20490 L) i
unfolding kinds_of
get_kind h b = record { le = omega arith; fits = omega (arith, h.long); inside = omega (arith, b, h.names, length_kinds h) }

pub get_arity : {L : List ℕ} {m i : ℕ} → Tabled L m → i < m → CanGet 20992 61970 L (shorts (cut 20992 61970 L)) i
unfolding arities_of
get_arity h b = record { le = omega arith; fits = omega (arith, h.long); inside = omega (arith, b, h.names, length_arities h) }

-- kinds and arities lie before the frames, kinds before the arities
pub kinds_before : {L X : List ℕ} {m e : ℕ} (a : ℕ) → 20490 ≤ a → a ≤ 524288 → Tabled L m → Outside a e L X → kinds_of X ≡ kinds_of L
unfolding kinds_of
kinds_before a h g t p = cut_left 0 20490 (omega arith) h (omega (arith, t.long, g)) p

pub arities_before : {L X : List ℕ} {m e : ℕ} (a : ℕ) → 61970 ≤ a → a ≤ 524288 → Tabled L m → Outside a e L X → arities_of X ≡ arities_of L
unfolding arities_of
arities_before a h g t p = ap shorts (cut_left 20992 61970 (omega arith) h (omega (arith, t.long, g)) p)

-- what was read and tested
pub con_yes : (L : List ℕ) {m i b : ℕ} {r : Bool} → i < m → Got (cut 0 20490 L) i 256 b → r ≡ eqb (b % 2) 1 → r ≡ con_of m (kinds_of L) i
unfolding con_of kinds_of
con_yes L {m} {i} {b} h g e = e ∙ ap (λ (z : ℕ). eqb (z % 2) 1) g.is ∙ ap (λ (t : Bool). t && eqb (get_or (cut 0 20490 L) i 0 % 2) 1) (sym (lt-ltb i m h))

pub con_no : (B : List ℕ) (m i : ℕ) → m ≤ i → false ≡ con_of m B i
unfolding con_of
con_no B m i h = ap (λ (t : Bool). t && eqb (get_or B i 0 % 2) 1) (sym (le-ltb i m h))

pub pred_yes : (L : List ℕ) {m i b : ℕ} {r : Bool} → i < m → Got (cut 0 20490 L) i 256 b → r ≡ eqb (b / 2 % 2) 1 → r ≡ pred_of m (kinds_of L) i
unfolding pred_of kinds_of
pred_yes L {m} {i} {b} h g e = e ∙ ap (λ (z : ℕ). eqb (z / 2 % 2) 1) g.is ∙ ap (λ (t : Bool). t && eqb (get_or (cut 0 20490 L) i 0 / 2 % 2) 1) (sym (lt-ltb i m h))

pub pred_no : (B : List ℕ) (m i : ℕ) → m ≤ i → false ≡ pred_of m B i
unfolding pred_of
pred_no B m i h = ap (λ (t : Bool). t && eqb (get_or B i 0 / 2 % 2) 1) (sym (le-ltb i m h))

pub def_yes : (L : List ℕ) {m p k a b : ℕ} {r : Bool} → p < m → k ≤ 8 → Got (shorts (cut 20992 61970 L)) p 65536 a → b ≡ bit k a → r ≡ eqb b 1 → r ≡ def_of m (arities_of L) p k
unfolding def_of arities_of
def_yes L {m} {p} {k} h g e f d =
    d
    ∙ ap (λ (z : ℕ). eqb z 1) (f ∙ ap (bit k) e.is)
    ∙ ap (λ (t : Bool). t && eqb (bit k (get_or (shorts (cut 20992 61970 L)) p 0)) 1) (sym (le-leb k 8 g))
    ∙ ap (λ (t : Bool). t && (leb k 8 && eqb (bit k (get_or (shorts (cut 20992 61970 L)) p 0)) 1)) (sym (lt-ltb p m h))

pub def_past : (A : List ℕ) (m p k : ℕ) → m ≤ p → false ≡ def_of m A p k
unfolding def_of
def_past A m p k h = ap (λ (t : Bool). t && (leb k 8 && eqb (bit k (get_or A p 0)) 1)) (sym (le-ltb p m h))

pub def_many : (A : List ℕ) (m p k : ℕ) → p < m → 8 < k → false ≡ def_of m A p k
unfolding def_of
def_many A m p k h g = ap (λ (t : Bool). t && eqb (bit k (get_or A p 0)) 1) (sym (lt-leb k 8 g)) ∙ ap (λ (t : Bool). t && (leb k 8 && eqb (bit k (get_or A p 0)) 1)) (sym (lt-ltb p m h))
