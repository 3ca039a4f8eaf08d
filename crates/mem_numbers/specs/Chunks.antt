-- A list of bytes cut into pieces of one width: the laws of reading and writing a piece, stated once for every width.
-- Assumes nothing.
use Rattle.std.specs.Prelude.{◌≡◌, refl, List, [], ◌∷◌, ◌++◌, ℕ, zero, suc, ◌+◌, ◌*◌, ◌<◌, ◌≤◌, length, get_or, set, take, drop}
use Rattle.std.proofs.Common.{ap, ap₂, sym, ◌∙◌, append_assoc, not-suc-le-zero, le_of_suc-le-suc, mul-zero, mul-suc, add_comm, arith, length-drop, drop-drop, take_at, drop_at, length-take-le, take-take}
use Rattle.std.proofs.lemmas.List.Edits.{sets, sets-eq}
use Rattle.std.proofs.lemmas.List.{take-append-le, drop-append-le}
use Rattle.std.proofs.Math.Seq.{take-nil}

-- the first n pieces of w bytes each
unfoldable pub chunks : ℕ → ℕ → List ℕ → List (List ℕ)
chunks zero w l = []
chunks (suc n) w l = take w l ∷ chunks n w (drop w l)

pub length_chunks : (n w : ℕ) (l : List ℕ) → length (chunks n w l) ≡ n
unfolding chunks
length_chunks zero w l = refl
length_chunks (suc n) w l = ap suc (length_chunks n w (drop w l))

-- where the piece at i begins
start : ℕ → ℕ → ℕ
start w zero = 0
start w (suc i) = w + start w i

start_is : (w i : ℕ) → start w i ≡ w * i
unfolding start
start_is w zero = sym (mul-zero w)
start_is w (suc i) = ap (λ (k : ℕ). w + k) (start_is w i) ∙ add_comm w (w * i) ∙ sym (mul-suc w i)

get_or_start : (n w : ℕ) (l : List ℕ) (i : ℕ) → i < n → get_or (chunks n w l) i [] ≡ take w (drop (start w i) l)
unfolding chunks start
get_or_start zero w l i h = absurd (not-suc-le-zero h)
get_or_start (suc n) w l zero h = refl
get_or_start (suc n) w l (suc i) h = get_or_start n w (drop w l) i (le_of_suc-le-suc h) ∙ ap (take w) (drop-drop (start w i) w l)

-- the piece at i begins at the byte w * i
pub get_or_chunks : (n w : ℕ) (l : List ℕ) (i : ℕ) → i < n → get_or (chunks n w l) i [] ≡ take w (drop (w * i) l)
get_or_chunks n w l i h = get_or_start n w l i h ∙ ap (λ (k : ℕ). take w (drop k l)) (start_is w i)

-- a list with the w bytes from k on replaced
replaced : (w k : ℕ) (l bs : List ℕ) → List ℕ
replaced w k l bs = take k l ++ (bs ++ drop (k + w) l)

drop_take : (m k : ℕ) (l : List ℕ) → drop m (take (m + k) l) ≡ take k (drop m l)
drop_take zero k l = let z : 0 + k ≡ k = omega arith in ap (λ (q : ℕ). take q l) z
drop_take (suc m) k [] = let z : suc m + k ≡ suc (m + k) = omega arith in ap (λ (q : ℕ). drop (suc m) (take q [])) z ∙ sym (take-nil k)
drop_take (suc m) k (x ∷ l) = let z : suc m + k ≡ suc (m + k) = omega arith in ap (λ (q : ℕ). drop (suc m) (take q (x ∷ l))) z ∙ drop_take m k l

set_start : (n w : ℕ) (l bs : List ℕ) (i : ℕ) → i < n → length bs ≡ w → start w i + w ≤ length l → chunks n w (replaced w (start w i) l bs) ≡ set (chunks n w l) i bs
unfolding chunks replaced start
set_start zero w l bs i h e r = absurd (not-suc-le-zero h)
set_start (suc n) w l bs zero h e r =
    let z : 0 + w ≡ w = omega arith in
    ap₂ (λ (x : List ℕ) (y : List ℕ). x ∷ chunks n w y) (take_at bs _ w e) (drop_at bs _ w e ∙ ap (λ (k : ℕ). drop k l) z)
set_start (suc n) w l bs (suc i) h e r =
    let k : ℕ = start w i in
    let lt : length (take (w + k) l) ≡ w + k = length-take-le (w + k) l (omega arith) in
    let rest : List ℕ = bs ++ drop (w + k + w) l in
    let d : w + k + w ≡ w + (k + w) = omega arith in
    let one : take w (take (w + k) l ++ rest) ≡ take w l = take-append-le w (take (w + k) l) rest (omega arith) ∙ take-take w (w + k) l (omega arith) in
    let two : drop w (take (w + k) l ++ rest) ≡ take k (drop w l) ++ (bs ++ drop (k + w) (drop w l)) =
    drop-append-le w (take (w + k) l) rest (omega arith)
    ∙ ap₂ (λ (x y : List ℕ). x ++ (bs ++ y)) (drop_take w k l) (ap (λ (m : ℕ). drop m l) d ∙ sym (drop-drop (k + w) w l)) in
    ap₂ (λ (x : List ℕ) (y : List ℕ). x ∷ chunks n w y) one two
    ∙ ap (λ (y : List (List ℕ)). take w l ∷ y) (set_start n w (drop w l) bs i (le_of_suc-le-suc h) e (omega (arith, length-drop w l)))

-- writing w bytes one by one from w * i on replaces the piece at i
pub set_chunks : (n w : ℕ) (l bs : List ℕ) (i : ℕ) → i < n → length bs ≡ w → w * i + w ≤ length l → chunks n w (sets l (w * i) bs) ≡ set (chunks n w l) i bs
unfolding replaced
set_chunks n w l bs i h e r =
    let p : sets l (w * i) bs ≡ take (w * i) l ++ (bs ++ drop (w * i + length bs) l) = sets-eq bs l (w * i) (rw e r) ∙ append_assoc (take (w * i) l) bs _ in
    ap (chunks n w) (p ∙ ap (λ (k : ℕ). take (w * i) l ++ (bs ++ drop (w * i + k) l)) e ∙ ap (λ (k : ℕ). replaced w k l bs) (sym (start_is w i)))
    ∙ set_start n w l bs i h e (rw (start_is w i) r)
