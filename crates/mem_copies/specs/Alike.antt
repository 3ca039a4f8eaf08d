-- Runs of bytes that are the same, and the runs of words in them. Assumes nothing.
use Rattle.std.specs.Prelude.{◌≡◌, refl, List, ◌++◌, ℕ, ◌+◌, ◌-◌, ◌*◌, ◌/◌, ◌<◌, ◌≤◌, length, get_or, take, drop}
use Rattle.std.proofs.Common.{ap, ap₂, sym, ◌∙◌, arith, ext_get_or, take-add, drop-drop}
use Rattle.mem_words.specs.declared.Word.{Word}
use Rattle.mem_words.specs.declared.Word.TheVariants.{Bad}
use Rattle.mem_words.specs.Words.{words, length_words}
use Rattle.mem_copies.specs.Runs.{run, get_or_run, length_run}
use Rattle.mem_copies.specs.Bytes.{same_bytes}

-- as many of the n elements as are surely the same
pub record Alike {A : Type 0} (l : List A) (i : ℕ) (m : List A) (j n r : ℕ) : Type 0 where
  pub few : r ≤ n
  pub runs : run i r l ≡ run j r m

-- two runs one after the other
pub run_join : {A : Type 0} (i j k s : ℕ) (l m : List A) → run i k l ≡ run j k m → run (i + k) s l ≡ run (j + k) s m → run i (k + s) l ≡ run j (k + s) m
unfolding run
run_join {A} i j k s l m p q =
    take-add k s (drop i l) ∙ ap₂ (λ (x y : List A). x ++ y) p (ap (take s) (drop-drop k i l) ∙ q ∙ ap (take s) (sym (drop-drop k j m))) ∙ sym (take-add k s (drop j m))

-- words in bytes that are the same
pub alike_words : (a b : List ℕ) (i j n r : ℕ) → i + n ≤ length (words a) → j + n ≤ length (words b) → Alike a (3 * i) b (3 * j) (3 * n) r → run i (r / 3) (words a) ≡ run j (r / 3) (words b)
alike_words a b i j n r h g e =
    let f = e.few in
    let k : ℕ = r / 3 in
    let p : length (run i k (words a)) ≡ k = length_run i k (words a) (omega arith) in
    let q : length (run j k (words b)) ≡ k = length_run j k (words b) (omega arith) in
    ext_get_or Bad (run i k (words a)) (run j k (words b)) (p ∙ sym q) (λ x lt. at x (omega arith))
  where
    byte : (x y z : ℕ) → x ≡ 3 * i + z → y ≡ 3 * j + z → z < r → get_or a x 0 ≡ get_or b y 0
    byte x y z p q lt =
        ap (λ (t : ℕ). get_or a t 0) p ∙ sym (get_or_run (3 * i) r a z 0 lt) ∙ ap (λ (t : List ℕ). get_or t z 0) e.runs ∙ get_or_run (3 * j) r b z 0 lt ∙ ap (λ (t : ℕ). get_or b t 0) (sym q)

    at : (x : ℕ) → x < r / 3 → get_or (run i (r / 3) (words a)) x Bad ≡ get_or (run j (r / 3) (words b)) x Bad
    at x lt =
        let f = e.few in
        get_or_run i (r / 3) (words a) x Bad lt
        ∙ same_bytes a b (i + x) (j + x) (omega arith) (omega arith) (byte (3 * (i + x)) (3 * (j + x)) (3 * x) (omega arith) (omega arith) (omega arith)) (byte (3 * (i + x) + 1) (3 * (j + x) + 1) (3 * x + 1) (omega arith) (omega arith) (omega arith)) (byte (3 * (i + x) + 1 + 1) (3 * (j + x) + 1 + 1) (3 * x + 1 + 1) (omega arith) (omega arith) (omega arith))
        ∙ sym (get_or_run j (r / 3) (words b) x Bad lt)
