-- Words that end with three words `End` are closed: no application begun before these reads beyond them. Assumes nothing.
use mathlib.Core.Path.{◌≡◌, refl, ap, sym, ◌∙◌, subst}
use mathlib.Core.List.{List, [], ◌∷◌, ◌++◌, append_assoc}
use Prim.Native.Nat.{ℕ, ◌+◌, ◌≤◌, ◌<◌}
use native.Mathlib.Omega.{arith}
use native.Mathlib.Decide.{dec_lt}
use lib.ListN.{length, get_or, drop, take, length-append}
use lib.Seq.{drop-append-le, take-append-le, get_or-take}
use Rattle.mem_words.specs.declared.Word.{Word}
use Rattle.mem_words.specs.declared.Word.TheVariants.{End, Free, Level, Num, Place, Inner, Bad}
use Rattle.solve_fields.specs.Read.{label_at, args_at, args_of, num_of}
use Rattle.work_log.specs.Logs.{stop}
use Rattle.work_tells.specs.Positions.{Before}
use Rattle.work_grows.specs.Closed.{Closed}

args_stop : (A R : List Word) → args_of (A ++ (End ∷ R)) ≡ args_of (A ++ (End ∷ []))
unfolding args_of
args_stop [] R = refl
args_stop (End ∷ r) R = refl
args_stop (Free v ∷ r) R = ap (λ (t : List ℕ). v ∷ t) (args_stop r R)
args_stop (Level v ∷ r) R = refl
args_stop (Num v ∷ r) R = refl
args_stop (Place k ∷ r) R = refl
args_stop (Inner s ∷ r) R = refl
args_stop (Bad ∷ r) R = refl

stop_split : (U R : List Word) → (U ++ stop) ++ R ≡ (U ++ (End ∷ (End ∷ []))) ++ (End ∷ R)
unfolding stop
stop_split U R = append_assoc U (End ∷ (End ∷ (End ∷ []))) R ∙ sym (append_assoc U (End ∷ (End ∷ [])) (End ∷ R))

stop_split_none : (U : List Word) → U ++ stop ≡ (U ++ (End ∷ (End ∷ []))) ++ (End ∷ [])
unfolding stop
stop_split_none U = sym (append_assoc U (End ∷ (End ∷ [])) (End ∷ []))

length_stop : (U : List Word) → length (U ++ stop) ≡ length U + 3
unfolding stop
length_stop U = length-append U (End ∷ (End ∷ (End ∷ [])))

get_d_front : (A R : List Word) (i : ℕ) → i < length A → get_or (A ++ R) i Bad ≡ get_or A i Bad
get_d_front A R i h =
    let z : length A ≤ length A = omega arith in
    sym (get_or-take (length A) (A ++ R) i Bad h) ∙ ap (λ (t : List Word). get_or t i Bad) (take-append-le (length A) A R z) ∙ get_or-take (length A) A i Bad h

label_stop : (U R : List Word) (p : ℕ) → p < length U → label_at ((U ++ stop) ++ R) p ≡ label_at (U ++ stop) p
unfolding label_at
label_stop U R p h = let l = length_stop U in ap num_of (get_d_front (U ++ stop) R (p + 2) (omega arith))

args_end : (U R : List Word) (p : ℕ) → p < length U → args_at ((U ++ stop) ++ R) p ≡ args_at (U ++ stop) p
unfolding args_at
args_end U R p h =
    let l : length (U ++ (End ∷ (End ∷ []))) ≡ length U + 2 = length-append U (End ∷ (End ∷ [])) in
    ap (λ (t : List Word). args_of (drop (p + 3) t)) (stop_split U R)
    ∙ ap args_of (drop-append-le (p + 3) (U ++ (End ∷ (End ∷ []))) (End ∷ R) (omega arith))
    ∙ args_stop (drop (p + 3) (U ++ (End ∷ (End ∷ [])))) R
    ∙ sym (ap args_of (drop-append-le (p + 3) (U ++ (End ∷ (End ∷ []))) (End ∷ []) (omega arith)))
    ∙ sym (ap (λ (t : List Word). args_of (drop (p + 3) t)) (stop_split_none U))

-- what was closed is, with words appended and told that end so
pub closed_next : (W S : List Word) (P P' : List ℕ) (a a' : ℕ) → Closed W P a → ((j : ℕ) → j < a → get_or P' j 0 ≡ get_or P j 0) → Before a a' (length W + length S) P' → Closed (W ++ (S ++ stop)) P' a'
closed_next W S P P' a a' c o b = record { label = λ R j h. lab R j h (dec_lt j a); args = λ R j h. arg R j h (dec_lt j a) }
  where
    E : W ++ (S ++ stop) ≡ (W ++ S) ++ stop
    E = sym (append_assoc W S stop)

    l : length (W ++ S) ≡ length W + length S
    l = length-append W S

    lab : (R : List Word) (j : ℕ) → j < a' → Dec (j < a) → label_at ((W ++ (S ++ stop)) ++ R) (get_or P' j 0) ≡ label_at (W ++ (S ++ stop)) (get_or P' j 0)
    lab R j h (yes q) = subst (λ (p : ℕ). label_at ((W ++ (S ++ stop)) ++ R) p ≡ label_at (W ++ (S ++ stop)) p) (sym (o j q)) (ap (λ (t : List Word). label_at t (get_or P j 0)) (append_assoc W (S ++ stop) R) ∙ c.label ((S ++ stop) ++ R) j q ∙ sym (c.label (S ++ stop) j q))
    lab R j h (no q) = let k = b j (omega arith) h in let m = l in subst (λ (t : List Word). label_at (t ++ R) (get_or P' j 0) ≡ label_at t (get_or P' j 0)) (sym E) (label_stop (W ++ S) R (get_or P' j 0) (omega arith))

    arg : (R : List Word) (j : ℕ) → j < a' → Dec (j < a) → args_at ((W ++ (S ++ stop)) ++ R) (get_or P' j 0) ≡ args_at (W ++ (S ++ stop)) (get_or P' j 0)
    arg R j h (yes q) = subst (λ (p : ℕ). args_at ((W ++ (S ++ stop)) ++ R) p ≡ args_at (W ++ (S ++ stop)) p) (sym (o j q)) (ap (λ (t : List Word). args_at t (get_or P j 0)) (append_assoc W (S ++ stop) R) ∙ c.args ((S ++ stop) ++ R) j q ∙ sym (c.args (S ++ stop) j q))
    arg R j h (no q) = let k = b j (omega arith) h in let m = l in subst (λ (t : List Word). args_at (t ++ R) (get_or P' j 0) ≡ args_at t (get_or P' j 0)) (sym E) (args_end (W ++ S) R (get_or P' j 0) (omega arith))

-- no applications are closed, whatever the words
pub closed_none : (W : List Word) (P : List ℕ) → Closed W P 0
closed_none W P = record { label = λ R j h. absurd (omega arith); args = λ R j h. absurd (omega arith) }
