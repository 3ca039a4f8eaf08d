-- Locals marked one after another, and what fits the slice. Assumes nothing.
use mathlib.Core.Path.{◌≡◌, refl, ap, sym, ◌∙◌, subst}
use mathlib.Core.Logic.{◌↔◌, ◌⊎◌, inl, inr}
use mathlib.Core.Bool.{Bool, true, false}
use mathlib.Core.List.{List, [], ◌∷◌, ◌++◌}
use Prim.Native.Nat.{ℕ, suc, ◌+◌, ◌-◌, ◌≤◌, ◌<◌}
use native.Mathlib.Omega.{arith}
use native.Mathlib.Numerals.{add-one}
use native.Mathlib.Decide.{ℕ_discrete, dec_lt}
use lib.ListN.{length, get_or, take, replicate, length-replicate, get_or-replicate, get_or-eq_default}
use lib.Seq.{take-suc, take_all}
use Rattle.constraint.specs.Constraint.{In}
use Rattle.constraint.proofs.Lists.{In-append}
use Rattle.mem_words.specs.declared.Word.{Word}
use Rattle.mem_numbers.specs.Stored.{stored_same, stored_other}
use Rattle.mem_parts.specs.Parts.{Outside, outside_then, Zeroed}
use Rattle.solve_fields.specs.Read.{Vars}
use Rattle.solve_fits.specs.Fits.{Bounded}
use Rattle.solve_quiet.specs.Owners.{Outer}
use Rattle.solve_quiet.specs.Solver.{Marking}
use Rattle.work_tables.specs.Tables.{locals_of, Laid, laid_after, length_locals}
use Rattle.work_tables.specs.Writes.{PutLocal}
use Rattle.work_judge.specs.Judging.{Locals, Suits, Suit}

get_or_zeros : (n x : ℕ) → ◌≡◌ {A = ℕ} (get_or (replicate n 0) x 0) 0
get_or_zeros n x = go (dec_lt x n)
  where
    go : Dec (x < n) → ◌≡◌ {A = ℕ} (get_or (replicate n 0) x 0) 0
    go (yes h) = get_or-replicate n x 0 0 h
    go (no h) = let zs : List ℕ = replicate n 0 in let l : length zs ≡ n = length-replicate n 0 in let q : length zs ≤ x = omega arith in get_or-eq_default zs 0 q

-- none is marked
pub locals_none : (L vs X : List ℕ) → Zeroed 335872 401408 L X → Locals X (take 0 vs) X
unfolding locals_of
locals_none L vs X z = record { marks = λ x. (λ i. absurd i, λ n. absurd (n (ap (λ (l : List ℕ). get_or l x 0) z.part ∙ get_or_zeros (401408 - 335872) x))); rest = record { before = refl; after = refl; long = refl } }

-- one more is
pub locals_next : (L vs X Y : List ℕ) (i v : ℕ) → Laid L → i < length vs → v ≡ get_or vs i 0 → v < 65536 → Locals L (take i vs) X → PutLocal X v 1 Y → Locals L (take (i + 1) vs) Y
locals_next L vs X Y i v h l e s m p = record { marks = λ x. subst (λ (us : List ℕ). In x us ↔ (Outer (locals_of Y) x → ⊥)) (sym more) (go x (ℕ_discrete x v)); rest = outside_then m.rest p.rest }
  where
    more : take (i + 1) vs ≡ take i vs ++ (v ∷ [])
    more = ap (λ (k : ℕ). take k vs) (add-one i) ∙ take-suc vs i 0 l ∙ ap (λ (k : ℕ). take i vs ++ (k ∷ [])) (sym e)

    long : length (locals_of X) ≡ 65536
    long = length_locals (laid_after h m.rest)

    go : (x : ℕ) → Dec (x ≡ v) → In x (take i vs ++ (v ∷ [])) ↔ (Outer (locals_of Y) x → ⊥)
    go x (yes q) =
        let one : get_or (locals_of Y) x 0 ≡ 1 = ap (λ (k : ℕ). get_or (locals_of Y) k 0) q ∙ stored_same 0 p.locals (omega (arith, long)) in
        (λ _. λ o. omega arith, λ _. (In-append x (take i vs) (v ∷ [])).1 (inr (inl q)))
    go x (no q) =
        let same : get_or (locals_of Y) x 0 ≡ get_or (locals_of X) x 0 = stored_other x 0 p.locals q in
        (λ j. λ o. old x q ((In-append x (take i vs) (v ∷ [])).0 j) (sym same ∙ o), λ n. (In-append x (take i vs) (v ∷ [])).1 (inl ((m.marks x).1 (λ o. n (same ∙ o)))))
      where
        old : (y : ℕ) → (y ≡ v → ⊥) → In y (take i vs) ⊎ In y (v ∷ []) → Outer (locals_of X) y → ⊥
        old y k (inl j) o = (m.marks y).0 j o
        old y k (inr (inl e)) o = k e
        old y k (inr (inr z)) o = absurd z

-- all are
pub locals_all : (L vs X Y : List ℕ) (i : ℕ) → length vs ≤ i → Zeroed 335872 401408 L X → Locals X (take i vs) Y → Locals L vs Y
locals_all L vs X Y i h z m = record { marks = subst (Marking (locals_of Y)) (take_all i vs h) m.marks; rest = outside_then z.rest m.rest }

pub suit_all : (S : List Word) (from mid to : ℕ) (L : List ℕ) → from ≤ mid → mid ≤ to → to ≤ length S → to + 6 ≤ 24576 + from → 524288 ≤ length L → (r : Bool) → Bounded S 65536 r → Suit S from mid to L r
suit_all S from mid to L a b c d e true v = record { first = a; second = b; end = c; room = d; vars = v; laid = record { long = e } }
suit_all S from mid to L a b c d e false v = λ s. v s.vars
