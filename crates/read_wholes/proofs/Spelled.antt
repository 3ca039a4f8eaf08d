-- Names and numbers: there always is a spelling, and a spelling that is one to one has numbers. Assumes nothing.
use mathlib.Core.Path.{◌≡◌, refl, ap, ap₂, sym, ◌∙◌}
use mathlib.Core.Bool.{Bool, true, false, ◌&&◌}
use mathlib.Core.List.{List, [], ◌∷◌}
use Prim.Native.Nat.{ℕ, zero, suc, ◌+◌, ◌-◌, ◌<◌}
use native.Mathlib.Omega.{arith}
use native.Mathlib.Decide.{ℕ_discrete}
use lib.Dec.{eqb}
use borrow.Author.Tests.{eq-eqb, eqb-true}
use Rattle.akl.specs.Base.{Name, same, bytes, bytes_from, if}
use Rattle.akl.proofs.Names.{same_refl, same_eq}
use Rattle.read_phrases.specs.Codes.{number_at}
use Rattle.read_phrases.specs.Phrases.{Reserved}
use Rattle.read_pieces.specs.Reads.{Spelling}

-- ---------------------------------------------------------------------------------------------
-- Numbers for names that are spelled apart.

-- the number below m that w spells as x
unfoldable pub numbered : (ℕ → Name) → ℕ → Name → ℕ
numbered w zero x = 0
numbered w (suc m) x = if (same (w m) x) m (numbered w m x)

number_back : (m : ℕ) (w : ℕ → Name) (i : ℕ) → ((j : ℕ) → j < m → w j ≡ w i → j ≡ i) → i < m → numbered w m (w i) ≡ i
unfolding numbered
number_back zero w i h l = absurd (omega arith)
number_back (suc m) w i h l = go (same (w m) (w i)) refl (λ g. number_back m w i (λ j k. h j (omega arith)) g)
  where
    go : (b : Bool) → same (w m) (w i) ≡ b → (i < m → numbered w m (w i) ≡ i) → if b m (numbered w m (w i)) ≡ i
    go true e f = h m (omega arith) (same_eq (w m) (w i) e)
    go false e f = f (apart (ℕ_discrete i m))
      where
        apart : Dec (i ≡ m) → i < m
        apart (yes q) = absurd (let z : false ≡ true = sym e ∙ ap (λ (j : ℕ). same (w m) (w j)) q ∙ same_refl (w m) in let u : ◌≡◌ {A = ℕ} 0 1 = cc in omega arith)
        apart (no q) = omega arith

pub numbering : (w : ℕ → Name) (m : ℕ) → ((i j : ℕ) → i < m → j < m → w i ≡ w j → i ≡ j) → Spelling w (numbered w m) m
numbering w m h = record { back = λ i l. number_back m w i (λ j g. h j i g l) l }

-- ---------------------------------------------------------------------------------------------
-- A spelling for whatever numbers: `true`, `fail`, and lists of one number that is no byte.

unfoldable pub spelled : ℕ → Name
spelled i = if (eqb i 4) (bytes "true") (if (eqb i 8) (bytes "fail") ((300 + i) ∷ []))

unfoldable pub counted : Name → ℕ
counted [] = 0
counted (a ∷ []) = a - 300
counted (a ∷ b ∷ l) = if (eqb a 116) 4 8

spelled_back : (i : ℕ) → counted (spelled i) ≡ i
unfolding spelled counted bytes bytes_from
spelled_back i = go (eqb i 4) refl (eqb i 8) refl
  where
    go : (a : Bool) → eqb i 4 ≡ a → (b : Bool) → eqb i 8 ≡ b → counted (if a (bytes "true") (if b (bytes "fail") ((300 + i) ∷ []))) ≡ i
    go true e b f = sym (eqb-true i 4 e)
    go false e true f = sym (eqb-true i 8 f)
    go false e false f = omega arith

pub spelled_numbers : (m : ℕ) → Spelling spelled counted m
spelled_numbers m = record { back = λ i h. spelled_back i }

both_not : (b : Bool) → b && false ≡ false
both_not true = refl
both_not false = refl

spelled_true : (i : ℕ) → same (spelled i) (bytes "true") ≡ eqb i 4
unfolding spelled same bytes bytes_from
spelled_true i = go (eqb i 4) refl (eqb i 8)
  where
    go : (a : Bool) → eqb i 4 ≡ a → (b : Bool) → same (if a (bytes "true") (if b (bytes "fail") ((300 + i) ∷ []))) (bytes "true") ≡ a
    go true e b = refl
    go false e true = refl
    go false e false = both_not (eqb (300 + i) 116)

spelled_fail : (i : ℕ) → same (spelled i) (bytes "fail") ≡ eqb i 8
unfolding spelled same bytes bytes_from
spelled_fail i = go (eqb i 4) refl (eqb i 8) refl
  where
    go : (a : Bool) → eqb i 4 ≡ a → (b : Bool) → eqb i 8 ≡ b → same (if a (bytes "true") (if b (bytes "fail") ((300 + i) ∷ []))) (bytes "fail") ≡ b
    go true e true f = absurd (let p = eqb-true i 4 e in let q = eqb-true i 8 f in omega arith)
    go true e false f = refl
    go false e true f = refl
    go false e false f = both_not (eqb (300 + i) 102)

pub spelled_reserved : (L : List ℕ) → Reserved spelled L
spelled_reserved L = record { true = λ i h. spelled_true (number_at L i); fail = λ i h. spelled_fail (number_at L i) }
