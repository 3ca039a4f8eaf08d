-- Five numbers stored one after another, and the number of each answer. Assumes nothing.
use mathlib.Core.Path.{◌≡◌, refl, ap, sym, ◌∙◌, subst}
use mathlib.Core.Logic.{◌⊎◌, inl, inr}
use mathlib.Core.Bool.{Bool, true, false}
use mathlib.Core.List.{List, [], ◌∷◌}
use Prim.Native.Nat.{ℕ, suc, ◌≤◌, ◌<◌}
use native.Mathlib.Omega.{arith}
use lib.ListN.{length, take, set}
use Rattle.mem_numbers.specs.Stored.{Stored}
use Rattle.refusals.specs.declared.Refusal.{Refusal}
use Rattle.refusals.specs.Refusals.{number_of}
use Rattle.read_inputs.specs.declared.Inputs.{Inputs}
use Rattle.read_inputs.specs.declared.Inputs.TheVariants.{Read, Refused, Short}
use Rattle.read_bench.specs.Number.{Small, Told, Written, Says, Answered, Numbered}

five : (C : List ℕ) (a b c d e : ℕ) → 5 ≤ length C → take 5 (set (set (set (set (set C 0 a) 1 b) 2 c) 3 d) 4 e) ≡ (a ∷ b ∷ c ∷ d ∷ e ∷ [])
five [] a b c d e h = absurd (omega arith)
five (_ ∷ []) a b c d e h = absurd (omega arith)
five (_ ∷ _ ∷ []) a b c d e h = absurd (omega arith)
five (_ ∷ _ ∷ _ ∷ []) a b c d e h = absurd (omega arith)
five (_ ∷ _ ∷ _ ∷ _ ∷ []) a b c d e h = absurd (omega arith)
five (_ ∷ _ ∷ _ ∷ _ ∷ _ ∷ C) a b c d e h = refl

pub five_stored : {C C₁ C₂ C₃ C₄ C₅ : List ℕ} {a b c d e : ℕ} → 5 ≤ length C → Stored C 0 a C₁ → Stored C₁ 1 b C₂ → Stored C₂ 2 c C₃ → Stored C₃ 3 d C₄ → Stored C₄ 4 e C₅ → Written C a b c d e C₅ true
five_stored {C} {C₁} {C₂} {C₃} {C₄} {C₅} {a} {b} {c} {d} {e} h s₁ s₂ s₃ s₄ s₅ =
    let q : C₅ ≡ set (set (set (set (set C 0 a) 1 b) 2 c) 3 d) 4 e =
    s₅.list ∙ ap (λ (l : List ℕ). set l 4 e) (s₄.list ∙ ap (λ (l : List ℕ). set l 3 d) (s₃.list ∙ ap (λ (l : List ℕ). set l 2 c) (s₂.list ∙ ap (λ (l : List ℕ). set l 1 b) s₁.list))) in
    record { told = ap (take 5) q ∙ five C a b c d e h }

pub not_written : {C C' : List ℕ} {a b c d e : ℕ} → (5 ≤ length C → Small a b c d e → ⊥) → Written C a b c d e C' false
not_written h = record { told = h }

module _ {Right : Inputs → Type 0} {C C' : List ℕ} where
  pub no_room : length C < 5 → Numbered Right C C' 20
  no_room h = record { meant = inl (refl, h) }

  answered : {n : ℕ} (x : Inputs) → Says x C' n → Right x → Numbered Right C C' n
  answered x s h = record { meant = inr (record { answer = x; says = s; right = h }) }

  pub counted_all : {x : Inputs} {d a v b m : ℕ} {B : List ℕ} {r : Bool} → x ≡ Read d a v b m → Right x → Written B d a v b m C' r → r ≡ true → Numbered Right C C' 0
  counted_all {x} {d} {a} {v} {b} {m} {B} e h W t = answered (Read d a v b m) (inl (refl, subst (Told B d a v b m C') t W.told)) (subst Right e h)

  pub too_large : {x : Inputs} {d a v b m : ℕ} {B : List ℕ} {r : Bool} → x ≡ Read d a v b m → Right x → 5 ≤ length B → Written B d a v b m C' r → r ≡ false → Numbered Right C C' 22
  too_large {x} {d} {a} {v} {b} {m} {B} e h l W t = answered (Read d a v b m) (inr (refl, subst (Told B d a v b m C') t W.told l)) (subst Right e h)

  pub is_refused : {x : Inputs} {f : Refusal} {n : ℕ} → x ≡ Refused f → Right x → n ≡ number_of f → Numbered Right C C' n
  is_refused {x} {f} e h p = answered (Refused f) p (subst Right e h)

  pub is_short : {x : Inputs} → x ≡ Short → Right x → Numbered Right C C' 21
  is_short e h = answered Short refl (subst Right e h)
