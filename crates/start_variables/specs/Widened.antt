-- Numbers of two bytes written with three. Assumes nothing.
use Rattle.std.specs.Prelude.{◌≡◌, refl, List, [], ◌∷◌, ◌++◌, ℕ, zero, suc, ◌+◌, ◌≤◌, ◌<◌, length, take, get_or}
use Rattle.std.proofs.Common.{sym, ap, ◌∙◌, arith, add-one, take-suc, take-suc-set}
use Rattle.mem_numbers.specs.Numbers.{Got}
use Rattle.mem_numbers.specs.Stored.{Stored}

pub record CanWiden (Q : List ℕ) (n : ℕ) (O : List ℕ) : Type 0 where
  pub source : n ≤ length Q
  pub room : n ≤ length O

-- the first n of O are those of Q
pub record Widened (Q : List ℕ) (n : ℕ) (O : List ℕ) : Type 0 where
  pub numbers : take n O ≡ take n Q

pub widened_more : {Q : List ℕ} {i : ℕ} {O O' : List ℕ} {v : ℕ} → i < length Q → i < length O → Widened Q i O → Got Q i 65536 v → Stored O i v O' → Widened Q (i + 1) O'
widened_more {Q} {i} {O} {O'} {v} h g w r s = record {
  numbers =
      ap (λ (k : ℕ). take k O') (add-one i) ∙ ap (take (suc i)) s.list ∙ take-suc-set O i v g
      ∙ ap (λ (x : List ℕ). x ++ (v ∷ [])) w.numbers ∙ ap (λ (x : ℕ). take i Q ++ (x ∷ [])) r.is
      ∙ sym (take-suc Q i 0 h) ∙ sym (ap (λ (k : ℕ). take k Q) (add-one i));
}
