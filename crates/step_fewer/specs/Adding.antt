-- The rules that can add parts: a program atom's definition may be larger than the atom (2), a clause becomes a guarded goal with an
-- and-box (5), an and-box is copied (12), and so is a body (13). All others move, drop or open what is there. Assumes nothing.
use Rattle.std.specs.Prelude.{◌≡◌, Bool, true, false, ◌||◌, ℕ, eqb}
use Rattle.std.proofs.Common.{ap, ap₂, sym, ◌∙◌, ne_eqb}

unfoldable pub adds_parts : ℕ → Bool
adds_parts r = eqb r 2 || eqb r 5 || eqb r 12 || eqb r 13

-- a number that is one of theirs, and one that is none
pub adds_at : (r j : ℕ) → adds_parts j ≡ true → r ≡ j → true ≡ adds_parts r
adds_at r j a e = sym (ap adds_parts e ∙ a)

pub adds_none : (r : ℕ) → (r ≡ 2 → ⊥) → (r ≡ 5 → ⊥) → (r ≡ 12 → ⊥) → (r ≡ 13 → ⊥) → false ≡ adds_parts r
unfolding adds_parts
adds_none r a b c d = sym (ap₂ ◌||◌ (ap₂ ◌||◌ (ap₂ ◌||◌ (ne_eqb r 2 a) (ne_eqb r 5 b)) (ne_eqb r 12 c)) (ne_eqb r 13 d))

-- Of these, the rules that rewrite what stands at the place itself; 12 and 13 rewrite the box around it.
unfoldable pub itself : ℕ → Bool
itself n = eqb n 2 || eqb n 5

pub itself_at : (n j : ℕ) → itself j ≡ true → n ≡ j → true ≡ itself n
itself_at n j a e = sym (ap itself e ∙ a)

pub itself_none : (n : ℕ) → (n ≡ 2 → ⊥) → (n ≡ 5 → ⊥) → false ≡ itself n
unfolding itself
itself_none n a b = sym (ap₂ ◌||◌ (ne_eqb n 2 a) (ne_eqb n 5 b))
