-- One rule after another.
use mathlib.Core.Path.{◌≡◌, refl, ap, sym, ◌∙◌}
use mathlib.Core.Bool.{Bool, true, false, ◌||◌}
use mathlib.Core.List.{List}
use Prim.Native.Nat.{ℕ, suc, ◌+◌, ◌-◌, ◌<◌, ◌≤◌}
use native.Mathlib.Numerals.{add-one}
use native.Mathlib.Omega.{arith}
use Rattle.akl.specs.Base.{any, range}
use Rattle.akl.specs.Configuration.{Kind, Node, Ctx}
use Rattle.akl.specs.Places.{Place, at}
use Rattle.akl.specs.Stability.{disturbs}
use Rattle.mem_words.specs.declared.Word.{Word}
use Rattle.store_form.specs.State.{State, program_of, config_of}
use Rattle.step_meant.specs.Meant.{Meant, StandsAt}
use Rattle.step_unrest.specs.Disturbing.{DisturbsAt, Disturbed, moves_by}

-- f is false before r
none_before : (f : ℕ → Bool) (r : ℕ) → r < 15 → f r ≡ false → any f (range r (15 - r)) ≡ any f (range (r + 1) (15 - (r + 1)))
unfolding any range
none_before f r h e =
    let l : 15 - r ≡ suc (15 - (r + 1)) = omega (arith, h) in
    ap (λ (n : ℕ). any f (range r n)) l ∙ ap (λ (b : Bool). b || any f (range (suc r) (15 - (r + 1)))) e ∙ ap (λ (n : ℕ). any f (range n (15 - (r + 1)))) (sym (add-one r))

one_there : (f : ℕ → Bool) (r : ℕ) → r < 15 → f r ≡ true → any f (range r (15 - r)) ≡ true
unfolding any range
one_there f r h e =
    let l : 15 - r ≡ suc (15 - (r + 1)) = omega (arith, h) in
    ap (λ (n : ℕ). any f (range r n)) l ∙ ap (λ (b : Bool). b || any f (range (suc r) (15 - (r + 1)))) e

none_left : (f : ℕ → Bool) (r : ℕ) → 15 ≤ r → any f (range r (15 - r)) ≡ false
unfolding any range
none_left f r h = let l : 15 - r ≡ 0 = omega (arith, h) in ap (λ (n : ℕ). any f (range r n)) l

-- no rule before r disturbs the goal
pub record Passed (W D : List Word) (g j r : ℕ) : Type 0 where
  pub left : (s : State) {k : Kind} (χ : Ctx k) (n : Node k) (pl : Place) → Meant W D s → StandsAt s W (at χ n) g → StandsAt s W pl j
      → any (λ q. disturbs (program_of s) (config_of s) χ n q pl) (range 1 14) ≡ any (λ q. disturbs (program_of s) (config_of s) χ n q pl) (range r (15 - r))

module _ (W D : List Word) (g j : ℕ) where
  pub passed_first : Passed W D g j 1
  passed_first = record { left = λ s χ n pl m p q. refl }

  pub passed_next : (r : ℕ) (b : Bool) → r < 15 → DisturbsAt W D g j r b → b ≡ false → Passed W D g j r → Passed W D g j (r + 1)
  passed_next r b h d e a = record { left = λ s χ n pl m p q. a.left s χ n pl m p q ∙ none_before (λ x. disturbs (program_of s) (config_of s) χ n x pl) r h (sym (d.right s χ n pl m p q) ∙ e) }

  pub passed_found : (r : ℕ) (b : Bool) → r < 15 → DisturbsAt W D g j r b → b ≡ true → Passed W D g j r → Disturbed W D g j true
  passed_found r b h d e a = record { right = λ s χ n pl m p q. sym (a.left s χ n pl m p q ∙ one_there (λ x. disturbs (program_of s) (config_of s) χ n x pl) r h (sym (d.right s χ n pl m p q) ∙ e)) }

  pub passed_all : (r : ℕ) → 15 ≤ r → Passed W D g j r → Disturbed W D g j false
  passed_all r h a = record { right = λ s χ n pl m p q. sym (a.left s χ n pl m p q ∙ none_left (λ x. disturbs (program_of s) (config_of s) χ n x pl) r h) }

-- ---------------------------------------------------------------------------------------------
-- The same for the rules that move what is at j.

pub record Unmoved (W : List Word) (j r : ℕ) : Type 0 where
  pub left : any (moves_by W j) (range 1 14) ≡ any (moves_by W j) (range r (15 - r))

module _ (W : List Word) (j : ℕ) where
  pub unmoved_first : Unmoved W j 1
  unmoved_first = record { left = refl }

  pub unmoved_next : (r : ℕ) (b : Bool) → r < 15 → b ≡ moves_by W j r → b ≡ false → Unmoved W j r → Unmoved W j (r + 1)
  unmoved_next r b h d e a = record { left = a.left ∙ none_before (moves_by W j) r h (sym d ∙ e) }

  pub moved_found : (r : ℕ) (b : Bool) → r < 15 → b ≡ moves_by W j r → b ≡ true → Unmoved W j r → any (moves_by W j) (range 1 14) ≡ true
  moved_found r b h d e a = a.left ∙ one_there (moves_by W j) r h (sym d ∙ e)

  pub unmoved_all : (r : ℕ) → 15 ≤ r → Unmoved W j r → any (moves_by W j) (range 1 14) ≡ false
  unmoved_all r h a = a.left ∙ none_left (moves_by W j) r h
