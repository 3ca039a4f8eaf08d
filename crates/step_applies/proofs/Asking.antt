-- What is asked of the solver: whether a solved and-box is quiet, or, by rule 9 alone, whether the and-box at the place has a solution.
use mathlib.Core.Path.{◌≡◌, refl, sym, subst}
use mathlib.Core.Bool.{Bool, true, false, cond, ◌||◌, ◌&&◌}
use mathlib.Core.List.{List}
use Prim.Native.Nat.{ℕ, zero, suc, ◌+◌}
use Rattle.mem_words.specs.declared.Word.{Word}
use Rattle.mem_sorts.specs.declared.Kind.TheVariants.{And, Wait, Cond, Commit}
use Rattle.rule_words.specs.Scans.{around}
use Rattle.rule_effects.specs.Effects.{store_end}
use Rattle.rule_effects.specs.Conditions.{ends_at, kind_at, solved_at, failure_at, parts_at, right_at, left_at, one_at, more_at}
use Rattle.rule_applies.specs.declared.Asks.{Asks}
use Rattle.rule_applies.specs.declared.Asks.TheVariants.{Never, Always, Quiet, Satisfiable}
use Rattle.rule_applies.specs.Asking.{only_if, asks_6, asks_7, asks_8, asks_10, asks_11, asks_12, asks_13, asks_in}

abbrev Fine : List Word → ℕ → ℕ → Asks → Type 0
Fine W i r Never = Unit {0}
Fine W i r Always = Unit {0}
Fine W i r (Quiet g) = solved_at W g ≡ true
Fine W i r (Satisfiable g) = (r ≡ 9) × (g ≡ i)

only_fine : (W : List Word) (i r : ℕ) (b : Bool) (a : Asks) → (b ≡ true → Fine W i r a) → Fine W i r (only_if b a)
unfolding only_if
only_fine W i r true a h = h refl
only_fine W i r false a h = tt

promotion_fine : (W : List Word) (i g : ℕ) (b : Bool) → solved_at W g ≡ true → Fine W i 6 (cond b Always (Quiet g))
promotion_fine W i g true h = tt
promotion_fine W i g false h = h

asked_6 : (W : List Word) (i : ℕ) → Fine W i 6 (asks_6 W i)
unfolding asks_6
asked_6 W i = only_fine W i 6 (one_at W i) _ (λ o. only_fine W i 6 (solved_at W (i + 2)) _ (λ h. promotion_fine W i (i + 2) (kind_at W i Wait) h))

asked_7 : (W : List Word) (i : ℕ) → Fine W i 7 (asks_7 W i)
unfolding asks_7
asked_7 W i = only_fine W i 7 (kind_at W (around W i) Cond) _ (λ o. only_fine W i 7 (solved_at W (i + 1)) _ (λ h. only_fine W i 7 (right_at W i) (Quiet (i + 1)) (λ f. h)))

asked_8 : (W : List Word) (i : ℕ) → Fine W i 8 (asks_8 W i)
unfolding asks_8
asked_8 W i = only_fine W i 8 (kind_at W (around W i) Commit) _ (λ o. only_fine W i 8 (solved_at W (i + 1)) _ (λ h. only_fine W i 8 (left_at W i || right_at W i) (Quiet (i + 1)) (λ f. h)))

asked_fine : (W : List Word) (i r : ℕ) → Fine W i r (asks_in W i r)
unfolding asks_in asks_10 asks_11 asks_12 asks_13
asked_fine W i zero = tt
asked_fine W i (suc zero) = tt
asked_fine W i (suc (suc zero)) = tt
asked_fine W i (suc (suc (suc zero))) = tt
asked_fine W i (suc (suc (suc (suc zero)))) = tt
asked_fine W i (suc (suc (suc (suc (suc zero))))) = tt
asked_fine W i (suc (suc (suc (suc (suc (suc zero)))))) = asked_6 W i
asked_fine W i (suc (suc (suc (suc (suc (suc (suc zero))))))) = asked_7 W i
asked_fine W i (suc (suc (suc (suc (suc (suc (suc (suc zero)))))))) = asked_8 W i
asked_fine W i (suc (suc (suc (suc (suc (suc (suc (suc (suc zero))))))))) = (refl, refl)
asked_fine W i (suc (suc (suc (suc (suc (suc (suc (suc (suc (suc zero)))))))))) = only_fine W i 10 (ends_at W (i + 1)) Always (λ h. tt)
asked_fine W i (suc (suc (suc (suc (suc (suc (suc (suc (suc (suc (suc zero))))))))))) = only_fine W i 11 (failure_at W (i + 1)) Always (λ h. tt)
asked_fine W i (suc (suc (suc (suc (suc (suc (suc (suc (suc (suc (suc (suc zero)))))))))))) = only_fine W i 12 (kind_at W i Wait) _ (λ h. only_fine W i 12 (more_at W i) _ (λ f. only_fine W i 12 (solved_at W (i + 2)) Always (λ g. tt)))
asked_fine W i (suc (suc (suc (suc (suc (suc (suc (suc (suc (suc (suc (suc (suc zero))))))))))))) = only_fine W i 13 (parts_at W (i + 1)) Always (λ h. tt)
asked_fine W i (suc (suc (suc (suc (suc (suc (suc (suc (suc (suc (suc (suc (suc (suc zero)))))))))))))) = tt
asked_fine W i (suc (suc (suc (suc (suc (suc (suc (suc (suc (suc (suc (suc (suc (suc (suc r))))))))))))))) = tt

pub quiet_solved : (W : List Word) (i r g : ℕ) → Quiet g ≡ asks_in W i r → solved_at W g ≡ true
quiet_solved W i r g e = subst (Fine W i r) (sym e) (asked_fine W i r)

pub sat_itself : (W : List Word) (i r g : ℕ) → Satisfiable g ≡ asks_in W i r → (r ≡ 9) × (g ≡ i)
sat_itself W i r g e = subst (Fine W i r) (sym e) (asked_fine W i r)

-- a solved and-box is an and-box
first_holds : (a b : Bool) → (a && b) ≡ true → a ≡ true
first_holds true b h = refl
first_holds false b h = h

pub solved_and : (W : List Word) (g : ℕ) → solved_at W g ≡ true → kind_at W g And ≡ true
unfolding solved_at
solved_and W g h = first_holds (kind_at W g And) (ends_at W (store_end W g + 1)) h
