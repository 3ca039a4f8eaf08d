-- What the shape decides of a rule's condition, and what it leaves to the solver, by a configuration's words W: tests of
-- rule_effects/specs/Conditions. The place at i is of the kind that the rule takes. Assumes nothing.
use Rattle.std.specs.Prelude.{◌≡◌, refl, Bool, true, false, cond, ◌||◌, List, [], ◌∷◌, ℕ, zero, suc, ◌+◌}
use Rattle.std.proofs.Common.{ap, sym, ◌∙◌}
use Rattle.mem_words.specs.declared.Word.{Word}
use Rattle.mem_sorts.specs.declared.Kind.TheVariants.{Wait, Cond, Commit}
use Rattle.mem_sorts.specs.Shapes.{pick}
use Rattle.rule_words.specs.Scans.{around}
use Rattle.rule_effects.specs.Conditions.{ends_at, kind_at, solved_at, failure_at, parts_at, right_at, left_at, one_at, more_at}
use Rattle.rule_applies.specs.declared.Asks.{Asks}
use Rattle.rule_applies.specs.declared.Asks.TheVariants.{Never, Always, Quiet, Satisfiable}

-- what is asked where a test of the shape holds
unfoldable pub only_if : Bool → Asks → Asks
only_if true a = a
only_if false a = Never

unfoldable pub asks_6 : List Word → ℕ → Asks
asks_6 W i = only_if (one_at W i) (only_if (solved_at W (i + 2)) (cond (kind_at W i Wait) Always (Quiet (i + 2))))

unfoldable pub asks_7 : List Word → ℕ → Asks
asks_7 W i = only_if (kind_at W (around W i) Cond) (only_if (solved_at W (i + 1)) (only_if (right_at W i) (Quiet (i + 1))))

unfoldable pub asks_8 : List Word → ℕ → Asks
asks_8 W i = only_if (kind_at W (around W i) Commit) (only_if (solved_at W (i + 1)) (only_if (left_at W i || right_at W i) (Quiet (i + 1))))

unfoldable pub asks_10 : List Word → ℕ → Asks
asks_10 W i = only_if (ends_at W (i + 1)) Always

unfoldable pub asks_11 : List Word → ℕ → Asks
asks_11 W i = only_if (failure_at W (i + 1)) Always

unfoldable pub asks_12 : List Word → ℕ → Asks
asks_12 W i = only_if (kind_at W i Wait) (only_if (more_at W i) (only_if (solved_at W (i + 2)) Always))

unfoldable pub asks_13 : List Word → ℕ → Asks
asks_13 W i = only_if (parts_at W (i + 1)) Always

-- by the rule's number
unfoldable pub asks_in : List Word → ℕ → ℕ → Asks
asks_in W i r =
    pick
    (Never ∷ Always ∷ Always ∷ Always ∷ Always ∷ Always ∷ asks_6 W i ∷ asks_7 W i ∷ asks_8 W i ∷ Satisfiable i ∷ asks_10 W i ∷ asks_11 W i ∷ asks_12 W i ∷ asks_13 W i ∷ Always ∷ [])
    Never r

-- ---------------------------------------------------------------------------------------------
-- By what was found: t is the test, b what the code found.

pub holds : (b t : Bool) (x a : Asks) → b ≡ t → b ≡ true → x ≡ a → x ≡ only_if t a
unfolding only_if
holds b t x a e f g = g ∙ ap (λ (z : Bool). only_if z a) (sym f ∙ e)

pub fails : (b t : Bool) (a : Asks) → b ≡ t → b ≡ false → Never ≡ only_if t a
unfolding only_if
fails b t a e f = ap (λ (z : Bool). only_if z a) (sym f ∙ e)

pub one_way : (b t : Bool) (x a c : Asks) → b ≡ t → b ≡ true → x ≡ a → x ≡ cond t a c
one_way b t x a c e f g = g ∙ ap (λ (z : Bool). cond z a c) (sym f ∙ e)

pub other_way : (b t : Bool) (x a c : Asks) → b ≡ t → b ≡ false → x ≡ c → x ≡ cond t a c
other_way b t x a c e f g = g ∙ ap (λ (z : Bool). cond z a c) (sym f ∙ e)

pub left_holds : (b t u : Bool) (x a : Asks) → b ≡ t → b ≡ true → x ≡ a → x ≡ only_if (t || u) a
unfolding only_if
left_holds b t u x a e f g = g ∙ ap (λ (z : Bool). only_if (z || u) a) (sym f ∙ e)

-- the left one does not hold, so that the right one decides
pub right_decides : (b t u : Bool) (x a : Asks) → b ≡ t → b ≡ false → x ≡ only_if u a → x ≡ only_if (t || u) a
unfolding only_if
right_decides b t u x a e f g = g ∙ ap (λ (z : Bool). only_if (z || u) a) (sym f ∙ e)

pub at_rule : (W : List Word) (i r j : ℕ) (x : Asks) → r ≡ j → x ≡ asks_in W i j → x ≡ asks_in W i r
at_rule W i r j x e f = f ∙ ap (asks_in W i) (sym e)

-- the number of no rule
pub no_rule : (W : List Word) (i r : ℕ) → (r ≡ 1 → ⊥) → (r ≡ 2 → ⊥) → (r ≡ 3 → ⊥) → (r ≡ 4 → ⊥) → (r ≡ 5 → ⊥) → (r ≡ 6 → ⊥) → (r ≡ 7 → ⊥) → (r ≡ 8 → ⊥) → (r ≡ 9 → ⊥) → (r ≡ 10 → ⊥) → (r ≡ 11 → ⊥) → (r ≡ 12 → ⊥) → (r ≡ 13 → ⊥) → (r ≡ 14 → ⊥) → Never ≡ asks_in W i r
unfolding asks_in
no_rule W i zero n1 n2 n3 n4 n5 n6 n7 n8 n9 n10 n11 n12 n13 n14 = refl
no_rule W i (suc zero) n1 n2 n3 n4 n5 n6 n7 n8 n9 n10 n11 n12 n13 n14 = absurd (n1 refl)
no_rule W i (suc (suc zero)) n1 n2 n3 n4 n5 n6 n7 n8 n9 n10 n11 n12 n13 n14 = absurd (n2 refl)
no_rule W i (suc (suc (suc zero))) n1 n2 n3 n4 n5 n6 n7 n8 n9 n10 n11 n12 n13 n14 = absurd (n3 refl)
no_rule W i (suc (suc (suc (suc zero)))) n1 n2 n3 n4 n5 n6 n7 n8 n9 n10 n11 n12 n13 n14 = absurd (n4 refl)
no_rule W i (suc (suc (suc (suc (suc zero))))) n1 n2 n3 n4 n5 n6 n7 n8 n9 n10 n11 n12 n13 n14 = absurd (n5 refl)
no_rule W i (suc (suc (suc (suc (suc (suc zero)))))) n1 n2 n3 n4 n5 n6 n7 n8 n9 n10 n11 n12 n13 n14 = absurd (n6 refl)
no_rule W i (suc (suc (suc (suc (suc (suc (suc zero))))))) n1 n2 n3 n4 n5 n6 n7 n8 n9 n10 n11 n12 n13 n14 = absurd (n7 refl)
no_rule W i (suc (suc (suc (suc (suc (suc (suc (suc zero)))))))) n1 n2 n3 n4 n5 n6 n7 n8 n9 n10 n11 n12 n13 n14 = absurd (n8 refl)
no_rule W i (suc (suc (suc (suc (suc (suc (suc (suc (suc zero))))))))) n1 n2 n3 n4 n5 n6 n7 n8 n9 n10 n11 n12 n13 n14 = absurd (n9 refl)
no_rule W i (suc (suc (suc (suc (suc (suc (suc (suc (suc (suc zero)))))))))) n1 n2 n3 n4 n5 n6 n7 n8 n9 n10 n11 n12 n13 n14 = absurd (n10 refl)
no_rule W i (suc (suc (suc (suc (suc (suc (suc (suc (suc (suc (suc zero))))))))))) n1 n2 n3 n4 n5 n6 n7 n8 n9 n10 n11 n12 n13 n14 = absurd (n11 refl)
no_rule W i (suc (suc (suc (suc (suc (suc (suc (suc (suc (suc (suc (suc zero)))))))))))) n1 n2 n3 n4 n5 n6 n7 n8 n9 n10 n11 n12 n13 n14 = absurd (n12 refl)
no_rule W i (suc (suc (suc (suc (suc (suc (suc (suc (suc (suc (suc (suc (suc zero))))))))))))) n1 n2 n3 n4 n5 n6 n7 n8 n9 n10 n11 n12 n13 n14 = absurd (n13 refl)
no_rule W i (suc (suc (suc (suc (suc (suc (suc (suc (suc (suc (suc (suc (suc (suc zero)))))))))))))) n1 n2 n3 n4 n5 n6 n7 n8 n9 n10 n11 n12 n13 n14 = absurd (n14 refl)
no_rule W i (suc (suc (suc (suc (suc (suc (suc (suc (suc (suc (suc (suc (suc (suc (suc r))))))))))))))) n1 n2 n3 n4 n5 n6 n7 n8 n9 n10 n11 n12 n13 n14 = refl
