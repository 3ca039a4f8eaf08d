-- What a turn makes of a stack whose applications are linked, and that there is room for it. Assumes nothing.
use mathlib.Core.Path.{◌≡◌, refl, ap, sym, ◌∙◌, subst}
use mathlib.Core.Logic.{inl, inr}
use mathlib.Core.List.{List}
use mathlib.Core.Bool.{true}
use Prim.Native.Nat.{ℕ, suc, ◌+◌, ◌<◌}
use native.Mathlib.Nat.{add-zero}
use native.Mathlib.Omega.{arith}
use native.Mathlib.Decide.{ℕ_discrete}
use lib.ListN.{length, get_or}
use Rattle.constraint.specs.Constraint.{In}
use Rattle.mem_words.specs.declared.Word.{Word}
use Rattle.mem_words.specs.declared.Word.TheVariants.{Bad}
use Rattle.mem_numbers.specs.Stored.{Stored, stored_same, stored_other}
use Rattle.solve_classes.specs.Means.{Apps}
use Rattle.solve_fields.specs.Read.{var_of, is_var, args_at}
use Rattle.solve_explores.specs.Search.{Acyclic}
use Rattle.answer_walk.specs.Stack.{left_at, stacked, On, Child, Linked, Stacked}
use Rattle.answer_walk.proofs.Stacks.{left_all, left_next, push_stacked, top_stacked, length_stacked, linked_none, linked_push, linked_pop, linked_room}

abbrev Inside : List Word → ℕ → ℕ → Type 0
Inside W p k = (y : ℕ) → In y (left_at W p k) → In y (args_at W p)

inside_first : (W : List Word) (p : ℕ) → Inside W p 0
inside_first W p y i = subst (In y) (left_all W p) i

inside_next : (W : List Word) (p k : ℕ) → is_var (get_or W (p + 3 + k) Bad) ≡ true → Inside W p k → Inside W p (k + 1)
inside_next W p k e h y i = h y (subst (In y) (sym (left_next W p k e)) (inr i))

inside_head : (W : List Word) (p k : ℕ) → is_var (get_or W (p + 3 + k) Bad) ≡ true → Inside W p k → In (var_of (get_or W (p + 3 + k) Bad)) (args_at W p)
inside_head W p k e h = h (var_of (get_or W (p + 3 + k) Bad)) (subst (In (var_of (get_or W (p + 3 + k) Bad))) (sym (left_next W p k e)) (inl refl))

module _ (W : List Word) (P T : List ℕ) where
  pub stack_none : (S K : List ℕ) → Stacked W P T S K 0
  unfolding stacked
  stack_none S K = record { linked = linked_none W P T; inside = λ i l. absurd (omega arith) }

  -- an application put on top, with its first argument begun
  pub stack_push : {S K S' K' : List ℕ} {h : ℕ} (x p : ℕ) → On W P T x p → Child W x (stacked S h) → Stacked W P T S K h → Stored S h p S' → Stored K h 1 K' → h < length S → h < length K → is_var (get_or W (p + 3) Bad) ≡ true → Stacked W P T S' K' (h + 1)
  stack_push {S} {K} {S'} {K'} {h} x p o c st a b l m e = record {
    linked = subst (Linked W P T) (sym (push_stacked a l)) (linked_push W P T x p (stacked S h) o c st.linked);
    inside = λ i k. at i k (ℕ_discrete i h);
  }
    where
      z : is_var (get_or W (p + 3 + 0) Bad) ≡ true
      z = ap (λ (n : ℕ). is_var (get_or W n Bad)) (add-zero (p + 3)) ∙ e

      at : (i : ℕ) → i < h + 1 → Dec (i ≡ h) → Inside W (get_or S' i 0) (get_or K' i 0)
      at i k (yes q) = subst (λ (j : ℕ). Inside W (get_or S' j 0) (get_or K' j 0)) (sym q) (subst (λ (p' : ℕ). Inside W p' (get_or K' h 0)) (sym (stored_same 0 a l)) (subst (Inside W p) (sym (stored_same 0 b m)) (inside_next W p 0 z (inside_first W p))))
      at i k (no d) = subst (λ (p' : ℕ). Inside W p' (get_or K' i 0)) (sym (stored_other i 0 a d)) (subst (Inside W (get_or S i 0)) (sym (stored_other i 0 b d)) (st.inside i (omega arith)))

  pub child_push : {S S' : List ℕ} {h : ℕ} (p : ℕ) → Stored S h p S' → h < length S → is_var (get_or W (p + 3) Bad) ≡ true → Child W (var_of (get_or W (p + 3) Bad)) (stacked S' (h + 1))
  child_push {S} {S'} {h} p a l e =
      let n : p + 3 + 0 ≡ p + 3 = omega arith in
      let z : is_var (get_or W (p + 3 + 0) Bad) ≡ true = ap (λ (m : ℕ). is_var (get_or W m Bad)) n ∙ e in
      let i : In (var_of (get_or W (p + 3) Bad)) (args_at W p) = subst (λ (m : ℕ). In (var_of (get_or W m Bad)) (args_at W p)) n (inside_head W p 0 z (inside_first W p)) in
      subst (Child W (var_of (get_or W (p + 3) Bad))) (sym (push_stacked a l)) i

  -- one argument more of the top begun
  pub stack_next : {S K K' : List ℕ} (h : ℕ) → Stacked W P T S K (suc h) → Stored K h (get_or K h 0 + 1) K' → h < length K → is_var (get_or W (get_or S h 0 + 3 + get_or K h 0) Bad) ≡ true → Stacked W P T S K' (suc h)
  stack_next {S} {K} {K'} h st b m e = record { linked = st.linked; inside = λ i k. at i k (ℕ_discrete i h) }
    where
      at : (i : ℕ) → i < suc h → Dec (i ≡ h) → Inside W (get_or S i 0) (get_or K' i 0)
      at i k (yes q) = subst (λ (j : ℕ). Inside W (get_or S j 0) (get_or K' j 0)) (sym q) (subst (Inside W (get_or S h 0)) (sym (stored_same 0 b m)) (inside_next W (get_or S h 0) (get_or K h 0) e (st.inside h (omega arith))))
      at i k (no d) = subst (Inside W (get_or S i 0)) (sym (stored_other i 0 b d)) (st.inside i k)

  pub child_next : {S K : List ℕ} (h : ℕ) → Stacked W P T S K (suc h) → is_var (get_or W (get_or S h 0 + 3 + get_or K h 0) Bad) ≡ true → Child W (var_of (get_or W (get_or S h 0 + 3 + get_or K h 0) Bad)) (stacked S (suc h))
  child_next {S} {K} h st e = subst (Child W (var_of (get_or W (get_or S h 0 + 3 + get_or K h 0) Bad))) (sym (top_stacked S h)) (inside_head W (get_or S h 0) (get_or K h 0) e (st.inside h (omega arith)))

  -- the top taken off
  pub stack_pop : {S K : List ℕ} (h : ℕ) → Stacked W P T S K (suc h) → Stacked W P T S K h
  stack_pop {S} {K} h st = record { linked = linked_pop W P T (get_or S h 0) (stacked S h) (subst (Linked W P T) (top_stacked S h) st.linked); inside = λ i l. st.inside i (omega arith) }

  -- there is room for the application of what is written next
  pub stack_room : {S K : List ℕ} {h : ℕ} → Acyclic W P T → (a : ℕ) → Apps T a → (x p : ℕ) → On W P T x p → Child W x (stacked S h) → Stacked W P T S K h → h < a
  stack_room {S} {K} {h} A a ap' x p o c st = omega (arith, linked_room W P T A a ap' x p (stacked S h) o c st.linked, length_stacked S h)
