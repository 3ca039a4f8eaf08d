-- The steps of the search keep what is known; a mark met on the stack is a cycle, an empty stack none. Assumes nothing.
use mathlib.Core.Path.{◌≡◌, refl, ap, sym, ◌∙◌, subst}
use mathlib.Core.Logic.{◌↔◌, ◌⊎◌, inl, inr, ite, if_pos, if_neg}
use mathlib.Core.Bool.{Bool, true, false}
use mathlib.Core.List.{List, [], ◌∷◌, ◌++◌, append-nil, append_assoc}
use Prim.Native.Nat.{ℕ, zero, suc, ◌+◌, ◌-◌, ◌*◌, ◌/◌, ◌%◌, ◌≤◌, ◌<◌}
use native.Mathlib.Numerals.{add-one}
use native.Mathlib.Nat.{mul-le-mul_right, suc-mul}
use native.Mathlib.Omega.{arith}
use native.Mathlib.Decide.{ℕ_discrete, dec_lt}
use lib.ListN.{length, get_or, drop}
use Rattle.mem_numbers.specs.Stored.{Stored, stored_same, stored_other}
use Rattle.constraint.specs.Tree.{Label}
use Rattle.constraint.specs.Constraint.{Asg, In}
use Rattle.constraint.specs.Solve.{Bnd, free, fun}
use Rattle.constraint.proofs.Form.{Form, at, Solves, Stuck}
use Rattle.constraint.proofs.Forms.{stuck_none}
use Rattle.mem_words.specs.declared.Word.{Word}
use Rattle.mem_words.specs.declared.Word.TheVariants.{Bad}
use Rattle.solve_cells.specs.Cells.{rep, Up}
use Rattle.solve_classes.specs.Means.{bound, Fits, Apps}
use Rattle.solve_classes.proofs.Tables.{form_of, fits_form, bound_yes}
use Rattle.solve_classes.proofs.Linking.{apps_at_lem}
use Rattle.solve_fields.specs.Read.{var_of, is_var, args_of, args_at, label_at, term_at, tab_of}
use Rattle.solve_tells.proofs.Meeting.{args_more, args_done, var_inside}
use Rattle.solve_explores.specs.Search.{cell_of, Leads, Ends, Settled, Lower, white, whites, left, Frame, Search, Cyclic, Acyclic, Marked}

-- marks of what is done stay: then what is settled stays settled
pub settled_kept : (T M M' : List ℕ) (y : ℕ) → ((k : ℕ) → 2 ≤ get_or M k 0 → get_or M' k 0 ≡ get_or M k 0) → Settled T M y → Settled T M' y
unfolding Settled
settled_kept T M M' y k s e = let h = s e in omega (arith, k (cell_of T y / 256) h)

pub lower_kept : (T M M' : List ℕ) (y r : ℕ) → ((k : ℕ) → 2 ≤ get_or M k 0 → get_or M' k 0 ≡ get_or M k 0) → Lower T M y r → Lower T M' y r
unfolding Lower
lower_kept T M M' y r k s e = let h = s e in (omega (arith, k (cell_of T y / 256) h.0, h.0), omega (arith, k (cell_of T y / 256) h.0, h.1))

pub lower_settled : (T M : List ℕ) (y q a : ℕ) → Apps T a → ((k : ℕ) → k < a → 2 ≤ get_or M k 0 → get_or M k 0 < q) → Settled T M y → Lower T M y q
unfolding Lower Settled
lower_settled T M y q a A l s e = let h = s e in (h, l (cell_of T y / 256) (apps_at_lem T a A (rep T y) e) h)

pub frame_kept : (W : List Word) (P T M M' : List ℕ) (k i : ℕ) → ((j : ℕ) → 2 ≤ get_or M j 0 → get_or M' j 0 ≡ get_or M j 0) → Frame W P T M k i → Frame W P T M' k i
frame_kept W P T M M' k i h f = record { done = f.done; split = f.split; settled = λ y e. settled_kept T M M' y h (f.settled y e) }

white_zero : (m : ℕ) → m ≡ 0 → white m ≡ 1
white_zero zero e = refl
white_zero (suc m) e = absurd (omega arith)

pub white_some : (m : ℕ) → (m ≡ 0 → ⊥) → white m ≡ 0
white_some zero n = absurd (n refl)
white_some (suc m) n = refl

pub whites_same : (a : ℕ) (M M' : List ℕ) → ((k : ℕ) → white (get_or M' k 0) ≡ white (get_or M k 0)) → whites a M' ≡ whites a M
unfolding whites
whites_same zero M M' h = refl
whites_same (suc a) M M' h = omega (arith, h a, whites_same a M M' h)

whites_le : (a : ℕ) (M : List ℕ) → whites a M ≤ a
unfolding whites
whites_le zero M = omega arith
whites_le (suc a) M = go (get_or M a 0) (whites_le a M)
  where
    go : (m : ℕ) → whites a M ≤ a → white m + whites a M ≤ suc a
    go zero l = omega arith
    go (suc m) l = omega arith

pub whites_less : (a j v : ℕ) (M M' : List ℕ) → Stored M j v M' → j < length M → get_or M j 0 ≡ 0 → (v ≡ 0 → ⊥) → j < a → whites a M' + 1 ≡ whites a M
unfolding whites
whites_less zero j v M M' s l z n h = absurd (omega arith)
whites_less (suc a) j v M M' s l z n h = go (ℕ_discrete a j) (λ k. whites_less a j v M M' s l z n k)
  where
    below : (b : ℕ) → b ≤ j → whites b M' ≡ whites b M
    below zero k = refl
    below (suc b) k = omega (arith, ap white (stored_other b 0 s (λ e. omega arith)), below b (omega arith))

    go : Dec (a ≡ j) → (j < a → whites a M' + 1 ≡ whites a M) → white (get_or M' a 0) + whites a M' + 1 ≡ white (get_or M a 0) + whites a M
    go (yes e) ih =
        let p : white (get_or M' a 0) ≡ 0 = ap (λ (k : ℕ). white (get_or M' k 0)) e ∙ ap white (stored_same 0 s l) ∙ white_some v n in
        let q : white (get_or M a 0) ≡ 1 = ap (λ (k : ℕ). white (get_or M k 0)) e ∙ white_zero (get_or M j 0) z in
        omega (arith, below a (omega arith))
    go (no k) ih = omega (arith, ap white (stored_other a 0 s (λ e. k e)), ih (omega arith))

-- a list of marks with nothing in it
pub search_first : (W : List Word) (P T M K D : List ℕ) (a : ℕ) → ((k : ℕ) → k < a → get_or M k 0 ≡ 0) → Search W P T M K D a 0 2
search_first W P T M K D a z = record {
  low = λ k b l. absurd (omega (arith, z k b));
  black = λ k b l. absurd (omega (arith, z k b));
  grey = λ s l. absurd (omega arith);
  inside = λ s l. absurd (omega arith);
  onstack = λ k b e. absurd (omega (arith, z k b));
  apart = λ s r l. absurd (omega arith);
  frames = λ s l. absurd (omega arith);
  links = λ s l. absurd (omega arith);
  count = omega (arith, whites_le a M);
  two = omega arith;
  steps = λ s l. absurd (omega arith);
}

start_args : (W : List Word) (p : ℕ) → args_at W p ≡ args_of (drop (p + 3 + 0) W)
unfolding args_at
start_args W p = let z : p + 3 ≡ p + 3 + 0 = omega arith in ap (λ (k : ℕ). args_of (drop k W)) z

-- an application that was not met goes onto the stack
module _ (W : List Word) (P T M K D : List ℕ) (a h q j : ℕ) (S : Search W P T M K D a h q) (ja : j < a) (jm : get_or M j 0 ≡ 0) (M' K' D' : List ℕ) (sm : Stored M j 1 M') (sk : Stored K h j K') (sd : Stored D h 0 D') (lm : j < length M) (lk : h < length K) (ld : h < length D) (leads : (s : ℕ) → s + 1 ≡ h → Leads W T (get_or P (get_or K s 0) 0 + 3 + get_or D s 0) j) where
  kept_push : (k : ℕ) → 2 ≤ get_or M k 0 → get_or M' k 0 ≡ get_or M k 0
  kept_push k l = stored_other k 0 sm (λ e. omega (arith, ap (λ (i : ℕ). get_or M i 0) e))

  old_k : (s : ℕ) → s < h → get_or K' s 0 ≡ get_or K s 0
  old_k s l = stored_other s 0 sk (λ e. omega arith)

  old_d : (s : ℕ) → s < h → get_or D' s 0 ≡ get_or D s 0
  old_d s l = stored_other s 0 sd (λ e. omega arith)

  new_k : get_or K' h 0 ≡ j
  new_k = stored_same 0 sk lk

  new_d : get_or D' h 0 ≡ 0
  new_d = stored_same 0 sd ld

  -- what was marked, and j, is marked
  mark_cases : (k : ℕ) → ((k ≡ j) × (get_or M' k 0 ≡ 1)) ⊎ ((k ≡ j → ⊥) × (get_or M' k 0 ≡ get_or M k 0))
  mark_cases k = go (ℕ_discrete k j)
    where
      go : Dec (k ≡ j) → ((k ≡ j) × (get_or M' k 0 ≡ 1)) ⊎ ((k ≡ j → ⊥) × (get_or M' k 0 ≡ get_or M k 0))
      go (yes e) = inl (e, ap (λ (i : ℕ). get_or M' i 0) e ∙ stored_same 0 sm lm)
      go (no n) = inr (n, stored_other k 0 sm n)

  -- a place of the new stack
  place : (s : ℕ) → s < h + 1 → (s < h) ⊎ (s ≡ h)
  place s l = go (dec_lt s h)
    where
      go : Dec (s < h) → (s < h) ⊎ (s ≡ h)
      go (yes k) = inl k
      go (no k) = inr (omega arith)

  pub pushed : Search W P T M' K' D' a (h + 1) q
  pushed = record {
    low = λ k b l. lo k b l (mark_cases k);
    black = λ k b l. bl k b l (mark_cases k);
    grey = λ s l. gr s (place s l);
    inside = λ s l. ins s (place s l);
    onstack = λ k b e. on k b e (mark_cases k);
    apart = λ s r l m. ap2 s r (place s l) (place r m);
    frames = λ s l. fr s (place s l);
    links = λ s l. li s (place (s + 1) l);
    count = omega (arith, S.count, whites_less a j 1 M M' sm lm jm (λ e. omega arith) ja);
    two = S.two;
    steps = λ s l. st s (place s l);
  }
    where
      lo : (k : ℕ) → k < a → 2 ≤ get_or M' k 0 → ((k ≡ j) × (get_or M' k 0 ≡ 1)) ⊎ ((k ≡ j → ⊥) × (get_or M' k 0 ≡ get_or M k 0)) → get_or M' k 0 < q
      lo k b l (inl w) = absurd (omega (arith, w.1))
      lo k b l (inr w) = omega (arith, w.1, S.low k b (omega (arith, w.1)))

      bl : (k : ℕ) → k < a → 2 ≤ get_or M' k 0 → ((k ≡ j) × (get_or M' k 0 ≡ 1)) ⊎ ((k ≡ j → ⊥) × (get_or M' k 0 ≡ get_or M k 0)) → (y : ℕ) → In y (args_at W (get_or P k 0)) → Lower T M' y (get_or M' k 0)
      bl k b l (inl w) y i = absurd (omega (arith, w.1))
      bl k b l (inr w) y i = subst (Lower T M' y) (sym w.1) (lower_kept T M M' y (get_or M k 0) kept_push (S.black k b (omega (arith, w.1)) y i))

      gr : (s : ℕ) → (s < h) ⊎ (s ≡ h) → get_or M' (get_or K' s 0) 0 ≡ 1
      gr s (inl l) = ap (λ (i : ℕ). get_or M' i 0) (old_k s l) ∙ stored_other (get_or K s 0) 0 sm (λ e. omega (arith, S.grey s l, ap (λ (i : ℕ). get_or M i 0) e)) ∙ S.grey s l
      gr s (inr e) = ap (λ (i : ℕ). get_or M' (get_or K' i 0) 0) e ∙ ap (λ (i : ℕ). get_or M' i 0) new_k ∙ stored_same 0 sm lm

      ins : (s : ℕ) → (s < h) ⊎ (s ≡ h) → get_or K' s 0 < a
      ins s (inl l) = omega (arith, old_k s l, S.inside s l)
      ins s (inr e) = omega (arith, ap (λ (i : ℕ). get_or K' i 0) e, new_k)

      on : (k : ℕ) → k < a → get_or M' k 0 ≡ 1 → ((k ≡ j) × (get_or M' k 0 ≡ 1)) ⊎ ((k ≡ j → ⊥) × (get_or M' k 0 ≡ get_or M k 0)) → (s : ℕ) × (s < h + 1) × (get_or K' s 0 ≡ k)
      on k b e (inl w) = (h, omega arith, new_k ∙ sym w.0)
      on k b e (inr w) = let u = S.onstack k b (sym w.1 ∙ e) in (u.0, omega (arith, u.1), old_k u.0 u.1 ∙ u.2)

      clash : (s : ℕ) → s < h → get_or K s 0 ≡ j → ⊥
      clash s l e = omega (arith, S.grey s l, ap (λ (i : ℕ). get_or M i 0) e)

      ap2 : (s r : ℕ) → (s < h) ⊎ (s ≡ h) → (r < h) ⊎ (r ≡ h) → get_or K' s 0 ≡ get_or K' r 0 → s ≡ r
      ap2 s r (inl l) (inl m) e = S.apart s r l m (sym (old_k s l) ∙ e ∙ old_k r m)
      ap2 s r (inl l) (inr m) e = absurd (clash s l (sym (old_k s l) ∙ e ∙ ap (λ (i : ℕ). get_or K' i 0) m ∙ new_k))
      ap2 s r (inr l) (inl m) e = absurd (clash r m (sym (old_k r m) ∙ sym e ∙ ap (λ (i : ℕ). get_or K' i 0) l ∙ new_k))
      ap2 s r (inr l) (inr m) e = l ∙ sym m

      fr : (s : ℕ) → (s < h) ⊎ (s ≡ h) → Frame W P T M' (get_or K' s 0) (get_or D' s 0)
      fr s (inl l) = subst (λ (k : ℕ). Frame W P T M' k (get_or D' s 0)) (sym (old_k s l)) (subst (Frame W P T M' (get_or K s 0)) (sym (old_d s l)) (frame_kept W P T M M' (get_or K s 0) (get_or D s 0) kept_push (S.frames s l)))
      fr s (inr e) = subst (Frame W P T M' (get_or K' s 0)) (sym (ap (λ (i : ℕ). get_or D' i 0) e ∙ new_d)) (record { done = []; split = start (get_or P (get_or K' s 0) 0); settled = λ y i. absurd i })
        where
          start : (p : ℕ) → args_at W p ≡ args_of (drop (p + 3 + 0) W)
          start p = start_args W p

      li : (s : ℕ) → (s + 1 < h) ⊎ (s + 1 ≡ h) → Leads W T (get_or P (get_or K' s 0) 0 + 3 + get_or D' s 0) (get_or K' (s + 1) 0)
      li s (inl l) = subst (λ (k : ℕ). Leads W T (get_or P k 0 + 3 + get_or D' s 0) (get_or K' (s + 1) 0)) (sym (old_k s (omega arith))) (subst (λ (d : ℕ). Leads W T (get_or P (get_or K s 0) 0 + 3 + d) (get_or K' (s + 1) 0)) (sym (old_d s (omega arith))) (subst (Leads W T (get_or P (get_or K s 0) 0 + 3 + get_or D s 0)) (sym (old_k (s + 1) l)) (S.links s l)))
      li s (inr e) = subst (λ (k : ℕ). Leads W T (get_or P k 0 + 3 + get_or D' s 0) (get_or K' (s + 1) 0)) (sym (old_k s (omega arith))) (subst (λ (d : ℕ). Leads W T (get_or P (get_or K s 0) 0 + 3 + d) (get_or K' (s + 1) 0)) (sym (old_d s (omega arith))) (subst (Leads W T (get_or P (get_or K s 0) 0 + 3 + get_or D s 0)) (sym (ap (λ (i : ℕ). get_or K' i 0) e ∙ new_k)) (leads s e)))

      st : (s : ℕ) → (s < h) ⊎ (s ≡ h) → get_or D' s 0 ≤ length W
      st s (inl l) = omega (arith, old_d s l, S.steps s l)
      st s (inr e) = omega (arith, ap (λ (i : ℕ). get_or D' i 0) e, new_d)
