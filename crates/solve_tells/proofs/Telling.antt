-- Telling keeps the tables sound, and has them mean what was told; it can be taken back. Assumes nothing.
use mathlib.Core.Path.{◌≡◌, refl, ap, sym, ◌∙◌, subst}
use Rattle.std.specs.Prelude.{Result, Ok, Err}
use mathlib.Core.Logic.{◌↔◌, ◌⊎◌, inl, inr}
use mathlib.Core.List.{List, [], ◌∷◌, ◌++◌, append_assoc, append-nil}
use Prim.Native.Nat.{ℕ, zero, suc, ◌+◌, ◌-◌, ◌≤◌, ◌<◌, ◌/◌, ◌%◌}
use native.Mathlib.Omega.{arith}
use native.Mathlib.Decide.{ℕ_discrete}
use lib.ListN.{length, get_or}
use Rattle.mem_numbers.specs.Stored.{Stored, stored_other}
use Rattle.constraint.specs.Tree.{Label}
use Rattle.constraint.specs.Constraint.{Asg, Store, Sats, In, cfail}
use Rattle.constraint.specs.Solve.{Bnd, free}
use Rattle.constraint.proofs.Entail.{sats_append}
use Rattle.constraint.proofs.Form.{build}
use Rattle.mem_words.specs.declared.Word.{Word}
use Rattle.mem_words.specs.declared.Word.TheVariants.{Bad}
use Rattle.solve_cells.specs.Cells.{rep}
use Rattle.solve_cells.specs.Trail.{rewind, rewind_same}
use Rattle.solve_classes.specs.Means.{bound, Fits, Apps, OldVars, OldIn}
use Rattle.solve_classes.proofs.Tables.{bound_yes, bound_no}
use Rattle.solve_classes.proofs.Linking.{apps_at_lem}
use Rattle.solve_fields.specs.Read.{term_at, tab_of, Distinct, Vars, starts}
use Rattle.solve_tells.specs.Reach.{vars_of}
use Rattle.solve_tells.specs.Steps.{Step, Sound}
use Rattle.solve_tells.specs.declared.Stop.{Stop}
use Rattle.solve_tells.specs.declared.Stop.TheVariants.{Clash, Full}
use Rattle.solve_tells.proofs.Trails.{step_none, step_then, vars_split, in_split, filled_then}
use Rattle.solve_begins.specs.Begins.{begins_of}
use Rattle.solve_tells.specs.Takes.{Took, Taking}
use Rattle.solve_tells.specs.Tells.{State, Means, Left, Done, Clashed, Lacks, Stopped, Telling, told_by, Back, one_at, range_of, apps_at, apps_in}
use Rattle.solve_tells.specs.declared.Told.{Told}
use Rattle.solve_tells.specs.declared.Told.TheVariants.{All, Failed, NoRoom}
use Rattle.solve_tells.proofs.Counts.{app_one, apps_more, apps_split}
use Rattle.solve_tells.proofs.Ranges.{range_more, range_split, range_none, starts_none, starts_fail}

-- a table of applications matters only below their number
module _ (W : List Word) (P P' T : List ℕ) (a : ℕ) (A : Apps T a) (h : (i : ℕ) → i < a → get_or P' i 0 ≡ get_or P i 0) (lab : ℕ → Label) where
  same_bound : (r : ℕ) → bound (tab_of lab W P') (get_or T r 0) ≡ bound (tab_of lab W P) (get_or T r 0)
  unfolding tab_of
  same_bound r = go (ℕ_discrete (get_or T r 0 % 4) 2)
    where
      go : Dec (get_or T r 0 % 4 ≡ 2) → bound (tab_of lab W P') (get_or T r 0) ≡ bound (tab_of lab W P) (get_or T r 0)
      go (yes e) = bound_yes (tab_of lab W P') (get_or T r 0) e ∙ ap (term_at lab W) (h (get_or T r 0 / 256) (apps_at_lem T a A r e)) ∙ sym (bound_yes (tab_of lab W P) (get_or T r 0) e)
      go (no n) = bound_no (tab_of lab W P') (get_or T r 0) n ∙ sym (bound_no (tab_of lab W P) (get_or T r 0) n)

  pub fits_table : (ρ : Asg) → Fits (tab_of lab W P) T ρ ↔ Fits (tab_of lab W P') T ρ
  unfolding Fits
  fits_table ρ = (λ f x. f x ∙ ap (build ρ (ρ (rep T x))) (sym (same_bound (rep T x))), λ f x. f x ∙ ap (build ρ (ρ (rep T x))) (same_bound (rep T x)))

  pub means_table : (σ : Store) → Means lab W P T σ → Means lab W P' T σ
  unfolding Means
  means_table σ m ρ = (λ s. (fits_table ρ).0 ((m ρ).0 s), λ f. (m ρ).1 ((fits_table ρ).1 f))

left_none : (W : List Word) (P T X C : List ℕ) (n a : ℕ) → State W P T X C n a → Left W P T X C n a P T X C n a
left_none W P T X C n a s = record { step = step_none W T X C n s.sound; more = omega arith; size_p = refl; old_p = λ i l. refl }

-- the tables after a step are sound
state_step : (W : List Word) (P T X C : List ℕ) (n a : ℕ) (P' T' X' C' : List ℕ) (n' a' : ℕ) → State W P T X C n a → Step W T X C n T' X' C' n' → length P' ≡ length P → Apps T' a' → a' ≤ length P' → State W P' T' X' C' n' a'
state_step W P T X C n a P' T' X' C' n' a' s k z A l = record {
  sound = record { up = k.up; vars = record { low = λ j. omega (arith, s.sound.vars.low j, k.grown.size_t) }; long = s.sound.long; fit_x = omega (arith, k.fit_x, k.grown.size_x); fit_c = omega (arith, k.fit_c, k.grown.size_c); plain = λ x e. s.sound.plain x (k.plain x e); within = k.within };
  apps = A;
  fit_p = l;
  size = omega (arith, s.size);
  cost = omega (arith, s.cost, k.cost);
  used = in_split X C X' C' 0 n n' k.grown.old_x k.grown.old_c (vars_of W) s.used k.used;
  vars = subst (OldVars X' 0 n') (sym k.grown.size_t) (vars_split X C X' C' 0 n n' k.grown.old_x k.grown.old_c (length T) s.vars k.vars);
}

-- a word that begins nothing
pub one_none : (W : List Word) (P T X C : List ℕ) (n a i b : ℕ) → State W P T X C n a → b ≡ begins_of (get_or W i Bad) → (b ≡ 1 → ⊥) → (b ≡ 2 → ⊥) → (b ≡ 3 → ⊥) → Done W P T X C n a (apps_at W i) (one_at W i) P T X C n a
unfolding Means
one_none W P T X C n a i b s e n1 n2 n3 = record {
  left = left_none W P T X C n a s;
  state = s;
  few = omega arith;
  means = λ lab σ m ρ. (λ q. (m ρ).0 ((sats_append ρ σ (one_at W i lab)).0 q).0, λ f. (sats_append ρ σ (one_at W i lab)).1 ((m ρ).1 f, starts_none lab (get_or W i Bad) _ ρ (λ z. n1 (e ∙ z)) (λ z. n2 (e ∙ z)) (λ z. n3 (e ∙ z))));
}

-- a word that begins fail
pub one_fail : (W : List Word) (P T X C : List ℕ) (n a i b : ℕ) → State W P T X C n a → b ≡ begins_of (get_or W i Bad) → b ≡ 1 → Clashed W P T X C n a (one_at W i) P T X C n a
one_fail W P T X C n a i b s e n1 = record {
  left = left_none W P T X C n a s;
  none = λ lab d σ m ρ q. (subst (Sats ρ) (starts_fail lab (get_or W i Bad) _ (sym e ∙ n1)) ((sats_append ρ σ (one_at W i lab)).0 q).1).0;
}

-- a constraint that was taken in with the applications P₁
module _ (W : List Word) (P T X C : List ℕ) (n a : ℕ) (s : State W P T X C n a) (P₁ : List ℕ) (z : length P₁ ≡ length P) (h : (i : ℕ) → i < a → get_or P₁ i 0 ≡ get_or P i 0) (S : (ℕ → Label) → Store) (Q : (ℕ → Label) → Asg → Type 0) (sat : (lab : ℕ → Label) (ρ : Asg) → Sats ρ (S lab) ↔ Q lab ρ) (b a₁ : ℕ) (le : a ≤ a₁) (lb : b ≤ a₁) (lp : a₁ ≤ length P₁) (k : ℕ) (lk : a₁ ≤ a + k) (T' X' C' : List ℕ) (n' : ℕ) (o : Result ℕ Stop) (K : Taking W P₁ T X C n b Q T' X' C' o) where
  wide : (T : List ℕ) → Apps T a → Apps T a₁
  unfolding Apps
  wide T A x e = omega (arith, A x e)

  pub one_on : o ≡ Ok n' → Done W P T X C n a k S P₁ T' X' C' n' a₁
  unfolding Means
  one_on e = record {
    left = record { step = K'.step; more = le; size_p = z; old_p = h };
    few = lk;
    state = state_step W P T X C n a P₁ T' X' C' n' a₁ s K'.step z (K'.apps a₁ lb (wide T s.apps)) lp;
    means = λ lab σ m ρ. (λ q. let w = (sats_append ρ σ (S lab)).0 q in (K'.means lab ρ).0 ((f lab ρ).0 ((m ρ).0 w.0), (sat lab ρ).0 w.1), λ q. let w = (K'.means lab ρ).1 q in (sats_append ρ σ (S lab)).1 ((m ρ).1 ((f lab ρ).1 w.0), (sat lab ρ).1 w.1));
  }
    where
      K' : Took W P₁ T X C n b Q T' X' C' n'
      K' = subst (Taking W P₁ T X C n b Q T' X' C') e K

      f : (lab : ℕ → Label) (ρ : Asg) → Fits (tab_of lab W P) T ρ ↔ Fits (tab_of lab W P₁) T ρ
      f lab ρ = fits_table W P P₁ T a s.apps h lab ρ

  pub one_clash : o ≡ Err (Clash n') → Clashed W P T X C n a S P₁ T' X' C' n' a₁
  unfolding Means
  one_clash e = record {
    left = record { step = K'.0; more = le; size_p = z; old_p = h };
    none = λ lab d σ m ρ q. let w = (sats_append ρ σ (S lab)).0 q in K'.1 lab d ρ ((fits_table W P P₁ T a s.apps h lab ρ).0 ((m ρ).0 w.0)) ((sat lab ρ).0 w.1);
  }
    where
      K' : Taking W P₁ T X C n b Q T' X' C' (Err (Clash n'))
      K' = subst (Taking W P₁ T X C n b Q T' X' C') e K

  pub one_full : o ≡ Err (Full n') → Stopped W P T X C n a k P₁ T' X' C' n' a₁
  one_full e = record { left = record { step = K'.0; more = le; size_p = z; old_p = h }; full = inl K'.1 }
    where
      K' : Taking W P₁ T X C n b Q T' X' C' (Err (Full n'))
      K' = subst (Taking W P₁ T X C n b Q T' X' C') e K

pub one_told : (W : List Word) (P T X C : List ℕ) (n a : ℕ) (s : State W P T X C n a) (P₁ : List ℕ) (z : length P₁ ≡ length P) (h : (i : ℕ) → i < a → get_or P₁ i 0 ≡ get_or P i 0) (S : (ℕ → Label) → Store) (Q : (ℕ → Label) → Asg → Type 0) (sat : (lab : ℕ → Label) (ρ : Asg) → Sats ρ (S lab) ↔ Q lab ρ) (b a₁ : ℕ) (le : a ≤ a₁) (lb : b ≤ a₁) (lp : a₁ ≤ length P₁) (k : ℕ) (lk : a₁ ≤ a + k) (T' X' C' : List ℕ) (o : Result ℕ Stop) → Taking W P₁ T X C n b Q T' X' C' o → Telling W P T X C n a k S P₁ T' X' C' (told_by o a₁)
one_told W P T X C n a s P₁ z h S Q sat b a₁ le lb lp k lk T' X' C' (Ok m) K = one_on W P T X C n a s P₁ z h S Q sat b a₁ le lb lp k lk T' X' C' m (Ok m) K refl
one_told W P T X C n a s P₁ z h S Q sat b a₁ le lb lp k lk T' X' C' (Err (Clash m)) K = one_clash W P T X C n a s P₁ z h S Q sat b a₁ le lb lp k lk T' X' C' m (Err (Clash m)) K refl
one_told W P T X C n a s P₁ z h S Q sat b a₁ le lb lp k lk T' X' C' (Err (Full m)) K = one_full W P T X C n a s P₁ z h S Q sat b a₁ le lb lp k lk T' X' C' m (Err (Full m)) K refl

pub no_apps : (W : List Word) (P T X C : List ℕ) (n a i b : ℕ) → State W P T X C n a → b ≡ begins_of (get_or W i Bad) → b ≡ 3 → length P ≤ a → Stopped W P T X C n a (apps_at W i) P T X C n a
no_apps W P T X C n a i b s e z l = record { left = left_none W P T X C n a s; full = inr (omega (arith, app_one W i b e z)) }

pub left_then : {W : List Word} {P T X C P' T' X' C' P'' T'' X'' C'' : List ℕ} {n a n' a' n'' a'' : ℕ} → Left W P T X C n a P' T' X' C' n' a' → Left W P' T' X' C' n' a' P'' T'' X'' C'' n'' a'' → Left W P T X C n a P'' T'' X'' C'' n'' a''
left_then p q = record { step = step_then p.step q.step; more = omega (arith, p.more, q.more); size_p = q.size_p ∙ p.size_p; old_p = λ i l. q.old_p i (omega (arith, p.more)) ∙ p.old_p i l }

-- nothing of a range is told yet
pub tell_first : (W : List Word) (P T X C : List ℕ) (n a from : ℕ) → State W P T X C n a → Done W P T X C n a (apps_in W from from) (range_of W from from) P T X C n a
tell_first W P T X C n a from s = record {
  left = left_none W P T X C n a s;
  state = s;
  few = omega arith;
  means = λ lab σ m. subst (Means lab W P T) (sym (ap (λ (r : Store). σ ++ r) (range_none W from lab) ∙ append-nil σ)) m;
}

-- one more word of a range
module _ (W : List Word) (P T X C : List ℕ) (n a from to i : ℕ) (P' T' X' C' : List ℕ) (n' a' : ℕ) (D : Done W P T X C n a (apps_in W from i) (range_of W from i) P' T' X' C' n' a') (h : from ≤ i) (l : i < to) (e : to ≤ length W) (P'' T'' X'' C'' : List ℕ) (n'' a'' : ℕ) (o : Told) (K : Telling W P' T' X' C' n' a' (apps_at W i) (one_at W i) P'' T'' X'' C'' o) where
  pub tell_all : o ≡ All n'' a'' → Done W P T X C n a (apps_in W from (i + 1)) (range_of W from (i + 1)) P'' T'' X'' C'' n'' a''
  tell_all q = record {
    left = left_then D.left k.left;
    state = k.state;
    few = omega (arith, D.few, k.few, apps_more W from i h (omega arith));
    means = λ lab σ m. subst (Means lab W P'' T'') (append_assoc σ (range_of W from i lab) (one_at W i lab) ∙ ap (λ (r : Store). σ ++ r) (sym (range_more W from i lab h (omega arith)))) (k.means lab (σ ++ range_of W from i lab) (D.means lab σ m));
  }
    where
      k : Done W P' T' X' C' n' a' (apps_at W i) (one_at W i) P'' T'' X'' C'' n'' a''
      k = subst (Telling W P' T' X' C' n' a' (apps_at W i) (one_at W i) P'' T'' X'' C'') q K

  pub tell_clash : o ≡ Failed n'' a'' → Clashed W P T X C n a (range_of W from to) P'' T'' X'' C'' n'' a''
  tell_clash q = record {
    left = left_then D.left k.left;
    none = λ lab d σ m ρ s. k.none lab d (σ ++ range_of W from i lab) (D.means lab σ m) ρ ((sats_append ρ ((σ ++ range_of W from i lab) ++ one_at W i lab) (range_of W (i + 1) to lab)).0 (subst (Sats ρ) (parts lab σ) s)).0;
  }
    where
      k : Clashed W P' T' X' C' n' a' (one_at W i) P'' T'' X'' C'' n'' a''
      k = subst (Telling W P' T' X' C' n' a' (apps_at W i) (one_at W i) P'' T'' X'' C'') q K

      parts : (lab : ℕ → Label) (σ : Store) → σ ++ range_of W from to lab ≡ ((σ ++ range_of W from i lab) ++ one_at W i lab) ++ range_of W (i + 1) to lab
      parts lab σ =
          ap (λ (r : Store). σ ++ r) (range_split W from (i + 1) to lab (omega arith) (omega arith) ∙ ap (λ (r : Store). r ++ range_of W (i + 1) to lab) (range_more W from i lab h (omega arith)))
          ∙ sym (append_assoc σ (range_of W from i lab ++ one_at W i lab) (range_of W (i + 1) to lab))
          ∙ ap (λ (r : Store). r ++ range_of W (i + 1) to lab) (sym (append_assoc σ (range_of W from i lab) (one_at W i lab)))

  pub tell_full : o ≡ NoRoom n'' a'' → Stopped W P T X C n a (apps_in W from to) P'' T'' X'' C'' n'' a''
  tell_full q = record { left = left_then D.left k.left; full = go k.full }
    where
      k : Stopped W P' T' X' C' n' a' (apps_at W i) P'' T'' X'' C'' n'' a''
      k = subst (Telling W P' T' X' C' n' a' (apps_at W i) (one_at W i) P'' T'' X'' C'') q K

      go : Lacks P' X' C' n'' a' (apps_at W i) → Lacks P X C n'' a (apps_in W from to)
      go (inl f) = inl (filled_then X C X' C' n'' D.left.step.grown.size_x D.left.step.grown.size_c f)
      go (inr f) = inr (omega (arith, D.left.size_p, D.few, apps_more W from i h (omega arith), apps_split W from (i + 1) to (omega arith) (omega arith)))

old_vars_kept : (X X' : List ℕ) (n : ℕ) → ((i : ℕ) → i < n → get_or X' i 0 ≡ get_or X i 0) → (z : ℕ) → OldVars X 0 n z → OldVars X' 0 n z
unfolding OldVars
old_vars_kept X X' n h z o t a b = subst (λ (v : ℕ). v < z) (sym (h t b)) (o t a b)

later : (X X' : List ℕ) (m n : ℕ) → ((i : ℕ) → i < n → get_or X' i 0 ≡ get_or X i 0) → (z : ℕ) → OldVars X m n z → OldVars X' m n z
unfolding OldVars
later X X' m n h z o t a b = subst (λ (v : ℕ). v < z) (sym (h t b)) (o t a b)

later_in : (X X' : List ℕ) (m n : ℕ) → ((i : ℕ) → i < n → get_or X' i 0 ≡ get_or X i 0) → (vs : List ℕ) → OldIn X m n vs → OldIn X' m n vs
unfolding OldIn
later_in X X' m n h vs o t a b = subst (λ (v : ℕ). In v vs) (sym (h t b)) (o t a b)

-- the tables of an earlier mark
pub back_tables : (W : List Word) (P T X C : List ℕ) (n' n : ℕ) (T'' : List ℕ) → T'' ≡ rewind (n' - n) n T X C → Back W P T X C n' n T''
back_tables W P T X C n' n T'' r = record { same = same'; state = λ P₀ T₀ X₀ C₀ a a' l s. state' P₀ T₀ X₀ C₀ a a' l s; means = λ P₀ T₀ X₀ C₀ a a' l s lab σ m. subst (λ (t : List ℕ). Means lab W P t σ) (sym (same' P₀ T₀ X₀ C₀ a a' l)) (means_table W P₀ P T₀ a s.apps l.old_p lab σ m) }
  where
    same' : (P₀ T₀ X₀ C₀ : List ℕ) (a a' : ℕ) → Left W P₀ T₀ X₀ C₀ n a P T X C n' a' → T'' ≡ T₀
    same' P₀ T₀ X₀ C₀ a a' l = r ∙ l.step.grown.back

    state' : (P₀ T₀ X₀ C₀ : List ℕ) (a a' : ℕ) → Left W P₀ T₀ X₀ C₀ n a P T X C n' a' → State W P₀ T₀ X₀ C₀ n a → State W P T'' X C n a
    state' P₀ T₀ X₀ C₀ a a' l s = subst (λ (t : List ℕ). State W P t X C n a) (sym (same' P₀ T₀ X₀ C₀ a a' l)) (record {
      sound = record { up = s.sound.up; vars = s.sound.vars; long = s.sound.long; fit_x = omega (arith, s.sound.fit_x, l.step.grown.size_x); fit_c = omega (arith, s.sound.fit_c, l.step.grown.size_c); plain = s.sound.plain; within = s.sound.within };
      apps = s.apps;
      fit_p = omega (arith, s.fit_p, l.size_p);
      size = omega (arith, s.size, l.size_p);
      cost = s.cost;
      used = later_in X₀ X 0 n l.step.grown.old_x (vars_of W) s.used;
      vars = old_vars_kept X₀ X n l.step.grown.old_x (length T₀) s.vars;
    })

-- after going back from a later mark, an earlier mark can still be gone back to
pub left_back : {W : List Word} {P₀ T₀ X₀ C₀ P₁ T₁ X₁ C₁ P₂ T₂ X₂ C₂ : List ℕ} {n₀ a₀ n₁ a₁ n₂ a₂ : ℕ} → Left W P₀ T₀ X₀ C₀ n₀ a₀ P₁ T₁ X₁ C₁ n₁ a₁ → Left W P₁ T₁ X₁ C₁ n₁ a₁ P₂ T₂ X₂ C₂ n₂ a₂ → Left W P₀ T₀ X₀ C₀ n₀ a₀ P₂ T₁ X₂ C₂ n₁ a₁
left_back {W} {P₀} {T₀} {X₀} {C₀} {P₁} {T₁} {X₁} {C₁} {P₂} {T₂} {X₂} {C₂} {n₀} {a₀} {n₁} {a₁} {n₂} {a₂} p q = record {
  step = record {
    grown = record {
      le = p.step.grown.le;
      size_t = p.step.grown.size_t;
      size_x = q.step.grown.size_x ∙ p.step.grown.size_x;
      size_c = q.step.grown.size_c ∙ p.step.grown.size_c;
      back = rewind_same (n₁ - n₀) n₀ T₁ X₁ C₁ X₂ C₂ (λ i l h. q.step.grown.old_x i (omega (arith, p.step.grown.le))) (λ i l h. q.step.grown.old_c i (omega (arith, p.step.grown.le))) ∙ p.step.grown.back;
      old_x = λ i l. q.step.grown.old_x i (omega (arith, p.step.grown.le)) ∙ p.step.grown.old_x i l;
      old_c = λ i l. q.step.grown.old_c i (omega (arith, p.step.grown.le)) ∙ p.step.grown.old_c i l;
      tags = p.step.grown.tags;
      opens = λ i l h e. subst (λ (x : ℕ). get_or T₀ x 0 % 4 ≡ 0) (sym (q.step.grown.old_x i h)) (p.step.grown.opens i l h (ap (λ (c : ℕ). c % 4) (sym (q.step.grown.old_c i h)) ∙ e));
    };
    up = p.step.up;
    vars = later X₁ X₂ n₀ n₁ q.step.grown.old_x (length T₀) p.step.vars;
    plain = p.step.plain;
    fit_x = p.step.fit_x;
    fit_c = p.step.fit_c;
    cost = p.step.cost;
    within = p.step.within;
    used = later_in X₁ X₂ n₀ n₁ q.step.grown.old_x (vars_of W) p.step.used;
  };
  more = p.more;
  size_p = q.size_p ∙ p.size_p;
  old_p = λ i l. q.old_p i (omega (arith, p.more)) ∙ p.old_p i l;
}

-- applications below a are below the length of their table
pub state_apps : (W : List Word) (P T X C : List ℕ) (n a : ℕ) → State W P T X C n a → Apps T (length P)
unfolding Apps
state_apps W P T X C n a s x e = omega (arith, apps_at_lem T a s.apps x e, s.fit_p)
