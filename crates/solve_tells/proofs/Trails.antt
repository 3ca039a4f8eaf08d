-- One stretch of the trail after another. Assumes nothing.
use mathlib.Core.Path.{◌≡◌, refl, ap, sym, ◌∙◌, subst}
use mathlib.Core.Logic.{◌↔◌, ◌⊎◌, inl, inr}
use mathlib.Core.List.{List}
use Prim.Native.Nat.{ℕ, ◌+◌, ◌-◌, ◌*◌, ◌≤◌, ◌<◌, ◌%◌, ◌/◌}
use native.Mathlib.Omega.{arith}
use native.Mathlib.Decide.{dec_lt}
use lib.ListN.{length, get_or}
use Rattle.constraint.specs.Constraint.{Asg, In}
use Rattle.constraint.specs.Solve.{Bnd}
use Rattle.constraint.proofs.FormSteps.{Holds}
use Rattle.solve_cells.specs.Cells.{Up}
use Rattle.solve_cells.specs.Trail.{Grown, grown_none, grown_then, Saved, CanSave, grown_saved}
use Rattle.solve_classes.specs.Weights.{weights}
use Rattle.solve_classes.specs.Means.{bound, Fits, Pend, Apps, OldApps, OldVars, Within, OldIn, Joined}
use Rattle.mem_words.specs.declared.Word.{Word}
use Rattle.solve_tells.specs.Reach.{vars_of}
use Rattle.solve_tells.specs.Steps.{Step, Sound}

module _ (X C X' C' : List ℕ) (i n n' : ℕ) (hx : (t : ℕ) → t < n → get_or X' t 0 ≡ get_or X t 0) (hc : (t : ℕ) → t < n → get_or C' t 0 ≡ get_or C t 0) where
  pub pend_split : (tab : ℕ → Bnd) (ρ : Asg) → i ≤ n → n ≤ n' → (Pend tab X C i n ρ × Pend tab X' C' n n' ρ) ↔ Pend tab X' C' i n' ρ
  unfolding Pend
  pend_split tab ρ l l' = (λ q t a b. go q t a b (dec_lt t n), λ q. (λ t a b. subst (λ (z : ℕ). Holds ρ z (bound tab (get_or C t 0))) (hx t b) (subst (λ (z : ℕ). Holds ρ (get_or X' t 0) (bound tab z)) (hc t b) (q t a (omega arith))), λ t a b. q t (omega arith) b))
    where
      go : Pend tab X C i n ρ × Pend tab X' C' n n' ρ → (t : ℕ) → i ≤ t → t < n' → Dec (t < n) → Holds ρ (get_or X' t 0) (bound tab (get_or C' t 0))
      go q t a b (yes h) = subst (λ (z : ℕ). Holds ρ z (bound tab (get_or C' t 0))) (sym (hx t h)) (subst (λ (z : ℕ). Holds ρ (get_or X t 0) (bound tab z)) (sym (hc t h)) (q.0 t a h))
      go q t a b (no h) = q.1 t (omega arith) b

  pub apps_split : (m : ℕ) → OldApps C i n m → OldApps C' n n' m → OldApps C' i n' m
  unfolding OldApps
  apps_split m p q t a b = go (dec_lt t n)
    where
      go : Dec (t < n) → get_or C' t 0 % 4 ≡ 2 → get_or C' t 0 / 256 < m
      go (yes h) = subst (λ (z : ℕ). z % 4 ≡ 2 → z / 256 < m) (sym (hc t h)) (p t a h)
      go (no h) = q t (omega arith) b

  pub vars_split : (s : ℕ) → OldVars X i n s → OldVars X' n n' s → OldVars X' i n' s
  unfolding OldVars
  vars_split s p q t a b = go (dec_lt t n)
    where
      go : Dec (t < n) → get_or X' t 0 < s
      go (yes h) = subst (λ (z : ℕ). z < s) (sym (hx t h)) (p t a h)
      go (no h) = q t (omega arith) b

  pub in_split : (vs : List ℕ) → OldIn X i n vs → OldIn X' n n' vs → OldIn X' i n' vs
  unfolding OldIn
  in_split vs p q t a b = go (dec_lt t n)
    where
      go : Dec (t < n) → In (get_or X' t 0) vs
      go (yes h) = subst (λ (z : ℕ). In z vs) (sym (hx t h)) (p t a h)
      go (no h) = q t (omega arith) b

-- the trail's entries from j on, where j is not before i
pub pend_less : (tab : ℕ → Bnd) (X C : List ℕ) (i j n : ℕ) (ρ : Asg) → i ≤ j → Pend tab X C i n ρ → Pend tab X C j n ρ
unfolding Pend
pend_less tab X C i j n ρ l p t a b = p t (omega arith) b

pub apps_less : (C : List ℕ) (i j n m : ℕ) → i ≤ j → OldApps C i n m → OldApps C j n m
unfolding OldApps
apps_less C i j n m l p t a b = p t (omega arith) b

pub vars_less : (X : List ℕ) (i j n s : ℕ) → i ≤ j → OldVars X i n s → OldVars X j n s
unfolding OldVars
vars_less X i j n s l p t a b = p t (omega arith) b

pub in_less : (X : List ℕ) (i j n : ℕ) (vs : List ℕ) → i ≤ j → OldIn X i n vs → OldIn X j n vs
unfolding OldIn
in_less X i j n vs l p t a b = p t (omega arith) b

in_none : (X : List ℕ) (n : ℕ) (vs : List ℕ) → OldIn X n n vs
unfolding OldIn
in_none X n vs t a b = absurd (omega arith)

pub in_of : (X : List ℕ) (i n : ℕ) (vs : List ℕ) → OldIn X i n vs → (t : ℕ) → i ≤ t → t < n → In (get_or X t 0) vs
unfolding OldIn
in_of X i n vs p = p

pub apps_none : (C : List ℕ) (n m : ℕ) → OldApps C n n m
unfolding OldApps
apps_none C n m t a b = absurd (omega arith)

pub vars_none : (X : List ℕ) (n s : ℕ) → OldVars X n n s
unfolding OldVars
vars_none X n s t a b = absurd (omega arith)

pub pend_none : (tab : ℕ → Bnd) (X C : List ℕ) (n : ℕ) (ρ : Asg) → Pend tab X C n n ρ
unfolding Pend
pend_none tab X C n ρ t a b = absurd (omega arith)

pub vars_of_lem : (X : List ℕ) (i n s : ℕ) → OldVars X i n s → (t : ℕ) → i ≤ t → t < n → get_or X t 0 < s
unfolding OldVars
vars_of_lem X i n s p = p

pub apps_of : (C : List ℕ) (i n m : ℕ) → OldApps C i n m → (t : ℕ) → i ≤ t → t < n → get_or C t 0 % 4 ≡ 2 → get_or C t 0 / 256 < m
unfolding OldApps
apps_of C i n m p = p

pub pend_first : (tab : ℕ → Bnd) (X C : List ℕ) (i n : ℕ) (ρ : Asg) → i < n → Pend tab X C i n ρ ↔ (Holds ρ (get_or X i 0) (bound tab (get_or C i 0)) × Pend tab X C (i + 1) n ρ)
unfolding Pend
pend_first tab X C i n ρ l = (λ p. (p i (omega arith) l, λ t a b. p t (omega arith) b), λ q t a b. go q t a b (dec_lt i t))
  where
    go : Holds ρ (get_or X i 0) (bound tab (get_or C i 0)) × ((t : ℕ) → i + 1 ≤ t → t < n → Holds ρ (get_or X t 0) (bound tab (get_or C t 0))) → (t : ℕ) → i ≤ t → t < n → Dec (i < t) → Holds ρ (get_or X t 0) (bound tab (get_or C t 0))
    go q t a b (yes h) = q.1 t (omega arith) b
    go q t a b (no h) = let e : i ≡ t = omega arith in subst (λ (s : ℕ). Holds ρ (get_or X s 0) (bound tab (get_or C s 0))) e q.0

pub step_none : (W : List Word) (T X C : List ℕ) (n : ℕ) → Sound W T X C n → Step W T X C n T X C n
step_none W T X C n s = record { grown = grown_none T X C n; up = s.up; vars = vars_none X n (length T); plain = λ x e. e; fit_x = s.fit_x; fit_c = s.fit_c; cost = omega arith; within = s.within; used = in_none X n (vars_of W) }

pub step_then : {W : List Word} {T X C T' X' C' T'' X'' C'' : List ℕ} {n n' n'' : ℕ} → Step W T X C n T' X' C' n' → Step W T' X' C' n' T'' X'' C'' n'' → Step W T X C n T'' X'' C'' n''
step_then {W} {T} {X} {C} {T'} {X'} {C'} {T''} {X''} {C''} {n} {n'} {n''} a b = record {
  grown = grown_then a.grown b.grown;
  up = b.up;
  vars = vars_split X' C' X'' C'' n n' n'' b.grown.old_x b.grown.old_c (length T) a.vars (subst (OldVars X'' n' n'') a.grown.size_t b.vars);
  plain = λ x e. a.plain x (b.plain x e);
  fit_x = omega (arith, b.fit_x, a.grown.size_x);
  fit_c = omega (arith, b.fit_c, a.grown.size_c);
  cost = omega (arith, a.cost, b.cost);
  within = b.within;
  used = in_split X' C' X'' C'' n n' n'' b.grown.old_x b.grown.old_c (vars_of W) a.used b.used;
}

pub step_joined : (W : List Word) {T X C T' X' C' : List ℕ} {n n' x y : ℕ} → Joined T X C n x y T' X' C' n' → In x (vars_of W) → In y (vars_of W) → Within (vars_of W) T → n + 2 ≤ length X → n + 2 ≤ length C → Step W T X C n T' X' C' n'
step_joined W j ix iy w hx hc = let v = j.within (vars_of W) ix iy w in record { grown = j.grown; up = j.up; vars = j.vars; plain = j.plain; fit_x = omega (arith, j.short); fit_c = omega (arith, j.short); cost = j.cost; within = v.0; used = v.1 }

-- a trail that is full stays full where its lengths stay
pub filled_then : (X C X' C' : List ℕ) (n : ℕ) → length X' ≡ length X → length C' ≡ length C → (length X' < n + 2) ⊎ (length C' < n + 2) → (length X < n + 2) ⊎ (length C < n + 2)
filled_then X C X' C' n ex ec (inl h) = inl (omega arith)
filled_then X C X' C' n ex ec (inr h) = inr (omega arith)
