-- Looking for owners, entry by entry of the trail. Assumes nothing.
use mathlib.Core.Path.{◌≡◌, refl, ap, sym, ◌∙◌, subst}
use mathlib.Core.Logic.{◌↔◌, ◌⊎◌, inl, inr}
use mathlib.Core.List.{List}
use Prim.Native.Nat.{ℕ, zero, suc, ◌+◌, ◌-◌, ◌*◌, ◌/◌, ◌%◌, ◌≤◌, ◌<◌}
use native.Mathlib.Omega.{arith}
use native.Mathlib.Decide.{ℕ_discrete}
use lib.ListN.{length, get_or}
use Rattle.mem_numbers.specs.Stored.{Stored, stored_same, stored_other}
use Rattle.constraint.specs.Constraint.{In}
use Rattle.solve_cells.specs.Cells.{next, par, rep, Up, Found}
use Rattle.solve_cells.specs.Trail.{Grown, grown_none, grown_then, grown_saved, grows_owned, Saved, CanSave}
use Rattle.solve_classes.specs.Means.{OldVars}
use Rattle.solve_classes.specs.Weights.{weights_stored, weight_open, weight_taken}
use Rattle.solve_cells.proofs.Climb.{next_root, rep_same, root_rep, rep_root}
use Rattle.solve_classes.proofs.Tables.{cell_cases, up_root}
use Rattle.solve_classes.proofs.Linking.{root_cell, one_vars, rep_in, within_saved}
use Rattle.solve_tells.specs.Steps.{Filled}
use Rattle.solve_tells.proofs.Trails.{vars_none, vars_split, vars_of_lem, in_of, filled_then}
use Rattle.solve_quiet.specs.Owners.{Cand, Outer, Alone, Owning, Loud, Marks, CanOwn, CanLookAll, CanLookOne, Looking}
use Rattle.std.specs.Prelude.{Result, Ok, Err}
use Rattle.solve_quiet.specs.declared.Unowned.{Unowned}
use Rattle.solve_quiet.specs.declared.Unowned.TheVariants.{Joint, NoPlace}

pub owning_first : (L T X C : List ℕ) (from n : ℕ) → CanLookAll L T X C from n → Owning L T X C from n T X C from n
owning_first L T X C from n h = record {
  grown = grown_none T X C n;
  up = h.up;
  vars = vars_none X n (length T);
  fit_x = h.fit_x;
  fit_c = h.fit_c;
  cost = omega arith;
  within = λ vs u v. v;
  pars = λ x. refl;
  kept = λ x. inr refl;
  unbound = λ x e. absurd (h.plain x e);
  local = λ x e. absurd (h.plain x e);
  owner = λ x e. absurd (h.plain x e);
  done = λ s a b. absurd (omega arith);
}

pub marks_of : {L T X C : List ℕ} {from n : ℕ} {O X' C' : List ℕ} {i m : ℕ} → Owning L T X C from n O X' C' i m → Marks T X C n O X' C' m
marks_of w = record { grown = w.grown; vars = w.vars; fit_x = w.fit_x; fit_c = w.fit_c; cost = w.cost; within = w.within }

pub four : (c : ℕ) → (c % 4 ≡ 0) ⊎ ((c % 4 ≡ 1) ⊎ ((c % 4 ≡ 2) ⊎ (c % 4 ≡ 3)))
four c = go (ℕ_discrete (c % 4) 0) (ℕ_discrete (c % 4) 1) (ℕ_discrete (c % 4) 2)
  where
    go : Dec (c % 4 ≡ 0) → Dec (c % 4 ≡ 1) → Dec (c % 4 ≡ 2) → (c % 4 ≡ 0) ⊎ ((c % 4 ≡ 1) ⊎ ((c % 4 ≡ 2) ⊎ (c % 4 ≡ 3)))
    go (yes e) b d = inl e
    go (no a) (yes e) d = inr (inl e)
    go (no a) (no b) (yes e) = inr (inr (inl e))
    go (no a) (no b) (no d) = inr (inr (inr (omega arith)))

-- the entry i of the trail, x with the old cell c
module _ (L T X C : List ℕ) (from n : ℕ) (O X' C' : List ℕ) (i m x c : ℕ) (h : CanOwn L T X C from n O X' C' i m) (ex : x ≡ get_or X' i 0) (ec : c ≡ get_or C' i 0) where
  w : Owning L T X C from n O X' C' i m
  w = h.owning

  ex₀ : get_or X i 0 ≡ x
  ex₀ = sym (w.grown.old_x i h.end) ∙ sym ex

  ec₀ : get_or C i 0 ≡ c
  ec₀ = sym (w.grown.old_c i h.end) ∙ sym ec

  pub var_inside : x < length O
  var_inside = omega (arith, vars_of_lem X from n (length T) h.olds i h.start h.end, ex₀, w.grown.size_t)

  pub local_inside : x < length L
  local_inside = omega (arith, var_inside, w.grown.size_t, h.locals)

  -- nothing is asked of this entry, or what is asked holds
  done_more : (c % 4 ≡ 0 → Outer L x → Alone T O x) → (s : ℕ) → from ≤ s → s < i + 1 → get_or C s 0 % 4 ≡ 0 → Outer L (get_or X s 0) → Alone T O (get_or X s 0)
  done_more a s l b e o = go (ℕ_discrete s i)
    where
      go : Dec (s ≡ i) → Alone T O (get_or X s 0)
      go (yes q) =
          let px : get_or X s 0 ≡ x = ap (λ (j : ℕ). get_or X j 0) q ∙ ex₀ in
          let pc : get_or C s 0 ≡ c = ap (λ (j : ℕ). get_or C j 0) q ∙ ec₀ in
          subst (Alone T O) (sym px) (a (ap (λ (z : ℕ). z % 4) (sym pc) ∙ e) (ap (λ (z : ℕ). get_or L z 0) (sym px) ∙ o))
      go (no q) = w.done s l (omega arith) e o

  pub passed : (c % 4 ≡ 0 → Outer L x → Alone T O x) → Owning L T X C from n O X' C' (i + 1) m
  passed a = record { grown = w.grown; up = w.up; vars = w.vars; fit_x = w.fit_x; fit_c = w.fit_c; cost = w.cost; within = w.within; pars = w.pars; kept = w.kept; unbound = w.unbound; local = w.local; owner = w.owner; done = done_more a }

  pub passed_closed : (c % 4 ≡ 0 → ⊥) → Owning L T X C from n O X' C' (i + 1) m
  passed_closed k = passed (λ e. absurd (k e))

  pub passed_local : (Outer L x → ⊥) → Owning L T X C from n O X' C' (i + 1) m
  passed_local k = passed (λ e o. absurd (k o))

  module _ (e0 : c % 4 ≡ 0) (out : Outer L x) (r d : ℕ) (f : Found O x r) (ed : d ≡ get_or O r 0) where
    er : rep T x ≡ r
    er = sym (rep_same T O h.base w.up w.pars x) ∙ sym f.is

    cand : Cand T X C from n x
    unfolding Cand
    cand = inl (i, h.start, h.end, ex₀, ap (λ (z : ℕ). z % 4) ec₀ ∙ e0)

    root_t : par T r ≡ r
    root_t = sym (w.pars r) ∙ f.root

    -- a root that is not owned has the cell that it had
    not_owned : (d % 4 ≡ 3 → ⊥) → get_or T r 0 ≡ d
    not_owned k = go (w.kept r)
      where
        go : (get_or O r 0 % 4 ≡ 3) ⊎ (get_or O r 0 ≡ get_or T r 0) → get_or T r 0 ≡ d
        go (inl e) = absurd (k (ap (λ (z : ℕ). z % 4) ed ∙ e))
        go (inr e) = sym e ∙ sym ed

    owned : d % 4 ≡ 3 → get_or O r 0 % 4 ≡ 3
    owned e = ap (λ (z : ℕ). z % 4) (sym ed) ∙ e

    -- it is unbound, if it is not bound now
    open_root : (d % 4 ≡ 2 → ⊥) → get_or T r 0 % 4 ≡ 0
    open_root k = go (four d)
      where
        go : (d % 4 ≡ 0) ⊎ ((d % 4 ≡ 1) ⊎ ((d % 4 ≡ 2) ⊎ (d % 4 ≡ 3))) → get_or T r 0 % 4 ≡ 0
        go (inl e) = ap (λ (z : ℕ). z % 4) (not_owned (λ q. omega arith)) ∙ e
        go (inr (inl e)) = absurd (root_cell O w.up r f.root (ap (λ (z : ℕ). z % 4) (sym ed) ∙ e))
        go (inr (inr (inl e))) = absurd (k e)
        go (inr (inr (inr e))) = w.unbound r (owned e)

    pub loud_bound : d % 4 ≡ 2 → Loud L T X C from n
    loud_bound e = record { var = x; cand = cand; outer = out; why = inl (ap (λ (z : ℕ). get_or T z 0 % 4) er ∙ ap (λ (z : ℕ). z % 4) (not_owned (λ q. omega arith)) ∙ e) }

    pub passed_self : (d % 4 ≡ 2 → ⊥) → r ≡ x → Owning L T X C from n O X' C' (i + 1) m
    unfolding Alone
    passed_self k e = passed (λ z o. (ap (λ (q : ℕ). get_or T q 0 % 4) er ∙ open_root k, inl (er ∙ e)))

    pub loud_outer : (d % 4 ≡ 2 → ⊥) → (r ≡ x → ⊥) → Outer L r → Loud L T X C from n
    unfolding Cand
    loud_outer k ne o = record { var = x; cand = cand; outer = out; why = inr (r, inr (open_root k), o, (λ e. ne (sym e)), er ∙ sym (rep_root T r root_t)) }

    pub passed_owned : (d % 4 ≡ 2 → ⊥) → d % 4 ≡ 3 → d / 256 ≡ x → Owning L T X C from n O X' C' (i + 1) m
    unfolding Alone
    passed_owned k e q = passed (λ z o. (ap (λ (y : ℕ). get_or T y 0 % 4) er ∙ open_root k, inr (ap (λ (y : ℕ). get_or O y 0 % 4) er ∙ owned e, ap (λ (y : ℕ). get_or O y 0 / 256) er ∙ ap (λ (y : ℕ). y / 256) (sym ed) ∙ q)))

    pub loud_owned : d % 4 ≡ 3 → (d / 256 ≡ x → ⊥) → Loud L T X C from n
    loud_owned e ne =
        let v : get_or O r 0 / 256 ≡ d / 256 = ap (λ (y : ℕ). y / 256) (sym ed) in
        let a = w.owner r (owned e) in
        record { var = x; cand = cand; outer = out; why = inr (d / 256, subst (Cand T X C from n) v a.0, subst (Outer L) v a.1, (λ q. ne (sym q)), er ∙ sym (ap (rep T) (sym v) ∙ a.2)) }

    -- a local root that has no owner gets one
    module _ (k2 : d % 4 ≡ 2 → ⊥) (k3 : d % 4 ≡ 3 → ⊥) (loc : Outer L r → ⊥) (O' X'' C'' : List ℕ) (d' : ℕ) (can : CanSave O X' C' m r d') (s : Saved O X' C' m r d' O' X'' C'') (t : d' % 4 ≡ 3) (v : d' / 256 ≡ x) (q : d' / 4 % 64 ≡ d / 4 % 64) where
      nl : get_or O r 0 % 4 ≡ 1 → ⊥
      nl = root_cell O w.up r f.root

      at_r : get_or O' r 0 ≡ d'
      at_r = stored_same 0 s.cells can.inside

      d0 : get_or O r 0 % 4 ≡ 0
      d0 = go (four d)
        where
          go : (d % 4 ≡ 0) ⊎ ((d % 4 ≡ 1) ⊎ ((d % 4 ≡ 2) ⊎ (d % 4 ≡ 3))) → get_or O r 0 % 4 ≡ 0
          go (inl e) = ap (λ (z : ℕ). z % 4) (sym ed) ∙ e
          go (inr (inl e)) = absurd (nl (ap (λ (z : ℕ). z % 4) (sym ed) ∙ e))
          go (inr (inr (inl e))) = absurd (k2 e)
          go (inr (inr (inr e))) = absurd (k3 e)

      -- who was alone still is: no other owner changed
      alone_kept : (y : ℕ) → Alone T O y → Alone T O' y
      unfolding Alone
      alone_kept y a = (a.0, go a.1)
        where
          go : (rep T y ≡ y) ⊎ ((get_or O (rep T y) 0 % 4 ≡ 3) × (get_or O (rep T y) 0 / 256 ≡ y)) → (rep T y ≡ y) ⊎ ((get_or O' (rep T y) 0 % 4 ≡ 3) × (get_or O' (rep T y) 0 / 256 ≡ y))
          go (inl e) = inl e
          go (inr b) =
              let o : get_or O' (rep T y) 0 ≡ get_or O (rep T y) 0 = stored_other (rep T y) 0 s.cells (λ z. omega (arith, ap (λ (u : ℕ). get_or O u 0) z, d0, b.0)) in
              inr (ap (λ (z : ℕ). z % 4) o ∙ b.0, ap (λ (z : ℕ). z / 256) o ∙ b.1)

      alone_new : Alone T O' x
      unfolding Alone
      alone_new = (ap (λ (y : ℕ). get_or T y 0 % 4) er ∙ open_root k2, inr (ap (λ (y : ℕ). get_or O' y 0 % 4) er ∙ ap (λ (z : ℕ). z % 4) at_r ∙ t, ap (λ (y : ℕ). get_or O' y 0 / 256) er ∙ ap (λ (z : ℕ). z / 256) at_r ∙ v))

      pub made_owner : Owning L T X C from n O' X'' C'' (i + 1) (m + 1)
      made_owner = record {
        grown = grown_then w.grown (grown_saved can (grows_owned (get_or O r 0) d' t) s);
        up = up_root r d' w.up s.cells can.inside (λ e. omega arith) nl (omega arith);
        vars = vars_split X' C' X'' C'' n m (m + 1) (λ j l. stored_other j 0 s.vars (λ e. omega arith)) (λ j l. stored_other j 0 s.olds (λ e. omega arith)) (length T) w.vars (subst (OldVars X'' m (m + 1)) w.grown.size_t (one_vars can s));
        fit_x = omega (arith, can.room_x, w.grown.size_x);
        fit_c = omega (arith, can.room_c, w.grown.size_c);
        cost = omega (arith, w.cost, weights_stored s.cells can.inside, weight_open (get_or O r 0) d0, weight_taken d' (λ e. omega arith) (λ e. omega arith));
        within = λ vs u v. within_saved can s vs (subst (λ (z : ℕ). In z vs) er (rep_in vs T v x (subst (λ (z : ℕ). In z vs) ex₀ (in_of X 0 n vs u i (omega arith) h.end)))) (λ e. absurd (omega arith)) (w.within vs u v);
        pars = cell_cases (λ (y b : ℕ). next b y ≡ par T y) s.cells can.inside (next_root d' r (λ e. omega arith) ∙ sym root_t) (λ y n. w.pars y);
        kept = cell_cases (λ (y b : ℕ). (b % 4 ≡ 3) ⊎ (b ≡ get_or T y 0)) s.cells can.inside (inl t) (λ y n. w.kept y);
        unbound = cell_cases (λ (y b : ℕ). b % 4 ≡ 3 → get_or T y 0 % 4 ≡ 0) s.cells can.inside (λ e. open_root k2) (λ y n e. w.unbound y e);
        local = cell_cases (λ (y b : ℕ). b % 4 ≡ 3 → Outer L y → ⊥) s.cells can.inside (λ e. loc) (λ y n e. w.local y e);
        owner = cell_cases (λ (y b : ℕ). b % 4 ≡ 3 → Cand T X C from n (b / 256) × Outer L (b / 256) × (rep T (b / 256) ≡ y)) s.cells can.inside (λ e. (subst (Cand T X C from n) (sym v) cand, subst (Outer L) (sym v) out, ap (rep T) v ∙ er)) (λ y n e. w.owner y e);
        done = new_done;
      }
        where
          new_done : (u : ℕ) → from ≤ u → u < i + 1 → get_or C u 0 % 4 ≡ 0 → Outer L (get_or X u 0) → Alone T O' (get_or X u 0)
          new_done u l b e o = go (ℕ_discrete u i)
            where
              go : Dec (u ≡ i) → Alone T O' (get_or X u 0)
              go (yes z) = subst (Alone T O') (sym (ap (λ (j : ℕ). get_or X j 0) z ∙ ex₀)) alone_new
              go (no z) = alone_kept (get_or X u 0) (w.done u l (omega arith) e o)

pub can_look : (L T X C : List ℕ) (from n : ℕ) (O X' C' : List ℕ) (i m : ℕ) → CanOwn L T X C from n O X' C' i m → CanLookOne L O X' C' i m
can_look L T X C from n O X' C' i m h = record { up = h.owning.up; var = var_inside L T X C from n O X' C' i m (get_or X' i 0) (get_or C' i 0) h refl refl; locals = omega (arith, h.locals, h.owning.grown.size_t); entry = omega (arith, h.end, h.fits); fit_x = omega (arith, h.owning.fit_x, h.owning.grown.size_x); fit_c = omega (arith, h.owning.fit_c, h.owning.grown.size_c) }

pub can_own : (L T X C : List ℕ) (from n : ℕ) (O X' C' : List ℕ) (i m : ℕ) → CanLookAll L T X C from n → Owning L T X C from n O X' C' i m → from ≤ i → i < n → CanOwn L T X C from n O X' C' i m
can_own L T X C from n O X' C' i m h w a b = record { owning = w; base = h.up; start = a; end = b; fits = w.grown.le; olds = h.olds; locals = h.locals }

-- the loop over the entries
module _ (L T X C : List ℕ) (from n : ℕ) (O X' C' : List ℕ) (i m : ℕ) (o : Result ℕ Unowned) (k : Looking L T X C from n O X' C' i o) where
  pub went_apart : o ≡ Ok m → Owning L T X C from n O X' C' i m
  went_apart e = subst (Looking L T X C from n O X' C' i) e k

  pub went_less : (j : ℕ) (u : Unowned) → o ≡ Err u → Looking L T X C from n O X' C' j (Err u)
  went_less j (Joint m) e = subst (Looking L T X C from n O X' C' i) e k
  went_less j (NoPlace m) e = subst (Looking L T X C from n O X' C' i) e k
