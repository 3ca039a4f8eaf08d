-- Joining classes keeps the solutions. Assumes nothing.
use mathlib.Core.Path.{◌≡◌, refl, ap, sym, ◌∙◌, subst}
use mathlib.Core.Logic.{◌↔◌, ◌⊎◌, inl, inr}
use mathlib.Core.List.{List}
use Prim.Native.Nat.{ℕ, zero, suc, ◌+◌, ◌-◌, ◌*◌, ◌/◌, ◌%◌, ◌≤◌, ◌<◌}
use native.Mathlib.Omega.{arith}
use native.Mathlib.Decide.{ℕ_discrete}
use lib.ListN.{length, get_or}
use Rattle.mem_numbers.specs.Stored.{Stored, stored_same, stored_other}
use Rattle.constraint.specs.Constraint.{Asg, In}
use Rattle.constraint.specs.Solve.{Bnd, free}
use Rattle.constraint.proofs.FormSteps.{Holds}
use Rattle.solve_cells.specs.Cells.{next, par, key, fuel, room, climb, rep, Up, Found}
use Rattle.solve_cells.specs.Trail.{Grown, Saved, CanSave, grown_none, grown_then, grown_saved, grows_link, grows_same}
use Rattle.solve_classes.specs.Weights.{weights, weight_link, weight_root, weight_kind, weights_stored}
use Rattle.solve_classes.specs.Means.{bound, Fits, Pend, Apps, OldApps, OldVars, Within, OldIn, CanJoin, Joined, CanHang}
use Rattle.solve_cells.proofs.Climb.{next_root, next_link, rep_root}
use Rattle.solve_classes.proofs.Tables.{cell_cases, up_link, up_root, fits_rep, fits_holds, fits_same, fits_link, bound_yes, bound_no}

-- one more entry of the trail is one more binding to ask
pub pend_more : (tab : ℕ → Bnd) (X C X' C' : List ℕ) (i n x c : ℕ) (ρ : Asg) → i ≤ n → ((t : ℕ) → t < n → get_or X' t 0 ≡ get_or X t 0) → ((t : ℕ) → t < n → get_or C' t 0 ≡ get_or C t 0) → get_or X' n 0 ≡ x → get_or C' n 0 ≡ c
    → (Pend tab X C i n ρ × Holds ρ x (bound tab c)) ↔ Pend tab X' C' i (n + 1) ρ
unfolding Pend
pend_more tab X C X' C' i n x c ρ l hx hc ex ec = (λ q t a b. go q t a b (ℕ_discrete t n), λ q. ((λ t a b. subst (λ (z : ℕ). Holds ρ z (bound tab (get_or C t 0))) (hx t b) (subst (λ (z : ℕ). Holds ρ (get_or X' t 0) (bound tab z)) (hc t b) (q t a (omega arith)))), subst (λ (z : ℕ). Holds ρ z (bound tab c)) ex (subst (λ (z : ℕ). Holds ρ (get_or X' n 0) (bound tab z)) ec (q n l (omega arith)))))
  where
    go : Pend tab X C i n ρ × Holds ρ x (bound tab c) → (t : ℕ) → i ≤ t → t < n + 1 → Dec (t ≡ n) → Holds ρ (get_or X' t 0) (bound tab (get_or C' t 0))
    go q t a b (yes e) = subst (λ (s : ℕ). Holds ρ (get_or X' s 0) (bound tab (get_or C' s 0))) (sym e) (subst (λ (z : ℕ). Holds ρ z (bound tab (get_or C' n 0))) (sym ex) (subst (λ (z : ℕ). Holds ρ x (bound tab z)) (sym ec) q.1))
    go q t a b (no k) = let h : t < n = omega arith in subst (λ (z : ℕ). Holds ρ z (bound tab (get_or C' t 0))) (sym (hx t h)) (subst (λ (z : ℕ). Holds ρ (get_or X t 0) (bound tab z)) (sym (hc t h)) (q.0 t a h))

pub pend_none : (tab : ℕ → Bnd) (X C : List ℕ) (n : ℕ) (ρ : Asg) → Pend tab X C n n ρ
unfolding Pend
pend_none tab X C n ρ t a b = absurd (omega arith)

old_apps_more : (C C' : List ℕ) (i n c m : ℕ) → ((t : ℕ) → t < n → get_or C' t 0 ≡ get_or C t 0) → get_or C' n 0 ≡ c → (c % 4 ≡ 2 → c / 256 < m) → OldApps C i n m → OldApps C' i (n + 1) m
unfolding OldApps
old_apps_more C C' i n c m hc ec k o t a b = go (ℕ_discrete t n)
  where
    go : Dec (t ≡ n) → get_or C' t 0 % 4 ≡ 2 → get_or C' t 0 / 256 < m
    go (yes e) = subst (λ (z : ℕ). z % 4 ≡ 2 → z / 256 < m) (sym (ap (λ (s : ℕ). get_or C' s 0) e ∙ ec)) k
    go (no q) = let h : t < n = omega arith in subst (λ (z : ℕ). z % 4 ≡ 2 → z / 256 < m) (sym (hc t h)) (o t a h)

old_apps_none : (C : List ℕ) (n m : ℕ) → OldApps C n n m
unfolding OldApps
old_apps_none C n m t a b = absurd (omega arith)

old_vars_more : (X X' : List ℕ) (i n x s : ℕ) → ((t : ℕ) → t < n → get_or X' t 0 ≡ get_or X t 0) → get_or X' n 0 ≡ x → x < s → OldVars X i n s → OldVars X' i (n + 1) s
unfolding OldVars
old_vars_more X X' i n x s hx ex k o t a b = go (ℕ_discrete t n)
  where
    go : Dec (t ≡ n) → get_or X' t 0 < s
    go (yes e) = subst (λ (z : ℕ). z < s) (sym (ap (λ (q : ℕ). get_or X' q 0) e ∙ ex)) k
    go (no q) = let h : t < n = omega arith in subst (λ (z : ℕ). z < s) (sym (hx t h)) (o t a h)

old_vars_none : (X : List ℕ) (n s : ℕ) → OldVars X n n s
unfolding OldVars
old_vars_none X n s t a b = absurd (omega arith)

old_in_more : (X X' : List ℕ) (i n x : ℕ) (vs : List ℕ) → ((t : ℕ) → t < n → get_or X' t 0 ≡ get_or X t 0) → get_or X' n 0 ≡ x → In x vs → OldIn X i n vs → OldIn X' i (n + 1) vs
unfolding OldIn
old_in_more X X' i n x vs hx ex k o t a b = go (ℕ_discrete t n)
  where
    go : Dec (t ≡ n) → In (get_or X' t 0) vs
    go (yes e) = subst (λ (z : ℕ). In z vs) (sym (ap (λ (q : ℕ). get_or X' q 0) e ∙ ex)) k
    go (no q) = let h : t < n = omega arith in subst (λ (z : ℕ). In z vs) (sym (hx t h)) (o t a h)

old_in_none : (X : List ℕ) (n : ℕ) (vs : List ℕ) → OldIn X n n vs
unfolding OldIn
old_in_none X n vs t a b = absurd (omega arith)

-- a variable of vs has its representative there
pub rep_in : (vs T : List ℕ) → Within vs T → (x : ℕ) → In x vs → In (rep T x) vs
unfolding climb
rep_in vs T w x = climbs fuel x
  where
    up : (x : ℕ) → In x vs → Dec (get_or T x 0 % 4 ≡ 1) → In (par T x) vs
    up x i (yes e) = subst (λ (z : ℕ). In z vs) (sym (next_link (get_or T x 0) x e)) (w.links x e)
    up x i (no n) = subst (λ (z : ℕ). In z vs) (sym (next_root (get_or T x 0) x n)) i

    climbs : (n x : ℕ) → In x vs → In (climb n T x) vs
    climbs zero x i = i
    climbs (suc n) x i = climbs n (par T x) (up x i (ℕ_discrete (get_or T x 0 % 4) 1))

pub apps_at_lem : (T : List ℕ) (m : ℕ) → Apps T m → (x : ℕ) → get_or T x 0 % 4 ≡ 2 → get_or T x 0 / 256 < m
unfolding Apps
apps_at_lem T m A x = A x

-- the entry that a change makes
module _ {T X C T' X' C' : List ℕ} {n x c : ℕ} (h : CanSave T X C n x c) (s : Saved T X C n x c T' X' C') where
  pub entry_var : get_or X' n 0 ≡ x
  entry_var = stored_same 0 s.vars h.room_x

  pub entry_old : get_or C' n 0 ≡ get_or T x 0
  entry_old = stored_same 0 s.olds h.room_c

  pub before_var : (t : ℕ) → t < n → get_or X' t 0 ≡ get_or X t 0
  before_var t l = stored_other t 0 s.vars (λ e. omega arith)

  pub before_old : (t : ℕ) → t < n → get_or C' t 0 ≡ get_or C t 0
  before_old t l = stored_other t 0 s.olds (λ e. omega arith)

  pub one_pend : (tab : ℕ → Bnd) (ρ : Asg) → Holds ρ x (bound tab (get_or T x 0)) ↔ Pend tab X' C' n (n + 1) ρ
  one_pend tab ρ =
      let p = pend_more tab X C X' C' n n x (get_or T x 0) ρ (omega arith) before_var before_old entry_var entry_old in
      (λ q. p.0 (pend_none tab X C n ρ, q), λ q. (p.1 q).1)

  pub one_apps : (m : ℕ) → Apps T m → OldApps C' n (n + 1) m
  unfolding Apps
  one_apps m a = old_apps_more C C' n n (get_or T x 0) m before_old entry_old (a x) (old_apps_none C n m)

  pub one_vars : OldVars X' n (n + 1) (length T)
  one_vars = old_vars_more X X' n n x (length T) before_var entry_var h.inside (old_vars_none X n (length T))

  pub one_in : (vs : List ℕ) → In x vs → OldIn X' n (n + 1) vs
  one_in vs k = old_in_more X X' n n x vs before_var entry_var k (old_in_none X n vs)

  -- a variable of vs was changed
  pub within_saved : (vs : List ℕ) → In x vs → (c % 4 ≡ 1 → In (c / 256) vs) → Within vs T → Within vs T'
  within_saved vs i k w = record { cells = cell_cases (λ (y d : ℕ). (d % 4 ≡ 0) ⊎ In y vs) s.cells h.inside (inr i) (λ y q. w.cells y); links = cell_cases (λ (y d : ℕ). d % 4 ≡ 1 → In (d / 256) vs) s.cells h.inside k (λ y q. w.links y) }

  -- the applications of the new table
  pub apps_saved : (m : ℕ) → (c % 4 ≡ 2 → c / 256 < m) → Apps T m → Apps T' m
  unfolding Apps
  apps_saved m k a = cell_cases (λ (y d : ℕ). d % 4 ≡ 2 → d / 256 < m) s.cells h.inside k (λ y q. a y)

-- the cell of a link
pub link_cell : ℕ → ℕ → ℕ
link_cell c b = 1 + c / 4 % 64 * 4 + b * 256

-- a representative's cell is no link
pub root_cell : (T : List ℕ) → Up T → (r : ℕ) → par T r ≡ r → get_or T r 0 % 4 ≡ 1 → ⊥
root_cell T U r e k = omega (arith, subst (λ (y : ℕ). room T y < room T r) (sym (next_link (get_or T r 0) r k) ∙ e) (U.fall r k))

-- a link pays for itself and for one entry more
pub link_paid : {T T' : List ℕ} (a c : ℕ) → Up T → Stored T a c T' → a < length T → par T a ≡ a → c % 4 ≡ 1 → weights T + 2 ≤ weights T'
link_paid {T} {T'} a c U s l r t = omega (arith, weights_stored s l, weight_link c t, weight_root (get_or T a 0) (root_cell T U a r))

-- nothing is done for one class
pub joined_same : (T X C : List ℕ) (n x y r : ℕ) → CanJoin T X C n x y → Found T x r → Found T y r → Joined T X C n x y T X C n
joined_same T X C n x y r j fx fy = record {
  grown = grown_none T X C n;
  short = omega arith;
  up = j.up;
  means = λ tab ρ. (λ q. (q.0, pend_none tab X C n ρ), λ q. (q.0, fits_rep tab T j.up ρ q.0 x ∙ ap ρ (sym fx.is ∙ fy.is) ∙ sym (fits_rep tab T j.up ρ q.0 y)));
  apps = λ m a. (a, old_apps_none C n m);
  vars = old_vars_none X n (length T);
  plain = λ x e. e;
  cost = omega arith;
  within = λ vs i k w. (w, old_in_none X n vs);
}

-- the representatives were joined, so the variables are
pub joined_reps : (T X C : List ℕ) (n x y a b : ℕ) (T' X' C' : List ℕ) (n' : ℕ) → CanJoin T X C n x y → Found T x a → Found T y b → Joined T X C n a b T' X' C' n' → Joined T X C n x y T' X' C' n'
joined_reps T X C n x y a b T' X' C' n' j fx fy k = record {
  grown = k.grown;
  short = k.short;
  up = k.up;
  means = λ tab ρ. (λ q. (k.means tab ρ).0 (q.0, sym (tox tab ρ q.0) ∙ q.1 ∙ toy tab ρ q.0), λ q. let w = (k.means tab ρ).1 q in (w.0, tox tab ρ w.0 ∙ w.1 ∙ sym (toy tab ρ w.0)));
  apps = k.apps;
  vars = k.vars;
  plain = k.plain;
  cost = k.cost;
  within = λ vs p q w. k.within vs (subst (λ (z : ℕ). In z vs) (sym fx.is) (rep_in vs T w x p)) (subst (λ (z : ℕ). In z vs) (sym fy.is) (rep_in vs T w y q)) w;
}
  where
    tox : (tab : ℕ → Bnd) (ρ : Asg) → Fits tab T ρ → ρ x ≡ ρ a
    tox tab ρ f = fits_rep tab T j.up ρ f x ∙ ap ρ (sym fx.is)

    toy : (tab : ℕ → Bnd) (ρ : Asg) → Fits tab T ρ → ρ y ≡ ρ b
    toy tab ρ f = fits_rep tab T j.up ρ f y ∙ ap ρ (sym fy.is)

pub joined_sym : {T X C T' X' C' : List ℕ} {n x y n' : ℕ} → Joined T X C n x y T' X' C' n' → Joined T X C n y x T' X' C' n'
joined_sym k = record { grown = k.grown; short = k.short; up = k.up; means = λ tab ρ. (λ q. (k.means tab ρ).0 (q.0, sym q.1), λ q. let w = (k.means tab ρ).1 q in (w.0, sym w.1)); apps = k.apps; vars = k.vars; plain = k.plain; cost = k.cost; within = λ vs p q w. k.within vs q p w }

pub differ : (T : List ℕ) (a b : ℕ) → key (get_or T a 0) a < key (get_or T b 0) b → b ≡ a → ⊥
differ T a b h e = omega (arith, ap (λ (z : ℕ). key (get_or T z 0) z) e)

-- the root a was linked below the root b
pub joined_link : (T X C T' X' C' : List ℕ) (n a b c : ℕ) → CanHang T X C n a b → CanSave T X C n a c → Saved T X C n a c T' X' C' → c % 4 ≡ 1 → c / 256 ≡ b → c / 4 % 64 ≡ get_or T a 0 / 4 % 64 → Joined T X C n a b T' X' C' (n + 1)
joined_link T X C T' X' C' n a b c h k s t v r = record {
  grown = grown_saved k (grows_link (get_or T a 0) c t) s;
  short = omega arith;
  up = U';
  means = λ tab ρ. (λ q. let w = (f tab ρ).0 q in (w.0, (one_pend k s tab ρ).0 w.1), λ q. (f tab ρ).1 (q.0, (one_pend k s tab ρ).1 q.1));
  apps = λ m A. (apps_saved k s m (λ e. absurd (omega arith)) A, one_apps k s m A);
  vars = one_vars k s;
  plain = cell_cases (λ (y d : ℕ). d % 4 ≡ 3 → get_or T y 0 % 4 ≡ 3) s.cells k.inside (λ e. absurd (omega arith)) (λ y q e. e);
  cost = omega (arith, link_paid a c h.up s.cells h.ina h.roota t);
  within = λ vs p q w. (within_saved k s vs p (λ e. subst (λ (z : ℕ). In z vs) (sym v) q) w, one_in k s vs p);
}
  where
    U' : Up T'
    U' = up_link a b c h.up s.cells h.ina h.inb (differ T a b h.less) t v r h.less

    f : (tab : ℕ → Bnd) (ρ : Asg) → (Fits tab T ρ × (ρ a ≡ ρ b)) ↔ (Fits tab T' ρ × Holds ρ a (bound tab (get_or T a 0)))
    f tab ρ = fits_link tab a b c h.up U' s.cells h.ina h.roota h.rootb (differ T a b h.less) t v ρ

-- then the rank of a root was raised
pub joined_raise : (T X C : List ℕ) (n a b : ℕ) (T₁ X₁ C₁ : List ℕ) (m r c : ℕ) (T₂ X₂ C₂ : List ℕ) → Joined T X C n a b T₁ X₁ C₁ m → r ≡ b → m ≤ n + 1 → m + 1 + weights T ≤ n + weights T₁ → CanSave T₁ X₁ C₁ m r c → Saved T₁ X₁ C₁ m r c T₂ X₂ C₂
    → (get_or T₁ r 0 % 4 ≡ 1 → ⊥) → c % 4 ≡ get_or T₁ r 0 % 4 → c / 256 ≡ get_or T₁ r 0 / 256 → get_or T₁ r 0 / 4 % 64 ≤ c / 4 % 64 → Joined T X C n a b T₂ X₂ C₂ (m + 1)
joined_raise T X C n a b T₁ X₁ C₁ m r c T₂ X₂ C₂ j er l p k s nl t v h = record {
  grown = grown_then j.grown (grown_saved k (grows_same (get_or T₁ r 0) c t) s);
  short = omega arith;
  up = U₂;
  means = λ tab ρ. (λ q. let w = (j.means tab ρ).0 q in (fits_same tab T₁ T₂ j.up U₂ pars (bounds tab) ρ w.0, (more tab ρ).0 (w.1, fits_holds tab T₁ ρ w.0 r root)), λ q. (j.means tab ρ).1 (fits_same tab T₂ T₁ U₂ j.up (λ x. sym (pars x)) (λ x. sym (bounds tab x)) ρ q.0, ((more tab ρ).1 q.1).0));
  apps = λ i A. let w = j.apps i A in (apps_saved k s i (subst (λ (z : ℕ). z ≡ 2 → c / 256 < i) (sym t) (subst (λ (z : ℕ). get_or T₁ r 0 % 4 ≡ 2 → z < i) (sym v) (at_r i w.0))) w.0, old_apps_more C₁ C₂ n m (get_or T₁ r 0) i (before_old k s) (entry_old k s) (at_r i w.0) w.1);
  vars = old_vars_more X₁ X₂ n m r (length T) (before_var k s) (entry_var k s) (omega (arith, k.inside, j.grown.size_t)) j.vars;
  plain = cell_cases (λ (y d : ℕ). d % 4 ≡ 3 → get_or T y 0 % 4 ≡ 3) s.cells k.inside (λ e. j.plain r (sym t ∙ e)) (λ y q e. j.plain y e);
  cost = omega (arith, p, weights_stored s.cells k.inside, weight_kind (get_or T₁ r 0) c t);
  within = λ vs i q w. let u = j.within vs i q w in let z : In r vs = subst (λ (y : ℕ). In y vs) (sym er) q in (within_saved k s vs z (λ e. absurd (nc e)) u.0, old_in_more X₁ X₂ n m r vs (before_var k s) (entry_var k s) z u.1);
}
  where
    nc : c % 4 ≡ 1 → ⊥
    nc e = nl (sym t ∙ e)

    U₂ : Up T₂
    U₂ = up_root r c j.up s.cells k.inside nc nl h

    root : par T₁ r ≡ r
    root = next_root (get_or T₁ r 0) r nl

    pars : (x : ℕ) → par T₂ x ≡ par T₁ x
    pars = cell_cases (λ (y d : ℕ). next d y ≡ par T₁ y) s.cells k.inside (next_root c r nc ∙ sym root) (λ y q. refl)

    bounds : (tab : ℕ → Bnd) (x : ℕ) → bound tab (get_or T₂ x 0) ≡ bound tab (get_or T₁ x 0)
    bounds tab = cell_cases (λ (y d : ℕ). bound tab d ≡ bound tab (get_or T₁ y 0)) s.cells k.inside (go (ℕ_discrete (c % 4) 2)) (λ y q. refl)
      where
        go : Dec (c % 4 ≡ 2) → bound tab c ≡ bound tab (get_or T₁ r 0)
        go (yes e) = bound_yes tab c e ∙ ap tab v ∙ sym (bound_yes tab (get_or T₁ r 0) (sym t ∙ e))
        go (no e) = bound_no tab c e ∙ sym (bound_no tab (get_or T₁ r 0) (λ q. e (t ∙ q)))

    more : (tab : ℕ → Bnd) (ρ : Asg) → (Pend tab X₁ C₁ n m ρ × Holds ρ r (bound tab (get_or T₁ r 0))) ↔ Pend tab X₂ C₂ n (m + 1) ρ
    more tab ρ = pend_more tab X₁ C₁ X₂ C₂ n m r (get_or T₁ r 0) ρ j.grown.le (before_var k s) (before_old k s) (entry_var k s) (entry_old k s)

    at_r : (i : ℕ) → Apps T₁ i → get_or T₁ r 0 % 4 ≡ 2 → get_or T₁ r 0 / 256 < i
    at_r i A = apps_at_lem T₁ i A r

-- the order of links
pub order_rank : (T : List ℕ) (a b p q : ℕ) → p ≡ get_or T a 0 → q ≡ get_or T b 0 → a < 65536 → p / 4 % 64 < q / 4 % 64 → key (get_or T a 0) a < key (get_or T b 0) b
unfolding key
order_rank T a b p q ep eq l h = omega arith

pub order_number : (T : List ℕ) (a b p q : ℕ) → p ≡ get_or T a 0 → q ≡ get_or T b 0 → p / 4 % 64 ≡ q / 4 % 64 → a < b → key (get_or T a 0) a < key (get_or T b 0) b
unfolding key
order_number T a b p q ep eq e h = omega arith

-- a linked root and one of a rank that is no lower: the rank is the same
pub same_rank : (T : List ℕ) (a b p q : ℕ) → p ≡ get_or T a 0 → q ≡ get_or T b 0 → key (get_or T a 0) a < key (get_or T b 0) b → b < 65536 → p / 4 % 64 ≤ q / 4 % 64
unfolding key
same_rank T a b p q ep eq h l = omega arith
