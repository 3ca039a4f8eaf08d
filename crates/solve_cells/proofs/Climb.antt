-- Representatives are where links end; linking one representative below another joins their classes. Assumes nothing.
use mathlib.Core.Path.{◌≡◌, refl, ap, sym, ◌∙◌, subst}
use mathlib.Core.Logic.{ite, if_pos, if_neg}
use mathlib.Core.List.{List}
use Prim.Native.Nat.{ℕ, zero, suc, ◌+◌, ◌-◌, ◌*◌, ◌/◌, ◌%◌, ◌≤◌, ◌<◌}
use native.Mathlib.Omega.{arith}
use native.Mathlib.Decide.{ℕ_discrete, dec_lt}
use lib.ListN.{length, get_or}
use Rattle.constraint.specs.Solve.{to}
use Rattle.solve_cells.specs.Cells.{next, par, key, fuel, room, climb, rep, Up, Found}

pub next_link : (c x : ℕ) → c % 4 ≡ 1 → next c x ≡ c / 256
unfolding next
next_link c x e = if_pos (ℕ_discrete (c % 4) 1) e (c / 256) x

pub next_root : (c x : ℕ) → (c % 4 ≡ 1 → ⊥) → next c x ≡ x
unfolding next
next_root c x n = if_neg (ℕ_discrete (c % 4) 1) n (c / 256) x

pub stay : (T : List ℕ) (n x : ℕ) → par T x ≡ x → climb n T x ≡ x
unfolding climb
stay T zero x e = refl
stay T (suc n) x e = ap (climb n T) e ∙ stay T n x e

pub room_fuel : (T : List ℕ) (x : ℕ) → room T x ≤ fuel
unfolding room
room_fuel T x = omega arith

-- a variable that is no representative has a link
pub linked : (T : List ℕ) (x : ℕ) → (par T x ≡ x → ⊥) → get_or T x 0 % 4 ≡ 1
linked T x n = go (ℕ_discrete (get_or T x 0 % 4) 1)
  where
    go : Dec (get_or T x 0 % 4 ≡ 1) → get_or T x 0 % 4 ≡ 1
    go (yes e) = e
    go (no k) = absurd (n (next_root (get_or T x 0) x k))

pub falls : (T : List ℕ) → Up T → (x : ℕ) → (par T x ≡ x → ⊥) → room T (par T x) < room T x
falls T U x n = let l = linked T x n in subst (λ (y : ℕ). room T y < room T x) (sym (next_link (get_or T x 0) x l)) (U.fall x l)

-- enough fuel is enough
pub enough : (T : List ℕ) (U : Up T) (n m x : ℕ) → room T x ≤ n → room T x ≤ m → climb n T x ≡ climb m T x
unfolding climb
enough T U zero m x a b = sym (stay T m x (go (ℕ_discrete (par T x) x)))
  where
    go : Dec (par T x ≡ x) → par T x ≡ x
    go (yes e) = e
    go (no k) = absurd (omega (arith, falls T U x k))
enough T U (suc n) zero x a b = stay T (suc n) x (go (ℕ_discrete (par T x) x))
  where
    go : Dec (par T x ≡ x) → par T x ≡ x
    go (yes e) = e
    go (no k) = absurd (omega (arith, falls T U x k))
enough T U (suc n) (suc m) x a b = go (ℕ_discrete (par T x) x) (λ l. enough T U n m (par T x) (omega arith) (omega arith))
  where
    go : Dec (par T x ≡ x) → (room T (par T x) < room T x → climb n T (par T x) ≡ climb m T (par T x)) → climb n T (par T x) ≡ climb m T (par T x)
    go (yes e) ih = let s : par T (par T x) ≡ par T x = ap (par T) e in stay T n (par T x) s ∙ sym (stay T m (par T x) s)
    go (no k) ih = ih (falls T U x k)

pub rep_par : (T : List ℕ) (U : Up T) (x : ℕ) → rep T (par T x) ≡ rep T x
unfolding climb
rep_par T U x = enough T U (suc fuel) fuel x (omega (arith, room_fuel T x)) (room_fuel T x)

pub rep_root : (T : List ℕ) (x : ℕ) → par T x ≡ x → rep T x ≡ x
rep_root T x e = stay T fuel x e

-- induction along the links
pub climbing : (T : List ℕ) (U : Up T) (P : ℕ → Type 0) → ((x : ℕ) → par T x ≡ x → P x) → ((x : ℕ) → P (par T x) → P x) → (x : ℕ) → P x
climbing T U P base step x = go (suc (room T x)) x (omega arith)
  where
    go : (n x : ℕ) → room T x < n → P x
    go zero x l = absurd (omega arith)
    go (suc n) x l = by (ℕ_discrete (par T x) x) (λ y k. go n y k)
      where
        by : Dec (par T x ≡ x) → ((y : ℕ) → room T y < n → P y) → P x
        by (yes e) ih = base x e
        by (no k) ih = step x (ih (par T x) (omega (arith, falls T U x k)))

-- what is constant along the links and names the roots is the representative
pub rep_unique : (T : List ℕ) (U : Up T) (f : ℕ → ℕ) → ((x : ℕ) → par T x ≡ x → f x ≡ x) → ((x : ℕ) → f x ≡ f (par T x)) → (x : ℕ) → f x ≡ rep T x
rep_unique T U f root step = climbing T U (λ x. f x ≡ rep T x) (λ x e. root x e ∙ sym (rep_root T x e)) (λ x ih. step x ∙ ih ∙ rep_par T U x)

pub root_rep : (T : List ℕ) (U : Up T) (x : ℕ) → par T (rep T x) ≡ rep T x
root_rep T U = climbing T U (λ x. par T (rep T x) ≡ rep T x) (λ x e. ap (par T) (rep_root T x e) ∙ e ∙ sym (rep_root T x e)) (λ x ih. subst (λ r. par T r ≡ r) (rep_par T U x) ih)

pub rep_idem : (T : List ℕ) (U : Up T) (x : ℕ) → rep T (rep T x) ≡ rep T x
rep_idem T U x = rep_root T (rep T x) (root_rep T U x)

-- tables with the same links have the same representatives
pub rep_same : (T T' : List ℕ) → Up T → Up T' → ((x : ℕ) → par T' x ≡ par T x) → (x : ℕ) → rep T' x ≡ rep T x
rep_same T T' U U' h x = sym (rep_unique T' U' (rep T) (λ y e. rep_root T y (sym (h y) ∙ e)) (λ y. sym (ap (rep T) (h y) ∙ rep_par T U y)) x)

-- linking the root a below the root b
pub rep_link : (T T' : List ℕ) → Up T → Up T' → (a b : ℕ) → par T a ≡ a → par T b ≡ b → (b ≡ a → ⊥) → par T' a ≡ b → ((x : ℕ) → (x ≡ a → ⊥) → par T' x ≡ par T x) → (x : ℕ) → to (rep T) a b x ≡ rep T' x
rep_link T T' U U' a b ra rb ne at_a at_other = rep_unique T' U' (to (rep T) a b) root step
  where
    to_b : to (rep T) a b b ≡ b
    to_b = if_neg (ℕ_discrete (rep T b) a) (λ e. ne (sym (rep_root T b rb) ∙ e)) b (rep T b) ∙ rep_root T b rb

    to_a : to (rep T) a b a ≡ b
    to_a = if_pos (ℕ_discrete (rep T a) a) (rep_root T a ra) b (rep T a)

    root : (x : ℕ) → par T' x ≡ x → to (rep T) a b x ≡ x
    root x e = go (ℕ_discrete x a)
      where
        go : Dec (x ≡ a) → to (rep T) a b x ≡ x
        go (yes q) = absurd (ne (sym at_a ∙ ap (par T') (sym q) ∙ e ∙ q))
        go (no n) = let s : rep T x ≡ x = rep_root T x (sym (at_other x n) ∙ e) in if_neg (ℕ_discrete (rep T x) a) (λ k. n (sym s ∙ k)) b (rep T x) ∙ s

    step : (x : ℕ) → to (rep T) a b x ≡ to (rep T) a b (par T' x)
    step x = go (ℕ_discrete x a)
      where
        go : Dec (x ≡ a) → to (rep T) a b x ≡ to (rep T) a b (par T' x)
        go (yes q) = ap (to (rep T) a b) q ∙ to_a ∙ sym to_b ∙ ap (to (rep T) a b) (sym at_a) ∙ ap (λ y. to (rep T) a b (par T' y)) (sym q)
        go (no n) = ap (λ r. ite (ℕ_discrete r a) b r) (sym (rep_par T U x)) ∙ ap (to (rep T) a b) (sym (at_other x n))

-- a loop that climbs
pub record Climbing (T : List ℕ) (x y : ℕ) : Type 0 where
  pub inside : y < length T
  pub to : rep T y ≡ rep T x

pub climb_more : (T : List ℕ) → Up T → (x y c : ℕ) → Climbing T x y → c ≡ get_or T y 0 → c % 4 ≡ 1 → Climbing T x (c / 256)
climb_more T U x y c G e k =
    let q : get_or T y 0 % 4 ≡ 1 = ap (λ (z : ℕ). z % 4) (sym e) ∙ k in
    let v : get_or T y 0 / 256 ≡ c / 256 = ap (λ (z : ℕ). z / 256) (sym e) in
    let p : par T y ≡ c / 256 = next_link (get_or T y 0) y q ∙ v in
    record { inside = subst (λ (z : ℕ). z < length T) v (U.inside y q); to = ap (rep T) (sym p) ∙ rep_par T U y ∙ G.to }

pub climb_less : (T : List ℕ) → Up T → (y c : ℕ) → c ≡ get_or T y 0 → c % 4 ≡ 1 → room T (c / 256) < room T y
climb_less T U y c e k =
    subst (λ (z : ℕ). room T z < room T y) (ap (λ (z : ℕ). z / 256) (sym e)) (U.fall y (ap (λ (z : ℕ). z % 4) (sym e) ∙ k))

pub climb_done : (T : List ℕ) (x y c : ℕ) → Climbing T x y → c ≡ get_or T y 0 → (c % 4 ≡ 1 → ⊥) → Found T x y
climb_done T x y c G e n =
    let p : par T y ≡ y = ap (λ (z : ℕ). next z y) (sym e) ∙ next_root c y n in
    record { is = sym (rep_root T y p) ∙ G.to; root = p; inside = G.inside }
