-- A cycle that was not there at a mark runs through a class that was touched since: so a search from those finds it. Assumes nothing.
use mathlib.Core.Path.{◌≡◌, refl, ap, sym, ◌∙◌, subst}
use Rattle.std.specs.Prelude.{Option, None, Some}
use mathlib.Core.Logic.{◌⊎◌, inl, inr, ite, if_pos, if_neg}
use mathlib.Core.List.{List}
use Prim.Native.Nat.{ℕ, zero, suc, ◌+◌, ◌-◌, ◌/◌, ◌%◌, ◌≤◌, ◌<◌}
use native.Mathlib.Omega.{arith}
use native.Mathlib.Decide.{ℕ_discrete, dec_lt}
use lib.ListN.{length, get_or}
use Rattle.constraint.specs.Constraint.{In}
use Rattle.mem_words.specs.declared.Word.{Word}
use Rattle.solve_cells.specs.Cells.{next, par, rep, Up, Found}
use Rattle.solve_cells.specs.Trail.{rewind, rewind_at}
use Rattle.solve_cells.proofs.Climb.{climbing, rep_root, rep_par, rep_idem}
use Rattle.solve_classes.specs.Means.{Apps}
use Rattle.solve_classes.proofs.Linking.{apps_at_lem}
use Rattle.solve_fields.specs.Read.{args_at}
use Rattle.solve_tells.specs.Tells.{State, Left}
use Rattle.solve_explores.specs.Search.{cell_of, Lower, Search, Cyclic, Acyclic, Marked, Exploring, Explored}
use Rattle.solve_explores.specs.Since.{Reached, Traced, Visited, Visiting, TestedSince}
use Rattle.solve_explores.proofs.Finding.{marked_same}

-- a class that the trail does not touch is the one that it was at the mark
module _ (T X C T₀ : List ℕ) (n₀ n : ℕ) (U : Up T) (U₀ : Up T₀) (le : n₀ ≤ n) (back : rewind (n - n₀) n₀ T X C ≡ T₀) where
  abbrev Untouched : ℕ → Type 0
  Untouched x = (s : ℕ) → n₀ ≤ s → s < n → rep T (get_or X s 0) ≡ rep T x → ⊥

  cell_kept : (x : ℕ) → Untouched x → get_or T₀ x 0 ≡ get_or T x 0
  cell_kept x h = go (rewind_at (n - n₀) n₀ T X C x)
    where
      go : (get_or (rewind (n - n₀) n₀ T X C) x 0 ≡ get_or T x 0) ⊎ ((t : ℕ) × (n₀ ≤ t) × (t < n₀ + (n - n₀)) × (get_or X t 0 ≡ x) × (get_or C t 0 ≡ get_or (rewind (n - n₀) n₀ T X C) x 0) × (get_or X t 0 < length T)) → get_or T₀ x 0 ≡ get_or T x 0
      go (inl e) = ap (λ (l : List ℕ). get_or l x 0) (sym back) ∙ e
      go (inr u) = absurd (h u.0 u.1 (omega (arith, u.2)) (ap (rep T) u.3))

  par_kept : (x : ℕ) → Untouched x → par T₀ x ≡ par T x
  par_kept x h = ap (λ (c : ℕ). next c x) (cell_kept x h)

  rep_kept : (x : ℕ) → Untouched x → rep T₀ x ≡ rep T x
  rep_kept = climbing T U (λ (x : ℕ). Untouched x → rep T₀ x ≡ rep T x)
      (λ x e h. rep_root T₀ x (par_kept x h ∙ e) ∙ sym (rep_root T x e))
      (λ x ih h. sym (rep_par T₀ U₀ x) ∙ ap (rep T₀) (par_kept x h) ∙ ih (λ s a b q. h s a b (q ∙ rep_par T U x)) ∙ rep_par T U x)

  pub class_kept : (x : ℕ) → Untouched x → cell_of T₀ x ≡ cell_of T x
  class_kept x h = ap (λ (r : ℕ). get_or T₀ r 0) (rep_kept x h) ∙ cell_kept (rep T x) (λ s a b q. h s a b (q ∙ rep_idem T U x))

-- the ranks: those of the search, and above them those of the mark
module _ (W : List Word) (P T X C M K D P₀ T₀ X₀ C₀ : List ℕ) (n a n₀ a₀ q : ℕ) (U : Up T) (apps : Apps T a) (S : Search W P T M K D a 0 q) (tr : Traced T X M n₀ n) (l : Left W P₀ T₀ X₀ C₀ n₀ a₀ P T X C n a) (st : State W P₀ T₀ X₀ C₀ n₀ a₀) (A : Acyclic W P₀ T₀) where
  -- an application that was not met is the one that its class had at the mark
  old_class : (x : ℕ) → cell_of T x % 4 ≡ 2 → get_or M (cell_of T x / 256) 0 ≡ 0 → cell_of T₀ x ≡ cell_of T x
  unfolding Traced Reached
  old_class x b w = class_kept T X C T₀ n₀ n U st.sound.up l.step.grown.le l.step.grown.back x
      (λ s h g e. let k : cell_of T (get_or X s 0) ≡ cell_of T x = ap (λ (r : ℕ). get_or T r 0) e in
      tr s h g (ap (λ (c : ℕ). c % 4) k ∙ b) (ap (λ (c : ℕ). get_or M (c / 256) 0) k ∙ w))

  rank_of : ℕ → ℕ → ℕ
  rank_of c r = ite (ℕ_discrete (c % 4) 2) (ite (ℕ_discrete (get_or M (c / 256) 0) 0) (q + r) (get_or M (c / 256) 0)) 0

  rank_open : (c r : ℕ) → (c % 4 ≡ 2 → ⊥) → rank_of c r ≡ 0
  unfolding rank_of
  rank_open c r h = if_neg (ℕ_discrete (c % 4) 2) h _ _

  rank_white : (c r : ℕ) → c % 4 ≡ 2 → get_or M (c / 256) 0 ≡ 0 → rank_of c r ≡ q + r
  unfolding rank_of
  rank_white c r b w = if_pos (ℕ_discrete (c % 4) 2) b _ _ ∙ if_pos (ℕ_discrete (get_or M (c / 256) 0) 0) w _ _

  rank_black : (c r : ℕ) → c % 4 ≡ 2 → (get_or M (c / 256) 0 ≡ 0 → ⊥) → rank_of c r ≡ get_or M (c / 256) 0
  unfolding rank_of
  rank_black c r b w = if_pos (ℕ_discrete (c % 4) 2) b _ _ ∙ if_neg (ℕ_discrete (get_or M (c / 256) 0) 0) w _ _

  -- a mark that is set is a rank, since the stack is empty
  ranked : (k : ℕ) → k < a → (get_or M k 0 ≡ 0 → ⊥) → 2 ≤ get_or M k 0
  ranked k h w = go (ℕ_discrete (get_or M k 0) 1)
    where
      go : Dec (get_or M k 0 ≡ 1) → 2 ≤ get_or M k 0
      go (yes e) = absurd (omega (arith, (S.onstack k h e).1))
      go (no e) = omega arith

  app : (x : ℕ) → cell_of T x % 4 ≡ 2 → cell_of T x / 256 < a
  app x b = apps_at_lem T a apps (rep T x) b

  low : (x : ℕ) → rank_of (cell_of T x) (A.rk x) < q + A.top
  low x = go (ℕ_discrete (cell_of T x % 4) 2) (ℕ_discrete (get_or M (cell_of T x / 256) 0) 0)
    where
      go : Dec (cell_of T x % 4 ≡ 2) → Dec (get_or M (cell_of T x / 256) 0 ≡ 0) → rank_of (cell_of T x) (A.rk x) < q + A.top
      go (no b) w = omega (arith, rank_open (cell_of T x) (A.rk x) b, S.two)
      go (yes b) (yes w) = omega (arith, rank_white (cell_of T x) (A.rk x) b w, A.low x)
      go (yes b) (no w) = omega (arith, rank_black (cell_of T x) (A.rk x) b w, S.low (cell_of T x / 256) (app x b) (ranked (cell_of T x / 256) (app x b) w))

  -- where the ranks of y are lower than r, or y's class has one of the search below m
  below_white : (y r : ℕ) → A.rk y < r → rank_of (cell_of T y) (A.rk y) < q + r
  below_white y r h = go (ℕ_discrete (cell_of T y % 4) 2) (ℕ_discrete (get_or M (cell_of T y / 256) 0) 0)
    where
      go : Dec (cell_of T y % 4 ≡ 2) → Dec (get_or M (cell_of T y / 256) 0 ≡ 0) → rank_of (cell_of T y) (A.rk y) < q + r
      go (no b) w = omega (arith, rank_open (cell_of T y) (A.rk y) b, S.two)
      go (yes b) (yes w) = omega (arith, rank_white (cell_of T y) (A.rk y) b w)
      go (yes b) (no w) = omega (arith, rank_black (cell_of T y) (A.rk y) b w, S.low (cell_of T y / 256) (app y b) (ranked (cell_of T y / 256) (app y b) w))

  below_black : (y m : ℕ) → 2 ≤ m → Lower T M y m → rank_of (cell_of T y) (A.rk y) < m
  unfolding Lower
  below_black y m h l = go (ℕ_discrete (cell_of T y % 4) 2)
    where
      go : Dec (cell_of T y % 4 ≡ 2) → rank_of (cell_of T y) (A.rk y) < m
      go (no b) = omega (arith, rank_open (cell_of T y) (A.rk y) b)
      go (yes b) = let z = l b in omega (arith, rank_black (cell_of T y) (A.rk y) b (λ e. omega (arith, z.0)), z.1)

  down : (x : ℕ) → cell_of T x % 4 ≡ 2 → (y : ℕ) → In y (args_at W (get_or P (cell_of T x / 256) 0)) → rank_of (cell_of T y) (A.rk y) < rank_of (cell_of T x) (A.rk x)
  down x b y i = go (ℕ_discrete (get_or M (cell_of T x / 256) 0) 0)
    where
      go : Dec (get_or M (cell_of T x / 256) 0 ≡ 0) → rank_of (cell_of T y) (A.rk y) < rank_of (cell_of T x) (A.rk x)
      go (yes w) =
          let e : cell_of T₀ x ≡ cell_of T x = old_class x b w in
          let b₀ : cell_of T₀ x % 4 ≡ 2 = ap (λ (c : ℕ). c % 4) e ∙ b in
          let p : get_or P (cell_of T x / 256) 0 ≡ get_or P₀ (cell_of T₀ x / 256) 0 = ap (λ (c : ℕ). get_or P (c / 256) 0) (sym e) ∙ l.old_p (cell_of T₀ x / 256) (apps_at_lem T₀ a₀ st.apps (rep T₀ x) b₀) in
          let k : A.rk y < A.rk x = A.down x b₀ y (subst (λ (j : ℕ). In y (args_at W j)) p i) in
          subst (λ (r : ℕ). rank_of (cell_of T y) (A.rk y) < r) (sym (rank_white (cell_of T x) (A.rk x) b w)) (below_white y (A.rk x) k)
      go (no w) =
          let h = app x b in
          let m = ranked (cell_of T x / 256) h w in
          subst (λ (r : ℕ). rank_of (cell_of T y) (A.rk y) < r) (sym (rank_black (cell_of T x) (A.rk x) b w)) (below_black y (get_or M (cell_of T x / 256) 0) m (S.black (cell_of T x / 256) h m y i))

  pub acyclic_since : Acyclic W P T
  acyclic_since = record { rk = λ x. rank_of (cell_of T x) (A.rk x); top = q + A.top; low = low; down = down }

-- one entry after another
pub traced_none : (T X M : List ℕ) (n₀ : ℕ) → Traced T X M n₀ n₀
unfolding Traced
traced_none T X M n₀ s a b = absurd (omega arith)

pub traced_more : (T X M M' : List ℕ) (n₀ i x : ℕ) → x ≡ get_or X i 0 → Marked M M' → Traced T X M n₀ i → Reached T M' x → Traced T X M' n₀ (i + 1)
unfolding Traced Reached Marked
traced_more T X M M' n₀ i x e k t r s a b = go (dec_lt s i)
  where
    go : Dec (s < i) → cell_of T (get_or X s 0) % 4 ≡ 2 → get_or M' (cell_of T (get_or X s 0) / 256) 0 ≡ 0 → ⊥
    go (yes h) = λ c w. k (cell_of T (get_or X s 0) / 256) (t s a h c) w
    go (no h) = let z : s ≡ i = omega arith in subst (λ (y : ℕ). cell_of T y % 4 ≡ 2 → get_or M' (cell_of T y / 256) 0 ≡ 0 → ⊥) (e ∙ ap (λ (j : ℕ). get_or X j 0) (sym z)) r

pub traced_less : (T X M : List ℕ) (n₀ i n : ℕ) → n ≤ i → Traced T X M n₀ i → Traced T X M n₀ n
unfolding Traced
traced_less T X M n₀ i n h t s a b = t s a (omega arith)

-- what a visit comes to
module _ (W : List Word) (P T M K D : List ℕ) (a q x r c : ℕ) (S : Search W P T M K D a 0 q) (f : Found T x r) (e : c ≡ get_or T r 0) where
  cell : cell_of T x ≡ c
  cell = ap (λ (z : ℕ). get_or T z 0) (sym f.is) ∙ sym e

  stays : Reached T M x → Visiting W P T M a x M K D (Some q)
  stays h = record { search = S; kept = marked_same M; met = h }

  pub visit_open : (c % 4 ≡ 2 → ⊥) → Visiting W P T M a x M K D (Some q)
  unfolding Reached
  visit_open n = stays (λ b w. n (ap (λ (z : ℕ). z % 4) (sym cell) ∙ b))

  pub visit_met : (k m : ℕ) → k ≡ c / 256 → m ≡ get_or M k 0 → (m ≡ 0 → ⊥) → Visiting W P T M a x M K D (Some q)
  unfolding Reached
  visit_met k m ek em n = stays (λ b w. n (em ∙ ap (λ (j : ℕ). get_or M j 0) ek ∙ ap (λ (z : ℕ). get_or M (z / 256) 0) (sym cell) ∙ w))

  pub visit_explored : (k : ℕ) → k ≡ c / 256 → (M' K' D' : List ℕ) (o : Option ℕ) → Exploring W P T M a k M' K' D' o → Visiting W P T M a x M' K' D' o
  unfolding Reached
  visit_explored k ek M' K' D' None g = g
  visit_explored k ek M' K' D' (Some o) g = record { search = g.search; kept = g.kept; met = λ b w. g.met (ap (λ (j : ℕ). get_or M' j 0) ek ∙ ap (λ (z : ℕ). get_or M' (z / 256) 0) (sym cell) ∙ w) }

  pub visit_app : Apps T a → c % 4 ≡ 2 → c / 256 < a
  visit_app A b = subst (λ (z : ℕ). z / 256 < a) cell (apps_at_lem T a A (rep T x) (ap (λ (z : ℕ). z % 4) cell ∙ b))

pub visited_of : (W : List Word) (P T M : List ℕ) (a x : ℕ) (M' K' D' : List ℕ) (o : Option ℕ) (q : ℕ) → o ≡ Some q → Visiting W P T M a x M' K' D' o → Visited W P T M a x M' K' D' q
visited_of W P T M a x M' K' D' o q e v = subst (Visiting W P T M a x M' K' D') e v

pub visit_cyclic : (W : List Word) (P T M : List ℕ) (a x : ℕ) (M' K' D' : List ℕ) (o : Option ℕ) → o ≡ None → Visiting W P T M a x M' K' D' o → Cyclic W P T
visit_cyclic W P T M a x M' K' D' o e v = subst (Visiting W P T M a x M' K' D') e v

pub since_true : (W : List Word) (P T X C M K D : List ℕ) (n a n₀ q : ℕ) → Up T → Apps T a → Search W P T M K D a 0 q → Traced T X M n₀ n → (P₀ T₀ X₀ C₀ : List ℕ) (a₀ : ℕ) → Left W P₀ T₀ X₀ C₀ n₀ a₀ P T X C n a → State W P₀ T₀ X₀ C₀ n₀ a₀ → Acyclic W P₀ T₀ → Acyclic W P T
since_true W P T X C M K D n a n₀ q U A S t P₀ T₀ X₀ C₀ a₀ l s k = acyclic_since W P T X C M K D P₀ T₀ X₀ C₀ n a n₀ a₀ q U A S t l s k
