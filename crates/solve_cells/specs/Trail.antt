-- The trail: which variables' cells were changed, in order, and what the cells were. Assumes nothing.
use Rattle.std.specs.Prelude.{◌≡◌, refl, ◌⊎◌, List, ℕ, zero, suc, ◌+◌, ◌-◌, ◌%◌, ◌≤◌, ◌<◌, length, get_or, set}
use Rattle.std.proofs.Common.{ap, ap₂, sym, ◌∙◌, subst, inl, inr, add-one, add-zero, add-suc, arith, length-set, get_or-set_same, get_or-set_other, set-set}
use Rattle.std.proofs.Math.Decide.{ℕ_discrete, dec_lt}
use Rattle.std.proofs.lemmas.List.{set-get_or}
use Rattle.std.proofs.Math.Seq.{set_out}
use Rattle.mem_numbers.specs.Stored.{Stored, stored_same, stored_other}

-- T before the k changes that stand in the trail from n on
pub rewind : ℕ → ℕ → List ℕ → List ℕ → List ℕ → List ℕ
rewind zero n T X C = T
rewind (suc k) n T X C = rewind k n (set T (get_or X (n + k) 0) (get_or C (n + k) 0)) X C

-- What a change may do to a cell: none becomes an unbound representative again.
pub record Grows (c c' : ℕ) : Type 0 where
  pub unbound : c' % 4 ≡ 0 → c % 4 ≡ 0

-- From n to n' changes: the trail's older part stands, and taking the changes back gives the old table.
pub record Grown (T X C : List ℕ) (n : ℕ) (T' X' C' : List ℕ) (n' : ℕ) : Type 0 where
  pub le : n ≤ n'
  pub size_t : length T' ≡ length T
  pub size_x : length X' ≡ length X
  pub size_c : length C' ≡ length C
  pub back : rewind (n' - n) n T' X' C' ≡ T
  pub old_x : (i : ℕ) → i < n → get_or X' i 0 ≡ get_or X i 0
  pub old_c : (i : ℕ) → i < n → get_or C' i 0 ≡ get_or C i 0
  pub tags : (x : ℕ) → Grows (get_or T x 0) (get_or T' x 0)
  pub opens : (i : ℕ) → n ≤ i → i < n' → get_or C' i 0 % 4 ≡ 0 → get_or T (get_or X' i 0) 0 % 4 ≡ 0

-- one change: the cell of x becomes c, and its old cell is the trail's next entry
pub record Saved (T X C : List ℕ) (n x c : ℕ) (T' X' C' : List ℕ) : Type 0 where
  pub cells : Stored T x c T'
  pub vars : Stored X n x X'
  pub olds : Stored C n (get_or T x 0) C'

-- room for one change
pub record CanSave (T X C : List ℕ) (n x c : ℕ) : Type 0 where
  pub inside : x < length T
  pub var : x < 65536
  pub cell : c < 16777216
  pub room_x : n < length X
  pub room_c : n < length C

-- what may be taken back: each entry's variable has a cell
pub record CanUndo (T X C : List ℕ) (n m : ℕ) : Type 0 where
  pub le : m ≤ n
  pub room_x : n ≤ length X
  pub room_c : n ≤ length C
  pub vars : (i : ℕ) → m ≤ i → i < n → get_or X i 0 < length T

pub rewind_same : (k n : ℕ) (T X C X' C' : List ℕ) → ((i : ℕ) → n ≤ i → i < n + k → get_or X' i 0 ≡ get_or X i 0) → ((i : ℕ) → n ≤ i → i < n + k → get_or C' i 0 ≡ get_or C i 0) → rewind k n T X' C' ≡ rewind k n T X C
unfolding rewind
rewind_same zero n T X C X' C' hx hc = refl
rewind_same (suc k) n T X C X' C' hx hc =
    ap₂ (λ (x c : ℕ). rewind k n (set T x c) X' C') (hx (n + k) (omega arith) (omega arith)) (hc (n + k) (omega arith) (omega arith))
    ∙ rewind_same k n (set T (get_or X (n + k) 0) (get_or C (n + k) 0)) X C X' C' (λ i a b. hx i a (omega arith)) (λ i a b. hc i a (omega arith))

rewind_add : (j k n : ℕ) (T X C : List ℕ) → rewind (j + k) n T X C ≡ rewind j n (rewind k (n + j) T X C) X C
unfolding rewind
rewind_add j zero n T X C = ap (λ (m : ℕ). rewind m n T X C) (add-zero j)
rewind_add j (suc k) n T X C =
    let e : n + (j + k) ≡ n + j + k = omega arith in
    ap (λ (m : ℕ). rewind m n T X C) (add-suc j k)
    ∙ ap (λ (i : ℕ). rewind (j + k) n (set T (get_or X i 0) (get_or C i 0)) X C) e
    ∙ rewind_add j k n (set T (get_or X (n + j + k) 0) (get_or C (n + j + k) 0)) X C

pub grown_none : (T X C : List ℕ) (n : ℕ) → Grown T X C n T X C n
unfolding rewind
grown_none T X C n = record { le = omega arith; size_t = refl; size_x = refl; size_c = refl; back = (let z : n - n ≡ 0 = omega arith in ap (λ (k : ℕ). rewind k n T X C) z); old_x = λ i h. refl; old_c = λ i h. refl; tags = λ x. record { unbound = λ e. e }; opens = λ i l h. absurd (omega arith) }

-- one stretch of changes after another
pub grown_then : {T X C T' X' C' T'' X'' C'' : List ℕ} {n n' n'' : ℕ} → Grown T X C n T' X' C' n' → Grown T' X' C' n' T'' X'' C'' n'' → Grown T X C n T'' X'' C'' n''
grown_then {T} {X} {C} {T'} {X'} {C'} {T''} {X''} {C''} {n} {n'} {n''} a b = record {
  le = omega (arith, a.le, b.le);
  size_t = b.size_t ∙ a.size_t;
  size_x = b.size_x ∙ a.size_x;
  size_c = b.size_c ∙ a.size_c;
  back =
      (let e : n'' - n ≡ (n' - n) + (n'' - n') = omega (arith, a.le, b.le) in
      let f : n + (n' - n) ≡ n' = omega (arith, a.le) in
      ap (λ (k : ℕ). rewind k n T'' X'' C'') e ∙ rewind_add (n' - n) (n'' - n') n T'' X'' C''
      ∙ ap (λ (m : ℕ). rewind (n' - n) n (rewind (n'' - n') m T'' X'' C'') X'' C'') f
      ∙ ap (λ (t : List ℕ). rewind (n' - n) n t X'' C'') b.back
      ∙ rewind_same (n' - n) n T' X' C' X'' C'' (λ i l h. b.old_x i (omega arith)) (λ i l h. b.old_c i (omega arith))
      ∙ a.back);
  old_x = λ i h. b.old_x i (omega (arith, a.le)) ∙ a.old_x i h;
  old_c = λ i h. b.old_c i (omega (arith, a.le)) ∙ a.old_c i h;
  tags = λ x. record { unbound = λ e. (a.tags x).unbound ((b.tags x).unbound e) };
  opens = λ i l h e. go i l h e (dec_lt i n');
}
  where
    go : (i : ℕ) → n ≤ i → i < n'' → get_or C'' i 0 % 4 ≡ 0 → Dec (i < n') → get_or T (get_or X'' i 0) 0 % 4 ≡ 0
    go i l h e (yes k) = subst (λ (x : ℕ). get_or T x 0 % 4 ≡ 0) (sym (b.old_x i k)) (a.opens i l k (ap (λ (c : ℕ). c % 4) (sym (b.old_c i k)) ∙ e))
    go i l h e (no k) = (a.tags (get_or X'' i 0)).unbound (b.opens i (omega arith) h e)

pub grown_saved : {T X C T' X' C' : List ℕ} {n x c : ℕ} → CanSave T X C n x c → Grows (get_or T x 0) c → Saved T X C n x c T' X' C' → Grown T X C n T' X' C' (n + 1)
unfolding rewind
grown_saved {T} {X} {C} {T'} {X'} {C'} {n} {x} {c} h g s = record {
  le = omega arith;
  size_t = s.cells.long;
  size_x = s.vars.long;
  size_c = s.olds.long;
  back =
      (let e : n + 1 - n ≡ 1 = omega arith in
      let z : n + 0 ≡ n = omega arith in
      let gx : get_or X' (n + 0) 0 ≡ x = ap (λ (i : ℕ). get_or X' i 0) z ∙ ap (λ (l : List ℕ). get_or l n 0) s.vars.list ∙ get_or-set_same X n x 0 h.room_x in
      let gc : get_or C' (n + 0) 0 ≡ get_or T x 0 = ap (λ (i : ℕ). get_or C' i 0) z ∙ ap (λ (l : List ℕ). get_or l n 0) s.olds.list ∙ get_or-set_same C n (get_or T x 0) 0 h.room_c in
      ap (λ (k : ℕ). rewind k n T' X' C') e ∙ ap₂ (set T') gx gc ∙ ap (λ (l : List ℕ). set l x (get_or T x 0)) s.cells.list ∙ set-set T x c (get_or T x 0) ∙ set-get_or T x 0);
  old_x = λ i l. ap (λ (k : List ℕ). get_or k i 0) s.vars.list ∙ get_or-set_other X n i x 0 (λ e. omega arith);
  old_c = λ i l. ap (λ (k : List ℕ). get_or k i 0) s.olds.list ∙ get_or-set_other C n i (get_or T x 0) 0 (λ e. omega arith);
  tags = λ y. go y (ℕ_discrete y x);
  opens = λ i l k e. (let z : i ≡ n = omega arith in subst (λ (y : ℕ). get_or T y 0 % 4 ≡ 0) (sym (ap (λ (j : ℕ). get_or X' j 0) z ∙ stored_same 0 s.vars h.room_x)) (ap (λ (d : ℕ). d % 4) (sym (ap (λ (j : ℕ). get_or C' j 0) z ∙ stored_same 0 s.olds h.room_c)) ∙ e));
}
  where
    go : (y : ℕ) → Dec (y ≡ x) → Grows (get_or T y 0) (get_or T' y 0)
    go y (yes e) = subst (λ (z : ℕ). Grows (get_or T z 0) (get_or T' z 0)) (sym e) (subst (Grows (get_or T x 0)) (sym (stored_same 0 s.cells h.inside)) g)
    go y (no n) = subst (Grows (get_or T y 0)) (sym (stored_other y 0 s.cells n)) (record { unbound = λ e. e })

-- a turn of a loop that takes changes back, the newest first
pub rewind_step : (k n : ℕ) (T X C : List ℕ) → rewind (k + 1) n T X C ≡ rewind k n (set T (get_or X (n + k) 0) (get_or C (n + k) 0)) X C
unfolding rewind
rewind_step k n T X C = ap (λ (m : ℕ). rewind m n T X C) (add-one k)

pub rewind_none : (n : ℕ) (T X C : List ℕ) → rewind 0 n T X C ≡ T
unfolding rewind
rewind_none n T X C = refl

-- a link, and a binding of an unbound representative, are such changes; so is one that keeps the kind
pub grows_link : (c c' : ℕ) → c' % 4 ≡ 1 → Grows c c'
grows_link c c' e = record { unbound = λ z. absurd (omega arith) }

pub grows_bound : (c c' : ℕ) → c' % 4 ≡ 2 → Grows c c'
grows_bound c c' e = record { unbound = λ z. absurd (omega arith) }

pub grows_owned : (c c' : ℕ) → c' % 4 ≡ 3 → Grows c c'
grows_owned c c' e = record { unbound = λ z. absurd (omega arith) }

pub grows_same : (c c' : ℕ) → c' % 4 ≡ c % 4 → Grows c c'
grows_same c c' e = record { unbound = λ z. sym e ∙ z }

-- where the newest table differs from the old one, the trail has the old cell
pub rewind_at : (k n : ℕ) (T X C : List ℕ) (x : ℕ) → (get_or (rewind k n T X C) x 0 ≡ get_or T x 0) ⊎ ((t : ℕ) × (n ≤ t) × (t < n + k) × (get_or X t 0 ≡ x) × (get_or C t 0 ≡ get_or (rewind k n T X C) x 0) × (get_or X t 0 < length T))
unfolding rewind
rewind_at zero n T X C x = inl refl
rewind_at (suc k) n T X C x = go (rewind_at k n (set T (get_or X (n + k) 0) (get_or C (n + k) 0)) X C x)
  where
    T₁ : List ℕ
    T₁ = set T (get_or X (n + k) 0) (get_or C (n + k) 0)

    go : (get_or (rewind k n T₁ X C) x 0 ≡ get_or T₁ x 0) ⊎ ((t : ℕ) × (n ≤ t) × (t < n + k) × (get_or X t 0 ≡ x) × (get_or C t 0 ≡ get_or (rewind k n T₁ X C) x 0) × (get_or X t 0 < length T₁))
        → (get_or (rewind k n T₁ X C) x 0 ≡ get_or T x 0) ⊎ ((t : ℕ) × (n ≤ t) × (t < n + suc k) × (get_or X t 0 ≡ x) × (get_or C t 0 ≡ get_or (rewind k n T₁ X C) x 0) × (get_or X t 0 < length T))
    go (inr w) = inr (w.0, w.1, omega (arith, w.2), w.3, w.4, omega (arith, w.5, length-set T (get_or X (n + k) 0) (get_or C (n + k) 0)))
    go (inl e) = by (ℕ_discrete x (get_or X (n + k) 0)) (dec_lt (get_or X (n + k) 0) (length T))
      where
        by : Dec (x ≡ get_or X (n + k) 0) → Dec (get_or X (n + k) 0 < length T) → (get_or (rewind k n T₁ X C) x 0 ≡ get_or T x 0) ⊎ ((t : ℕ) × (n ≤ t) × (t < n + suc k) × (get_or X t 0 ≡ x) × (get_or C t 0 ≡ get_or (rewind k n T₁ X C) x 0) × (get_or X t 0 < length T))
        by (no d) q = inl (e ∙ get_or-set_other T (get_or X (n + k) 0) x (get_or C (n + k) 0) 0 d)
        by (yes d) (yes l) = inr (n + k, omega arith, omega arith, sym d, sym (e ∙ ap (λ (y : ℕ). get_or T₁ y 0) d ∙ get_or-set_same T (get_or X (n + k) 0) (get_or C (n + k) 0) 0 l), l)
        by (yes d) (no l) = inl (e ∙ ap (λ (r : List ℕ). get_or r x 0) (set_out T (get_or X (n + k) 0) (get_or C (n + k) 0) (omega arith)))
