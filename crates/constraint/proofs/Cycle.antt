-- The cycle test is right: after the rounds nothing is left exactly when the bindings can be ranked, arguments below.
use mathlib.Core.Path.{◌≡◌, refl, ap, sym, ◌∙◌, subst}
use mathlib.Core.Logic.{◌⊎◌, inl, inr, if_neg}
use mathlib.Core.List.{List, [], ◌∷◌}
use mathlib.Core.Bool.{Bool, true, false}
use Prim.Native.Nat.{ℕ, zero, suc, ◌+◌, ◌≤◌, ◌<◌}
use native.Mathlib.Decide.{ℕ_discrete}
use native.Mathlib.Omega.{arith}
use lib.ListN.{length}
use lib.Dec.{T}
use Rattle.constraint.specs.Tree.{Label}
use Rattle.constraint.specs.Constraint.{In}
use Rattle.constraint.specs.Solve.{Bnd, free, fun, Bound, find, St, elem, keep, any_in, blocked_by, round, rounds, empty?, keys, acyclic?}
use Rattle.constraint.proofs.Form.{Form, form, at, Below, Ranked, Stuck}
use Rattle.constraint.proofs.Lists.{or_T, elem_In, keep_In, keep_all}
use Rattle.constraint.proofs.Trees.{dec_in}

-- a blocked term has an argument in a class of l
abbrev pub Blocked : (ℕ → ℕ) → List ℕ → Bnd → Type 0
Blocked r l b = (f : Label) × (ys : List ℕ) × (y : ℕ) × (b ≡ fun f ys) × In y ys × In (r y) l

-- the arguments of one that is not blocked are in no class of l
abbrev pub Ready : (ℕ → ℕ) → List ℕ → Bnd → Type 0
Ready r l free = Unit {0}
Ready r l (fun f ys) = (y : ℕ) → In y ys → ¬ In (r y) l

any_some : (r : ℕ → ℕ) (l ys : List ℕ) → T (any_in r l ys) → (y : ℕ) × In y ys × In (r y) l
unfolding any_in
any_some r l [] h = elim h [ ]
any_some r l (y ∷ ys) h = go ((or_T (elem (r y) l) (any_in r l ys)).0 h) (λ t. any_some r l ys t)
  where
    go : T (elem (r y) l) ⊎ T (any_in r l ys) → (T (any_in r l ys) → (z : ℕ) × In z ys × In (r z) l) → (z : ℕ) × In z (y ∷ ys) × In (r z) l
    go (inl a) ih = (y, inl refl, (elem_In (r y) l).0 a)
    go (inr b) ih = ((ih b).0, inr (ih b).1, (ih b).2)

any_none : (r : ℕ → ℕ) (l ys : List ℕ) → (T (any_in r l ys) → ⊥) → (y : ℕ) → In y ys → ¬ In (r y) l
unfolding any_in
any_none r l [] n y i j = elim i [ ]
any_none r l (z ∷ ys) n y (inl e) j = n ((or_T (elem (r z) l) (any_in r l ys)).1 (inl ((elem_In (r z) l).1 (subst (λ w. In (r w) l) e j))))
any_none r l (z ∷ ys) n y (inr i) j = any_none r l ys (λ t. n ((or_T (elem (r z) l) (any_in r l ys)).1 (inr t))) y i j

pub blocked_T : (r : ℕ → ℕ) (l : List ℕ) (b : Bnd) → T (blocked_by r l b) → Blocked r l b
unfolding blocked_by
blocked_T r l free h = elim h [ ]
blocked_T r l (fun f ys) h = let w = any_some r l ys h in (f, ys, w.0, refl, w.1, w.2)

pub ready_T : (r : ℕ → ℕ) (l : List ℕ) (b : Bnd) → (T (blocked_by r l b) → ⊥) → Ready r l b
unfolding blocked_by
ready_T r l free n = tt
ready_T r l (fun f ys) n = λ y i. any_none r l ys n y i

module _ (s : St) where
  abbrev F : Form
  F = form s

  -- the arguments are off the list and rank below k
  abbrev Under : (ℕ → ℕ) → List ℕ → ℕ → Bnd → Type 0
  Under rk l k free = Unit {0}
  Under rk l k (fun f ys) = (y : ℕ) → In y ys → (rk y < k) × ¬ In (s.rep y) l

  -- all that is off the list l is ranked
  record Part (l : List ℕ) : Type 0 where
    rk : ℕ → ℕ
    top : ℕ
    low : (x : ℕ) → rk x < top
    reps : (v : ℕ) → In v l → s.rep v ≡ v
    down : (x : ℕ) → ¬ In (s.rep x) l → Under rk l (rk x) (at F x)

  -- is x off the list?
  abbrev Gone : List ℕ → ℕ → Type 0
  Gone l x = Dec (In (s.rep x) l)

  -- a round ranks what it takes off above all that was ranked before
  one_round : (l : List ℕ) → Part l → Part (round s l)
  unfolding round
  one_round l P = record { rk = rk'; top = suc P.top; low = λ x. low' x (dec_in (s.rep x) l); reps = λ v i. P.reps v (inner v i); down = λ x n. down' x n (dec_in (s.rep x) l) }
    where
      test : ℕ → Bool
      test x = blocked_by s.rep l (find x s.bs)

      inner : (v : ℕ) → In v (round s l) → In v l
      inner v i = ((keep_In test v l).0 i).0

      pick : (x : ℕ) → Gone l x → ℕ
      pick x (yes i) = P.top
      pick x (no n) = P.rk x

      rk' : ℕ → ℕ
      rk' x = pick x (dec_in (s.rep x) l)

      low' : (x : ℕ) (d : Gone l x) → pick x d < suc P.top
      low' x (yes i) = omega arith
      low' x (no n) = omega (arith, P.low x)

      out : (y : ℕ) → ¬ In (s.rep y) l → rk' y ≡ P.rk y
      out y n = go (dec_in (s.rep y) l)
        where
          go : (d : Gone l y) → pick y d ≡ P.rk y
          go (yes i) = absurd (n i)
          go (no m) = refl

      still : (y : ℕ) → ¬ In (s.rep y) l → ¬ In (s.rep y) (round s l)
      still y n j = n (inner (s.rep y) j)

      new : (b : Bnd) → Ready s.rep l b → Under rk' (round s l) P.top b
      new free h = tt
      new (fun f ys) h = λ y j. (rw (out y (h y j)) (P.low y), still y (h y j))

      old : (k : ℕ) (b : Bnd) → Under P.rk l k b → Under rk' (round s l) k b
      old k free h = tt
      old k (fun f ys) h = λ y j. (rw (out y (h y j).1) (h y j).0, still y (h y j).1)

      down' : (x : ℕ) → ¬ In (s.rep x) (round s l) → (d : Gone l x) → Under rk' (round s l) (pick x d) (at F x)
      down' x n (yes i) = new (at F x) (ready_T s.rep l (at F x) (λ t. n ((keep_In test (s.rep x) l).1 (i, t))))
      down' x n (no m) = old (P.rk x) (at F x) (P.down x m)

  round_top : (l : List ℕ) (P : Part l) → (one_round l P).top ≡ suc P.top
  unfolding one_round round
  round_top l P = refl

  finish : Part [] → Ranked F
  finish P = record { rk = P.rk; top = P.top; low = P.low; down = λ x. go (P.rk x) (at F x) (P.down x (λ j. j)) }
    where
      go : (k : ℕ) (b : Bnd) → Under P.rk [] k b → Below P.rk k b
      go k free h = tt
      go k (fun f ys) h = λ y i. (h y i).0

  -- a list all of whose members are blocked by it stays as it is
  stuck : (v : ℕ) (l : List ℕ) → s.rep v ≡ v → ((w : ℕ) → In w (v ∷ l) → T (blocked_by s.rep (v ∷ l) (find w s.bs))) → Stuck F
  stuck v l r h = record { S = λ x. In (s.rep x) (v ∷ l); some_one = v; holds = inl r; next = λ x m. blocked_T s.rep (v ∷ l) (at F x) (h (s.rep x) m) }

  -- ranked, with b for a bound on the ranks
  abbrev Below-bound : ℕ → Type 0
  Below-bound b = (R : Ranked F) × (R.top ≤ b)

  abbrev Left : ℕ → List ℕ → Type 1
  Left b l = (T (empty? l) × Below-bound b) ⊎ ((T (empty? l) → ⊥) × Stuck F)

  weaken : (a b : ℕ) (l : List ℕ) → a ≤ b → Left a l → Left b l
  weaken a b l h (inl w) = inl (w.0, (w.1.0, omega (arith, w.1.1)))
  weaken a b l h (inr w) = inr w

  finish_top : (P : Part []) → (finish P).top ≡ P.top
  unfolding finish
  finish_top P = refl

  keep_same : (p : ℕ → Bool) (l : List ℕ) → ((x : ℕ) → In x l → T (p x)) → keep p l ≡ l
  unfolding keep
  keep_same p [] h = refl
  keep_same p (x ∷ l) h = go (p x) (h x (inl refl)) (keep_same p l (λ y i. h y (inr i)))
    where
      go : (b : Bool) → T b → keep p l ≡ l → elim b as (λ c. List ℕ) [ true ↦ x ∷ keep p l | false ↦ keep p l ] ≡ x ∷ l
      go false t e = elim t [ ]
      go true t e = ap (λ (m : List ℕ). x ∷ m) e

  rounds_same : (n : ℕ) (l : List ℕ) → round s l ≡ l → rounds n s l ≡ l
  unfolding rounds
  rounds_same zero l e = refl
  rounds_same (suc n) l e = ap (rounds n s) e ∙ rounds_same n l e

  rounds_right : (n : ℕ) (l : List ℕ) → length l ≤ n → (P : Part l) → Left (P.top + n) (rounds n s l)
  unfolding rounds empty? round keep
  rounds_right zero [] h P = inl (tt, (finish P, omega (arith, finish_top P)))
  rounds_right zero (v ∷ l) h P = absurd (omega arith)
  rounds_right (suc n) [] h P = weaken (P.top + n) (P.top + suc n) (rounds n s []) (omega arith) (rounds_right n [] (omega arith) P)
  rounds_right (suc n) (v ∷ l) h P = go (keep_all (λ x. blocked_by s.rep (v ∷ l) (find x s.bs)) (v ∷ l)) (λ k. weaken ((one_round (v ∷ l) P).top + n) (P.top + suc n) (rounds n s (round s (v ∷ l))) (omega (arith, round_top (v ∷ l) P)) (rounds_right n (round s (v ∷ l)) k (one_round (v ∷ l) P)))
    where
      go : ((w : ℕ) → In w (v ∷ l) → T (blocked_by s.rep (v ∷ l) (find w s.bs))) ⊎ (length (round s (v ∷ l)) < length (v ∷ l)) → (length (round s (v ∷ l)) ≤ n → Left (P.top + suc n) (rounds n s (round s (v ∷ l)))) → Left (P.top + suc n) (rounds n s (round s (v ∷ l)))
      go (inr k) ih = ih (omega arith)
      go (inl b) ih = subst (Left (P.top + suc n)) (sym (ap (rounds n s) same ∙ rounds_same n (v ∷ l) same)) (inr (λ t. t, stuck v l (P.reps v (inl refl)) b))
        where
          same : round s (v ∷ l) ≡ v ∷ l
          same = keep_same (λ x. blocked_by s.rep (v ∷ l) (find x s.bs)) (v ∷ l) b

  keys_reps : (bs : List Bound) (v : ℕ) → In v (keys s.rep bs) → s.rep v ≡ v
  unfolding keys
  keys_reps [] v i = elim i [ ]
  keys_reps (b ∷ bs) v (inl e) = rw e (s.idem b.0)
  keys_reps (b ∷ bs) v (inr i) = keys_reps bs v i

  keys_all : (bs : List Bound) (v : ℕ) → s.rep v ≡ v → ¬ In v (keys s.rep bs) → find v bs ≡ free
  unfolding keys
  keys_all [] v r n = refl
  keys_all (b ∷ bs) v r n = if_neg (ℕ_discrete v b.0) (λ e. n (inl (sym r ∙ ap s.rep e))) _ _ ∙ keys_all bs v r (λ i. n (inr i))

  -- ranks lie below the number of bindings, and one more
  pub cycle_bound : (T (acyclic? s) × ((R : Ranked F) × (R.top ≤ suc (length (keys s.rep s.bs))))) ⊎ ((T (acyclic? s) → ⊥) × Stuck F)
  unfolding acyclic?
  cycle_bound = weaken (begin.top + length l) (suc (length l)) (rounds (length l) s l) (omega arith) (rounds_right (length l) l (omega arith) begin)
    where
      l : List ℕ
      l = keys s.rep s.bs

      free_under : (b : Bnd) → b ≡ free → Under (λ x. 0) l 0 b
      free_under b e = rw e tt

      begin : Part l
      begin = record { rk = λ x. 0; top = 1; low = λ x. omega arith; reps = keys_reps s.bs; down = λ x n. free_under (at F x) (keys_all s.bs (s.rep x) (s.idem x) n) }

  pub cycle_right : (T (acyclic? s) × Ranked F) ⊎ ((T (acyclic? s) → ⊥) × Stuck F)
  cycle_right = elim cycle_bound [ inl w ↦ inl (w.0, w.1.0) | inr w ↦ inr w ]
