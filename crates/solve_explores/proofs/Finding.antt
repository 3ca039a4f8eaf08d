-- The search goes on to the next argument, takes an application off the stack, finds a cycle or ends. Assumes nothing.
use mathlib.Core.Path.{◌≡◌, refl, ap, sym, ◌∙◌, subst}
use Rattle.std.specs.Prelude.{Option, None, Some}
use mathlib.Core.Logic.{◌↔◌, ◌⊎◌, inl, inr, ite, if_pos, if_neg}
use mathlib.Core.Bool.{Bool, true, false}
use mathlib.Core.List.{List, [], ◌∷◌, ◌++◌, append-nil, append_assoc}
use Prim.Native.Nat.{ℕ, zero, suc, ◌+◌, ◌-◌, ◌*◌, ◌/◌, ◌%◌, ◌≤◌, ◌<◌}
use native.Mathlib.Numerals.{add-one}
use native.Mathlib.Nat.{mul-le-mul_right, suc-mul}
use native.Mathlib.Omega.{arith}
use native.Mathlib.Decide.{ℕ_discrete, dec_lt}
use lib.ListN.{length, get_or, drop}
use Rattle.mem_numbers.specs.Stored.{Stored, stored_same, stored_other}
use Rattle.constraint.specs.Tree.{Label}
use Rattle.constraint.specs.Constraint.{Asg, In}
use Rattle.constraint.specs.Solve.{Bnd, free, fun}
use Rattle.constraint.proofs.Form.{Form, at, Solves, Stuck}
use Rattle.constraint.proofs.Forms.{stuck_none}
use Rattle.mem_words.specs.declared.Word.{Word}
use Rattle.mem_words.specs.declared.Word.TheVariants.{Bad}
use Rattle.solve_cells.specs.Cells.{rep, Up}
use Rattle.solve_classes.specs.Means.{bound, Fits, Apps}
use Rattle.solve_classes.proofs.Tables.{form_of, fits_form, bound_yes}
use Rattle.solve_classes.proofs.Linking.{apps_at_lem}
use Rattle.solve_fields.specs.Read.{var_of, is_var, args_of, args_at, label_at, term_at, tab_of}
use Rattle.solve_tells.proofs.Meeting.{args_more, args_done, var_inside}
use Rattle.solve_explores.specs.Search.{cell_of, Leads, Ends, Settled, Lower, white, whites, left, Frame, Search, Cyclic, Acyclic, Marked, Explored, Exploring, Drained, Draining}
use Rattle.solve_explores.proofs.Searching.{settled_kept, lower_kept, lower_settled, frame_kept, white_some, whites_same, whites_less}

in_left : (y : ℕ) (a b : List ℕ) → In y a → In y (a ++ b)
in_left y [] b i = elim i [ ]
in_left y (x ∷ a) b (inl e) = inl e
in_left y (x ∷ a) b (inr h) = inr (in_left y a b h)

in_right : (y : ℕ) (a b : List ℕ) → In y b → In y (a ++ b)
in_right y [] b h = h
in_right y (x ∷ a) b h = inr (in_right y a b h)

in_cases : (y : ℕ) (a b : List ℕ) → In y (a ++ b) → In y a ⊎ In y b
in_cases y [] b h = inr h
in_cases y (x ∷ a) b (inl e) = inl (inl e)
in_cases y (x ∷ a) b (inr h) = go (in_cases y a b h)
  where
    go : In y a ⊎ In y b → In y (x ∷ a) ⊎ In y b
    go (inl k) = inl (inr k)
    go (inr k) = inr k

-- the argument at the place is one of the application's
pub arg_in : (W : List Word) (P T M : List ℕ) (k i : ℕ) → Frame W P T M k i → is_var (get_or W (get_or P k 0 + 3 + i) Bad) ≡ true → In (var_of (get_or W (get_or P k 0 + 3 + i) Bad)) (args_at W (get_or P k 0))
arg_in W P T M k i f v = let c : ℕ = get_or P k 0 + 3 + i in subst (In (var_of (get_or W c Bad))) (sym f.split) (in_right (var_of (get_or W c Bad)) f.done (args_of (drop c W)) (subst (In (var_of (get_or W c Bad))) (sym (args_more W c v)) (inl refl)))

-- an argument that is settled is passed
module _ (W : List Word) (P T M K D : List ℕ) (a h q : ℕ) (S : Search W P T M K D a h q) (top k i : ℕ) (et : top + 1 ≡ h) (ek : k ≡ get_or K top 0) (ei : i ≡ get_or D top 0) (v : is_var (get_or W (get_or P k 0 + 3 + i) Bad) ≡ true) (st : Settled T M (var_of (get_or W (get_or P k 0 + 3 + i) Bad))) (D' : List ℕ) (sd : Stored D top (i + 1) D') (ld : top < length D) where
  other : (s : ℕ) → (s ≡ top → ⊥) → get_or D' s 0 ≡ get_or D s 0
  other s n = stored_other s 0 sd n

  new : get_or D' top 0 ≡ i + 1
  new = stored_same 0 sd ld

  more_frame : Frame W P T M k i → Frame W P T M k (i + 1)
  more_frame f = record { done = f.done ++ (y ∷ []); split = f.split ∙ ap (λ (l : List ℕ). f.done ++ l) (args_more W c v ∙ ap (λ (j : ℕ). y ∷ args_of (drop j W)) e) ∙ sym (append_assoc f.done (y ∷ []) (args_of (drop (get_or P k 0 + 3 + (i + 1)) W))); settled = λ z m. go z (in_cases z f.done (y ∷ []) m) }
    where
      c : ℕ
      c = get_or P k 0 + 3 + i

      y : ℕ
      y = var_of (get_or W c Bad)

      e : c + 1 ≡ get_or P k 0 + 3 + (i + 1)
      e = omega arith

      go : (z : ℕ) → In z f.done ⊎ In z (y ∷ []) → Settled T M z
      go z (inl m) = f.settled z m
      go z (inr (inr i)) = elim i [ ]
      go z (inr (inl m)) = subst (Settled T M) (sym m) st

  pub advanced : Search W P T M K D' a h q
  advanced = record {
    low = S.low;
    black = S.black;
    grey = S.grey;
    inside = S.inside;
    onstack = S.onstack;
    apart = S.apart;
    frames = λ s l. fr s l (ℕ_discrete s top);
    links = λ s l. subst (λ (d : ℕ). Leads W T (get_or P (get_or K s 0) 0 + 3 + d) (get_or K (s + 1) 0)) (sym (other s (λ e. omega arith))) (S.links s l);
    count = S.count;
    two = S.two;
    steps = λ s l. go s l (ℕ_discrete s top);
  }
    where
      fr : (s : ℕ) → s < h → Dec (s ≡ top) → Frame W P T M (get_or K s 0) (get_or D' s 0)
      fr s l (yes e) =
          let f : Frame W P T M k i = subst (λ (x : ℕ). Frame W P T M x i) (sym ek) (subst (Frame W P T M (get_or K top 0)) (sym ei) (S.frames top (omega arith))) in
          subst (λ (x : ℕ). Frame W P T M (get_or K x 0) (get_or D' x 0)) (sym e) (subst (λ (x : ℕ). Frame W P T M x (get_or D' top 0)) ek (subst (Frame W P T M k) (sym new) (more_frame f)))
      fr s l (no n) = subst (Frame W P T M (get_or K s 0)) (sym (other s n)) (S.frames s l)

      go : (s : ℕ) → s < h → Dec (s ≡ top) → get_or D' s 0 ≤ length W
      go s l (yes e) = omega (arith, ap (λ (x : ℕ). get_or D' x 0) e, new, var_inside W (get_or P k 0 + 3 + i) v)
      go s l (no n) = omega (arith, other s n, S.steps s l)

-- an application with all arguments settled gets its rank and leaves the stack
module _ (W : List Word) (P T M K D : List ℕ) (a h q : ℕ) (S : Search W P T M K D a h q) (top k i : ℕ) (et : top + 1 ≡ h) (ek : k ≡ get_or K top 0) (ei : i ≡ get_or D top 0) (v : is_var (get_or W (get_or P k 0 + 3 + i) Bad) ≡ false) (A : Apps T a) (M' : List ℕ) (sm : Stored M k q M') (lm : k < length M) where
  is_grey : get_or M k 0 ≡ 1
  is_grey = ap (λ (x : ℕ). get_or M x 0) ek ∙ S.grey top (omega arith)

  kept_pop : (j : ℕ) → 2 ≤ get_or M j 0 → get_or M' j 0 ≡ get_or M j 0
  kept_pop j l = stored_other j 0 sm (λ e. omega (arith, ap (λ (x : ℕ). get_or M x 0) e, is_grey))

  new_rank : get_or M' k 0 ≡ q
  new_rank = stored_same 0 sm lm

  not_k : (s : ℕ) → s < top → get_or K s 0 ≡ k → ⊥
  not_k s l e = omega (arith, S.apart s top (omega arith) (omega arith) (e ∙ ek))

  all_lower : (y : ℕ) → In y (args_at W (get_or P k 0)) → Lower T M y q
  all_lower y m =
      let f : Frame W P T M k i = subst (λ (x : ℕ). Frame W P T M x i) (sym ek) (subst (Frame W P T M (get_or K top 0)) (sym ei) (S.frames top (omega arith))) in
      let all : args_at W (get_or P k 0) ≡ f.done = f.split ∙ ap (λ (l : List ℕ). f.done ++ l) (args_done W (get_or P k 0 + 3 + i) v) ∙ append-nil f.done in
      lower_settled T M y q a A S.low (f.settled y (subst (In y) all m))

  pub popped : Search W P T M' K D a top (q + 1)
  popped = record {
    low = λ j b l. lo j b l (ℕ_discrete j k);
    black = λ j b l. bl j b l (ℕ_discrete j k);
    grey = λ s l. stored_other (get_or K s 0) 0 sm (not_k s l) ∙ S.grey s (omega arith);
    inside = λ s l. S.inside s (omega arith);
    onstack = λ j b e. on j b e (ℕ_discrete j k);
    apart = λ s r l m. S.apart s r (omega arith) (omega arith);
    frames = λ s l. frame_kept W P T M M' (get_or K s 0) (get_or D s 0) kept_pop (S.frames s (omega arith));
    links = λ s l. S.links s (omega arith);
    count = omega (arith, S.count, whites_same a M M' (λ j. whi j (ℕ_discrete j k)));
    two = omega (arith, S.two);
    steps = λ s l. S.steps s (omega arith);
  }
    where
      lo : (j : ℕ) → j < a → 2 ≤ get_or M' j 0 → Dec (j ≡ k) → get_or M' j 0 < q + 1
      lo j b l (yes e) = omega (arith, ap (λ (x : ℕ). get_or M' x 0) e, new_rank)
      lo j b l (no n) = omega (arith, stored_other j 0 sm n, S.low j b (omega (arith, stored_other j 0 sm n)))

      bl : (j : ℕ) → j < a → 2 ≤ get_or M' j 0 → Dec (j ≡ k) → (y : ℕ) → In y (args_at W (get_or P j 0)) → Lower T M' y (get_or M' j 0)
      bl j b l (yes e) y m = subst (Lower T M' y) (sym (ap (λ (x : ℕ). get_or M' x 0) e ∙ new_rank)) (lower_kept T M M' y q kept_pop (all_lower y (subst (λ (x : ℕ). In y (args_at W (get_or P x 0))) e m)))
      bl j b l (no n) y m = subst (Lower T M' y) (sym (stored_other j 0 sm n)) (lower_kept T M M' y (get_or M j 0) kept_pop (S.black j b (omega (arith, stored_other j 0 sm n)) y m))

      on : (j : ℕ) → j < a → get_or M' j 0 ≡ 1 → Dec (j ≡ k) → (s : ℕ) × (s < top) × (get_or K s 0 ≡ j)
      on j b e (yes d) = absurd (omega (arith, ap (λ (x : ℕ). get_or M' x 0) d, new_rank, S.two))
      on j b e (no n) = let w = S.onstack j b (sym (stored_other j 0 sm n) ∙ e) in (w.0, go w (ℕ_discrete w.0 top), w.2)
        where
          go : (w : (s : ℕ) × (s < h) × (get_or K s 0 ≡ j)) → Dec (w.0 ≡ top) → w.0 < top
          go w (yes d) = absurd (n (sym w.2 ∙ ap (λ (x : ℕ). get_or K x 0) d ∙ sym ek))
          go w (no d) = omega (arith, w.1)

      whi : (j : ℕ) → Dec (j ≡ k) → white (get_or M' j 0) ≡ white (get_or M j 0)
      whi j (yes e) = white_some (get_or M' j 0) (λ z. omega (arith, ap (λ (x : ℕ). get_or M' x 0) e, new_rank, S.two)) ∙ sym (white_some (get_or M j 0) (λ z. omega (arith, ap (λ (x : ℕ). get_or M x 0) e, is_grey)))
      whi j (no n) = ap white (stored_other j 0 sm n)

-- an application that is met on the stack: a cycle
module _ (W : List Word) (P T M K D : List ℕ) (a h q : ℕ) (U : Up T) (S : Search W P T M K D a h q) (top : ℕ) (et : top + 1 ≡ h) (j : ℕ) (leads : Leads W T (get_or P (get_or K top 0) 0 + 3 + get_or D top 0) j) (ja : j < a) (jm : get_or M j 0 ≡ 1) where
  -- the variables whose application is on the stack
  abbrev On : ℕ → Type 0
  On x = (s : ℕ) × (s < h) × (cell_of T x % 4 ≡ 2) × (cell_of T x / 256 ≡ get_or K s 0)

  step_on : (s : ℕ) → s < h → (y : ℕ) × In y (args_at W (get_or P (get_or K s 0) 0)) × On y
  step_on s l = go (dec_lt (s + 1) h)
    where
      c : ℕ
      c = get_or P (get_or K s 0) 0 + 3 + get_or D s 0

      go : Dec (s + 1 < h) → (y : ℕ) × In y (args_at W (get_or P (get_or K s 0) 0)) × On y
      go (yes m) = let w = S.links s m in (var_of (get_or W c Bad), arg_in W P T M (get_or K s 0) (get_or D s 0) (S.frames s l) w.var, (s + 1, m, w.bound, w.app))
      go (no m) =
          let e : s ≡ top = omega arith in
          let w : Leads W T c j = subst (λ (r : ℕ). Leads W T (get_or P (get_or K r 0) 0 + 3 + get_or D r 0) j) (sym e) leads in
          let o = S.onstack j ja jm in
          (var_of (get_or W c Bad), arg_in W P T M (get_or K s 0) (get_or D s 0) (S.frames s l) w.var, (o.0, o.1, w.bound, w.app ∙ sym o.2))

  stuck : (lab : ℕ → Label) → Stuck (form_of (tab_of lab W P) T U)
  unfolding form_of tab_of term_at
  stuck lab = record {
    S = On;
    some_one = (step_on top (omega arith)).0;
    holds = (step_on top (omega arith)).2;
    next = λ x o. let w = step_on o.0 o.1 in (lab (label_at W (get_or P (get_or K o.0 0) 0)), args_at W (get_or P (get_or K o.0 0) 0), w.0, bound_yes (tab_of lab W P) (cell_of T x) o.2 ∙ ap (tab_of lab W P) o.3, w.1, w.2);
  }

  pub cycle : Cyclic W P T
  cycle lab ρ f = stuck_none (form_of (tab_of lab W P) T U) (stuck lab) ρ ((fits_form (tab_of lab W P) T U ρ).0 f)

lower_of : (T M : List ℕ) (y r : ℕ) → Lower T M y r → cell_of T y % 4 ≡ 2 → (2 ≤ get_or M (cell_of T y / 256) 0) × (get_or M (cell_of T y / 256) 0 < r)
unfolding Lower
lower_of T M y r l = l

-- all applications have a rank: no cycle
pub no_cycle : (W : List Word) (P T M K D : List ℕ) (a q : ℕ) → Apps T a → Search W P T M K D a 0 q → ((k : ℕ) → k < a → get_or M k 0 ≡ 0 → ⊥) → Acyclic W P T
no_cycle W P T M K D a q A S all = record { rk = rk; top = suc q; low = λ x. lo x (ℕ_discrete (cell_of T x % 4) 2); down = dn }
  where
    rk : ℕ → ℕ
    rk x = ite (ℕ_discrete (cell_of T x % 4) 2) (get_or M (cell_of T x / 256) 0) 0

    yes_rk : (x : ℕ) → cell_of T x % 4 ≡ 2 → rk x ≡ get_or M (cell_of T x / 256) 0
    yes_rk x e = if_pos (ℕ_discrete (cell_of T x % 4) 2) e _ _

    no_rk : (x : ℕ) → (cell_of T x % 4 ≡ 2 → ⊥) → rk x ≡ 0
    no_rk x n = if_neg (ℕ_discrete (cell_of T x % 4) 2) n _ _

    dark : (x : ℕ) → cell_of T x % 4 ≡ 2 → 2 ≤ get_or M (cell_of T x / 256) 0
    dark x e = go (get_or M (cell_of T x / 256) 0) refl
      where
        go : (m : ℕ) → get_or M (cell_of T x / 256) 0 ≡ m → 2 ≤ get_or M (cell_of T x / 256) 0
        go zero z = absurd (all (cell_of T x / 256) (apps_at_lem T a A (rep T x) e) z)
        go (suc zero) z = let w = S.onstack (cell_of T x / 256) (apps_at_lem T a A (rep T x) e) z in absurd (omega (arith, w.1))
        go (suc (suc m)) z = omega arith

    lo : (x : ℕ) → Dec (cell_of T x % 4 ≡ 2) → rk x < suc q
    lo x (yes e) = omega (arith, yes_rk x e, S.low (cell_of T x / 256) (apps_at_lem T a A (rep T x) e) (dark x e))
    lo x (no n) = omega (arith, no_rk x n)

    dn : (x : ℕ) → cell_of T x % 4 ≡ 2 → (y : ℕ) → In y (args_at W (get_or P (cell_of T x / 256) 0)) → rk y < rk x
    dn x e y m = go (ℕ_discrete (cell_of T y % 4) 2)
      where
        go : Dec (cell_of T y % 4 ≡ 2) → rk y < rk x
        go (yes d) = omega (arith, yes_rk x e, yes_rk y d, (lower_of T M y (get_or M (cell_of T x / 256) 0) (S.black (cell_of T x / 256) (apps_at_lem T a A (rep T x) e) (dark x e) y m) d).1)
        go (no n) = omega (arith, yes_rk x e, no_rk y n, dark x e)

pub whites_some : (b j : ℕ) (M : List ℕ) → j < b → get_or M j 0 ≡ 0 → 0 < whites b M
unfolding whites
whites_some zero j M l z = absurd (omega arith)
whites_some (suc b) j M l z = go (ℕ_discrete b j) (λ k. whites_some b j M k z)
  where
    one : (m : ℕ) → m ≡ 0 → white m ≡ 1
    one zero e = refl
    one (suc m) e = absurd (omega arith)

    go : Dec (b ≡ j) → (j < b → 0 < whites b M) → 0 < white (get_or M b 0) + whites b M
    go (yes e) ih = omega (arith, one (get_or M b 0) (ap (λ (x : ℕ). get_or M x 0) e ∙ z))
    go (no n) ih = omega (arith, ih (omega arith))

-- what is left falls at every step
lex : (x y l r s : ℕ) → x < y → r ≤ l → x * (l + 1) + r < y * (l + 1) + s
lex x y l r s h k =
    let m : suc x * (l + 1) ≤ y * (l + 1) = mul-le-mul_right (l + 1) h in
    omega (arith, suc-mul x (l + 1))

pub left_push : (l a j h : ℕ) (M M' D D' : List ℕ) → Stored M j 1 M' → j < length M → get_or M j 0 ≡ 0 → j < a → 0 < h → left l M' D' a (h + 1) < left l M D a h
unfolding left
left_push l a j h M M' D D' s lm z ja p = lex (2 * whites a M' + (h + 1)) (2 * whites a M + h) l (l - get_or D' (h + 1 - 1) 0) (l - get_or D (h - 1) 0) (omega (arith, whites_less a j 1 M M' s lm z (λ e. omega arith) ja)) (omega arith)

pub left_pop : (l a k q h top : ℕ) (M M' D D' : List ℕ) → Stored M k q M' → k < length M → (get_or M k 0 ≡ 0 → ⊥) → (q ≡ 0 → ⊥) → top + 1 ≡ h → left l M' D' a top < left l M D a h
unfolding left
left_pop l a k q h top M M' D D' s lm n nq e = lex (2 * whites a M' + top) (2 * whites a M + h) l (l - get_or D' (top - 1) 0) (l - get_or D (h - 1) 0) (omega (arith, whites_same a M M' (λ j. go j (ℕ_discrete j k)))) (omega arith)
  where
    go : (j : ℕ) → Dec (j ≡ k) → white (get_or M' j 0) ≡ white (get_or M j 0)
    go j (yes d) = white_some (get_or M' j 0) (λ z. nq (sym (stored_same 0 s lm) ∙ ap (λ (x : ℕ). get_or M' x 0) (sym d) ∙ z)) ∙ sym (white_some (get_or M j 0) (λ z. n (ap (λ (x : ℕ). get_or M x 0) (sym d) ∙ z)))
    go j (no d) = ap white (stored_other j 0 s d)

pub left_next : (l a h top i : ℕ) (M D D' : List ℕ) → Stored D top (i + 1) D' → top < length D → i ≡ get_or D top 0 → i < l → top + 1 ≡ h → left l M D' a h < left l M D a h
unfolding left
left_next l a h top i M D D' s ld ei lt e =
    let t : h - 1 ≡ top = omega arith in
    omega (arith, ap (λ (x : ℕ). get_or D' x 0) t, ap (λ (x : ℕ). get_or D x 0) t, stored_same 0 s ld)

-- marks that are set stay set
pub marked_same : (M : List ℕ) → Marked M M
unfolding Marked
marked_same M k n = n

pub stay : (M M' : List ℕ) (j v : ℕ) → Stored M j v M' → j < length M → (v ≡ 0 → ⊥) → (k : ℕ) → get_or M' k 0 ≡ 0 → get_or M k 0 ≡ 0
stay M M' j v s l n k z = go (ℕ_discrete k j)
  where
    go : Dec (k ≡ j) → get_or M k 0 ≡ 0
    go (yes e) = absurd (n (sym (stored_same 0 s l) ∙ ap (λ (x : ℕ). get_or M' x 0) (sym e) ∙ z))
    go (no d) = sym (stored_other k 0 s d) ∙ z

pub marked_store : (M₀ M M' : List ℕ) (j v : ℕ) → Marked M₀ M → Stored M j v M' → j < length M → (v ≡ 0 → ⊥) → Marked M₀ M'
unfolding Marked
marked_store M₀ M M' j v m s l n k nz z = m k nz (stay M M' j v s l n k z)

pub marked_then : (M₀ M M' : List ℕ) → Marked M₀ M → Marked M M' → Marked M₀ M'
unfolding Marked
marked_then M₀ M M' a b k n = b k (a k n)

pub drained_done : (W : List Word) (P T M : List ℕ) (a : ℕ) (M' K' D' : List ℕ) (q : ℕ) → Search W P T M' K' D' a 0 q → Marked M M' → Draining W P T M a M' K' D' (Some q)
drained_done W P T M a M' K' D' q s m = record { search = s; kept = m }

pub explored_drained : (W : List Word) (P T M M₁ : List ℕ) (a k : ℕ) (M' K' D' : List ℕ) (r : Option ℕ) → Marked M M₁ → (get_or M₁ k 0 ≡ 0 → ⊥) → Draining W P T M₁ a M' K' D' r → Exploring W P T M a k M' K' D' r
unfolding Marked
explored_drained W P T M M₁ a k M' K' D' None m n d = d
explored_drained W P T M M₁ a k M' K' D' (Some q) m n d = record { search = d.search; kept = marked_then M M₁ M' m d.kept; met = d.kept k n }

-- an argument that leads to something done is settled, and so is one that leads nowhere
pub settled_open : (W : List Word) (T M : List ℕ) (c : ℕ) → Ends W T c → Settled T M (var_of (get_or W c Bad))
unfolding Settled
settled_open W T M c e b = absurd (e.free b)

pub settled_done : (W : List Word) (T M : List ℕ) (c j m : ℕ) → Leads W T c j → m ≡ get_or M j 0 → (m ≡ 0 → ⊥) → (m ≡ 1 → ⊥) → Settled T M (var_of (get_or W c Bad))
unfolding Settled
settled_done W T M c j m l e n0 n1 b =
    let x : get_or M (cell_of T (var_of (get_or W c Bad)) / 256) 0 ≡ m = ap (λ (i : ℕ). get_or M i 0) l.app ∙ sym e in
    omega arith

pub leads_app : (W : List Word) (T : List ℕ) (a c j : ℕ) → Apps T a → Leads W T c j → j < a
leads_app W T a c j A l = subst (λ (z : ℕ). z < a) l.app (apps_at_lem T a A (rep T (var_of (get_or W c Bad))) l.bound)

-- while an application is not met, the stack has room for it
pub stack_room : (a j : ℕ) (M : List ℕ) → j < a → get_or M j 0 ≡ 0 → (W : List Word) (P T K D : List ℕ) (h q : ℕ) → Search W P T M K D a h q → h < a
stack_room a j M l z W P T K D h q S = omega (arith, S.count, S.two, some a l)
  where
    some : (b : ℕ) → j < b → 0 < whites b M
    some b k = whites_some b j M k z

pub explored_of : (W : List Word) (P T M : List ℕ) (a k : ℕ) (M' K' D' : List ℕ) (o : Option ℕ) (q : ℕ) → o ≡ Some q → Exploring W P T M a k M' K' D' o → Explored W P T M a k M' K' D' q
explored_of W P T M a k M' K' D' o q e x = subst (Exploring W P T M a k M' K' D') e x

pub cyclic_of : (W : List Word) (P T M : List ℕ) (a k : ℕ) (M' K' D' : List ℕ) (o : Option ℕ) → o ≡ None → Exploring W P T M a k M' K' D' o → Cyclic W P T
cyclic_of W P T M a k M' K' D' o e x = subst (Exploring W P T M a k M' K' D') e x

-- the applications below k + 1 are met when those below k are, and k
pub met_more : (M M' : List ℕ) (k : ℕ) → Marked M M' → ((i : ℕ) → i < k → get_or M i 0 ≡ 0 → ⊥) → (get_or M' k 0 ≡ 0 → ⊥) → (i : ℕ) → i < k + 1 → get_or M' i 0 ≡ 0 → ⊥
unfolding Marked
met_more M M' k m h n i l = go (ℕ_discrete i k)
  where
    go : Dec (i ≡ k) → get_or M' i 0 ≡ 0 → ⊥
    go (yes e) z = n (ap (λ (x : ℕ). get_or M' x 0) (sym e) ∙ z)
    go (no d) z = m i (h i (omega arith)) z

-- an application leaves the stack, and the argument that led to it is passed
module _ (W : List Word) (P T M K D : List ℕ) (a h q : ℕ) (S : Search W P T M K D a h q) (top k i : ℕ) (et : top + 1 ≡ h) (ek : k ≡ get_or K top 0) where
  led : 0 < top → Leads W T (get_or P (get_or K (top - 1) 0) 0 + 3 + get_or D (top - 1) 0) k
  led p =
      let e : top - 1 + 1 ≡ top = omega arith in
      subst (Leads W T (get_or P (get_or K (top - 1) 0) 0 + 3 + get_or D (top - 1) 0)) (ap (λ (x : ℕ). get_or K x 0) e ∙ sym ek) (S.links (top - 1) (omega arith))

  pub led_inside : 0 < top → get_or D (top - 1) 0 < length W
  led_inside p = omega (arith, var_inside W (get_or P (get_or K (top - 1) 0) 0 + 3 + get_or D (top - 1) 0) (led p).var)

  module _ (ei : i ≡ get_or D top 0) (v : is_var (get_or W (get_or P k 0 + 3 + i) Bad) ≡ false) (A : Apps T a) (M' : List ℕ) (sm : Stored M k q M') (lm : k < length M) (D' : List ℕ) (some : 0 < top → Stored D (top - 1) (get_or D (top - 1) 0 + 1) D') (none : top ≡ 0 → D' ≡ D) (ld : top ≤ length D) where
    off : Search W P T M' K D a top (q + 1)
    off = popped W P T M K D a h q S top k i et ek ei v A M' sm lm

    pub passed : Search W P T M' K D' a top (q + 1)
    passed = go (dec_lt 0 top)
      where
        go : Dec (0 < top) → Search W P T M' K D' a top (q + 1)
        go (yes p) =
            let r : get_or M' k 0 ≡ q = stored_same 0 sm lm in
            advanced W P T M' K D a top (q + 1) off (top - 1) (get_or K (top - 1) 0) (get_or D (top - 1) 0) (omega arith) refl refl (led p).var (settled_done W T M' _ k (get_or M' k 0) (led p) refl (λ z. omega (arith, S.two)) (λ z. omega (arith, S.two))) D' (some p) (omega arith)
        go (no n) = subst (λ (l : List ℕ). Search W P T M' K l a top (q + 1)) (sym (none (omega arith))) off
