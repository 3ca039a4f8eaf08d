-- One law for each move of the search. Assumes nothing.
use mathlib.Core.Path.{◌≡◌, refl, ap, ap₂, sym, ◌∙◌, subst}
use mathlib.Core.Logic.{◌⊎◌, inl, inr}
use mathlib.Core.List.{List, [], ◌∷◌, ◌++◌, append_assoc, append-nil}
use Prim.Native.Nat.{ℕ, zero, suc, ◌+◌, ◌/◌, ◌<◌}
use native.Mathlib.Omega.{arith}
use lib.ListN.{length, get_or}
use Rattle.constraint.specs.Constraint.{In}
use Rattle.mem_words.specs.declared.Word.{Word}
use Rattle.mem_numbers.specs.Stored.{Stored, stored_same, stored_other}
use Rattle.solve_cells.specs.Cells.{rep}
use Rattle.solve_classes.specs.Means.{Apps}
use Rattle.solve_fields.specs.Read.{args_at}
use Rattle.solve_explores.specs.Search.{cell_of, Acyclic}
use Rattle.answer_walk.specs.Stack.{left_at, On, Child, Linked}
use Rattle.answer_walk.proofs.Stacks.{left_all, linked_none, linked_push, linked_room}
use Rattle.answer_order.specs.Order.{left_of, lefts, Part, BoundTo, Going, Open}

-- ---------------------------------------------------------------------------------------------
-- Membership.

in_right : (y : ℕ) (a b : List ℕ) → In y b → In y (a ++ b)
in_right y [] b i = i
in_right y (x ∷ a) b i = inr (in_right y a b i)

in_end : (y z : ℕ) (a : List ℕ) → In y (a ++ (z ∷ [])) → In y a ⊎ (y ≡ z)
in_end y z [] (inl e) = inr e
in_end y z [] (inr i) = absurd i
in_end y z (x ∷ a) (inl e) = inl (inl e)
in_end y z (x ∷ a) (inr i) = go (in_end y z a i)
  where
    go : In y a ⊎ (y ≡ z) → ((y ≡ x) ⊎ In y a) ⊎ (y ≡ z)
    go (inl j) = inl (inr j)
    go (inr e) = inr e

below : {L X : List ℕ} {h v : ℕ} → Stored L h v X → (i : ℕ) → i < h → get_or X i 0 ≡ get_or L i 0
below {L} {X} {h} {v} s i l = stored_other i 0 s (λ e. omega arith)

-- ---------------------------------------------------------------------------------------------
-- What is left, after each move.

module _ (W : List Word) (P : List ℕ) where
  left_same : (I K I' K' : List ℕ) (i : ℕ) → get_or I' i 0 ≡ get_or I i 0 → get_or K' i 0 ≡ get_or K i 0 → left_of W P I' K' i ≡ left_of W P I K i
  unfolding left_of
  left_same I K I' K' i a b = ap₂ (λ (j n : ℕ). left_at W (get_or P j 0) n) a b

  pub lefts_kept : (I K I' K' : List ℕ) (h : ℕ) → ((i : ℕ) → i < h → get_or I' i 0 ≡ get_or I i 0) → ((i : ℕ) → i < h → get_or K' i 0 ≡ get_or K i 0) → lefts W P I' K' h ≡ lefts W P I K h
  unfolding lefts
  lefts_kept I K I' K' zero a b = refl
  lefts_kept I K I' K' (suc h) a b = ap₂ (λ (l : List ℕ) (fs : List (List ℕ)). l ∷ fs) (left_same I K I' K' h (a h (omega arith)) (b h (omega arith))) (lefts_kept I K I' K' h (λ i l. a i (omega arith)) (λ i l. b i (omega arith)))

  left_push : {I K I' K' : List ℕ} {h k : ℕ} → Stored I h k I' → Stored K h 0 K' → h < length I → h < length K → left_of W P I' K' h ≡ args_at W (get_or P k 0)
  unfolding left_of
  left_push {I} {K} {I'} {K'} {h} {k} a b l m = ap₂ (λ (j n : ℕ). left_at W (get_or P j 0) n) (stored_same 0 a l) (stored_same 0 b m) ∙ left_all W (get_or P k 0)

  pub lefts_push : {I K I' K' : List ℕ} {h k : ℕ} → Stored I h k I' → Stored K h 0 K' → h < length I → h < length K → lefts W P I' K' (h + 1) ≡ args_at W (get_or P k 0) ∷ lefts W P I K h
  unfolding lefts
  lefts_push {I} {K} {I'} {K'} {h} {k} a b l m =
      let n : h + 1 ≡ suc h = omega arith in
      ap (lefts W P I' K') n ∙ ap₂ (λ (y : List ℕ) (fs : List (List ℕ)). y ∷ fs) (left_push a b l m) (lefts_kept I K I' K' h (below a) (below b))

  left_next : (I : List ℕ) {K K' : List ℕ} {h n : ℕ} → Stored K h n K' → h < length K → left_of W P I K' h ≡ left_at W (get_or P (get_or I h 0) 0) n
  unfolding left_of
  left_next I {K} {K'} {h} {n} b m = ap (left_at W (get_or P (get_or I h 0) 0)) (stored_same 0 b m)

  pub lefts_next : (I : List ℕ) {K K' : List ℕ} {h n : ℕ} → Stored K h n K' → h < length K → lefts W P I K' (suc h) ≡ left_at W (get_or P (get_or I h 0) 0) n ∷ lefts W P I K h
  unfolding lefts
  lefts_next I {K} {K'} {h} {n} b m = ap₂ (λ (y : List ℕ) (fs : List (List ℕ)). y ∷ fs) (left_next I b m) (lefts_kept I K I K' h (λ i l. refl) (below b))

  pub lefts_top : (I K : List ℕ) (h : ℕ) → lefts W P I K (suc h) ≡ left_of W P I K h ∷ lefts W P I K h
  unfolding lefts
  lefts_top I K h = refl

-- ---------------------------------------------------------------------------------------------
-- The moves.

module _ (W : List Word) (P T : List ℕ) (x₀ : ℕ) where
  part_map : {Q R : ℕ → Type 0} {k : ℕ} {l : List ℕ} → ((y : ℕ) → Q y → R y) → Part Q W P k l → Part R W P k l
  part_map g p = record { before = p.before; args = p.args; each = λ y i. g y (p.each y i) }

  -- what is done stays done
  pub going_map : (Q R : ℕ → Type 0) (I K : List ℕ) (h y : ℕ) → ((z : ℕ) → Q z → R z) → Going Q W P T I K x₀ h y → Going R W P T I K x₀ h y
  unfolding Going
  going_map Q R I K zero y g e = e
  going_map Q R I K (suc h) y g (x, p, b, r) = (x, part_map g p, b, going_map Q R I K h x g r)

  part_at : {Q : ℕ → Type 0} {k k' : ℕ} {l l' : List ℕ} → k' ≡ k → l' ≡ l → Part Q W P k l → Part Q W P k' l'
  part_at {Q} {k} {k'} {l} {l'} a b p = subst (λ (z : ℕ). Part Q W P z l') (sym a) (subst (Part Q W P k) (sym b) p)

  -- it depends on the first h entries alone
  pub going_kept : (Q : ℕ → Type 0) (I K I' K' : List ℕ) (h y : ℕ) → ((i : ℕ) → i < h → get_or I' i 0 ≡ get_or I i 0) → ((i : ℕ) → i < h → get_or K' i 0 ≡ get_or K i 0) → Going Q W P T I K x₀ h y → Going Q W P T I' K' x₀ h y
  unfolding Going
  going_kept Q I K I' K' zero y a b e = e
  going_kept Q I K I' K' (suc h) y a b (x, p, c, r) = (x, part_at (a h (omega arith)) (ap (λ (l : List ℕ). y ∷ l) (left_same W P I K I' K' h (a h (omega arith)) (b h (omega arith)))) p, subst (BoundTo T x) (sym (a h (omega arith))) c, going_kept Q I K I' K' h x (λ i l. a i (omega arith)) (λ i l. b i (omega arith)) r)

  -- what is to be visited is done
  pub visited : (Q : ℕ → Type 0) (I K : List ℕ) (h y : ℕ) → Q y → Going Q W P T I K x₀ h y → Open Q W P T I K x₀ h
  unfolding Going Open
  visited Q I K zero y q e = subst Q e q
  visited Q I K (suc h) y q (x, p, b, r) = (x, record { before = p.before ++ (y ∷ []); args = p.args ∙ sym (append_assoc p.before (y ∷ []) (left_of W P I K h)); each = λ z i. at z (in_end z y p.before i) }, b, r)
    where
      at : (z : ℕ) → In z p.before ⊎ (z ≡ y) → Q z
      at z (inl i) = p.each z i
      at z (inr e) = subst Q (sym e) q

  -- its application is put onto the stack
  pub opened : {I K I' K' : List ℕ} {h k : ℕ} (Q : ℕ → Type 0) (y : ℕ) → BoundTo T y k → Stored I h k I' → Stored K h 0 K' → h < length I → h < length K → Going Q W P T I K x₀ h y → Open Q W P T I' K' x₀ (suc h)
  unfolding Open
  opened {I} {K} {I'} {K'} {h} {k} Q y b a d l m r = (y, part_at (stored_same 0 a l) (left_push W P a d l m) (record { before = []; args = refl; each = λ z i. absurd i }), subst (BoundTo T y) (sym (stored_same 0 a l)) b, going_kept Q I K I' K' h y (below a) (below d) r)

  -- the next argument of the top is to be visited
  pub next : (I : List ℕ) {K K' : List ℕ} {h n : ℕ} (y : ℕ) (Q : ℕ → Type 0) → left_of W P I K h ≡ y ∷ left_at W (get_or P (get_or I h 0) 0) n → Stored K h n K' → h < length K → Open Q W P T I K x₀ (suc h) → Going Q W P T I K' x₀ (suc h) y
  unfolding Going Open
  next I {K} {K'} {h} {n} y Q e b m (x, p, c, r) = (x, part_at refl (ap (λ (l : List ℕ). y ∷ l) (left_next W P I b m) ∙ sym e) p, c, going_kept Q I K I K' h x (λ i l. refl) (below b) r)

  -- the top has no argument left: all are done, and the variable that is bound to it is next
  pub closed_args : (I K : List ℕ) (h : ℕ) (Q : ℕ → Type 0) → left_of W P I K h ≡ [] → Open Q W P T I K x₀ (suc h) → (y : ℕ) → In y (args_at W (get_or P (get_or I h 0) 0)) → Q y
  unfolding Open
  closed_args I K h Q e (x, p, c, r) y i = p.each y (subst (In y) (p.args ∙ ap (λ (l : List ℕ). p.before ++ l) e ∙ append-nil p.before) i)

  pub top_of : (I K : List ℕ) (h : ℕ) (Q : ℕ → Type 0) → Open Q W P T I K x₀ (suc h) → (x : ℕ) × BoundTo T x (get_or I h 0) × Going Q W P T I K x₀ h x
  unfolding Open
  top_of I K h Q (x, p, c, r) = (x, c, r)

  pub root_begin : (Q : ℕ → Type 0) (I K : List ℕ) → Going Q W P T I K x₀ 0 x₀
  unfolding Going
  root_begin Q I K = refl

  pub root_done : (Q : ℕ → Type 0) (I K : List ℕ) → Open Q W P T I K x₀ 0 → Q x₀
  unfolding Open
  root_done Q I K q = q

  -- ---------------------------------------------------------------------------------------------
  -- The height: each application is that of an argument of the one below it.

  unfoldable places : List ℕ → ℕ → List ℕ
  places I zero = []
  places I (suc h) = get_or P (get_or I h 0) 0 ∷ places I h

  length_places : (I : List ℕ) (h : ℕ) → length (places I h) ≡ h
  unfolding places
  length_places I zero = refl
  length_places I (suc h) = ap suc (length_places I h)

  going_linked : (Q : ℕ → Type 0) (I K : List ℕ) (h y : ℕ) → Going Q W P T I K x₀ h y → Linked W P T (places I h) × Child W y (places I h)
  unfolding Going places
  going_linked Q I K zero y e = (linked_none W P T, tt)
  going_linked Q I K (suc h) y (x, p, c, r) =
      let g = going_linked Q I K h x r in
      let o : On W P T x (get_or P (get_or I h 0) 0) = record { bound = c.bound; args = ap (λ (z : ℕ). args_at W (get_or P z 0)) (sym c.app) } in
      (linked_push W P T x (get_or P (get_or I h 0) 0) (places I h) o g.1 g.0, subst (In y) (sym p.args) (in_right y p.before (y ∷ left_of W P I K h) (inl refl)))

  -- there is room for what is next
  pub room : (Q : ℕ → Type 0) (I K : List ℕ) (h : ℕ) {y k : ℕ} → Acyclic W P T → (a : ℕ) → Apps T a → BoundTo T y k → Going Q W P T I K x₀ h y → h < a
  room Q I K h {y} {k} A a ap' b r =
      let g = going_linked Q I K h y r in
      let o : On W P T y (get_or P (cell_of T y / 256) 0) = record { bound = b.bound; args = refl } in
      omega (arith, linked_room W P T A a ap' y (get_or P (cell_of T y / 256) 0) (places I h) o g.1 g.0, length_places I h)

  -- and an application is one of those there are
  pub app_low : {y k : ℕ} (a : ℕ) → Apps T a → BoundTo T y k → k < a
  unfolding Apps
  app_low {y} {k} a h b = subst (λ (z : ℕ). z < a) b.app (h (rep T y) b.bound)
