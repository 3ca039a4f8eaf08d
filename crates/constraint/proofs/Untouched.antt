-- A variable that no constraint mentions stays alone in its class and unbound.
use mathlib.Core.Path.{◌≡◌, refl, sym, ◌∙◌}
use mathlib.Core.Logic.{inl, inr, ite, if_neg}
use mathlib.Core.List.{List, [], ◌∷◌, ◌++◌}
use mathlib.Core.Option.{Option, some, none}
use Prim.Native.Nat.{ℕ, zero, suc}
use native.Mathlib.Decide.{ℕ_discrete}
use Rattle.constraint.specs.Tree.{Label, label_dec}
use Rattle.constraint.specs.Constraint.{ctrue, cfail, ceq, capp, Store, In, vars, vars_all}
use Rattle.constraint.specs.Solve.{Bnd, free, fun, Bound, find, remove, St, untold, swap, pairs, again, clash?, on_eq, on_app, tell_all}
use Rattle.constraint.proofs.Lists.{In-append}

module _ (x : ℕ) where
  abbrev NotIn : List ℕ → Type 0
  NotIn l = In x l → ⊥

  abbrev NoneB : List Bound → Type 0
  NoneB [] = Unit {0}
  NoneB (b ∷ bs) = (x ≡ b.0 → ⊥) × NotIn b.2 × NoneB bs

  abbrev NoneT : Bnd → Type 0
  NoneT free = Unit {0}
  NoneT (fun f ys) = NotIn ys

  pub record Without (s : St) : Type 0 where
    pub self : s.rep x ≡ x
    pub only : (z : ℕ) → s.rep z ≡ x → z ≡ x
    pub bound : NoneB s.bs

  find_none : (v : ℕ) (bs : List Bound) → NoneB bs → NoneT (find v bs)
  find_none v [] h = tt
  find_none v (b ∷ bs) h = go (ℕ_discrete v b.0) (find_none v bs h.2)
    where
      go : (d : Dec (v ≡ b.0)) → NoneT (find v bs) → NoneT (ite d (fun b.1 b.2) (find v bs))
      go (yes e) ih = h.1
      go (no n) ih = ih

  pub find_free : (bs : List Bound) → NoneB bs → find x bs ≡ free
  find_free [] h = refl
  find_free (b ∷ bs) h = if_neg (ℕ_discrete x b.0) h.0 _ _ ∙ find_free bs h.2

  remove_none : (v : ℕ) (bs : List Bound) → NoneB bs → NoneB (remove v bs)
  remove_none v [] h = tt
  remove_none v (b ∷ bs) h = go (ℕ_discrete v b.0) (remove_none v bs h.2)
    where
      go : (d : Dec (v ≡ b.0)) → NoneB (remove v bs) → NoneB (ite d (remove v bs) (b ∷ remove v bs))
      go (yes e) k = k
      go (no n) k = (h.0, h.1, k)

  pairs_none : (ys zs : List ℕ) → NotIn ys → NotIn zs → NotIn (vars_all (pairs ys zs))
  unfolding vars_all
  pairs_none [] [] h k i = i
  pairs_none [] (z ∷ zs) h k i = i
  pairs_none (y ∷ ys) [] h k i = i
  pairs_none (y ∷ ys) (z ∷ zs) h k (inl e) = h (inl e)
  pairs_none (y ∷ ys) (z ∷ zs) h k (inr (inl e)) = k (inl e)
  pairs_none (y ∷ ys) (z ∷ zs) h k (inr (inr i)) = pairs_none ys zs (λ j. h (inr j)) (λ j. k (inr j)) i

  again_none : (v : ℕ) (b : Bnd) → (x ≡ v → ⊥) → NoneT b → NotIn (vars_all (again v b))
  unfolding vars_all
  again_none v free n h i = i
  again_none v (fun f ys) n h i = elim i [ inl e ↦ n e | inr j ↦ elim ((In-append x ys []).0 j) [ inl k ↦ h k | inr k ↦ k ] ]

  clash_none : {f g : Label} (d : Dec (f ≡ g)) (p : Store) → NotIn (vars_all p) → NotIn (vars_all (clash? d p))
  unfolding vars_all
  clash_none (yes e) p h = h
  clash_none (no n) p h = λ i. i

  eq_none : (s : St) (a b : ℕ) (d : Dec (s.rep b ≡ s.rep a)) → Without s → (x ≡ a → ⊥) → (x ≡ b → ⊥) → Without (on_eq s a b d).0 × NotIn (vars_all (on_eq s a b d).1)
  unfolding vars_all
  eq_none s a b (yes e) w na nb = (w, λ i. i)
  eq_none s a b (no n) w na nb = (record { self = self'; only = λ z. only' z (ℕ_discrete (s.rep z) (s.rep a)); bound = remove_none (s.rep a) s.bs w.bound }, again_none (s.rep b) (find (s.rep a) s.bs) xb (find_none (s.rep a) s.bs w.bound))
    where
      xa : x ≡ s.rep a → ⊥
      xa e = na (sym (w.only a (sym e)))

      xb : x ≡ s.rep b → ⊥
      xb e = nb (sym (w.only b (sym e)))

      self' : swap (s.rep a) (s.rep b) (s.rep x) ≡ x
      self' = if_neg (ℕ_discrete (s.rep x) (s.rep a)) (λ e. xa (sym w.self ∙ e)) (s.rep b) (s.rep x) ∙ w.self

      only' : (z : ℕ) (d : Dec (s.rep z ≡ s.rep a)) → ite d (s.rep b) (s.rep z) ≡ x → z ≡ x
      only' z (yes i) e = absurd (xb (sym e))
      only' z (no m) e = w.only z e

  app_none : (s : St) (a : ℕ) (f : Label) (ys : List ℕ) (b : Bnd) → NoneT b → Without s → (x ≡ a → ⊥) → NotIn ys → Without (on_app s a f ys b).0 × NotIn (vars_all (on_app s a f ys b).1)
  unfolding vars_all
  app_none s a f ys free t w na ny = (record { self = w.self; only = w.only; bound = (λ e. na (sym (w.only a (sym e))), ny, w.bound) }, λ i. i)
  app_none s a f ys (fun g zs) t w na ny = (w, clash_none (label_dec f g) (pairs ys zs) (pairs_none ys zs ny t))

  abbrev pub Alone : Option St → Type 0
  Alone none = Unit {0}
  Alone (some s) = Without s

  vars_all_append : (p q : Store) → NotIn (vars_all p) → NotIn (vars_all q) → NotIn (vars_all (p ++ q))
  unfolding vars_all
  vars_all_append [] q h k i = k i
  vars_all_append (c ∷ p) q h k i = elim ((In-append x (vars c) (vars_all (p ++ q))).0 i) [ inl j ↦ h ((In-append x (vars c) (vars_all p)).1 (inl j)) | inr j ↦ vars_all_append p q (λ m. h ((In-append x (vars c) (vars_all p)).1 (inr m))) k j ]

  pub run_alone : (n : ℕ) (s : St) (p : Store) → Without s → NotIn (vars_all p) → Alone (tell_all n s p)
  unfolding tell_all vars_all
  run_alone zero s p w h = tt
  run_alone (suc n) s [] w h = w
  run_alone (suc n) s (cfail ∷ p) w h = tt
  run_alone (suc n) s (ctrue ∷ p) w h = run_alone n s p w h
  run_alone (suc n) s (ceq a b ∷ p) w h =
      let d = ℕ_discrete (s.rep b) (s.rep a) in
      let k = eq_none s a b d w (λ e. h (inl e)) (λ e. h (inr (inl e))) in
      run_alone n (on_eq s a b d).0 ((on_eq s a b d).1 ++ p) k.0 (vars_all_append (on_eq s a b d).1 p k.1 (λ i. h (inr (inr i))))
  run_alone (suc n) s (capp a f ys ∷ p) w h =
      let b = find (s.rep a) s.bs in
      let k = app_none s a f ys b (find_none (s.rep a) s.bs w.bound) w (λ e. h (inl e)) (λ i. h (inr ((In-append x ys (vars_all p)).1 (inl i)))) in
      run_alone n (on_app s a f ys b).0 ((on_app s a f ys b).1 ++ p) k.0 (vars_all_append (on_app s a f ys b).1 p k.1 (λ i. h (inr ((In-append x ys (vars_all p)).1 (inr i)))))

  pub start_alone : Without untold
  unfolding untold
  start_alone = record { self = refl; only = λ z e. e; bound = tt }
