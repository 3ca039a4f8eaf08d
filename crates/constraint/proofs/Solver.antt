-- Telling a constraint keeps the assignments that satisfy state and constraints together, and ends within its bound.
use mathlib.Core.Path.{◌≡◌, refl, ap, sym, ◌∙◌}
use mathlib.Core.Logic.Iff
use mathlib.Core.Logic.{◌↔◌, ite, if_pos, if_neg}
use mathlib.Core.List.{List, [], ◌∷◌, ◌++◌}
use mathlib.Core.Option.{Option, some, none}
use Prim.Native.Nat.{ℕ, zero, suc, ◌+◌, ◌≤◌, ◌<◌, ◌*◌}
use native.Mathlib.Decide.{ℕ_discrete}
use native.Mathlib.Omega.{arith}
use lib.ListN.{length}
use Rattle.constraint.specs.Tree.{Label, label_dec, Tree, Forest, node, fnil, fcons}
use Rattle.constraint.specs.Constraint.{Con, ctrue, cfail, ceq, capp, Store, Asg, trees, Sat, Sats}
use Rattle.constraint.specs.Solve.{Bnd, free, fun}
use Rattle.constraint.proofs.Form.{form, Solves, build}
use Rattle.constraint.specs.Solve.{Bound, find, remove, St, merge, put, pairs, again, clash?, on_eq, on_app, tell_all, costs, held}
use Rattle.constraint.proofs.Entail.{sats_append}
use Rattle.constraint.proofs.Trees.{node_label, node_args}

-- the solutions of a state and of what is pending
abbrev Sol : Asg → St → Store → Type 0
Sol ρ s p = Solves ρ (form s) × Sats ρ p

find_remove_same : (x : ℕ) (bs : List Bound) → find x (remove x bs) ≡ free
find_remove_same x [] = refl
find_remove_same x (b ∷ bs) = go (ℕ_discrete x b.0) refl (find_remove_same x bs)
  where
    go : (d : Dec (x ≡ b.0)) → ℕ_discrete x b.0 ≡ d → find x (remove x bs) ≡ free → find x (ite d (remove x bs) (b ∷ remove x bs)) ≡ free
    go (yes e) q ih = ih
    go (no n) q ih = rw q ih

find_remove_other : (x a : ℕ) (bs : List Bound) → (x ≡ a → ⊥) → find x (remove a bs) ≡ find x bs
find_remove_other x a [] ne = refl
find_remove_other x a (b ∷ bs) ne = go (ℕ_discrete a b.0) (find_remove_other x a bs ne)
  where
    go : (d : Dec (a ≡ b.0)) → find x (remove a bs) ≡ find x bs → find x (ite d (remove a bs) (b ∷ remove a bs)) ≡ ite (ℕ_discrete x b.0) (fun b.1 b.2) (find x bs)
    go (yes e) ih = ih ∙ sym (if_neg (ℕ_discrete x b.0) (λ e'. ne (e' ∙ sym e)) _ _)
    go (no n) ih = ap (ite (ℕ_discrete x b.0) (fun b.1 b.2)) ih

bnd_cost : Bnd → ℕ
bnd_cost free = 0
bnd_cost (fun f ys) = 2 * length ys + 1

held_remove : (x : ℕ) (bs : List Bound) → bnd_cost (find x bs) + held (remove x bs) ≤ held bs
unfolding bnd_cost
held_remove x [] = omega arith
held_remove x (b ∷ bs) = go (ℕ_discrete x b.0) (held_remove x bs)
  where
    go : (d : Dec (x ≡ b.0)) → bnd_cost (find x bs) + held (remove x bs) ≤ held bs → bnd_cost (ite d (fun b.1 b.2) (find x bs)) + held (ite d (remove x bs) (b ∷ remove x bs)) ≤ 2 * length b.2 + 1 + held bs
    go (yes e) h = omega arith
    go (no n) h = omega arith

fnil≢ : {t : Tree} {ts : Forest} → fnil ≡ fcons t ts → ⊥
fnil≢ e = let z : ◌≡◌ {A = ℕ} 0 1 = cc in omega arith

pairs_sat : (ρ : Asg) (ys zs : List ℕ) → Sats ρ (pairs ys zs) ↔ (trees ρ ys ≡ trees ρ zs)
pairs_sat ρ [] [] = (λ s. refl, λ e. tt)
pairs_sat ρ [] (z ∷ zs) = (λ s. absurd s.0, λ e. absurd (fnil≢ e))
pairs_sat ρ (y ∷ ys) [] = (λ s. absurd s.0, λ e. absurd (fnil≢ (sym e)))
pairs_sat ρ (y ∷ ys) (z ∷ zs) =
    let ih = pairs_sat ρ ys zs in
    (λ s. rw (s.0, ih.0 s.1), λ e. (cc, ih.1 (cc)))

pairs_cost : (ys zs : List ℕ) → costs (pairs ys zs) ≤ 2 * length ys + 1
pairs_cost [] [] = omega arith
pairs_cost [] (z ∷ zs) = omega arith
pairs_cost (y ∷ ys) [] = omega arith
pairs_cost (y ∷ ys) (z ∷ zs) = omega (arith, pairs_cost ys zs)

costs_append : (p q : Store) → costs (p ++ q) ≡ costs p + costs q
costs_append [] q = omega arith
costs_append (c ∷ p) q = omega (arith, costs_append p q)

-- the two halves of a solution
Bd : Asg → ℕ → Bnd → Type 0
Bd ρ v free = Unit {0}
Bd ρ v (fun f ys) = ρ v ≡ node f (trees ρ ys)

-- a solution by halves: each variable has the tree of its representative, and each binding holds
abbrev Half₁ : Asg → St → Type 0
Half₁ ρ s = (x : ℕ) → ρ x ≡ ρ (s.rep x)

abbrev Half₂ : Asg → St → Type 0
Half₂ ρ s = (x : ℕ) → Bd ρ (s.rep x) (find (s.rep x) s.bs)

bd_of : (ρ : Asg) (v : ℕ) (b : Bnd) → ρ v ≡ build ρ (ρ v) b → Bd ρ v b
unfolding Bd
bd_of ρ v free e = tt
bd_of ρ v (fun f ys) e = e

build_of : (ρ : Asg) (v : ℕ) (b : Bnd) → Bd ρ v b → ρ v ≡ build ρ (ρ v) b
unfolding Bd
build_of ρ v free h = refl
build_of ρ v (fun f ys) h = h

halves : (ρ : Asg) (s : St) → Solves ρ (form s) ↔ (Half₁ ρ s × Half₂ ρ s)
halves ρ s = (λ h. (rp h, λ x. bd_of ρ (s.rep x) _ (at_rep h x)), λ h x. h.0 x ∙ build_of ρ (s.rep x) _ (h.1 x))
  where
    at_rep : Solves ρ (form s) → (x : ℕ) → ρ (s.rep x) ≡ build ρ (ρ (s.rep x)) (find (s.rep x) s.bs)
    at_rep h x = h (s.rep x) ∙ ap (λ v. build ρ (ρ v) (find v s.bs)) (s.idem x)

    rp : Solves ρ (form s) → (x : ℕ) → ρ x ≡ ρ (s.rep x)
    rp h x = h x ∙ sym (at_rep h x)

again_sat : (ρ : Asg) (v : ℕ) (b : Bnd) → Bd ρ v b ↔ Sats ρ (again v b)
unfolding Bd
again_sat ρ v free = (λ h. tt, λ h. tt)
again_sat ρ v (fun f ys) = (λ h. (h, tt), λ h. h.0)

bd_move : (ρ : Asg) (v w : ℕ) (b : Bnd) → ρ v ≡ ρ w → Bd ρ v b → Bd ρ w b
unfolding Bd
bd_move ρ v w free e h = tt
bd_move ρ v w (fun f ys) e h = sym e ∙ h

module _ (ρ : Asg) (s : St) (x y : ℕ) (ne : s.rep y ≡ s.rep x → ⊥) where
  abbrev s' : St
  s' = merge s (s.rep x) (s.rep y) (s.idem y) ne

  merge_to : Half₁ ρ s → Half₂ ρ s → ρ x ≡ ρ y → Half₁ ρ s' × Half₂ ρ s' × Sats ρ (again (s.rep y) (find (s.rep x) s.bs))
  merge_to h₁ h₂ e = (λ z. go₁ z (ℕ_discrete (s.rep z) (s.rep x)), λ z. go₂ z (ℕ_discrete (s.rep z) (s.rep x)), (again_sat ρ (s.rep y) _).0 (bd_move ρ (s.rep x) (s.rep y) _ ab (h₂ x)))
    where
      ab : ρ (s.rep x) ≡ ρ (s.rep y)
      ab = sym (h₁ x) ∙ e ∙ h₁ y

      other : (v : ℕ) → (v ≡ s.rep x → ⊥) → Bd ρ v (find v s.bs) → Bd ρ v (find v (remove (s.rep x) s.bs))
      other v n h = rw (find_remove_other v (s.rep x) s.bs n) h

      go₁ : (z : ℕ) (d : Dec (s.rep z ≡ s.rep x)) → ρ z ≡ ρ (ite d (s.rep y) (s.rep z))
      go₁ z (yes i) = h₁ z ∙ ap ρ i ∙ ab
      go₁ z (no n) = h₁ z

      go₂ : (z : ℕ) (d : Dec (s.rep z ≡ s.rep x)) → Bd ρ (ite d (s.rep y) (s.rep z)) (find (ite d (s.rep y) (s.rep z)) (remove (s.rep x) s.bs))
      go₂ z (yes i) = other (s.rep y) ne (h₂ y)
      go₂ z (no n) = other (s.rep z) n (h₂ z)

  merge_from : Half₁ ρ s' → Half₂ ρ s' → Sats ρ (again (s.rep y) (find (s.rep x) s.bs)) → Half₁ ρ s × Half₂ ρ s × (ρ x ≡ ρ y)
  merge_from h₁ h₂ p = (k₁, k₂, k₁ x ∙ ab ∙ sym (k₁ y))
    where
      ab : ρ (s.rep x) ≡ ρ (s.rep y)
      ab = h₁ (s.rep x) ∙ ap ρ (if_pos (ℕ_discrete (s.rep (s.rep x)) (s.rep x)) (s.idem x) _ _)

      k₁ : Half₁ ρ s
      k₁ z = go (ℕ_discrete (s.rep z) (s.rep x)) (h₁ z)
        where
          go : (d : Dec (s.rep z ≡ s.rep x)) → ρ z ≡ ρ (ite d (s.rep y) (s.rep z)) → ρ z ≡ ρ (s.rep z)
          go (yes i) e = e ∙ sym ab ∙ ap ρ (sym i)
          go (no n) e = e

      k₂ : Half₂ ρ s
      k₂ z = go (ℕ_discrete (s.rep z) (s.rep x)) (h₂ z)
        where
          go : (d : Dec (s.rep z ≡ s.rep x)) → Bd ρ (ite d (s.rep y) (s.rep z)) (find (ite d (s.rep y) (s.rep z)) (remove (s.rep x) s.bs)) → Bd ρ (s.rep z) (find (s.rep z) s.bs)
          go (yes i) e = rw i (bd_move ρ (s.rep y) (s.rep x) _ (sym ab) ((again_sat ρ (s.rep y) _).1 p))
          go (no n) e = rw find_remove_other at e

module _ (ρ : Asg) (s : St) (x : ℕ) (f : Label) (ys : List ℕ) where
  put_to : Half₁ ρ s → Half₂ ρ s → ρ x ≡ node f (trees ρ ys) → Half₂ ρ (put s (s.rep x) f ys)
  unfolding Bd
  put_to h₁ h₂ e z = go (ℕ_discrete (s.rep z) (s.rep x))
    where
      go : (d : Dec (s.rep z ≡ s.rep x)) → Bd ρ (s.rep z) (ite d (fun f ys) (find (s.rep z) s.bs))
      go (yes i) = ap ρ i ∙ sym (h₁ x) ∙ e
      go (no n) = h₂ z

  put_from : find (s.rep x) s.bs ≡ free → Half₁ ρ s → Half₂ ρ (put s (s.rep x) f ys) → Half₂ ρ s × (ρ x ≡ node f (trees ρ ys))
  unfolding Bd
  put_from fr h₁ h₂ = (λ z. go z (ℕ_discrete (s.rep z) (s.rep x)) (h₂ z), h₁ x ∙ here)
    where
      go : (z : ℕ) (d : Dec (s.rep z ≡ s.rep x)) → Bd ρ (s.rep z) (ite d (fun f ys) (find (s.rep z) s.bs)) → Bd ρ (s.rep z) (find (s.rep z) s.bs)
      go z (yes i) h = rw (i, fr) tt
      go z (no n) h = h

      here : ρ (s.rep x) ≡ node f (trees ρ ys)
      here = rw (if_pos (ℕ_discrete (s.rep x) (s.rep x)) refl (fun f ys) (find (s.rep x) s.bs)) at (h₂ x)

clash_sat : (ρ : Asg) (f g : Label) (ys zs : List ℕ) (d : Dec (f ≡ g)) → Sats ρ (clash? d (pairs ys zs)) ↔ (node f (trees ρ ys) ≡ node g (trees ρ zs))
clash_sat ρ f g ys zs (yes e) = (λ s. rw (e, (pairs_sat ρ ys zs).0 s), λ e'. (pairs_sat ρ ys zs).1 (node_args e'))
clash_sat ρ f g ys zs (no n) = (λ s. absurd s.0, λ e. absurd (n (node_label e)))

clash_cost : (f g : Label) (ys zs : List ℕ) (d : Dec (f ≡ g)) → costs (clash? d (pairs ys zs)) ≤ 2 * length ys + 1
clash_cost f g ys zs (yes e) = pairs_cost ys zs
clash_cost f g ys zs (no n) = omega arith

eq_step : (ρ : Asg) (s : St) (x y : ℕ) (d : Dec (s.rep y ≡ s.rep x)) → (Solves ρ (form s) × (ρ x ≡ ρ y)) ↔ Sol ρ (on_eq s x y d).0 (on_eq s x y d).1
eq_step ρ s x y (yes e) = (λ h. (h.0, tt), λ h. (h.0, ((halves ρ s).0 h.0).0 x ∙ ap ρ (sym e) ∙ sym (((halves ρ s).0 h.0).0 y)))
eq_step ρ s x y (no n) = (to_it, from_it)
  where
    t : St
    t = (on_eq s x y (no n)).0

    to_it : Solves ρ (form s) × (ρ x ≡ ρ y) → Solves ρ (form t) × Sats ρ (again (s.rep y) (find (s.rep x) s.bs))
    to_it h =
        let k = (halves ρ s).0 h.0 in
        let m = merge_to ρ s x y n k.0 k.1 h.1 in
        ((halves ρ t).1 (m.0, m.1), m.2)

    from_it : Solves ρ (form t) × Sats ρ (again (s.rep y) (find (s.rep x) s.bs)) → Solves ρ (form s) × (ρ x ≡ ρ y)
    from_it h =
        let k = (halves ρ t).0 h.0 in
        let m = merge_from ρ s x y n k.0 k.1 h.1 in
        ((halves ρ s).1 (m.0, m.1), m.2)

app_step : (ρ : Asg) (s : St) (x : ℕ) (f : Label) (ys : List ℕ) (b : Bnd) → find (s.rep x) s.bs ≡ b → (Solves ρ (form s) × (ρ x ≡ node f (trees ρ ys))) ↔ Sol ρ (on_app s x f ys b).0 (on_app s x f ys b).1
app_step ρ s x f ys free e = (to_it, from_it)
  where
    t : St
    t = put s (s.rep x) f ys

    to_it : Solves ρ (form s) × (ρ x ≡ node f (trees ρ ys)) → Sol ρ t []
    to_it h =
        let k = (halves ρ s).0 h.0 in
        ((halves ρ t).1 (k.0, put_to ρ s x f ys k.0 k.1 h.1), tt)

    from_it : Sol ρ t [] → Solves ρ (form s) × (ρ x ≡ node f (trees ρ ys))
    from_it h =
        let k = (halves ρ t).0 h.0 in
        let m = put_from ρ s x f ys e k.0 k.1 in
        ((halves ρ s).1 (k.0, m.0), m.1)
app_step ρ s x f ys (fun g zs) e =
    (λ h. (h.0, (clash_sat ρ f g ys zs (label_dec f g)).1 (sym h.1 ∙ bound h.0)), λ h. (h.0, bound h.0 ∙ sym ((clash_sat ρ f g ys zs (label_dec f g)).0 h.1)))
  where
    bound : Solves ρ (form s) → ρ x ≡ node g (trees ρ zs)
    bound h = h x ∙ ap (build ρ (ρ (s.rep x))) e

eq_cost : (s : St) (x y : ℕ) (d : Dec (s.rep y ≡ s.rep x)) → costs (on_eq s x y d).1 + held (on_eq s x y d).0.bs < 2 + held s.bs
unfolding bnd_cost
eq_cost s x y (yes e) = omega arith
eq_cost s x y (no n) = go (find (s.rep x) s.bs) (held_remove (s.rep x) s.bs)
  where
    go : (b : Bnd) → bnd_cost b + held (remove (s.rep x) s.bs) ≤ held s.bs → costs (again (s.rep y) b) + held (remove (s.rep x) s.bs) < 2 + held s.bs
    go free h = omega arith
    go (fun f ys) h = omega arith

app_cost : (s : St) (x : ℕ) (f : Label) (ys : List ℕ) (b : Bnd) → costs (on_app s x f ys b).1 + held (on_app s x f ys b).0.bs < 2 * length ys + 2 + held s.bs
app_cost s x f ys free = omega arith
app_cost s x f ys (fun g zs) = omega (arith, clash_cost f g ys zs (label_dec f g))

link : (ρ : Asg) (s t : St) (c : Con ℕ) (q p : Store) → (Solves ρ (form s) × Sat ρ c) ↔ Sol ρ t q → Sol ρ s (c ∷ p) ↔ Sol ρ t (q ++ p)
link ρ s t c q p e = (
  λ h. let k = e.0 (h.0, h.1.0) in (k.0, (sats_append ρ q p).1 (k.1, h.1.1)),
  λ h. let k = (sats_append ρ q p).0 h.1 in let m = e.1 (h.0, k.0) in (m.0, (m.1, k.1)),
)

-- what the solver says
unfoldable pub Means : Asg → Option St → Type 0
Means ρ none = ⊥
Means ρ (some s) = Solves ρ (form s)

pub run_ok : (n : ℕ) (s : St) (p : Store) → costs p + held s.bs < n → (ρ : Asg) → Sol ρ s p ↔ Means ρ (tell_all n s p)
unfolding tell_all Means
run_ok zero s p l ρ = absurd (omega arith)
run_ok (suc n) s [] l ρ = (λ h. h.0, λ h. (h, tt))
run_ok (suc n) s (ctrue ∷ p) l ρ =
    let ih = run_ok n s p (omega arith) ρ in
    (λ h. ih.0 (h.0, h.1.1), λ h. ((ih.1 h).0, (tt, (ih.1 h).1)))
run_ok (suc n) s (cfail ∷ p) l ρ = (λ h. h.1.0, λ h. absurd h)
run_ok (suc n) s (ceq x y ∷ p) l ρ =
    let d = ℕ_discrete (s.rep y) (s.rep x) in
    let t = on_eq s x y d in
    Iff.trans (link ρ s t.0 (ceq x y) t.1 p (eq_step ρ s x y d))
    (run_ok n t.0 (t.1 ++ p) (omega (arith, costs_append t.1 p, eq_cost s x y d)) ρ)
run_ok (suc n) s (capp x f ys ∷ p) l ρ =
    let b = find (s.rep x) s.bs in
    let t = on_app s x f ys b in
    Iff.trans (link ρ s t.0 (capp x f ys) t.1 p (app_step ρ s x f ys b refl))
    (run_ok n t.0 (t.1 ++ p) (omega (arith, costs_append t.1 p, app_cost s x f ys b)) ρ)
