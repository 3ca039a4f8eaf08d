-- Nodes side by side: what holds of a list and of its parts.
use mathlib.Core.Path.{◌≡◌, refl, ap, sym, ◌∙◌, subst}
use mathlib.Core.Logic.{◌↔◌, ◌⊎◌, inl, inr}
use mathlib.Core.List.{List, [], ◌∷◌, ◌++◌, append_assoc}
use Prim.Native.Nat.{ℕ}
use Rattle.constraint.specs.Constraint.{Asg, In}
use Rattle.constraint.proofs.Lists.{In-append}
use Rattle.akl.specs.Syntax.{Stmt}
use Rattle.akl.specs.Configuration.{Kind, Node, Nodes, nil, cons, ◌+n◌, one}
use Rattle.akl.specs.Stability.{locals, locals_all}
use Rattle.theory.specs.Meaning.{Model, Holds, nothing, HoldsWith, All, Any}
use Rattle.theory.specs.Scope.{Disjoint, Shared, SharedAll, Apart, Ok, OkAll}

pub ok_append : {k : Kind} (a b : Nodes k) (N : ℕ) (xs : List ℕ) → OkAll (a +n b) N xs ↔ (OkAll a N xs × OkAll b N xs)
unfolding ◌+n◌
ok_append nil b N xs = (λ h. (tt, h), λ h. h.1)
ok_append (cons n a) b N xs =
    let ih = ok_append a b N xs in
    (λ h. ((h.0, (ih.0 h.1).0), (ih.0 h.1).1), λ h. (h.0.0, ih.1 (h.0.1, h.1)))

pub ok_mid : {k : Kind} (l r : Nodes k) (n : Node k) (N : ℕ) (xs : List ℕ) → OkAll (l +n cons n r) N xs → Ok n N xs
ok_mid l r n N xs w = ((ok_append l (cons n r) N xs).0 w).1.0

pub shared_append : {k : Kind} (a b : Nodes k) (x : ℕ) → SharedAll (a +n b) x ↔ (SharedAll a x × SharedAll b x)
unfolding ◌+n◌
shared_append nil b x = (λ h. (tt, h), λ h. h.1)
shared_append (cons n a) b x =
    let ih = shared_append a b x in
    (λ h. ((h.0, (ih.0 h.1).0), (ih.0 h.1).1), λ h. (h.0.0, ih.1 (h.0.1, h.1)))

pub locals_append : {k : Kind} (a b : Nodes k) → locals_all (a +n b) ≡ locals_all a ++ locals_all b
unfolding ◌+n◌ locals
locals_append nil b = refl
locals_append (cons n a) b = ap (λ (z : List ℕ). locals n ++ z) (locals_append a b) ∙ sym (append_assoc (locals n) (locals_all a) (locals_all b))

pub locals_In : {k : Kind} (a b : Nodes k) (x : ℕ) → In x (locals_all (a +n b)) ↔ (In x (locals_all a) ⊎ In x (locals_all b))
locals_In a b x =
    let e = locals_append a b in
    (λ i. (In-append x (locals_all a) (locals_all b)).0 (subst (In x) e i), λ h. subst (In x) (sym e) ((In-append x (locals_all a) (locals_all b)).1 h))

pub apart_append : {k : Kind} (a b : Nodes k) → Apart (a +n b) ↔ (Apart a × Apart b × Disjoint (locals_all a) (locals_all b))
unfolding ◌+n◌ locals
apart_append nil b = (λ h. (tt, h, λ x i j. i), λ h. h.1)
apart_append (cons n a) b = (
  λ h. let k = (apart_append a b).0 h.1 in ((λ x i j. h.0 x i ((locals_In a b x).1 (inl j)), k.0), k.1, λ x i j. elim ((In-append x (locals n) (locals_all a)).0 i) [ inl m ↦ h.0 x m ((locals_In a b x).1 (inr j)) | inr m ↦ k.2 x m j ]),
  λ h. (λ x i j. elim ((locals_In a b x).0 j) [ inl m ↦ h.0.0 x i m | inr m ↦ h.2 x ((In-append x (locals n) (locals_all a)).1 (inl i)) m ], (apart_append a b).1 (h.0.1, h.1, λ x i j. h.2 x ((In-append x (locals n) (locals_all a)).1 (inr i)) j)),
)

module _ (Q : Model) (q : ℕ) (ρ : Asg) where
  pub all_append : {k : Kind} (a b : Nodes k) → All (a +n b) Q q ρ ↔ (All a Q q ρ × All b Q q ρ)
  unfolding ◌+n◌
  all_append nil b = (λ h. (tt, h), λ h. h.1)
  all_append (cons n a) b =
      let ih = all_append a b in
      (λ h. ((h.0, (ih.0 h.1).0), (ih.0 h.1).1), λ h. (h.0.0, ih.1 (h.0.1, h.1)))

  pub any_append : {k : Kind} (a b : Nodes k) (s : Stmt) → Any (a +n b) Q q ρ s ↔ (Any a Q q ρ s ⊎ Any b Q q ρ s)
  unfolding ◌+n◌
  any_append nil b s = (λ h. inr h, λ h. elim h [ inl e ↦ absurd e | inr i ↦ i ])
  any_append (cons n a) b s =
      let ih = any_append a b s in
      (λ h. elim h [ inl e ↦ inl (inl e) | inr i ↦ elim (ih.0 i) [ inl j ↦ inl (inr j) | inr j ↦ inr j ] ], λ h. elim h [ inl i ↦ elim i [ inl e ↦ inl e | inr j ↦ inr (ih.1 (inl j)) ] | inr j ↦ inr (ih.1 (inr j)) ])

  -- one in the middle is replaced
  pub all_mid : {k : Kind} (l r : Nodes k) (n n' : Node k) → (HoldsWith n Q q ρ nothing → HoldsWith n' Q q ρ nothing) → All (l +n cons n r) Q q ρ → All (l +n cons n' r) Q q ρ
  all_mid l r n n' f h =
      let k = (all_append l (cons n r)).0 h in
      (all_append l (cons n' r)).1 (k.0, (f k.1.0, k.1.1))

  pub any_mid : {k : Kind} (l r : Nodes k) (n n' : Node k) (s : Stmt) → (HoldsWith n Q q ρ s → HoldsWith n' Q q ρ s) → Any (l +n cons n r) Q q ρ s → Any (l +n cons n' r) Q q ρ s
  any_mid l r n n' s f h = (any_append l (cons n' r) s).1 (elim ((any_append l (cons n r) s).0 h) [ inl i ↦ inl i | inr j ↦ inr (elim j [ inl e ↦ inl (f e) | inr m ↦ inr m ]) ])
