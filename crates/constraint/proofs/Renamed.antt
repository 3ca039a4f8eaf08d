-- Quiet does not depend on the numbers of the locals, so that the decision may rename those that occur elsewhere.
use mathlib.Core.Path.{◌≡◌, refl, ap, sym, ◌∙◌, subst}
use mathlib.Core.Logic.{◌↔◌, inl, inr}
use mathlib.Core.List.{List, [], ◌∷◌, ◌++◌, map}
use mathlib.Core.Bool.{Bool, true, false}
use Prim.Native.Nat.{ℕ, ◌+◌, ◌-◌, ◌<◌, ◌≤◌}
use native.Mathlib.Omega.{arith}
use lib.Dec.{T}
use Rattle.constraint.specs.Tree.{node, fcons}
use Rattle.constraint.specs.Constraint.{Con, ctrue, cfail, ceq, capp, map_con, Store, Asg, trees, Sat, Sats, In, Quiet, vars, vars_all, Fresh}
use Rattle.constraint.specs.Solve.{elem, top, rename, quiet?}
use Rattle.constraint.proofs.Lists.{elem_In, In-append, map_In, map_out}
use Rattle.constraint.proofs.Trees.{dec_in, sat_agree}
use Rattle.constraint.proofs.Entail.{if, if_yes, if_no}
use Rattle.constraint.proofs.Decision.{quiet_fresh_iff}

top_below : (x : ℕ) (l : List ℕ) → In x l → x < top l
unfolding top
top_below x [] i = elim i [ ]
top_below x (y ∷ l) (inl e) = rw e (omega arith)
top_below x (y ∷ l) (inr i) = omega (arith, top_below x l i)

-- an assignment of a renamed constraint is one of the constraint, read through the names
trees_map : (ρ : Asg) (r : ℕ → ℕ) (ys : List ℕ) → trees ρ (map r ys) ≡ trees (λ x. ρ (r x)) ys
trees_map ρ r [] = refl
trees_map ρ r (y ∷ ys) = ap (fcons (ρ (r y))) (trees_map ρ r ys)

sat_map : (ρ : Asg) (r : ℕ → ℕ) (c : Con ℕ) → Sat ρ (map_con r c) ↔ Sat (λ x. ρ (r x)) c
sat_map ρ r ctrue = (λ h. h, λ h. h)
sat_map ρ r cfail = (λ h. h, λ h. h)
sat_map ρ r (ceq x y) = (λ h. h, λ h. h)
sat_map ρ r (capp x f ys) = (λ h. h ∙ ap (node f) (trees_map ρ r ys), λ h. h ∙ ap (node f) (sym (trees_map ρ r ys)))

-- ρ of the renamed store, ρ' of the store itself: they agree on what occurs
moved : (r : ℕ → ℕ) (ρ ρ' : Asg) (σ : Store) → ((x : ℕ) → In x (vars_all σ) → ρ (r x) ≡ ρ' x) → Sats ρ (map (map_con r) σ) ↔ Sats ρ' σ
unfolding vars_all
moved r ρ ρ' [] h = (λ s. tt, λ s. tt)
moved r ρ ρ' (c ∷ σ) h =
    let ih = moved r ρ ρ' σ (λ x i. h x ((In-append x (vars c) (vars_all σ)).1 (inr i))) in
    let k : (x : ℕ) → In x (vars c) → ρ (r x) ≡ ρ' x = λ x i. h x ((In-append x (vars c) (vars_all σ)).1 (inl i)) in
    (λ s. (sat_agree (λ x. ρ (r x)) ρ' c k ((sat_map ρ r c).0 s.0), ih.0 s.1), λ s. ((sat_map ρ r c).1 (sat_agree ρ' (λ x. ρ (r x)) c (λ x i. sym (k x i)) s.0), ih.1 s.1))

module _ (vs : List ℕ) (k : ℕ) where
  rename_in : (x : ℕ) → In x vs → rename vs k x ≡ k + x
  unfolding rename
  rename_in x i = go (elem x vs) ((elem_In x vs).1 i)
    where
      go : (b : Bool) → T b → elim b as (λ c. ℕ) [ true ↦ k + x | false ↦ x ] ≡ k + x
      go false t = elim t [ ]
      go true t = refl

  rename_out : (x : ℕ) → (In x vs → ⊥) → rename vs k x ≡ x
  unfolding rename
  rename_out x n = go (elem x vs) (λ t. n ((elem_In x vs).0 t))
    where
      go : (b : Bool) → (T b → ⊥) → elim b as (λ c. ℕ) [ true ↦ k + x | false ↦ x ] ≡ x
      go true m = absurd (m tt)
      go false m = refl

  new : List ℕ
  new = map (rename vs k) vs

  new_in : (x : ℕ) → In x vs → In (k + x) new
  unfolding new
  new_in x i = subst (λ y. In y new) (rename_in x i) (map_In (rename vs k) x vs i)

  new_high : (z : ℕ) → In z new → k ≤ z
  unfolding new
  new_high z i =
      let w = map_out (rename vs k) z vs i in
      let e : z ≡ k + w.0 = w.2 ∙ rename_in w.0 w.1 in
      omega arith

  module _ (env σ : Store) (low : (x : ℕ) → In x (vars_all σ) → x < k) where
    to_it : Quiet new env (map (map_con (rename vs k)) σ) → Quiet vs env σ
    to_it q ρ s = (ρ'', λ x n. sym (if_no (dec_in x vs) (ρ' (k + x)) (ρ x) n), (moved (rename vs k) ρ' ρ'' σ (λ x i. agree x (low x i) (dec_in x vs))).0 (q ρ s).2)
      where
        ρ' : Asg
        ρ' = (q ρ s).0

        ρ'' : Asg
        ρ'' x = if (dec_in x vs) (ρ' (k + x)) (ρ x)

        agree : (x : ℕ) → x < k → Dec (In x vs) → ρ' (rename vs k x) ≡ ρ'' x
        agree x l (yes i) = ap ρ' (rename_in x i) ∙ sym (if_yes (dec_in x vs) (ρ' (k + x)) (ρ x) i)
        agree x l (no n) = ap ρ' (rename_out x n) ∙ sym ((q ρ s).1 x (λ j. below x l j)) ∙ sym (if_no (dec_in x vs) (ρ' (k + x)) (ρ x) n)
          where
            below : (y : ℕ) → y < k → In y new → ⊥
            below y l j = omega (arith, new_high y j)

    from_it : Quiet vs env σ → Quiet new env (map (map_con (rename vs k)) σ)
    from_it q ρ s = (ρ'', λ x n. sym (if_no (dec_in x new) (ρ' (x - k)) (ρ x) n), (moved (rename vs k) ρ'' ρ' σ (λ x i. agree x (low x i) (dec_in x vs))).1 (q ρ s).2)
      where
        ρ' : Asg
        ρ' = (q ρ s).0

        ρ'' : Asg
        ρ'' x = if (dec_in x new) (ρ' (x - k)) (ρ x)

        agree : (x : ℕ) → x < k → Dec (In x vs) → ρ'' (rename vs k x) ≡ ρ' x
        agree x l (yes i) = ap ρ'' (rename_in x i) ∙ if_yes (dec_in (k + x) new) (ρ' (k + x - k)) (ρ (k + x)) (new_in x i) ∙ ap ρ' back
          where
            back : k + x - k ≡ x
            back = omega arith
        agree x l (no n) = ap ρ'' (rename_out x n) ∙ if_no (dec_in x new) (ρ' (x - k)) (ρ x) (λ j. below x l j) ∙ (q ρ s).1 x n
          where
            below : (y : ℕ) → y < k → In y new → ⊥
            below y l j = omega (arith, new_high y j)

  fresh : (env : Store) → ((x : ℕ) → In x (vars_all env) → x < k) → Fresh new env
  unfolding vars_all
  fresh [] h = tt
  fresh (c ∷ env) h = (λ x i j. high x (h x ((In-append x (vars c) (vars_all env)).1 (inl i))) j, fresh env (λ x i. h x ((In-append x (vars c) (vars_all env)).1 (inr i))))
    where
      high : (y : ℕ) → y < k → In y new → ⊥
      high y l j = omega (arith, new_high y j)

-- Quiet, decided: for all locals, environments and stores.
pub quiet_iff : (vs : List ℕ) (env σ : Store) → T (quiet? vs env σ) ↔ Quiet vs env σ
unfolding quiet? new
quiet_iff vs env σ = (λ t. to_it vs k env σ lowσ (it.0 t), λ q. it.1 (from_it vs k env σ lowσ q))
  where
    k : ℕ
    k = top (vs ++ (vars_all env ++ vars_all σ))

    lowσ : (x : ℕ) → In x (vars_all σ) → x < k
    lowσ x i = top_below x _ ((In-append x vs (vars_all env ++ vars_all σ)).1 (inr ((In-append x (vars_all env) (vars_all σ)).1 (inr i))))

    lowe : (x : ℕ) → In x (vars_all env) → x < k
    lowe x i = top_below x _ ((In-append x vs (vars_all env ++ vars_all σ)).1 (inr ((In-append x (vars_all env) (vars_all σ)).1 (inl i))))

    it : T (quiet? vs env σ) ↔ Quiet (new vs k) env (map (map_con (rename vs k)) σ)
    it = quiet_fresh_iff (new vs k) env (map (map_con (rename vs k)) σ) (fresh vs k env lowe)
