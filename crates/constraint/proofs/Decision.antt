-- The decisions decide what document 01 means by satisfiable and quiet, by the trees that satisfy the constraints.
use mathlib.Core.Path.{◌≡◌, refl, ap, sym, ◌∙◌, subst}
use mathlib.Core.Logic.{◌↔◌, ◌⊎◌, inl, inr, ite}
use mathlib.Core.List.{List, [], ◌∷◌, ◌++◌, map}
use mathlib.Core.Bool.{Bool, true, false, ◌&&◌, not}
use mathlib.Core.Option.{Option, some, none}
use Prim.Native.Nat.{ℕ, suc, ◌+◌}
use native.Mathlib.Decide.{ℕ_discrete}
use native.Mathlib.Omega.{arith}
use lib.Dec.{T, eqb}
use Rattle.constraint.specs.Tree.{node, fnil}
use Rattle.constraint.specs.Constraint.{Store, Asg, Sats, Satisfiable, In, Quiet, vars_all, Fresh}
use Rattle.constraint.specs.Solve.{Bnd, free, fun, find, St, untold, costs, held, solve, elem, nub, distinct, keep, all?, acyclic?, sat_of, satisfiable?, free?, parameter?, untouched?, then_quiet?, after_quiet?, quiet_fresh?}
use Rattle.constraint.proofs.Form.{form, at, Solves, Ranked, Stuck, Of}
use Rattle.constraint.proofs.Lists.{and_T, not_T, eqb_T, elem_In, keep_In, all_In, distinct_inj, inj_distinct, nub_In, nub_distinct, keep_distinct, In-append}
use Rattle.constraint.proofs.Trees.{dec_in, sats_off}
use Rattle.constraint.proofs.Forms.{stuck_none, solution, solution_solves}
use Rattle.constraint.proofs.Entail.{sats_append, Par, Apart, quiet_if, quiet_keeps, quiet_apart}
use Rattle.constraint.proofs.Solver.{Means, run_ok}
use Rattle.constraint.proofs.Cycle.{cycle_right}
use Rattle.constraint.proofs.Untouched.{Without, Alone, run_alone, start_alone, find_free}

solve_ok : (s : St) (p : Store) (ρ : Asg) → (Solves ρ (form s) × Sats ρ p) ↔ Means ρ (solve s p)
unfolding solve
solve_ok s p ρ = run_ok (suc (costs p + held s.bs)) s p (omega arith) ρ

-- telling a store to a state s gives exactly the solutions of both; from the untold, those of the store
pub start_ok : (p : Store) (ρ : Asg) → Sats ρ p ↔ Means ρ (solve untold p)
unfolding untold
start_ok p ρ = (λ h. (solve_ok untold p ρ).0 (λ x. refl, h), λ h. ((solve_ok untold p ρ).1 h).1)

-- some tree for every variable
leaves : Asg
leaves x = node [] fnil

-- Satisfiable, decided.
pub satisfiable_iff : (σ : Store) → T (satisfiable? σ) ↔ Satisfiable σ
unfolding satisfiable? sat_of Means
satisfiable_iff σ = go (solve untold σ) (start_ok σ)
  where
    go : (o : Option St) → ((ρ : Asg) → Sats ρ σ ↔ Means ρ o) → T (sat_of o) ↔ Satisfiable σ
    go none h = (λ t. absurd t, λ w. (h w.0).0 w.1)
    go (some s) h = cyc (cycle_right s)
      where
        cyc : (T (acyclic? s) × Ranked (form s)) ⊎ ((T (acyclic? s) → ⊥) × Stuck (form s)) → T (acyclic? s) ↔ Satisfiable σ
        cyc (inl r) = (λ t. (solution (form s) r.1 leaves, (h _).1 (solution_solves (form s) r.1 leaves)), λ w. r.0)
        cyc (inr k) = (λ t. absurd (k.0 t), λ w. absurd (stuck_none (form s) k.1 w.0 ((h w.0).0 w.1)))

-- the tests of a parameter, and of what must not have changed
free_T : (b : Bnd) → T (free? b) ↔ (b ≡ free)
unfolding free?
free_T free = (λ t. refl, λ e. tt)
free_T (fun f ys) = (λ t. absurd t, λ e. absurd (subst (λ c. T (free? c)) (sym e) tt))

par_T : (vs : List ℕ) (E : St) (x : ℕ) → T (parameter? vs E x) ↔ Par (form E) vs x
unfolding parameter?
par_T vs E x =
    let a = and_T (free? (find (E.rep x) E.bs)) (eqb (E.rep x) x && not (elem x vs)) in
    let b = and_T (eqb (E.rep x) x) (not (elem x vs)) in
    let f = free_T (find (E.rep x) E.bs) in
    let e = eqb_T (E.rep x) x in
    let n = not_T (elem x vs) in
    let m = elem_In x vs in
    (λ h. (f.0 (a.0 h).0, e.0 (b.0 (a.0 h).1).0, λ i. n.0 (b.0 (a.0 h).1).1 (m.1 i)), λ h. a.1 (f.1 h.0, b.1 (e.1 h.1, n.1 (λ t. h.2 (m.0 t)))))

abbrev Keeps : List ℕ → St → St → Type 0
Keeps vs E F = (x : ℕ) → Par (form E) vs x → at (form F) x ≡ free

abbrev Splits : List ℕ → St → St → Type 0
Splits vs E F = (x y : ℕ) → Par (form E) vs x → Par (form E) vs y → F.rep x ≡ F.rep y → x ≡ y

-- xs holds every variable that is not alone in F
module _ (vs xs : List ℕ) (E F : St) (d : T (distinct xs)) (alone : (x : ℕ) → (In x xs → ⊥) → Without x F) where
  ps : List ℕ
  ps = keep (parameter? vs E) xs

  ps_In : (x : ℕ) → In x ps ↔ (In x xs × Par (form E) vs x)
  unfolding ps
  ps_In x =
      let k = keep_In (parameter? vs E) x xs in
      let p = par_T vs E x in
      (λ i. ((k.0 i).0, p.0 (k.0 i).1), λ h. k.1 (h.0, p.1 h.1))

  untouched_T : T (untouched? F ps) ↔ (Keeps vs E F × Splits vs E F)
  unfolding untouched? ps
  untouched_T = (to_it, from_it)
    where
      test : ℕ → Bool
      test x = free? (find (F.rep x) F.bs)

      halves : T (all? test ps && distinct (map F.rep ps)) ↔ (T (all? test ps) × T (distinct (map F.rep ps)))
      halves = and_T (all? test ps) (distinct (map F.rep ps))

      to_it : T (all? test ps && distinct (map F.rep ps)) → Keeps vs E F × Splits vs E F
      to_it h = (λ x p. k x p (dec_in x xs), λ x y p q e. s x y p q e (dec_in x xs) (dec_in y xs))
        where
          k : (x : ℕ) → Par (form E) vs x → Dec (In x xs) → at (form F) x ≡ free
          k x p (yes i) = (free_T (find (F.rep x) F.bs)).0 ((all_In test ps).0 (halves.0 h).0 x ((ps_In x).1 (i, p)))
          k x p (no n) = ap (λ v. find v F.bs) (alone x n).self ∙ find_free x F.bs (alone x n).bound

          s : (x y : ℕ) → Par (form E) vs x → Par (form E) vs y → F.rep x ≡ F.rep y → Dec (In x xs) → Dec (In y xs) → x ≡ y
          s x y p q e (yes i) (yes j) = distinct_inj F.rep ps (halves.0 h).1 x y ((ps_In x).1 (i, p)) ((ps_In y).1 (j, q)) e
          s x y p q e (no n) b = sym ((alone x n).only y (sym e ∙ (alone x n).self))
          s x y p q e (yes i) (no n) = (alone y n).only x (e ∙ (alone y n).self)

      from_it : Keeps vs E F × Splits vs E F → T (all? test ps && distinct (map F.rep ps))
      from_it h = halves.1 ((all_In test ps).1 (λ x i. (free_T (find (F.rep x) F.bs)).1 (h.0 x ((ps_In x).0 i).1)), inj_distinct F.rep ps (keep_distinct (parameter? vs E) xs d) (λ x y i j e. h.1 x y ((ps_In x).0 i).1 ((ps_In y).0 j).1 e))

  -- the parameter whose class has the representative z
  seek : List ℕ → ℕ → ℕ
  seek [] z = z
  seek (x ∷ l) z = ite (ℕ_discrete (F.rep x) z) x (seek l z)

  seek_in : (l : List ℕ) (z : ℕ) → (In (seek l z) l × (F.rep (seek l z) ≡ z)) ⊎ ((seek l z ≡ z) × ((x : ℕ) → In x l → F.rep x ≡ z → ⊥))
  unfolding seek
  seek_in [] z = inr (refl, λ x i e. i)
  seek_in (y ∷ l) z = go (ℕ_discrete (F.rep y) z) (seek_in l z)
    where
      go : (b : Dec (F.rep y ≡ z)) → (In (seek l z) l × (F.rep (seek l z) ≡ z)) ⊎ ((seek l z ≡ z) × ((x : ℕ) → In x l → F.rep x ≡ z → ⊥)) → (In (ite b y (seek l z)) (y ∷ l) × (F.rep (ite b y (seek l z)) ≡ z)) ⊎ ((ite b y (seek l z) ≡ z) × ((x : ℕ) → In x (y ∷ l) → F.rep x ≡ z → ⊥))
      go (yes e) r = inl (inl refl, e)
      go (no n) (inl w) = inl (inr w.0, w.1)
      go (no n) (inr w) = inr (w.0, λ x i e. elim i [ inl q ↦ n (ap F.rep (sym q) ∙ e) | inr j ↦ w.1 x j e ])

  apart : Keeps vs E F → Splits vs E F → Apart (form E) (form F) vs
  apart k s = record { keeps = k; owner = seek ps; owned = λ x p. own x p (dec_in x xs) (seek_in ps (F.rep x)) }
    where
      own : (x : ℕ) → Par (form E) vs x → Dec (In x xs) → (In (seek ps (F.rep x)) ps × (F.rep (seek ps (F.rep x)) ≡ F.rep x)) ⊎ ((seek ps (F.rep x) ≡ F.rep x) × ((y : ℕ) → In y ps → F.rep y ≡ F.rep x → ⊥)) → seek ps (F.rep x) ≡ x
      own x p b (inl w) = s (seek ps (F.rep x)) x ((ps_In (seek ps (F.rep x))).0 w.0).1 p w.1
      own x p (yes i) (inr w) = absurd (w.1 x ((ps_In x).1 (i, p)) refl)
      own x p (no n) (inr w) = w.0 ∙ (alone x n).self

-- Quiet, decided, where no local occurs in the environment.
module _ (vs : List ℕ) (env σ : Store) (fr : Fresh vs env) where
  xs : List ℕ
  xs = nub (vars_all env ++ vars_all σ)

  outside : (x : ℕ) → (In x xs → ⊥) → (In x (vars_all env) → ⊥) × (In x (vars_all σ) → ⊥)
  unfolding xs
  outside x n = (λ i. n ((nub_In x _).1 ((In-append x (vars_all env) (vars_all σ)).1 (inl i))), λ i. n ((nub_In x _).1 ((In-append x (vars_all env) (vars_all σ)).1 (inr i))))

  no_solution : ((ρ : Asg) → Sats ρ env → ⊥) → Quiet vs env σ
  no_solution h ρ s = absurd (h ρ s)

  -- a quiet store has a solution together with an environment that has one
  with_env : Satisfiable env → Quiet vs env σ → (ρ : Asg) × Sats ρ env × Sats ρ σ
  with_env w q =
      let r = q w.0 w.1 in
      (r.0, sats_off vs w.0 r.0 env fr r.1 w.1, r.2)

  second : (E : St) → Of (form E) env → Ranked (form E) → ((x : ℕ) → (In x xs → ⊥) → Without x E) → T (then_quiet? vs xs E (solve E σ)) ↔ Quiet vs env σ
  unfolding then_quiet? Means solve ps xs
  second E is_e R al = go (solve E σ) (solve_ok E σ) (λ x n. run_alone x _ E σ (al x n) (outside x n).1)
    where
      sol : Satisfiable env
      sol = (solution (form E) R leaves, (is_e _).1 (solution_solves (form E) R leaves))

      go : (o : Option St) → ((ρ : Asg) → (Solves ρ (form E) × Sats ρ σ) ↔ Means ρ o) → ((x : ℕ) → (In x xs → ⊥) → Alone x o) → T (then_quiet? vs xs E o) ↔ Quiet vs env σ
      go none h al' = (λ t. absurd t, λ q. let w = with_env sol q in (h w.0).0 ((is_e w.0).0 w.1, w.2))
      go (some F) h al' = cyc (cycle_right F)
        where
          is_f : Of (form F) (env ++ σ)
          is_f ρ =
              let a = sats_append ρ env σ in
              (λ s. (h ρ).0 ((is_e ρ).0 (a.0 s).0, (a.0 s).1), λ s. a.1 ((is_e ρ).1 ((h ρ).1 s).0, ((h ρ).1 s).1))

          dis : T (distinct xs)
          dis = nub_distinct (vars_all env ++ vars_all σ)

          both_T : T (acyclic? F && untouched? F (ps vs xs E F dis al')) ↔ (T (acyclic? F) × T (untouched? F (ps vs xs E F dis al')))
          both_T = and_T (acyclic? F) (untouched? F (ps vs xs E F dis al'))

          cyc : (T (acyclic? F) × Ranked (form F)) ⊎ ((T (acyclic? F) → ⊥) × Stuck (form F)) → T (then_quiet? vs xs E (some F)) ↔ Quiet vs env σ
          cyc (inr k) = (λ t. absurd (k.0 (both_T.0 t).0), λ q. let w = with_env sol q in absurd (stuck_none (form F) k.1 w.0 ((h w.0).0 ((is_e w.0).0 w.1, w.2))))
          cyc (inl r) = (to_it, from_it)
            where
              to_it : T (then_quiet? vs xs E (some F)) → Quiet vs env σ
              to_it t =
                  let u = (untouched_T vs xs E F dis al').0 (both_T.0 t).1 in
                  quiet_if vs env σ (form E) (form F) is_e is_f fr R r.1 (apart vs xs E F dis al' u.0 u.1)

              from_it : Quiet vs env σ → T (then_quiet? vs xs E (some F))
              from_it q = both_T.1 (r.0, (untouched_T vs xs E F dis al').1 (quiet_keeps vs env σ (form E) (form F) is_e is_f fr R q, quiet_apart vs env σ (form E) (form F) is_e is_f fr R q))

  pub quiet_fresh_iff : T (quiet_fresh? vs env σ) ↔ Quiet vs env σ
  unfolding quiet_fresh? after_quiet? Means solve xs
  quiet_fresh_iff = go (solve untold env) (start_ok env) (λ x n. run_alone x _ untold env (start_alone x) (outside x n).0)
    where
      go : (o : Option St) → ((ρ : Asg) → Sats ρ env ↔ Means ρ o) → ((x : ℕ) → (In x xs → ⊥) → Alone x o) → T (after_quiet? vs xs σ o) ↔ Quiet vs env σ
      go none h al = (λ t. no_solution (λ ρ s. (h ρ).0 s), λ q. tt)
      go (some E) h al = cyc (acyclic? E) (cycle_right E) (λ R. second E h R al)
        where
          cyc : (b : Bool) → (T b × Ranked (form E)) ⊎ ((T b → ⊥) × Stuck (form E)) → (Ranked (form E) → T (then_quiet? vs xs E (solve E σ)) ↔ Quiet vs env σ) → T (elim b [ true ↦ then_quiet? vs xs E (solve E σ) | false ↦ true ]) ↔ Quiet vs env σ
          cyc true (inl r) k = k r.1
          cyc true (inr r) k = absurd (r.0 tt)
          cyc false (inl r) k = absurd r.0
          cyc false (inr r) k = (λ t. no_solution (λ ρ s. stuck_none (form E) r.1 ρ ((h ρ).0 s)), λ q. tt)
