-- The trees that fit an answer's terms are exactly those that the answer allows.
use mathlib.Core.Path.{◌≡◌, refl, ap, sym, ◌∙◌, subst}
use mathlib.Core.Logic.{◌↔◌, ◌⊎◌, inl, inr}
use mathlib.Core.List.{List, [], ◌∷◌, ◌++◌}
use mathlib.Core.Bool.{Bool, true, false, ◌&&◌, ◌||◌}
use mathlib.Core.Option.{Option, some, none}
use Prim.Native.Nat.{ℕ, zero, suc, ◌+◌, ◌≤◌, ◌<◌}
use native.Mathlib.Decide.{dec_lt}
use native.Mathlib.Omega.{arith}
use lib.ListN.{length}
use lib.Dec.{T, eqb, eqb→eq, eqb_refl}
use Rattle.constraint.specs.Tree.{Label, Tree, Forest, node, fnil, fcons}
use Rattle.constraint.specs.Constraint.{Store, Asg, trees, Sats, Satisfiable, In, Off, vars_all}
use Rattle.constraint.specs.Solve.{Bnd, free, fun, Bound, find, St, untold, solve, keys, acyclic?, sat_of, satisfiable?, elem}
use Rattle.constraint.proofs.Form.{Form, form, at, build, Solves, Below, Ranked, Stuck}
use Rattle.constraint.proofs.Lists.{elem_In, In-append}
use Rattle.constraint.proofs.Trees.{dec_in, trees_agree}
use Rattle.constraint.proofs.Forms.{solution, solution_eq, solution_free, solution_solves, stuck_none}
use Rattle.constraint.proofs.Entail.{mix, mix_in, mix_out}
use Rattle.constraint.proofs.Solver.{Means}
use Rattle.constraint.proofs.Cycle.{cycle_bound}
use Rattle.constraint.proofs.Decision.{start_ok}
use Rattle.akl.specs.Base.{size, range, if}
use Rattle.akl.specs.Answers.{Answer, Term, unbound, built, Terms, no_terms, more_terms, terms, term_of, variable_term, unknowns, unknowns_all, position}
use Rattle.theory.specs.Meaning.{hidden_locals}
use Rattle.theory.specs.Scope.{Sub}
use Rattle.runs.specs.Calls.{Allows}
use Rattle.runs.specs.Shown.{tree_of, forest_of, FitsText, numbered_term, numbered_terms, solved_terms, class_terms, shown_terms}
use Rattle.theory.proofs.Agreement.{sats_on, hidden_In}
use Rattle.theory.proofs.Locals.{range_In, In-range}

-- ---------------------------------------------------------------------------------------------
-- The term of a variable, under a solution.

module _ (s : St) where
  forest_terms : (f : ℕ → Term) (τ ρ : Asg) (ys : List ℕ) → ((y : ℕ) → In y ys → tree_of (f y) τ ≡ ρ y) → forest_of (terms f ys) τ ≡ trees ρ ys
  unfolding terms
  forest_terms f τ ρ [] h = refl
  forest_terms f τ ρ (y ∷ ys) h = λ i. fcons (h y (inl refl) i) (forest_terms f τ ρ ys (λ z j. h z (inr j)) i)

  -- a solution gives each variable the tree of its term, its own values being those of the unknowns
  value_solves : (ρ : Asg) → Solves ρ (form s) → (n x : ℕ) → tree_of (variable_term n s x) ρ ≡ ρ x
  unfolding variable_term
  value_solves ρ h zero x = sym (same x)
    where
      same : (y : ℕ) → ρ y ≡ ρ (s.rep y)
      same y = h y ∙ sym (h (s.rep y) ∙ ap (λ v. build ρ (ρ v) (find v s.bs)) (s.idem y))
  value_solves ρ h (suc n) x = go (find (s.rep x) s.bs) refl (λ y. value_solves ρ h n y)
    where
      same : (y : ℕ) → ρ y ≡ ρ (s.rep y)
      same y = h y ∙ sym (h (s.rep y) ∙ ap (λ v. build ρ (ρ v) (find v s.bs)) (s.idem y))

      go : (b : Bnd) → find (s.rep x) s.bs ≡ b → ((y : ℕ) → tree_of (variable_term n s y) ρ ≡ ρ y) → tree_of (term_of (variable_term n s) (s.rep x) b) ρ ≡ ρ x
      go free e ih = sym (same x)
      go (fun f ys) e ih = ap (node f) (forest_terms (variable_term n s) ρ ρ ys (λ y i. ih y)) ∙ sym (h x ∙ ap (build ρ (ρ (s.rep x))) e)

  -- and every choice for the unknowns is met by a solution, where ranks are below n
  value_solution : (R : Ranked (form s)) (τ : Asg) (n x : ℕ) → R.rk x < n → tree_of (variable_term n s x) τ ≡ solution (form s) R τ x
  unfolding variable_term
  value_solution R τ zero x l = absurd (omega arith)
  value_solution R τ (suc n) x l = go (find (s.rep x) s.bs) refl (R.down x) (λ y k. value_solution R τ n y k)
    where
      go : (b : Bnd) → find (s.rep x) s.bs ≡ b → Below R.rk (R.rk x) (find (s.rep x) s.bs) → ((y : ℕ) → R.rk y < n → tree_of (variable_term n s y) τ ≡ solution (form s) R τ y) → tree_of (term_of (variable_term n s) (s.rep x) b) τ ≡ solution (form s) R τ x
      go free e w ih = sym (solution_free (form s) R τ x e)
      go (fun f ys) e w ih = ap (node f) (forest_terms (variable_term n s) τ (solution (form s) R τ) ys (λ y i. ih y (omega (arith, subst (Below R.rk (R.rk x)) e w y i)))) ∙ sym (solution_eq (form s) R τ x ∙ ap (build (solution (form s) R τ) (τ (s.rep x))) e)

size_keys : (r : ℕ → ℕ) (bs : List Bound) → length (keys r bs) ≡ size bs
unfolding keys size
size_keys r [] = refl
size_keys r (b ∷ bs) = ap suc (size_keys r bs)

-- ---------------------------------------------------------------------------------------------
-- Terms with classes for unknowns.

trees_range : (ρ ρ' : Asg) (q : ℕ) → ((x : ℕ) → x < q → ρ x ≡ ρ' x) → trees ρ (range 0 q) ≡ trees ρ' (range 0 q)
trees_range ρ ρ' q h = trees_agree ρ ρ' (range 0 q) (λ x i. h x (below x (range_In x 0 q i)))
  where
    below : (x : ℕ) → (0 ≤ x) × (x < 0 + q) → x < q
    below x k = omega arith

forest_head : (ρ : Asg) (ys : List ℕ) (ρ' : Asg) → trees ρ ys ≡ trees ρ' ys → (y : ℕ) → In y ys → ρ y ≡ ρ' y
forest_head ρ [] ρ' e y i = elim i [ ]
forest_head ρ (z ∷ ys) ρ' e y (inl q) = ap ρ q ∙ cc e ∙ ap ρ' (sym q)
forest_head ρ (z ∷ ys) ρ' e y (inr i) = forest_head ρ ys ρ' (cc e) y i

module _ (q : ℕ) (a : Answer) (sat : Satisfiable a.1) (own : Sub (vars_all a.1) a.0) where
  class_iff : (ρ : Asg) → FitsText q (class_terms q a) ρ ↔ Allows q a ρ
  unfolding Means
  class_iff ρ = go (solve untold a.1) (start_ok a.1)
    where
      σ : Store
      σ = a.1

      vs : List ℕ
      vs = a.0

      go : (o : Option St) → ((π : Asg) → Sats π σ ↔ Means π o) → FitsText q (solved_terms q o) ρ ↔ Allows q a ρ
      go none h = absurd ((h sat.0).0 sat.1)
      go (some s) h = cyc (cycle_bound s)
        where
          F : ℕ
          F = suc (size s.bs)

          cyc : (T (acyclic? s) × ((R : Ranked (form s)) × (R.top ≤ suc (length (keys s.rep s.bs))))) ⊎ ((T (acyclic? s) → ⊥) × Stuck (form s)) → FitsText q (terms (variable_term F s) (range 0 q)) ρ ↔ Allows q a ρ
          cyc (inr k) = absurd (stuck_none (form s) k.1 sat.0 ((h sat.0).0 sat.1))
          cyc (inl r) = (to_it, from_it)
            where
              R : Ranked (form s)
              R = r.1.0

              low : (x : ℕ) → R.rk x < F
              low x = omega (arith, R.low x, r.1.1, size_keys s.rep s.bs)

              from_it : Allows q a ρ → FitsText q (terms (variable_term F s) (range 0 q)) ρ
              from_it w =
                  let π = w.0 in
                  (π, trees_range ρ π q (λ x l. w.1 x (λ i. hid x l ((hidden_In q x vs).0 i).1)) ∙ sym (forest_terms s (variable_term F s) π π (range 0 q) (λ y i. value_solves s π ((h π).0 w.2) F y)))
                where
                  hid : (x : ℕ) → x < q → q ≤ x → ⊥
                  hid x l k = omega arith

              to_it : FitsText q (terms (variable_term F s) (range 0 q)) ρ → Allows q a ρ
              to_it w = (ρ', mix_out (hidden_locals q vs) ρ π, sats_on π ρ' σ agree ((h π).1 (solution_solves (form s) R w.0)))
                where
                  π : Asg
                  π = solution (form s) R w.0

                  ρ' : Asg
                  ρ' = mix (hidden_locals q vs) ρ π

                  shown : trees ρ (range 0 q) ≡ trees π (range 0 q)
                  shown = w.1 ∙ forest_terms s (variable_term F s) w.0 π (range 0 q) (λ y i. value_solution s R w.0 F y (low y))

                  on_query : (x : ℕ) → x < q → ρ x ≡ π x
                  on_query x l = forest_head ρ (range 0 q) π shown x (In-range x 0 q (omega arith) (omega arith))

                  agree : (x : ℕ) → In x (vars_all σ) → π x ≡ ρ' x
                  agree x i = by (dec_in x (hidden_locals q vs)) (dec_lt x q)
                    where
                      by : Dec (In x (hidden_locals q vs)) → Dec (x < q) → π x ≡ ρ' x
                      by (yes j) d = sym (mix_in (hidden_locals q vs) ρ π x j)
                      by (no m) (yes l) = sym (on_query x l) ∙ mix_out (hidden_locals q vs) ρ π x m
                      by (no m) (no n) = absurd (m ((hidden_In q x vs).1 (own x i, omega arith)))

-- ---------------------------------------------------------------------------------------------
-- Unknowns numbered instead: the trees that fit are the same.

-- the class at a position
at_position : ℕ → List ℕ → ℕ
at_position i [] = 0
at_position zero (x ∷ l) = x
at_position (suc i) (x ∷ l) = at_position i l

position_at : (r : ℕ) (l : List ℕ) → In r l → at_position (position r l) l ≡ r
unfolding at_position position
position_at r [] i = elim i [ ]
position_at r (x ∷ l) i = go (eqb r x) (λ t. eqb→eq r x t) (λ e. subst (λ z. T (eqb r z)) e (eqb_refl r)) i (λ j. position_at r l j)
  where
    go : (b : Bool) → (T b → r ≡ x) → (r ≡ x → T b) → (r ≡ x) ⊎ In r l → (In r l → at_position (position r l) l ≡ r) → at_position (if b 0 (suc (position r l))) (x ∷ l) ≡ r
    go true f g j ih = sym (f tt)
    go false f g (inl e) ih = absurd (g e)
    go false f g (inr j) ih = ih j

-- every unknown of the term is in the list
abbrev mutual
  pub Seen : Term → List ℕ → Type 0
  Seen (unbound r) l = In r l
  Seen (built f ts) l = SeenAll ts l

  pub SeenAll : Terms → List ℕ → Type 0
  SeenAll no_terms l = Unit {0}
  SeenAll (more_terms t ts) l = Seen t l × SeenAll ts l

mutual
  unfolding numbered_term

  -- trees for positions, or for classes
  tree_numbered : (t : Term) (l : List ℕ) (τ σ : Asg) → ((r : ℕ) → In r l → τ (position r l) ≡ σ r) → Seen t l → tree_of (numbered_term t l) τ ≡ tree_of t σ
  tree_numbered (unbound r) l τ σ h i = h r i
  tree_numbered (built f ts) l τ σ h i = ap (node f) (forest_numbered ts l τ σ h i)

  forest_numbered : (ts : Terms) (l : List ℕ) (τ σ : Asg) → ((r : ℕ) → In r l → τ (position r l) ≡ σ r) → SeenAll ts l → forest_of (numbered_terms ts l) τ ≡ forest_of ts σ
  forest_numbered no_terms l τ σ h i = refl
  forest_numbered (more_terms t ts) l τ σ h i = λ j. fcons (tree_numbered t l τ σ h i.0 j) (forest_numbered ts l τ σ h i.1 j)

-- seen lists only grow, and hold what was met
seen_more : (r x : ℕ) (seen : List ℕ) → In x seen → In x (if (elem r seen) seen (seen ++ (r ∷ [])))
seen_more r x seen i = go (elem r seen)
  where
    go : (b : Bool) → In x (if b seen (seen ++ (r ∷ [])))
    go true = i
    go false = (In-append x seen (r ∷ [])).1 (inl i)

mutual
  unfolding unknowns

  keeps_seen : (t : Term) (seen : List ℕ) (x : ℕ) → In x seen → In x (unknowns t seen)
  keeps_seen (unbound r) seen x i = seen_more r x seen i
  keeps_seen (built f ts) seen x i = keeps_seen_all ts seen x i

  keeps_seen_all : (ts : Terms) (seen : List ℕ) (x : ℕ) → In x seen → In x (unknowns_all ts seen)
  keeps_seen_all no_terms seen x i = i
  keeps_seen_all (more_terms t ts) seen x i = keeps_seen_all ts (unknowns t seen) x (keeps_seen t seen x i)

mutual
  seen_wider : (t : Term) (a b : List ℕ) → Sub a b → Seen t a → Seen t b
  seen_wider (unbound r) a b s h = s r h
  seen_wider (built f ts) a b s h = seen_wider_all ts a b s h

  seen_wider_all : (ts : Terms) (a b : List ℕ) → Sub a b → SeenAll ts a → SeenAll ts b
  seen_wider_all no_terms a b s h = tt
  seen_wider_all (more_terms t ts) a b s h = (seen_wider t a b s h.0, seen_wider_all ts a b s h.1)

mutual
  unfolding unknowns

  all_seen : (t : Term) (seen : List ℕ) → Seen t (unknowns t seen)
  all_seen (unbound r) seen = go (elem r seen) refl
    where
      go : (b : Bool) → elem r seen ≡ b → In r (if b seen (seen ++ (r ∷ [])))
      go true e = (elem_In r seen).0 (subst T (sym e) tt)
      go false e = (In-append r seen (r ∷ [])).1 (inr (inl refl))
  all_seen (built f ts) seen = all_seen_all ts seen

  pub all_seen_all : (ts : Terms) (seen : List ℕ) → SeenAll ts (unknowns_all ts seen)
  all_seen_all no_terms seen = tt
  all_seen_all (more_terms t ts) seen = (seen_wider t (unknowns t seen) (unknowns_all ts (unknowns t seen)) (keeps_seen_all ts (unknowns t seen)) (all_seen t seen), all_seen_all ts (unknowns t seen))

numbered_iff : (q : ℕ) (ts : Terms) (ρ : Asg) → FitsText q (numbered_terms ts (unknowns_all ts [])) ρ ↔ FitsText q ts ρ
numbered_iff q ts ρ = (λ w. ((λ r. w.0 (position r l)), w.1 ∙ forest_numbered ts l w.0 (λ r. w.0 (position r l)) (λ r i. refl) seen), λ w. ((λ i. w.0 (at_position i l)), w.1 ∙ sym (forest_numbered ts l (λ i. w.0 (at_position i l)) w.0 (λ r i. ap w.0 (position_at r l i)) seen)))
  where
    l : List ℕ
    l = unknowns_all ts []

    seen : SeenAll ts l
    seen = all_seen_all ts []

-- "The trees that fit the text .. are exactly the answer's solutions".
pub shown_iff : (q : ℕ) (a : Answer) → Satisfiable a.1 → Sub (vars_all a.1) a.0 → (ρ : Asg) → FitsText q (shown_terms q a) ρ ↔ Allows q a ρ
shown_iff q a sat own ρ =
    let n = numbered_iff q (class_terms q a) ρ in
    let c = class_iff q a sat own ρ in
    (λ h. c.0 (n.0 h), λ h. n.1 (c.1 h))
