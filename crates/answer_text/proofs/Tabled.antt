-- The trees that fit the terms of the tables are those that the answer allows, and the text of these terms is the
-- answer's. Assumes nothing.
use mathlib.Core.Path.{◌≡◌, refl, ap, sym, ◌∙◌, subst}
use mathlib.Core.Logic.{◌↔◌, inl, inr}
use mathlib.Core.List.{List, [], ◌∷◌}
use mathlib.Core.Option.{Option, some, none}
use Prim.Native.Nat.{ℕ, suc, ◌+◌, ◌≤◌, ◌<◌}
use native.Mathlib.Decide.{dec_lt}
use native.Mathlib.Omega.{arith}
use Rattle.constraint.specs.Tree.{Label}
use Rattle.constraint.specs.Constraint.{Store, Asg, trees, Sats, In, vars_all}
use Rattle.constraint.specs.Solve.{St, untold, solve}
use Rattle.constraint.proofs.Form.{Form, Ranked, Of}
use Rattle.constraint.proofs.Trees.{dec_in, trees_agree}
use Rattle.constraint.proofs.Forms.{solution, solution_solves}
use Rattle.constraint.proofs.Entail.{mix, mix_in, mix_out}
use Rattle.constraint.proofs.Solver.{Means as Solving}
use Rattle.constraint.proofs.Decision.{start_ok}
use Rattle.akl.specs.Base.{Name, size, range}
use Rattle.akl.specs.Answers.{Answer, Term, Terms, terms, variable_term, unknowns_all, line_text, answer_text}
use Rattle.theory.specs.Meaning.{hidden_locals}
use Rattle.theory.specs.Scope.{Sub}
use Rattle.theory.proofs.Agreement.{sats_on, hidden_In}
use Rattle.theory.proofs.Locals.{range_In, In-range}
use Rattle.runs.specs.Calls.{Allows}
use Rattle.runs.specs.Shown.{Fair, FitsText, SpelledTerms, numbered_terms, solved_terms, shown_terms, line_bytes}
use Rattle.runs.proofs.SameTerms.{same_fit}
use Rattle.runs.proofs.SameText.{text_shown, text_solutions, text_reads}
use Rattle.mem_words.specs.declared.Word.{Word}
use Rattle.solve_cells.specs.Cells.{rep, Up}
use Rattle.solve_classes.specs.Means.{Apps}
use Rattle.solve_classes.proofs.Tables.{form_of}
use Rattle.solve_fields.specs.Read.{tab_of}
use Rattle.solve_tells.specs.Tells.{Means}
use Rattle.solve_explores.specs.Search.{Acyclic}
use Rattle.solve_quiet.proofs.Verdict.{ranked, form_of_lem}
use Rattle.answer_text.specs.Tabled.{term_by, tab_term, whole_term}
use Rattle.answer_text.proofs.Values.{terms_agree, forest_terms, value_solves, value_solution}
use Rattle.answer_text.proofs.Depth.{term_enough, whole_enough}
use Rattle.answer_text.proofs.Numbering.{numbered_iff, text_line}
use Rattle.answer_text.proofs.Spelling.{fit_spelled}

trees_range : (ρ ρ' : Asg) (q : ℕ) → ((x : ℕ) → x < q → ρ x ≡ ρ' x) → trees ρ (range 0 q) ≡ trees ρ' (range 0 q)
trees_range ρ ρ' q h = trees_agree ρ ρ' (range 0 q) (λ x i. h x (below x (range_In x 0 q i)))
  where
    below : (x : ℕ) → (0 ≤ x) × (x < 0 + q) → x < q
    below x k = omega arith

forest_head : (ρ : Asg) (ys : List ℕ) (ρ' : Asg) → trees ρ ys ≡ trees ρ' ys → (y : ℕ) → In y ys → ρ y ≡ ρ' y
forest_head ρ [] ρ' e y i = elim i [ ]
forest_head ρ (z ∷ ys) ρ' e y (inl q) = ap ρ q ∙ cc e ∙ ap ρ' (sym q)
forest_head ρ (z ∷ ys) ρ' e y (inr i) = forest_head ρ ys ρ' (cc e) y i

-- of any form that has the solutions of the answer's store
module _ (q : ℕ) (a : Answer) (own : Sub (vars_all a.1) a.0) (F : Form) (is : Of F a.1) (R : Ranked F) (n : ℕ) (le : R.top ≤ n) where
  pub form_iff : (ρ : Asg) → FitsText q (terms (term_by F.rep F.bnd n) (range 0 q)) ρ ↔ Allows q a ρ
  form_iff ρ = (to_it, from_it)
    where
      σ : Store
      σ = a.1

      vs : List ℕ
      vs = a.0

      f : ℕ → Term
      f = term_by F.rep F.bnd n

      from_it : Allows q a ρ → FitsText q (terms f (range 0 q)) ρ
      from_it w =
          let π = w.0 in
          (π, trees_range ρ π q (λ x l. w.1 x (λ i. hid x l ((hidden_In q x vs).0 i).1)) ∙ sym (forest_terms f π π (range 0 q) (λ y i. value_solves F π ((is π).0 w.2) n y)))
        where
          hid : (x : ℕ) → x < q → q ≤ x → ⊥
          hid x l k = omega arith

      to_it : FitsText q (terms f (range 0 q)) ρ → Allows q a ρ
      to_it w = (ρ', mix_out (hidden_locals q vs) ρ π, sats_on π ρ' σ agree ((is π).1 (solution_solves F R w.0)))
        where
          π : Asg
          π = solution F R w.0

          ρ' : Asg
          ρ' = mix (hidden_locals q vs) ρ π

          shown : trees ρ (range 0 q) ≡ trees π (range 0 q)
          shown = w.1 ∙ forest_terms f w.0 π (range 0 q) (λ y i. value_solution F R w.0 n y (omega (arith, R.low y)))

          on_query : (x : ℕ) → x < q → ρ x ≡ π x
          on_query x l = forest_head ρ (range 0 q) π shown x (In-range x 0 q (omega arith) (omega arith))

          agree : (x : ℕ) → In x (vars_all σ) → π x ≡ ρ' x
          agree x i = by (dec_in x (hidden_locals q vs)) (dec_lt x q)
            where
              by : Dec (In x (hidden_locals q vs)) → Dec (x < q) → π x ≡ ρ' x
              by (yes j) d = sym (mix_in (hidden_locals q vs) ρ π x j)
              by (no m) (yes l) = sym (on_query x l) ∙ mix_out (hidden_locals q vs) ρ π x m
              by (no m) (no k) = absurd (m ((hidden_In q x vs).1 (own x i, omega arith)))

-- Any terms of variables that fit what a fair answer allows have its text.
pub fit_text : (xs : List Name) (a : Answer) → Fair a → (g : ℕ → Term) → ((ρ : Asg) → FitsText (size xs) (terms g (range 0 (size xs))) ρ ↔ Allows (size xs) a ρ) → line_text xs (terms g (range 0 (size xs))) ≡ answer_text xs a
unfolding Solving
fit_text xs a f g h = text_line xs (terms g (range 0 q)) ∙ ap (line_bytes xs) (sym (go (solve untold a.1) refl (start_ok a.1))) ∙ sym (text_shown xs a f)
  where
    q : ℕ
    q = size xs

    shown : Option St → Terms
    shown o = numbered_terms (solved_terms q o) (unknowns_all (solved_terms q o) [])

    U : Terms
    U = numbered_terms (terms g (range 0 q)) (unknowns_all (terms g (range 0 q)) [])

    fits : (ρ : Asg) → FitsText q (shown_terms q a) ρ ↔ FitsText q U ρ
    fits ρ =
        let n = numbered_iff q (terms g (range 0 q)) ρ in
        let s = text_solutions xs a f ρ in
        (λ k. n.1 ((h ρ).1 (s.0 k)), λ k. s.1 ((h ρ).0 (n.0 k)))

    go : (o : Option St) → solve untold a.1 ≡ o → ((ρ : Asg) → Sats ρ a.1 ↔ Solving ρ o) → shown_terms q a ≡ U
    go none e k = absurd ((k f.sat.0).0 f.sat.1)
    go (some s) e k =
        let v = variable_term (suc (size s.bs)) s in
        let p : SpelledTerms (shown (some s)) = subst (λ o. SpelledTerms (shown o)) e (text_reads xs a f).spelled in
        let w : ((ρ : Asg) → FitsText q (shown (some s)) ρ ↔ FitsText q U ρ) = subst (λ o. (ρ : Asg) → FitsText q (shown o) ρ ↔ FitsText q U ρ) e fits in
        ap shown e ∙ same_fit q v g p (fit_spelled q v (unknowns_all (terms v (range 0 q)) []) U p (λ ρ. (w ρ).0)) w

module _ (lab : ℕ → Label) (W : List Word) (P T : List ℕ) (U : Up T) (A : Acyclic W P T) (a : Answer) (m : Means lab W P T a.1) where
  R : Ranked (form_of (tab_of lab W P) T U)
  R = ranked lab W P T U A

  deeper : (q : ℕ) → Sub (vars_all a.1) a.0 → (n : ℕ) (ρ : Asg) → FitsText q (terms (tab_term lab W P T (n + R.top)) (range 0 q)) ρ ↔ Allows q a ρ
  unfolding tab_term form_of
  deeper q own n ρ = form_iff q a own (form_of (tab_of lab W P) T U) (form_of_lem lab W P T U a.1 m) R (n + R.top) (omega arith) ρ

  -- "The trees that fit the text .. are exactly the answer's solutions", at any depth that is enough
  pub tab_iff : (q : ℕ) → Sub (vars_all a.1) a.0 → (n : ℕ) → A.top ≤ n → (ρ : Asg) → FitsText q (terms (tab_term lab W P T n) (range 0 q)) ρ ↔ Allows q a ρ
  tab_iff q own n le ρ = subst (λ ts. FitsText q ts ρ ↔ Allows q a ρ) (terms_agree (tab_term lab W P T (n + R.top)) (tab_term lab W P T n) (range 0 q) (λ y i. term_enough lab W P T A (n + R.top) n y (omega (arith, A.low y)) (omega (arith, A.low y)))) (deeper q own n ρ)

  pub tab_text : (xs : List Name) → Fair a → (n : ℕ) → A.top ≤ n → line_text xs (terms (tab_term lab W P T n) (range 0 (size xs))) ≡ answer_text xs a
  tab_text xs f n le = fit_text xs a f (tab_term lab W P T n) (tab_iff (size xs) f.own n le)

  -- with one more than the number of applications for the depth
  module _ (k : ℕ) (apps : Apps T k) where
    whole_terms : (q : ℕ) → terms (whole_term lab W P T k) (range 0 q) ≡ terms (tab_term lab W P T A.top) (range 0 q)
    whole_terms q = terms_agree (whole_term lab W P T k) (tab_term lab W P T A.top) (range 0 q) (λ y i. whole_enough lab W P T A k apps A.top y (A.low y))

    pub whole_iff : (q : ℕ) → Sub (vars_all a.1) a.0 → (ρ : Asg) → FitsText q (terms (whole_term lab W P T k) (range 0 q)) ρ ↔ Allows q a ρ
    whole_iff q own ρ = subst (λ ts. FitsText q ts ρ ↔ Allows q a ρ) (sym (whole_terms q)) (tab_iff q own A.top (omega arith) ρ)

    -- the text of an answer
    pub whole_text : (xs : List Name) → Fair a → line_text xs (terms (whole_term lab W P T k) (range 0 (size xs))) ≡ answer_text xs a
    whole_text xs f = ap (line_text xs) (whole_terms (size xs)) ∙ tab_text xs f A.top (omega arith)
