-- Two answers of a query have the same text exactly when they have the same solutions.
use mathlib.Core.Path.{◌≡◌, refl, ap, sym, ◌∙◌, subst}
use mathlib.Core.Logic.{◌↔◌, ◌⊎◌, inl, inr, ite}
use mathlib.Core.List.{List, [], ◌∷◌, ◌++◌}
use mathlib.Core.Bool.{Bool, true, false, ◌&&◌, ◌||◌}
use mathlib.Core.Option.{Option, some, none}
use Prim.Native.Nat.{ℕ, zero, suc, ◌+◌}
use native.Mathlib.Decide.{ℕ_discrete}
use lib.Dec.{T}
use Rattle.constraint.specs.Tree.{Label, label_dec}
use Rattle.constraint.specs.Constraint.{Con, ctrue, cfail, ceq, capp, Store, Asg, Satisfiable, In, vars_all, Sats}
use Rattle.constraint.specs.Solve.{Bnd, free, fun, Bound, find, remove, St, untold, merge, put, pairs, again, clash?, on_eq, on_app, tell_all, solve, satisfiable?}
use Rattle.constraint.proofs.Lists.{and_T}
use Rattle.constraint.proofs.Solver.{Means}
use Rattle.constraint.proofs.Decision.{start_ok}
use Rattle.akl.specs.Base.{Name, bytes, bytes_from, size, all, range, if}
use Rattle.akl.specs.Syntax.{Program}
use Rattle.akl.specs.Configuration.{Kind, goal, member, Node, or, and, stmt, choice_box, guard, Nodes, nil, cons}
use Rattle.akl.specs.Answers.{Answer, solved_box, answers, answers_all, Term, unbound, built, Terms, no_terms, more_terms, terms, term_of, variable_term, unknowns_all, term_text, arguments_text, rest_text, bindings_text, line_text, solved_text, answer_text}
use Rattle.akl.specs.WellFormed.{stored_fits, few, spelled_name, spelled_digits, statements_pass}
use Rattle.theory.specs.Scope.{Sub, Ok, OkAll}
use Rattle.runs.specs.Calls.{AnswerIn, Allows}
use Rattle.runs.specs.Shown.{Spelled, SpelledTerm, SpelledTerms, AsMany, ReadsAs, SpelledCon, SpelledStore, Fair, FitsText, numbered_term, numbered_terms, solved_terms, class_terms, shown_terms, term_bytes, arguments_bytes, rest_bytes, bindings_bytes, line_bytes}
use Rattle.theory.proofs.Locals.{size_range}
use Rattle.theory.proofs.InContext.{Pass, PassAll, pass_cons, pass_and}
use Rattle.runs.proofs.AnswerSolutions.{in_answers, answer_satisfiable}
use Rattle.runs.proofs.Shows.{shown_iff}
use Rattle.runs.proofs.SameTerms.{same_fit}
use Rattle.runs.proofs.Printed.{line_inj}

-- ---------------------------------------------------------------------------------------------
-- Labels stay those of the constraints.

abbrev SpelledBounds : List Bound → Type 0
SpelledBounds [] = Unit {0}
SpelledBounds (b ∷ bs) = Spelled b.1 × SpelledBounds bs

abbrev SpelledBnd : Bnd → Type 0
SpelledBnd free = Unit {0}
SpelledBnd (fun f ys) = Spelled f

find_spelled : (x : ℕ) (bs : List Bound) → SpelledBounds bs → SpelledBnd (find x bs)
find_spelled x [] h = tt
find_spelled x (b ∷ bs) h = go (ℕ_discrete x b.0) (find_spelled x bs h.1)
  where
    go : (d : Dec (x ≡ b.0)) → SpelledBnd (find x bs) → SpelledBnd (ite d (fun b.1 b.2) (find x bs))
    go (yes e) k = h.0
    go (no n) k = k

remove_spelled : (x : ℕ) (bs : List Bound) → SpelledBounds bs → SpelledBounds (remove x bs)
remove_spelled x [] h = tt
remove_spelled x (b ∷ bs) h = go (ℕ_discrete x b.0) (remove_spelled x bs h.1)
  where
    go : (d : Dec (x ≡ b.0)) → SpelledBounds (remove x bs) → SpelledBounds (ite d (remove x bs) (b ∷ remove x bs))
    go (yes e) k = k
    go (no n) k = (h.0, k)

pairs_spelled : (ys zs : List ℕ) → SpelledStore (pairs ys zs)
pairs_spelled [] [] = tt
pairs_spelled [] (z ∷ zs) = (tt, tt)
pairs_spelled (y ∷ ys) [] = (tt, tt)
pairs_spelled (y ∷ ys) (z ∷ zs) = (tt, pairs_spelled ys zs)

store_append : (p q : Store) → SpelledStore p → SpelledStore q → SpelledStore (p ++ q)
store_append [] q h k = k
store_append (c ∷ p) q h k = (h.0, store_append p q h.1 k)

eq_spelled : (s : St) (x y : ℕ) (d : Dec (s.rep y ≡ s.rep x)) → SpelledBounds s.bs → SpelledBounds (on_eq s x y d).0.bs × SpelledStore (on_eq s x y d).1
eq_spelled s x y (yes e) h = (h, tt)
eq_spelled s x y (no n) h = (remove_spelled (s.rep x) s.bs h, go (find (s.rep x) s.bs) (find_spelled (s.rep x) s.bs h))
  where
    go : (b : Bnd) → SpelledBnd b → SpelledStore (again (s.rep y) b)
    go free k = tt
    go (fun f ys) k = (k, tt)

app_spelled : (s : St) (x : ℕ) (f : Label) (ys : List ℕ) (b : Bnd) → Spelled f → SpelledBounds s.bs → SpelledBounds (on_app s x f ys b).0.bs × SpelledStore (on_app s x f ys b).1
app_spelled s x f ys free k h = ((k, h), tt)
app_spelled s x f ys (fun g zs) k h = (h, go (label_dec f g))
  where
    go : (d : Dec (f ≡ g)) → SpelledStore (clash? d (pairs ys zs))
    go (yes e) = pairs_spelled ys zs
    go (no n) = (tt, tt)

abbrev SpelledState : Option St → Type 0
SpelledState none = Unit {0}
SpelledState (some s) = SpelledBounds s.bs

run_spelled : (n : ℕ) (s : St) (p : Store) → SpelledBounds s.bs → SpelledStore p → SpelledState (tell_all n s p)
unfolding tell_all
run_spelled zero s p h k = tt
run_spelled (suc n) s [] h k = h
run_spelled (suc n) s (cfail ∷ p) h k = tt
run_spelled (suc n) s (ctrue ∷ p) h k = run_spelled n s p h k.1
run_spelled (suc n) s (ceq x y ∷ p) h k =
    let d = ℕ_discrete (s.rep y) (s.rep x) in
    let w = eq_spelled s x y d h in
    run_spelled n (on_eq s x y d).0 ((on_eq s x y d).1 ++ p) w.0 (store_append (on_eq s x y d).1 p w.1 k.1)
run_spelled (suc n) s (capp x f ys ∷ p) h k =
    let b = find (s.rep x) s.bs in
    let w = app_spelled s x f ys b k.0 h in
    run_spelled n (on_app s x f ys b).0 ((on_app s x f ys b).1 ++ p) w.0 (store_append (on_app s x f ys b).1 p w.1 k.1)

terms_spelled : (f : ℕ → Term) (ys : List ℕ) → ((y : ℕ) → SpelledTerm (f y)) → SpelledTerms (terms f ys)
unfolding terms
terms_spelled f [] h = tt
terms_spelled f (y ∷ ys) h = (h y, terms_spelled f ys h)

value_spelled : (n : ℕ) (s : St) (x : ℕ) → SpelledBounds s.bs → SpelledTerm (variable_term n s x)
unfolding variable_term
value_spelled zero s x h = tt
value_spelled (suc n) s x h = go (find (s.rep x) s.bs) (find_spelled (s.rep x) s.bs h) (λ y. value_spelled n s y h)
  where
    go : (b : Bnd) → SpelledBnd b → ((y : ℕ) → SpelledTerm (variable_term n s y)) → SpelledTerm (term_of (variable_term n s) (s.rep x) b)
    go free k ih = tt
    go (fun f ys) k ih = (k, terms_spelled (variable_term n s) ys ih)

mutual
  unfolding numbered_term

  numbered_spelled : (t : Term) (l : List ℕ) → SpelledTerm t → SpelledTerm (numbered_term t l)
  numbered_spelled (unbound r) l h = tt
  numbered_spelled (built f ts) l h = (h.0, numbered_spelled_all ts l h.1)

  numbered_spelled_all : (ts : Terms) (l : List ℕ) → SpelledTerms ts → SpelledTerms (numbered_terms ts l)
  numbered_spelled_all no_terms l h = tt
  numbered_spelled_all (more_terms t ts) l h = (numbered_spelled t l h.0, numbered_spelled_all ts l h.1)

-- ---------------------------------------------------------------------------------------------
-- The text is that of the shown terms.

mutual
  unfolding term_text term_bytes numbered_term

  text_term : (t : Term) (l : List ℕ) → term_text t l ≡ term_bytes (numbered_term t l)
  text_term (unbound r) l = refl
  text_term (built f ts) l = ap (λ (z : List ℕ). f ++ z) (text_arguments ts l)

  text_arguments : (ts : Terms) (l : List ℕ) → arguments_text ts l ≡ arguments_bytes (numbered_terms ts l)
  text_arguments no_terms l = refl
  text_arguments (more_terms t ts) l = λ i. bytes "(" ++ text_term t l i ++ text_rest ts l i

  text_rest : (ts : Terms) (l : List ℕ) → rest_text ts l ≡ rest_bytes (numbered_terms ts l)
  text_rest no_terms l = refl
  text_rest (more_terms t ts) l = λ i. bytes "," ++ text_term t l i ++ text_rest ts l i

text_bindings : (xs : List Name) (ts : Terms) (l : List ℕ) → bindings_text xs ts l ≡ bindings_bytes xs (numbered_terms ts l)
unfolding bindings_text bindings_bytes numbered_term
text_bindings [] ts l = refl
text_bindings (x ∷ []) no_terms l = refl
text_bindings (x ∷ (y ∷ xs)) no_terms l = refl
text_bindings (x ∷ []) (more_terms t ts) l = ap (λ (z : List ℕ). x ++ bytes " = " ++ z) (text_term t l)
text_bindings (x ∷ (y ∷ xs)) (more_terms t ts) l = λ i. x ++ bytes " = " ++ text_term t l i ++ bytes ", " ++ text_bindings (y ∷ xs) ts l i

text_line : (xs : List Name) (ts : Terms) → line_text xs ts ≡ line_bytes xs (numbered_terms ts (unknowns_all ts []))
text_line [] ts = refl
text_line (x ∷ xs) ts = text_bindings (x ∷ xs) ts (unknowns_all ts [])

as_many : (xs : List Name) (f : ℕ → Term) (n : ℕ) (l : List ℕ) → AsMany xs (numbered_terms (terms f (range n (size xs))) l)
unfolding size range terms numbered_term
as_many [] f n l = tt
as_many (x ∷ xs) f n l = as_many xs f (suc n) l

-- its solved state
solved_state : (a : Answer) → Fair a → (s : St) × (solve untold a.1 ≡ some s) × SpelledBounds s.bs
unfolding Means solve untold
solved_state a f = go (solve untold a.1) refl (start_ok a.1) (run_spelled _ untold a.1 tt f.labels)
  where
    go : (o : Option St) → solve untold a.1 ≡ o → ((ρ : Asg) → Sats ρ a.1 ↔ Means ρ o) → SpelledState o → (s : St) × (solve untold a.1 ≡ some s) × SpelledBounds s.bs
    go none e h k = absurd ((h f.sat.0).0 f.sat.1)
    go (some s) e h k = (s, e, k)

module _ (xs : List Name) where
  abbrev q : ℕ
  q = size xs

  pub text_shown : (a : Answer) → Fair a → answer_text xs a ≡ line_bytes xs (shown_terms q a)
  unfolding answer_text
  text_shown a f =
      let w = solved_state a f in
      ap (solved_text xs) w.1 ∙ text_line xs (terms (variable_term (suc (size w.0.bs)) w.0) (range 0 q)) ∙ ap (λ o. line_bytes xs (numbered_terms (solved_terms q o) (unknowns_all (solved_terms q o) []))) (sym w.1)

  -- the trees that fit its text are its solutions
  pub text_solutions : (a : Answer) → Fair a → (ρ : Asg) → FitsText q (shown_terms q a) ρ ↔ Allows q a ρ
  text_solutions a f ρ = shown_iff q a f.sat f.own ρ

  shown_spelled : (a : Answer) → Fair a → SpelledTerms (shown_terms q a) × AsMany xs (shown_terms q a)
  shown_spelled a f =
      let w = solved_state a f in
      subst (λ o. SpelledTerms (numbered_terms (solved_terms q o) (unknowns_all (solved_terms q o) [])) × AsMany xs (numbered_terms (solved_terms q o) (unknowns_all (solved_terms q o) []))) (sym w.1) (numbered_spelled_all (terms (variable_term (suc (size w.0.bs)) w.0) (range 0 q)) _ (terms_spelled (variable_term (suc (size w.0.bs)) w.0) (range 0 q) (λ y. value_spelled (suc (size w.0.bs)) w.0 y w.2)), as_many xs (variable_term (suc (size w.0.bs)) w.0) 0 _)

  -- The text reads as the shown terms, and as no others.
  pub text_reads : (a : Answer) → Fair a → ReadsAs xs (answer_text xs a) (shown_terms q a)
  text_reads a f = let w = shown_spelled a f in record { as_many = w.1; spelled = w.0; printed = text_shown a f }

  pub reads_once : (t : List ℕ) (ss ts : Terms) → ReadsAs xs t ss → ReadsAs xs t ts → ss ≡ ts
  reads_once t ss ts r s = line_inj xs ss ts r.as_many s.as_many r.spelled s.spelled (sym r.printed ∙ s.printed)

  same_shown : (a b : Answer) → Fair a → Fair b → ((ρ : Asg) → Allows q a ρ ↔ Allows q b ρ) → shown_terms q a ≡ shown_terms q b
  same_shown a b f g h = subst (λ o. numbered_terms (solved_terms q o) (unknowns_all (solved_terms q o) []) ≡ shown_terms q b) (sym u.1) (subst (λ o. numbered_terms (solved_terms q (some u.0)) (unknowns_all (solved_terms q (some u.0)) []) ≡ numbered_terms (solved_terms q o) (unknowns_all (solved_terms q o) [])) (sym v.1) (same_fit q (variable_term (suc (size u.0.bs)) u.0) (variable_term (suc (size v.0.bs)) v.0) (subst (λ o. SpelledTerms (numbered_terms (solved_terms q o) (unknowns_all (solved_terms q o) []))) u.1 (shown_spelled a f).0) (subst (λ o. SpelledTerms (numbered_terms (solved_terms q o) (unknowns_all (solved_terms q o) []))) v.1 (shown_spelled b g).0) fits))
    where
      u : (s : St) × (solve untold a.1 ≡ some s) × SpelledBounds s.bs
      u = solved_state a f

      v : (s : St) × (solve untold b.1 ≡ some s) × SpelledBounds s.bs
      v = solved_state b g

      abbrev_terms : Option St → Terms
      abbrev_terms o = numbered_terms (solved_terms q o) (unknowns_all (solved_terms q o) [])

      fits : (ρ : Asg) → FitsText q (abbrev_terms (some u.0)) ρ ↔ FitsText q (abbrev_terms (some v.0)) ρ
      fits ρ =
          let x = text_solutions a f ρ in
          let y = text_solutions b g ρ in
          (λ k. subst (λ o. FitsText q (abbrev_terms o) ρ) v.1 (y.1 ((h ρ).0 (x.0 (subst (λ o. FitsText q (abbrev_terms o) ρ) (sym u.1) k)))), λ k. subst (λ o. FitsText q (abbrev_terms o) ρ) u.1 (x.1 ((h ρ).1 (y.0 (subst (λ o. FitsText q (abbrev_terms o) ρ) (sym v.1) k)))))

  -- "two answers of a query have the same text exactly when they have the same solutions"
  pub same_text_iff : (a b : Answer) → Fair a → Fair b → (answer_text xs a ≡ answer_text xs b) ↔ ((ρ : Asg) → Allows q a ρ ↔ Allows q b ρ)
  same_text_iff a b f g = (to_it, λ h. text_shown a f ∙ ap (line_bytes xs) (same_shown a b f g h) ∙ sym (text_shown b g))
    where
      to_it : answer_text xs a ≡ answer_text xs b → (ρ : Asg) → Allows q a ρ ↔ Allows q b ρ
      to_it e ρ =
          let p = shown_spelled a f in
          let r = shown_spelled b g in
          let t : shown_terms q a ≡ shown_terms q b = line_inj xs (shown_terms q a) (shown_terms q b) p.1 r.1 p.0 r.0 (sym (text_shown a f) ∙ e ∙ text_shown b g) in
          let x = text_solutions a f ρ in
          let y = text_solutions b g ρ in
          (λ k. y.0 (subst (λ ts. FitsText q ts ρ) t (x.1 k)), λ k. x.0 (subst (λ ts. FitsText q ts ρ) (sym t) (y.1 k)))

-- ---------------------------------------------------------------------------------------------
-- Answers of a well-formed configuration are such.

stored_spelled : (σ : Store) → T (all stored_fits σ) → SpelledStore σ
unfolding all
stored_spelled [] h = tt
stored_spelled (c ∷ σ) h = let k = (and_T (stored_fits c) (all stored_fits σ)).0 h in (go c k.0, stored_spelled σ k.1)
  where
    go : (d : Con ℕ) → T (stored_fits d) → SpelledCon d
    go ctrue t = elim t [ ]
    go cfail t = tt
    go (ceq x y) t = tt
    go (capp x f ys) t = ((and_T (few ys) (spelled_name f || spelled_digits f)).0 t).1

box_fair : (P : Program) (N : ℕ) (vs : List ℕ) (σ : Store) (ms : Nodes member) (b : Answer) → Ok (and vs σ ms) N [] → Pass P (and vs σ ms) → AnswerIn b (solved_box vs σ ms) → Sub (vars_all b.1) b.0 × SpelledStore b.1
box_fair P N vs σ (cons m ms) b w p i = absurd i
box_fair P N vs σ nil b w p i = go (satisfiable? σ) i
  where
    go : (t : Bool) → AnswerIn b (if t ((vs, σ) ∷ []) []) → Sub (vars_all b.1) b.0 × SpelledStore b.1
    go true (inl e) = subst (λ z. Sub (vars_all z.1) z.0 × SpelledStore z.1) (sym e) (w.3, stored_spelled σ ((pass_and P vs σ nil).0 p).0)
    go true (inr e) = absurd e
    go false e = absurd e

mutual
  unfolding answers statements_pass

  answer_fair : {k : Kind} (n : Node k) (P : Program) (N : ℕ) (b : Answer) → Ok n N [] → Pass P n → AnswerIn b (answers n) → Sub (vars_all b.1) b.0 × SpelledStore b.1
  answer_fair (or ns) P N b w p i = answers_fair ns P N b w p i
  answer_fair (and vs σ ms) P N b w p i = box_fair P N vs σ ms b w p i
  answer_fair (stmt s) P N b w p i = absurd i
  answer_fair (choice_box op gs) P N b w p i = absurd i
  answer_fair (guard g c) P N b w p i = absurd i

  answers_fair : {k : Kind} (ns : Nodes k) (P : Program) (N : ℕ) (b : Answer) → OkAll ns N [] → PassAll P ns → AnswerIn b (answers_all ns) → Sub (vars_all b.1) b.0 × SpelledStore b.1
  answers_fair nil P N b w p i = absurd i
  answers_fair (cons n ns) P N b w p i = elim (in_answers b (answers n) (answers_all ns) i) [ inl j ↦ answer_fair n P N b w.0 ((pass_cons P n ns).0 p).0 j | inr j ↦ answers_fair ns P N b w.1 ((pass_cons P n ns).0 p).1 j ]

pub fair : (P : Program) (N : ℕ) (n : Node goal) (b : Answer) → Ok n N [] → Pass P n → AnswerIn b (answers n) → Fair b
fair P N n b w p i =
    let k = answer_fair n P N b w p i in
    record { sat = answer_satisfiable n b i; own = k.0; labels = k.1 }
