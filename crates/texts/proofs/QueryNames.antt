-- The variables of a query: each once, spelled as variables, and every free one among them.
use mathlib.Core.Path.{◌≡◌, refl, ap, sym, ◌∙◌, subst}
use mathlib.Core.Logic.{◌↔◌, ◌⊎◌, inl, inr}
use mathlib.Core.List.{List, [], ◌∷◌, ◌++◌, map}
use mathlib.Core.Bool.{Bool, true, false, ◌&&◌, ◌||◌, not}
use mathlib.Core.Option.{Option, some, none}
use Prim.Native.Nat.{ℕ, zero, suc, ◌+◌, ◌≤◌, ◌<◌}
use native.Mathlib.Omega.{arith}
use lib.Dec.{T, eqb, eqb→eq, eqb_refl}
use Rattle.constraint.specs.Constraint.{Con, ctrue, cfail, ceq, capp, map_con, In}
use Rattle.constraint.proofs.Lists.{and_T, or_T, not_T, In-append}
use Rattle.akl.proofs.Names.{same_eq_T as same_eq, same_refl_T as same_refl}
use Rattle.akl.specs.Base.{Name, size, same, among, any, all, flat, repeats, first, last, once, if, ◌>>=◌}
use Rattle.akl.specs.Syntax.{Var, number, level, Stmt, atom, call, comp, hide, choice, Clauses, no_more, clause}
use Rattle.akl.specs.Grammar.{Statement, single, joined, Simple, constraint, program, bracket, Bracket, plain, hiding, choosing, Clause, written, Others, end, and_also}
use Rattle.akl.specs.Reader.{names_in, operator_of, not_bound, statement_free, simple_free, bracket_free, clause_free, others_free, variable_of, statement_of, simple_of, bracket_of, clause_of, others_of}
use Rattle.akl.specs.WellFormed.{spelled_variable, variable_numbers, list_numbers, constraint_numbers, numbers, clauses_numbers}
use Rattle.theory.specs.Scope.{Below}
use Rattle.texts.specs.Spelled.{Variables, SpelledCon, SpelledStatement, SpelledSimple, SpelledBracket, SpelledClause, SpelledOthers}
use Rattle.theory.proofs.Context.{below_append}
use Rattle.texts.proofs.ReadFits.{first_size, last_among}

-- ---------------------------------------------------------------------------------------------
-- Names are compared as they are spelled.

same_sym : (x y : Name) → T (same x y) → T (same y x)
same_sym x y t = subst (λ z. T (same z x)) (same_eq x y t) (same_refl x)

-- ---------------------------------------------------------------------------------------------
-- Among.

among_snoc : (x y : Name) (l : List Name) → T (among x (l ++ (y ∷ []))) → T (among x l) ⊎ T (same x y)
unfolding among any
among_snoc x y [] t = elim ((or_T (same x y) false).0 t) [ inl h ↦ inr h | inr h ↦ absurd h ]
among_snoc x y (z ∷ l) t = elim ((or_T (same x z) (any (same x) (l ++ (y ∷ [])))).0 t) [ inl h ↦ inl ((or_T (same x z) (any (same x) l)).1 (inl h)) | inr h ↦ elim (among_snoc x y l h) [ inl k ↦ inl ((or_T (same x z) (any (same x) l)).1 (inr k)) | inr k ↦ inr k ] ]

snoc_left : (x y : Name) (l : List Name) → T (among x l) → T (among x (l ++ (y ∷ [])))
unfolding among any
snoc_left x y [] t = elim t [ ]
snoc_left x y (z ∷ l) t = (or_T (same x z) (any (same x) (l ++ (y ∷ [])))).1 (elim ((or_T (same x z) (any (same x) l)).0 t) [ inl h ↦ inl h | inr h ↦ inr (snoc_left x y l h) ])

snoc_last : (x : Name) (l : List Name) → T (among x (l ++ (x ∷ [])))
unfolding among any
snoc_last x [] = (or_T (same x x) false).1 (inl (same_refl x))
snoc_last x (z ∷ l) = (or_T (same x z) (any (same x) (l ++ (x ∷ [])))).1 (inr (snoc_last x l))

repeats_snoc : (x : Name) (l : List Name) → (T (repeats l) → ⊥) → (T (among x l) → ⊥) → T (repeats (l ++ (x ∷ []))) → ⊥
unfolding repeats among any
repeats_snoc x [] n m t = t
repeats_snoc x (y ∷ l) n m t = elim ((or_T (among y (l ++ (x ∷ []))) (repeats (l ++ (x ∷ [])))).0 t) [ inl h ↦ elim (among_snoc y x l h) [ inl k ↦ n ((or_T (among y l) (repeats l)).1 (inl k)) | inr k ↦ m ((or_T (same x y) (any (same x) l)).1 (inl (same_sym y x k))) ] | inr h ↦ repeats_snoc x l (λ k. n ((or_T (among y l) (repeats l)).1 (inr k))) (λ k. m ((or_T (same x y) (any (same x) l)).1 (inr k))) h ]

-- each once
pub once_distinct : (l seen : List Name) → (T (repeats seen) → ⊥) → T (repeats (once seen l)) → ⊥
unfolding once
once_distinct [] seen n t = n t
once_distinct (x ∷ l) seen n t = once_distinct l (if (among x seen) seen (seen ++ (x ∷ []))) (go (among x seen) refl) t
  where
    go : (b : Bool) → among x seen ≡ b → T (repeats (if b seen (seen ++ (x ∷ [])))) → ⊥
    go true e = n
    go false e = repeats_snoc x seen n (λ k. subst T e k)

once_seen : (x : Name) (l seen : List Name) → T (among x seen) → T (among x (once seen l))
unfolding once
once_seen x [] seen t = t
once_seen x (y ∷ l) seen t = once_seen x l (if (among y seen) seen (seen ++ (y ∷ []))) (go (among y seen))
  where
    go : (b : Bool) → T (among x (if b seen (seen ++ (y ∷ []))))
    go true = t
    go false = snoc_left x y seen t

-- every name of the first list is among the second
abbrev pub Within : List Name → List Name → Type 0
Within [] qs = Unit {0}
Within (x ∷ xs) qs = T (among x qs) × Within xs qs

pub once_within : (l seen : List Name) → Within l (once seen l)
unfolding once
once_within [] seen = tt
once_within (x ∷ l) seen = (once_seen x l (if (among x seen) seen (seen ++ (x ∷ []))) (go (among x seen) refl), once_within l (if (among x seen) seen (seen ++ (x ∷ []))))
  where
    go : (b : Bool) → among x seen ≡ b → T (among x (if b seen (seen ++ (x ∷ []))))
    go true e = subst T (sym e) tt
    go false e = snoc_last x seen

vars_snoc : (l : List Name) (x : Name) → Variables l → T (spelled_variable x) → Variables (l ++ (x ∷ []))
vars_snoc [] x a b = (b, tt)
vars_snoc (y ∷ l) x a b = (a.0, vars_snoc l x a.1 b)

pub once_spelled : (l seen : List Name) → Variables l → Variables seen → Variables (once seen l)
unfolding once
once_spelled [] seen a b = b
once_spelled (x ∷ l) seen a b = once_spelled l (if (among x seen) seen (seen ++ (x ∷ []))) a.1 (go (among x seen))
  where
    go : (c : Bool) → Variables (if c seen (seen ++ (x ∷ [])))
    go true = b
    go false = vars_snoc seen x b a.0

pub variables_all : (l : List Name) → Variables l → T (all spelled_variable l)
unfolding all
variables_all [] h = tt
variables_all (x ∷ l) h = (and_T (spelled_variable x) (all spelled_variable l)).1 (h.0, variables_all l h.1)

-- ---------------------------------------------------------------------------------------------
-- Free names are spelled as variables.

vars_append : (a b : List Name) → Variables a → Variables b → Variables (a ++ b)
vars_append [] b h k = k
vars_append (x ∷ a) b h k = (h.0, vars_append a b h.1 k)

not_bound_spelled : (bs xs : List Name) → Variables xs → Variables (not_bound bs xs)
unfolding flat
not_bound_spelled bs [] h = tt
not_bound_spelled bs (x ∷ xs) h = vars_append (if (among x bs) [] (x ∷ [])) (not_bound bs xs) (go (among x bs)) (not_bound_spelled bs xs h.1)
  where
    go : (b : Bool) → Variables (if b [] (x ∷ []))
    go true = tt
    go false = (h.0, tt)

con_spelled : (c : Con Name) → SpelledCon c → Variables (names_in c)
con_spelled ctrue h = tt
con_spelled cfail h = tt
con_spelled (ceq x y) h = (h.0, (h.1, tt))
con_spelled (capp x f ys) h = (h.0, h.2)

mutual
  unfolding statement_free

  pub free_spelled : (s : Statement) (bs : List Name) → SpelledStatement s → Variables (statement_free s bs)
  free_spelled (single s) bs h = simple_free_spelled s bs h
  free_spelled (joined s r) bs h = vars_append (simple_free s bs) (statement_free r bs) (simple_free_spelled s bs h.0) (free_spelled r bs h.1)

  simple_free_spelled : (s : Simple) (bs : List Name) → SpelledSimple s → Variables (simple_free s bs)
  simple_free_spelled (constraint c) bs h = not_bound_spelled bs (names_in c) (con_spelled c h)
  simple_free_spelled (program p xs) bs h = not_bound_spelled bs xs h.1
  simple_free_spelled (bracket b) bs h = bracket_free_spelled b bs h

  bracket_free_spelled : (b : Bracket) (bs : List Name) → SpelledBracket b → Variables (bracket_free b bs)
  bracket_free_spelled (plain s) bs h = free_spelled s bs h
  bracket_free_spelled (hiding x xs s) bs h = free_spelled s (bs ++ (x ∷ xs)) h.1
  bracket_free_spelled (choosing c cs) bs h = vars_append (clause_free c bs) (others_free cs bs) (clause_free_spelled c bs h.0) (others_free_spelled cs bs h.1)

  clause_free_spelled : (c : Clause) (bs : List Name) → SpelledClause c → Variables (clause_free c bs)
  clause_free_spelled (written xs g op b) bs h = vars_append (statement_free g (bs ++ xs)) (statement_free b (bs ++ xs)) (free_spelled g (bs ++ xs) h.1) (free_spelled b (bs ++ xs) h.2)

  others_free_spelled : (cs : Others) (bs : List Name) → SpelledOthers cs → Variables (others_free cs bs)
  others_free_spelled end bs h = tt
  others_free_spelled (and_also c cs) bs h = vars_append (clause_free c bs) (others_free cs bs) (clause_free_spelled c bs h.0) (others_free_spelled cs bs h.1)

-- ---------------------------------------------------------------------------------------------
-- Every number in the statement is of a name among the query's variables.

within_left : (a b qs : List Name) → Within (a ++ b) qs → Within a qs × Within b qs
within_left [] b qs h = (tt, h)
within_left (x ∷ a) b qs h = let k = within_left a b qs h.1 in ((h.0, k.0), k.1)

module _ (qs : List Name) where
  -- a name that is bound, or else among qs
  abbrev Known : List Name → Name → Type 0
  Known bs x = (T (among x bs) → ⊥) → T (among x qs)

  abbrev KnownAll : List Name → List Name → Type 0
  KnownAll bs [] = Unit {0}
  KnownAll bs (x ∷ xs) = Known bs x × KnownAll bs xs

  known_from : (bs xs : List Name) → Within (not_bound bs xs) qs → KnownAll bs xs
  unfolding flat
  known_from bs [] h = tt
  known_from bs (x ∷ xs) h =
      let k = within_left (if (among x bs) [] (x ∷ [])) (not_bound bs xs) qs h in
      (go (among x bs) k.0, known_from bs xs k.1)
    where
      go : (b : Bool) → Within (if b [] (x ∷ [])) qs → (T b → ⊥) → T (among x qs)
      go true w n = absurd (n tt)
      go false w n = w.0

  var_number : (bs : List Name) (x : Name) → Known bs x → Below (variable_numbers (variable_of qs bs x)) (size qs)
  var_number bs x k = go (last x bs) refl
    where
      at_first : (i : ℕ) → i < size qs → Below (i ∷ []) (size qs)
      at_first i l y (inl e) = subst (λ z. z < size qs) (sym e) l
      at_first i l y (inr e) = absurd e

      go : (o : Option ℕ) → last x bs ≡ o → Below (variable_numbers (elim o as (λ z. Var) [ some l ↦ level l | none ↦ elim (first x qs) [ some i ↦ number i | none ↦ number (size qs) ] ])) (size qs)
      go (some l) e = λ y i. absurd i
      go none e =
          let w = first_size x qs (k (not_among bs e)) in
          subst (λ o. Below (variable_numbers (elim o as (λ z. Var) [ some i ↦ number i | none ↦ number (size qs) ])) (size qs)) (sym w.1) (at_first w.0 w.2)
        where
          not_among : (cs : List Name) → last x cs ≡ none → T (among x cs) → ⊥
          not_among cs q t = nope (sym q ∙ (last_among x cs t).1)
            where
              nope : {i : ℕ} → ◌≡◌ {A = Option ℕ} none (some i) → ⊥
              nope r = let z : ◌≡◌ {A = ℕ} 0 1 = cc in omega arith

  list_number : (bs xs : List Name) → KnownAll bs xs → Below (list_numbers (map (variable_of qs bs) xs)) (size qs)
  unfolding list_numbers
  list_number bs [] h = λ y i. absurd i
  list_number bs (x ∷ xs) h = below_append (variable_numbers (variable_of qs bs x)) (list_numbers (map (variable_of qs bs) xs)) (size qs) (var_number bs x h.0) (list_number bs xs h.1)

  con_number : (c : Con Name) (bs : List Name) → KnownAll bs (names_in c) → Below (constraint_numbers (map_con (variable_of qs bs) c)) (size qs)
  con_number ctrue bs h = λ y i. absurd i
  con_number cfail bs h = λ y i. absurd i
  con_number (ceq x y) bs h = below_append (variable_numbers (variable_of qs bs x)) (variable_numbers (variable_of qs bs y)) (size qs) (var_number bs x h.0) (var_number bs y h.1.0)
  con_number (capp x f ys) bs h = below_append (variable_numbers (variable_of qs bs x)) (list_numbers (map (variable_of qs bs) ys)) (size qs) (var_number bs x h.0) (list_number bs ys h.1)

  mutual
    unfolding statement_free statement_of numbers

    pub numbers_below : (s : Statement) (bs : List Name) → Within (statement_free s bs) qs → Below (numbers (statement_of s qs bs)) (size qs)
    numbers_below (single s) bs h = simple_below s bs h
    numbers_below (joined s r) bs h = let k = within_left (simple_free s bs) (statement_free r bs) qs h in below_append (numbers (simple_of s qs bs)) (numbers (statement_of r qs bs)) (size qs) (simple_below s bs k.0) (numbers_below r bs k.1)

    simple_below : (s : Simple) (bs : List Name) → Within (simple_free s bs) qs → Below (numbers (simple_of s qs bs)) (size qs)
    simple_below (constraint c) bs h = con_number c bs (known_from bs (names_in c) h)
    simple_below (program p xs) bs h = list_number bs xs (known_from bs xs h)
    simple_below (bracket b) bs h = bracket_below b bs h

    bracket_below : (b : Bracket) (bs : List Name) → Within (bracket_free b bs) qs → Below (numbers (bracket_of b qs bs)) (size qs)
    bracket_below (plain s) bs h = numbers_below s bs h
    bracket_below (hiding x xs s) bs h = numbers_below s (bs ++ (x ∷ xs)) h
    bracket_below (choosing c cs) bs h = let k = within_left (clause_free c bs) (others_free cs bs) qs h in clause_below c bs (others_of cs qs bs) k.0 (others_below cs bs k.1)

    clause_below : (c : Clause) (bs : List Name) (rest : Clauses) → Within (clause_free c bs) qs → Below (clauses_numbers rest) (size qs) → Below (clauses_numbers (clause_of c qs bs rest)) (size qs)
    clause_below (written xs g op b) bs rest h r =
        let k = within_left (statement_free g (bs ++ xs)) (statement_free b (bs ++ xs)) qs h in
        below_append (numbers (statement_of g qs (bs ++ xs)) ++ numbers (statement_of b qs (bs ++ xs))) (clauses_numbers rest) (size qs) (below_append (numbers (statement_of g qs (bs ++ xs))) (numbers (statement_of b qs (bs ++ xs))) (size qs) (numbers_below g (bs ++ xs) k.0) (numbers_below b (bs ++ xs) k.1)) r

    others_below : (cs : Others) (bs : List Name) → Within (others_free cs bs) qs → Below (clauses_numbers (others_of cs qs bs)) (size qs)
    others_below end bs h = λ y i. absurd i
    others_below (and_also c cs) bs h = let k = within_left (clause_free c bs) (others_free cs bs) qs h in clause_below c bs (others_of cs qs bs) k.0 (others_below cs bs k.1)
