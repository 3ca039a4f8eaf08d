-- A text without faults stands for statements that pass: the reader's refusals are those of well-formedness.
use mathlib.Core.Path.{◌≡◌, refl, ap, sym, ◌∙◌, subst}
use mathlib.Core.Logic.{◌↔◌, ◌⊎◌, inl, inr}
use mathlib.Core.List.{List, [], ◌∷◌, ◌++◌, map}
use mathlib.Core.Bool.{Bool, true, false, ◌&&◌, ◌||◌, not}
use mathlib.Core.Option.{Option, some, none}
use Prim.Native.Nat.{ℕ, zero, suc, ◌+◌, ◌≤◌, ◌<◌, max}
use native.Mathlib.Omega.{arith}
use lib.Dec.{T, eqb, leb, ltb, leb→le, le→leb, ltb→lt, lt→ltb, nltb→le, nleb→lt}
use Rattle.constraint.specs.Constraint.{Con, ctrue, cfail, ceq, capp, map_con, In}
use Rattle.constraint.proofs.Lists.{and_T, or_T, not_T, In-append}
use Rattle.akl.specs.Base.{is_some, Name, size, same, among, any, all, repeats, first, last, if, ◌>>=◌}
use Rattle.akl.specs.Limits.{most_arguments, most_depth}
use Rattle.akl.specs.Syntax.{Var, number, level, Op, Stmt, atom, call, comp, hide, choice, Clauses, no_more, clause, Def, Program, defined}
use Rattle.akl.specs.Grammar.{Statement, single, joined, Simple, constraint, program, bracket, Bracket, plain, hiding, choosing, Clause, written, Others, end, and_also, Definition}
use Rattle.akl.specs.Reader.{names_in, operator_of, mixed, fault, Around, unbound, hiding_also, deeper, unknown, constraint_faults, statement_faults, simple_faults, bracket_faults, clause_faults, others_faults, not_bound, statement_free, simple_free, bracket_free, clause_free, others_free, variable_of, statement_of, simple_of, bracket_of, clause_of, others_of}
use Rattle.akl.specs.WellFormed.{variable_fits, few, constraint_fits, statement_fits, clauses_fit, some_clause, spelled_name, spelled_digits, is_comp, bracketed, depth, clauses_depth, variable_numbers, list_numbers, constraint_numbers, numbers, clauses_numbers}
use Rattle.texts.specs.Spelled.{Variables, SpelledCon, SpelledStatement, SpelledSimple, SpelledBracket, SpelledClause, SpelledOthers}
use Rattle.theory.proofs.Locals.{size_map, size_append}

-- ---------------------------------------------------------------------------------------------
-- No faults.

cons_nil : (x : ℕ) (l : List ℕ) → x ∷ l ≡ [] → ⊥
cons_nil x l e = let z : ◌≡◌ {A = ℕ} 0 1 = cc in omega arith

pub no_left : (a b : List ℕ) → a ++ b ≡ [] → (a ≡ []) × (b ≡ [])
no_left [] b e = (refl, e)
no_left (x ∷ a) b e = absurd (cons_nil x (a ++ b) e)

pub no_fault : (n : ℕ) (b : Bool) → fault n b ≡ [] → T b → ⊥
no_fault n true e t = cons_nil n [] e
no_fault n false e t = t

not_high : (a b : ℕ) → (T (ltb a b) → ⊥) → b ≤ a
not_high a b n = nltb→le a b ((not_T (ltb a b)).1 n)

-- ---------------------------------------------------------------------------------------------
-- Names and positions.

last_size : (x : Name) (l : List Name) (i : ℕ) → last x l ≡ some i → i < size l
unfolding last size
last_size x [] i e = absurd (nope e)
  where
    nope : ◌≡◌ {A = Option ℕ} none (some i) → ⊥
    nope q = let z : ◌≡◌ {A = ℕ} 0 1 = cc in omega arith
last_size x (y ∷ l) i e = go (last x l) refl e (λ j q. last_size x l j q)
  where
    nope : ◌≡◌ {A = Option ℕ} none (some i) → ⊥
    nope q = let z : ◌≡◌ {A = ℕ} 0 1 = cc in omega arith

    here : (b : Bool) → if b (some 0) none ≡ some i → i < suc (size l)
    here true q = let z : 0 ≡ i = cc q in omega arith
    here false q = absurd (nope q)

    go : (o : Option ℕ) → last x l ≡ o → elim o as (λ z. Option ℕ) [ none ↦ if (same x y) (some 0) none | some j ↦ some (suc j) ] ≡ some i → ((j : ℕ) → last x l ≡ some j → j < size l) → i < suc (size l)
    go none p q ih = here (same x y) q
    go (some j) p q ih = let z : suc j ≡ i = cc q in omega (arith, ih j p)

pub last_among : (x : Name) (l : List Name) → T (among x l) → (i : ℕ) × (last x l ≡ some i)
unfolding last among any
last_among x [] t = elim t [ ]
last_among x (y ∷ l) t = go (last x l) refl ((or_T (same x y) (any (same x) l)).0 t) (λ u. last_among x l u)
  where
    here : (b : Bool) → T b → (i : ℕ) × (if b (some 0) none ≡ some i)
    here false u = elim u [ ]
    here true u = (0, refl)

    go : (o : Option ℕ) → last x l ≡ o → T (same x y) ⊎ T (any (same x) l) → (T (any (same x) l) → (i : ℕ) × (last x l ≡ some i)) → (i : ℕ) × (elim o as (λ z. Option ℕ) [ none ↦ if (same x y) (some 0) none | some j ↦ some (suc j) ] ≡ some i)
    go (some j) p h ih = (suc j, refl)
    go none p (inl u) ih = here (same x y) u
    go none p (inr u) ih = absurd (nope (sym p ∙ (ih u).1))
      where
        nope : {i : ℕ} → ◌≡◌ {A = Option ℕ} none (some i) → ⊥
        nope q = let z : ◌≡◌ {A = ℕ} 0 1 = cc in omega arith

pub first_size : (x : Name) (l : List Name) → T (among x l) → (i : ℕ) × (first x l ≡ some i) × (i < size l)
unfolding first among any size
first_size x [] t = elim t [ ]
first_size x (y ∷ l) t = go (same x y) ((or_T (same x y) (any (same x) l)).0 t) (λ u. first_size x l u)
  where
    go : (b : Bool) → T b ⊎ T (any (same x) l) → (T (any (same x) l) → (i : ℕ) × (first x l ≡ some i) × (i < size l)) → (i : ℕ) × (if b (some 0) (first x l >>= λ j. some (suc j)) ≡ some i) × (i < suc (size l))
    go true h ih = (0, refl, omega arith)
    go false (inl u) ih = absurd u
    go false (inr u) ih = let w = ih u in (suc w.0, ap (λ o. o >>= λ j. some (suc j)) w.1, omega (arith, w.2))

-- ---------------------------------------------------------------------------------------------
-- Variables. In a program all are bound; in a query those that are not are among the query's.

-- how a statement's variables may stand: `free` says of a number that it may
module _ (P : Program) (defs : List (Name × ℕ)) (known : (p : Name) (n : ℕ) → T (any (λ d. same d.0 p && eqb d.1 n) defs) → T (is_some (defined P p n))) (qs : List Name) (free : ℕ → Bool) where
  -- the names bound around, and those that may stand free
  abbrev VarOk : List Name → Name → Type 0
  VarOk bs x = T (among x bs) ⊎ ((x : ℕ) → T (free x))

  var_fits : (bs : List Name) (x : Name) → VarOk bs x → T (variable_fits free (size bs) (variable_of qs bs x))
  var_fits bs x h = go (last x bs) refl h
    where
      number_fits : ((y : ℕ) → T (free y)) → (o : Option ℕ) → T (variable_fits free (size bs) (elim o as (λ z. Var) [ some i ↦ number i | none ↦ number (size qs) ]))
      number_fits f (some i) = f i
      number_fits f none = f (size qs)

      go : (o : Option ℕ) → last x bs ≡ o → VarOk bs x → T (variable_fits free (size bs) (elim o as (λ z. Var) [ some l ↦ level l | none ↦ elim (first x qs) [ some i ↦ number i | none ↦ number (size qs) ] ]))
      go (some l) e k = lt→ltb l (size bs) (last_size x bs l e)
      go none e (inr f) = number_fits f (first x qs)
      go none e (inl t) = absurd (nope (sym e ∙ (last_among x bs t).1))
        where
          nope : {i : ℕ} → ◌≡◌ {A = Option ℕ} none (some i) → ⊥
          nope q = let z : ◌≡◌ {A = ℕ} 0 1 = cc in omega arith

  abbrev VarsOk : List Name → List Name → Type 0
  VarsOk bs [] = Unit {0}
  VarsOk bs (x ∷ xs) = VarOk bs x × VarsOk bs xs

  vars_fit : (bs xs : List Name) → VarsOk bs xs → T (all (variable_fits free (size bs)) (map (variable_of qs bs) xs))
  unfolding all
  vars_fit bs [] h = tt
  vars_fit bs (x ∷ xs) h = (and_T (variable_fits free (size bs) (variable_of qs bs x)) (all (variable_fits free (size bs)) (map (variable_of qs bs) xs))).1 (var_fits bs x h.0, vars_fit bs xs h.1)

  -- the surroundings of a statement: these definitions, these bound names or none that bind, this depth
  pub record Where (bs : List Name) (d : ℕ) (a : Around) : Type 0 where
    pub defs_are : a.definitions ≡ defs
    pub bound_is : (a.bound ≡ some bs) ⊎ ((x : ℕ) → T (free x))
    pub depth_is : a.depth ≡ d

  all_bound : (bs xs : List Name) → (T (any (λ x. not (among x bs)) xs) → ⊥) → VarsOk bs xs
  unfolding any
  all_bound bs [] n = tt
  all_bound bs (x ∷ xs) n = (inl (yes_of (among x bs) (λ t. n (o.1 (inl t)))), all_bound bs xs (λ t. n (o.1 (inr t))))
    where
      o : T (not (among x bs) || any (λ y. not (among y bs)) xs) ↔ (T (not (among x bs)) ⊎ T (any (λ y. not (among y bs)) xs))
      o = or_T (not (among x bs)) (any (λ y. not (among y bs)) xs)

      yes_of : (b : Bool) → (T (not b) → ⊥) → T b
      yes_of true m = tt
      yes_of false m = m tt

  all_free : ((x : ℕ) → T (free x)) → (bs xs : List Name) → VarsOk bs xs
  all_free f bs [] = tt
  all_free f bs (x ∷ xs) = (inr f, all_free f bs xs)

  bound_ok : (bs : List Name) (d : ℕ) (a : Around) → Where bs d a → (xs : List Name) → (T (unbound a.bound xs) → ⊥) → VarsOk bs xs
  bound_ok bs d a w xs n = elim w.bound_is [ inl e ↦ all_bound bs xs (λ t. n (subst (λ b. T (unbound b xs)) (sym e) t)) | inr f ↦ all_free f bs xs ]

  inner : (bs hs : List Name) (d : ℕ) (a : Around) → Where bs d a → Where (bs ++ hs) d (hiding_also hs a)
  inner bs hs d a w = record { defs_are = w.defs_are; bound_is = elim w.bound_is [ inl e ↦ inl (ap (λ b. b >>= (λ cs. some (cs ++ hs))) e) | inr f ↦ inr f ]; depth_is = w.depth_is }

  below : (bs : List Name) (d : ℕ) (a : Around) → Where bs d a → Where bs (suc d) (deeper a)
  below bs d a w = record { defs_are = w.defs_are; bound_is = w.bound_is; depth_is = ap suc w.depth_is }

  few_of : (xs : List Name) (f : Name → Var) → (T (ltb most_arguments (size xs)) → ⊥) → T (few (map f xs))
  few_of xs f n = le→leb (size (map f xs)) most_arguments (subst (λ k. k ≤ most_arguments) (sym (size_map f xs)) (not_high most_arguments (size xs) n))

  con_ok : (c : Con Name) (bs : List Name) (d : ℕ) (a : Around) → Where bs d a → SpelledCon c → constraint_faults c a ≡ [] → T (constraint_fits free (size bs) (map_con (variable_of qs bs) c))
  con_ok ctrue bs d a w sp e = tt
  con_ok cfail bs d a w sp e = tt
  con_ok (ceq x y) bs d a w sp e =
      let v = bound_ok bs d a w (x ∷ y ∷ []) (no_fault 6 (unbound a.bound (x ∷ y ∷ [])) e) in
      (and_T (variable_fits free (size bs) (variable_of qs bs x)) (variable_fits free (size bs) (variable_of qs bs y))).1 (var_fits bs x v.0, var_fits bs y v.1.0)
  con_ok (capp x f ys) bs d a w sp e =
      let k = no_left (fault 3 (ltb most_arguments (size ys))) (fault 6 (unbound a.bound (x ∷ ys))) e in
      let v = bound_ok bs d a w (x ∷ ys) (no_fault 6 (unbound a.bound (x ∷ ys)) k.1) in
      let vf = variable_fits free (size bs) in
      let o = variable_of qs bs in
      (and_T (vf (o x) && all vf (map o ys) && few (map o ys)) (spelled_name f || spelled_digits f)).1 ((and_T (vf (o x) && all vf (map o ys)) (few (map o ys))).1 ((and_T (vf (o x)) (all vf (map o ys))).1 (var_fits bs x v.0, vars_fit bs ys v.1), few_of ys o (no_fault 3 (ltb most_arguments (size ys)) k.0)), sp.1)

  -- a statement that fits, and whose depth stays within what is left
  abbrev pub Fine : List Name → ℕ → Stmt → Type 0
  Fine bs d s = T (statement_fits s P free (size bs)) × (d + depth s ≤ most_depth)

  -- .. also where it is the left part of a composition
  abbrev FineLeft : List Name → ℕ → Stmt → Type 0
  FineLeft bs d s = T (statement_fits s P free (size bs)) × (d + bracketed (is_comp s) (depth s) ≤ most_depth)

  size_hidden : (bs hs : List Name) → size (bs ++ hs) ≡ size bs + size hs
  size_hidden bs hs = size_append bs hs

  -- a bracket stands one deeper, so that it may stand on the left too
  on_left : (bs : List Name) (d : ℕ) (s : Stmt) → Fine bs (suc d) s → FineLeft bs d s
  on_left bs d s f = (f.0, go (is_comp s))
    where
      go : (b : Bool) → d + bracketed b (depth s) ≤ most_depth
      go true = omega (arith, f.1)
      go false = omega (arith, f.1)

  some_size : (z : Name) (zs : List Name) → T (leb 1 (size (z ∷ zs)))
  unfolding size
  some_size z zs = le→leb 1 (suc (size zs)) (omega arith)

  clause_some : (c : Clause) (bs : List Name) (rest : Clauses) → T (some_clause (clause_of c qs bs rest))
  unfolding statement_of statement_fits
  clause_some (written xs g op b) bs rest = tt

  -- clauses that fit, one bracket deeper
  abbrev ClausesFine : List Name → ℕ → Clauses → Type 0
  ClausesFine bs d cs = T (clauses_fit cs P free (size bs)) × (suc d + clauses_depth cs ≤ most_depth)

  mutual
    unfolding statement_faults statement_of statement_fits depth

    pub statement_ok : (s : Statement) (bs : List Name) (d : ℕ) (a : Around) → Where bs d a → d ≤ most_depth → SpelledStatement s → statement_faults s a ≡ [] → Fine bs d (statement_of s qs bs)
    statement_ok (single s) bs d a w l sp e = let k = simple_ok s bs d a w l sp e in (k.0, low (is_comp (simple_of s qs bs)) k.1)
      where
        low : (b : Bool) → d + bracketed b (depth (simple_of s qs bs)) ≤ most_depth → d + depth (simple_of s qs bs) ≤ most_depth
        low true h = omega arith
        low false h = h
    statement_ok (joined s r) bs d a w l sp e =
        let k = no_left (simple_faults s a) (statement_faults r a) e in
        let x = simple_ok s bs d a w l sp.0 k.0 in
        let y = statement_ok r bs d a w l sp.1 k.1 in
        ((and_T (statement_fits (simple_of s qs bs) P free (size bs)) (statement_fits (statement_of r qs bs) P free (size bs))).1 (x.0, y.0), both (bracketed (is_comp (simple_of s qs bs)) (depth (simple_of s qs bs))) (depth (statement_of r qs bs)) x.1 y.1)
      where
        both : (m n : ℕ) → d + m ≤ most_depth → d + n ≤ most_depth → d + max m n ≤ most_depth
        both m n p q = omega arith

    simple_ok : (s : Simple) (bs : List Name) (d : ℕ) (a : Around) → Where bs d a → d ≤ most_depth → SpelledSimple s → simple_faults s a ≡ [] → FineLeft bs d (simple_of s qs bs)
    simple_ok (constraint c) bs d a w l sp e = (con_ok c bs d a w sp e, omega arith)
    simple_ok (program p xs) bs d a w l sp e = ((and_T (all (variable_fits free (size bs)) (map (variable_of qs bs) xs) && few (map (variable_of qs bs) xs)) (is_some (defined P p (size (map (variable_of qs bs) xs))))).1 ((and_T (all (variable_fits free (size bs)) (map (variable_of qs bs) xs)) (few (map (variable_of qs bs) xs))).1 (vars_fit bs xs (bound_ok bs d a w xs (no_fault 6 (unbound a.bound xs) f3.1)), few_of xs (variable_of qs bs) (no_fault 3 (ltb most_arguments (size xs)) f2.0)), subst (λ k. T (is_some (defined P p k))) (sym (size_map (variable_of qs bs) xs)) (known p (size xs) (subst (λ ds. T (any (λ h. same h.0 p && eqb h.1 (size xs)) ds)) w.defs_are (yes_of (any (λ h. same h.0 p && eqb h.1 (size xs)) a.definitions) (no_fault 5 (unknown a p (size xs)) f2.1))))), omega arith)
      where
        f3 : (fault 3 (ltb most_arguments (size xs)) ++ fault 5 (unknown a p (size xs)) ≡ []) × (fault 6 (unbound a.bound xs) ≡ [])
        f3 = no_left (fault 3 (ltb most_arguments (size xs)) ++ fault 5 (unknown a p (size xs))) (fault 6 (unbound a.bound xs)) e

        f2 : (fault 3 (ltb most_arguments (size xs)) ≡ []) × (fault 5 (unknown a p (size xs)) ≡ [])
        f2 = no_left (fault 3 (ltb most_arguments (size xs))) (fault 5 (unknown a p (size xs))) f3.0

        yes_of : (b : Bool) → (T (not b) → ⊥) → T b
        yes_of true m = tt
        yes_of false m = m tt
    simple_ok (bracket b) bs d a w l sp e =
        let k = no_left (fault 3 (leb most_depth a.depth)) (bracket_faults b (deeper a)) e in
        bracket_ok b bs d (deeper a) (below bs d a w) (room (no_fault 3 (leb most_depth a.depth) k.0)) sp k.1
      where
        room : (T (leb most_depth a.depth) → ⊥) → suc d ≤ most_depth
        room n = subst (λ j. suc j ≤ most_depth) w.depth_is (nleb→lt most_depth a.depth ((not_T (leb most_depth a.depth)).1 n))

    bracket_ok : (b : Bracket) (bs : List Name) (d : ℕ) (a : Around) → Where bs (suc d) a → suc d ≤ most_depth → SpelledBracket b → bracket_faults b a ≡ [] → FineLeft bs d (bracket_of b qs bs)
    bracket_ok (plain s) bs d a w l sp e = on_left bs d (statement_of s qs bs) (statement_ok s bs (suc d) a w l sp e)
    bracket_ok (hiding x xs s) bs d a w l sp e =
        let k = no_left (fault 4 (repeats (x ∷ xs))) (statement_faults s (hiding_also (x ∷ xs) a)) e in
        let y = statement_ok s (bs ++ (x ∷ xs)) (suc d) (hiding_also (x ∷ xs) a) (inner bs (x ∷ xs) (suc d) a w) l sp.1 k.1 in
        ((and_T (leb 1 (size (x ∷ xs))) (statement_fits (statement_of s qs (bs ++ (x ∷ xs))) P free (size bs + size (x ∷ xs)))).1 (some_size x xs, subst (λ j. T (statement_fits (statement_of s qs (bs ++ (x ∷ xs))) P free j)) (size_hidden bs (x ∷ xs)) y.0), omega (arith, y.1))
    bracket_ok (choosing c cs) bs d a w l sp e =
        let k2 = no_left (fault 7 (mixed (operator_of c) cs) ++ clause_faults c a) (others_faults cs a) e in
        let k1 = no_left (fault 7 (mixed (operator_of c) cs)) (clause_faults c a) k2.0 in
        let o = others_ok cs bs d a w l sp.1 k2.1 in
        let y = clause_ok c (others_of cs qs bs) bs d a w l sp.0 k1.1 o in
        ((and_T (some_clause (clause_of c qs bs (others_of cs qs bs))) (clauses_fit (clause_of c qs bs (others_of cs qs bs)) P free (size bs))).1 (clause_some c bs (others_of cs qs bs), y.0), omega (arith, y.1))

    clause_ok : (c : Clause) (rest : Clauses) (bs : List Name) (d : ℕ) (a : Around) → Where bs (suc d) a → suc d ≤ most_depth → SpelledClause c → clause_faults c a ≡ [] → ClausesFine bs d rest → ClausesFine bs d (clause_of c qs bs rest)
    clause_ok (written xs g op b) rest bs d a w l sp e r =
        let k2 = no_left (fault 4 (repeats xs) ++ statement_faults g (hiding_also xs a)) (statement_faults b (hiding_also xs a)) e in
        let k1 = no_left (fault 4 (repeats xs)) (statement_faults g (hiding_also xs a)) k2.0 in
        let v = inner bs xs (suc d) a w in
        let x = statement_ok g (bs ++ xs) (suc d) (hiding_also xs a) v l sp.1 k1.1 in
        let y = statement_ok b (bs ++ xs) (suc d) (hiding_also xs a) v l sp.2 k2.1 in
        let sg = statement_of g qs (bs ++ xs) in
        let sb = statement_of b qs (bs ++ xs) in
        let shift = size_hidden bs xs in
        ((and_T (statement_fits sg P free (size bs + size xs) && statement_fits sb P free (size bs + size xs)) (clauses_fit rest P free (size bs))).1 ((and_T (statement_fits sg P free (size bs + size xs)) (statement_fits sb P free (size bs + size xs))).1 (subst (λ j. T (statement_fits sg P free j)) shift x.0, subst (λ j. T (statement_fits sb P free j)) shift y.0), r.0), omega (arith, x.1, y.1, r.1))

    others_ok : (cs : Others) (bs : List Name) (d : ℕ) (a : Around) → Where bs (suc d) a → suc d ≤ most_depth → SpelledOthers cs → others_faults cs a ≡ [] → ClausesFine bs d (others_of cs qs bs)
    others_ok end bs d a w l sp e = (tt, omega arith)
    others_ok (and_also c cs) bs d a w l sp e =
        let k = no_left (clause_faults c a) (others_faults cs a) e in
        clause_ok c (others_of cs qs bs) bs d a w l sp.0 k.0 (others_ok cs bs d a w l sp.1 k.1)
