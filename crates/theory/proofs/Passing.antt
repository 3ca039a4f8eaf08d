-- Statements stay such that a text could read as them: 2 to 7 would pass.
use mathlib.Core.Path.{◌≡◌, refl, ap, sym, ◌∙◌, subst}
use mathlib.Core.Logic.{◌↔◌, ◌⊎◌, inl, inr}
use mathlib.Core.List.{List, [], ◌∷◌, ◌++◌, map}
use mathlib.Core.Bool.{Bool, true, false, ◌&&◌, ◌||◌, not}
use mathlib.Core.Option.{Option, some, none}
use Prim.Native.Nat.{ℕ, zero, suc, ◌+◌, ◌≤◌, ◌<◌, max}
use native.Mathlib.Omega.{arith}
use native.Mathlib.Nat.{not-suc-le-zero}
use lib.Dec.{T, leb, ltb, eqb, ltb→lt, lt→ltb, leb→le, le→leb, eqb→eq}
use Rattle.constraint.specs.Constraint.{Con, ctrue, cfail, ceq, capp, map_con, In}
use Rattle.constraint.proofs.Lists.{none_some, and_T, In-append}
use Rattle.akl.specs.Base.{is_some, Name, size, same, all, range, if}
use Rattle.akl.specs.Limits.{most_depth, most_definitions}
use Rattle.akl.specs.Syntax.{Var, number, level, Op, Stmt, atom, call, comp, hide, choice, Clauses, no_more, clause, Def, Program, defined, open_level, open_var, opened, opened_clauses}
use Rattle.akl.specs.Reader.{twice}
use Rattle.akl.specs.Rules.{fresh}
use Rattle.akl.specs.WellFormed.{variable_fits, few, constraint_fits, statement_fits, clauses_fit, some_clause, spelled_name, spelled_digits, spelled_predicate, is_comp, bracketed, depth, clauses_depth, statement_passes, definition_passes, program_passes, variable_numbers, list_numbers, constraint_numbers, numbers, clauses_numbers}
use Rattle.theory.proofs.Closed.{any_number}
use Rattle.theory.proofs.Locals.{size_map, size_range}

-- ---------------------------------------------------------------------------------------------
-- Opened: with numbers for the m outermost of m + n bound variables, n are left.

module _ (P : Program) (free : ℕ → Bool) (ws : List ℕ) where
  abbrev Fit : ℕ → Var → Type 0
  Fit n v = T (variable_fits any_number n v)

  level_fits : (us : List ℕ) (n l : ℕ) → l < size us + n → Fit n (open_level (map number us) l)
  unfolding open_level size
  level_fits [] n l h = lt→ltb l n (omega arith)
  level_fits (u ∷ us) n zero h = tt
  level_fits (u ∷ us) n (suc l) h = level_fits us n l (omega arith)

  var_fits : (n : ℕ) (v : Var) → T (variable_fits free (size ws + n) v) → Fit n (open_var (map number ws) v)
  unfolding open_var
  var_fits n (number x) h = tt
  var_fits n (level l) h = level_fits ws n l (ltb→lt l (size ws + n) h)

  list_fits : (n : ℕ) (vs : List Var) → T (all (variable_fits free (size ws + n)) vs) → T (all (variable_fits any_number n) (map (open_var (map number ws)) vs))
  unfolding all
  list_fits n [] h = tt
  list_fits n (v ∷ vs) h =
      let k = (and_T (variable_fits free (size ws + n) v) (all (variable_fits free (size ws + n)) vs)).0 h in
      (and_T (variable_fits any_number n (open_var (map number ws) v)) (all (variable_fits any_number n) (map (open_var (map number ws)) vs))).1 (var_fits n v k.0, list_fits n vs k.1)

  few_map : (vs : List Var) → T (few vs) → T (few (map (open_var (map number ws)) vs))
  few_map vs h = subst (λ k. T (leb k 8)) (sym (size_map (open_var (map number ws)) vs)) h

  con_fits : (n : ℕ) (c : Con Var) → T (constraint_fits free (size ws + n) c) → T (constraint_fits any_number n (map_con (open_var (map number ws)) c))
  con_fits n ctrue h = tt
  con_fits n cfail h = tt
  con_fits n (ceq x y) h =
      let k = (and_T (variable_fits free (size ws + n) x) (variable_fits free (size ws + n) y)).0 h in
      (and_T (variable_fits any_number n (open_var (map number ws) x)) (variable_fits any_number n (open_var (map number ws) y))).1 (var_fits n x k.0, var_fits n y k.1)
  con_fits n (capp x f ys) h =
      let o = open_var (map number ws) in
      let k3 = (and_T (variable_fits free (size ws + n) x && all (variable_fits free (size ws + n)) ys && few ys) (spelled_name f || spelled_digits f)).0 h in
      let k2 = (and_T (variable_fits free (size ws + n) x && all (variable_fits free (size ws + n)) ys) (few ys)).0 k3.0 in
      let k1 = (and_T (variable_fits free (size ws + n) x) (all (variable_fits free (size ws + n)) ys)).0 k2.0 in
      (and_T (variable_fits any_number n (o x) && all (variable_fits any_number n) (map o ys) && few (map o ys)) (spelled_name f || spelled_digits f)).1 ((and_T (variable_fits any_number n (o x) && all (variable_fits any_number n) (map o ys)) (few (map o ys))).1 ((and_T (variable_fits any_number n (o x)) (all (variable_fits any_number n) (map o ys))).1 (var_fits n x k1.0, list_fits n ys k1.1), few_map ys k2.1), k3.1)

  mutual
    unfolding statement_fits opened

    pub opened_fits : (s : Stmt) (n : ℕ) → T (statement_fits s P free (size ws + n)) → T (statement_fits (opened s (map number ws)) P any_number n)
    opened_fits (atom c) n h = con_fits n c h
    opened_fits (call p vs) n h =
        let o = open_var (map number ws) in
        let k2 = (and_T (all (variable_fits free (size ws + n)) vs && few vs) (is_some (defined P p (size vs)))).0 h in
        let k1 = (and_T (all (variable_fits free (size ws + n)) vs) (few vs)).0 k2.0 in
        (and_T (all (variable_fits any_number n) (map o vs) && few (map o vs)) (is_some (defined P p (size (map o vs))))).1 ((and_T (all (variable_fits any_number n) (map o vs)) (few (map o vs))).1 (list_fits n vs k1.0, few_map vs k1.1), subst (λ k. T (is_some (defined P p k))) (sym (size_map o vs)) k2.1)
    opened_fits (comp a b) n h =
        let k = (and_T (statement_fits a P free (size ws + n)) (statement_fits b P free (size ws + n))).0 h in
        (and_T (statement_fits (opened a (map number ws)) P any_number n) (statement_fits (opened b (map number ws)) P any_number n)).1 (opened_fits a n k.0, opened_fits b n k.1)
    opened_fits (hide m a) n h =
        let k = (and_T (leb 1 m) (statement_fits a P free (size ws + n + m))).0 h in
        (and_T (leb 1 m) (statement_fits (opened a (map number ws)) P any_number (n + m))).1 (k.0, opened_fits a (n + m) (subst (λ j. T (statement_fits a P free j)) (omega arith) k.1))
    opened_fits (choice op cs) n h =
        let k = (and_T (some_clause cs) (clauses_fit cs P free (size ws + n))).0 h in
        (and_T (some_clause (opened_clauses cs (map number ws))) (clauses_fit (opened_clauses cs (map number ws)) P any_number n)).1 (opened_some cs k.0, opened_clauses_fit cs n k.1)

    opened_clauses_fit : (cs : Clauses) (n : ℕ) → T (clauses_fit cs P free (size ws + n)) → T (clauses_fit (opened_clauses cs (map number ws)) P any_number n)
    opened_clauses_fit no_more n h = tt
    opened_clauses_fit (clause m g b cs) n h =
        let o = map number ws in
        let k2 = (and_T (statement_fits g P free (size ws + n + m) && statement_fits b P free (size ws + n + m)) (clauses_fit cs P free (size ws + n))).0 h in
        let k1 = (and_T (statement_fits g P free (size ws + n + m)) (statement_fits b P free (size ws + n + m))).0 k2.0 in
        (and_T (statement_fits (opened g o) P any_number (n + m) && statement_fits (opened b o) P any_number (n + m)) (clauses_fit (opened_clauses cs o) P any_number n)).1 ((and_T (statement_fits (opened g o) P any_number (n + m)) (statement_fits (opened b o) P any_number (n + m))).1 (opened_fits g (n + m) (subst (λ j. T (statement_fits g P free j)) (omega arith) k1.0), opened_fits b (n + m) (subst (λ j. T (statement_fits b P free j)) (omega arith) k1.1)), opened_clauses_fit cs n k2.1)

    opened_some : (cs : Clauses) → T (some_clause cs) → T (some_clause (opened_clauses cs (map number ws)))
    opened_some no_more h = elim h [ ]
    opened_some (clause m g b cs) h = tt

-- ---------------------------------------------------------------------------------------------
-- Depth does not change.

is_comp_opened : (s : Stmt) (vs : List Var) → is_comp (opened s vs) ≡ is_comp s
unfolding opened
is_comp_opened (atom c) vs = refl
is_comp_opened (call p xs) vs = refl
is_comp_opened (comp a b) vs = refl
is_comp_opened (hide n a) vs = refl
is_comp_opened (choice op cs) vs = refl

mutual
  unfolding depth opened

  depth_opened : (s : Stmt) (vs : List Var) → depth (opened s vs) ≡ depth s
  depth_opened (atom c) vs = refl
  depth_opened (call p xs) vs = refl
  depth_opened (comp a b) vs = λ i. max (bracketed (is_comp_opened a vs i) (depth_opened a vs i)) (depth_opened b vs i)
  depth_opened (hide n a) vs = ap suc (depth_opened a vs)
  depth_opened (choice op cs) vs = ap suc (depth_clauses cs vs)

  depth_clauses : (cs : Clauses) (vs : List Var) → clauses_depth (opened_clauses cs vs) ≡ clauses_depth cs
  depth_clauses no_more vs = refl
  depth_clauses (clause n g b cs) vs = λ i. max (max (depth_opened g vs i) (depth_opened b vs i)) (depth_clauses cs vs i)

-- ---------------------------------------------------------------------------------------------
-- Statements that pass: of a configuration, with no bound variable left free.

module _ (P : Program) where
  abbrev pub Passes : (ℕ → Bool) → ℕ → Stmt → Type 0
  Passes free n s = T (statement_passes P free n s)

  pub passes_iff : (free : ℕ → Bool) (n : ℕ) (s : Stmt) → Passes free n s ↔ (T (statement_fits s P free n) × (depth s ≤ most_depth))
  unfolding statement_passes
  passes_iff free n s =
      let a = and_T (statement_fits s P free n) (leb (depth s) most_depth) in
      (λ h. ((a.0 h).0, leb→le (depth s) most_depth (a.0 h).1), λ h. a.1 (h.0, le→leb (depth s) most_depth h.1))

  -- with numbers for all its bound variables
  pub pass_opened : (free : ℕ → Bool) (ws : List ℕ) (s : Stmt) → Passes free (size ws) s → Passes any_number 0 (opened s (map number ws))
  pass_opened free ws s h =
      let k = (passes_iff free (size ws) s).0 h in
      (passes_iff any_number 0 (opened s (map number ws))).1 (opened_fits P free ws s 0 (subst (λ j. T (statement_fits s P free j)) (omega arith) k.0), subst (λ d. d ≤ most_depth) (sym (depth_opened s (map number ws))) k.1)

  pub pass_fresh : (N n : ℕ) (s : Stmt) → Passes any_number n s → Passes any_number 0 (opened s (fresh N n))
  pass_fresh N n s h = pass_opened any_number (range N n) s (subst (λ k. Passes any_number k s) (sym (size_range N n)) h)

  pub pass_comp : (n : ℕ) (a b : Stmt) → Passes any_number n (comp a b) → Passes any_number n a × Passes any_number n b
  unfolding statement_fits depth
  pass_comp n a b h =
      let k = (passes_iff any_number n (comp a b)).0 h in
      let f = (and_T (statement_fits a P any_number n) (statement_fits b P any_number n)).0 k.0 in
      ((passes_iff any_number n a).1 (f.0, low (is_comp a) k.1), (passes_iff any_number n b).1 (f.1, omega (arith, k.1)))
    where
      low : (c : Bool) → max (bracketed c (depth a)) (depth b) ≤ most_depth → depth a ≤ most_depth
      low true l = omega arith
      low false l = omega arith

  pub pass_hide : (n : ℕ) (a : Stmt) → Passes any_number 0 (hide n a) → Passes any_number n a
  unfolding statement_fits depth
  pass_hide n a h =
      let k = (passes_iff any_number 0 (hide n a)).0 h in
      (passes_iff any_number n a).1 (subst (λ j. T (statement_fits a P any_number j)) (omega arith) ((and_T (leb 1 n) (statement_fits a P any_number (0 + n))).0 k.0).1, omega (arith, k.1))

  -- the clauses of a choice
  abbrev pub PassClauses : Clauses → Type 0
  PassClauses no_more = Unit {0}
  PassClauses (clause n g b cs) = Passes any_number n g × Passes any_number n b × PassClauses cs

  clauses_pass : (cs : Clauses) → T (clauses_fit cs P any_number 0) → suc (clauses_depth cs) ≤ most_depth → PassClauses cs
  unfolding statement_fits depth
  clauses_pass no_more f d = tt
  clauses_pass (clause n g b cs) f d =
      let k2 = (and_T (statement_fits g P any_number (0 + n) && statement_fits b P any_number (0 + n)) (clauses_fit cs P any_number 0)).0 f in
      let k1 = (and_T (statement_fits g P any_number (0 + n)) (statement_fits b P any_number (0 + n))).0 k2.0 in
      ((passes_iff any_number n g).1 (subst (λ j. T (statement_fits g P any_number j)) (omega arith) k1.0, omega arith), (passes_iff any_number n b).1 (subst (λ j. T (statement_fits b P any_number j)) (omega arith) k1.1, omega arith), clauses_pass cs k2.1 (omega arith))

  pub pass_choice : (op : Op) (cs : Clauses) → Passes any_number 0 (choice op cs) → PassClauses cs
  unfolding statement_fits depth
  pass_choice op cs h =
      let k = (passes_iff any_number 0 (choice op cs)).0 h in
      clauses_pass cs ((and_T (some_clause cs) (clauses_fit cs P any_number 0)).0 k.0).1 k.1

-- ---------------------------------------------------------------------------------------------
-- A definition's body: it passes with its parameters bound, and has no numbers.

abbrev no_number : ℕ → Bool
no_number x = false

var_none : (n : ℕ) (v : Var) → T (variable_fits no_number n v) → (x : ℕ) → In x (variable_numbers v) → ⊥
var_none n (number y) h x i = h
var_none n (level l) h x i = i

list_none : (n : ℕ) (vs : List Var) → T (all (variable_fits no_number n) vs) → (x : ℕ) → In x (list_numbers vs) → ⊥
unfolding all list_numbers
list_none n [] h x i = i
list_none n (v ∷ vs) h x i =
    let k = (and_T (variable_fits no_number n v) (all (variable_fits no_number n) vs)).0 h in
    elim ((In-append x (variable_numbers v) (list_numbers vs)).0 i) [ inl j ↦ var_none n v k.0 x j | inr j ↦ list_none n vs k.1 x j ]

con_none : (n : ℕ) (c : Con Var) → T (constraint_fits no_number n c) → (x : ℕ) → In x (constraint_numbers c) → ⊥
con_none n ctrue h x i = i
con_none n cfail h x i = i
con_none n (ceq u v) h x i =
    let k = (and_T (variable_fits no_number n u) (variable_fits no_number n v)).0 h in
    elim ((In-append x (variable_numbers u) (variable_numbers v)).0 i) [ inl j ↦ var_none n u k.0 x j | inr j ↦ var_none n v k.1 x j ]
con_none n (capp u f ys) h x i =
    let k3 = (and_T (variable_fits no_number n u && all (variable_fits no_number n) ys && few ys) (spelled_name f || spelled_digits f)).0 h in
    let k2 = (and_T (variable_fits no_number n u && all (variable_fits no_number n) ys) (few ys)).0 k3.0 in
    let k1 = (and_T (variable_fits no_number n u) (all (variable_fits no_number n) ys)).0 k2.0 in
    elim ((In-append x (variable_numbers u) (list_numbers ys)).0 i) [ inl j ↦ var_none n u k1.0 x j | inr j ↦ list_none n ys k1.1 x j ]

module _ (P : Program) where
  mutual
    unfolding statement_fits numbers

    fits_none : (s : Stmt) (n : ℕ) → T (statement_fits s P no_number n) → (x : ℕ) → In x (numbers s) → ⊥
    fits_none (atom c) n h x i = con_none n c h x i
    fits_none (call p vs) n h x i = list_none n vs ((and_T (all (variable_fits no_number n) vs) (few vs)).0 ((and_T (all (variable_fits no_number n) vs && few vs) (is_some (defined P p (size vs)))).0 h).0).0 x i
    fits_none (comp a b) n h x i =
        let k = (and_T (statement_fits a P no_number n) (statement_fits b P no_number n)).0 h in
        elim ((In-append x (numbers a) (numbers b)).0 i) [ inl j ↦ fits_none a n k.0 x j | inr j ↦ fits_none b n k.1 x j ]
    fits_none (hide m a) n h x i = fits_none a (n + m) ((and_T (leb 1 m) (statement_fits a P no_number (n + m))).0 h).1 x i
    fits_none (choice op cs) n h x i = clauses_none cs n ((and_T (some_clause cs) (clauses_fit cs P no_number n)).0 h).1 x i

    clauses_none : (cs : Clauses) (n : ℕ) → T (clauses_fit cs P no_number n) → (x : ℕ) → In x (clauses_numbers cs) → ⊥
    clauses_none no_more n h x i = i
    clauses_none (clause m g b cs) n h x i =
        let k2 = (and_T (statement_fits g P no_number (n + m) && statement_fits b P no_number (n + m)) (clauses_fit cs P no_number n)).0 h in
        let k1 = (and_T (statement_fits g P no_number (n + m)) (statement_fits b P no_number (n + m))).0 k2.0 in
        elim ((In-append x (numbers g ++ numbers b) (clauses_numbers cs)).0 i) [ inl j ↦ elim ((In-append x (numbers g) (numbers b)).0 j) [ inl o ↦ fits_none g (n + m) k1.0 x o | inr o ↦ fits_none b (n + m) k1.1 x o ] | inr j ↦ clauses_none cs n k2.1 x j ]

  body_of : (ds : Program) (p : Name) (n : ℕ) (b : Stmt) → T (all (definition_passes P) ds) → defined ds p n ≡ some b → Passes P no_number n b
  unfolding all defined definition_passes
  body_of [] p n b h e = absurd (none_some e)
  body_of (d ∷ ds) p n b h e = go (same d.name p && eqb d.arity n) refl e (body_of ds p n b k.1)
    where
      k : T (definition_passes P d) × T (all (definition_passes P) ds)
      k = (and_T (definition_passes P d) (all (definition_passes P) ds)).0 h

      it : Passes P no_number d.arity d.body
      it = ((and_T (spelled_predicate d.name && leb d.arity 8) (statement_passes P no_number d.arity d.body)).0 k.0).1

      go : (c : Bool) → same d.name p && eqb d.arity n ≡ c → if c (some d.body) (defined ds p n) ≡ some b → (defined ds p n ≡ some b → Passes P no_number n b) → Passes P no_number n b
      go true q f ih = subst (λ s. Passes P no_number n s) (cc f) (subst (λ m. Passes P no_number m d.body) (eqb→eq d.arity n ((and_T (same d.name p) (eqb d.arity n)).0 (subst T (sym q) tt)).1) it)
      go false q f ih = ih f

  pub body_passes : T (program_passes P) → (p : Name) (n : ℕ) (b : Stmt) → defined P p n ≡ some b → Passes P no_number n b
  unfolding program_passes
  body_passes h p n b e = body_of P p n b ((and_T (leb (size P) most_definitions && not (twice (map (λ d. (d.name, d.arity)) P))) (all (definition_passes P) P)).0 h).1 e

  pub body_no_numbers : T (program_passes P) → (p : Name) (n : ℕ) (b : Stmt) → defined P p n ≡ some b → (x : ℕ) → In x (numbers b) → ⊥
  body_no_numbers h p n b e = fits_none b n ((passes_iff P no_number n b).0 (body_passes h p n b e)).0
