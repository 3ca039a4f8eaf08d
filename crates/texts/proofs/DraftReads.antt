-- A draft reads as the statement that it is a draft of.
use mathlib.Core.Path.{◌≡◌, refl, ap, sym, ◌∙◌, subst}
use mathlib.Core.List.{List, [], ◌∷◌, ◌++◌, map}
use mathlib.Core.Bool.{Bool, ◌&&◌, ◌||◌}
use mathlib.Core.Option.{Option, some, none}
use Prim.Native.Nat.{ℕ, ◌+◌, ◌≤◌}
use native.Mathlib.Omega.{arith}
use lib.Dec.{T, leb, ltb, ltb→lt, leb→le}
use Rattle.constraint.specs.Constraint.{Con, ctrue, cfail, ceq, capp, map_con}
use Rattle.constraint.proofs.Lists.{and_T}
use Rattle.akl.specs.Base.{is_some, Name, size, all, first, last}
use Rattle.akl.specs.Syntax.{Var, number, level, Op, Stmt, atom, call, comp, hide, choice, Clauses, no_more, clause, Program, defined}
use Rattle.akl.specs.Grammar.{Statement, single, joined}
use Rattle.akl.specs.Parse.{unclaused}
use Rattle.akl.specs.Reader.{variable_of, statement_of, simple_of, bracket_of, others_of}
use Rattle.akl.specs.WellFormed.{variable_fits, few, constraint_fits, statement_fits, clauses_fit, some_clause, spelled_name, spelled_digits}
use Rattle.texts.specs.Draft.{level_name, number_name, most_names, spell, level_names, number_names, simply, draft, draft_choice, draft_others, widest, clauses_widest}
use Rattle.texts.proofs.DraftNames.{level_found, number_not_found, number_found, levels_within, levels_size}

-- the numbers below K
abbrev pub below : ℕ → ℕ → Bool
below K x = ltb x K

module _ (P : Program) (K : ℕ) (room : K ≤ most_names) where
  abbrev qs : List Name
  qs = number_names K

  var_back : (n : ℕ) (v : Var) → n ≤ most_names → T (variable_fits (below K) n v) → variable_of qs (level_names 0 n) (spell v) ≡ v
  var_back n (number x) h t = go (last (number_name x) (level_names 0 n)) (first (number_name x) qs) (number_not_found n x) (number_found K x (ltb→lt x K t) room)
    where
      go : (o p : Option ℕ) → o ≡ none → p ≡ some x → ◌≡◌ {A = Var} (elim o as (λ z. Var) [ some l ↦ level l | none ↦ elim p as (λ z. Var) [ some i ↦ number i | none ↦ number (size qs) ] ]) (number x)
      go o p a b = ap (λ (u : Option ℕ). elim u as (λ z. Var) [ some l ↦ level l | none ↦ elim p as (λ z. Var) [ some i ↦ number i | none ↦ number (size qs) ] ]) a ∙ ap (λ (u : Option ℕ). elim u as (λ z. Var) [ some i ↦ number i | none ↦ number (size qs) ]) b
  var_back n (level l) h t = ap (λ (u : Option ℕ). elim u as (λ z. Var) [ some i ↦ level i | none ↦ elim (first (level_name l) qs) as (λ z. Var) [ some i ↦ number i | none ↦ number (size qs) ] ]) (level_found n l (ltb→lt l n t) h)

  list_back : (n : ℕ) (vs : List Var) → n ≤ most_names → T (all (variable_fits (below K) n) vs) → map (variable_of qs (level_names 0 n)) (map spell vs) ≡ vs
  unfolding all
  list_back n [] h t = refl
  list_back n (v ∷ vs) h t =
      let k = (and_T (variable_fits (below K) n v) (all (variable_fits (below K) n) vs)).0 t in
      λ i. var_back n v h k.0 i ∷ list_back n vs h k.1 i

  con_back : (n : ℕ) (c : Con Var) → n ≤ most_names → T (constraint_fits (below K) n c) → map_con (variable_of qs (level_names 0 n)) (map_con spell c) ≡ c
  con_back n ctrue h t = refl
  con_back n cfail h t = refl
  con_back n (ceq x y) h t =
      let k = (and_T (variable_fits (below K) n x) (variable_fits (below K) n y)).0 t in
      λ i. ceq (var_back n x h k.0 i) (var_back n y h k.1 i)
  con_back n (capp x f ys) h t =
      let vf = variable_fits (below K) n in
      let k3 = (and_T (vf x && all vf ys && few ys) (spelled_name f || spelled_digits f)).0 t in
      let k2 = (and_T (vf x && all vf ys) (few ys)).0 k3.0 in
      let k1 = (and_T (vf x) (all vf ys)).0 k2.0 in
      λ i. capp (var_back n x h k1.0 i) f (list_back n ys h k1.1 i)

  simply_of : (t : Statement) (bs : List Name) → simple_of (simply t) qs bs ≡ statement_of t qs bs
  unfolding statement_of
  simply_of (single s) bs = refl
  simply_of (joined s r) bs = refl

  unclaused_of : (xs : List Name) (t : Statement) (bs : List Name) → 1 ≤ size xs → bracket_of (unclaused xs t) qs bs ≡ hide (size xs) (statement_of t qs (bs ++ xs))
  unfolding statement_of size
  unclaused_of [] t bs h = absurd (omega arith)
  unclaused_of (x ∷ xs) t bs h = refl

  some_levels : (n m : ℕ) → T (leb 1 m) → 1 ≤ size (level_names n m)
  some_levels n m h = subst (λ k. 1 ≤ k) (sym (levels_size n m)) (leb→le 1 m h)

  mutual
    unfolding statement_of draft widest statement_fits

    pub draft_reads : (s : Stmt) (n : ℕ) → T (statement_fits s P (below K) n) → widest s n ≤ most_names → statement_of (draft s n) qs (level_names 0 n) ≡ s
    draft_reads (atom c) n f w = ap atom (con_back n c w f)
    draft_reads (call p xs) n f w = ap (call p) (list_back n xs w ((and_T (all (variable_fits (below K) n) xs) (few xs)).0 ((and_T (all (variable_fits (below K) n) xs && few xs) (is_some (defined P p (size xs)))).0 f).0).0)
    draft_reads (comp a b) n f w =
        let k = (and_T (statement_fits a P (below K) n) (statement_fits b P (below K) n)).0 f in
        let x = simply_of (draft a n) (level_names 0 n) ∙ draft_reads a n k.0 (omega arith) in
        let y = draft_reads b n k.1 (omega arith) in
        λ i. comp (x i) (y i)
    draft_reads (hide m a) n f w =
        let k = (and_T (leb 1 m) (statement_fits a P (below K) (n + m))).0 f in
        let x = ap (statement_of (draft a (n + m)) qs) (levels_within n m) ∙ draft_reads a (n + m) k.1 w in
        unclaused_of (level_names n m) (draft a (n + m)) (level_names 0 n) (some_levels n m k.0) ∙ (λ i. hide (levels_size n m i) (x i))
    draft_reads (choice op cs) n f w =
        let k = (and_T (some_clause cs) (clauses_fit cs P (below K) n)).0 f in
        draft_choice_reads cs op n k.0 k.1 w

    draft_choice_reads : (cs : Clauses) (op : Op) (n : ℕ) → T (some_clause cs) → T (clauses_fit cs P (below K) n) → clauses_widest cs n ≤ most_names → bracket_of (draft_choice cs op n) qs (level_names 0 n) ≡ choice op cs
    draft_choice_reads no_more op n u f w = elim u [ ]
    draft_choice_reads (clause m g b cs) op n u f w =
        let k2 = (and_T (statement_fits g P (below K) (n + m) && statement_fits b P (below K) (n + m)) (clauses_fit cs P (below K) n)).0 f in
        let k1 = (and_T (statement_fits g P (below K) (n + m)) (statement_fits b P (below K) (n + m))).0 k2.0 in
        let x = ap (statement_of (draft g (n + m)) qs) (levels_within n m) ∙ draft_reads g (n + m) k1.0 (omega arith) in
        let y = ap (statement_of (draft b (n + m)) qs) (levels_within n m) ∙ draft_reads b (n + m) k1.1 (omega arith) in
        let z = draft_others_read cs op n k2.1 (omega arith) in
        λ i. choice op (clause (levels_size n m i) (x i) (y i) (z i))

    draft_others_read : (cs : Clauses) (op : Op) (n : ℕ) → T (clauses_fit cs P (below K) n) → clauses_widest cs n ≤ most_names → others_of (draft_others cs op n) qs (level_names 0 n) ≡ cs
    draft_others_read no_more op n f w = refl
    draft_others_read (clause m g b cs) op n f w =
        let k2 = (and_T (statement_fits g P (below K) (n + m) && statement_fits b P (below K) (n + m)) (clauses_fit cs P (below K) n)).0 f in
        let k1 = (and_T (statement_fits g P (below K) (n + m)) (statement_fits b P (below K) (n + m))).0 k2.0 in
        let x = ap (statement_of (draft g (n + m)) qs) (levels_within n m) ∙ draft_reads g (n + m) k1.0 (omega arith) in
        let y = ap (statement_of (draft b (n + m)) qs) (levels_within n m) ∙ draft_reads b (n + m) k1.1 (omega arith) in
        let z = draft_others_read cs op n k2.1 (omega arith) in
        λ i. clause (levels_size n m i) (x i) (y i) (z i)
