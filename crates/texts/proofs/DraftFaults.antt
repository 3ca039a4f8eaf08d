-- A draft of a statement that passes has no faults: none of 3 to 7 is due.
use mathlib.Core.Path.{◌≡◌, refl, ap, sym, ◌∙◌, subst}
use mathlib.Core.Logic.{◌⊎◌, inl, inr}
use mathlib.Core.List.{List, [], ◌∷◌, ◌++◌, map}
use mathlib.Core.Bool.{Bool, true, false, ◌&&◌, ◌||◌, not}
use mathlib.Core.Option.{some, none}
use Prim.Native.Nat.{ℕ, suc, ◌+◌, ◌≤◌, ◌<◌}
use native.Mathlib.Omega.{arith}
use lib.Dec.{T, eqb, leb, ltb, ltb→lt, leb→le}
use Rattle.constraint.specs.Constraint.{Con, ctrue, cfail, ceq, capp, map_con}
use Rattle.constraint.proofs.Lists.{and_T, or_T, not_T}
use Rattle.akl.specs.Base.{is_some, Name, size, same, among, any, all, repeats, if, ◌>>=◌}
use Rattle.akl.specs.Limits.{most_arguments, most_depth}
use Rattle.akl.specs.Syntax.{Var, number, level, Op, wait, cond, commit, Stmt, atom, call, comp, hide, choice, Clauses, no_more, clause, Def, Program, defined}
use Rattle.akl.specs.Grammar.{Statement, single, joined, program, written}
use Rattle.akl.specs.Parse.{unclaused}
use Rattle.akl.specs.Reader.{same_operator, mixed, fault, Around, unbound, hiding_also, deeper, unknown, constraint_faults, statement_faults, simple_faults, bracket_faults, clause_faults, others_faults}
use Rattle.akl.specs.WellFormed.{variable_fits, few, constraint_fits, statement_fits, clauses_fit, some_clause, spelled_name, spelled_digits, is_comp, bracketed, depth, clauses_depth}
use Rattle.texts.specs.Draft.{level_name, most_names, spell, level_names, simply, draft, draft_choice, draft_others, widest, clauses_widest}
use Rattle.texts.proofs.DraftNames.{level_in, levels_differ, levels_within, levels_size}
use Rattle.theory.proofs.Locals.{size_map}

-- ---------------------------------------------------------------------------------------------
-- No faults.

pub none_both : (a b : List ℕ) → a ≡ [] → b ≡ [] → a ++ b ≡ []
none_both a b p q = ap (λ (l : List ℕ). l ++ b) p ∙ q

pub fault_none : (n : ℕ) (b : Bool) → (T b → ⊥) → fault n b ≡ []
fault_none n true m = absurd (m tt)
fault_none n false m = refl

not_over : (limit n : ℕ) → T (leb n limit) → T (ltb limit n) → ⊥
not_over limit n h t = let a = leb→le n limit h in let b = ltb→lt limit n t in omega arith

few_none : (xs : List Var) → T (few xs) → fault 3 (ltb most_arguments (size (map spell xs))) ≡ []
few_none xs h = fault_none 3 (ltb most_arguments (size (map spell xs))) (λ t. not_over most_arguments (size xs) h (subst (λ k. T (ltb most_arguments k)) (size_map spell xs) t))

-- the widest place is at least as wide as the outermost
mutual
  unfolding widest

  pub widest_least : (s : Stmt) (n : ℕ) → n ≤ widest s n
  widest_least (atom c) n = omega arith
  widest_least (call p xs) n = omega arith
  widest_least (comp a b) n = omega (arith, widest_least a n)
  widest_least (hide m a) n = omega (arith, widest_least a (n + m))
  widest_least (choice op cs) n = clauses_least cs n

  clauses_least : (cs : Clauses) (n : ℕ) → n ≤ clauses_widest cs n
  clauses_least no_more n = omega arith
  clauses_least (clause m g b cs) n = omega (arith, clauses_least cs n)

-- ---------------------------------------------------------------------------------------------
-- A definition that there is stands among the heads.

abbrev pub heads_of : Program → List (Name × ℕ)
heads_of P = map (λ (d : Def). (d.name, d.arity)) P

known_back : (P : Program) (p : Name) (n : ℕ) → T (is_some (defined P p n)) → T (any (λ (d : Name × ℕ). same d.0 p && eqb d.1 n) (heads_of P))
unfolding any defined
known_back [] p n t = elim t [ ]
known_back (d ∷ P) p n t = go (same d.name p && eqb d.arity n) t (λ u. known_back P p n u)
  where
    go : (b : Bool) → T (is_some (if b (some d.body) (defined P p n))) → (T (is_some (defined P p n)) → T (any (λ (h : Name × ℕ). same h.0 p && eqb h.1 n) (heads_of P))) → T (b || any (λ (h : Name × ℕ). same h.0 p && eqb h.1 n) (heads_of P))
    go true u ih = tt
    go false u ih = ih u

-- ---------------------------------------------------------------------------------------------
-- One operator.

same_self : (op : Op) → T (not (same_operator op op)) → ⊥
same_self wait t = t
same_self cond t = t
same_self commit t = t

not_mixed : (cs : Clauses) (op : Op) (n : ℕ) → T (mixed op (draft_others cs op n)) → ⊥
unfolding draft mixed
not_mixed no_more op n t = t
not_mixed (clause m g b cs) op n t = go ((or_T (not (same_operator op op)) (mixed op (draft_others cs op n))).0 t) (λ u. not_mixed cs op n u)
  where
    go : T (not (same_operator op op)) ⊎ T (mixed op (draft_others cs op n)) → (T (mixed op (draft_others cs op n)) → ⊥) → ⊥
    go (inl u) ih = same_self op u
    go (inr u) ih = ih u

-- ---------------------------------------------------------------------------------------------
-- Brackets.

abbrev joined? : Statement → Bool
joined? (single s) = false
joined? (joined s r) = true

joined_draft : (s : Stmt) (n : ℕ) → joined? (draft s n) ≡ is_comp s
unfolding draft
joined_draft (atom c) n = refl
joined_draft (call p xs) n = refl
joined_draft (comp a b) n = refl
joined_draft (hide m a) n = refl
joined_draft (choice op cs) n = refl

not_deep : (a : Around) → a.depth < most_depth → fault 3 (leb most_depth a.depth) ≡ []
not_deep a l = fault_none 3 (leb most_depth a.depth) (λ t. let h = leb→le most_depth a.depth t in omega arith)

simply_joined : (t : Statement) (a : Around) → joined? t ≡ true → a.depth < most_depth → statement_faults t (deeper a) ≡ [] → simple_faults (simply t) a ≡ []
unfolding statement_faults
simply_joined (single s) a e l f = absurd (subst (λ b. T (not b)) e tt)
simply_joined (joined s r) a e l f = none_both (fault 3 (leb most_depth a.depth)) (statement_faults (joined s r) (deeper a)) (not_deep a l) f

simply_single : (t : Statement) (a : Around) → joined? t ≡ false → statement_faults t a ≡ [] → simple_faults (simply t) a ≡ []
unfolding statement_faults
simply_single (single s) a e f = f
simply_single (joined s r) a e f = absurd (subst T e tt)

unclaused_none : (xs : List Name) (t : Statement) (a : Around) → 1 ≤ size xs → (T (repeats xs) → ⊥) → statement_faults t (hiding_also xs a) ≡ [] → bracket_faults (unclaused xs t) a ≡ []
unfolding statement_faults size
unclaused_none [] t a h r f = absurd (omega arith)
unclaused_none (x ∷ xs) t a h r f = none_both (fault 4 (repeats (x ∷ xs))) (statement_faults t (hiding_also (x ∷ xs) a)) (fault_none 4 (repeats (x ∷ xs)) r) f

-- ---------------------------------------------------------------------------------------------
-- Drafts. Where names are bound at all, no number may stand free.

module _ (P : Program) (free : ℕ → Bool) where
  pub record Stands (n d : ℕ) (a : Around) : Type 0 where
    pub defs_are : a.definitions ≡ heads_of P
    pub bound_is : ((a.bound ≡ some (level_names 0 n)) × ((x : ℕ) → T (free x) → ⊥)) ⊎ (a.bound ≡ none)
    pub depth_is : a.depth ≡ d

  lower : (n d : ℕ) (a : Around) → Stands n d a → Stands n (suc d) (deeper a)
  lower n d a w = record { defs_are = w.defs_are; bound_is = w.bound_is; depth_is = ap suc w.depth_is }

  inner : (n m d : ℕ) (a : Around) → Stands n d a → Stands (n + m) d (hiding_also (level_names n m) a)
  inner n m d a w = record { defs_are = w.defs_are; bound_is = go w.bound_is; depth_is = w.depth_is }
    where
      go : ((a.bound ≡ some (level_names 0 n)) × ((x : ℕ) → T (free x) → ⊥)) ⊎ (a.bound ≡ none) → (((a.bound >>= λ bs. some (bs ++ level_names n m)) ≡ some (level_names 0 (n + m))) × ((x : ℕ) → T (free x) → ⊥)) ⊎ ((a.bound >>= λ bs. some (bs ++ level_names n m)) ≡ none)
      go (inl e) = inl (ap (λ b. b >>= λ bs. some (bs ++ level_names n m)) e.0 ∙ ap some (levels_within n m), e.1)
      go (inr e) = inr (ap (λ b. b >>= λ bs. some (bs ++ level_names n m)) e)

  all_bound : (n : ℕ) (vs : List Var) → ((x : ℕ) → T (free x) → ⊥) → T (all (variable_fits free n) vs) → T (any (λ x. not (among x (level_names 0 n))) (map spell vs)) → ⊥
  unfolding all any
  all_bound n [] no_free h t = t
  all_bound n (v ∷ vs) no_free h t = go ((or_T (not (among (spell v) (level_names 0 n))) (any (λ x. not (among x (level_names 0 n))) (map spell vs))).0 t) (λ u. all_bound n vs no_free k.1 u)
    where
      k : T (variable_fits free n v) × T (all (variable_fits free n) vs)
      k = (and_T (variable_fits free n v) (all (variable_fits free n) vs)).0 h

      one : (w : Var) → T (variable_fits free n w) → T (not (among (spell w) (level_names 0 n))) → ⊥
      one (number x) f u = no_free x f
      one (level l) f u = (not_T (among (level_name l) (level_names 0 n))).0 u (level_in n l (ltb→lt l n f))

      go : T (not (among (spell v) (level_names 0 n))) ⊎ T (any (λ x. not (among x (level_names 0 n))) (map spell vs)) → (T (any (λ x. not (among x (level_names 0 n))) (map spell vs)) → ⊥) → ⊥
      go (inl u) ih = one v k.0 u
      go (inr u) ih = ih u

  bound_none : (n d : ℕ) (a : Around) → Stands n d a → (vs : List Var) → T (all (variable_fits free n) vs) → fault 6 (unbound a.bound (map spell vs)) ≡ []
  bound_none n d a w vs h = elim w.bound_is [ inl e ↦ ap (λ b. fault 6 (unbound b (map spell vs))) e.0 ∙ fault_none 6 (any (λ x. not (among x (level_names 0 n))) (map spell vs)) (all_bound n vs e.1 h) | inr e ↦ ap (λ b. fault 6 (unbound b (map spell vs))) e ]

  con_none : (n d : ℕ) (a : Around) → Stands n d a → (c : Con Var) → T (constraint_fits free n c) → constraint_faults (map_con spell c) a ≡ []
  unfolding all
  con_none n d a w ctrue h = refl
  con_none n d a w cfail h = refl
  con_none n d a w (ceq x y) h =
      let k = (and_T (variable_fits free n x) (variable_fits free n y)).0 h in
      bound_none n d a w (x ∷ y ∷ []) ((and_T (variable_fits free n x) (variable_fits free n y && true)).1 (k.0, (and_T (variable_fits free n y) true).1 (k.1, tt)))
  con_none n d a w (capp x f ys) h =
      let vf = variable_fits free n in
      let k3 = (and_T (vf x && all vf ys && few ys) (spelled_name f || spelled_digits f)).0 h in
      let k2 = (and_T (vf x && all vf ys) (few ys)).0 k3.0 in
      none_both (fault 3 (ltb most_arguments (size (map spell ys)))) (fault 6 (unbound a.bound (map spell (x ∷ ys)))) (few_none ys k2.1) (bound_none n d a w (x ∷ ys) k2.0)

  call_none : (n d : ℕ) (a : Around) → Stands n d a → (p : Name) (xs : List Var) → T (all (variable_fits free n) xs && few xs && is_some (defined P p (size xs))) → simple_faults (program p (map spell xs)) a ≡ []
  unfolding statement_faults
  call_none n d a w p xs h =
      none_both (fault 3 (ltb most_arguments (size (map spell xs))) ++ fault 5 (unknown a p (size (map spell xs)))) (fault 6 (unbound a.bound (map spell xs))) (none_both (fault 3 (ltb most_arguments (size (map spell xs)))) (fault 5 (unknown a p (size (map spell xs)))) (few_none xs k1.1) (fault_none 5 (unknown a p (size (map spell xs))) (λ t. (not_T (any (λ (h : Name × ℕ). same h.0 p && eqb h.1 (size (map spell xs))) a.definitions)).0 t there))) (bound_none n d a w xs k1.0)
    where
      k2 : T (all (variable_fits free n) xs && few xs) × T (is_some (defined P p (size xs)))
      k2 = (and_T (all (variable_fits free n) xs && few xs) (is_some (defined P p (size xs)))).0 h

      k1 : T (all (variable_fits free n) xs) × T (few xs)
      k1 = (and_T (all (variable_fits free n) xs) (few xs)).0 k2.0

      there : T (any (λ (h : Name × ℕ). same h.0 p && eqb h.1 (size (map spell xs))) a.definitions)
      there = subst (λ ds. T (any (λ (h : Name × ℕ). same h.0 p && eqb h.1 (size (map spell xs))) ds)) (sym w.defs_are) (known_back P p (size (map spell xs)) (subst (λ k. T (is_some (defined P p k))) (sym (size_map spell xs)) k2.1))

  mutual
    unfolding statement_faults draft depth widest statement_fits

    pub draft_fine : (s : Stmt) (n d : ℕ) (a : Around) → Stands n d a → T (statement_fits s P free n) → d + depth s ≤ most_depth → widest s n ≤ most_names → statement_faults (draft s n) a ≡ []
    draft_fine (atom c) n d a w f l v = con_none n d a w c f
    draft_fine (call p xs) n d a w f l v = call_none n d a w p xs f
    draft_fine (comp s r) n d a w f l v = none_both (simple_faults (simply (draft s n)) a) (statement_faults (draft r n) a) (left (is_comp s) (joined_draft s n) (omega arith) (λ e b u m. draft_fine s n e b u k.0 m (omega arith))) (draft_fine r n d a w k.1 (omega arith) (omega arith))
      where
        k : T (statement_fits s P free n) × T (statement_fits r P free n)
        k = (and_T (statement_fits s P free n) (statement_fits r P free n)).0 f

        left : (c : Bool) → joined? (draft s n) ≡ c → d + bracketed c (depth s) ≤ most_depth → ((e : ℕ) (b : Around) → Stands n e b → e + depth s ≤ most_depth → statement_faults (draft s n) b ≡ []) → simple_faults (simply (draft s n)) a ≡ []
        left true j m ih = simply_joined (draft s n) a j (let z = w.depth_is in omega arith) (ih (suc d) (deeper a) (lower n d a w) (omega arith))
        left false j m ih = simply_single (draft s n) a j (ih d a w m)
    draft_fine (hide m s) n d a w f l v = none_both (fault 3 (leb most_depth a.depth)) (bracket_faults (unclaused (level_names n m) (draft s (n + m))) (deeper a)) (not_deep a (let z = w.depth_is in omega arith)) (unclaused_none (level_names n m) (draft s (n + m)) (deeper a) (subst (λ j. 1 ≤ j) (sym (levels_size n m)) (leb→le 1 m k.0)) (levels_differ m n (omega (arith, widest_least s (n + m)))) (draft_fine s (n + m) (suc d) (hiding_also (level_names n m) (deeper a)) (inner n m (suc d) (deeper a) (lower n d a w)) k.1 (omega arith) v))
      where
        k : T (leb 1 m) × T (statement_fits s P free (n + m))
        k = (and_T (leb 1 m) (statement_fits s P free (n + m))).0 f
    draft_fine (choice op cs) n d a w f l v = none_both (fault 3 (leb most_depth a.depth)) (bracket_faults (draft_choice cs op n) (deeper a)) (not_deep a (let z = w.depth_is in omega arith)) (choice_fine cs op n (suc d) (deeper a) (lower n d a w) ((and_T (some_clause cs) (clauses_fit cs P free n)).0 f).1 (omega arith) v)

    choice_fine : (cs : Clauses) (op : Op) (n d : ℕ) (a : Around) → Stands n d a → T (clauses_fit cs P free n) → d + clauses_depth cs ≤ most_depth → clauses_widest cs n ≤ most_names → bracket_faults (draft_choice cs op n) a ≡ []
    choice_fine no_more op n d a w f l v = refl
    choice_fine (clause m g b cs) op n d a w f l v =
        let k2 = (and_T (statement_fits g P free (n + m) && statement_fits b P free (n + m)) (clauses_fit cs P free n)).0 f in
        let k1 = (and_T (statement_fits g P free (n + m)) (statement_fits b P free (n + m))).0 k2.0 in
        let hs = level_names n m in
        let i = inner n m d a w in
        let x = draft_fine g (n + m) d (hiding_also hs a) i k1.0 (omega arith) (omega arith) in
        let y = draft_fine b (n + m) d (hiding_also hs a) i k1.1 (omega arith) (omega arith) in
        let z = others_fine cs op n d a w k2.1 (omega arith) (omega arith) in
        let r = fault_none 4 (repeats hs) (levels_differ m n (omega (arith, widest_least g (n + m)))) in
        let q = none_both (fault 4 (repeats hs) ++ statement_faults (draft g (n + m)) (hiding_also hs a)) (statement_faults (draft b (n + m)) (hiding_also hs a)) (none_both (fault 4 (repeats hs)) (statement_faults (draft g (n + m)) (hiding_also hs a)) r x) y in
        none_both (fault 7 (mixed op (draft_others cs op n)) ++ clause_faults (written hs (draft g (n + m)) op (draft b (n + m))) a) (others_faults (draft_others cs op n) a) (none_both (fault 7 (mixed op (draft_others cs op n))) (clause_faults (written hs (draft g (n + m)) op (draft b (n + m))) a) (fault_none 7 (mixed op (draft_others cs op n)) (not_mixed cs op n)) q) z

    others_fine : (cs : Clauses) (op : Op) (n d : ℕ) (a : Around) → Stands n d a → T (clauses_fit cs P free n) → d + clauses_depth cs ≤ most_depth → clauses_widest cs n ≤ most_names → others_faults (draft_others cs op n) a ≡ []
    others_fine no_more op n d a w f l v = refl
    others_fine (clause m g b cs) op n d a w f l v =
        let k2 = (and_T (statement_fits g P free (n + m) && statement_fits b P free (n + m)) (clauses_fit cs P free n)).0 f in
        let k1 = (and_T (statement_fits g P free (n + m)) (statement_fits b P free (n + m))).0 k2.0 in
        let hs = level_names n m in
        let i = inner n m d a w in
        let x = draft_fine g (n + m) d (hiding_also hs a) i k1.0 (omega arith) (omega arith) in
        let y = draft_fine b (n + m) d (hiding_also hs a) i k1.1 (omega arith) (omega arith) in
        let z = others_fine cs op n d a w k2.1 (omega arith) (omega arith) in
        let r = fault_none 4 (repeats hs) (levels_differ m n (omega (arith, widest_least g (n + m)))) in
        let q = none_both (fault 4 (repeats hs) ++ statement_faults (draft g (n + m)) (hiding_also hs a)) (statement_faults (draft b (n + m)) (hiding_also hs a)) (none_both (fault 4 (repeats hs)) (statement_faults (draft g (n + m)) (hiding_also hs a)) r x) y in
        none_both (clause_faults (written hs (draft g (n + m)) op (draft b (n + m))) a) (others_faults (draft_others cs op n) a) q z
