-- The names of a query's variables pass exactly when some text reads as a query with variables of these names.
use mathlib.Core.Path.{◌≡◌, refl, ap, sym, ◌∙◌, subst}
use mathlib.Core.Logic.{◌↔◌, ◌⊎◌, inl, inr}
use mathlib.Core.List.{List, [], ◌∷◌, ◌++◌, map}
use mathlib.Core.Bool.{Bool, true, false, ◌&&◌, not}
use mathlib.Core.Option.{Option, some, none}
use Prim.Native.Nat.{ℕ, ◌<◌, ◌≤◌}
use native.Mathlib.Omega.{arith}
use lib.Dec.{T, leb, ltb, leb→le, ltb→lt}
use Rattle.constraint.proofs.Lists.{and_T, or_T, not_T}
use Rattle.akl.specs.Base.{Name, size, same, among, any, all, flat, repeats, once, if, Result, refused}
use Rattle.akl.specs.Limits.{most_query_variables}
use Rattle.akl.specs.Syntax.{Def, Program}
use Rattle.akl.specs.Grammar.{Statement}
use Rattle.akl.specs.Reader.{fault, statement_faults, statement_free, query_variables, statement_of, checked, Query, query_faults}
use Rattle.akl.specs.WellFormed.{spelled_variable, names_pass}
use Rattle.texts.specs.Spelled.{SpelledStatement}
use Rattle.texts.specs.Printing.{query_tokens}
use Rattle.texts.specs.Draft.{naming, text_of}
use Rattle.texts.specs.Readable.{query_of, NamesText}
use Rattle.akl.proofs.Names.{same_eq_T as same_eq, same_refl_T as same_refl}
use Rattle.texts.proofs.Reading.{query_of_fits}
use Rattle.texts.proofs.DraftFaults.{none_both, fault_none}
use Rattle.texts.proofs.WouldPass.{checked_none, statement_tree}

-- ---------------------------------------------------------------------------------------------
-- The variables of such a query are the names, each once and in order.

joined_lists : (a : List Name) (x : Name) (b : List Name) → (a ++ (x ∷ [])) ++ b ≡ a ++ (x ∷ b)
joined_lists [] x b = refl
joined_lists (y ∷ a) x b = ap (λ (l : List Name). y ∷ l) (joined_lists a x b)

with_none : (a : List Name) → a ++ [] ≡ a
with_none [] = refl
with_none (y ∷ a) = ap (λ (l : List Name). y ∷ l) (with_none a)

among_mid : (x : Name) (a b : List Name) → T (among x (a ++ (x ∷ b)))
unfolding among any
among_mid x [] b = (or_T (same x x) (any (same x) b)).1 (inl (same_refl x))
among_mid x (y ∷ a) b = (or_T (same x y) (any (same x) (a ++ (x ∷ b)))).1 (inr (among_mid x a b))

repeats_mid : (x : Name) (a b : List Name) → T (among x a) → T (repeats (a ++ (x ∷ b)))
unfolding among any repeats
repeats_mid x [] b t = elim t [ ]
repeats_mid x (y ∷ a) b t = (or_T (any (same y) (a ++ (x ∷ b))) (repeats (a ++ (x ∷ b)))).1 (go ((or_T (same x y) (any (same x) a)).0 t) (λ u. repeats_mid x a b u))
  where
    go : T (same x y) ⊎ T (any (same x) a) → (T (any (same x) a) → T (repeats (a ++ (x ∷ b)))) → T (any (same y) (a ++ (x ∷ b))) ⊎ T (repeats (a ++ (x ∷ b)))
    go (inl u) ih = inl (subst (λ z. T (any (same z) (a ++ (x ∷ b)))) (same_eq x y u) (among_mid x a b))
    go (inr u) ih = inr (ih u)

naming_once : (xs seen : List Name) → (T (repeats (seen ++ xs)) → ⊥) → once seen (statement_free (naming xs) []) ≡ seen ++ xs
unfolding once naming statement_free flat among any
naming_once [] seen n = sym (with_none seen)
naming_once (x ∷ xs) seen n = ap (λ l. once l (statement_free (naming xs) [])) twice_seen ∙ naming_once xs (seen ++ (x ∷ [])) (λ t. n (subst (λ l. T (repeats l)) (joined_lists seen x xs) t)) ∙ joined_lists seen x xs
  where
    new : (b : Bool) → (T b → ⊥) → if b seen (seen ++ (x ∷ [])) ≡ seen ++ (x ∷ [])
    new true m = absurd (m tt)
    new false m = refl

    old : (b : Bool) → T b → if b (seen ++ (x ∷ [])) ((seen ++ (x ∷ [])) ++ (x ∷ [])) ≡ seen ++ (x ∷ [])
    old false t = elim t [ ]
    old true t = refl

    once_seen : if (any (same x) seen) seen (seen ++ (x ∷ [])) ≡ seen ++ (x ∷ [])
    once_seen = new (any (same x) seen) (λ t. n (repeats_mid x seen xs t))

    twice_seen : if (any (same x) (if (any (same x) seen) seen (seen ++ (x ∷ [])))) (if (any (same x) seen) seen (seen ++ (x ∷ []))) (if (any (same x) seen) seen (seen ++ (x ∷ [])) ++ (x ∷ [])) ≡ seen ++ (x ∷ [])
    twice_seen = ap (λ (l : List Name). if (any (same x) l) l (l ++ (x ∷ []))) once_seen ∙ old (any (same x) (seen ++ (x ∷ []))) (among_mid x seen [])

naming_variables : (xs : List Name) → (T (repeats xs) → ⊥) → query_variables (naming xs) ≡ xs
unfolding query_variables
naming_variables xs n = naming_once xs [] n

-- ---------------------------------------------------------------------------------------------
-- It is spelled as it must be, and has no faults.

naming_spelled : (xs : List Name) → T (all spelled_variable xs) → SpelledStatement (naming xs)
unfolding naming all
naming_spelled [] h = tt
naming_spelled (x ∷ xs) h = let k = (and_T (spelled_variable x) (all spelled_variable xs)).0 h in ((k.0, k.0), naming_spelled xs k.1)

naming_fine : (xs : List Name) (ds : List (Name × ℕ)) → statement_faults (naming xs) (record { definitions = ds; bound = none; depth = 0 }) ≡ []
unfolding naming statement_faults
naming_fine [] ds = refl
naming_fine (x ∷ xs) ds = naming_fine xs ds

passing_names : (P : Program) (xs : List Name) → T (names_pass xs) → NamesText P xs
unfolding names_pass query_of query_faults
passing_names P xs h = (text_of (query_tokens s), record { variables = query_variables s; statement = statement_of s (query_variables s) [] }, ap (λ (o : Option Statement). elim o as (λ z. Result Query) [ none ↦ refused 2 | some t ↦ checked (query_faults P t) (record { variables = query_variables t; statement = statement_of t (query_variables t) [] }) ]) (statement_tree s (naming_spelled xs k2.1)) ∙ checked_none (query_faults P s) (record { variables = query_variables s; statement = statement_of s (query_variables s) [] }) fine, own)
  where
    s : Statement
    s = naming xs

    k2 : T (leb (size xs) most_query_variables && not (repeats xs)) × T (all spelled_variable xs)
    k2 = (and_T (leb (size xs) most_query_variables && not (repeats xs)) (all spelled_variable xs)).0 h

    k1 : T (leb (size xs) most_query_variables) × T (not (repeats xs))
    k1 = (and_T (leb (size xs) most_query_variables) (not (repeats xs))).0 k2.0

    own : query_variables s ≡ xs
    own = naming_variables xs ((not_T (repeats xs)).0 k1.1)

    over : (n : ℕ) → most_query_variables < n → n ≤ most_query_variables → ⊥
    over n a b = omega arith

    fine : query_faults P s ≡ []
    fine = none_both (fault 3 (ltb most_query_variables (size (query_variables s)))) (statement_faults s (record { definitions = map (λ (d : Def). (d.name, d.arity)) P; bound = none; depth = 0 })) (fault_none 3 (ltb most_query_variables (size (query_variables s))) (λ t. over (size xs) (ltb→lt most_query_variables (size xs) (subst (λ l. T (ltb most_query_variables (size l))) own t)) (leb→le (size xs) most_query_variables k1.0))) (naming_fine xs (map (λ (d : Def). (d.name, d.arity)) P))

-- Of any program: its definitions do not matter.
pub names_pass_iff : (P : Program) (xs : List Name) → T (names_pass xs) ↔ NamesText P xs
names_pass_iff P xs = (passing_names P xs, λ t. subst (λ l. T (names_pass l)) t.3 (query_of_fits P t.0 t.1 t.2).names)
