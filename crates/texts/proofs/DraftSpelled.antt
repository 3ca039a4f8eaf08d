-- The names in a draft of what passes are spelled as they must be.
use mathlib.Core.Path.{◌≡◌, refl, sym, subst}
use mathlib.Core.List.{List, [], ◌∷◌, map}
use mathlib.Core.Bool.{Bool, true, false, ◌&&◌, ◌||◌, not}
use mathlib.Core.Option.{some}
use Prim.Native.Nat.{ℕ, ◌+◌}
use lib.Dec.{T, eqb, leb}
use Rattle.constraint.specs.Constraint.{Con, ctrue, cfail, ceq, capp, map_con}
use Rattle.constraint.proofs.Lists.{and_T}
use Rattle.akl.specs.Base.{is_some, Name, size, same, all, if}
use Rattle.akl.specs.Limits.{most_arguments, most_definitions}
use Rattle.akl.specs.Syntax.{Var, number, level, Op, Stmt, atom, call, comp, hide, choice, Clauses, no_more, clause, Program, defined}
use Rattle.akl.specs.Grammar.{Statement, single, joined}
use Rattle.akl.specs.Parse.{unclaused}
use Rattle.akl.specs.Reader.{twice}
use Rattle.akl.specs.WellFormed.{variable_fits, few, constraint_fits, statement_fits, clauses_fit, some_clause, spelled_name, spelled_digits, spelled_predicate, statement_passes, definition_passes, program_passes}
use Rattle.texts.specs.Spelled.{Variables, SpelledCon, SpelledStatement, SpelledSimple, SpelledBracket, SpelledOthers}
use Rattle.texts.specs.Draft.{spell, level_names, simply, draft, draft_choice, draft_others}
use Rattle.texts.proofs.DraftNames.{level_spelled, number_spelled, levels_spelled}
use Rattle.akl.proofs.Names.{same_eq_T as same_eq}

-- what is defined in a program that passes is named as a predicate
abbrev pub Predicates : Program → Type 0
Predicates P = (p : Name) (n : ℕ) → T (is_some (defined P p n)) → T (spelled_predicate p)

of_definitions : (P ds : Program) → T (all (definition_passes P) ds) → Predicates ds
unfolding all defined definition_passes
of_definitions P [] h p n t = elim t [ ]
of_definitions P (d ∷ ds) h p n t = go (same d.name p && eqb d.arity n) refl t (λ u. of_definitions P ds k.1 p n u)
  where
    k : T (definition_passes P d) × T (all (definition_passes P) ds)
    k = (and_T (definition_passes P d) (all (definition_passes P) ds)).0 h

    its_name : T (spelled_predicate d.name)
    its_name = ((and_T (spelled_predicate d.name) (leb d.arity most_arguments)).0 ((and_T (spelled_predicate d.name && leb d.arity most_arguments) (statement_passes P (λ x. false) d.arity d.body)).0 k.0).0).0

    go : (b : Bool) → same d.name p && eqb d.arity n ≡ b → T (is_some (if b (some d.body) (defined ds p n))) → (T (is_some (defined ds p n)) → T (spelled_predicate p)) → T (spelled_predicate p)
    go true e u ih = subst (λ q. T (spelled_predicate q)) (same_eq d.name p ((and_T (same d.name p) (eqb d.arity n)).0 (subst T (sym e) tt)).0) its_name
    go false e u ih = ih u

pub predicates : (P : Program) → T (program_passes P) → Predicates P
unfolding program_passes
predicates P h = of_definitions P P ((and_T (leb (size P) most_definitions && not (twice (map (λ d. (d.name, d.arity)) P))) (all (definition_passes P) P)).0 h).1

var_spelled : (v : Var) → Variables (spell v ∷ [])
var_spelled (number x) = (number_spelled x, tt)
var_spelled (level l) = (level_spelled l, tt)

vars_spelled : (vs : List Var) → Variables (map spell vs)
vars_spelled [] = tt
vars_spelled (v ∷ vs) = ((var_spelled v).0, vars_spelled vs)

simply_spelled : (t : Statement) → SpelledStatement t → SpelledSimple (simply t)
simply_spelled (single s) h = h
simply_spelled (joined s r) h = h

unclaused_spelled : (xs : List Name) (t : Statement) → Variables xs → SpelledStatement t → SpelledBracket (unclaused xs t)
unclaused_spelled [] t h k = k
unclaused_spelled (x ∷ xs) t h k = (h, k)

module _ (P : Program) (free : ℕ → Bool) (named : Predicates P) where
  con_spelled : (n : ℕ) (c : Con Var) → T (constraint_fits free n c) → SpelledCon (map_con spell c)
  con_spelled n ctrue h = tt
  con_spelled n cfail h = tt
  con_spelled n (ceq x y) h = ((var_spelled x).0, (var_spelled y).0)
  con_spelled n (capp x f ys) h = ((var_spelled x).0, ((and_T (variable_fits free n x && all (variable_fits free n) ys && few ys) (spelled_name f || spelled_digits f)).0 h).1, vars_spelled ys)

  mutual
    unfolding draft statement_fits

    pub draft_spelled : (s : Stmt) (n : ℕ) → T (statement_fits s P free n) → SpelledStatement (draft s n)
    draft_spelled (atom c) n f = con_spelled n c f
    draft_spelled (call p xs) n f = (named p (size xs) ((and_T (all (variable_fits free n) xs && few xs) (is_some (defined P p (size xs)))).0 f).1, vars_spelled xs)
    draft_spelled (comp a b) n f =
        let k = (and_T (statement_fits a P free n) (statement_fits b P free n)).0 f in
        (simply_spelled (draft a n) (draft_spelled a n k.0), draft_spelled b n k.1)
    draft_spelled (hide m a) n f = unclaused_spelled (level_names n m) (draft a (n + m)) (levels_spelled m n) (draft_spelled a (n + m) ((and_T (leb 1 m) (statement_fits a P free (n + m))).0 f).1)
    draft_spelled (choice op cs) n f = choice_spelled cs op n ((and_T (some_clause cs) (clauses_fit cs P free n)).0 f).1

    choice_spelled : (cs : Clauses) (op : Op) (n : ℕ) → T (clauses_fit cs P free n) → SpelledBracket (draft_choice cs op n)
    choice_spelled no_more op n f = tt
    choice_spelled (clause m g b cs) op n f =
        let k2 = (and_T (statement_fits g P free (n + m) && statement_fits b P free (n + m)) (clauses_fit cs P free n)).0 f in
        let k1 = (and_T (statement_fits g P free (n + m)) (statement_fits b P free (n + m))).0 k2.0 in
        ((levels_spelled m n, draft_spelled g (n + m) k1.0, draft_spelled b (n + m) k1.1), others_spelled cs op n k2.1)

    others_spelled : (cs : Clauses) (op : Op) (n : ℕ) → T (clauses_fit cs P free n) → SpelledOthers (draft_others cs op n)
    others_spelled no_more op n f = tt
    others_spelled (clause m g b cs) op n f =
        let k2 = (and_T (statement_fits g P free (n + m) && statement_fits b P free (n + m)) (clauses_fit cs P free n)).0 f in
        let k1 = (and_T (statement_fits g P free (n + m)) (statement_fits b P free (n + m))).0 k2.0 in
        ((levels_spelled m n, draft_spelled g (n + m) k1.0, draft_spelled b (n + m) k1.1), others_spelled cs op n k2.1)
