-- What is read is well formed: a program that is read passes, and a query that is read may start.
use mathlib.Core.Path.{◌≡◌, refl, ap, sym, ◌∙◌, subst}
use mathlib.Core.Logic.{◌↔◌, ◌⊎◌, inl, inr}
use mathlib.Core.List.{List, [], ◌∷◌, ◌++◌, map}
use mathlib.Core.Bool.{Bool, true, false, ◌&&◌, ◌||◌, not}
use mathlib.Core.Option.{Option, some, none}
use Prim.Native.Nat.{ℕ, zero, suc, ◌+◌, ◌≤◌, ◌<◌}
use native.Mathlib.Omega.{arith}
use lib.Dec.{T, eqb, leb, ltb, le→leb, nltb→le}
use Rattle.constraint.proofs.Lists.{and_T, or_T, not_T}
use Rattle.akl.specs.Base.{is_some, Name, size, same, repeats, any, all, flat, least, if, ◌>>=◌, Result, refused, ok}
use Rattle.akl.specs.Limits.{program_bytes, query_bytes, most_definitions, most_arguments, most_query_variables, most_depth}
use Rattle.akl.specs.Syntax.{Stmt, Def, Program, defined}
use Rattle.akl.specs.Token.{Token, tokens}
use Rattle.akl.specs.Grammar.{Statement, Definition}
use Rattle.akl.specs.Parse.{parse_query, parse_program}
use Rattle.akl.specs.Reader.{fault, Around, statement_faults, query_variables, statement_free, statement_of, heads, twice, definition_faults, program_faults, definition_of, checked, read_program, Query, query_faults, read_query}
use Rattle.akl.specs.WellFormed.{statement_passes, definition_passes, program_passes, names_pass, spelled_variable, spelled_predicate}
use Rattle.theory.specs.Formed.{QueryFits}
use Rattle.texts.specs.Readable.{program_of, query_of, around_statement, statement_in}
use Rattle.texts.specs.Spelled.{Variables, SpelledStatement, SpelledDefinition, SpelledDefinitions}
use Rattle.texts.proofs.TokensSpelled.{tokens_spelled}
use Rattle.texts.proofs.TreesSpelled.{query_spelled, program_spelled}
use Rattle.texts.proofs.ReadFits.{no_left, no_fault, Where, Fine, statement_ok}
use Rattle.texts.proofs.QueryNames.{once_distinct, once_within, once_spelled, variables_all, free_spelled, numbers_below}
use Rattle.theory.proofs.Locals.{size_map}
use Rattle.theory.proofs.Passing.{Passes, passes_iff}
use Rattle.theory.proofs.Closed.{any_number}

-- ---------------------------------------------------------------------------------------------
-- Refusals.

refused_not : {A : Type 0} (n : ℕ) (a : A) → ◌≡◌ {A = Result A} (refused n) (ok a) → ⊥
refused_not n a q = let z : ◌≡◌ {A = ℕ} 0 1 = cc in omega arith

none_least : (l : List ℕ) → least l ≡ none → l ≡ []
unfolding least
none_least [] e = refl
none_least (x ∷ l) e = absurd (go (least l) e)
  where
    nope : {y : ℕ} → ◌≡◌ {A = Option ℕ} (some y) none → ⊥
    nope q = let z : ◌≡◌ {A = ℕ} 0 1 = cc in omega arith

    go : (o : Option ℕ) → ◌≡◌ {A = Option ℕ} (elim o as (λ z. Option ℕ) [ none ↦ some x | some y ↦ some (if (leb x y) x y) ]) none → ⊥
    go none q = nope q
    go (some y) q = nope q

-- what is read has no faults
checked_inv : {A : Type 0} (faults : List ℕ) (a b : A) → checked faults a ≡ ok b → (faults ≡ []) × (a ≡ b)
checked_inv {A} faults a b e = go (least faults) refl e
  where
    go : (o : Option ℕ) → least faults ≡ o → elim o as (λ z. Result A) [ none ↦ ok a | some n ↦ refused n ] ≡ ok b → (faults ≡ []) × (a ≡ b)
    go none p q = (none_least faults p, cc q)
    go (some n) p q = absurd (refused_not n b q)

-- ---------------------------------------------------------------------------------------------
-- Definitions that atoms may name.

known : (P : Program) (p : Name) (n : ℕ) → T (any (λ (d : Name × ℕ). same d.0 p && eqb d.1 n) (map (λ (d : Def). (d.name, d.arity)) P)) → T (is_some (defined P p n))
unfolding any defined
known [] p n t = elim t [ ]
known (d ∷ P) p n t = go (same d.name p && eqb d.arity n) t (λ u. known P p n u)
  where
    go : (b : Bool) → T (b || any (λ (h : Name × ℕ). same h.0 p && eqb h.1 n) (map (λ (h : Def). (h.name, h.arity)) P)) → (T (any (λ (h : Name × ℕ). same h.0 p && eqb h.1 n) (map (λ (h : Def). (h.name, h.arity)) P)) → T (is_some (defined P p n))) → T (is_some (if b (some d.body) (defined P p n)))
    go true u ih = tt
    go false u ih = ih u

heads_same : (ds : List Definition) → map (λ (d : Def). (d.name, d.arity)) (map definition_of ds) ≡ heads ds
heads_same [] = refl
heads_same (d ∷ ds) = ap (λ (l : List (Name × ℕ)). (d.head, size d.parameters) ∷ l) (heads_same ds)

not_over : (limit n : ℕ) → (T (ltb limit n) → ⊥) → T (leb n limit)
not_over limit n h = le→leb n limit (nltb→le limit n ((not_T (ltb limit n)).1 h))

-- ---------------------------------------------------------------------------------------------
-- Programs.

module _ (ds : List Definition) where
  abbrev P₀ : Program
  P₀ = map definition_of ds

  known_heads : (p : Name) (n : ℕ) → T (any (λ (d : Name × ℕ). same d.0 p && eqb d.1 n) (heads ds)) → T (is_some (defined P₀ p n))
  known_heads p n t = known P₀ p n (subst (λ h. T (any (λ (d : Name × ℕ). same d.0 p && eqb d.1 n) h)) (sym (heads_same ds)) t)

  definition_ok : (d : Definition) → SpelledDefinition d → definition_faults (heads ds) d ≡ [] → T (definition_passes P₀ (definition_of d))
  unfolding definition_passes
  definition_ok d sp e = (and_T (spelled_predicate d.head && leb (size d.parameters) most_arguments) (statement_passes P₀ (λ x. false) (size d.parameters) (statement_of d.statement [] d.parameters))).1 ((and_T (spelled_predicate d.head) (leb (size d.parameters) most_arguments)).1 (sp.0, not_over most_arguments (size d.parameters) (no_fault 3 (ltb most_arguments (size d.parameters)) k1.0)), (passes_iff P₀ (λ x. false) (size d.parameters) (statement_of d.statement [] d.parameters)).1 (fine.0, omega (arith, fine.1)))
    where
      a : Around
      a = record { definitions = heads ds; bound = some d.parameters; depth = 0 }

      k2 : (fault 3 (ltb most_arguments (size d.parameters)) ++ fault 4 (repeats d.parameters) ≡ []) × (statement_faults d.statement a ≡ [])
      k2 = no_left (fault 3 (ltb most_arguments (size d.parameters)) ++ fault 4 (repeats d.parameters)) (statement_faults d.statement a) e

      k1 : (fault 3 (ltb most_arguments (size d.parameters)) ≡ []) × (fault 4 (repeats d.parameters) ≡ [])
      k1 = no_left (fault 3 (ltb most_arguments (size d.parameters))) (fault 4 (repeats d.parameters)) k2.0

      fine : Fine P₀ (heads ds) known_heads [] (λ x. false) d.parameters 0 (statement_of d.statement [] d.parameters)
      fine = statement_ok P₀ (heads ds) known_heads [] (λ x. false) d.statement d.parameters 0 a (record { defs_are = refl; bound_is = inl refl; depth_is = refl }) (omega arith) sp.2 k2.1

  all_ok : (es : List Definition) → SpelledDefinitions es → flat (definition_faults (heads ds)) es ≡ [] → T (all (definition_passes P₀) (map definition_of es))
  unfolding all flat
  all_ok [] sp e = tt
  all_ok (d ∷ es) sp e =
      let k = no_left (definition_faults (heads ds) d) (flat (definition_faults (heads ds)) es) e in
      (and_T (definition_passes P₀ (definition_of d)) (all (definition_passes P₀) (map definition_of es))).1 (definition_ok d sp.0 k.0, all_ok es sp.1 k.1)

  program_ok : SpelledDefinitions ds → program_faults ds ≡ [] → T (program_passes P₀)
  unfolding program_faults program_passes
  program_ok sp e =
      let k2 = no_left (fault 3 (ltb most_definitions (size ds)) ++ fault 4 (twice (heads ds))) (flat (definition_faults (heads ds)) ds) e in
      let k1 = no_left (fault 3 (ltb most_definitions (size ds))) (fault 4 (twice (heads ds))) k2.0 in
      (and_T (leb (size P₀) most_definitions && not (twice (map (λ d. (d.name, d.arity)) P₀))) (all (definition_passes P₀) P₀)).1 ((and_T (leb (size P₀) most_definitions) (not (twice (map (λ d. (d.name, d.arity)) P₀)))).1 (subst (λ j. T (leb j most_definitions)) (sym (size_map definition_of ds)) (not_over most_definitions (size ds) (no_fault 3 (ltb most_definitions (size ds)) k1.0)), subst (λ h. T (not (twice h))) (sym (heads_same ds)) ((not_T (twice (heads ds))).1 (no_fault 4 (twice (heads ds)) k1.1))), all_ok ds sp k2.1)

-- the names in the tree of a text are spelled as they must be
program_tree_spelled : (text : List ℕ) (ds : List Definition) → (tokens text >>= parse_program) ≡ some ds → SpelledDefinitions ds
program_tree_spelled text ds e = go (tokens text) refl e
  where
    nope : ◌≡◌ {A = Option (List Definition)} none (some ds) → ⊥
    nope r = let z : ◌≡◌ {A = ℕ} 0 1 = cc in omega arith

    go : (o : Option (List Token)) → tokens text ≡ o → (o >>= parse_program) ≡ some ds → SpelledDefinitions ds
    go none a b = absurd (nope b)
    go (some ts) a b = program_spelled ts ds (tokens_spelled text ts a) b

query_tree_spelled : (text : List ℕ) (s : Statement) → (tokens text >>= parse_query) ≡ some s → SpelledStatement s
query_tree_spelled text s e = go (tokens text) refl e
  where
    nope : ◌≡◌ {A = Option Statement} none (some s) → ⊥
    nope r = let z : ◌≡◌ {A = ℕ} 0 1 = cc in omega arith

    go : (o : Option (List Token)) → tokens text ≡ o → (o >>= parse_query) ≡ some s → SpelledStatement s
    go none a b = absurd (nope b)
    go (some ts) a b = query_spelled ts s (tokens_spelled text ts a) b

-- A program that is read passes 2 to 7: from a text of any size, and so from one that is not too long.
pub program_of_passes : (text : List ℕ) (P : Program) → program_of text ≡ ok P → T (program_passes P)
unfolding program_of
program_of_passes text P e = go (tokens text >>= parse_program) refl e
  where
    go : (o : Option (List Definition)) → (tokens text >>= parse_program) ≡ o → elim o as (λ z. Result Program) [ none ↦ refused 2 | some ds ↦ checked (program_faults ds) (map definition_of ds) ] ≡ ok P → T (program_passes P)
    go none p q = absurd (refused_not 2 P q)
    go (some ds) p q = let c = checked_inv (program_faults ds) (map definition_of ds) P q in subst (λ z. T (program_passes z)) c.1 (program_ok ds (program_tree_spelled text ds p) c.0)

pub read_program_is : (text : List ℕ) → read_program text ≡ if (ltb program_bytes (size text)) (refused 1) (program_of text)
unfolding read_program program_of
read_program_is text = refl

pub read_program_passes : (text : List ℕ) (P : Program) → read_program text ≡ ok P → T (program_passes P)
read_program_passes text P e = go (ltb program_bytes (size text)) (sym (read_program_is text) ∙ e)
  where
    go : (b : Bool) → if b (refused 1) (program_of text) ≡ ok P → T (program_passes P)
    go true q = absurd (refused_not 1 P q)
    go false q = program_of_passes text P q

-- ---------------------------------------------------------------------------------------------
-- Queries.

module _ (P : Program) (s : Statement) where
  abbrev xs₀ : List Name
  xs₀ = query_variables s

  query_ok : SpelledStatement s → query_faults P s ≡ [] → QueryFits P (record { variables = xs₀; statement = statement_of s xs₀ [] })
  unfolding query_faults names_pass query_variables size repeats
  query_ok sp e = record { names = (and_T (leb (size xs₀) most_query_variables && not (repeats xs₀)) (all spelled_variable xs₀)).1 ((and_T (leb (size xs₀) most_query_variables) (not (repeats xs₀))).1 (not_over most_query_variables (size xs₀) (no_fault 3 (ltb most_query_variables (size xs₀)) k.0), (not_T (repeats xs₀)).1 (once_distinct (statement_free s []) [] none_yet)), variables_all xs₀ (once_spelled (statement_free s []) [] (free_spelled s [] sp) tt)); passes = (passes_iff P any_number 0 (statement_of s xs₀ [])).1 (fine.0, omega (arith, fine.1)); own = numbers_below xs₀ s [] (once_within (statement_free s []) []) }
    where
      a : Around
      a = record { definitions = map (λ d. (d.name, d.arity)) P; bound = none; depth = 0 }

      k : (fault 3 (ltb most_query_variables (size xs₀)) ≡ []) × (statement_faults s a ≡ [])
      k = no_left (fault 3 (ltb most_query_variables (size xs₀))) (statement_faults s a) e

      none_yet : T (repeats []) → ⊥
      none_yet t = t

      fine : Fine P (map (λ (d : Def). (d.name, d.arity)) P) (known P) xs₀ any_number [] 0 (statement_of s xs₀ [])
      fine = statement_ok P (map (λ (d : Def). (d.name, d.arity)) P) (known P) xs₀ any_number s [] 0 a (record { defs_are = refl; bound_is = inr (λ x. tt); depth_is = refl }) (omega arith) sp k.1

-- A query that is read may start.
pub query_of_fits : (P : Program) (text : List ℕ) (q : Query) → query_of P text ≡ ok q → QueryFits P q
unfolding query_of
query_of_fits P text q e = go (tokens text >>= parse_query) refl e
  where
    made : Statement → Query
    made s = record { variables = query_variables s; statement = statement_of s (query_variables s) [] }

    go : (o : Option Statement) → (tokens text >>= parse_query) ≡ o → elim o as (λ z. Result Query) [ none ↦ refused 2 | some s ↦ checked (query_faults P s) (made s) ] ≡ ok q → QueryFits P q
    go none p r = absurd (refused_not 2 q r)
    go (some s) p r = let c = checked_inv (query_faults P s) (made s) q r in subst (QueryFits P) c.1 (query_ok P s (query_tree_spelled text s p) c.0)

pub read_query_is : (P : Program) (text : List ℕ) → read_query P text ≡ if (ltb query_bytes (size text)) (refused 1) (query_of P text)
unfolding read_query query_of
read_query_is P text = refl

pub read_query_fits : (P : Program) (text : List ℕ) (q : Query) → read_query P text ≡ ok q → QueryFits P q
read_query_fits P text q e = go (ltb query_bytes (size text)) (sym (read_query_is P text) ∙ e)
  where
    go : (b : Bool) → if b (refused 1) (query_of P text) ≡ ok q → QueryFits P q
    go true r = absurd (refused_not 1 q r)
    go false r = query_of_fits P text q r

-- A statement that is read, with any names for its variables, passes.
pub statement_in_passes : (P : Program) (xs : List Name) (text : List ℕ) (s : Stmt) → statement_in P xs text ≡ ok s → T (statement_passes P any_number 0 s)
unfolding statement_in size
statement_in_passes P xs text s e = go (tokens text >>= parse_query) refl e
  where
    a : Around
    a = around_statement P

    passes : (t : Statement) → SpelledStatement t → statement_faults t a ≡ [] → T (statement_passes P any_number 0 (statement_of t xs []))
    passes t sp f =
        let k : Fine P (map (λ (d : Def). (d.name, d.arity)) P) (known P) xs any_number [] 0 (statement_of t xs []) = statement_ok P (map (λ (d : Def). (d.name, d.arity)) P) (known P) xs any_number t [] 0 a (record { defs_are = refl; bound_is = inr (λ x. tt); depth_is = refl }) (omega arith) sp f in
        (passes_iff P any_number 0 (statement_of t xs [])).1 (k.0, omega (arith, k.1))

    go : (o : Option Statement) → (tokens text >>= parse_query) ≡ o → elim o as (λ z. Result Stmt) [ none ↦ refused 2 | some t ↦ checked (statement_faults t a) (statement_of t xs []) ] ≡ ok s → T (statement_passes P any_number 0 s)
    go none p r = absurd (refused_not 2 s r)
    go (some t) p r = let c = checked_inv (statement_faults t a) (statement_of t xs []) s r in subst (λ z. T (statement_passes P any_number 0 z)) c.1 (passes t (query_tree_spelled text t p) c.0)
