-- A program, a statement and a list of names pass exactly when some text reads as them: the tests of well-formedness say
-- what document 01 says, that they "would pass 2 to 7".
use mathlib.Core.Path.{◌≡◌, refl, ap, sym, ◌∙◌, subst}
use mathlib.Core.Logic.{◌↔◌, inl, inr}
use mathlib.Core.List.{List, [], ◌∷◌, ◌++◌, map}
use mathlib.Core.Bool.{false, ◌&&◌, not}
use mathlib.Core.Option.{Option, some, none}
use Prim.Native.Nat.{ℕ, ◌≤◌, ◌<◌}
use native.Mathlib.Omega.{arith}
use lib.Dec.{T, leb, ltb, leb→le, ltb→lt, lt→ltb}
use Rattle.constraint.proofs.Lists.{and_T, not_T}
use Rattle.akl.specs.Base.{Name, size, repeats, all, flat, least, range, ◌>>=◌, Result, refused, ok}
use Rattle.akl.specs.Limits.{most_definitions, most_arguments, most_depth}
use Rattle.akl.specs.Syntax.{Stmt, Def, Program}
use Rattle.akl.specs.Token.{tokens}
use Rattle.akl.specs.Grammar.{Statement, Definition}
use Rattle.akl.specs.Parse.{parse_query, parse_program}
use Rattle.akl.specs.Reader.{fault, Around, statement_faults, statement_of, heads, twice, definition_faults, program_faults, definition_of, checked}
use Rattle.akl.specs.WellFormed.{statement_fits, depth, spelled_predicate, statement_passes, definition_passes, program_passes, numbers}
use Rattle.theory.specs.Scope.{Below}
use Rattle.texts.specs.Spelled.{SpelledStatement, SpelledDefinition, SpelledDefinitions}
use Rattle.texts.specs.Printing.{query_tokens, program_tokens}
use Rattle.texts.specs.Draft.{most_names, level_names, number_names, draft, draft_definition, widest, program_widest, text_of, ListsFit, ProgramListsFit}
use Rattle.texts.specs.Readable.{program_of, around_statement, statement_in, ProgramText, StatementText}
use Rattle.texts.proofs.QueryNames.{variables_all}
use Rattle.texts.proofs.PrintsRead.{query_reads, program_reads}
use Rattle.texts.proofs.Reading.{program_of_passes, statement_in_passes}
use Rattle.texts.proofs.DraftNames.{levels_differ, numbers_differ, levels_spelled, numbers_spelled, levels_size, numbers_size}
use Rattle.texts.proofs.DraftReads.{below, draft_reads}
use Rattle.texts.proofs.DraftFaults.{none_both, fault_none, widest_least, heads_of, draft_fine}
use Rattle.texts.proofs.DraftSpelled.{Predicates, predicates, draft_spelled}
use Rattle.texts.proofs.SpelledPrints.{spelled_writable, program_writable, query_tokens_spelled, program_tokens_spelled}
use Rattle.texts.proofs.TokenBytes.{text_tokens}
use Rattle.texts.proofs.Refit.{refit}
use Rattle.texts.proofs.Narrow.{narrow, narrow_program}
use Rattle.theory.proofs.Locals.{size_map}
use Rattle.theory.proofs.Passing.{passes_iff}
use Rattle.theory.proofs.Closed.{any_number}

-- ---------------------------------------------------------------------------------------------
-- Texts of trees.

pub checked_none : {A : Type 0} (faults : List ℕ) (a : A) → faults ≡ [] → checked faults a ≡ ok a
unfolding least
checked_none faults a e = ap (λ f. checked f a) e

-- the text of a statement's tree has that tree
pub statement_tree : (s : Statement) → SpelledStatement s → (tokens (text_of (query_tokens s)) >>= parse_query) ≡ some s
statement_tree s h = ap (λ o. o >>= parse_query) (text_tokens (query_tokens s) (query_tokens_spelled s h)) ∙ query_reads s (spelled_writable s h)

program_tree : (ds : List Definition) → SpelledDefinitions ds → (tokens (text_of (program_tokens ds)) >>= parse_program) ≡ some ds
program_tree ds h = ap (λ o. o >>= parse_program) (text_tokens (program_tokens ds) (program_tokens_spelled ds h)) ∙ program_reads ds (program_writable ds h)

program_text : (ds : List Definition) → SpelledDefinitions ds → program_faults ds ≡ [] → program_of (text_of (program_tokens ds)) ≡ ok (map definition_of ds)
unfolding program_of
program_text ds h e = ap (λ (o : Option (List Definition)). elim o as (λ z. Result Program) [ none ↦ refused 2 | some es ↦ checked (program_faults es) (map definition_of es) ]) (program_tree ds h) ∙ checked_none (program_faults ds) (map definition_of ds) e

-- ---------------------------------------------------------------------------------------------
-- Programs.

heads_draft : (ds : Program) → heads (map draft_definition ds) ≡ heads_of ds
unfolding draft_definition
heads_draft [] = refl
heads_draft (d ∷ ds) = λ i. (d.name, levels_size 0 d.arity i) ∷ heads_draft ds i

module _ (P : Program) (named : Predicates P) where
  -- the parts of a definition that passes
  definition_parts : (d : Def) → T (definition_passes P d) → T (spelled_predicate d.name) × T (leb d.arity most_arguments) × T (statement_fits d.body P (below 0) d.arity) × (depth d.body ≤ most_depth)
  unfolding definition_passes
  definition_parts d h =
      let k2 = (and_T (spelled_predicate d.name && leb d.arity most_arguments) (statement_passes P (λ x. false) d.arity d.body)).0 h in
      let k1 = (and_T (spelled_predicate d.name) (leb d.arity most_arguments)).0 k2.0 in
      let k = (passes_iff P (λ x. false) d.arity d.body).0 k2.1 in
      (k1.0, k1.1, refit P (λ x. false) (below 0) d.body d.arity (λ x i t. absurd t) k.0, k.1)

  definition_spelled : (d : Def) → T (definition_passes P d) → SpelledDefinition (draft_definition d)
  unfolding draft_definition
  definition_spelled d h = let k = definition_parts d h in (k.0, levels_spelled d.arity 0, draft_spelled P (below 0) named d.body d.arity k.2)

  definition_back : (d : Def) → T (definition_passes P d) → widest d.body d.arity ≤ most_names → definition_of (draft_definition d) ≡ d
  unfolding draft_definition number_names range
  definition_back d h w =
      let b = draft_reads P 0 (omega arith) d.body d.arity (definition_parts d h).2 w in
      λ i. record { name = d.name; arity = levels_size 0 d.arity i; body = b i }

  definition_fine : (hs : List (Name × ℕ)) → hs ≡ heads_of P → (d : Def) → T (definition_passes P d) → widest d.body d.arity ≤ most_names → definition_faults hs (draft_definition d) ≡ []
  unfolding draft_definition
  definition_fine hs e d h w = none_both (fault 3 (ltb most_arguments (size ps)) ++ fault 4 (repeats ps)) (statement_faults (draft d.body d.arity) a) (none_both (fault 3 (ltb most_arguments (size ps))) (fault 4 (repeats ps)) few_of_them all_different) body_fine
    where
      ps : List Name
      ps = level_names 0 d.arity

      k : T (spelled_predicate d.name) × T (leb d.arity most_arguments) × T (statement_fits d.body P (below 0) d.arity) × (depth d.body ≤ most_depth)
      k = definition_parts d h

      a : Around
      a = record { definitions = hs; bound = some ps; depth = 0 }

      over : most_arguments < size ps → d.arity ≤ most_arguments → ⊥
      over t l = let z = levels_size 0 d.arity in omega arith

      none_below : (x : ℕ) → x < 0 → ⊥
      none_below x l = omega arith

      few_of_them : fault 3 (ltb most_arguments (size ps)) ≡ []
      few_of_them = fault_none 3 (ltb most_arguments (size ps)) (λ t. over (ltb→lt most_arguments (size ps) t) (leb→le d.arity most_arguments k.1))

      all_different : fault 4 (repeats ps) ≡ []
      all_different = fault_none 4 (repeats ps) (levels_differ d.arity 0 (omega (arith, widest_least d.body d.arity)))

      body_fine : statement_faults (draft d.body d.arity) a ≡ []
      body_fine = draft_fine P (below 0) d.body d.arity 0 a (record { defs_are = e; bound_is = inl (refl, λ x t. none_below x (ltb→lt x 0 t)); depth_is = refl }) k.2 (omega (arith, k.3)) w

  abbrev Narrow : Program → Type 0
  Narrow ds = program_widest ds ≤ most_names

  definitions_fine : (hs : List (Name × ℕ)) → hs ≡ heads_of P → (ds : Program) → T (all (definition_passes P) ds) → Narrow ds → flat (definition_faults hs) (map draft_definition ds) ≡ []
  unfolding all flat program_widest
  definitions_fine hs e [] h w = refl
  definitions_fine hs e (d ∷ ds) h w =
      let k = (and_T (definition_passes P d) (all (definition_passes P) ds)).0 h in
      none_both (definition_faults hs (draft_definition d)) (flat (definition_faults hs) (map draft_definition ds)) (definition_fine hs e d k.0 (omega arith)) (definitions_fine hs e ds k.1 (omega arith))

  definitions_spelled : (ds : Program) → T (all (definition_passes P) ds) → SpelledDefinitions (map draft_definition ds)
  unfolding all
  definitions_spelled [] h = tt
  definitions_spelled (d ∷ ds) h =
      let k = (and_T (definition_passes P d) (all (definition_passes P) ds)).0 h in
      (definition_spelled d k.0, definitions_spelled ds k.1)

  definitions_back : (ds : Program) → T (all (definition_passes P) ds) → Narrow ds → map definition_of (map draft_definition ds) ≡ ds
  unfolding all program_widest
  definitions_back [] h w = refl
  definitions_back (d ∷ ds) h w =
      let k = (and_T (definition_passes P d) (all (definition_passes P) ds)).0 h in
      let x = definition_back d k.0 (omega arith) in
      let y = definitions_back ds k.1 (omega arith) in
      λ i. x i ∷ y i

-- A program that passes has a text.
passing_program : (P : Program) → ProgramListsFit P → T (program_passes P) → ProgramText P
unfolding program_passes program_faults
passing_program P lists h = (text_of (program_tokens ds), program_text ds (definitions_spelled P named P k2.1) fine ∙ ap ok (definitions_back P named P k2.1 w))
  where
    named : Predicates P
    named = predicates P h

    ds : List Definition
    ds = map draft_definition P

    k2 : T (leb (size P) most_definitions && not (twice (heads_of P))) × T (all (definition_passes P) P)
    k2 = (and_T (leb (size P) most_definitions && not (twice (heads_of P))) (all (definition_passes P) P)).0 h

    w : program_widest P ≤ most_names
    w = narrow_program P P lists k2.1

    k1 : T (leb (size P) most_definitions) × T (not (twice (heads_of P)))
    k1 = (and_T (leb (size P) most_definitions) (not (twice (heads_of P)))).0 k2.0

    over : most_definitions < size ds → size P ≤ most_definitions → ⊥
    over t l = let z = size_map draft_definition P in omega arith

    few_of_them : fault 3 (ltb most_definitions (size ds)) ≡ []
    few_of_them = fault_none 3 (ltb most_definitions (size ds)) (λ t. over (ltb→lt most_definitions (size ds) t) (leb→le (size P) most_definitions k1.0))

    all_different : fault 4 (twice (heads ds)) ≡ []
    all_different = fault_none 4 (twice (heads ds)) (λ t. (not_T (twice (heads_of P))).0 k1.1 (subst (λ l. T (twice l)) (heads_draft P) t))

    fine : program_faults ds ≡ []
    fine = none_both (fault 3 (ltb most_definitions (size ds)) ++ fault 4 (twice (heads ds))) (flat (definition_faults (heads ds)) ds) (none_both (fault 3 (ltb most_definitions (size ds))) (fault 4 (twice (heads ds))) few_of_them all_different) (definitions_fine P named (heads ds) (heads_draft P) P k2.1 w)

pub program_passes_iff : (P : Program) → ProgramListsFit P → T (program_passes P) ↔ ProgramText P
program_passes_iff P lists = (passing_program P lists, λ t. program_of_passes t.0 P t.1)

-- ---------------------------------------------------------------------------------------------
-- Statements of a configuration.

-- Its variables have numbers below K; they are named by their numbers.
passing_statement : (P : Program) → Predicates P → (s : Stmt) (K : ℕ) → ListsFit s → K ≤ most_names → Below (numbers s) K → T (statement_passes P any_number 0 s) → StatementText P s
unfolding statement_in number_names level_names range
passing_statement P named s K lists r b h = (number_names K, (not_T (repeats (number_names K))).1 (numbers_differ K 0 (omega arith)), variables_all (number_names K) (numbers_spelled K 0), subst (Below (numbers s)) (sym (numbers_size K)) b, text_of (query_tokens t), has_tree ∙ checked_none (statement_faults t a) (statement_of t (number_names K) []) fine ∙ ap ok (draft_reads P K r s 0 fits w))
  where
    k : T (statement_fits s P any_number 0) × (depth s ≤ most_depth)
    k = (passes_iff P any_number 0 s).0 h

    w : widest s 0 ≤ most_names
    w = narrow s 0 lists (omega arith) k.1

    t : Statement
    t = draft s 0

    a : Around
    a = around_statement P

    has_tree : statement_in P (number_names K) (text_of (query_tokens t)) ≡ checked (statement_faults t a) (statement_of t (number_names K) [])
    has_tree = ap (λ (o : Option Statement). elim o as (λ z. Result Stmt) [ none ↦ refused 2 | some u ↦ checked (statement_faults u a) (statement_of u (number_names K) []) ]) (statement_tree t (draft_spelled P any_number named s 0 k.0))

    fine : statement_faults t a ≡ []
    fine = draft_fine P any_number s 0 0 a (record { defs_are = refl; bound_is = inr refl; depth_is = refl }) k.0 (omega (arith, k.1)) w

    fits : T (statement_fits s P (below K) 0)
    fits = refit P any_number (below K) s 0 (λ x i u. lt→ltb x K (b x i)) k.0

pub statement_passes_iff : (P : Program) → T (program_passes P) → (s : Stmt) (K : ℕ) → ListsFit s → K ≤ most_names → Below (numbers s) K → T (statement_passes P any_number 0 s) ↔ StatementText P s
statement_passes_iff P p s K lists r b = (passing_statement P (predicates P p) s K lists r b, λ t. statement_in_passes P t.0 t.4 s t.5)
