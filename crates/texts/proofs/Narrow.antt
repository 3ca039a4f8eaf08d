-- Where no hidden list is too long, there are names for all variables that are bound around one place: at most 32 lists stand
-- around it.
use mathlib.Core.List.{[], ◌∷◌}
use mathlib.Core.Bool.{Bool, true, false, ◌&&◌}
use Prim.Native.Nat.{ℕ, suc, ◌+◌, ◌*◌, ◌≤◌}
use native.Mathlib.Omega.{arith}
use lib.Dec.{T, leb, leb→le}
use Rattle.constraint.proofs.Lists.{and_T}
use Rattle.akl.specs.Base.{all}
use Rattle.akl.specs.Limits.{most_depth, most_arguments}
use Rattle.akl.specs.Syntax.{Stmt, atom, call, comp, hide, choice, Clauses, no_more, clause, Program}
use Rattle.akl.specs.Parts.{statement_parts, clauses_parts}
use Rattle.akl.specs.WellFormed.{is_comp, bracketed, depth, clauses_depth, spelled_predicate, statement_passes, definition_passes}
use Rattle.theory.proofs.Passing.{passes_iff}
use Rattle.texts.specs.Draft.{power, most_names, widest, clauses_widest, program_widest, most_hidden, ListsFit, ClauseListsFit, ProgramListsFit}

enough_names : 8 + most_hidden * 32 ≤ most_names
unfolding most_names power
enough_names = leb→le (8 + most_hidden * 32) most_names tt

as_deep : (b : Bool) (d : ℕ) → d ≤ bracketed b d
as_deep true d = omega arith
as_deep false d = omega arith

mutual
  unfolding widest depth

  widest_depth : (s : Stmt) (n : ℕ) → ListsFit s → widest s n ≤ n + most_hidden * depth s
  widest_depth (atom c) n h = omega arith
  widest_depth (call p xs) n h = omega arith
  widest_depth (comp a b) n h = omega (arith, widest_depth a n h.0, widest_depth b n h.1, as_deep (is_comp a) (depth a))
  widest_depth (hide m a) n h = let k = h.0 in omega (arith, widest_depth a (n + m) h.1)
  widest_depth (choice op cs) n h = omega (arith, clauses_widest_depth cs n h)

  clauses_widest_depth : (cs : Clauses) (n : ℕ) → ClauseListsFit cs → clauses_widest cs n ≤ n + most_hidden * suc (clauses_depth cs)
  clauses_widest_depth no_more n h = omega arith
  clauses_widest_depth (clause m g b cs) n h = let k = h.0 in omega (arith, widest_depth g (n + m) h.1, widest_depth b (n + m) h.2, clauses_widest_depth cs n h.3)

pub narrow : (s : Stmt) (n : ℕ) → ListsFit s → n ≤ most_arguments → depth s ≤ most_depth → widest s n ≤ most_names
narrow s n h a d = omega (arith, widest_depth s n h, enough_names)

pub narrow_program : (P ds : Program) → ProgramListsFit ds → T (all (definition_passes P) ds) → program_widest ds ≤ most_names
unfolding all program_widest definition_passes
narrow_program P [] h t = omega arith
narrow_program P (d ∷ ds) h t = omega (arith, narrow d.body d.arity h.0 (leb→le d.arity most_arguments k1.1) ((passes_iff P (λ x. false) d.arity d.body).0 k2.1).1, narrow_program P ds h.1 k.1)
  where
    k : T (definition_passes P d) × T (all (definition_passes P) ds)
    k = (and_T (definition_passes P d) (all (definition_passes P) ds)).0 t

    k2 : T (spelled_predicate d.name && leb d.arity most_arguments) × T (statement_passes P (λ x. false) d.arity d.body)
    k2 = (and_T (spelled_predicate d.name && leb d.arity most_arguments) (statement_passes P (λ x. false) d.arity d.body)).0 k.0

    k1 : T (spelled_predicate d.name) × T (leb d.arity most_arguments)
    k1 = (and_T (spelled_predicate d.name) (leb d.arity most_arguments)).0 k2.0

-- Hidden variables are parts.
mutual
  unfolding statement_parts

  pub few_parts : (s : Stmt) → statement_parts s ≤ most_hidden → ListsFit s
  few_parts (atom c) l = tt
  few_parts (call p xs) l = tt
  few_parts (comp a b) l = (few_parts a (omega arith), few_parts b (omega arith))
  few_parts (hide m a) l = (omega arith, few_parts a (omega arith))
  few_parts (choice op cs) l = few_clause_parts cs (omega arith)

  few_clause_parts : (cs : Clauses) → clauses_parts cs ≤ most_hidden → ClauseListsFit cs
  few_clause_parts no_more l = tt
  few_clause_parts (clause m g b cs) l = (omega arith, few_parts g (omega arith), few_parts b (omega arith), few_clause_parts cs (omega arith))
