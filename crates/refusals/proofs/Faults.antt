-- The faults of a tree are 3 to 7: what is of the grammar is not refused lower. Assumes nothing.
use mathlib.Core.Path.{◌≡◌, subst, sym}
use mathlib.Core.Logic.{◌⊎◌, inl, inr}
use mathlib.Core.List.{List, [], ◌∷◌, ◌++◌, map}
use mathlib.Core.Bool.{Bool, true, false, not}
use Prim.Native.Nat.{ℕ, ◌≤◌, ◌<◌}
use native.Mathlib.Omega.{arith}
use lib.Dec.{eqb, leb, ltb}
use Rattle.constraint.specs.Constraint.{In, Con, ctrue, cfail, ceq, capp}
use Rattle.akl.specs.Base.{Name, size, repeats, flat}
use Rattle.akl.specs.Limits.{most_definitions, most_arguments, most_query_variables, most_depth}
use Rattle.akl.specs.Syntax.{Program}
use Rattle.akl.specs.Grammar.{Statement, single, joined, Simple, constraint, program, bracket, Bracket, plain, hiding, choosing, Clause, written, Others, end, and_also, Definition}
use Rattle.akl.specs.Reader.{Around, fault, unbound, unknown, mixed, operator_of, hiding_also, deeper, constraint_faults, statement_faults, simple_faults, bracket_faults, clause_faults, others_faults, heads, twice, definition_faults, program_faults, query_faults, query_variables}
use Rattle.refusals.specs.Refusals.{Textual}

abbrev pub AllTextual : List ℕ → Type 0
AllTextual fs = (x : ℕ) → In x fs → Textual x

all_fault : (n : ℕ) (b : Bool) → 3 ≤ n → n < 8 → AllTextual (fault n b)
all_fault n true l h x (inl e) = record { low = omega arith; high = omega arith }
all_fault n true l h x (inr z) = absurd z
all_fault n false l h x z = absurd z

all_both : (l m : List ℕ) → AllTextual l → AllTextual m → AllTextual (l ++ m)
all_both [] m a b x h = b x h
all_both (y ∷ l) m a b x (inl e) = a x (inl e)
all_both (y ∷ l) m a b x (inr h) = all_both l m (λ z i. a z (inr i)) b x h

constraint_textual : (c : Con Name) (a : Around) → AllTextual (constraint_faults c a)
constraint_textual ctrue a = λ x h. absurd h
constraint_textual cfail a = λ x h. absurd h
constraint_textual (ceq y z) a = all_fault 6 (unbound a.bound (y ∷ z ∷ [])) (omega arith) (omega arith)
constraint_textual (capp y f ys) a = all_both (fault 3 (ltb most_arguments (size ys))) _ (all_fault 3 (ltb most_arguments (size ys)) (omega arith) (omega arith)) (all_fault 6 (unbound a.bound (y ∷ ys)) (omega arith) (omega arith))

mutual
  unfolding statement_faults simple_faults bracket_faults clause_faults others_faults

  pub statement_textual : (t : Statement) (a : Around) → AllTextual (statement_faults t a)
  statement_textual (single s) a = simple_textual s a
  statement_textual (joined s r) a = all_both (simple_faults s a) (statement_faults r a) (simple_textual s a) (statement_textual r a)

  simple_textual : (t : Simple) (a : Around) → AllTextual (simple_faults t a)
  simple_textual (constraint c) a = constraint_textual c a
  simple_textual (program p xs) a =
      all_both (fault 3 (ltb most_arguments (size xs)) ++ fault 5 (unknown a p (size xs))) _
      (all_both (fault 3 (ltb most_arguments (size xs))) _ (all_fault 3 (ltb most_arguments (size xs)) (omega arith) (omega arith)) (all_fault 5 (unknown a p (size xs)) (omega arith) (omega arith)))
      (all_fault 6 (unbound a.bound xs) (omega arith) (omega arith))
  simple_textual (bracket b) a = all_both (fault 3 (leb most_depth a.depth)) _ (all_fault 3 (leb most_depth a.depth) (omega arith) (omega arith)) (bracket_textual b (deeper a))

  bracket_textual : (t : Bracket) (a : Around) → AllTextual (bracket_faults t a)
  bracket_textual (plain s) a = statement_textual s a
  bracket_textual (hiding x xs s) a = all_both (fault 4 (repeats (x ∷ xs))) _ (all_fault 4 (repeats (x ∷ xs)) (omega arith) (omega arith)) (statement_textual s (hiding_also (x ∷ xs) a))
  bracket_textual (choosing c cs) a =
      all_both (fault 7 (mixed (operator_of c) cs) ++ clause_faults c a) _
      (all_both (fault 7 (mixed (operator_of c) cs)) _ (all_fault 7 (mixed (operator_of c) cs) (omega arith) (omega arith)) (clause_textual c a))
      (others_textual cs a)

  clause_textual : (t : Clause) (a : Around) → AllTextual (clause_faults t a)
  clause_textual (written xs g op b) a =
      all_both (fault 4 (repeats xs) ++ statement_faults g (hiding_also xs a)) _
      (all_both (fault 4 (repeats xs)) _ (all_fault 4 (repeats xs) (omega arith) (omega arith)) (statement_textual g (hiding_also xs a)))
      (statement_textual b (hiding_also xs a))

  others_textual : (t : Others) (a : Around) → AllTextual (others_faults t a)
  others_textual end a = λ x h. absurd h
  others_textual (and_also c cs) a = all_both (clause_faults c a) (others_faults cs a) (clause_textual c a) (others_textual cs a)

pub definition_textual : (hs : List (Name × ℕ)) (d : Definition) → AllTextual (definition_faults hs d)
definition_textual hs d =
    all_both (fault 3 (ltb most_arguments (size d.parameters)) ++ fault 4 (repeats d.parameters)) _
    (all_both (fault 3 (ltb most_arguments (size d.parameters))) _ (all_fault 3 (ltb most_arguments (size d.parameters)) (omega arith) (omega arith)) (all_fault 4 (repeats d.parameters) (omega arith) (omega arith)))
    (statement_textual d.statement _)

flat_textual : (f : Definition → List ℕ) → ((d : Definition) → AllTextual (f d)) → (ds : List Definition) → AllTextual (flat f ds)
unfolding flat
flat_textual f h [] = λ x z. absurd z
flat_textual f h (d ∷ ds) = all_both (f d) (flat f ds) (h d) (flat_textual f h ds)

pub program_textual : (ds : List Definition) → AllTextual (program_faults ds)
unfolding program_faults
program_textual ds =
    all_both (fault 3 (ltb most_definitions (size ds)) ++ fault 4 (twice (heads ds))) _
    (all_both (fault 3 (ltb most_definitions (size ds))) _ (all_fault 3 (ltb most_definitions (size ds)) (omega arith) (omega arith)) (all_fault 4 (twice (heads ds)) (omega arith) (omega arith)))
    (flat_textual (definition_faults (heads ds)) (definition_textual (heads ds)) ds)

pub query_textual : (P : Program) (t : Statement) → AllTextual (query_faults P t)
unfolding query_faults
query_textual P t = all_both (fault 3 (ltb most_query_variables (size (query_variables t)))) _ (all_fault 3 (ltb most_query_variables (size (query_variables t))) (omega arith) (omega arith)) (statement_textual t _)
