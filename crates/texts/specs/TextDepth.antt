-- The depth of a tree as written: how far its brackets nest, plain ones too, round signs of arguments not.
use Rattle.std.specs.Prelude.{ℕ, suc, max}
use Rattle.akl.specs.Grammar.{Statement, single, joined, Simple, constraint, program, bracket, Bracket, plain, hiding, choosing, Clause, written, Others, end, and_also}

unfoldable mutual
  pub text_depth : Statement → ℕ
  text_depth (single s) = simple_depth s
  text_depth (joined s r) = max (simple_depth s) (text_depth r)

  pub simple_depth : Simple → ℕ
  simple_depth (constraint c) = 0
  simple_depth (program p xs) = 0
  simple_depth (bracket b) = suc (bracket_depth b)

  pub bracket_depth : Bracket → ℕ
  bracket_depth (plain s) = text_depth s
  bracket_depth (hiding x xs s) = text_depth s
  bracket_depth (choosing c cs) = max (clause_depth c) (others_depth cs)

  pub clause_depth : Clause → ℕ
  clause_depth (written xs g op b) = max (text_depth g) (text_depth b)

  pub others_depth : Others → ℕ
  others_depth end = 0
  others_depth (and_also c cs) = max (clause_depth c) (others_depth cs)
