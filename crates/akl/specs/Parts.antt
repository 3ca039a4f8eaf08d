-- Parts. Document 01: "one for every box, guarded goal, clause, composition, hiding, choice statement, atom, stored
-- constraint, and local or hidden variable".
use Rattle.std.specs.Prelude.{ℕ, ◌+◌}
use Rattle.akl.specs.Base.{size}
use Rattle.akl.specs.Syntax.{Stmt, atom, call, comp, hide, choice, Clauses, no_more, clause}
use Rattle.akl.specs.Configuration.{Kind, Node, or, and, stmt, choice_box, guard, Nodes, nil, cons}

unfoldable mutual
  pub statement_parts : Stmt → ℕ
  statement_parts (atom c) = 1
  statement_parts (call p xs) = 1
  statement_parts (comp a b) = 1 + statement_parts a + statement_parts b
  statement_parts (hide n a) = 1 + n + statement_parts a
  statement_parts (choice op cs) = 1 + clauses_parts cs

  pub clauses_parts : Clauses → ℕ
  clauses_parts no_more = 0
  clauses_parts (clause n g b cs) = 1 + n + statement_parts g + statement_parts b + clauses_parts cs

unfoldable mutual
  pub parts : {k : Kind} → Node k → ℕ
  parts (or ns) = 1 + parts_all ns
  parts (and vs σ ms) = 1 + size vs + size σ + parts_all ms
  parts (stmt s) = statement_parts s
  parts (choice_box op gs) = 1 + parts_all gs
  parts (guard g b) = 1 + parts g + statement_parts b

  pub parts_all : {k : Kind} → Nodes k → ℕ
  parts_all nil = 0
  parts_all (cons n ns) = parts n + parts_all ns
