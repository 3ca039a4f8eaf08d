-- The abstract syntax that a program and a query stand for, with bound variables as levels.
use Rattle.std.specs.Prelude.{List, [], ◌∷◌, map, ◌&&◌, ℕ, zero, suc, eqb}
use Rattle.std.proofs.Math.Option.{Option, some, none}
use Rattle.constraint.specs.Constraint.{Con, map_con}
use Rattle.akl.specs.Base.{Name, same, if}

-- A variable of a statement: one of the configuration, by its number; or a bound one, by its level. The parameters of
-- a definition are the levels from 0; each hidden list goes on counting inwards. So "a hidden name covers an outer one
-- of the same spelling" is settled by the reader, and nothing is ever renamed.
pub data Var : Type 0 where
  number : ℕ → Var
  level : ℕ → Var

-- "an operator (`?`, `->` or `|`)"
pub data Op : Type 0 where
  wait cond commit : Op

-- "A, B, C reads as A, (B, C)"; `(S)` "reads as S" and has no form of its own. `hide n S` hides n variables.
mutual
  pub data Stmt : Type 0 where
    atom : Con Var → Stmt
    call : Name → List Var → Stmt
    comp : Stmt → Stmt → Stmt
    hide : ℕ → Stmt → Stmt
    choice : Op → Clauses → Stmt

  -- clauses, each with the number of its hidden variables, its guard and its body
  pub data Clauses : Type 0 where
    no_more : Clauses
    clause : ℕ → Stmt → Stmt → Clauses → Clauses

-- "definitions `p(X,Y) := S.`"
pub record Def : Type 0 where
  pub name : Name
  pub arity : ℕ
  pub body : Stmt

abbrev pub Program : Type 0
Program = List Def

-- The definition of a program atom: its name and number of arguments agree.
unfoldable pub defined : Program → Name → ℕ → Option Stmt
defined [] p n = none
defined (d ∷ ds) p n = if (same d.name p && eqb d.arity n) (some d.body) (defined ds p n)

-- Variables vs for the outermost bound ones: level l becomes vs[l] if there is one, else it moves out by their number.
-- This is the parameters' replacement in rule 2 and the fresh variables' in rules 4 and 5.
unfoldable pub open_level : List Var → ℕ → Var
open_level [] l = level l
open_level (v ∷ vs) zero = v
open_level (v ∷ vs) (suc l) = open_level vs l

unfoldable pub open_var : List Var → Var → Var
open_var vs (number x) = number x
open_var vs (level l) = open_level vs l

unfoldable mutual
  pub opened : Stmt → List Var → Stmt
  opened (atom c) vs = atom (map_con (open_var vs) c)
  opened (call p ws) vs = call p (map (open_var vs) ws)
  opened (comp a b) vs = comp (opened a vs) (opened b vs)
  opened (hide n a) vs = hide n (opened a vs)
  opened (choice op cs) vs = choice op (opened_clauses cs vs)

  pub opened_clauses : Clauses → List Var → Clauses
  opened_clauses no_more vs = no_more
  opened_clauses (clause n g b cs) vs = clause n (opened g vs) (opened b vs) (opened_clauses cs vs)
