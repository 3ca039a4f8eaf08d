-- The grammar: concrete syntax trees as written. Parse.antt finds the tree of a text's tokens. Which tokens a tree has, and
-- that a text has one tree, is said in the crate `texts`.
use Rattle.std.specs.Prelude.{List}
use Rattle.constraint.specs.Constraint.{Con}
use Rattle.akl.specs.Base.{Name}
use Rattle.akl.specs.Syntax.{Op}

mutual
  -- "A statement is one or more simple statements joined by commas"
  pub data Statement : Type 0 where
    single : Simple → Statement
    joined : Simple → Statement → Statement

  -- "A simple statement is a constraint atom, a program atom with variables as arguments, or a bracket."
  -- The four kinds of constraint are those of Con, here of variables as spelled.
  pub data Simple : Type 0 where
    constraint : Con Name → Simple
    program : Name → List Name → Simple
    bracket : Bracket → Simple

  -- "A bracket is `(S)`, which reads as S, a hiding `(X,Y : S)`, or a choice of one or more clauses parted by `;`."
  pub data Bracket : Type 0 where
    plain : Statement → Bracket
    hiding : Name → List Name → Statement → Bracket
    choosing : Clause → Others → Bracket

  -- "A clause is an optional list of hidden variables and colon, a guard statement, an operator and a body statement."
  -- Without a list it hides none.
  pub data Clause : Type 0 where
    written : List Name → Statement → Op → Statement → Clause

  -- the other clauses of a choice
  pub data Others : Type 0 where
    end : Others
    and_also : Clause → Others → Others

-- "definitions `p(X,Y) := S.`, where p may have no parameters and then no brackets"
pub record Definition : Type 0 where
  pub head : Name
  pub parameters : List Name
  pub statement : Statement
