-- The grammar's functions (akl: Parse) with calls enough for their tokens: what a reader is held against. proofs/Steps.antt has
-- their laws, in which no bound on calls is left.
use Rattle.std.specs.Prelude.{List}
use Rattle.std.proofs.Math.Option.{some, none}
use Rattle.akl.specs.Base.{Name, ◌>>=◌}
use Rattle.akl.specs.Token.{Token, equals}
use Rattle.akl.specs.Grammar.{Statement, Simple, Bracket, choosing, Clause, written, Others, Definition}
use Rattle.akl.specs.Parse.{Read, after, an_operator, a_variable, a_name, unclaused, variables, arguments, hidden, equation, named, statement, simple, a_bracket, others, a_clause, definition, enough}

unfoldable pub the_variables : List Token → Read (List Name)
the_variables ts = variables (enough ts) ts

unfoldable pub the_arguments : List Token → Read (List Name)
the_arguments ts = arguments (enough ts) ts

unfoldable pub the_hidden : List Token → Read (List Name)
the_hidden ts = hidden (enough ts) ts

unfoldable pub the_equation : Name → List Token → Read Simple
the_equation x ts = equation (enough ts) x ts

unfoldable pub the_named : Name → List Token → Read Simple
the_named p ts = named (enough ts) p ts

unfoldable pub the_statement : List Token → Read Statement
the_statement ts = statement (enough ts) ts

unfoldable pub the_simple : List Token → Read Simple
the_simple ts = simple (enough ts) ts

unfoldable pub the_bracket : List Token → Read Bracket
the_bracket ts = a_bracket (enough ts) ts

unfoldable pub the_others : List Token → Read Others
the_others ts = others (enough ts) ts

unfoldable pub the_clause : List Token → Read Clause
the_clause ts = a_clause (enough ts) ts

unfoldable pub the_definition : List Token → Read Definition
the_definition ts = definition (enough ts) ts

-- a simple statement that is no bracket
unfoldable pub the_atom : List Token → Read Simple
the_atom ts = elim (a_variable ts) as (λ z. Read Simple) [ some x ↦ after equals x.1 >>= (λ r. the_equation x.0 r) | none ↦ a_name ts >>= λ p. the_named p.0 p.1 ]

-- how a bracket goes on behind its first statement, and a clause behind its guard
unfoldable pub first_clause : List Name → Statement × List Token → Read Bracket
first_clause xs s = elim (an_operator s.1) as (λ z. Read Bracket) [ none ↦ some (unclaused xs s.0, s.1) | some o ↦ the_statement o.1 >>= λ b. the_others b.1 >>= λ cs. some (choosing (written xs s.0 o.0 b.0) cs.0, cs.1) ]

unfoldable pub guard_of : List Name → Statement × List Token → Read Clause
guard_of xs g = an_operator g.1 >>= λ o. the_statement o.1 >>= λ b. some (written xs g.0 o.0 b.0, b.1)
