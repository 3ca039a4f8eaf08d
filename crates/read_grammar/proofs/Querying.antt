-- Laws of a whole query. Assumes nothing.
use mathlib.Core.Path.{◌≡◌, ap, ◌∙◌}
use mathlib.Core.List.{List}
use mathlib.Core.Option.{some}
use Prim.Native.Nat.{ℕ, ◌+◌, ◌≤◌, ◌<◌}
use lib.ListN.{length}
use Rattle.akl.specs.Base.{Name, ◌>>=◌}
use Rattle.akl.specs.Token.{full_stop}
use Rattle.akl.specs.Grammar.{Statement}
use Rattle.akl.specs.Parse.{after, nothing_left, parse_query}
use Rattle.descent.specs.Descent.{the_statement}
use Rattle.descent.proofs.Steps.{no_more_read, read_on}
use Rattle.descent.proofs.Whole.{query_step}
use Rattle.read_phrases.specs.Codes.{kind_at, toks, mark_here, mark_not, toks_none, toks_some}
use Rattle.read_phrases.specs.Phrases as p
use Rattle.read_statements.specs.Statements.{StatementTo}
use Rattle.read_grammar.specs.Grammar.{QueryIs}
use Rattle.std.specs.Prelude as std
use Rattle.read_statements.specs.declared.Unparsed.{Unparsed}
use Rattle.read_statements.specs.declared.Unparsed.TheVariants.{Odd, Short}

-- ---------------------------------------------------------------------------------------------
-- A whole query.

module _ (L S : List ℕ) where
  after_statement : (w : ℕ → Name) (t : Statement) (rest : ℕ) → the_statement (toks w L 0) ≡ some (t, toks w L rest) → parse_query (toks w L 0) ≡ (after full_stop (toks w L rest) >>= λ r. nothing_left t r)
  after_statement w t rest e = query_step (toks w L 0) ∙ read_on (the_statement (toks w L 0)) (t, toks w L rest) _ e

  pub query_odd : StatementTo L S 0 (std.Err Odd) → QueryIs L S (std.Err Odd)
  query_odd h w r = query_step (toks w L 0) ∙ no_more_read (the_statement (toks w L 0)) _ (h w r)

  pub query_err : (e : Unparsed) → StatementTo L S 0 (std.Err e) → QueryIs L S (std.Err e)
  query_err Odd h = query_odd h
  query_err Short h = h

  pub query_unstopped : (rest : ℕ) → StatementTo L S 0 (std.Ok rest) → (kind_at L rest ≡ 6 → ⊥) → QueryIs L S (std.Err Odd)
  query_unstopped rest h k w r =
      let q = h.2 w r in
      after_statement w q.0 rest q.1 ∙ no_more_read (after full_stop (toks w L rest)) _ (mark_not w L rest full_stop k)

  pub query_more : (rest : ℕ) → StatementTo L S 0 (std.Ok rest) → kind_at L rest ≡ 6 → rest + 1 < length L → QueryIs L S (std.Err Odd)
  query_more rest h k m w r =
      let q = h.2 w r in
      let t = toks_some w L (rest + 1) m in
      after_statement w q.0 rest q.1 ∙ read_on (after full_stop (toks w L rest)) (toks w L (rest + 1)) _ (mark_here w L rest full_stop k) ∙ ap (nothing_left q.0) t.1

  pub query_whole : (rest : ℕ) → StatementTo L S 0 (std.Ok rest) → kind_at L rest ≡ 6 → length L ≤ rest + 1 → QueryIs L S (std.Ok tt)
  query_whole rest h k m w r =
      let q = h.2 w r in
      (q.0, after_statement w q.0 rest q.1 ∙ read_on (after full_stop (toks w L rest)) (toks w L (rest + 1)) _ (mark_here w L rest full_stop k) ∙ ap (nothing_left q.0) (toks_none w L (rest + 1) m))
