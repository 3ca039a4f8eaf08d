-- One test after another. Assumes nothing.
use mathlib.Core.Path.{refl, sym, ◌∙◌}
use Rattle.mem_words.specs.Words.{words}
use Rattle.mem_parts.specs.Parts.{outside_then}
use Rattle.work_tables.specs.Tables.{laid_after}
use Rattle.check_scopes.specs.Scopes.{numbers_fail, query_fail, apart_fail, scope_left}
use Rattle.check_scopes.proofs.scopes.Goals as goal

pub numbers-requires : goal.numbers-requires
numbers-requires c = tt

pub returns-then-not-numbers : goal.returns-then-not-numbers
returns-then-not-numbers c = (numbers_fail c.args.q c.args.next (words c.args.ws.now) (sym c.numbers.ensures ∙ c.if-not-numbers.true), record { before = refl; after = refl; long = refl })

pub query-requires : goal.query-requires
query-requires c = c.requires.2

pub returns-then-not-query : goal.returns-then-not-query
returns-then-not-query c = (query_fail c.args.q c.args.next (words c.args.ws.now) (sym c.query.ensures ∙ c.if-not-query.true), record { before = refl; after = refl; long = refl })

pub apart-requires : goal.apart-requires
apart-requires c = (c.requires.0, c.requires.1)

pub returns-then-not-apart : goal.returns-then-not-apart
returns-then-not-apart c = (apart_fail c.args.q c.args.next (words c.args.ws.now) (sym c.apart.ensures.0 ∙ c.if-not-apart.true), c.apart.ensures.1)

pub scope-requires : goal.scope-requires
scope-requires c = (laid_after c.requires.0 c.apart.ensures.1, c.requires.1)

pub returns : goal.returns
returns c = (c.scope.ensures.0 ∙ scope_left c.args.q c.args.next (words c.args.ws.now) (sym c.numbers.ensures ∙ c.if-not-numbers.false) (sym c.query.ensures ∙ c.if-not-query.false) (sym c.apart.ensures.0 ∙ c.if-not-apart.false), outside_then c.apart.ensures.1 c.scope.ensures.1)
