use mathlib.Core.Path.{subst}
use Rattle.mem_numbers.specs.Numbers.{shorts, triples}
use Rattle.read_laid.specs.Shapes.{NamesOf, con_bare_true, con_bare_fail, con_same, con_made}
use Rattle.read_phrases.specs.declared.Constraint.TheVariants as kind
use Rattle.read_laid.specs.Shapes.{con_as}
use Rattle.read_laid.proofs.atom.Goals as goal

pub bare-requires : goal.bare-requires
bare-requires c = c.requires.tables

pub bare-requires-in-Fail : goal.bare-requires-in-Fail
bare-requires-in-Fail c = c.requires.tables

pub same-requires : goal.same-requires
same-requires c = let h = subst (NamesOf (triples c.args.codes.now) (shorts c.args.binds.now)) c.in-Same.is c.requires.names in (c.requires.tables, h.0, h.1)

pub made-requires : goal.made-requires
made-requires c = let h = subst (NamesOf (triples c.args.codes.now) (shorts c.args.binds.now)) c.in-Made.is c.requires.names in (c.requires.tables, h.0, h.1, h.2)

pub returns-in-True : goal.returns-in-True
returns-in-True c = con_as (triples c.args.codes.now) kind.True c.in-True.is (con_bare_true (triples c.args.codes.now) c.bare.ensures)

pub returns-in-Fail : goal.returns-in-Fail
returns-in-Fail c = con_as (triples c.args.codes.now) kind.Fail c.in-Fail.is (con_bare_fail (triples c.args.codes.now) c.bare-in-Fail.ensures)

pub returns-in-Same : goal.returns-in-Same
returns-in-Same c = con_as (triples c.args.codes.now) (kind.Same _ _) c.in-Same.is (con_same (triples c.args.codes.now) c.same.ensures)

pub returns-in-Made : goal.returns-in-Made
returns-in-Made c = con_as (triples c.args.codes.now) (kind.Made _ _ _ _) c.in-Made.is (con_made (triples c.args.codes.now) _ _ _ c.made.ensures)
