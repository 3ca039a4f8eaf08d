-- No number is kept at first. Assumes nothing.
use Rattle.mem_words.specs.Words.{words}
use Rattle.mem_parts.specs.Parts.{outside_then}
use Rattle.work_tables.specs.Tables.{laid_after}
use Rattle.check_vartables.specs.Tables.{stack_of, links_of, names_of}
use Rattle.check_roles.specs.Steps.{begins}
use Rattle.check_scope.proofs.scope.Goals as goal

pub names_zero-requires : goal.names_zero-requires
names_zero-requires c = c.requires.0

pub walk-requires : goal.walk-requires
walk-requires c = (laid_after c.requires.0 c.names_zero.ensures.rest, c.requires.1, begins (words c.args.ws.now) (stack_of c.names_zero.new.w) (links_of c.names_zero.new.w) (names_of c.names_zero.new.w) c.names_zero.ensures.zero)

pub returns : goal.returns
returns c = (c.walk.ensures.0, outside_then c.names_zero.ensures.rest c.walk.ensures.1)
