-- A name, ` = ` and a term, one behind the other. Assumes nothing.
use Rattle.answer_line.proofs.Lining.{bound_of, next_print}
use Rattle.answer_line.proofs.binding.Goals as goal

pub name-a-requires : goal.name-a-requires
name-a-requires c = (c.requires.2.names, c.requires.4)

pub term-requires : goal.term-requires
term-requires c = (c.requires.0, c.requires.1, c.requires.2, next_print c.requires.3 c.equals-b.ensures)

pub returns : goal.returns
returns c = (bound_of c.name-a.ensures c.equals-b.ensures c.term.ensures.0, c.term.ensures.1)
