-- By its sort. Assumes nothing.
use Rattle.rule_choose.proofs.box_word.Goals as goal

pub returns-in-Inner : goal.returns-in-Inner
returns-in-Inner c = rw c.in-Inner.is c.box_sort.ensures
