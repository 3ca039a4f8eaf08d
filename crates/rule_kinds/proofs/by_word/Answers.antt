-- By the word. Assumes nothing.
use Rattle.rule_kinds.proofs.by_word.Goals as goal

pub returns-in-Inner : goal.returns-in-Inner
returns-in-Inner c = rw c.in-Inner.is c.by_sort.ensures
