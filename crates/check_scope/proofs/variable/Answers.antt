-- By what the tables say. Assumes nothing.
use Rattle.check_scope.specs.Next.{looks, is_used, is_strange}
use Rattle.check_scope.proofs.variable.Goals as goal

pub allowed-requires : goal.allowed-requires
allowed-requires c = (looks c.requires.0, c.requires.1.small.value)

pub returns-then-allowed : goal.returns-then-allowed
returns-then-allowed c = is_used c.requires.0 c.requires.1 c.allowed.result c.allowed.ensures c.if-allowed.true

pub returns : goal.returns
returns c = is_strange c.requires.0 c.requires.1 c.allowed.result c.allowed.ensures c.if-allowed.false
