-- What a move leaves behind: only frames that fit. Assumes nothing.
use Rattle.check_shapes.specs.declared.Move.{Move}
use Rattle.check_shapes.specs.declared.Move.TheVariants.{Stop, Stay, Push, Pop}
use Rattle.check_shapes.specs.Bounds.{Bounded, Left}

abbrev pub LowMove : Move → Type 0
LowMove Stop = Unit {0}
LowMove (Stay y) = Bounded y
LowMove (Push y z) = Bounded y × Left z
LowMove Pop = Unit {0}
