-- The classes of bytes as the code has them. Assumes nothing.
use Rattle.akl.specs.Token as akl
use Rattle.read_bytes.specs.declared.Class.{Class}
use Rattle.read_bytes.specs.declared.Class.TheVariants.{Small, Capital, Digit, Underscore, Blank, Mark, Other}

-- the class that each case stands for
abbrev pub class : Class → akl.Class
class Small = akl.small
class Capital = akl.capital
class Digit = akl.digit
class Underscore = akl.underscore
class Blank = akl.blank
class Mark = akl.mark
class Other = akl.other
