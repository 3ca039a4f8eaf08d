-- The marks of an answer's text, byte by byte. Assumes nothing.
use mathlib.Core.Path.{◌≡◌, refl}
use mathlib.Core.List.{[], ◌∷◌}
use Rattle.akl.specs.Base.{bytes, bytes_from}

-- a mark of one byte is put as that byte (by put-as)
pub underscore : (95 ∷ []) ≡ bytes "_"
unfolding bytes bytes_from
underscore = refl

pub opening : (40 ∷ []) ≡ bytes "("
unfolding bytes bytes_from
opening = refl

pub closing : (41 ∷ []) ≡ bytes ")"
unfolding bytes bytes_from
closing = refl

pub between : (44 ∷ []) ≡ bytes ","
unfolding bytes bytes_from
between = refl
