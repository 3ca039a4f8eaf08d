-- What a word is to a walk over the and-boxes of a goal. Assumes nothing.
use Rattle.mem_words.specs.declared.Word.{Word}
use Rattle.mem_words.specs.declared.Word.TheVariants.{End, Free, Level, Num, Place, Inner, Bad}
use Rattle.mem_sorts.specs.declared.Kind.{Kind}
use Rattle.mem_sorts.specs.declared.Kind.TheVariants.{Or, And, Guarded, Member, Wait, Cond, Commit}
use Rattle.step_turn.specs.declared.Shape.{Shape}
use Rattle.step_turn.specs.declared.Shape.TheVariants.{Box, Opens, Closes, Else}

abbrev pub shape_in : Kind → Shape
shape_in Or = Opens
shape_in And = Box
shape_in Guarded = Opens
shape_in Member = Opens
shape_in Wait = Opens
shape_in Cond = Opens
shape_in Commit = Opens

abbrev pub shape_of : Word → Shape
shape_of End = Closes
shape_of (Free v) = Else
shape_of (Level v) = Else
shape_of (Num v) = Else
shape_of (Place k) = shape_in k
shape_of (Inner s) = Opens
shape_of Bad = Else
