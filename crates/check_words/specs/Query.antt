-- Query variables in the words of a configuration: they are local to the and-boxes that stand in or-boxes alone, and to no others.
-- One pass over the words. d counts the brackets that are open, from the outermost and-box inwards; or-boxes around it do not count.
-- l says whether the locals of an inner and-box are being passed. Assumes nothing.
use Rattle.std.specs.Prelude.{List, [], ◌∷◌, Bool, true, false, ◌&&◌, ℕ, zero, suc, leb, ltb, drop}
use Rattle.constraint.specs.Solve.{elem}
use Rattle.akl.specs.Base.{all, range}
use Rattle.mem_words.specs.declared.Word.{Word}
use Rattle.mem_words.specs.declared.Word.TheVariants.{End, Free, Level, Num, Place, Inner, Bad}
use Rattle.check_words.specs.Frees.{frees, is_and, is_locals}

-- the count behind a word; for an opening at 0 `b` says whether it is an and-box's
abbrev pub up : Bool → ℕ → ℕ
up true d = suc d
up false zero = zero
up false (suc d) = suc (suc d)

abbrev pub down : ℕ → ℕ
down zero = zero
down (suc d) = d

abbrev pub depth_after : ℕ → Word → ℕ
depth_after d End = down d
depth_after d (Free x) = d
depth_after d (Level l) = d
depth_after d (Num n) = d
depth_after d (Place k) = up (is_and k) d
depth_after d (Inner s) = up false d
depth_after d Bad = d

-- the locals of the outermost and-box itself stand at 1
abbrev pub locals_after : Bool → ℕ → Word → Bool
locals_after l d End = false
locals_after l d (Free x) = l
locals_after l d (Level n) = l
locals_after l d (Num n) = l
locals_after l d (Place k) = false
locals_after l d (Inner s) = is_locals s && ltb 1 d
locals_after l d Bad = l

-- an and-box in or-boxes alone has every query variable, W being the words behind its opening
unfoldable pub box_passes : ℕ → List Word → Bool
box_passes q W = all (λ x. elem x (frees (drop 1 W))) (range 0 q)

abbrev pub opening_passes : ℕ → Bool → ℕ → List Word → Bool
opening_passes q true zero W = box_passes q W
opening_passes q true (suc d) W = true
opening_passes q false d W = true

abbrev pub local_passes : ℕ → Bool → ℕ → Bool
local_passes q true x = leb q x
local_passes q false x = true

abbrev pub word_passes : ℕ → Bool → ℕ → Word → List Word → Bool
word_passes q l d End W = true
word_passes q l d (Free x) W = local_passes q l x
word_passes q l d (Level n) W = true
word_passes q l d (Num n) W = true
word_passes q l d (Place k) W = opening_passes q (is_and k) d W
word_passes q l d (Inner s) W = true
word_passes q l d Bad W = true

unfoldable pub query_from : ℕ → Bool → ℕ → List Word → Bool
query_from q l d [] = true
query_from q l d (w ∷ W) = word_passes q l d w W && query_from q (locals_after l d w) (depth_after d w) W

-- q query variables
unfoldable pub query_passed : ℕ → List Word → Bool
query_passed q W = query_from q false 0 W
