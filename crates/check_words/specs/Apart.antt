-- Locals that do not interfere, in the words of a configuration. One pass over the words with a stack of the brackets that are open,
-- the innermost first. Each keeps the locals that were passed in it, so that at a further local x the innermost bracket that has
-- passed x is what the two boxes have in common: it must be no and-box. A bracket of locals counts as an and-box, since
-- its variables are to be different. Assumes nothing.
use Rattle.std.specs.Prelude.{List, [], ◌∷◌, Bool, true, false, ◌&&◌, ◌||◌, not, ℕ, eqb}
use Rattle.mem_words.specs.declared.Word.{Word}
use Rattle.mem_words.specs.declared.Word.TheVariants.{End, Free, Level, Num, Place, Inner, Bad}
use Rattle.check_words.specs.Frees.{is_and, is_locals}

-- a bracket that is open: whether it is an and-box or a bracket of locals, whether it is the latter, and the locals passed in it
pub record Open : Type 0 where
  pub strict : Bool
  pub naming : Bool
  pub seen : ℕ → Bool

-- the innermost bracket that has passed x is no and-box
unfoldable pub new : ℕ → List Open → Bool
new x [] = true
new x (o ∷ S) = elim (o.seen x) [ true ↦ not o.strict | false ↦ new x S ]

-- those of p were passed in the innermost bracket too
abbrev pub widen : (ℕ → Bool) → List Open → List Open
widen p [] = []
widen p (o ∷ S) = record { strict = o.strict; naming = o.naming; seen = λ y. p y || o.seen y } ∷ S

abbrev pub saw : ℕ → List Open → List Open
saw x S = widen (λ y. eqb y x) S

-- what was passed in a bracket was passed in the one around it
abbrev pub closed : List Open → List Open
closed [] = []
closed (o ∷ S) = widen o.seen S

abbrev pub names : List Open → Bool
names [] = false
names (o ∷ S) = o.naming

abbrev pub opened : Bool → Bool → List Open → List Open
opened s n S = record { strict = s; naming = n; seen = λ y. false } ∷ S

abbrev pub local_apart : Bool → ℕ → List Open → Bool
local_apart true x S = new x S
local_apart false x S = true

abbrev pub local_after : Bool → ℕ → List Open → List Open
local_after true x S = saw x S
local_after false x S = S

abbrev pub word_apart : List Open → Word → Bool
word_apart S End = true
word_apart S (Free x) = local_apart (names S) x S
word_apart S (Level l) = true
word_apart S (Num n) = true
word_apart S (Place k) = true
word_apart S (Inner s) = true
word_apart S Bad = true

abbrev pub open_after : List Open → Word → List Open
open_after S End = closed S
open_after S (Free x) = local_after (names S) x S
open_after S (Level l) = S
open_after S (Num n) = S
open_after S (Place k) = opened (is_and k) false S
open_after S (Inner s) = opened (is_locals s) (is_locals s) S
open_after S Bad = S

unfoldable pub apart_from : List Open → List Word → Bool
apart_from S [] = true
apart_from S (w ∷ W) = word_apart S w && apart_from (open_after S w) W

unfoldable pub apart_passed : List Word → Bool
apart_passed W = apart_from [] W
