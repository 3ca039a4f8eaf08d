-- Kinds of names: 1 for a constructor's name, 2 for a predicate's, 4 for a variable's, added. Assumes nothing.
use Rattle.std.specs.Prelude.{◌≡◌, List, Bool, true, false, ◌||◌, ℕ, ◌+◌, ◌*◌, ◌/◌, ◌%◌, ◌<◌, ◌≤◌, length, get_or}
use Rattle.std.proofs.Common.{arith}
use Rattle.akl.specs.Base.{Name}
use Rattle.akl.specs.WellFormed.{spelled_name, spelled_digits, spelled_variable, spelled_predicate}
use Rattle.read_nodes.specs.Spell.{named, Lower}
use Rattle.check_namemarks.specs.Marks.{mark_of}

abbrev pub bit : Bool → ℕ
bit true = 1
bit false = 0

-- the kind of a name
unfoldable pub kind_of : Name → ℕ
kind_of w = bit (spelled_name w || spelled_digits w) + 2 * bit (spelled_predicate w) + 4 * bit (spelled_variable w)

-- K has the kinds of the nodes below i
abbrev pub KindsTo : List ℕ → List ℕ → ℕ → Type 0
KindsTo N K i = (j : ℕ) → j < i → get_or K j 0 ≡ kind_of (named N j)

-- What a kind says.
bit_small : (b : Bool) → bit b ≤ 1
bit_small true = omega arith
bit_small false = omega arith

pub kind_constructor : (w : Name) → kind_of w % 2 ≡ bit (spelled_name w || spelled_digits w)
unfolding kind_of
kind_constructor w = omega (arith, bit_small (spelled_name w || spelled_digits w), bit_small (spelled_predicate w), bit_small (spelled_variable w))

pub kind_predicate : (w : Name) → kind_of w / 2 % 2 ≡ bit (spelled_predicate w)
unfolding kind_of
kind_predicate w = omega (arith, bit_small (spelled_name w || spelled_digits w), bit_small (spelled_predicate w), bit_small (spelled_variable w))

pub kind_variable : (w : Name) → kind_of w / 4 ≡ bit (spelled_variable w)
unfolding kind_of
kind_variable w = omega (arith, bit_small (spelled_name w || spelled_digits w), bit_small (spelled_predicate w), bit_small (spelled_variable w))

pub kind_small : (w : Name) → kind_of w < 8
unfolding kind_of
kind_small w = omega (arith, bit_small (spelled_name w || spelled_digits w), bit_small (spelled_predicate w), bit_small (spelled_variable w))

-- s is the mark of node i; r is its kind
pub record CanKind (N : List ℕ) (i s : ℕ) : Type 0 where
  pub lower : Lower N (length N)
  pub node : i < length N
  pub mark : s ≡ mark_of (named N i)

pub record IsKind (N : List ℕ) (i r : ℕ) : Type 0 where
  pub is : r ≡ kind_of (named N i)
  pub small : r < 256
