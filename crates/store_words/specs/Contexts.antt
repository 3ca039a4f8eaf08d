-- Where a node stands in the words of a configuration: what is before it and what is behind it, by its context; the p-th place.
-- Assumes nothing.
use Rattle.std.specs.Prelude.{List, [], ◌∷◌, ℕ, zero, suc}
use Rattle.akl.specs.Base.{Name}
use Rattle.akl.specs.Configuration as akl
use Rattle.akl.specs.Configuration.{Node, or, and, stmt, choice_box, guard, Ctx, top, in_or, in_and, in_choice, in_guard}
use Rattle.mem_words.specs.declared.Word.{Word}
use Rattle.mem_words.specs.declared.Word.TheVariants.{End, Free, Level, Num, Place, Inner, Bad}
use Rattle.mem_sorts.specs.declared.Kind.{Kind}
use Rattle.mem_sorts.specs.declared.Kind.TheVariants.{Or, And, Guarded, Member}
use Rattle.mem_sorts.specs.declared.Sort.TheVariants.{Locals, Store}
use Rattle.layout.specs.Layout.{stmt_words}
use Rattle.store_words.specs.Boxes.{box_kind, local_words, store_words, nodes_words}

-- the words before a node, and then l
unfoldable pub before : (Name → ℕ) → {k : akl.Kind} → Ctx k → List Word → List Word
before num top l = l
before num (in_or χ a b) l = before num χ (Place Or ∷ nodes_words num a l)
before num (in_and χ vs σ a b) l = before num χ (Place And ∷ Inner Locals ∷ local_words vs (End ∷ Inner Store ∷ store_words num σ (End ∷ nodes_words num a l)))
before num (in_choice χ op a b) l = before num χ (Place (box_kind op) ∷ nodes_words num a l)
before num (in_guard χ s) l = before num χ (Place Guarded ∷ l)

-- the words behind a node, and then r
unfoldable pub after : (Name → ℕ) → {k : akl.Kind} → Ctx k → List Word → List Word
after num top r = r
after num (in_or χ a b) r = nodes_words num b (End ∷ after num χ r)
after num (in_and χ vs σ a b) r = nodes_words num b (End ∷ after num χ r)
after num (in_choice χ op a b) r = nodes_words num b (End ∷ after num χ r)
after num (in_guard χ s) r = stmt_words num s (End ∷ after num χ r)

-- the kind of place that a node is
unfoldable pub kind_of : {k : akl.Kind} → Node k → Kind
kind_of (or ns) = Or
kind_of (and vs σ ms) = And
kind_of (stmt s) = Member
kind_of (choice_box op gs) = box_kind op
kind_of (guard g b) = Guarded

-- how many places begin in the words
unfoldable pub places_in : List Word → ℕ
places_in [] = 0
places_in (End ∷ r) = places_in r
places_in (Free x ∷ r) = places_in r
places_in (Level l ∷ r) = places_in r
places_in (Num n ∷ r) = places_in r
places_in (Place k ∷ r) = suc (places_in r)
places_in (Inner s ∷ r) = places_in r
places_in (Bad ∷ r) = places_in r

-- where the p-th `Place` word stands, counted from 0; the number of words if there are not so many
unfoldable pub place_at : List Word → ℕ → ℕ
place_at [] p = 0
place_at (End ∷ r) p = suc (place_at r p)
place_at (Free x ∷ r) p = suc (place_at r p)
place_at (Level l ∷ r) p = suc (place_at r p)
place_at (Num n ∷ r) p = suc (place_at r p)
place_at (Place k ∷ r) zero = 0
place_at (Place k ∷ r) (suc p) = suc (place_at r p)
place_at (Inner s ∷ r) p = suc (place_at r p)
place_at (Bad ∷ r) p = suc (place_at r p)
