-- Variables in scope, in the words of a configuration. One pass over the words with a stack of the brackets that are open, the
-- innermost first. An and-box has its locals, read ahead where it opens; a guarded goal has the locals of each and-box of its
-- guard, which is the guard itself or stands in its or-boxes. No local may be in scope where it becomes one: interfering locals are
-- refused by another test, so this refuses nothing more. Assumes nothing.
use Rattle.std.specs.Prelude.{List, [], ◌∷◌, ◌++◌, Bool, true, false, ◌&&◌, ◌||◌, not, ℕ, drop}
use Rattle.constraint.specs.Solve.{elem, distinct}
use Rattle.akl.specs.Base.{all}
use Rattle.mem_words.specs.declared.Word.{Word}
use Rattle.mem_words.specs.declared.Word.TheVariants.{End, Free, Level, Num, Place, Inner, Bad}
use Rattle.mem_sorts.specs.declared.Kind.{Kind}
use Rattle.mem_sorts.specs.declared.Kind.TheVariants.{Or, And, Guarded, Member, Wait, Cond, Commit}
use Rattle.check_words.specs.Frees.{frees, is_locals}

-- a bracket that is open: an or-box, or one of locals, of a store or of a statement, with whether it is of locals; a member or a
-- choice-box; an and-box with its locals; a guarded goal with the locals of its guard's and-boxes, the last first
pub data Held : Type 0 where
  clear : Bool → Held
  plain : Held
  boxed : List ℕ → Held
  guarding : List (List ℕ) → Held

-- the locals of the and-boxes around
unfoldable pub scoped : List Held → List ℕ
scoped [] = []
scoped (clear b ∷ S) = scoped S
scoped (plain ∷ S) = scoped S
scoped (boxed vs ∷ S) = scoped S ++ vs
scoped (guarding bs ∷ S) = scoped S

-- in a guard or its body, or-boxes and brackets of the body aside; x is local to every and-box of that guard
unfoldable pub awaits : List Held → Bool
awaits [] = false
awaits (clear b ∷ S) = awaits S
awaits (plain ∷ S) = false
awaits (boxed vs ∷ S) = false
awaits (guarding bs ∷ S) = true

unfoldable pub excused : ℕ → List Held → Bool
excused x [] = false
excused x (clear b ∷ S) = excused x S
excused x (plain ∷ S) = false
excused x (boxed vs ∷ S) = false
excused x (guarding bs ∷ S) = all (elem x) bs

-- an and-box with the locals vs stands here
unfoldable pub give : List ℕ → List Held → List Held
give vs [] = []
give vs (clear b ∷ S) = clear b ∷ give vs S
give vs (plain ∷ S) = plain ∷ S
give vs (boxed us ∷ S) = boxed us ∷ S
give vs (guarding bs ∷ S) = guarding (vs ∷ bs) ∷ S

abbrev pub in_names : List Held → Bool
in_names [] = false
in_names (clear b ∷ S) = b
in_names (plain ∷ S) = false
in_names (boxed vs ∷ S) = false
in_names (guarding bs ∷ S) = false

abbrev pub popped : List Held → List Held
popped [] = []
popped (h ∷ S) = S

-- locals that are different, and none of which is in scope
unfoldable pub fresh : List ℕ → List ℕ → Bool
fresh xs vs = distinct vs && all (λ x. not (elem x xs)) vs

abbrev pub place_passes : List Held → Kind → List Word → Bool
place_passes S Or W = true
place_passes S And W = fresh (scoped S) (frees (drop 1 W))
place_passes S Guarded W = not (awaits S)
place_passes S Member W = not (awaits S)
place_passes S Wait W = not (awaits S)
place_passes S Cond W = not (awaits S)
place_passes S Commit W = not (awaits S)

abbrev pub place_after : List Held → Kind → List Word → List Held
place_after S Or W = clear false ∷ S
place_after S And W = boxed (frees (drop 1 W)) ∷ give (frees (drop 1 W)) S
place_after S Guarded W = guarding [] ∷ S
place_after S Member W = plain ∷ S
place_after S Wait W = plain ∷ S
place_after S Cond W = plain ∷ S
place_after S Commit W = plain ∷ S

abbrev pub use_passes : Bool → ℕ → List Held → Bool
use_passes true x S = true
use_passes false x S = elem x (scoped S) || excused x S

abbrev pub word_scoped : List Held → Word → List Word → Bool
word_scoped S End W = true
word_scoped S (Free x) W = use_passes (in_names S) x S
word_scoped S (Level l) W = true
word_scoped S (Num n) W = true
word_scoped S (Place k) W = place_passes S k W
word_scoped S (Inner s) W = true
word_scoped S Bad W = true

abbrev pub held_after : List Held → Word → List Word → List Held
held_after S End W = popped S
held_after S (Free x) W = S
held_after S (Level l) W = S
held_after S (Num n) W = S
held_after S (Place k) W = place_after S k W
held_after S (Inner s) W = clear (is_locals s) ∷ S
held_after S Bad W = S

unfoldable pub scope_from : List Held → List Word → Bool
scope_from S [] = true
scope_from S (w ∷ W) = word_scoped S w W && scope_from (held_after S w W) W

unfoldable pub scope_passed : List Word → Bool
scope_passed W = scope_from [] W
