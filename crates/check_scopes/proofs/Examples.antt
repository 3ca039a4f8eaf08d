-- The tests on the words of a small configuration, computed: x is the variable of a member, y and z are the locals of an and-box. In its
-- choice-box the first guard has failed, so that any variable may stand in its body; the second guard has the local 2.
use mathlib.Core.Path.{◌≡◌, refl}
use mathlib.Core.List.{List, [], ◌∷◌}
use mathlib.Core.Bool.{true, false}
use Prim.Native.Nat.{ℕ}
use Rattle.constraint.specs.Solve.{elem, distinct}
use Rattle.akl.specs.Base.{all, range}
use Rattle.mem_words.specs.declared.Word.{Word}
use Rattle.mem_words.specs.declared.Word.TheVariants.{End, Free, Num, Place, Inner}
use Rattle.mem_sorts.specs.declared.Kind.TheVariants.{Or, And, Guarded, Member, Cond}
use Rattle.mem_sorts.specs.declared.Sort.TheVariants.{Locals, Store, Eq, Call}
use Rattle.check_words.specs.Frees.{frees, numbers_passed}
use Rattle.check_words.specs.Query.{box_passes, query_from, query_passed}
use Rattle.check_words.specs.Apart.{new, apart_from, apart_passed}
use Rattle.check_words.specs.Scope.{scoped, awaits, excused, give, fresh, scope_from, scope_passed}
use Rattle.check_scopes.specs.Scopes.{scopes_passed}

abbrev small : ℕ → ℕ → ℕ → List Word
small x y z =
    Place Or
    ∷ Place And
    ∷ Inner Locals ∷ Free y ∷ Free z ∷ End
    ∷ Inner Store ∷ Inner Eq ∷ Free 0 ∷ Free 1 ∷ End ∷ End
    ∷ Place Member ∷ Inner Call ∷ Num 7 ∷ Free x ∷ End ∷ End
    ∷ Place Cond
    ∷ Place Guarded ∷ Place Or ∷ End ∷ Inner Call ∷ Num 7 ∷ Free 9 ∷ End ∷ End
    ∷ Place Guarded ∷ Place And ∷ Inner Locals ∷ Free 2 ∷ End ∷ Inner Store ∷ End ∷ End ∷ Inner Call ∷ Num 7 ∷ Free 2 ∷ End ∷ End
    ∷ End
    ∷ End
    ∷ Place Or ∷ End
    ∷ End
    ∷ []

pub passes : scopes_passed 2 10 (small 1 0 1) ≡ true
unfolding scopes_passed apart_passed apart_from new scope_passed scope_from scoped awaits excused give fresh query_passed query_from box_passes numbers_passed frees all range elem distinct
passes = refl

pub next_too_low : numbers_passed 2 9 (small 1 0 1) ≡ false
unfolding numbers_passed all
next_too_low = refl

pub out_of_scope : scope_passed (small 2 0 1) ≡ false
unfolding scope_passed scope_from scoped awaits excused give fresh frees all elem distinct
out_of_scope = refl

pub local_of_two : apart_passed (small 1 0 2) ≡ false
unfolding apart_passed apart_from new
local_of_two = refl

pub no_query_variable : query_passed 2 (small 1 0 3) ≡ false
unfolding query_passed query_from box_passes frees all range elem
no_query_variable = refl
