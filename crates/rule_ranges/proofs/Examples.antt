-- The ranges of a small configuration, computed: the number of a name is its first byte.
use mathlib.Core.Path.{◌≡◌, refl}
use mathlib.Core.List.{List, [], ◌∷◌}
use Prim.Native.Nat.{ℕ}
use Rattle.constraint.specs.Constraint.{ctrue, ceq, capp}
use Rattle.akl.specs.Base.{Name}
use Rattle.akl.specs.Syntax.{cond, atom}
use Rattle.akl.specs.Configuration.{goal, Node, or, and, choice_box, guard, nil, one}
use Rattle.mem_words.specs.declared.Word.{Word}
use Rattle.mem_words.specs.declared.Word.TheVariants.{End, Free, Num, Place, Inner}
use Rattle.mem_sorts.specs.declared.Kind.TheVariants.{Or, And, Guarded, Cond}
use Rattle.mem_sorts.specs.declared.Sort.TheVariants.{Locals, Store, True, Eq, App}
use Rattle.mem_copies.specs.Runs.{run}
use Rattle.layout.specs.Layout.{var_word, vars_words, con_words, stmt_words}
use Rattle.store_words.specs.Boxes.{box_kind, local_words, store_words, node_words}
use Rattle.solve_fields.specs.Read.{told, args_of}
use Rattle.work_log.specs.Logs.{stop}
use Rattle.rule_words.specs.Scans.{upto, close, up, around}
use Rattle.rule_words.specs.Pieces.{cut}
use Rattle.rule_effects.specs.Conditions.{kind_at}
use Rattle.rule_ranges.specs.Ranges.{Range, store_range, ranges, ranges_from, told_all, locals_in, locals_at}

abbrev byte : Name → ℕ
byte [] = 0
byte (x ∷ l) = x

abbrev letter : ℕ → Name
letter x = x ∷ []

abbrev range_of : ℕ → ℕ → Range
range_of f n = record { from = f; len = n }

-- an and-box with a store, and in it a choice-box with one guarded goal, whose guard is solved
abbrev small : Node goal
small = or (one (and (0 ∷ []) (ceq 0 1 ∷ []) (one (choice_box cond (one (guard (and (2 ∷ []) (capp 2 (letter 7) [] ∷ ceq 2 0 ∷ []) nil) (atom ctrue)))))))

-- the and-box stands at 1, the guarded goal at 12, its guard at 13
abbrev small_words : List Word
small_words =
    Place Or
    ∷ Place And
    ∷ Inner Locals ∷ Free 0 ∷ End
    ∷ Inner Store ∷ Inner Eq ∷ Free 0 ∷ Free 1 ∷ End ∷ End
    ∷ Place Cond
    ∷ Place Guarded
    ∷ Place And
    ∷ Inner Locals ∷ Free 2 ∷ End
    ∷ Inner Store ∷ Inner App ∷ Free 2 ∷ Num 7 ∷ End ∷ Inner Eq ∷ Free 2 ∷ Free 0 ∷ End ∷ End
    ∷ End
    ∷ Inner True ∷ End
    ∷ End
    ∷ End
    ∷ End
    ∷ End
    ∷ []

pub small_are : node_words byte small [] ≡ small_words
unfolding node_words local_words store_words stmt_words con_words vars_words var_word box_kind
small_are = refl

-- around the guard, in it too, and from it on
pub ranges_around : ranges_from small_words 0 13 ≡ range_of 6 4 ∷ []
unfolding ranges_from ranges store_range kind_at around up close upto
ranges_around = refl

pub ranges_in : ranges_from small_words 0 14 ≡ range_of 18 8 ∷ range_of 6 4 ∷ []
unfolding ranges_from ranges store_range kind_at around up close upto
ranges_in = refl

pub ranges_on : ranges_from small_words 13 14 ≡ range_of 18 8 ∷ []
unfolding ranges_from ranges store_range kind_at around up close upto
ranges_on = refl

pub told_in : told_all letter small_words (ranges_from small_words 0 14) ≡ capp 2 (letter 7) [] ∷ ceq 2 0 ∷ ceq 0 1 ∷ []
unfolding told_all told args_of run stop ranges_from ranges store_range kind_at around up close upto
told_in = refl

-- all locals inside the and-box, and inside the guarded goal
pub locals_of_box : locals_at small_words 1 ≡ 0 ∷ 2 ∷ []
unfolding locals_at locals_in cut close upto
locals_of_box = refl

pub locals_of_guarded : locals_at small_words 12 ≡ 2 ∷ []
unfolding locals_at locals_in cut close upto
locals_of_guarded = refl
