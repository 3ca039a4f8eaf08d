-- The kind of place that stands at a position of a configuration's words W, as a number of the table of rules: akl's
-- `takes-number`; 10 if no place begins there. Assumes nothing.
use Rattle.std.specs.Prelude.{◌≡◌, refl, Bool, cond, List, ℕ, zero, suc, ◌+◌, get_or}
use Rattle.std.proofs.Common.{ap, sym, ◌∙◌}
use Rattle.mem_words.specs.declared.Word.{Word}
use Rattle.mem_words.specs.declared.Word.TheVariants.{End, Free, Level, Num, Place, Inner, Bad}
use Rattle.mem_sorts.specs.declared.Kind.{Kind}
use Rattle.mem_sorts.specs.declared.Kind.TheVariants.{Or, And, Guarded, Member, Wait, Cond, Commit}
use Rattle.mem_sorts.specs.declared.Sort.{Sort}
use Rattle.mem_sorts.specs.declared.Sort.TheVariants.{Locals, Store, True, Fail, Eq, App, Call, Comp, Hide, Clause, AskWait, AskCond, AskCommit}
use Rattle.rule_words.specs.Scans.{around}
use Rattle.rule_effects.specs.Conditions.{kind_at}

-- a statement, by the sort and by the word that begins it
abbrev pub sort_takes : Sort → ℕ
sort_takes Locals = 10
sort_takes Store = 10
sort_takes True = 0
sort_takes Fail = 0
sort_takes Eq = 0
sort_takes App = 0
sort_takes Call = 1
sort_takes Comp = 2
sort_takes Hide = 3
sort_takes Clause = 10
sort_takes AskWait = 4
sort_takes AskCond = 4
sort_takes AskCommit = 4

abbrev pub word_takes : Word → ℕ
word_takes End = 10
word_takes (Free v) = 10
word_takes (Level v) = 10
word_takes (Num v) = 10
word_takes (Place k) = 10
word_takes (Inner s) = sort_takes s
word_takes Bad = 10

-- an or-box, by what it stands in
unfoldable pub or_takes : List Word → ℕ → ℕ
or_takes W zero = 9
or_takes W (suc i) = cond (kind_at W (around W (suc i)) Or) 8 9

-- a place, by its kind
abbrev pub kind_takes : Kind → List Word → ℕ → ℕ
kind_takes Or W i = or_takes W i
kind_takes And W i = 7
kind_takes Guarded W i = 6
kind_takes Member W i = word_takes (get_or W (i + 1) Bad)
kind_takes Wait W i = 5
kind_takes Cond W i = 5
kind_takes Commit W i = 5

abbrev pub place_takes : Word → List Word → ℕ → ℕ
place_takes End W i = 10
place_takes (Free v) W i = 10
place_takes (Level v) W i = 10
place_takes (Num v) W i = 10
place_takes (Place k) W i = kind_takes k W i
place_takes (Inner s) W i = 10
place_takes Bad W i = 10

unfoldable pub takes_in : List Word → ℕ → ℕ
takes_in W i = place_takes (get_or W i Bad) W i

-- ---------------------------------------------------------------------------------------------
-- By what was found.

pub takes_is : (W : List Word) (i r : ℕ) (w : Word) → w ≡ get_or W i Bad → r ≡ place_takes w W i → r ≡ takes_in W i
unfolding takes_in
takes_is W i r w e f = f ∙ ap (λ (x : Word). place_takes x W i) e

pub kind_found : (k j : Kind) (W : List Word) (i r : ℕ) → k ≡ j → r ≡ kind_takes j W i → r ≡ kind_takes k W i
kind_found k j W i r e f = f ∙ ap (λ (x : Kind). kind_takes x W i) (sym e)

pub or_first : (W : List Word) (i : ℕ) → i ≡ 0 → 9 ≡ or_takes W i
unfolding or_takes
or_first W i e = ap (or_takes W) (sym e)

pub member_found : (W : List Word) (i r : ℕ) (w : Word) → w ≡ get_or W (i + 1) Bad → r ≡ word_takes w → r ≡ word_takes (get_or W (i + 1) Bad)
member_found W i r w e f = f ∙ ap word_takes e
