-- The stores of the and-boxes around a position, as ranges of a configuration's words W, and the locals inside a goal. Each is
-- defined for any words and any positions. Assumes nothing.
use Rattle.std.specs.Prelude.{Bool, true, false, cond, List, [], ◌∷◌, ◌++◌, ℕ, zero, suc, ◌+◌, ◌-◌, ltb}
use Rattle.constraint.specs.Tree.{Label}
use Rattle.constraint.specs.Constraint.{Store}
use Rattle.mem_words.specs.declared.Word.{Word}
use Rattle.mem_words.specs.declared.Word.TheVariants.{End, Free, Level, Num, Place, Inner, Bad}
use Rattle.mem_sorts.specs.declared.Kind.TheVariants.{And}
use Rattle.mem_sorts.specs.declared.Sort.{Sort}
use Rattle.mem_sorts.specs.declared.Sort.TheVariants as sorts
use Rattle.rule_words.specs.Scans.{around}
use Rattle.rule_words.specs.Pieces.{cut}
use Rattle.rule_effects.specs.Effects.{behind, locals_end, store_end}
use Rattle.rule_effects.specs.Conditions.{kind_at}
use Rattle.work_marks.specs.Marks.{range_told, apps_told}

-- a range of words: where it begins, and how many words it has
pub record Range : Type 0 where
  pub from : ℕ
  pub len : ℕ

-- the store of the and-box at o
unfoldable pub store_range : List Word → ℕ → Range
store_range W o = record { from = locals_end W o + 2; len = store_end W o - (locals_end W o + 2) }

-- what the bracket at o adds to the stores around it
abbrev pub and_its : List Word → ℕ → List Range → List Range
and_its W o rs = cond (kind_at W o And) (store_range W o ∷ rs) rs

-- the stores of the and-boxes that are open at i and begin at s or behind it, the innermost first; f bounds how many brackets are
-- passed
unfoldable pub ranges : ℕ → List Word → ℕ → ℕ → List Range
ranges zero W s i = []
ranges (suc f) W s i = cond (ltb s i) (cond (ltb (around W i) s) [] (and_its W (around W i) (ranges f W s (around W i)))) []

-- each bracket around a position begins before it, so as many as i are enough
unfoldable pub ranges_from : List Word → ℕ → ℕ → List Range
ranges_from W s i = ranges i W s i

-- The constraints in them, those of the first range first.
unfoldable pub told_all : (ℕ → Label) → List Word → List Range → Store
told_all lab W [] = []
told_all lab W (r ∷ rs) = range_told W r.from r.len lab ++ told_all lab W rs

-- how many words of the log they take, three behind each range, and how many applications begin in them
unfoldable pub log_words : List Range → ℕ
log_words [] = 0
log_words (r ∷ rs) = r.len + 3 + log_words rs

unfoldable pub apps_all : List Word → List Range → ℕ
apps_all W [] = 0
apps_all W (r ∷ rs) = apps_told W r.from r.len + apps_all W rs

-- "all locals inside the goal": the variables behind `Inner Locals`, up to the next word that is no variable
abbrev pub opens_locals : Sort → Bool
opens_locals sorts.Locals = true
opens_locals sorts.Store = false
opens_locals sorts.True = false
opens_locals sorts.Fail = false
opens_locals sorts.Eq = false
opens_locals sorts.App = false
opens_locals sorts.Call = false
opens_locals sorts.Comp = false
opens_locals sorts.Hide = false
opens_locals sorts.Clause = false
opens_locals sorts.AskWait = false
opens_locals sorts.AskCond = false
opens_locals sorts.AskCommit = false

unfoldable pub locals_in : Bool → List Word → List ℕ
locals_in b [] = []
locals_in b (End ∷ r) = locals_in false r
locals_in true (Free v ∷ r) = v ∷ locals_in true r
locals_in false (Free v ∷ r) = locals_in false r
locals_in b (Level v ∷ r) = locals_in false r
locals_in b (Num v ∷ r) = locals_in false r
locals_in b (Place k ∷ r) = locals_in false r
locals_in b (Inner s ∷ r) = locals_in (opens_locals s) r
locals_in b (Bad ∷ r) = locals_in false r

-- those of the goal at g
unfoldable pub locals_at : List Word → ℕ → List ℕ
locals_at W g = locals_in false (cut g (behind W g) W)
