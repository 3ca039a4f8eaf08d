-- The brackets that are open on a walk over the and-boxes of a goal, and the marks of what was told for them. Assumes nothing.
use Rattle.std.specs.Prelude.{◌≡◌, true, false, List, [], ◌∷◌, ◌++◌, ℕ, suc, ◌+◌, ◌≤◌}
use Rattle.constraint.specs.Tree.{Label}
use Rattle.mem_words.specs.declared.Word.{Word}
use Rattle.mem_sorts.specs.declared.Kind.TheVariants.{And}
use Rattle.work_marks.specs.Marks.{Mark, trail_at, apps_at, used_at, all_told}
use Rattle.rule_effects.specs.Conditions.{kind_at}
use Rattle.rule_ranges.specs.Ranges.{and_its, ranges_from, told_all, log_words, apps_all}
use Rattle.step_frames.specs.Frames.{Frame}

-- where it opens; for an and-box besides the marks that its store brought
pub data Bracket : Type 0 where
  plain : ℕ → Bracket
  box : ℕ → List Mark → Bracket

-- Of the brackets that are open, the innermost first: where they open,
abbrev pub places : List Bracket → List ℕ
places [] = []
places (plain o ∷ bs) = o ∷ places bs
places (box o ns ∷ bs) = o ∷ places bs

-- the marks of the walk, on top of those of the goal's environment,
abbrev pub marks : List Mark → List Bracket → List Mark
marks env [] = env
marks env (plain o ∷ bs) = marks env bs
marks env (box o ns ∷ bs) = ns ++ marks env bs

-- how many are open inside the innermost and-box, and how many and-boxes are open.
abbrev pub inner : List Bracket → ℕ
inner [] = 0
inner (plain o ∷ bs) = suc (inner bs)
inner (box o ns ∷ bs) = 0

abbrev pub boxes : List Bracket → ℕ
boxes [] = 0
boxes (plain o ∷ bs) = boxes bs
boxes (box o ns ∷ bs) = suc (boxes bs)

-- the marks ns are those of the store of the bracket at o, told on top of ms
pub record Its (W : List Word) (o : ℕ) (ns ms : List Mark) : Type 0 where
  pub told : (lab : ℕ → Label) → all_told lab ns ≡ told_all lab W (and_its W o [])
  pub words : used_at (ns ++ ms) ≡ used_at ms + log_words (and_its W o [])
  pub apps : apps_at (ns ++ ms) ≤ apps_at ms + apps_all W (and_its W o [])

-- the store of each and-box was told, one on top of the other
unfoldable pub Told : List Word → List Mark → List Bracket → Type 0
Told W env [] = Unit {0}
Told W env (plain o ∷ bs) = (kind_at W o And ≡ false) × Told W env bs
Told W env (box o ns ∷ bs) = (kind_at W o And ≡ true) × Its W o ns (marks env bs) × Told W env bs

-- the stack F has for each and-box what was before it
unfoldable pub Framed : List ℕ → List Mark → List Bracket → Type 0
Framed F env [] = Unit {0}
Framed F env (plain o ∷ bs) = Framed F env bs
Framed F env (box o ns ∷ bs) = Frame F (boxes bs) (inner bs) (used_at (marks env bs)) (trail_at (marks env bs)) (apps_at (marks env bs)) × Framed F env bs

-- the marks env are those of the stores around the goal at g; the trail was `from` long
pub record Environment (W : List Word) (g from : ℕ) (env : List Mark) : Type 0 where
  pub told : (lab : ℕ → Label) → all_told lab env ≡ told_all lab W (ranges_from W 0 g)
  pub words : used_at env ≡ log_words (ranges_from W 0 g)
  pub apps : apps_at env ≤ apps_all W (ranges_from W 0 g)
  pub trail : trail_at env ≡ from
