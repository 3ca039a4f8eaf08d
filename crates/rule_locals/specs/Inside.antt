-- The locals inside a goal, word by word. Assumes nothing.
use Rattle.std.specs.Prelude.{◌≡◌, Bool, true, false, cond, List, [], ◌∷◌, ◌++◌, ℕ, ◌≤◌, length, get_or}
use Rattle.constraint.specs.Constraint.{In}
use Rattle.mem_words.specs.declared.Word.{Word}
use Rattle.mem_words.specs.declared.Word.TheVariants.{End, Free, Level, Num, Place, Inner, Bad}
use Rattle.mem_parts.specs.Parts.{Outside}
use Rattle.solve_fields.specs.Read.{var_of, is_var}
use Rattle.work_tables.specs.Tables.{locals_of}
use Rattle.rule_words.specs.Pieces.{cut}
use Rattle.rule_effects.specs.Effects.{behind}
use Rattle.rule_ranges.specs.Ranges.{opens_locals, locals_in}

-- is a variable behind the word a local, where b says whether it is one in the word's place?
abbrev pub inside : Bool → Word → Bool
inside b End = false
inside b (Free v) = b
inside b (Level v) = false
inside b (Num v) = false
inside b (Place k) = false
inside b (Inner s) = opens_locals s
inside b Bad = false

-- the word's own, if it is one
abbrev pub here : Bool → Word → List ℕ
here true x = cond (is_var x) (var_of x ∷ []) []
here false x = []

-- the variables vs have the mark v, and all others the one that they had
pub record Given (L vs : List ℕ) (v : ℕ) (X : List ℕ) : Type 0 where
  pub inside : (x : ℕ) → In x vs → get_or (locals_of X) x 0 ≡ v
  pub others : (x : ℕ) → (In x vs → ⊥) → get_or (locals_of X) x 0 ≡ get_or (locals_of L) x 0
  pub rest : Outside 335872 401408 L X

-- the word's variable got it
pub record Adds (L : List ℕ) (b : Bool) (x : Word) (v : ℕ) (X : List ℕ) : Type 0 where
  pub more : (A vs : List ℕ) → Given A vs v L → Given A (vs ++ here b x) v X
  pub rest : Outside 335872 401408 L X

-- the words of the goal at g stand up to e
pub record EndsAt (W : List Word) (g e : ℕ) : Type 0 where
  pub same : cut g (behind W g) W ≡ cut g e W
  pub end : e ≤ length W

-- on the way, at j: the locals vs of the words before it have the mark
pub record Marked (W : List Word) (g e v : ℕ) (A X : List ℕ) (j : ℕ) (b : Bool) : Type 0 where
  pub vs : List ℕ
  pub split : vs ++ locals_in b (cut j e W) ≡ locals_in false (cut g e W)
  pub given : Given A vs v X
