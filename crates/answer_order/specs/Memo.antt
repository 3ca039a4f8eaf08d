-- What is known of the lengths of texts while some classes were met: s has them, G an entry for each application. Assumes nothing.
use Rattle.std.specs.Prelude.{◌≡◌, List, ℕ, suc, ◌/◌, ◌%◌, get_or}
use Rattle.akl.specs.Answers.{Term}
use Rattle.runs.proofs.Shows.{Seen}
use Rattle.solve_explores.specs.Search.{cell_of}
use Rattle.answer_text.specs.Lengths.{term_length, cap}
use Rattle.answer_walk.specs.Numbered.{Numbered}

-- all unknowns of a term were met, so that its text is what it will be; its entry e is one more than its length, counted no
-- further than m
pub record Measured (t : Term) (s : List ℕ) (m e : ℕ) : Type 0 where
  pub seen : Seen t s
  pub is : e ≡ suc (cap m (term_length t s))

-- so for each variable whose application has an entry that is not 0
pub record Memo (f : ℕ → Term) (T G s : List ℕ) (m : ℕ) : Type 0 where
  pub right : (x : ℕ) → cell_of T x % 4 ≡ 2 → (get_or G (cell_of T x / 256) 0 ≡ 0 → ⊥) → Measured (f x) s m (get_or G (cell_of T x / 256) 0)

-- x is done: its unknowns were met, and if it is bound its application's length is known
pub record Done (f : ℕ → Term) (T G s : List ℕ) (x : ℕ) : Type 0 where
  pub seen : Seen (f x) s
  pub known : cell_of T x % 4 ≡ 2 → get_or G (cell_of T x / 256) 0 ≡ 0 → ⊥

-- M has the numbers of s, and G the lengths that are known
pub record Met (f : ℕ → Term) (T M G : List ℕ) (c m : ℕ) (s : List ℕ) : Type 0 where
  pub numbers : Numbered M s c 65535
  pub memo : Memo f T G s m
