-- The bindings of an answer, one after the other: what is still to come of the line. Assumes nothing.
use Rattle.std.specs.Prelude.{◌≡◌, List, ◌++◌, ℕ, suc}
use Rattle.akl.specs.Base.{Name, size, range}
use Rattle.akl.specs.Answers.{Term, Terms, terms, unknowns_all, bindings_text}

-- the terms of the variables from i on, one for each of the names ys
unfoldable pub terms_from : (ℕ → Term) → ℕ → List Name → Terms
terms_from f i ys = terms f (range i (size ys))

-- the variables from i on, with the names ys, are to be written; s was met, D is the text so far, A the whole of it
pub record Lining (f : ℕ → Term) (i : ℕ) (ys : List Name) (s D A : List ℕ) : Type 0 where
  pub text : D ++ bindings_text ys (terms_from f i ys) (unknowns_all (terms_from f i ys) s) ≡ A
