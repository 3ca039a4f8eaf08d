-- The lengths are those of the texts. Assumes nothing.
use mathlib.Core.Path.{◌≡◌, refl, ap, sym, ◌∙◌}
use mathlib.Core.List.{List, [], ◌∷◌, ◌++◌}
use mathlib.Core.Bool.{Bool, true, false}
use Prim.Native.Nat.{ℕ, suc, ◌+◌, ◌≤◌, ◌<◌}
use native.Mathlib.Omega.{arith}
use lib.ListN.{length, length-append}
use lib.Dec.{ltb}
use borrow.Author.Tests.{ltb-true, ltb-false}
use Rattle.akl.specs.Base.{Name, bytes, bytes_from, decimal, size, if, refused, ok}
use Rattle.akl.specs.Answers.{Term, unbound, built, Terms, no_terms, more_terms, unknowns_all, position, term_text, arguments_text, rest_text, bindings_text, line_text, fitted}
use Rattle.answer_text.specs.Lengths.{term_length, arguments_length, rest_length, bindings_length, line_length, cap}
use Rattle.answer_text.proofs.Caps.{cap_over, cap_full}

pub size_length : {A : Type 0} (l : List A) → size l ≡ length l
unfolding size
size_length [] = refl
size_length (x ∷ l) = ap suc (size_length l)

two : (a b : List ℕ) → length (a ++ b) ≡ length a + length b
two a b = length-append a b

mutual
  unfolding term_length term_text bytes bytes_from

  pub term_length_text : (t : Term) (seen : List ℕ) → term_length t seen ≡ length (term_text t seen)
  term_length_text (unbound r) seen = omega (arith, two (bytes "_") (decimal (position r seen)))
  term_length_text (built f ts) seen = omega (arith, two f (arguments_text ts seen), arguments_length_text ts seen)

  pub arguments_length_text : (ts : Terms) (seen : List ℕ) → arguments_length ts seen ≡ length (arguments_text ts seen)
  arguments_length_text no_terms seen = refl
  arguments_length_text (more_terms t ts) seen = omega (arith, two (bytes "(") (term_text t seen ++ rest_text ts seen), two (term_text t seen) (rest_text ts seen), term_length_text t seen, rest_length_text ts seen)

  pub rest_length_text : (ts : Terms) (seen : List ℕ) → rest_length ts seen ≡ length (rest_text ts seen)
  rest_length_text no_terms seen = refl
  rest_length_text (more_terms t ts) seen = omega (arith, two (bytes ",") (term_text t seen ++ rest_text ts seen), two (term_text t seen) (rest_text ts seen), term_length_text t seen, rest_length_text ts seen)

pub bindings_length_text : (xs : List Name) (ts : Terms) (seen : List ℕ) → bindings_length xs ts seen ≡ length (bindings_text xs ts seen)
unfolding bindings_length bindings_text bytes bytes_from
bindings_length_text [] ts seen = refl
bindings_length_text (x ∷ []) no_terms seen = refl
bindings_length_text (x ∷ (y ∷ xs)) no_terms seen = refl
bindings_length_text (x ∷ []) (more_terms t ts) seen = omega (arith, two (x ++ bytes " = ") (term_text t seen), two x (bytes " = "), term_length_text t seen)
bindings_length_text (x ∷ (y ∷ xs)) (more_terms t ts) seen =
    let r = bindings_text (y ∷ xs) ts seen in
    omega (arith, two (x ++ bytes " = " ++ term_text t seen ++ bytes ", ") r, two (x ++ bytes " = " ++ term_text t seen) (bytes ", "), two (x ++ bytes " = ") (term_text t seen), two x (bytes " = "), term_length_text t seen, bindings_length_text (y ∷ xs) ts seen)

pub line_length_text : (xs : List Name) (ts : Terms) → line_length xs ts ≡ length (line_text xs ts)
unfolding bytes bytes_from
line_length_text [] ts = refl
line_length_text (x ∷ xs) ts = bindings_length_text (x ∷ xs) ts (unknowns_all ts [])

-- the outcome of asking for a text, by its counted length
module _ (m : ℕ) (xs : List Name) (ts : Terms) where
  line_size : size (line_text xs ts) ≡ line_length xs ts
  line_size = size_length (line_text xs ts) ∙ sym (line_length_text xs ts)

  pub fitted_over : m < cap m (line_length xs ts) → fitted m (line_text xs ts) ≡ refused 17
  fitted_over h = go (ltb m (size (line_text xs ts))) refl
    where
      go : (b : Bool) → ltb m (size (line_text xs ts)) ≡ b → if b (refused 17) (ok (line_text xs ts)) ≡ refused 17
      go true e = refl
      go false e = absurd (omega (arith, line_size, (cap_over m (line_length xs ts)).0 h, ltb-false m (size (line_text xs ts)) e))

  pub fitted_ok : cap m (line_length xs ts) ≤ m → fitted m (line_text xs ts) ≡ ok (line_text xs ts)
  fitted_ok h = go (ltb m (size (line_text xs ts))) refl
    where
      go : (b : Bool) → ltb m (size (line_text xs ts)) ≡ b → if b (refused 17) (ok (line_text xs ts)) ≡ ok (line_text xs ts)
      go true e = absurd (omega (arith, line_size, cap_full m (line_length xs ts) h, ltb-true m (size (line_text xs ts)) e))
      go false e = refl
