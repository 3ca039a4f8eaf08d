-- The text of a term piece by piece, before any text z that follows. Assumes nothing.
use mathlib.Core.Path.{◌≡◌, refl, ap, ◌∙◌}
use mathlib.Core.List.{List, [], ◌∷◌, ◌++◌, append_assoc, append-nil}
use Prim.Native.Nat.{ℕ, suc}
use Rattle.constraint.specs.Tree.{Label}
use Rattle.akl.specs.Base.{Name, bytes, bytes_from, decimal, size, range}
use Rattle.akl.specs.Answers.{Term, unbound, built, terms, position, term_text, arguments_text, rest_text, bindings_text}

three : (a b c z : List ℕ) → (a ++ (b ++ c)) ++ z ≡ a ++ (b ++ (c ++ z))
three a b c z = append_assoc a (b ++ c) z ∙ ap (λ (l : List ℕ). a ++ l) (append_assoc b c z)

four : (a b c d z : List ℕ) → a ++ b ++ c ++ d ++ z ≡ a ++ (b ++ (c ++ (d ++ z)))
four a b c d z = append_assoc (a ++ b ++ c) d z ∙ append_assoc (a ++ b) c (d ++ z) ∙ append_assoc a b (c ++ (d ++ z))

module _ (f : ℕ → Term) (seen : List ℕ) where
  pub text_unbound : (x r : ℕ) (z : List ℕ) → f x ≡ unbound r → term_text (f x) seen ++ z ≡ bytes "_" ++ (decimal (position r seen) ++ z)
  unfolding term_text
  text_unbound x r z e = ap (λ (t : Term). term_text t seen ++ z) e ∙ append_assoc (bytes "_") (decimal (position r seen)) z

  pub text_constant : (x : ℕ) (l : Label) (z : List ℕ) → f x ≡ built l (terms f []) → term_text (f x) seen ++ z ≡ l ++ z
  unfolding term_text terms
  text_constant x l z e = ap (λ (t : Term). term_text t seen ++ z) e ∙ ap (λ (k : List ℕ). k ++ z) (append-nil l)

  pub text_compound : (x y : ℕ) (l : Label) (ys z : List ℕ) → f x ≡ built l (terms f (y ∷ ys)) → term_text (f x) seen ++ z ≡ l ++ (bytes "(" ++ (term_text (f y) seen ++ (rest_text (terms f ys) seen ++ z)))
  unfolding term_text terms bytes bytes_from
  text_compound x y l ys z e = ap (λ (t : Term). term_text t seen ++ z) e ∙ append_assoc l (arguments_text (terms f (y ∷ ys)) seen) z ∙ ap (λ (k : List ℕ). l ++ k) (three (bytes "(") (term_text (f y) seen) (rest_text (terms f ys) seen) z)

  pub text_next : (y : ℕ) (ys z : List ℕ) → rest_text (terms f (y ∷ ys)) seen ++ z ≡ bytes "," ++ (term_text (f y) seen ++ (rest_text (terms f ys) seen ++ z))
  unfolding term_text terms bytes bytes_from
  text_next y ys z = three (bytes ",") (term_text (f y) seen) (rest_text (terms f ys) seen) z

  pub text_end : (z : List ℕ) → rest_text (terms f []) seen ++ z ≡ bytes ")" ++ z
  unfolding term_text terms
  text_end z = refl

  -- the variables of a query from n on
  abbrev pub left_text : List Name → ℕ → List ℕ
  left_text xs n = bindings_text xs (terms f (range n (size xs))) seen

  pub line_next : (n : ℕ) (x y : Name) (xs : List Name) → left_text (x ∷ (y ∷ xs)) n ≡ x ++ (bytes " = " ++ (term_text (f n) seen ++ (bytes ", " ++ left_text (y ∷ xs) (suc n))))
  unfolding bindings_text terms size range
  line_next n x y xs = four x (bytes " = ") (term_text (f n) seen) (bytes ", ") (left_text (y ∷ xs) (suc n))

  pub line_last : (n : ℕ) (x : Name) → left_text (x ∷ []) n ≡ x ++ (bytes " = " ++ term_text (f n) seen)
  unfolding bindings_text terms size range
  line_last n x = append_assoc x (bytes " = ") (term_text (f n) seen)
