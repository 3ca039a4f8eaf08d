-- One law for each turn of the traversal: the text so far and what is to come stay the whole text. Assumes nothing.
use mathlib.Core.Path.{◌≡◌, refl, ap, sym, ◌∙◌, subst}
use mathlib.Core.List.{List, [], ◌∷◌, ◌++◌, append_assoc, append-nil}
use Prim.Native.Nat.{ℕ, ◌+◌, ◌<◌}
use native.Mathlib.Omega.{arith}
use Rattle.constraint.specs.Tree.{Label}
use Rattle.akl.specs.Base.{bytes, bytes_from, decimal}
use Rattle.akl.specs.Answers.{Term, unbound, built, more_terms, terms, unknowns, position, term_text, rest_text}
use Rattle.answer_walk.specs.Walk.{rest_of, met, Going, Back, nodes, turns}
use Rattle.answer_walk.proofs.Prefix.{Grows, met_grow, text_then}

spelled : (r : ℕ) (u : List ℕ) → term_text (unbound r) u ≡ bytes "_" ++ decimal (position r u)
unfolding term_text
spelled r u = refl

module _ (f : ℕ → Term) where
  -- a term, with no frames: its unknowns are the final ones
  pub begin : (x : ℕ) (s : List ℕ) → Going f x [] s (unknowns (f x) s) [] (term_text (f x) (unknowns (f x) s))
  unfolding rest_of met
  begin x s = record { text = append-nil _; seen = refl }

  -- an unbound class: `_` and its number among those that were met, itself included
  pub turn_unbound : {x : ℕ} {fs : List (List ℕ)} {s F D A : List ℕ} (r : ℕ) → f x ≡ unbound r → Going f x fs s F D A → Back f fs (unknowns (unbound r) s) F (D ++ (bytes "_" ++ decimal (position r (unknowns (unbound r) s)))) A
  turn_unbound {x} {fs} {s} {F} {D} {A} r e g = record { text = append_assoc D t (rest_of f fs F) ∙ ap (λ (z : List ℕ). D ++ (z ++ rest_of f fs F)) (sym same) ∙ g.text; seen = seen }
    where
      u : List ℕ
      u = unknowns (unbound r) s

      t : List ℕ
      t = bytes "_" ++ decimal (position r u)

      seen : met f fs u ≡ F
      seen = ap (λ (z : Term). met f fs (unknowns z s)) (sym e) ∙ g.seen

      same : term_text (f x) F ≡ t
      same = ap (λ (z : Term). term_text z F) e ∙ text_then (unbound r) s F (subst (Grows u) seen (met_grow f fs u)) ∙ spelled r u

  -- an application without arguments: its label
  pub turn_label : {x : ℕ} {fs : List (List ℕ)} {s F D A : List ℕ} (g : Label) → f x ≡ built g (terms f []) → Going f x fs s F D A → Back f fs s F (D ++ g) A
  unfolding term_text unknowns terms
  turn_label {x} {fs} {s} {F} {D} {A} g e h = record {
    text = append_assoc D g (rest_of f fs F) ∙ ap (λ (z : List ℕ). D ++ (z ++ rest_of f fs F)) (sym (append-nil g) ∙ ap (λ (z : Term). term_text z F) (sym e)) ∙ h.text;
    seen = ap (λ (z : Term). met f fs (unknowns z s)) (sym e) ∙ h.seen;
  }

  -- with arguments: its label and `(`, and its first argument is next
  pub turn_open : {x : ℕ} {fs : List (List ℕ)} {s F D A : List ℕ} (g : Label) (y : ℕ) (ys : List ℕ) → f x ≡ built g (terms f (y ∷ ys)) → Going f x fs s F D A → Going f y (ys ∷ fs) s F (D ++ (g ++ bytes "(")) A
  unfolding term_text unknowns terms rest_of met bytes bytes_from
  turn_open {x} {fs} {s} {F} {D} {A} g y ys e h = record {
    text = append_assoc D (g ++ b) (t ++ (r ++ q)) ∙ ap (λ (z : List ℕ). D ++ z) (append_assoc g b (t ++ (r ++ q)) ∙ ap (λ (z : List ℕ). g ++ (b ++ z)) (sym (append_assoc t r q)) ∙ ap (λ (z : List ℕ). g ++ z) (sym (append_assoc b (t ++ r) q)) ∙ sym (append_assoc g (b ++ (t ++ r)) q)) ∙ ap (λ (z : Term). D ++ (term_text z F ++ q)) (sym e) ∙ h.text;
    seen = ap (λ (z : Term). met f fs (unknowns z s)) (sym e) ∙ h.seen;
  }
    where
      b : List ℕ
      b = bytes "("

      t : List ℕ
      t = term_text (f y) F

      r : List ℕ
      r = rest_text (terms f ys) F

      q : List ℕ
      q = rest_of f fs F

  -- another argument: `,`
  pub turn_comma : {y : ℕ} {ys : List ℕ} {fs : List (List ℕ)} {s F D A : List ℕ} → Back f ((y ∷ ys) ∷ fs) s F D A → Going f y (ys ∷ fs) s F (D ++ bytes ",") A
  unfolding term_text unknowns terms rest_of met bytes bytes_from
  turn_comma {y} {ys} {fs} {s} {F} {D} {A} h = record {
    text = append_assoc D b (t ++ (r ++ q)) ∙ ap (λ (z : List ℕ). D ++ (b ++ z)) (sym (append_assoc t r q)) ∙ ap (λ (z : List ℕ). D ++ z) (sym (append_assoc b (t ++ r) q)) ∙ h.text;
    seen = h.seen;
  }
    where
      b : List ℕ
      b = bytes ","

      t : List ℕ
      t = term_text (f y) F

      r : List ℕ
      r = rest_text (terms f ys) F

      q : List ℕ
      q = rest_of f fs F

  -- no argument left: `)`
  pub turn_close : {fs : List (List ℕ)} {s F D A : List ℕ} → Back f ([] ∷ fs) s F D A → Back f fs s F (D ++ bytes ")") A
  unfolding term_text unknowns terms rest_of met
  turn_close {fs} {s} {F} {D} {A} h = record { text = append_assoc D (bytes ")") (rest_of f fs F) ∙ h.text; seen = h.seen }

  -- no frame left: all is written
  pub done_text : {s F D A : List ℕ} → Back f [] s F D A → D ≡ A
  unfolding rest_of
  done_text {s} {F} {D} {A} h = sym (append-nil D) ∙ h.text

  pub done_seen : {s F D A : List ℕ} → Back f [] s F D A → s ≡ F
  unfolding met
  done_seen h = h.seen

  -- ---------------------------------------------------------------------------------------------
  -- Each turn leaves fewer.

  pub fewer_label : {x : ℕ} (fs : List (List ℕ)) (g : Label) → f x ≡ built g (terms f []) → turns f fs < nodes (f x) + turns f fs
  unfolding nodes terms
  fewer_label {x} fs g e = let n : nodes (f x) ≡ 2 = ap nodes e in omega arith

  pub fewer_unbound : {x : ℕ} (fs : List (List ℕ)) (r : ℕ) → f x ≡ unbound r → turns f fs < nodes (f x) + turns f fs
  unfolding nodes
  fewer_unbound {x} fs r e = let n : nodes (f x) ≡ 1 = ap nodes e in omega arith

  pub fewer_open : {x : ℕ} (fs : List (List ℕ)) (g : Label) (y : ℕ) (ys : List ℕ) → f x ≡ built g (terms f (y ∷ ys)) → nodes (f y) + turns f (ys ∷ fs) < nodes (f x) + turns f fs
  unfolding nodes terms turns
  fewer_open {x} fs g y ys e = let n : nodes (f x) ≡ nodes (built g (more_terms (f y) (terms f ys))) = ap nodes e in omega arith

  pub fewer_comma : (y : ℕ) (ys : List ℕ) (fs : List (List ℕ)) → nodes (f y) + turns f (ys ∷ fs) < turns f ((y ∷ ys) ∷ fs)
  unfolding nodes terms turns
  fewer_comma y ys fs = omega arith

  pub fewer_close : (fs : List (List ℕ)) → turns f fs < turns f ([] ∷ fs)
  unfolding nodes terms turns
  fewer_close fs = omega arith
