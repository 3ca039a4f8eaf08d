-- The stores from a goal down to each and-box in it, with the goal's environment before them, are the environment and the store of that
-- box; and all locals inside the goal are those of its and-boxes: in the order of the places.
use mathlib.Core.Path.{◌≡◌, refl, ap, sym, ◌∙◌}
use mathlib.Core.List.{List, [], ◌∷◌, ◌++◌, map, append_assoc, append-nil}
use Rattle.constraint.specs.Constraint.{Store}
use Rattle.akl.specs.Base.{flat}
use Rattle.akl.specs.Configuration.{Kind, Node, or, and, stmt, choice_box, guard, Nodes, nil, cons, ◌+n◌, one, Ctx, in_or, in_and, in_choice, in_guard, env}
use Rattle.akl.specs.Places.{places, places_all}
use Rattle.akl.specs.Stability.{locals, locals_all, stores_down, stores_down_all}
use Rattle.accept.specs.AtPlaces.{stores_at, locals_at}

map_append : (f : Store → Store) (a b : List Store) → map f (a ++ b) ≡ map f a ++ map f b
map_append f [] b = refl
map_append f (x ∷ a) b = ap (λ l. f x ∷ l) (map_append f a b)

flat_append : {A B : Type 0} (f : A → List B) (a b : List A) → flat f (a ++ b) ≡ flat f a ++ flat f b
unfolding flat
flat_append f [] b = refl
flat_append f (x ∷ a) b = ap (λ l. f x ++ l) (flat_append f a b) ∙ sym (append_assoc (f x) (flat f a) (flat f b))

-- ---------------------------------------------------------------------------------------------
-- Stores and locals, in the order of the places.

mutual
  unfolding places stores_down env flat

  -- e is stored around the goal, θ on the way down from it
  down_at : {k : Kind} (n : Node k) (χ : Ctx k) (e θ : Store) → env χ ≡ e ++ θ → map (λ τ. e ++ τ) (stores_down n θ) ≡ flat stores_at (places n χ)
  down_at (or ns) χ e θ h = down_all ns (in_or χ) e θ (λ l r. h) nil
  down_at (and vs σ ms) χ e θ h =
      let g : e ++ (θ ++ σ) ≡ env χ ++ σ = sym (append_assoc e θ σ) ∙ ap (λ (z : Store). z ++ σ) (sym h) in
      λ i. g i ∷ down_all ms (in_and χ vs σ) e (θ ++ σ) (λ l r. sym g) nil i
  down_at (stmt s) χ e θ h = refl
  down_at (choice_box op gs) χ e θ h = down_all gs (in_choice χ op) e θ (λ l r. h) nil
  down_at (guard g b) χ e θ h = down_at g (in_guard χ b) e θ h

  down_all : {k : Kind} (ns : Nodes k) (around : Nodes k → Nodes k → Ctx k) (e θ : Store) → ((l r : Nodes k) → env (around l r) ≡ e ++ θ) →
      (l : Nodes k) → map (λ τ. e ++ τ) (stores_down_all ns θ) ≡ flat stores_at (places_all ns around l)
  down_all nil around e θ h l = refl
  down_all (cons n ns) around e θ h l = map_append (λ τ. e ++ τ) (stores_down n θ) (stores_down_all ns θ) ∙ (λ i. down_at n (around l ns) e θ (h l ns) i ++ down_all ns around e θ h (l +n one n) i) ∙ sym (flat_append stores_at (places n (around l ns)) (places_all ns around (l +n one n)))

-- "the stores from the goal down to that box", with the goal's environment before them, are the box's environment and store.
pub stores_are : {k : Kind} (n : Node k) (χ : Ctx k) → map (λ θ. env χ ++ θ) (stores_down n []) ≡ flat stores_at (places n χ)
stores_are n χ = down_at n χ (env χ) [] (sym (append-nil (env χ)))

mutual
  unfolding places locals flat

  -- "all locals inside the goal"
  pub locals_are : {k : Kind} (n : Node k) (χ : Ctx k) → locals n ≡ flat locals_at (places n χ)
  locals_are (or ns) χ = locals_are_all ns (in_or χ) nil
  locals_are (and vs σ ms) χ = ap (λ l. vs ++ l) (locals_are_all ms (in_and χ vs σ) nil)
  locals_are (stmt s) χ = refl
  locals_are (choice_box op gs) χ = locals_are_all gs (in_choice χ op) nil
  locals_are (guard g b) χ = locals_are g (in_guard χ b)

  locals_are_all : {k : Kind} (ns : Nodes k) (around : Nodes k → Nodes k → Ctx k) (l : Nodes k) → locals_all ns ≡ flat locals_at (places_all ns around l)
  locals_are_all nil around l = refl
  locals_are_all (cons n ns) around l = (λ i. locals_are n (around l ns) i ++ locals_are_all ns around (l +n one n) i) ∙ sym (flat_append locals_at (places n (around l ns)) (places_all ns around (l +n one n)))
