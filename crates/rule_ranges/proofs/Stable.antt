-- The stores that a stable goal is asked of, place by place.
use mathlib.Core.Path.{◌≡◌, refl, ap, ap₂, ◌∙◌}
use mathlib.Core.Bool.{Bool, true, false, ◌&&◌}
use mathlib.Core.List.{List, [], ◌∷◌, ◌++◌, map}
use Prim.Native.Nat.{ℕ}
use Rattle.constraint.specs.Constraint.{Store, Fresh}
use Rattle.constraint.specs.Solve.{quiet?}
use Rattle.constraint.proofs.Entail.{sats_append}
use Rattle.constraint.proofs.Renamed.{quiet_iff}
use Rattle.akl.specs.Base.{all, flat}
use Rattle.akl.specs.Configuration.{Kind, Node, Ctx, env}
use Rattle.akl.specs.Places.{places}
use Rattle.akl.specs.Stability.{locals, stores_down}
use Rattle.accept.specs.AtPlaces.{stores_at}
use Rattle.accept.proofs.StoresDown.{stores_are}
use Rattle.rule_ranges.proofs.Alike.{alike_same, answered, same_quiet}

and_through : (a b c : Bool) → a && (b && c) ≡ (a && b) && c
and_through true b c = refl
and_through false b c = refl

all_append : {A : Type 0} (p : A → Bool) (a b : List A) → all p (a ++ b) ≡ all p a && all p b
unfolding all
all_append p [] b = refl
all_append p (x ∷ a) b = ap (λ (t : Bool). p x && t) (all_append p a b) ∙ and_through (p x) (all p a) (all p b)

all_flat : {A B : Type 0} (p : B → Bool) (f : A → List B) (l : List A) → all p (flat f l) ≡ all (λ x. all p (f x)) l
unfolding all flat
all_flat p f [] = refl
all_flat p f (x ∷ l) = all_append p (f x) (flat f l) ∙ ap (λ (t : Bool). all p (f x) && t) (all_flat p f l)

all_map : {A B : Type 0} (p : A → Bool) (q : B → Bool) (f : A → B) → ((x : A) → p x ≡ q (f x)) → (l : List A) → all p l ≡ all q (map f l)
unfolding all
all_map p q f h [] = refl
all_map p q f h (x ∷ l) = ap₂ (λ (a b : Bool). a && b) (h x) (all_map p q f h l)

-- the environment may be told with the store, where the locals are not in it
pub quiet_with : (vs : List ℕ) (e θ : Store) → Fresh vs e → quiet? vs e θ ≡ quiet? vs e (e ++ θ)
quiet_with vs e θ f = same_quiet vs θ (e ++ θ) (alike_same refl) (λ ρ s. (λ t. (sats_append ρ e θ).1 (s, t), λ t. ((sats_append ρ e θ).0 t).1)) f (answered (quiet? vs e θ) (quiet_iff vs e θ))

-- every and-box at or inside the goal
pub stable_stores : {k : Kind} (n : Node k) (χ : Ctx k) → Fresh (locals n) (env χ) → all (quiet? (locals n) (env χ)) (stores_down n []) ≡ all (λ pl. all (quiet? (locals n) (env χ)) (stores_at pl)) (places n χ)
stable_stores n χ f =
    all_map (quiet? (locals n) (env χ)) (quiet? (locals n) (env χ)) (λ θ. env χ ++ θ) (λ θ. quiet_with (locals n) (env χ) θ f) (stores_down n [])
    ∙ ap (all (quiet? (locals n) (env χ))) (stores_are n χ)
    ∙ all_flat (quiet? (locals n) (env χ)) stores_at (places n χ)
