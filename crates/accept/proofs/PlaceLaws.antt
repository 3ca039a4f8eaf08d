-- Places: what is at a place, with its context, is the configuration; the p-th place has the number p; and every node in
-- its context has a place.
use mathlib.Core.Path.{◌≡◌, refl, ap, sym, ◌∙◌, subst}
use mathlib.Core.Logic.{◌↔◌, ◌⊎◌, inl, inr}
use mathlib.Core.List.{List, [], ◌∷◌, ◌++◌}
use mathlib.Core.Option.{Option, some, none, some-injective}
use Prim.Native.Nat.{ℕ, zero, suc, ◌+◌, ◌≤◌, ◌<◌}
use native.Mathlib.Omega.{arith}
use native.Mathlib.Nat.{zero-add, add-zero}
use Rattle.constraint.specs.Constraint.{Store}
use Rattle.akl.specs.Base.{nth, size}
use Rattle.akl.specs.Syntax.{Op, Stmt}
use Rattle.akl.specs.Configuration.{Kind, goal, member, guarded, Node, or, and, stmt, choice_box, guard, Nodes, nil, cons, ◌+n◌, one, Ctx, top, in_or, in_and, in_choice, in_guard, plug, Config}
use Rattle.akl.specs.Places.{Place, at, places, places_all, place, count, counts, place_number}
use Rattle.theory.proofs.Locals.{size_append}
use Rattle.accept.proofs.EffectSound.{whole}

-- ---------------------------------------------------------------------------------------------
-- Lists.

pub no_place : {A : Type 0} (x : A) → ◌≡◌ {A = Option A} none (some x) → ⊥
no_place x q = let z : ◌≡◌ {A = ℕ} 0 1 = cc in omega arith

pub nth_split : {A : Type 0} (a b : List A) (p : ℕ) (x : A) → nth (a ++ b) p ≡ some x → (nth a p ≡ some x) ⊎ ((j : ℕ) × (p ≡ size a + j) × (nth b j ≡ some x))
unfolding nth size
nth_split [] b p x e = inr (p, omega arith, e)
nth_split (y ∷ a) b zero x e = inl e
nth_split (y ∷ a) b (suc p) x e = elim (nth_split a b p x e) [ inl h ↦ inl h | inr w ↦ inr (w.0, omega (arith, w.1), w.2) ]

nth_left : {A : Type 0} (a b : List A) (p : ℕ) (x : A) → nth a p ≡ some x → nth (a ++ b) p ≡ some x
unfolding nth
nth_left [] b p x e = absurd (no_place x e)
nth_left (y ∷ a) b zero x e = e
nth_left (y ∷ a) b (suc p) x e = nth_left a b p x e

nth_right : {A : Type 0} (a b : List A) (p : ℕ) → nth (a ++ b) (size a + p) ≡ nth b p
unfolding nth size
nth_right [] b p = ap (nth b) (zero-add p)
nth_right (y ∷ a) b p = ap (nth (y ∷ (a ++ b))) shift ∙ nth_right a b p
  where
    shift : suc (size a) + p ≡ suc (size a + p)
    shift = omega arith

append_one : {k : Kind} (l : Nodes k) (n : Node k) (r : Nodes k) → (l +n one n) +n r ≡ l +n cons n r
unfolding ◌+n◌
append_one nil n r = refl
append_one (cons m l) n r = ap (cons m) (append_one l n r)

append_none : {k : Kind} (l : Nodes k) → l +n nil ≡ l
unfolding ◌+n◌
append_none nil = refl
append_none (cons m l) = ap (cons m) (append_none l)

pub counts_append : {k : Kind} (a b : Nodes k) → counts (a +n b) ≡ counts a + counts b
unfolding ◌+n◌ count
counts_append nil b = omega arith
counts_append (cons n a) b = omega (arith, counts_append a b)

-- ---------------------------------------------------------------------------------------------
-- As many as are counted.

mutual
  unfolding places count size

  pub size_places : {k : Kind} (n : Node k) (χ : Ctx k) → size (places n χ) ≡ count n
  size_places (or ns) χ = ap suc (size_all ns (in_or χ) nil)
  size_places (and vs σ ms) χ = ap suc (size_all ms (in_and χ vs σ) nil)
  size_places (stmt s) χ = refl
  size_places (choice_box op gs) χ = ap suc (size_all gs (in_choice χ op) nil)
  size_places (guard g b) χ = ap suc (size_places g (in_guard χ b))

  size_all : {k : Kind} (ns : Nodes k) (around : Nodes k → Nodes k → Ctx k) (l : Nodes k) → size (places_all ns around l) ≡ counts ns
  size_all nil around l = refl
  size_all (cons n ns) around l = size_append (places n (around l ns)) (places_all ns around (l +n one n)) ∙ (λ i. size_places n (around l ns) i + size_all ns around (l +n one n) i)

-- ---------------------------------------------------------------------------------------------
-- The whole, and the number.

number : Place → ℕ
number (at χ n) = place_number χ

-- n in the context χ: the p-th of its places makes the same whole, and is p on from it
abbrev Right : Node goal → ℕ → ℕ → Place → Type 0
Right g b p pl = (whole pl ≡ g) × (number pl ≡ b + p)

module _ where
  here : (g : Node goal) (b : ℕ) (x pl : Place) → whole x ≡ g → number x ≡ b → x ≡ pl → Right g b 0 pl
  unfolding number
  here g b x pl e f q = (ap whole (sym q) ∙ e, ap number (sym q) ∙ f ∙ sym (add-zero b))

  on : (g : Node goal) (b p : ℕ) (pl : Place) → Right g (suc b) p pl → Right g b (suc p) pl
  on g b p pl r = (r.0, r.1 ∙ shift)
    where
      shift : suc b + p ≡ b + suc p
      shift = omega arith

  on_from : (g : Node goal) (b p : ℕ) (pl : Place) → Right g (suc b + 0) p pl → Right g b (suc p) pl
  on_from g b p pl r = (r.0, r.1 ∙ shift)
    where
      shift : suc b + 0 + p ≡ b + suc p
      shift = omega arith

  suc_plus : (a b : ℕ) → suc (a + b) ≡ suc a + b
  suc_plus a b = omega arith

  later : {k : Kind} (b : ℕ) (l : Nodes k) (n : Node k) (p j s : ℕ) → s ≡ count n → p ≡ s + j → b + counts (l +n one n) + j ≡ b + counts l + p
  unfolding count
  later b l n p j s e f = omega (arith, counts_append l (one n))

  mutual
    unfolding places nth plug number place_number count ◌+n◌

    right_at : {k : Kind} (n : Node k) (χ : Ctx k) (p : ℕ) (pl : Place) → nth (places n χ) p ≡ some pl → Right (plug χ n) (place_number χ) p pl
    right_at (or ns) χ zero pl e = here (plug χ (or ns)) (place_number χ) (at χ (or ns)) pl refl refl (some-injective (at χ (or ns)) pl e)
    right_at (or ns) χ (suc p) pl e = on_from (plug χ (or ns)) (place_number χ) p pl (right_all ns (in_or χ) (λ ms. plug χ (or ms)) (suc (place_number χ)) (λ l r m. refl) (λ l r. suc_plus (place_number χ) (counts l)) nil p pl e)
    right_at (and vs σ ms) χ zero pl e = here (plug χ (and vs σ ms)) (place_number χ) (at χ (and vs σ ms)) pl refl refl (some-injective (at χ (and vs σ ms)) pl e)
    right_at (and vs σ ms) χ (suc p) pl e = on_from (plug χ (and vs σ ms)) (place_number χ) p pl (right_all ms (in_and χ vs σ) (λ ns. plug χ (and vs σ ns)) (suc (place_number χ)) (λ l r m. refl) (λ l r. suc_plus (place_number χ) (counts l)) nil p pl e)
    right_at (stmt s) χ zero pl e = here (plug χ (stmt s)) (place_number χ) (at χ (stmt s)) pl refl refl (some-injective (at χ (stmt s)) pl e)
    right_at (stmt s) χ (suc p) pl e = absurd (no_place pl e)
    right_at (choice_box op gs) χ zero pl e = here (plug χ (choice_box op gs)) (place_number χ) (at χ (choice_box op gs)) pl refl refl (some-injective (at χ (choice_box op gs)) pl e)
    right_at (choice_box op gs) χ (suc p) pl e = on_from (plug χ (choice_box op gs)) (place_number χ) p pl (right_all gs (in_choice χ op) (λ ns. plug χ (choice_box op ns)) (suc (place_number χ)) (λ l r m. refl) (λ l r. suc_plus (place_number χ) (counts l)) nil p pl e)
    right_at (guard g b) χ zero pl e = here (plug χ (guard g b)) (place_number χ) (at χ (guard g b)) pl refl refl (some-injective (at χ (guard g b)) pl e)
    right_at (guard g b) χ (suc p) pl e = on (plug χ (guard g b)) (place_number χ) p pl (right_at g (in_guard χ b) p pl e)

    right_all : {k : Kind} (ns : Nodes k) (around : Nodes k → Nodes k → Ctx k) (W : Nodes k → Node goal) (b : ℕ) → ((l r : Nodes k) (m : Node k) → plug (around l r) m ≡ W (l +n cons m r)) → ((l r : Nodes k) → place_number (around l r) ≡ b + counts l) → (l : Nodes k) (p : ℕ) (pl : Place) → nth (places_all ns around l) p ≡ some pl → Right (W (l +n ns)) (b + counts l) p pl
    right_all nil around W b hW hb l p pl e = absurd (no_place pl e)
    right_all (cons n ns) around W b hW hb l p pl e = elim (nth_split (places n (around l ns)) (places_all ns around (l +n one n)) p pl e) [ inl h ↦ ((right_at n (around l ns) p pl h).0 ∙ hW l ns n, (right_at n (around l ns) p pl h).1 ∙ ap (λ j. j + p) (hb l ns)) | inr w ↦ ((right_all ns around W b hW hb (l +n one n) w.0 pl w.2).0 ∙ ap W (append_one l n ns), (right_all ns around W b hW hb (l +n one n) w.0 pl w.2).1 ∙ later b l n p w.0 (size (places n (around l ns))) (size_places n (around l ns)) w.1) ]

pub place_whole : (c : Config) (p : ℕ) (pl : Place) → place c p ≡ some pl → whole pl ≡ c.root
unfolding place plug
place_whole c p pl e = (right_at c.root top p pl e).0

pub place_numbered : {k : Kind} (c : Config) (p : ℕ) (χ : Ctx k) (n : Node k) → place c p ≡ some (at χ n) → place_number χ ≡ p
unfolding place number place_number
place_numbered c p χ n e = (right_at c.root top p (at χ n) e).1 ∙ zero-add p

-- ---------------------------------------------------------------------------------------------
-- Every node in its context has a place.

-- M stands in L from position b on
abbrev Block : List Place → ℕ → List Place → Type 0
Block L b M = (j : ℕ) (x : Place) → nth M j ≡ some x → nth L (b + j) ≡ some x

block_then : (L M K : List Place) (a b : ℕ) → Block L a M → Block M b K → Block L (a + b) K
block_then L M K a b f g j x e = subst (λ i. nth L i ≡ some x) (sym shift) (f (b + j) x (g j x e))
  where
    shift : a + b + j ≡ a + (b + j)
    shift = omega arith

module _ {k : Kind} (around : Nodes k → Nodes k → Ctx k) (n : Node k) (r : Nodes k) where
  block_all : (l l₀ : Nodes k) → Block (places_all (l +n cons n r) around l₀) (counts l) (places n (around (l₀ +n l) r))
  unfolding places count ◌+n◌
  block_all nil l₀ j x e = subst (λ i. nth (places n (around l₀ r) ++ places_all r around (l₀ +n one n)) i ≡ some x) (sym (zero-add j)) (nth_left (places n (around l₀ r)) (places_all r around (l₀ +n one n)) j x (subst (λ l. nth (places n (around l r)) j ≡ some x) (append_none l₀) e))
  block_all (cons m l) l₀ j x e =
      let a = places m (around l₀ (l +n cons n r)) in
      let b = places_all (l +n cons n r) around (l₀ +n one m) in
      let h = block_all l (l₀ +n one m) j x (subst (λ c. nth (places n (around c r)) j ≡ some x) (sym (append_one l₀ m l)) e) in
      subst (λ i. nth (a ++ b) i ≡ some x) (shift (size a) (size_places m (around l₀ (l +n cons n r)))) (nth_right a b (counts l + j) ∙ h)
    where
      shift : (s : ℕ) → s ≡ count m → s + (counts l + j) ≡ count m + counts l + j
      shift s q = omega arith

-- behind the box itself
behind : (x : Place) (L M : List Place) (b : ℕ) → Block L b M → Block (x ∷ L) (suc b) M
unfolding nth
behind x L M b f j y e = subst (λ i. nth (x ∷ L) i ≡ some y) (sym shift) (f j y e)
  where
    shift : suc b + j ≡ suc (b + j)
    shift = omega arith

deeper : {i j : Kind} (χ : Ctx i) (m : Node i) (χ' : Ctx j) (n : Node j) (b : ℕ) → Block (places (plug χ m) top) (place_number χ) (places m χ) → Block (places m χ) (suc b) (places n χ') → Block (places (plug χ m) top) (suc (place_number χ + b)) (places n χ')
deeper χ m χ' n b f g = subst (λ p. Block (places (plug χ m) top) p (places n χ')) shift (block_then (places (plug χ m) top) (places m χ) (places n χ') (place_number χ) (suc b) f g)
  where
    shift : place_number χ + suc b ≡ suc (place_number χ + b)
    shift = omega arith

pub block_context : {k : Kind} (χ : Ctx k) (n : Node k) → Block (places (plug χ n) top) (place_number χ) (places n χ)
unfolding plug place_number places ◌+n◌
block_context top n = λ j x e. subst (λ i. nth (places n top) i ≡ some x) (sym (zero-add j)) e
block_context (in_or χ l r) n = deeper χ (or (l +n cons n r)) (in_or χ l r) n (counts l) (block_context χ (or (l +n cons n r))) (behind (at χ (or (l +n cons n r))) (places_all (l +n cons n r) (in_or χ) nil) (places n (in_or χ l r)) (counts l) (block_all (in_or χ) n r l nil))
block_context (in_and χ vs σ l r) n = deeper χ (and vs σ (l +n cons n r)) (in_and χ vs σ l r) n (counts l) (block_context χ (and vs σ (l +n cons n r))) (behind (at χ (and vs σ (l +n cons n r))) (places_all (l +n cons n r) (in_and χ vs σ) nil) (places n (in_and χ vs σ l r)) (counts l) (block_all (in_and χ vs σ) n r l nil))
block_context (in_choice χ op l r) n = deeper χ (choice_box op (l +n cons n r)) (in_choice χ op l r) n (counts l) (block_context χ (choice_box op (l +n cons n r))) (behind (at χ (choice_box op (l +n cons n r))) (places_all (l +n cons n r) (in_choice χ op) nil) (places n (in_choice χ op l r)) (counts l) (block_all (in_choice χ op) n r l nil))
block_context (in_guard χ b) n = subst (λ p. Block (places (plug χ (guard n b)) top) (suc p) (places n (in_guard χ b))) (add-zero (place_number χ)) (deeper χ (guard n b) (in_guard χ b) n 0 (block_context χ (guard n b)) (behind (at χ (guard n b)) (places n (in_guard χ b)) (places n (in_guard χ b)) 0 (λ j x e. subst (λ i. nth (places n (in_guard χ b)) i ≡ some x) (sym (zero-add j)) e)))

first_place : {k : Kind} (n : Node k) (χ : Ctx k) → nth (places n χ) 0 ≡ some (at χ n)
unfolding places nth
first_place (or ns) χ = refl
first_place (and vs σ ms) χ = refl
first_place (stmt s) χ = refl
first_place (choice_box op gs) χ = refl
first_place (guard g b) χ = refl

pub place_of : {k : Kind} (χ : Ctx k) (n : Node k) (c : Config) → plug χ n ≡ c.root → place c (place_number χ) ≡ some (at χ n)
unfolding place
place_of χ n c e = subst (λ g. nth (places g top) (place_number χ) ≡ some (at χ n)) e (subst (λ i. nth (places (plug χ n) top) i ≡ some (at χ n)) (add-zero (place_number χ)) (block_context χ n 0 (at χ n) (first_place n χ)))
