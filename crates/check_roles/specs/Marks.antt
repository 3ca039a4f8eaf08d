-- The locals of an and-box marked one by one, and unmarked: F gives the number of each variable. Assumes nothing.
use Rattle.std.specs.Prelude.{◌≡◌, refl, List, [], ◌∷◌, Bool, true, false, ◌&&◌, ◌||◌, not, ℕ, ◌+◌, ◌*◌, ◌/◌, ◌%◌, eqb, get_or}
use Rattle.std.proofs.Common.{ap, ap₂, sym, ◌∙◌, arith, eq-eqb, ne_eqb, eqb-true}
use Rattle.std.proofs.lemmas.Bool.{eqb-false}
use Rattle.constraint.specs.Solve.{elem, distinct}
use Rattle.akl.specs.Base.{all, if}
use Rattle.check_roles.specs.Boxes.{newer, Marked}

-- F with v at x
abbrev pub upd : (ℕ → ℕ) → ℕ → ℕ → ℕ → ℕ
upd F x v y = if (eqb y x) v (F y)

abbrev pub is_marked : ℕ → Bool
is_marked v = eqb (v % 2) 1

-- no variable is marked yet where its turn comes, and the numbers when all are
unfoldable pub all_new : List ℕ → ℕ → ℕ → (ℕ → ℕ) → Bool
all_new [] l i F = true
all_new (x ∷ vs) l i F = not (is_marked (F x)) && all_new vs l i (upd F x (2 * newer l i (F x / 2) + 1))

unfoldable pub mark_all : List ℕ → ℕ → ℕ → (ℕ → ℕ) → ℕ → ℕ
mark_all [] l i F = F
mark_all (x ∷ vs) l i F = mark_all vs l i (upd F x (2 * newer l i (F x / 2) + 1))

unfoldable pub unmark_all : List ℕ → (ℕ → ℕ) → ℕ → ℕ
unmark_all [] F = F
unmark_all (x ∷ vs) F = unmark_all vs (upd F x (F x / 2 * 2))

upd_same : (F : ℕ → ℕ) (x v y : ℕ) → y ≡ x → upd F x v y ≡ v
upd_same F x v y e = ap (λ (b : Bool). if b v (F y)) (eq-eqb y x e)

upd_other : (F : ℕ → ℕ) (x v y : ℕ) → (y ≡ x → ⊥) → upd F x v y ≡ F y
upd_other F x v y n = ap (λ (b : Bool). if b v (F y)) (ne_eqb y x n)

odd : (g : ℕ) → is_marked (2 * g + 1) ≡ true
odd g = let e : (2 * g + 1) % 2 ≡ 1 = omega arith in eq-eqb ((2 * g + 1) % 2) 1 e

turn : (x y : ℕ) → eqb x y ≡ eqb y x
turn x y = go (eqb x y) refl
  where
    go : (b : Bool) → eqb x y ≡ b → eqb x y ≡ eqb y x
    go true q = q ∙ sym (eq-eqb y x (sym (eqb-true x y q)))
    go false q = q ∙ sym (ne_eqb y x (λ e. eqb-false x y q (sym e)))

-- those that are left are marked where one of them is x, or they were
left_new : (x g : ℕ) (F : ℕ → ℕ) (vs : List ℕ) → all (λ y. not (is_marked (upd F x (2 * g + 1) y))) vs ≡ (not (elem x vs) && all (λ y. not (is_marked (F y))) vs)
unfolding all elem
left_new x g F [] = refl
left_new x g F (y ∷ vs) = ap₂ (λ (a b : Bool). a && b) (one (eqb y x) refl) (left_new x g F vs) ∙ mix (eqb x y) (elem x vs) (not (is_marked (F y))) (all (λ z. not (is_marked (F z))) vs)
  where
    one : (b : Bool) → eqb y x ≡ b → not (is_marked (upd F x (2 * g + 1) y)) ≡ (not (eqb x y) && not (is_marked (F y)))
    one true e = ap (λ (v : ℕ). not (is_marked v)) (upd_same F x (2 * g + 1) y (eqb-true y x e)) ∙ ap not (odd g) ∙ sym (ap (λ (b : Bool). not b && not (is_marked (F y))) (turn x y ∙ e))
    one false e = ap (λ (v : ℕ). not (is_marked v)) (upd_other F x (2 * g + 1) y (eqb-false y x e)) ∙ sym (ap (λ (b : Bool). not b && not (is_marked (F y))) (turn x y ∙ e))

    mix : (a b c d : Bool) → ((not a && c) && (not b && d)) ≡ (not (a || b) && (c && d))
    mix true b c d = refl
    mix false true true d = refl
    mix false true false d = refl
    mix false false c d = refl

pub all_new_is : (vs : List ℕ) (l i : ℕ) (F : ℕ → ℕ) → all_new vs l i F ≡ (distinct vs && all (λ y. not (is_marked (F y))) vs)
unfolding all_new distinct all
all_new_is [] l i F = refl
all_new_is (x ∷ vs) l i F =
    ap (λ (t : Bool). not (is_marked (F x)) && t) (all_new_is vs l i (upd F x (2 * newer l i (F x / 2) + 1)) ∙ ap (λ (t : Bool). distinct vs && t) (left_new x (newer l i (F x / 2)) F vs))
    ∙ mix (not (is_marked (F x))) (distinct vs) (not (elem x vs)) (all (λ y. not (is_marked (F y))) vs)
  where
    mix : (a b c d : Bool) → (a && (b && (c && d))) ≡ ((c && b) && (a && d))
    mix true true true d = refl
    mix true true false d = refl
    mix true false true d = refl
    mix true false false d = refl
    mix false true true d = refl
    mix false true false d = refl
    mix false false true d = refl
    mix false false false d = refl

parts : (a b : Bool) → (a && b) ≡ true → (a ≡ true) × (b ≡ true)
parts true b e = (refl, e)
parts false b e = absurd (let z : ◌≡◌ {A = ℕ} 0 1 = cc in omega arith)

not_true : (a : Bool) → not a ≡ true → a ≡ false
not_true true e = absurd (let z : ◌≡◌ {A = ℕ} 0 1 = cc in omega arith)
not_true false e = refl

-- a variable that is none of them, and one of them, if they are different
pub mark_out : (vs : List ℕ) (l i : ℕ) (F : ℕ → ℕ) (y : ℕ) → elem y vs ≡ false → mark_all vs l i F y ≡ F y
unfolding mark_all elem
mark_out [] l i F y e = refl
mark_out (x ∷ vs) l i F y e = let q = none (eqb y x) (elem y vs) e in mark_out vs l i (upd F x (2 * newer l i (F x / 2) + 1)) y q.1 ∙ upd_other F x (2 * newer l i (F x / 2) + 1) y (eqb-false y x q.0)
  where
    none : (a b : Bool) → (a || b) ≡ false → (a ≡ false) × (b ≡ false)
    none true b e = absurd (let z : ◌≡◌ {A = ℕ} 0 1 = cc in omega arith)
    none false b e = (refl, e)

pub mark_in : (vs : List ℕ) (l i : ℕ) (F : ℕ → ℕ) (y : ℕ) → distinct vs ≡ true → elem y vs ≡ true → mark_all vs l i F y ≡ 2 * newer l i (F y / 2) + 1
unfolding mark_all elem distinct
mark_in [] l i F y d e = absurd (let z : ◌≡◌ {A = ℕ} 0 1 = cc in omega arith)
mark_in (x ∷ vs) l i F y d e = go (eqb y x) refl (λ n. mark_in vs l i (upd F x (2 * newer l i (F x / 2) + 1)) y (parts (not (elem x vs)) (distinct vs) d).1 n)
  where
    G : ℕ → ℕ
    G = upd F x (2 * newer l i (F x / 2) + 1)

    go : (b : Bool) → eqb y x ≡ b → (elem y vs ≡ true → mark_all vs l i (upd F x (2 * newer l i (F x / 2) + 1)) y ≡ 2 * newer l i (upd F x (2 * newer l i (F x / 2) + 1) y / 2) + 1) → mark_all vs l i (upd F x (2 * newer l i (F x / 2) + 1)) y ≡ 2 * newer l i (F y / 2) + 1
    go true q f =
        let z : y ≡ x = eqb-true y x q in
        mark_out vs l i (upd F x (2 * newer l i (F x / 2) + 1)) y (ap (λ (w : ℕ). elem w vs) z ∙ not_true (elem x vs) (parts (not (elem x vs)) (distinct vs) d).0)
        ∙ upd_same F x (2 * newer l i (F x / 2) + 1) y z
        ∙ ap (λ (w : ℕ). 2 * newer l i (F w / 2) + 1) (sym z)
    go false q f = f (sym (ap (λ (b : Bool). b || elem y vs) q) ∙ e) ∙ ap (λ (v : ℕ). 2 * newer l i (v / 2) + 1) (upd_other F x (2 * newer l i (F x / 2) + 1) y (eqb-false y x q))

pub marked_all : (N M vs : List ℕ) (l i : ℕ) → distinct vs ≡ true → ((y : ℕ) → get_or M y 0 ≡ mark_all vs l i (λ z. get_or N z 0) y) → Marked N M vs l i
marked_all N M vs l i d h = record {
  out = λ x e. h x ∙ mark_out vs l i (λ z. get_or N z 0) x e;
  bit = λ x e. let q = h x ∙ mark_in vs l i (λ z. get_or N z 0) x d e in omega (arith, q);
  half = λ x e. let q = h x ∙ mark_in vs l i (λ z. get_or N z 0) x d e in omega (arith, q);
}

-- unmarked: the position stays
pub unmark_half : (vs : List ℕ) (F : ℕ → ℕ) (y : ℕ) → unmark_all vs F y / 2 ≡ F y / 2
unfolding unmark_all
unmark_half [] F y = refl
unmark_half (x ∷ vs) F y = unmark_half vs (upd F x (F x / 2 * 2)) y ∙ go (eqb y x) refl
  where
    go : (b : Bool) → eqb y x ≡ b → upd F x (F x / 2 * 2) y / 2 ≡ F y / 2
    go true e = let z : y ≡ x = eqb-true y x e in let q = upd_same F x (F x / 2 * 2) y z in let w : F y ≡ F x = ap F z in omega (arith, q, w)
    go false e = ap (λ (v : ℕ). v / 2) (upd_other F x (F x / 2 * 2) y (eqb-false y x e))

pub unmark_out : (vs : List ℕ) (F : ℕ → ℕ) (y : ℕ) → elem y vs ≡ false → unmark_all vs F y ≡ F y
unfolding unmark_all elem
unmark_out [] F y e = refl
unmark_out (x ∷ vs) F y e = let q = none (eqb y x) (elem y vs) e in unmark_out vs (upd F x (F x / 2 * 2)) y q.1 ∙ upd_other F x (F x / 2 * 2) y (eqb-false y x q.0)
  where
    none : (a b : Bool) → (a || b) ≡ false → (a ≡ false) × (b ≡ false)
    none true b e = absurd (let z : ◌≡◌ {A = ℕ} 0 1 = cc in omega arith)
    none false b e = (refl, e)

-- a number that is even stays so
stays_even : (vs : List ℕ) (F : ℕ → ℕ) (y : ℕ) → F y % 2 ≡ 0 → unmark_all vs F y % 2 ≡ 0
unfolding unmark_all
stays_even [] F y e = e
stays_even (x ∷ vs) F y e = stays_even vs (upd F x (F x / 2 * 2)) y (go (eqb y x) refl)
  where
    go : (b : Bool) → eqb y x ≡ b → upd F x (F x / 2 * 2) y % 2 ≡ 0
    go true q = let z = upd_same F x (F x / 2 * 2) y (eqb-true y x q) in omega (arith, z)
    go false q = ap (λ (v : ℕ). v % 2) (upd_other F x (F x / 2 * 2) y (eqb-false y x q)) ∙ e

pub unmark_in : (vs : List ℕ) (F : ℕ → ℕ) (y : ℕ) → elem y vs ≡ true → unmark_all vs F y % 2 ≡ 0
unfolding unmark_all elem
unmark_in [] F y e = absurd (let z : ◌≡◌ {A = ℕ} 0 1 = cc in omega arith)
unmark_in (x ∷ vs) F y e = go (eqb y x) refl (λ n. unmark_in vs (upd F x (F x / 2 * 2)) y n)
  where
    go : (b : Bool) → eqb y x ≡ b → (elem y vs ≡ true → unmark_all vs (upd F x (F x / 2 * 2)) y % 2 ≡ 0) → unmark_all vs (upd F x (F x / 2 * 2)) y % 2 ≡ 0
    go true q f = let z = upd_same F x (F x / 2 * 2) y (eqb-true y x q) in stays_even vs (upd F x (F x / 2 * 2)) y (omega (arith, z))
    go false q f = f (sym (ap (λ (b : Bool). b || elem y vs) q) ∙ e)
