-- Tests of a configuration's words by what was read and found before. Assumes nothing.
use Rattle.std.specs.Prelude.{◌≡◌, refl, Bool, true, false, ◌&&◌, not, List, ℕ, ◌+◌, eqb, get_or}
use Rattle.std.proofs.Common.{ap, ap₂, sym, ◌∙◌, eq-eqb, ne_eqb}
use Rattle.mem_words.specs.declared.Word.{Word}
use Rattle.mem_words.specs.declared.Word.TheVariants.{Bad}
use Rattle.mem_sorts.specs.declared.Kind.{Kind}
use Rattle.mem_sorts.specs.declared.Kind.TheVariants.{Or, And}
use Rattle.mem_sorts.specs.Shapes.{kind_no}
use Rattle.rule_words.specs.Scans.{closes, close, around}
use Rattle.rule_effects.specs.Effects.{store_end}
use Rattle.rule_effects.specs.Conditions.{ends_at, kind_in, kind_at, solved_at, failure_at, parts_at, right_at, left_at, one_at, more_at}

pub ends_is : (W : List Word) (j : ℕ) (w : Word) (b : Bool) → w ≡ get_or W j Bad → b ≡ closes w 0 → b ≡ ends_at W j
unfolding ends_at
ends_is W j w b e f = f ∙ ap (λ (x : Word). closes x 0) e

pub kind_is : (W : List Word) (j x y : ℕ) (w : Word) (k : Kind) → w ≡ get_or W j Bad → x ≡ kind_in w → y ≡ kind_no k → x ≡ y → true ≡ kind_at W j k
unfolding kind_at
kind_is W j x y w k e f g h = sym (eq-eqb (kind_in (get_or W j Bad)) (kind_no k) (ap kind_in (sym e) ∙ sym f ∙ h ∙ g))

pub kind_is_not : (W : List Word) (j x y : ℕ) (w : Word) (k : Kind) → w ≡ get_or W j Bad → x ≡ kind_in w → y ≡ kind_no k → (x ≡ y → ⊥) → false ≡ kind_at W j k
unfolding kind_at
kind_is_not W j x y w k e f g h = sym (ne_eqb (kind_in (get_or W j Bad)) (kind_no k) (λ q. h (f ∙ ap kind_in e ∙ q ∙ sym g)))

-- an and-box: its members are asked for
pub solved_is : (W : List Word) (g u s : ℕ) (b t : Bool) → b ≡ kind_at W g And → b ≡ true → u ≡ close W (g + 1) → s ≡ close W (u + 1) → t ≡ ends_at W (s + 1) → t ≡ solved_at W g
unfolding solved_at
solved_is W g u s b t e f p q h = h ∙ ap (λ (x : ℕ). ends_at W (x + 1)) (q ∙ ap (λ (x : ℕ). close W (x + 1)) p) ∙ ap (λ (x : Bool). x && ends_at W (store_end W g + 1)) (sym f ∙ e)

pub solved_is_not : (W : List Word) (g : ℕ) (b : Bool) → b ≡ kind_at W g And → b ≡ false → false ≡ solved_at W g
unfolding solved_at
solved_is_not W g b e f = ap (λ (x : Bool). x && ends_at W (store_end W g + 1)) (sym f ∙ e)

-- an or-box: whether it is empty
pub failure_is : (W : List Word) (g : ℕ) (b t : Bool) → b ≡ kind_at W g Or → b ≡ true → t ≡ ends_at W (g + 1) → t ≡ failure_at W g
unfolding failure_at
failure_is W g b t e f h = h ∙ ap (λ (x : Bool). x && ends_at W (g + 1)) (sym f ∙ e)

pub failure_is_not : (W : List Word) (g : ℕ) (b : Bool) → b ≡ kind_at W g Or → b ≡ false → false ≡ failure_at W g
unfolding failure_at
failure_is_not W g b e f = ap (λ (x : Bool). x && ends_at W (g + 1)) (sym f ∙ e)

pub parts_is : (W : List Word) (g : ℕ) (b t v : Bool) → b ≡ kind_at W g Or → b ≡ true → t ≡ ends_at W (g + 1) → v ≡ not t → v ≡ parts_at W g
unfolding parts_at
parts_is W g b t v e f h k = k ∙ ap not h ∙ ap (λ (x : Bool). x && not (ends_at W (g + 1))) (sym f ∙ e)

pub parts_is_not : (W : List Word) (g : ℕ) (b : Bool) → b ≡ kind_at W g Or → b ≡ false → false ≡ parts_at W g
unfolding parts_at
parts_is_not W g b e f = ap (λ (x : Bool). x && not (ends_at W (g + 1))) (sym f ∙ e)

-- beside a guarded goal
pub right_is : (W : List Word) (i e : ℕ) (t v : Bool) → e ≡ close W i → t ≡ ends_at W (e + 1) → v ≡ not t → v ≡ right_at W i
unfolding right_at
right_is W i e t v p h k = k ∙ ap not h ∙ ap (λ (x : ℕ). not (ends_at W (x + 1))) p

pub left_is : (W : List Word) (i a : ℕ) → a ≡ around W i → (a + 1 ≡ i → ⊥) → true ≡ left_at W i
unfolding left_at
left_is W i a p h = sym (ap not (ne_eqb (around W i + 1) i (λ q. h (ap (λ (x : ℕ). x + 1) p ∙ q))))

pub left_is_not : (W : List Word) (i a : ℕ) → a ≡ around W i → a + 1 ≡ i → false ≡ left_at W i
unfolding left_at
left_is_not W i a p h = sym (ap not (eq-eqb (around W i + 1) i (ap (λ (x : ℕ). x + 1) (sym p) ∙ h)))

-- in a choice-box
pub none_is : (W : List Word) (i : ℕ) (b : Bool) → b ≡ ends_at W (i + 1) → b ≡ true → (false ≡ one_at W i) × (false ≡ more_at W i)
unfolding one_at more_at
none_is W i b e f = let q : true ≡ ends_at W (i + 1) = sym f ∙ e in (ap (λ (x : Bool). not x && ends_at W (close W (i + 1) + 1)) q, ap (λ (x : Bool). not x && not (ends_at W (close W (i + 1) + 1))) q)

pub some_is : (W : List Word) (i e : ℕ) (b t : Bool) → b ≡ ends_at W (i + 1) → b ≡ false → e ≡ close W (i + 1) → t ≡ ends_at W (e + 1) → (t ≡ one_at W i) × (not t ≡ more_at W i)
unfolding one_at more_at
some_is W i e b t p f q h =
    let g : false ≡ ends_at W (i + 1) = sym f ∙ p in
    let u : t ≡ ends_at W (close W (i + 1) + 1) = h ∙ ap (λ (x : ℕ). ends_at W (x + 1)) q in
    (u ∙ ap (λ (x : Bool). not x && ends_at W (close W (i + 1) + 1)) g, ap not u ∙ ap (λ (x : Bool). not x && not (ends_at W (close W (i + 1) + 1))) g)
