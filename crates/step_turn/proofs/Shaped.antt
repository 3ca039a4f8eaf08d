-- What the shape of a word says of the brackets and of the and-boxes. Assumes nothing.
use mathlib.Core.Path.{◌≡◌, refl, ap, sym, ◌∙◌}
use mathlib.Core.Bool.{true, false}
use mathlib.Core.List.{List}
use Prim.Native.Nat.{ℕ}
use native.Mathlib.Omega.{arith}
use lib.Dec.{eqb}
use lib.ListN.{get_or}
use Rattle.mem_words.specs.declared.Word.{Word}
use Rattle.mem_words.specs.declared.Word.TheVariants.{End, Free, Level, Num, Place, Inner, Bad}
use Rattle.mem_sorts.specs.declared.Kind.{Kind}
use Rattle.mem_sorts.specs.declared.Kind.TheVariants.{Or, And, Guarded, Member, Wait, Cond, Commit}
use Rattle.mem_sorts.specs.Shapes.{kind_no}
use Rattle.rule_words.specs.Scans.{opens, closes}
use Rattle.rule_effects.specs.Conditions.{kind_in, kind_at}
use Rattle.step_turn.specs.declared.Shape.{Shape}
use Rattle.step_turn.specs.declared.Shape.TheVariants.{Box, Opens, Closes, Else}
use Rattle.step_turn.specs.Shapes.{shape_in, shape_of}

number : Shape → ℕ
number Box = 0
number Opens = 1
number Closes = 2
number Else = 3

opens_box : Opens ≡ Box → ⊥
unfolding number
opens_box e = let z : ◌≡◌ {A = ℕ} 1 0 = ap number e in omega (arith, z)

closes_box : Closes ≡ Box → ⊥
unfolding number
closes_box e = let z : ◌≡◌ {A = ℕ} 2 0 = ap number e in omega (arith, z)

else_box : Else ≡ Box → ⊥
unfolding number
else_box e = let z : ◌≡◌ {A = ℕ} 3 0 = ap number e in omega (arith, z)

closes_opens : Closes ≡ Opens → ⊥
unfolding number
closes_opens e = let z : ◌≡◌ {A = ℕ} 2 1 = ap number e in omega (arith, z)

else_opens : Else ≡ Opens → ⊥
unfolding number
else_opens e = let z : ◌≡◌ {A = ℕ} 3 1 = ap number e in omega (arith, z)

else_closes : Else ≡ Closes → ⊥
unfolding number
else_closes e = let z : ◌≡◌ {A = ℕ} 3 2 = ap number e in omega (arith, z)

place_box : (k : Kind) → shape_in k ≡ Box → eqb (kind_no k) 1 ≡ true
place_box Or e = absurd (opens_box e)
place_box And e = refl
place_box Guarded e = absurd (opens_box e)
place_box Member e = absurd (opens_box e)
place_box Wait e = absurd (opens_box e)
place_box Cond e = absurd (opens_box e)
place_box Commit e = absurd (opens_box e)

place_opens : (k : Kind) → shape_in k ≡ Opens → eqb (kind_no k) 1 ≡ false
place_opens Or e = refl
place_opens And e = absurd (opens_box (sym e))
place_opens Guarded e = refl
place_opens Member e = refl
place_opens Wait e = refl
place_opens Cond e = refl
place_opens Commit e = refl

place_closes : (k : Kind) → shape_in k ≡ Closes → ⊥
place_closes Or e = closes_opens (sym e)
place_closes And e = closes_box (sym e)
place_closes Guarded e = closes_opens (sym e)
place_closes Member e = closes_opens (sym e)
place_closes Wait e = closes_opens (sym e)
place_closes Cond e = closes_opens (sym e)
place_closes Commit e = closes_opens (sym e)

place_else : (k : Kind) → shape_in k ≡ Else → ⊥
place_else Or e = else_opens (sym e)
place_else And e = else_box (sym e)
place_else Guarded e = else_opens (sym e)
place_else Member e = else_opens (sym e)
place_else Wait e = else_opens (sym e)
place_else Cond e = else_opens (sym e)
place_else Commit e = else_opens (sym e)

word_box : (w : Word) → shape_of w ≡ Box → eqb (kind_in w) 1 ≡ true
word_box End e = absurd (closes_box e)
word_box (Free v) e = absurd (else_box e)
word_box (Level v) e = absurd (else_box e)
word_box (Num v) e = absurd (else_box e)
word_box (Place k) e = place_box k e
word_box (Inner s) e = absurd (opens_box e)
word_box Bad e = absurd (else_box e)

word_opens : (w : Word) → shape_of w ≡ Opens → (opens w 0 ≡ true) × (eqb (kind_in w) 1 ≡ false)
word_opens End e = absurd (closes_opens e)
word_opens (Free v) e = absurd (else_opens e)
word_opens (Level v) e = absurd (else_opens e)
word_opens (Num v) e = absurd (else_opens e)
word_opens (Place k) e = (refl, place_opens k e)
word_opens (Inner s) e = (refl, refl)
word_opens Bad e = absurd (else_opens e)

word_closes : (w : Word) → shape_of w ≡ Closes → closes w 0 ≡ true
word_closes End e = refl
word_closes (Free v) e = absurd (else_closes e)
word_closes (Level v) e = absurd (else_closes e)
word_closes (Num v) e = absurd (else_closes e)
word_closes (Place k) e = absurd (place_closes k e)
word_closes (Inner s) e = absurd (closes_opens (sym e))
word_closes Bad e = absurd (else_closes e)

word_else : (w : Word) → shape_of w ≡ Else → (opens w 0 ≡ false) × (closes w 0 ≡ false)
word_else End e = absurd (else_closes (sym e))
word_else (Free v) e = (refl, refl)
word_else (Level v) e = (refl, refl)
word_else (Num v) e = (refl, refl)
word_else (Place k) e = absurd (place_else k e)
word_else (Inner s) e = absurd (else_opens (sym e))
word_else Bad e = (refl, refl)

-- the word at j of the words W, and its shape
module _ (W : List Word) (j : ℕ) (x : Word) (s : Shape) (ex : x ≡ get_or W j Bad) (es : s ≡ shape_of x) where
  its : (t : Shape) → s ≡ t → shape_of (get_or W j Bad) ≡ t
  its t e = ap shape_of (sym ex) ∙ sym es ∙ e

  pub is_box : s ≡ Box → kind_at W j And ≡ true
  unfolding kind_at
  is_box e = word_box (get_or W j Bad) (its Box e)

  pub is_opens : s ≡ Opens → (opens (get_or W j Bad) 0 ≡ true) × (kind_at W j And ≡ false)
  unfolding kind_at
  is_opens e = word_opens (get_or W j Bad) (its Opens e)

  pub is_closes : s ≡ Closes → closes (get_or W j Bad) 0 ≡ true
  is_closes e = word_closes (get_or W j Bad) (its Closes e)

  pub is_else : s ≡ Else → (opens (get_or W j Bad) 0 ≡ false) × (closes (get_or W j Bad) 0 ≡ false)
  is_else e = word_else (get_or W j Bad) (its Else e)
