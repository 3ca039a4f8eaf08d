-- What is around a position, behind each kind of word. Assumes nothing.
use mathlib.Core.Path.{◌≡◌, refl, ap, sym, ◌∙◌}
use mathlib.Core.Bool.{Bool, true, false, cond}
use mathlib.Core.List.{List}
use Prim.Native.Nat.{ℕ, zero, suc, ◌+◌, ◌-◌, ◌<◌}
use native.Mathlib.Omega.{arith}
use native.Mathlib.Numerals.{add-one}
use lib.Dec.{eqb}
use lib.ListN.{get_or}
use Rattle.mem_words.specs.declared.Word.{Word}
use Rattle.mem_words.specs.declared.Word.TheVariants.{End, Free, Level, Num, Place, Inner, Bad}
use Rattle.mem_sorts.specs.declared.Kind.TheVariants.{And}
use Rattle.rule_words.specs.Scans.{closes, deeper, opens, higher, up, around}
use Rattle.rule_words.proofs.Loops.{up_on, up_hit, around_is}
use Rattle.rule_effects.specs.Conditions.{kind_in, kind_at}

number : Bool → ℕ
number true = 1
number false = 0

pub false_true : false ≡ true → ⊥
unfolding number
false_true e = let z : ◌≡◌ {A = ℕ} 0 1 = ap number e in omega (arith, z)

-- a word that opens a bracket closes none, and adds one; one that closes a bracket opens none
pub opening_closes : (w : Word) (d : ℕ) → opens w 0 ≡ true → false ≡ closes w d
opening_closes End d e = absurd (false_true e)
opening_closes (Free v) d e = refl
opening_closes (Level v) d e = refl
opening_closes (Num v) d e = refl
opening_closes (Place k) d e = refl
opening_closes (Inner s) d e = refl
opening_closes Bad d e = refl

pub not_closing : (w : Word) (d : ℕ) → closes w 0 ≡ false → false ≡ closes w d
not_closing End d e = absurd (false_true (sym e))
not_closing (Free v) d e = refl
not_closing (Level v) d e = refl
not_closing (Num v) d e = refl
not_closing (Place k) d e = refl
not_closing (Inner s) d e = refl
not_closing Bad d e = refl

pub opening_deeper : (w : Word) (d : ℕ) → opens w 0 ≡ true → d + 1 ≡ deeper w d
opening_deeper End d e = absurd (false_true e)
opening_deeper (Free v) d e = absurd (false_true e)
opening_deeper (Level v) d e = absurd (false_true e)
opening_deeper (Num v) d e = absurd (false_true e)
opening_deeper (Place k) d e = refl
opening_deeper (Inner s) d e = refl
opening_deeper Bad d e = absurd (false_true e)

pub closing_closes : (w : Word) (d : ℕ) → closes w 0 ≡ true → 0 < d → false ≡ closes w d
closing_closes w zero e h = absurd (omega arith)
closing_closes End (suc d) e h = refl
closing_closes (Free v) (suc d) e h = refl
closing_closes (Level v) (suc d) e h = refl
closing_closes (Num v) (suc d) e h = refl
closing_closes (Place k) (suc d) e h = refl
closing_closes (Inner s) (suc d) e h = refl
closing_closes Bad (suc d) e h = refl

pub closing_deeper : (w : Word) (d : ℕ) → closes w 0 ≡ true → d - 1 ≡ deeper w d
closing_deeper End d e = refl
closing_deeper (Free v) d e = absurd (false_true e)
closing_deeper (Level v) d e = absurd (false_true e)
closing_deeper (Num v) d e = absurd (false_true e)
closing_deeper (Place k) d e = absurd (false_true e)
closing_deeper (Inner s) d e = absurd (false_true e)
closing_deeper Bad d e = absurd (false_true e)

closing_opens : (w : Word) → closes w 0 ≡ true → false ≡ opens w 0
closing_opens End e = refl
closing_opens (Free v) e = refl
closing_opens (Level v) e = refl
closing_opens (Num v) e = refl
closing_opens (Place k) e = absurd (false_true e)
closing_opens (Inner s) e = absurd (false_true e)
closing_opens Bad e = refl

closing_higher : (w : Word) → closes w 0 ≡ true → higher w 0 ≡ 1
closing_higher End e = refl
closing_higher (Free v) e = absurd (false_true e)
closing_higher (Level v) e = absurd (false_true e)
closing_higher (Num v) e = absurd (false_true e)
closing_higher (Place k) e = absurd (false_true e)
closing_higher (Inner s) e = absurd (false_true e)
closing_higher Bad e = absurd (false_true e)

-- any other word changes nothing
pub plain_closes : (w : Word) (d : ℕ) → opens w 0 ≡ false → closes w 0 ≡ false → false ≡ closes w d
plain_closes End d e f = absurd (false_true (sym f))
plain_closes (Free v) d e f = refl
plain_closes (Level v) d e f = refl
plain_closes (Num v) d e f = refl
plain_closes (Place k) d e f = refl
plain_closes (Inner s) d e f = refl
plain_closes Bad d e f = refl

pub plain_deeper : (w : Word) (d : ℕ) → opens w 0 ≡ false → closes w 0 ≡ false → d ≡ deeper w d
plain_deeper End d e f = absurd (false_true (sym f))
plain_deeper (Free v) d e f = refl
plain_deeper (Level v) d e f = refl
plain_deeper (Num v) d e f = refl
plain_deeper (Place k) d e f = absurd (false_true (sym e))
plain_deeper (Inner s) d e f = absurd (false_true (sym e))
plain_deeper Bad d e f = refl

plain_higher : (w : Word) → opens w 0 ≡ false → closes w 0 ≡ false → higher w 0 ≡ 0
plain_higher End e f = absurd (false_true (sym f))
plain_higher (Free v) e f = refl
plain_higher (Level v) e f = refl
plain_higher (Num v) e f = refl
plain_higher (Place k) e f = refl
plain_higher (Inner s) e f = refl
plain_higher Bad e f = refl

-- an and-box opens a bracket
pub and_opens : (W : List Word) (j : ℕ) → kind_at W j And ≡ true → opens (get_or W j Bad) 0 ≡ true
unfolding kind_at
and_opens W j e = go (get_or W j Bad) e
  where
    go : (w : Word) → eqb (kind_in w) 1 ≡ true → opens w 0 ≡ true
    go End h = absurd (false_true h)
    go (Free v) h = absurd (false_true h)
    go (Level v) h = absurd (false_true h)
    go (Num v) h = absurd (false_true h)
    go (Place k) h = refl
    go (Inner s) h = refl
    go Bad h = absurd (false_true h)

-- ---------------------------------------------------------------------------------------------

-- one bracket more was closed on the way: it is the one around the one that was open
up_more : (i : ℕ) (W : List Word) (d : ℕ) → up i W (suc d) ≡ up (up i W d) W 0
unfolding up
up_more zero W d = refl
up_more (suc i) W d = go (get_or W i Bad) d (λ k. up_more i W k)
  where
    opening : (d : ℕ) → ((k : ℕ) → up i W (suc k) ≡ up (up i W k) W 0) → up i W (suc d - 1) ≡ up (cond (opens (Place And) d) i (up i W (d - 1))) W 0
    opening zero h = refl
    opening (suc d) h = let e : suc (suc d) - 1 ≡ suc d = omega arith in let f : d ≡ suc d - 1 = omega arith in ap (λ (k : ℕ). up i W k) e ∙ h d ∙ ap (λ (k : ℕ). up (up i W k) W 0) f

    go : (w : Word) (d : ℕ) → ((k : ℕ) → up i W (suc k) ≡ up (up i W k) W 0) → cond (opens w (suc d)) i (up i W (higher w (suc d))) ≡ up (cond (opens w d) i (up i W (higher w d))) W 0
    go End d h = ap (λ (k : ℕ). up i W k) (add-one (suc d)) ∙ h (suc d) ∙ ap (λ (k : ℕ). up (up i W k) W 0) (sym (add-one d))
    go (Free v) d h = h d
    go (Level v) d h = h d
    go (Num v) d h = h d
    go (Place k) d h = opening d h
    go (Inner s) zero h = opening zero h
    go (Inner s) (suc d) h = opening (suc d) h
    go Bad d h = h d

module _ (W : List Word) (j : ℕ) where
  here : get_or W j Bad ≡ get_or W (j + 1 - 1) Bad
  here = let e : j ≡ j + 1 - 1 = omega arith in ap (λ (k : ℕ). get_or W k Bad) e

  pub around_in : opens (get_or W j Bad) 0 ≡ true → around W (j + 1) ≡ j
  around_in e = sym (around_is W (j + 1)) ∙ up_hit W (j + 1) 0 (get_or W j Bad) true (omega arith) here (sym e) refl ∙ (omega arith)

  behind : (d : ℕ) → higher (get_or W j Bad) 0 ≡ d → false ≡ opens (get_or W j Bad) 0 → around W (j + 1) ≡ up j W d
  behind d e f =
      let l : j + 1 - 1 ≡ j = omega arith in
      sym (around_is W (j + 1)) ∙ up_on W (j + 1) 0 (get_or W j Bad) false (omega arith) here f refl ∙ ap (λ (k : ℕ). up k W (higher (get_or W j Bad) 0)) l ∙ ap (λ (k : ℕ). up j W k) e

  pub around_out : closes (get_or W j Bad) 0 ≡ true → around W (j + 1) ≡ around W (around W j)
  unfolding around
  around_out e = behind 1 (closing_higher (get_or W j Bad) e) (closing_opens (get_or W j Bad) e) ∙ up_more j W 0

  pub around_on : opens (get_or W j Bad) 0 ≡ false → closes (get_or W j Bad) 0 ≡ false → around W (j + 1) ≡ around W j
  around_on e f = behind 0 (plain_higher (get_or W j Bad) e f) (sym e) ∙ around_is W j
