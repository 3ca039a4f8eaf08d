-- A search in a stack of open brackets: those that start before v are the first ones, and the last of these is the innermost.
-- Assumes nothing.
use Rattle.std.specs.Prelude.{◌≡◌, refl, List, [], ◌∷◌, Bool, true, false, not, ℕ, zero, suc, ◌+◌, ◌-◌, ◌≤◌, ◌<◌, ltb, get_or}
use Rattle.std.proofs.Common.{ap, sym, ◌∙◌, subst, arith, lt-ltb, le-ltb}
use Rattle.std.proofs.Math.Decide.{dec_lt}
use Rattle.mem_words.specs.declared.Word.{Word}
use Rattle.mem_words.specs.declared.Word.TheVariants.{End, Free, Level, Num, Place, Inner, Bad}
use Rattle.check_words.specs.Frees.{is_and, is_locals}
use Rattle.check_vartables.specs.Stacks.{tops}

pub record Ordered (P : List ℕ) (k : ℕ) : Type 0 where
  pub up : (a b : ℕ) → a < b → b < k → get_or P a 0 < get_or P b 0

-- r of them start before v
pub record Before (P : List ℕ) (k v r : ℕ) : Type 0 where
  pub most : r ≤ k
  pub under : (j : ℕ) → j < r → get_or P j 0 < v
  pub over : (j : ℕ) → r ≤ j → j < k → v ≤ get_or P j 0

-- between lo and hi it is not known yet
pub record Between (P : List ℕ) (k v lo hi : ℕ) : Type 0 where
  pub order : lo ≤ hi
  pub most : hi ≤ k
  pub under : (j : ℕ) → j < lo → get_or P j 0 < v
  pub over : (j : ℕ) → hi ≤ j → j < k → v ≤ get_or P j 0

pub at_first : (P : List ℕ) (k v : ℕ) → Between P k v 0 k
at_first P k v = record { order = omega arith; most = omega arith; under = λ j h. omega arith; over = λ j h g. omega arith }

pub go_up : {P : List ℕ} {k v lo hi : ℕ} (m : ℕ) → Ordered P k → Between P k v lo hi → lo ≤ m → m < hi → get_or P m 0 < v → Between P k v (m + 1) hi
go_up {P} {k} {v} {lo} {hi} m r b h g l = record {
  order = omega arith;
  most = b.most;
  under = λ j n. each j n (dec_lt j m);
  over = b.over;
}
  where
    each : (j : ℕ) → j < m + 1 → Dec (j < m) → get_or P j 0 < v
    each j n (yes q) = let a = r.up j m q (omega (arith, b.most)) in omega (arith, a, l)
    each j n (no q) = let e : m ≡ j = omega arith in subst (λ (z : ℕ). get_or P z 0 < v) e l

pub go_down : {P : List ℕ} {k v lo hi : ℕ} (m : ℕ) → Ordered P k → Between P k v lo hi → lo ≤ m → m < hi → v ≤ get_or P m 0 → Between P k v lo m
go_down {P} {k} {v} {lo} {hi} m r b h g l = record {
  order = h;
  most = omega (arith, b.most);
  under = b.under;
  over = λ j n q. each j n q (dec_lt m j);
}
  where
    each : (j : ℕ) → m ≤ j → j < k → Dec (m < j) → v ≤ get_or P j 0
    each j n q (yes z) = let a = r.up m j z q in omega (arith, a, l)
    each j n q (no z) = let e : m ≡ j = omega arith in subst (λ (z : ℕ). v ≤ get_or P z 0) e l

pub at_last : {P : List ℕ} {k v lo hi : ℕ} → hi ≤ lo → Between P k v lo hi → Before P k v lo
at_last {P} {k} {v} {lo} {hi} h b = record { most = omega (arith, b.order, b.most); under = b.under; over = λ j n q. b.over j (omega arith) q }

-- what a bracket's first word says: whether it is an and-box or a bracket of locals, and whether it is the latter
abbrev pub strict_word : Word → Bool
strict_word End = false
strict_word (Free x) = false
strict_word (Level l) = false
strict_word (Num n) = false
strict_word (Place k) = is_and k
strict_word (Inner s) = is_locals s
strict_word Bad = false

abbrev pub naming_word : Word → Bool
naming_word End = false
naming_word (Free x) = false
naming_word (Level l) = false
naming_word (Num n) = false
naming_word (Place k) = false
naming_word (Inner s) = is_locals s
naming_word Bad = false

-- the innermost of the brackets that start before v is no and-box
unfoldable pub fit : List Word → ℕ → List ℕ → Bool
fit C v [] = true
fit C v (p ∷ Ps) = elim (ltb p v) [ true ↦ not (strict_word (get_or C p Bad)) | false ↦ fit C v Ps ]

fit_over : (C : List Word) (v p : ℕ) (Ps : List ℕ) → v ≤ p → fit C v (p ∷ Ps) ≡ fit C v Ps
unfolding fit
fit_over C v p Ps h = ap (λ (b : Bool). elim b as (λ z. Bool) [ true ↦ not (strict_word (get_or C p Bad)) | false ↦ fit C v Ps ]) (le-ltb p v h)

fit_under : (C : List Word) (v p : ℕ) (Ps : List ℕ) → p < v → fit C v (p ∷ Ps) ≡ not (strict_word (get_or C p Bad))
unfolding fit
fit_under C v p Ps h = ap (λ (b : Bool). elim b as (λ z. Bool) [ true ↦ not (strict_word (get_or C p Bad)) | false ↦ fit C v Ps ]) (lt-ltb p v h)

pub fit_none : (C : List Word) (P : List ℕ) (k v r : ℕ) → Before P k v r → r ≡ 0 → true ≡ fit C v (tops P k)
unfolding tops fit
fit_none C P zero v r b z = refl
fit_none C P (suc k) v r b z =
    fit_none C P k v r (record { most = omega arith; under = b.under; over = λ j n q. b.over j n (omega arith) }) z
    ∙ sym (fit_over C v (get_or P k 0) (tops P k) (b.over k (omega arith) (omega arith)))

pub fit_some : (C : List Word) (P : List ℕ) (k v r : ℕ) → Before P k v r → (r ≡ 0 → ⊥) → not (strict_word (get_or C (get_or P (r - 1) 0) Bad)) ≡ fit C v (tops P k)
unfolding tops
fit_some C P zero v r b z = absurd (z (omega (arith, b.most)))
fit_some C P (suc k) v r b z = go (dec_lt k r) (λ n. fit_some C P k v r (record { most = omega arith; under = b.under; over = λ j m q. b.over j m (omega arith) }) z)
  where
    go : Dec (k < r) → ((k < r → ⊥) → not (strict_word (get_or C (get_or P (r - 1) 0) Bad)) ≡ fit C v (tops P k)) → not (strict_word (get_or C (get_or P (r - 1) 0) Bad)) ≡ fit C v (get_or P k 0 ∷ tops P k)
    go (yes h) f =
        let e : r - 1 ≡ k = omega (arith, b.most) in
        ap (λ (j : ℕ). not (strict_word (get_or C (get_or P j 0) Bad))) e ∙ sym (fit_under C v (get_or P k 0) (tops P k) (b.under k (omega arith)))
    go (no h) f = f h ∙ sym (fit_over C v (get_or P k 0) (tops P k) (b.over k (omega arith) (omega arith)))
