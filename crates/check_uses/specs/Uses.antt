-- What is asked of the tables at a variable, and at an opening: the guarded goal that the innermost bracket belongs to. Assumes nothing.
use Rattle.std.specs.Prelude.{◌≡◌, refl, List, [], ◌∷◌, Bool, true, false, ◌&&◌, ◌||◌, not, ℕ, zero, suc, ◌+◌, ◌-◌, ◌/◌, ◌%◌, ◌≤◌, ◌<◌, eqb, length, get_or, drop}
use Rattle.std.proofs.Common.{ap, ap₂, sym, ◌∙◌, arith, eq-eqb, ne_eqb}
use Rattle.mem_words.specs.declared.Word.{Word}
use Rattle.mem_words.specs.declared.Word.TheVariants.{Free, Bad}
use Rattle.mem_words.specs.Words.{Read}
use Rattle.work_tables.specs.Tables.{Laid}
use Rattle.check_words.specs.Scope.{in_names, word_scoped, use_passes}
use Rattle.check_vartables.specs.Tables.{names_of, stack_of, links_of}
use Rattle.check_vartables.specs.Stacks.{tops}
use Rattle.check_roles.specs.declared.Role.{Role}
use Rattle.check_roles.specs.Held.{role_of, names_word}
use Rattle.check_roles.specs.Marks.{is_marked}
use Rattle.check_roles.specs.Steps.{Holding, aim_at, aimed, excuses, usable, usable_is, top_naming, names_are}

-- k brackets are open, and the innermost can be read
pub record Look (C : List Word) (L : List ℕ) (k : ℕ) : Type 0 where
  pub laid : Laid L
  pub few : k ≤ 28672
  pub short : length C ≤ 28672
  pub inside : (k ≡ 0 → ⊥) → get_or (stack_of L) (k - 1) 0 < length C
  pub aims : aimed C (links_of L) (tops (stack_of L) k) ≤ 28672

pub aim_none : (C : List Word) (T P : List ℕ) (k : ℕ) → k ≡ 0 → 0 ≡ aimed C T (tops P k)
unfolding tops
aim_none C T P zero z = refl
aim_none C T P (suc k) z = absurd (omega (arith, z))

aim_top : (C : List Word) (T P : List ℕ) (k : ℕ) → (k ≡ 0 → ⊥) → aim_at (role_of (get_or C (get_or P (k - 1) 0) Bad)) (get_or P (k - 1) 0) (get_or T (get_or P (k - 1) 0) 0) ≡ aimed C T (tops P k)
unfolding tops
aim_top C T P zero z = absurd (z refl)
aim_top C T P (suc k) z = let e : suc k - 1 ≡ k = omega arith in ap (λ (j : ℕ). aim_at (role_of (get_or C (get_or P j 0) Bad)) (get_or P j 0) (get_or T (get_or P j 0) 0)) e

-- p is the position of the innermost bracket, w its word and o what it is
pub aim_by : (C : List Word) (T P : List ℕ) (k p : ℕ) (w : Word) (o : Role) (v : ℕ) → (k ≡ 0 → ⊥) → p ≡ get_or P (k - 1) 0 → w ≡ get_or C p Bad → o ≡ role_of w → v ≡ aim_at o p (get_or T p 0) → v ≡ aimed C T (tops P k)
aim_by C T P k p w o v n e f g h =
    h ∙ ap (λ (q : Role). aim_at q p (get_or T p 0)) (g ∙ ap role_of f) ∙ ap (λ (q : ℕ). aim_at (role_of (get_or C q Bad)) q (get_or T q 0)) e ∙ aim_top C T P k n

pub naming_none : (C : List Word) (P : List ℕ) (k : ℕ) → k ≡ 0 → false ≡ top_naming C (tops P k)
unfolding tops
naming_none C P zero z = refl
naming_none C P (suc k) z = absurd (omega (arith, z))

naming_top : (C : List Word) (P : List ℕ) (k : ℕ) → (k ≡ 0 → ⊥) → names_word (get_or C (get_or P (k - 1) 0) Bad) ≡ top_naming C (tops P k)
unfolding tops
naming_top C P zero z = absurd (z refl)
naming_top C P (suc k) z = let e : suc k - 1 ≡ k = omega arith in ap (λ (j : ℕ). names_word (get_or C (get_or P j 0) Bad)) e

pub naming_by : (C : List Word) (P : List ℕ) (k p : ℕ) (w : Word) (b : Bool) → (k ≡ 0 → ⊥) → p ≡ get_or P (k - 1) 0 → w ≡ get_or C p Bad → b ≡ names_word w → b ≡ top_naming C (tops P k)
naming_by C P k p w b n e f g = g ∙ ap names_word (f ∙ ap (λ (q : ℕ). get_or C q Bad) e) ∙ naming_top C P k n

-- the tables excuse a variable with the number v, t being the guarded goal
pub excuse_none : (T : List ℕ) (t v : ℕ) → t ≡ 0 → false ≡ excuses T t v
excuse_none T zero v z = refl
excuse_none T (suc g) v z = absurd (omega (arith, z))

excuse_top : (T : List ℕ) (t v : ℕ) → (t ≡ 0 → ⊥) → (eqb (get_or T (t - 1) 0) 0 || eqb (v / 2) (get_or T (t - 1) 0)) ≡ excuses T t v
excuse_top T zero v n = absurd (n refl)
excuse_top T (suc g) v n = let e : suc g - 1 ≡ g = omega arith in ap (λ (j : ℕ). eqb (get_or T j 0) 0 || eqb (v / 2) (get_or T j 0)) e

pub excuse_free : (T : List ℕ) (t v l : ℕ) → (t ≡ 0 → ⊥) → l ≡ get_or T (t - 1) 0 → l ≡ 0 → true ≡ excuses T t v
excuse_free T t v l n e z = sym (sym (excuse_top T t v n) ∙ ap (λ (b : Bool). b || eqb (v / 2) (get_or T (t - 1) 0)) (eq-eqb (get_or T (t - 1) 0) 0 (sym e ∙ z)))

pub excuse_by : (T : List ℕ) (t v l : ℕ) → (t ≡ 0 → ⊥) → l ≡ get_or T (t - 1) 0 → (l ≡ 0 → ⊥) → eqb (v / 2) l ≡ excuses T t v
excuse_by T t v l n e z = ap (eqb (v / 2)) e ∙ sym (sym (excuse_top T t v n) ∙ ap (λ (b : Bool). b || eqb (v / 2) (get_or T (t - 1) 0)) (ne_eqb (get_or T (t - 1) 0) 0 (λ q. z (e ∙ q))))

-- x may stand where it stands
abbrev pub stand : Bool → Bool → Bool
stand true b = true
stand false b = b

unfoldable pub may_use : List Word → List ℕ → ℕ → ℕ → Bool
may_use C L k x = stand (top_naming C (tops (stack_of L) k)) (usable (links_of L) (aimed C (links_of L) (tops (stack_of L) k)) (get_or (names_of L) x 0))

pub use_name : (C : List Word) (L : List ℕ) (k x : ℕ) (b : Bool) → b ≡ top_naming C (tops (stack_of L) k) → b ≡ true → true ≡ may_use C L k x
unfolding may_use
use_name C L k x b e t = sym (ap (λ (c : Bool). stand c (usable (links_of L) (aimed C (links_of L) (tops (stack_of L) k)) (get_or (names_of L) x 0))) (sym e ∙ t))

use_other : (C : List Word) (L : List ℕ) (k x : ℕ) (b : Bool) → b ≡ top_naming C (tops (stack_of L) k) → b ≡ false → may_use C L k x ≡ usable (links_of L) (aimed C (links_of L) (tops (stack_of L) k)) (get_or (names_of L) x 0)
unfolding may_use
use_other C L k x b e t = ap (λ (c : Bool). stand c (usable (links_of L) (aimed C (links_of L) (tops (stack_of L) k)) (get_or (names_of L) x 0))) (sym e ∙ t)

pub use_marked : (C : List Word) (L : List ℕ) (k x : ℕ) (b : Bool) (v : ℕ) → b ≡ top_naming C (tops (stack_of L) k) → b ≡ false → v ≡ get_or (names_of L) x 0 → v % 2 ≡ 1 → true ≡ may_use C L k x
use_marked C L k x b v e t q o = sym (use_other C L k x b e t ∙ ap (λ (c : Bool). c || excuses (links_of L) (aimed C (links_of L) (tops (stack_of L) k)) (get_or (names_of L) x 0)) (eq-eqb (get_or (names_of L) x 0 % 2) 1 (ap (λ (z : ℕ). z % 2) (sym q) ∙ o)))

pub use_excused : (C : List Word) (L : List ℕ) (k x : ℕ) (b : Bool) (v t : ℕ) (r : Bool) → b ≡ top_naming C (tops (stack_of L) k) → b ≡ false → v ≡ get_or (names_of L) x 0 → (v % 2 ≡ 1 → ⊥) → t ≡ aimed C (links_of L) (tops (stack_of L) k) → r ≡ excuses (links_of L) t v → r ≡ may_use C L k x
use_excused C L k x b v t r e f q o g h =
    h
    ∙ ap₂ (λ (a c : ℕ). excuses (links_of L) a c) g q
    ∙ sym (use_other C L k x b e f ∙ ap (λ (c : Bool). c || excuses (links_of L) (aimed C (links_of L) (tops (stack_of L) k)) (get_or (names_of L) x 0)) (ne_eqb (get_or (names_of L) x 0 % 2) 1 (λ z. o (ap (λ (y : ℕ). y % 2) q ∙ z))))

-- it is what the test asks
pub may_use_is : {C : List Word} (L : List ℕ) {k i : ℕ} (h : Holding C (stack_of L) (links_of L) (names_of L) k i) (x : ℕ) → may_use C L k x ≡ word_scoped h.stack (Free x) (drop (i + 1) C)
unfolding may_use
may_use_is {C} L {k} {i} h x = go (in_names h.stack) refl
  where
    go : (b : Bool) → in_names h.stack ≡ b → stand (top_naming C (tops (stack_of L) k)) (usable (links_of L) (aimed C (links_of L) (tops (stack_of L) k)) (get_or (names_of L) x 0)) ≡ word_scoped h.stack (Free x) (drop (i + 1) C)
    go true e =
        ap (λ (c : Bool). stand c (usable (links_of L) (aimed C (links_of L) (tops (stack_of L) k)) (get_or (names_of L) x 0))) (sym (names_are h) ∙ e)
        ∙ sym (ap (λ (c : Bool). use_passes c x h.stack) e)
    go false e =
        ap (λ (c : Bool). stand c (usable (links_of L) (aimed C (links_of L) (tops (stack_of L) k)) (get_or (names_of L) x 0))) (sym (names_are h) ∙ e)
        ∙ usable_is h (aimed C (links_of L) (tops (stack_of L) k)) x refl e
