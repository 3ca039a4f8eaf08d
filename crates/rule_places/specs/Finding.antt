-- The search for a place by its number, word by word. Assumes nothing.
use Rattle.std.specs.Prelude.{◌≡◌, refl, Bool, true, false, cond, List, [], ◌∷◌, ℕ, zero, suc, ◌+◌, ◌-◌, ◌<◌, ◌≤◌, length, get_or, drop}
use Rattle.std.proofs.Common.{ap, ap₂, sym, ◌∙◌, add-one, sub-one, arith, drop_of_length-le, drop-cons}
use Rattle.mem_words.specs.declared.Word.{Word}
use Rattle.mem_words.specs.declared.Word.TheVariants.{End, Free, Level, Num, Place, Inner, Bad}
use Rattle.store_words.specs.Contexts.{place_at}

-- does a place begin with the word?
abbrev pub begins : Word → Bool
begins End = false
begins (Free v) = false
begins (Level v) = false
begins (Num v) = false
begins (Place k) = true
begins (Inner s) = false
begins Bad = false

-- is it the place that p more are before?
abbrev pub hits : Word → ℕ → Bool
hits w zero = begins w
hits w (suc p) = false

-- how many more are before it behind the word
abbrev pub passed : Word → ℕ → ℕ
passed w p = cond (begins w) (p - 1) p

pub hits_no : (w : Word) (p : ℕ) → (p ≡ 0 → ⊥) → false ≡ hits w p
hits_no w zero h = absurd (h refl)
hits_no w (suc p) h = refl

pub passed_by : (w : Word) (p r : ℕ) (b : Bool) → b ≡ begins w → r ≡ cond b (p - 1) p → r ≡ passed w p
passed_by w p r b e f = f ∙ ap (λ (x : Bool). cond x (p - 1) p) e

pub one_word : (w : Word) (r : List Word) (p : ℕ) → place_at (w ∷ r) p ≡ cond (hits w p) 0 (suc (place_at r (passed w p)))
unfolding place_at
one_word End r zero = refl
one_word End r (suc p) = refl
one_word (Free v) r zero = refl
one_word (Free v) r (suc p) = refl
one_word (Level v) r zero = refl
one_word (Level v) r (suc p) = refl
one_word (Num v) r zero = refl
one_word (Num v) r (suc p) = refl
one_word (Place k) r zero = refl
one_word (Place k) r (suc p) = ap (λ (n : ℕ). suc (place_at r n)) (sym (sub-one (suc p)))
one_word (Inner s) r zero = refl
one_word (Inner s) r (suc p) = refl
one_word Bad r zero = refl
one_word Bad r (suc p) = refl

place_next : (W : List Word) (i p : ℕ) (w : Word) → i < length W → w ≡ get_or W i Bad → place_at (drop i W) p ≡ cond (hits w p) 0 (suc (place_at (drop (i + 1) W) (passed w p)))
place_next W i p w h e = ap (λ (l : List Word). place_at l p) (drop-cons W i Bad h ∙ ap₂ (λ (x : Word) (k : ℕ). x ∷ drop k W) (sym e) (sym (add-one i))) ∙ one_word w (drop (i + 1) W) p

pub place_hit : (W : List Word) (i p : ℕ) (w : Word) (b : Bool) → i < length W → w ≡ get_or W i Bad → b ≡ hits w p → b ≡ true → place_at (drop i W) p ≡ 0
place_hit W i p w b h e f z = place_next W i p w h e ∙ ap (λ (x : Bool). cond x 0 (suc (place_at (drop (i + 1) W) (passed w p)))) (sym f ∙ z)

pub place_on : (W : List Word) (i p q : ℕ) (w : Word) (b : Bool) → i < length W → w ≡ get_or W i Bad → b ≡ hits w p → b ≡ false → q ≡ passed w p → place_at (drop i W) p ≡ suc (place_at (drop (i + 1) W) q)
place_on W i p q w b h e f z g = place_next W i p w h e ∙ ap (λ (x : Bool). cond x 0 (suc (place_at (drop (i + 1) W) (passed w p)))) (sym f ∙ z) ∙ ap (λ (x : ℕ). suc (place_at (drop (i + 1) W) x)) (sym g)

pub place_end : (W : List Word) (i p : ℕ) → length W ≤ i → place_at (drop i W) p ≡ 0
unfolding place_at
place_end W i p h = rw (drop_of_length-le W h)
