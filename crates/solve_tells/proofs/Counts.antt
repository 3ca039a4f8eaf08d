-- How many applications a range of words begins. Assumes nothing.
use mathlib.Core.Path.{◌≡◌, refl, ap, ap₂, sym, ◌∙◌}
use mathlib.Core.Logic.{if_pos}
use mathlib.Core.List.{List, [], ◌∷◌}
use Prim.Native.Nat.{ℕ, zero, suc, ◌+◌, ◌-◌, ◌≤◌, ◌<◌}
use native.Mathlib.Omega.{arith}
use native.Mathlib.Decide.{ℕ_discrete}
use lib.ListN.{length, get_or, drop, length-drop}
use lib.Seq.{get_or-drop, drop-drop}
use Rattle.mem_words.specs.declared.Word.{Word}
use Rattle.mem_words.specs.declared.Word.TheVariants.{Bad}
use Rattle.solve_begins.specs.Begins.{begins_of}
use Rattle.solve_tells.specs.Tells.{app_of, apps_of, apps_at, apps_in}

pub app_one : (W : List Word) (i b : ℕ) → b ≡ begins_of (get_or W i Bad) → b ≡ 3 → apps_at W i ≡ 1
unfolding app_of
app_one W i b e z = if_pos (ℕ_discrete (begins_of (get_or W i Bad)) 3) (sym e ∙ z) _ _

apps_snoc : (j : ℕ) (l : List Word) → j < length l → apps_of (suc j) l ≡ apps_of j l + app_of (get_or l j Bad)
unfolding apps_of
apps_snoc j [] h = absurd (omega arith)
apps_snoc zero (w ∷ l) h = omega arith
apps_snoc (suc j) (w ∷ l) h = let e = apps_snoc j l (omega arith) in omega (arith, e)

apps_add : (j k : ℕ) (l : List Word) → apps_of (j + k) l ≡ apps_of j l + apps_of k (drop j l)
unfolding apps_of
apps_add zero k l = let z : 0 + k ≡ k = omega arith in ap (λ (i : ℕ). apps_of i l) z ∙ omega arith
apps_add (suc j) k [] = let z : suc j + k ≡ suc (j + k) = omega arith in ap (λ (i : ℕ). apps_of i []) z ∙ sym (nil k)
  where
    nil : (k : ℕ) → 0 + apps_of k [] ≡ 0
    nil zero = refl
    nil (suc k) = refl
apps_add (suc j) k (w ∷ l) =
    let z : suc j + k ≡ suc (j + k) = omega arith in
    let e = apps_add j k l in
    ap (λ (i : ℕ). apps_of i (w ∷ l)) z ∙ omega (arith, e)

-- a range that ends one word later
pub apps_more : (W : List Word) (from i : ℕ) → from ≤ i → i < length W → apps_in W from (i + 1) ≡ apps_in W from i + apps_at W i
apps_more W from i h l =
    let e : i + 1 - from ≡ suc (i - from) = omega arith in
    let f : from + (i - from) ≡ i = omega arith in
    ap (λ (k : ℕ). apps_of k (drop from W)) e ∙ apps_snoc (i - from) (drop from W) (omega (arith, length-drop from W))
    ∙ ap (λ (w : Word). apps_of (i - from) (drop from W) + app_of w) (get_or-drop from W (i - from) Bad ∙ ap (λ (k : ℕ). get_or W k Bad) f)

-- a range in two
pub apps_split : (W : List Word) (from i to : ℕ) → from ≤ i → i ≤ to → apps_in W from to ≡ apps_in W from i + apps_in W i to
apps_split W from i to h l =
    let e : to - from ≡ (i - from) + (to - i) = omega arith in
    let f : from + (i - from) ≡ i = omega arith in
    ap (λ (k : ℕ). apps_of k (drop from W)) e ∙ apps_add (i - from) (to - i) (drop from W)
    ∙ ap (λ (r : List Word). apps_of (i - from) (drop from W) + apps_of (to - i) r) (drop-drop (i - from) from W ∙ ap (λ (k : ℕ). drop k W) f)
