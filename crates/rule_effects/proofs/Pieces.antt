-- The effects by positions that were found before: what code appends is the effect.
use mathlib.Core.Path.{◌≡◌, refl, ap, ap₂, sym, ◌∙◌}
use mathlib.Core.Bool.{Bool, true, false, cond}
use mathlib.Core.List.{List, [], ◌∷◌, ◌++◌, map}
use Prim.Native.Nat.{ℕ, ◌+◌}
use lib.ListN.{get_or, take, drop}
use Rattle.mem_words.specs.declared.Word.{Word}
use Rattle.mem_words.specs.declared.Word.TheVariants.{End, Place, Bad}
use Rattle.mem_sorts.specs.declared.Kind.TheVariants.{Or, Guarded, Member}
use Rattle.rule_words.specs.Scans.{close, around}
use Rattle.rule_words.specs.Pieces.{cut, cat}
use Rattle.rule_effects.specs.Effects.{composed, effect_3, flattened, effect_14, effect_7, committed, effect_8, effect_9, effect_10, effect_11, distributed, effect_13, parted, effect_12, told, begins_true, effect_1, promoted, effect_6, frees, fresh_4, revealed, effect_4, body_of, called, effect_2}
use Rattle.mem_copies.specs.Open.{open_word}

pub effect_3_is : (W : List Word) (i a b : ℕ) → a ≡ close W (i + 2) → b ≡ close W (a + 1) → take (i + 1) W ++ (cut (i + 2) (a + 1) W ++ ((End ∷ Place Member ∷ []) ++ (cut (a + 1) (b + 1) W ++ drop (b + 1 + 1) W))) ≡ effect_3 W i
unfolding effect_3 composed
effect_3_is W i a b p q = ap₂ (λ (x y : ℕ). composed W i (x + 1) (y + 1)) p (q ∙ ap (λ (x : ℕ). close W (x + 1)) p)

pub effect_14_is : (W : List Word) (i e : ℕ) → e ≡ close W i → take i W ++ (cut (i + 1) e W ++ drop (e + 1) W) ≡ effect_14 W i
unfolding effect_14 flattened
effect_14_is W i e p = ap (flattened W i) p

pub effect_7_is : (W : List Word) (i e c z : ℕ) → e ≡ close W i → c ≡ around W i → z ≡ close W c → take (e + 1) W ++ drop z W ≡ effect_7 W i
unfolding effect_7
effect_7_is W i e c z p q r = ap₂ (λ (x y : ℕ). take (x + 1) W ++ drop y W) p (r ∙ ap (close W) q)

pub effect_8_is : (W : List Word) (i e c z : ℕ) → e ≡ close W i → c ≡ around W i → z ≡ close W c → take (c + 1) W ++ (cut i (e + 1) W ++ drop z W) ≡ effect_8 W i
unfolding effect_8 committed
effect_8_is W i e c z p q r = ap₂ (λ (x y : ℕ). take (c + 1) W ++ (cut i (x + 1) W ++ drop y W)) p r ∙ ap (committed W i) q

pub effect_9_is : (W : List Word) (i e : ℕ) → e ≡ close W i → take i W ++ ((Place Or ∷ End ∷ []) ++ drop (e + 1) W) ≡ effect_9 W i
unfolding effect_9
effect_9_is W i e p = ap (λ (x : ℕ). take i W ++ ((Place Or ∷ End ∷ []) ++ drop (x + 1) W)) p

pub effect_10_is : (W : List Word) (i a : ℕ) → a ≡ around W i → effect_9 W a ≡ effect_10 W i
unfolding effect_10
effect_10_is W i a p = ap (effect_9 W) p

pub effect_11_is : (W : List Word) (i e : ℕ) → e ≡ close W i → take i W ++ drop (e + 1) W ≡ effect_11 W i
unfolding effect_11
effect_11_is W i e p = ap (λ (x : ℕ). take i W ++ drop (x + 1) W) p

pub effect_13_is : (W : List Word) (i q o e : ℕ) → q ≡ close W (i + 2) → o ≡ close W (i + 1) → e ≡ close W i → take (i + 1) W ++ (cut (i + 2) (q + 1) W ++ (cut (o + 1) (e + 1) W ++ ((Place Guarded ∷ Place Or ∷ []) ++ drop (q + 1) W))) ≡ effect_13 W i
unfolding effect_13 distributed
effect_13_is W i q o e p r s = ap₂ (λ (x y : ℕ). distributed W i (q + 1) (x + 1) (y + 1)) r s ∙ ap (λ (x : ℕ). distributed W i (x + 1) (close W (i + 1) + 1) (close W i + 1)) p

pub effect_12_is : (W : List Word) (i a q e j : ℕ) → a ≡ around W i → q ≡ close W (i + 1) → e ≡ close W i → j ≡ close W a → parted W i a (q + 1) e (j + 1) ≡ effect_12 W i
unfolding effect_12
effect_12_is W i a q e j p r s t =
    ap₂ (λ (x y : ℕ). parted W i a (x + 1) y (j + 1)) r s ∙ ap₂ (λ (x y : ℕ). parted W i x (close W (i + 1) + 1) (close W i) (y + 1)) p (t ∙ ap (close W) p)

pub parted_is : (W : List Word) (i a q e j : ℕ) → take a W ++ ((Place Or ∷ []) ++ (cut a q W ++ (cut e j W ++ (cut a (i + 1) W ++ (cut q j W ++ ((End ∷ []) ++ drop j W)))))) ≡ parted W i a q e j
unfolding parted
parted_is W i a q e j = refl

pub told_is : (W : List Word) (i s b e : ℕ) → take s W ++ (cut (i + 1) b W ++ (cut s i W ++ drop (e + 1) W)) ≡ told W i s b e
unfolding told
told_is W i s b e = refl

pub effect_1_is : (W : List Word) (i a u s b e : ℕ) → a ≡ around W i → u ≡ close W (a + 1) → s ≡ close W (u + 1) → e ≡ close W i → b ≡ cond (begins_true (get_or W (i + 1) Bad)) (i + 1) e → told W i s b e ≡ effect_1 W i
unfolding effect_1
effect_1_is W i a u s b e p q r t v =
    ap₂ (λ (x y : ℕ). told W i x y e) (r ∙ ap (λ (x : ℕ). close W (x + 1)) (q ∙ ap (λ (x : ℕ). close W (x + 1)) p)) v
    ∙ ap (λ (y : ℕ). told W i (close W (close W (around W i + 1) + 1)) (cond (begins_true (get_or W (i + 1) Bad)) (i + 1) y) y) t

pub promoted_is : (W : List Word) (i u s v t b c e : ℕ) → take u W ++ (cut (i + 4) v W ++ (cut u s W ++ (cut (v + 2) t W ++ (cut s i W ++ ((Place Member ∷ []) ++ (cut b c W ++ drop e W)))))) ≡ promoted W i u s v t b c e
unfolding promoted
promoted_is W i u s v t b c e = refl

-- what was found, one position after another
pub record Promotion (W : List Word) (i a u s v t g c e : ℕ) : Type 0 where
  pub box : a ≡ around W i
  pub locals : u ≡ close W (a + 1)
  pub store : s ≡ close W (u + 1)
  pub inner_locals : v ≡ close W (i + 2 + 1)
  pub inner_store : t ≡ close W (v + 1)
  pub guard : g ≡ close W (i + 2)
  pub body : c ≡ close W (g + 1)
  pub end : e ≡ close W i

pub effect_6_is : {W : List Word} {i a u s v t g c e : ℕ} → Promotion W i a u s v t g c e → promoted W i u s v t (g + 1) (c + 1) e ≡ effect_6 W i
unfolding effect_6
effect_6_is {W} {i} {a} {u} {s} {v} {t} {g} {c} {e} p =
    let d : ℕ → ℕ = λ x. close W (x + 1) in
    let hu : u ≡ d (around W i) = p.locals ∙ ap d p.box in
    let hs : s ≡ d (d (around W i)) = p.store ∙ ap d hu in
    let ht : t ≡ d (d (i + 2)) = p.inner_store ∙ ap d p.inner_locals in
    let hc : c ≡ d (close W (i + 2)) = p.body ∙ ap d p.guard in
    ap₂ (λ (x y : ℕ). promoted W i x y v t (g + 1) (c + 1) e) hu hs
    ∙ ap₂ (λ (x y : ℕ). promoted W i (d (around W i)) (d (d (around W i))) x y (g + 1) (c + 1) e) p.inner_locals ht
    ∙ ap₂ (λ (x y : ℕ). promoted W i (d (around W i)) (d (d (around W i))) (d (i + 2)) (d (d (i + 2))) (x + 1) (y + 1) e) p.guard hc
    ∙ ap (promoted W i (d (around W i)) (d (d (around W i))) (d (i + 2)) (d (d (i + 2))) (close W (i + 2) + 1) (d (close W (i + 2)) + 1)) p.end
