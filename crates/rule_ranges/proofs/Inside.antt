-- A position inside a bracket: what is open around it is that bracket or one inside it. For any words.
use mathlib.Core.Path.{◌≡◌, refl, ap, ap₂, sym, ◌∙◌}
use mathlib.Core.Logic.{◌⊎◌, inl, inr}
use mathlib.Core.Bool.{Bool, true, false, cond}
use mathlib.Core.List.{List, [], ◌∷◌, ◌++◌, append_assoc}
use Prim.Native.Nat.{ℕ, zero, suc, ◌+◌, ◌-◌, ◌≤◌, ◌<◌}
use native.Mathlib.Numerals.{add-one}
use native.Mathlib.Omega.{arith}
use lib.ListN.{length, get_or, take, drop, length-append, take-append-drop}
use lib.Seq.{get_or-append_seam, drop-append-add, length-take-le}
use Rattle.mem_words.specs.declared.Word.{Word}
use Rattle.mem_words.specs.declared.Word.TheVariants.{End, Free, Level, Num, Place, Inner, Bad}
use Rattle.rule_words.specs.Scans.{closes, deeper, upto, close, opens, higher, up, around}
use Rattle.rule_words.proofs.Loops.{close_inside, around_is, upto_le, up_le}
use Rattle.rule_words.proofs.Balance.{Opening}

-- the bracket around a position opens before it
pub around_before : (W : List Word) (i : ℕ) → around W (suc i) ≤ i
unfolding around up
around_before W i = go (opens (get_or W i Bad) 0) (up_le i W (higher (get_or W i Bad) 0))
  where
    go : (b : Bool) → up i W (higher (get_or W i Bad) 0) ≤ i → cond b i (up i W (higher (get_or W i Bad) 0)) ≤ i
    go true h = omega arith
    go false h = h

up_step : (A C W : List Word) (w : Word) (d : ℕ) → W ≡ A ++ (w ∷ C) → up (suc (length A)) W d ≡ cond (opens w d) (length A) (up (length A) W (higher w d))
unfolding up
up_step A C W w d e = ap (λ (x : Word). cond (opens x d) (length A) (up (length A) W (higher x d))) (ap (λ (l : List Word). get_or l (length A) Bad) e ∙ get_or-append_seam A w C Bad)

-- d brackets are open forwards before the word, and u were closed backwards behind it: the word opens the bracket sought, or as
-- many are closed before it as there may be
turn : (w : Word) (d e u : ℕ) → closes w d ≡ false → u ≤ e + deeper w d → (opens w u ≡ true) ⊎ ((opens w u ≡ false) × (higher w u ≤ e + d))
turn End zero e u c h = let z : ◌≡◌ {A = ℕ} 1 0 = ap (λ (b : Bool). cond b 1 0) c in absurd (omega (arith, z))
turn End (suc d) e u c h = inr (refl, omega (arith, h))
turn (Free v) d e u c h = inr (refl, h)
turn (Level v) d e u c h = inr (refl, h)
turn (Num v) d e u c h = inr (refl, h)
turn (Place k) d e zero c h = inl refl
turn (Place k) d e (suc u) c h = inr (refl, omega (arith, h))
turn (Inner s) d e zero c h = inl refl
turn (Inner s) d e (suc u) c h = inr (refl, omega (arith, h))
turn Bad d e u c h = inr (refl, h)

-- what the scan backwards over B comes to, from e closed brackets on: it stops in B, or goes on before B with few of them closed
Comes : List Word → ℕ → List Word → ℕ → ℕ → Type 0
Comes A i W d e = (length A ≤ up i W e) ⊎ ((u : ℕ) × (u ≤ e + d) × (up i W e ≡ up (length A) W u))

-- where no word of B closes the bracket that d others are open in before B
comes : (B A C W : List Word) (d e i : ℕ) → W ≡ A ++ (B ++ C) → length B ≤ upto (B ++ C) d → i ≡ length A + length B → Comes A i W d e
unfolding Comes upto
comes [] A C W d e i w h p = let q : i ≡ length A = omega (arith, p) in inr (e, omega arith, ap (λ (k : ℕ). up k W e) q)
comes (x ∷ B) A C W d e i w h p = first (comes B (A ++ (x ∷ [])) C W (deeper x d) e i (w ∙ sym (append_assoc A (x ∷ []) (B ++ C)))) (closes x d) refl h
  where
    n : length (A ++ (x ∷ [])) ≡ suc (length A)
    n = length-append A (x ∷ []) ∙ add-one (length A)

    second : (u : ℕ) → u ≤ e + deeper x d → closes x d ≡ false → up i W e ≡ up (length (A ++ (x ∷ []))) W u → Comes A i W d e
    second u q c g = third (turn x d e u c q)
      where
        s : up i W e ≡ cond (opens x u) (length A) (up (length A) W (higher x u))
        s = g ∙ ap (λ (k : ℕ). up k W u) n ∙ up_step A (B ++ C) W x u w

        third : (opens x u ≡ true) ⊎ ((opens x u ≡ false) × (higher x u ≤ e + d)) → Comes A i W d e
        third (inl o) = let z : up i W e ≡ length A = s ∙ ap (λ (b : Bool). cond b (length A) (up (length A) W (higher x u))) o in inl (omega (arith, z))
        third (inr o) = inr (higher x u, o.1, s ∙ ap (λ (b : Bool). cond b (length A) (up (length A) W (higher x u))) o.0)

    fourth : closes x d ≡ false → Comes (A ++ (x ∷ [])) i W (deeper x d) e → Comes A i W d e
    fourth c (inl q) = inl (omega (arith, q, n))
    fourth c (inr q) = second q.0 q.1 c q.2

    first : (length B ≤ upto (B ++ C) (deeper x d) → i ≡ length (A ++ (x ∷ [])) + length B → Comes (A ++ (x ∷ [])) i W (deeper x d) e) → (b : Bool) → closes x d ≡ b → suc (length B) ≤ cond b 0 (suc (upto (B ++ C) (deeper x d)))
        → Comes A i W d e
    first f true c q = absurd (omega (arith, q))
    first f false c q = fourth c (f (omega (arith, q)) (omega (arith, p, n)))

-- The bracket that opens at g with w: at a position up to its End, what is open begins at g or behind it.
pub around_inside : (A R W : List Word) (w : Word) (g k : ℕ) → Opening w → W ≡ A ++ (w ∷ R) → g ≡ length A → g < k → k ≤ close W g → g ≤ around W k
unfolding Comes
around_inside A R W w g k o e h l m = last (comes B A1 C W 0 0 k w2 (omega (arith, nB, cl, ap (λ (l : List Word). upto l 0) r, ap (λ (l : List Word). upto l 0) (take-append-drop (k - (g + 1)) R))) (omega (arith, nB, n1)))
  where
    A1 : List Word
    A1 = A ++ (w ∷ [])

    B : List Word
    B = take (k - (g + 1)) R

    C : List Word
    C = drop (k - (g + 1)) R

    n : length W ≡ length A + suc (length R)
    n = ap length e ∙ length-append A (w ∷ R)

    n1 : length A1 ≡ suc (length A)
    n1 = length-append A (w ∷ []) ∙ add-one (length A)

    r : drop (g + 1) W ≡ R
    r = ap₂ drop (ap (λ (k : ℕ). k + 1) h) e ∙ drop-append-add A (w ∷ R) 1

    cl : close W g ≡ g + 1 + upto (drop (g + 1) W) 0
    cl = close_inside W g (omega (arith, n, h))

    low : upto R 0 ≤ length R
    low = upto_le R 0

    nB : length B ≡ k - (g + 1)
    nB = length-take-le (k - (g + 1)) R (omega (arith, low, cl, m, ap (λ (l : List Word). upto l 0) r))

    w2 : W ≡ A1 ++ (B ++ C)
    w2 = e ∙ sym (append_assoc A (w ∷ []) R) ∙ ap (λ (l : List Word). A1 ++ l) (sym (take-append-drop (k - (g + 1)) R))

    last : Comes A1 k W 0 0 → g ≤ around W k
    last (inl q) = let a = around_is W k in omega (arith, q, a, n1, h)
    last (inr q) =
        let z : q.0 ≡ 0 = let q1 = q.1 in omega (arith, q1) in
        let t : around W k ≡ length A =
        sym (around_is W k) ∙ q.2 ∙ ap₂ (λ (i u : ℕ). up i W u) n1 z ∙ up_step A R W w 0 e ∙ ap (λ (b : Bool). cond b (length A) (up (length A) W (higher w 0))) o.found in
        omega (arith, t, h)
