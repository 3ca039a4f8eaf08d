-- Clauses appended one after another. Assumes nothing.
use Rattle.std.specs.Prelude.{◌≡◌, refl, Bool, true, false, cond, List, [], ◌∷◌, ◌++◌, ℕ, zero, suc, ◌+◌, ◌-◌, ◌<◌, ◌≤◌, length, get_or, take}
use Rattle.std.proofs.Common.{ap, ap₂, ◌∙◌, subst, append-nil, arith}
use Rattle.std.proofs.Math.Path.{sym}
use Rattle.std.proofs.Math.Decide.{dec_lt}
use Rattle.std.proofs.Math.ListN.{get_or-eq_default}
use Rattle.mem_words.specs.declared.Word.{Word}
use Rattle.mem_words.specs.declared.Word.TheVariants.{Bad}
use Rattle.rule_words.specs.Scans.{close}
use Rattle.rule_words.proofs.Loops.{close_inside}
use Rattle.rule_build.specs.Built.{Appended, then, appended_as}
use Rattle.rule_effects.specs.Effects.{behind, begins_clause, hides, frees, guarded_one, guarded_from, hidden_from}

abbrev pub here : List Word → ℕ → Bool
here W j = begins_clause (get_or W j Bad)

-- the guarded goal of the clause at j
abbrev pub goal : List Word → ℕ → ℕ → List Word
goal W j x = guarded_one W j (behind W (j + 2)) (behind W (behind W (j + 2))) (frees x (hides W j))

pub stop : (W : List Word) (f j x : ℕ) → here W j ≡ false → (guarded_from f W j x ≡ []) × (hidden_from f W j ≡ 0)
unfolding guarded_from hidden_from
stop W zero j x e = (refl, refl)
stop W (suc f) j x e = (ap (λ (b : Bool). cond b (goal W j x ++ guarded_from f W (behind W j) (x + hides W j)) []) e, ap (λ (b : Bool). cond b (hides W j + hidden_from f W (behind W j)) 0) e)

on : (W : List Word) (f j x : ℕ) → here W j ≡ true → (guarded_from (suc f) W j x ≡ goal W j x ++ guarded_from f W (behind W j) (x + hides W j)) × (hidden_from (suc f) W j ≡ hides W j + hidden_from f W (behind W j))
unfolding guarded_from hidden_from
on W f j x e = (ap (λ (b : Bool). cond b (goal W j x ++ guarded_from f W (behind W j) (x + hides W j)) []) e, ap (λ (b : Bool). cond b (hides W j + hidden_from f W (behind W j)) 0) e)

pub outside : (W : List Word) (j : ℕ) → length W ≤ j → here W j ≡ false
outside W j h = ap begins_clause (get_or-eq_default W Bad h)

-- a clause is inside, and the next is further on
inside : (W : List Word) (j : ℕ) → here W j ≡ true → j < close W j
inside W j e = go (dec_lt j (length W))
  where
    go : Dec (j < length W) → j < close W j
    go (yes h) = omega (arith, close_inside W j h)
    go (no h) = absurd (let z : true ≡ false = sym e ∙ outside W j (omega arith) in let y : ◌≡◌ {A = ℕ} 0 1 = cc in omega arith)

-- any bound that is large enough does
enough : (f g : ℕ) (W : List Word) (j x : ℕ) → length W ≤ f + j → length W ≤ g + j → (guarded_from f W j x ≡ guarded_from g W j x) × (hidden_from f W j ≡ hidden_from g W j)
enough zero g W j x a b = let e = outside W j (omega arith) in let p = stop W zero j x e in let q = stop W g j x e in (p.0 ∙ sym q.0, p.1 ∙ sym q.1)
enough (suc f) zero W j x a b = let e = outside W j (omega arith) in let p = stop W (suc f) j x e in let q = stop W zero j x e in (p.0 ∙ sym q.0, p.1 ∙ sym q.1)
enough (suc f) (suc g) W j x a b = go (here W j) refl (λ p q. enough f g W (behind W j) (x + hides W j) p q)
  where
    go : (t : Bool) → here W j ≡ t
        → (length W ≤ f + behind W j → length W ≤ g + behind W j → (guarded_from f W (behind W j) (x + hides W j) ≡ guarded_from g W (behind W j) (x + hides W j)) × (hidden_from f W (behind W j) ≡ hidden_from g W (behind W j)))
        → (guarded_from (suc f) W j x ≡ guarded_from (suc g) W j x) × (hidden_from (suc f) W j ≡ hidden_from (suc g) W j)
    go true e ih =
        let k = inside W j e in
        let i = ih (omega (arith, k)) (omega (arith, k)) in
        let p = on W f j x e in
        let q = on W g j x e in
        (p.0 ∙ ap (λ (l : List Word). goal W j x ++ l) i.0 ∙ sym q.0, p.1 ∙ ap (λ (m : ℕ). hides W j + m) i.1 ∙ sym q.1)
    go false e ih = let p = stop W (suc f) j x e in let q = stop W (suc g) j x e in (p.0 ∙ sym q.0, p.1 ∙ sym q.1)

-- what is left to do from j on
unfoldable pub left : List Word → ℕ → ℕ → List Word
left W j x = guarded_from (length W) W j x

unfoldable pub hidden : List Word → ℕ → ℕ
hidden W j = hidden_from (length W) W j

pub turn : (W : List Word) (j x : ℕ) → here W j ≡ true → (left W j x ≡ goal W j x ++ left W (behind W j) (x + hides W j)) × (hidden W j ≡ hides W j + hidden W (behind W j))
unfolding left hidden
turn W j x e =
    let k = inside W j e in
    let n : ℕ = length W in
    let a = enough n (suc n) W j x (omega arith) (omega arith) in
    let p = on W n j x e in
    (a.0 ∙ p.0, a.1 ∙ p.1)

-- the clauses from `from` on, appended to O₀ from `at` on up to the one at j: what is left is appended to O from k on
pub record Going (W : List Word) (from next : ℕ) (O₀ : List Word) (at j x k : ℕ) (O : List Word) : Type 0 where
  pub goes : {r : ℕ} {X : List Word} → Appended O k (left W j x) r X → Appended O₀ at (left W from next) r X
  pub number : x + hidden W j ≡ next + hidden W from

pub begun : (W : List Word) (from next : ℕ) (O : List Word) (at : ℕ) → Going W from next O at from next at O
begun W from next O at = record { goes = λ a. a; number = refl }

nothing_of : (A : List Word) (m : ℕ) → Appended A m [] m A
nothing_of A m = record { whole = λ h. (omega arith, sym (append-nil (take m A))); over = λ h. omega arith; long = refl }

module _ {W O₀ O : List Word} {from next at j x k : ℕ} where
  pub numbers_fit : (n : ℕ) (w : Word) (b : Bool) → Going W from next O₀ at j x k O → w ≡ get_or W j Bad → b ≡ begins_clause w → b ≡ true → n ≡ hides W j → next + hidden W from ≤ 65536 → x + n ≤ 65536
  numbers_fit n w b g e f t m h =
      let i : here W j ≡ true = ap begins_clause (sym e) ∙ sym f ∙ t in
      omega (arith, g.number, (turn W j x i).1, m, h)

  pub one_more : (n c r : ℕ) (X : List Word) (w : Word) (b : Bool) → Going W from next O₀ at j x k O → w ≡ get_or W j Bad → b ≡ begins_clause w → b ≡ true → n ≡ hides W j → c ≡ close W j → Appended O k (goal W j x) r X → Going W from next O₀ at (c + 1) (x + n) r X
  one_more n c r X w b g e f t m q a =
      let i : here W j ≡ true = ap begins_clause (sym e) ∙ sym f ∙ t in
      let p : c + 1 ≡ behind W j = ap (λ (y : ℕ). y + 1) q in
      let s : x + n ≡ x + hides W j = ap (λ (y : ℕ). x + y) m in
      let u : goal W j x ++ left W (c + 1) (x + n) ≡ left W j x = ap₂ (λ (y z : ℕ). goal W j x ++ left W y z) p s ∙ sym (turn W j x i).0 in
      let v : hidden W (c + 1) ≡ hidden W (behind W j) = ap (hidden W) p in
      record { goes = λ y. g.goes (appended_as _ u (then a y)); number = omega (arith, g.number, (turn W j x i).1, m, v) }

  pub at_last : (w : Word) (b : Bool) → Going W from next O₀ at j x k O → w ≡ get_or W j Bad → b ≡ begins_clause w → b ≡ false → Appended O₀ at (left W from next) k O
  unfolding left
  at_last w b g e f t = g.goes (appended_as _ (sym (stop W (length W) j x (ap begins_clause (sym e) ∙ sym f ∙ t)).0) (nothing_of O k))

  pub at_end : Going W from next O₀ at j x k O → length W ≤ j → Appended O₀ at (left W from next) k O
  unfolding left
  at_end g h = g.goes (appended_as _ (sym (stop W (length W) j x (outside W j h)).0) (nothing_of O k))

-- the positions in one clause
pub goal_is : (W : List Word) (j g b x n : ℕ) → g ≡ close W (j + 2) → b ≡ close W (g + 1) → n ≡ hides W j → guarded_one W j (g + 1) (b + 1) (frees x n) ≡ goal W j x
goal_is W j g b x n p q m =
    ap₂ (λ (y z : ℕ). guarded_one W j (y + 1) (z + 1) (frees x n)) p (q ∙ ap (λ (y : ℕ). close W (y + 1)) p)
    ∙ ap (λ (y : ℕ). guarded_one W j (behind W (j + 2)) (behind W (behind W (j + 2))) (frees x y)) m
