-- The brackets that are open, from one word of a goal to the next; the stores of those around its and-boxes. Assumes nothing.
use mathlib.Core.Path.{◌≡◌, refl, ap, sym, ◌∙◌, subst}
use mathlib.Core.Bool.{Bool, true, false}
use mathlib.Core.List.{List, [], ◌∷◌, ◌++◌, append_assoc, append-nil}
use Prim.Native.Nat.{ℕ, zero, suc, ◌+◌, ◌-◌, ◌≤◌, ◌<◌}
use native.Mathlib.Numerals.{add-one}
use native.Mathlib.Omega.{arith}
use native.Mathlib.Decide.{dec_lt}
use lib.ListN.{length, get_or, drop}
use Rattle.mem_words.specs.declared.Word.{Word}
use Rattle.mem_words.specs.declared.Word.TheVariants.{Bad}
use Rattle.rule_words.specs.Scans.{closes, deeper, opens, upto, close, around}
use Rattle.rule_words.proofs.Loops.{close_inside, upto_hit, upto_on}
use Rattle.rule_ranges.specs.Ranges.{Range, and_its, ranges_from}
use Rattle.rule_tells.proofs.Scanned.{none_left, next_around}
use Rattle.step_open.specs.Opened.{Chain, Ahead, Opened}
use Rattle.step_open.proofs.Turns.{false_true, opening_closes, opening_deeper, closing_closes, closing_deeper, plain_closes, plain_deeper, not_closing, around_in, around_out, around_on}

module _ (W : List Word) (g : ℕ) where
  pub opened_first : Opened W g g []
  unfolding Chain Ahead
  opened_first = record { chain = refl; ahead = tt }

  -- no more are open than words stand before the position
  pub chain_few : (j : ℕ) (os : List ℕ) → Chain W g j os → g + length os ≤ j
  unfolding Chain
  chain_few j [] c = omega (arith, c)
  chain_few j (o ∷ os) c = omega (arith, c.2, chain_few o os c.3)

  pub chain_from : (j : ℕ) (os : List ℕ) → Chain W g j os → g ≤ j
  chain_from j os c = omega (arith, chain_few j os c)

  module _ (j : ℕ) (low : j < length W) where
    -- behind a word that opens a bracket
    pub opened_in : (os : List ℕ) → opens (get_or W j Bad) 0 ≡ true → Opened W g j os → Opened W g (j + 1) (j ∷ os)
    unfolding Chain Ahead
    opened_in os e p = record { chain = (around_in W j e, chain_from j os p.chain, omega arith, p.chain); ahead = go os p.chain p.ahead }
      where
        go : (os : List ℕ) → Chain W g j os → Ahead W g j os → close W g ≡ j + 1 + upto (drop (j + 1) W) (length os)
        go [] c a = ap (close W) (sym c) ∙ close_inside W j low
        go (o ∷ os) c a =
            let q = upto_on W j (length os) (length os + 1) (get_or W j Bad) false low refl (opening_closes (get_or W j Bad) (length os) e) refl (opening_deeper (get_or W j Bad) (length os) e) in
            let r : length os + 1 ≡ suc (length os) = add-one (length os) in
            let s : upto (drop (j + 1) W) (length os + 1) ≡ upto (drop (j + 1) W) (suc (length os)) = ap (upto (drop (j + 1) W)) r in
            omega (arith, a, q, s)

    -- behind one that closes a bracket, before the goal's end
    pub opened_out : (o : ℕ) (os : List ℕ) → closes (get_or W j Bad) 0 ≡ true → j < close W g → Opened W g j (o ∷ os) → Opened W g (j + 1) os
    unfolding Chain Ahead
    opened_out o [] e h p = absurd (omega (arith, p.ahead, upto_hit W j 0 (get_or W j Bad) true low refl (sym e) refl))
    opened_out o (q ∷ os) e h p =
        let c = p.chain in
        let d = length os in
        let u = upto_on W j (suc d) (suc d - 1) (get_or W j Bad) false low refl (closing_closes (get_or W j Bad) (suc d) e (omega arith)) refl (closing_deeper (get_or W j Bad) (suc d) e) in
        let r : suc d - 1 ≡ d = omega arith in
        let s : upto (drop (j + 1) W) (suc d - 1) ≡ upto (drop (j + 1) W) d = ap (upto (drop (j + 1) W)) r in
        record {
          chain = (around_out W j e ∙ ap (around W) c.0 ∙ c.3.0, c.3.1, omega (arith, c.2, c.3.2), c.3.3);
          ahead = omega (arith, p.ahead, u, s);
        }

    -- behind any other
    pub opened_on : (o : ℕ) (os : List ℕ) → opens (get_or W j Bad) 0 ≡ false → closes (get_or W j Bad) 0 ≡ false → Opened W g j (o ∷ os) → Opened W g (j + 1) (o ∷ os)
    unfolding Chain Ahead
    opened_on o os e f p =
        let c = p.chain in
        let u = upto_on W j (length os) (length os) (get_or W j Bad) false low refl (plain_closes (get_or W j Bad) (length os) e f) refl (plain_deeper (get_or W j Bad) (length os) e f) in
        record { chain = (around_on W j e f ∙ c.0, c.1, omega (arith, c.2), c.3); ahead = omega (arith, p.ahead, u) }

  -- where none is open stands the goal's first word
  pub opened_none : (j : ℕ) → Opened W g j [] → j ≡ g
  unfolding Chain
  opened_none j p = p.chain

  -- so a word that opens nothing stands behind it
  pub opened_keep : opens (get_or W g Bad) 0 ≡ true → (j : ℕ) → j < length W → (os : List ℕ) → opens (get_or W j Bad) 0 ≡ false → closes (get_or W j Bad) 0 ≡ false → Opened W g j os → Opened W g (j + 1) os
  opened_keep first j low [] e f p = absurd (false_true (sym e ∙ ap (λ (x : ℕ). opens (get_or W x Bad) 0) (opened_none j p) ∙ first))
  opened_keep first j low (o ∷ os) e f p = opened_on j low o os e f p

  -- at the goal's end a bracket closes
  pub opened_last : (j : ℕ) (os : List ℕ) → j < length W → close W g ≡ j → g < j → Opened W g j os → closes (get_or W j Bad) 0 ≡ false → ⊥
  unfolding Chain Ahead
  opened_last j [] low e h p k = omega (arith, p.chain)
  opened_last j (o ∷ os) low e h p k =
      let q = upto_on W j (length os) (deeper (get_or W j Bad) (length os)) (get_or W j Bad) false low refl (not_closing (get_or W j Bad) (length os) k) refl refl in
      omega (arith, p.ahead, q)

  -- some are open at every position of the goal
  pub opened_at : opens (get_or W g Bad) 0 ≡ true → (k : ℕ) → g + k ≤ close W g → close W g < length W → (os : List ℕ) × Opened W g (g + k) os
  opened_at first zero h l = let e : g ≡ g + zero = omega arith in ([], subst (λ (x : ℕ). Opened W g x []) e opened_first)
  opened_at first (suc k) h l = go (opened_at first k (omega arith) l)
    where
      next : (x : ℕ) → (os : List ℕ) × Opened W g (x + 1) os → (os : List ℕ) × Opened W g (suc x) os
      next x p = (p.0, subst (λ (y : ℕ). Opened W g y p.0) (add-one x) p.1)

      step : (j : ℕ) → j < close W g → (os : List ℕ) → Opened W g j os → (b c : Bool) → opens (get_or W j Bad) 0 ≡ b → closes (get_or W j Bad) 0 ≡ c → (qs : List ℕ) × Opened W g (j + 1) qs
      step j m os p true c e f = (j ∷ os, opened_in j (omega (arith, l)) os e p)
      step j m [] p false c e f = absurd (false_true (sym e ∙ ap (λ (x : ℕ). opens (get_or W x Bad) 0) (opened_none j p) ∙ first))
      step j m (o ∷ os) p false true e f = (os, opened_out j (omega (arith, l)) o os f m p)
      step j m (o ∷ os) p false false e f = (o ∷ os, opened_on j (omega (arith, l)) o os e f p)

      go : (os : List ℕ) × Opened W g (g + k) os → (os : List ℕ) × Opened W g (g + suc k) os
      go p =
          let e : g + suc k ≡ suc (g + k) = omega arith in
          let q = next (g + k) (step (g + k) (omega arith) p.0 p.1 (opens (get_or W (g + k) Bad) 0) (closes (get_or W (g + k) Bad) 0) refl refl) in
          (q.0, subst (λ (y : ℕ). Opened W g y q.0) (sym e) q.1)

  -- behind the goal's first word: one that closes nothing stands before the goal's end, and what is around it is in the goal
  module _ (first : opens (get_or W g Bad) 0 ≡ true) (whole : close W g < length W) (j : ℕ) (from : g < j) (to : j ≤ close W g) where
    here_open : (os : List ℕ) × Opened W g j os
    here_open =
        let e : g + (j - g) ≡ j = omega arith in
        subst (λ (x : ℕ). (os : List ℕ) × Opened W g x os) e (opened_at first (j - g) (omega arith) whole)

    pub inside_more : closes (get_or W j Bad) 0 ≡ false → j < close W g
    inside_more k = go (dec_lt j (close W g))
      where
        go : Dec (j < close W g) → j < close W g
        go (yes h) = h
        go (no h) = absurd (opened_last j here_open.0 (omega arith) (omega arith) from here_open.1 k)

    pub inside_around : (g ≤ around W j) × (around W j < j)
    unfolding Chain
    inside_around = go here_open.0 here_open.1.chain
      where
        go : (os : List ℕ) → Chain W g j os → (g ≤ around W j) × (around W j < j)
        go [] c = absurd (omega (arith, c))
        go (o ∷ os) c = (omega (arith, c.0, c.1), omega (arith, c.0, c.2))

  -- the stores around a position are those of the brackets, one after the other
  pub chain_next : (j o : ℕ) (os : List ℕ) → Chain W g j (o ∷ os) → ranges_from W g j ≡ and_its W o [] ++ ranges_from W g o
  unfolding Chain
  chain_next j o os c = next_around W g j o (sym c.0) (omega (arith, c.1, c.2)) c.1

  -- and then those around the goal
  pub chain_all : (j : ℕ) (os : List ℕ) → Chain W g j os → ranges_from W 0 j ≡ ranges_from W g j ++ ranges_from W 0 g
  unfolding Chain
  chain_all j [] c = ap (ranges_from W 0) c ∙ ap (λ (rs : List Range). rs ++ ranges_from W 0 g) (sym (none_left W g j (omega (arith, c))))
  chain_all j (o ∷ os) c =
      next_around W 0 j o (sym c.0) (omega (arith, c.2)) (omega arith)
      ∙ ap (λ (rs : List Range). and_its W o [] ++ rs) (chain_all o os c.3)
      ∙ sym (append_assoc (and_its W o []) (ranges_from W g o) (ranges_from W 0 g))
      ∙ ap (λ (rs : List Range). rs ++ ranges_from W 0 g) (sym (chain_next j o os c))

-- the bracket that opens at j alone
pub range_one : (W : List Word) (j : ℕ) → opens (get_or W j Bad) 0 ≡ true → ranges_from W j (j + 1) ≡ and_its W j []
range_one W j e = next_around W j (j + 1) j (sym (around_in W j e)) (omega arith) (omega arith) ∙ ap (λ (rs : List Range). and_its W j [] ++ rs) (none_left W j j (omega arith)) ∙ append-nil (and_its W j [])
