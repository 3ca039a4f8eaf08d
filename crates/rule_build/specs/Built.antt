-- Words built front to back in a lent slice that may be too short: pieces appended one after another. Assumes nothing.
use Rattle.std.specs.Prelude.{◌≡◌, refl, List, [], ◌∷◌, ◌++◌, ℕ, zero, suc, ◌+◌, ◌-◌, ◌<◌, ◌≤◌, length, get_or, set, take, drop}
use Rattle.std.proofs.Common.{ap, ap₂, sym, ◌∙◌, subst, append_assoc, append-nil, add-one, arith, length-append, length-drop, take-suc-set, length-take-le}
use Rattle.std.proofs.Math.Decide.{dec_lt}
use Rattle.mem_numbers.specs.Stored.{Stored}
use Rattle.mem_words.specs.declared.Word.{Word}
use Rattle.mem_words.specs.Words.{Small}
use Rattle.mem_copies.specs.Runs.{run, copied, Copied, take_copied, length_run}

-- The words X are the first r of O, where there is room for as many as cap; where there is none, r is more than cap.
pub record Built (cap : ℕ) (X : List Word) (r : ℕ) (O : List Word) : Type 0 where
  pub whole : length X ≤ cap → (r ≡ length X) × (take r O ≡ X)
  pub over : cap < length X → cap < r

-- O' is O with the piece written from `at` up to r; where it has no room, r is more than the length.
pub record Appended (O : List Word) (at : ℕ) (piece : List Word) (r : ℕ) (O' : List Word) : Type 0 where
  pub whole : at + length piece ≤ length O → (r ≡ at + length piece) × (take r O' ≡ take at O ++ piece)
  pub over : length O < at + length piece → length O < r
  pub long : length O' ≡ length O

-- what was appended from the front on is built
pub built : {O X O' : List Word} {r : ℕ} → Appended O 0 X r O' → Built (length O) X r O'
built {O} {X} {O'} {r} a = record { whole = λ h. let w = a.whole (omega arith) in (omega (arith, w.0), w.1); over = λ h. a.over (omega arith) }

pub built_as : {cap r : ℕ} {X O : List Word} (Y : List Word) → X ≡ Y → Built cap X r O → Built cap Y r O
built_as {cap} {r} {X} {O} Y e b = subst (λ (x : List Word). Built cap x r O) e b

-- a piece appended to what is built
pub more : {X O piece O' : List Word} {at r : ℕ} → Built (length O) X at O → Appended O at piece r O' → Built (length O) (X ++ piece) r O'
more {X} {O} {piece} {O'} {at} {r} b a =
    let n = length-append X piece in
    record {
      whole = λ h.
          let x = b.whole (omega (arith, n)) in
          let w = a.whole (omega (arith, n, x.0)) in
          (omega (arith, n, x.0, w.0), w.1 ∙ ap (λ (l : List Word). l ++ piece) x.1);
      over = λ h. go h (dec_lt (length O) (length X));
    }
  where
    go : length O < length (X ++ piece) → Dec (length O < length X) → length O < r
    go h (yes p) = a.over (omega (arith, b.over p))
    go h (no p) = a.over (omega (arith, length-append X piece, (b.whole (omega arith)).0))

-- one piece after another
pub then : {W X Y p q : List Word} {k i j : ℕ} → Appended W k p i X → Appended X i q j Y → Appended W k (p ++ q) j Y
then {W} {X} {Y} {p} {q} {k} {i} {j} a b =
    let n = length-append p q in
    record {
      whole = λ h.
          let x = a.whole (omega (arith, n)) in
          let w = b.whole (omega (arith, n, x.0, a.long)) in
          (omega (arith, n, x.0, w.0), w.1 ∙ ap (λ (l : List Word). l ++ q) x.1 ∙ append_assoc (take k W) p q);
      over = λ h. go h (dec_lt (length W) (k + length p));
      long = b.long ∙ a.long;
    }
  where
    go : length W < k + length (p ++ q) → Dec (length W < k + length p) → length W < j
    go h (yes e) = omega (arith, a.long, b.over (omega (arith, a.over e, a.long)))
    go h (no e) = omega (arith, a.long, b.over (omega (arith, length-append p q, a.long, (a.whole (omega arith)).0)))

pub appended_as : {W X p : List Word} {k i : ℕ} (q : List Word) → p ≡ q → Appended W k p i X → Appended W k q i X
appended_as {W} {X} {p} {k} {i} q e a = subst (λ (x : List Word). Appended W k x i X) e a

-- nothing is written where there is no room
pub no_room : (O piece : List Word) (at cap : ℕ) → cap ≡ length O → length O < at + length piece → Appended O at piece (cap + 1) O
no_room O piece at cap e h = record { whole = λ g. absurd (omega arith); over = λ g. omega arith; long = refl }

pub run_appended : (O W X : List Word) (at s m : ℕ) → s + m ≤ length W → at + m ≤ length O → Copied O at (drop s W) m X → Appended O at (run s m W) (at + m) X
unfolding run
run_appended O W X at s m hw ho c =
    let n = length_run s m W hw in
    record {
      whole = λ g. (omega (arith, n), ap (take (at + m)) c.list ∙ take_copied O at (drop s W) m (omega arith) (omega (arith, length-drop s W)));
      over = λ g. absurd (omega (arith, n));
      long = c.long;
    }

pub word_appended : (O X : List Word) (at : ℕ) (w : Word) → at < length O → Stored O at w X → Appended O at (w ∷ []) (at + 1) X
word_appended O X at w h s = record {
  whole = λ g. (refl, ap₂ take (add-one at) s.list ∙ take-suc-set O at w h);
  over = λ g. absurd (omega arith);
  long = s.long;
}
