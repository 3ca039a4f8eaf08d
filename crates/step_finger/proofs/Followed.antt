-- From the words that stay to a finger in what a rule leads to. Assumes nothing.
use mathlib.Core.Path.{◌≡◌, refl, sym, ap, ◌∙◌}
use mathlib.Core.Bool.{Bool, true, false, cond}
use mathlib.Core.List.{List, [], ◌∷◌}
use Prim.Native.Nat.{ℕ, zero, suc, ◌+◌, ◌-◌, ◌*◌, ◌≤◌, ◌<◌}
use native.Mathlib.Omega.{arith}
use lib.ListN.{length, take, drop, get_or, length-take, length-drop}
use lib.Seq.{take-take, get_or-take, get_or-drop}
use Rattle.mem_words.specs.declared.Word.{Word}
use Rattle.mem_words.specs.declared.Word.TheVariants.{Bad}
use Rattle.mem_words.specs.Words.{words, length_words}
use Rattle.mem_parts.specs.Parts.{cut}
use Rattle.mem_tallies.specs.Tallies.{total}
use Rattle.store_words.specs.Contexts.{place_at}
use Rattle.rule_words.specs.Scans.{around, up, opens, higher}
use Rattle.rule_rewrite.specs.Rewriting.{effect_words}
use Rattle.rule_places.specs.declared.Finger.{Finger}
use Rattle.rule_places.specs.Pieces.{place_one}
use Rattle.rule_places.specs.Fingers.{Points, points_first, points_kept, before_place}
use Rattle.step_parts.proofs.Cuts.{words_mid}
use Rattle.step_finger.specs.Following.{KeepsFront, KeepsOuter, Stays, Follows}

-- words that begin with the same i words begin with the same fewer
fewer : (q i : ℕ) (X W : List Word) → q ≤ i → take i X ≡ take i W → take q X ≡ take q W
fewer q i X W h e = sym (take-take q i X h) ∙ ap (take q) e ∙ take-take q i W h

module _ (W : List Word) (r i : ℕ) (l : i ≤ length W) where
  pub stays_front : (q : ℕ) → KeepsFront r → q ≤ i → Stays W r i q
  stays_front q k h = record { same = λ D next. fewer q i (effect_words W D r i next) W h (k.same W D i next l) }

  pub stays_outer : (q : ℕ) → KeepsOuter r → q ≤ around W i → Stays W r i q
  stays_outer q k h = record { same = λ D next. fewer q (around W i) (effect_words W D r i next) W h (k.same W D i next l) }

  pub follows_near : (f : Finger) → Points W f → Stays W r i f.at → Follows W r i f
  follows_near f p s = record {
    points = λ D next.
        let e = s.same D next in
        points_kept W (effect_words W D r i next) f p e (omega (arith, ap length e, length-take f.at W, length-take f.at (effect_words W D r i next), p.inside));
  }

  pub follows_there : (p : ℕ) → i ≡ place_at W p → i < length W → KeepsFront r → Follows W r i (record { at = i; before = p })
  follows_there p e g k = follows_near (record { at = i; before = p }) (record { inside = l; counted = sym (ap (λ (k : ℕ). total place_one (take k W)) e ∙ before_place W p (omega (arith, e, g))) }) (stays_front i k (omega arith))

  pub follows_first : Follows W r i (record { at = 0; before = 0 })
  follows_first = record { points = λ D next. points_first (effect_words W D r i next) }

-- A bracket that is found among the words from q on is the one that is found among all.
pub up_within : (q j : ℕ) (W X : List Word) (d : ℕ) → ((k : ℕ) → k < j → get_or X k Bad ≡ get_or W (q + k) Bad) → 0 < up j X d → up (q + j) W d ≡ q + up j X d
unfolding up
up_within q zero W X d s h = absurd (omega arith)
up_within q (suc j) W X d s h =
    let e : q + suc j ≡ suc (q + j) = omega arith in
    ap (λ (k : ℕ). up k W d) e ∙ go (opens (get_or X j Bad) d) refl h (up_within q j W X (higher (get_or X j Bad) d) (λ k g. s k (omega arith)))
  where
    w : get_or X j Bad ≡ get_or W (q + j) Bad
    w = s j (omega arith)

    go : (b : Bool) → opens (get_or X j Bad) d ≡ b → 0 < cond b j (up j X (higher (get_or X j Bad) d)) → (0 < up j X (higher (get_or X j Bad) d) → up (q + j) W (higher (get_or X j Bad) d) ≡ q + up j X (higher (get_or X j Bad) d))
        → cond (opens (get_or W (q + j) Bad) d) (q + j) (up (q + j) W (higher (get_or W (q + j) Bad) d)) ≡ q + cond b j (up j X (higher (get_or X j Bad) d))
    go true e g rec = ap (λ (v : Word). cond (opens v d) (q + j) (up (q + j) W (higher v d))) (sym w) ∙ ap (λ (b : Bool). cond b (q + j) (up (q + j) W (higher (get_or X j Bad) d))) e
    go false e g rec = ap (λ (v : Word). cond (opens v d) (q + j) (up (q + j) W (higher v d))) (sym w) ∙ ap (λ (b : Bool). cond b (q + j) (up (q + j) W (higher (get_or X j Bad) d))) e ∙ rec g

-- so it opens at q or behind it
pub opens_within : (l : List ℕ) (q i o : ℕ) → q ≤ i → i ≤ length (words l) → o ≡ around (words (cut (3 * q) (3 * i) l)) (i - q) → 0 < o → q ≤ around (words l) i
unfolding around cut
opens_within l q i o h g e p =
    let X = words (take (3 * i - 3 * q) (drop (3 * q) l)) in
    let n : 3 * i - 3 * q ≡ 3 * (i - q) = omega arith in
    let x : X ≡ take (i - q) (drop q (words l)) = ap (λ (k : ℕ). words (take k (drop (3 * q) l))) n ∙ words_mid l q (i - q) (omega (arith, length_words l)) in
    let s : (k : ℕ) → k < i - q → get_or X k Bad ≡ get_or (words l) (q + k) Bad =
    λ k m. ap (λ (Z : List Word). get_or Z k Bad) x ∙ get_or-take (i - q) (drop q (words l)) k Bad m ∙ get_or-drop q (words l) k Bad in
    let j : q + (i - q) ≡ i = omega arith in
    omega (arith, up_within q (i - q) (words l) X 0 s (omega (arith, e, p)), ap (λ (k : ℕ). up k (words l) 0) j)

pub part_long : (l : List ℕ) (q i : ℕ) → q ≤ i → i ≤ length (words l) → i - q ≤ length (words (cut (3 * q) (3 * i) l))
unfolding cut
part_long l q i h g =
    let L = take (3 * i - 3 * q) (drop (3 * q) l) in
    omega (arith, length_words L, length_words l, length-take (3 * i - 3 * q) (drop (3 * q) l), length-drop (3 * q) l)
