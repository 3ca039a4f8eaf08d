-- Room for a run of words that is opened. Assumes nothing.
use Rattle.std.specs.Prelude.{◌≡◌, refl, List, map, ℕ, ◌+◌, ◌-◌, ◌<◌, ◌≤◌, length}
use Rattle.std.proofs.Common.{ap, sym, ◌∙◌, arith}
use Rattle.std.proofs.lemmas.List.{length-map}
use Rattle.mem_words.specs.declared.Word.{Word}
use Rattle.mem_words.specs.declared.Word.TheVariants as word
use Rattle.mem_copies.specs.Open.{Kept}
use Rattle.mem_copies.specs.Runs.{run, Copied, length_run}
use Rattle.rule_words.specs.Pieces.{cut}
use Rattle.rule_build.specs.Built.{Appended, appended_as, no_room}
use Rattle.rule_build.specs.Cuts.{Least, cut_clamp}

-- m words of W from s on go to O from `at` on, and n variables from `next` on have numbers that fit a word
pub record Fits (W : List Word) (s m next n : ℕ) (O : List Word) (at : ℕ) : Type 0 where
  pub source : s + m ≤ length W
  pub room : at + m ≤ length O
  pub numbers : next + n ≤ 65536

module _ (f : Word → Word) (W : List Word) (a b s e c : ℕ) (l : c ≡ length W) (p : Least b c e) (q : Least a e s) where
  pub clamped : {O X : List Word} {at r : ℕ} → Appended O at (map f (run s (e - s) W)) r X → Appended O at (map f (cut a b W)) r X
  clamped x = appended_as _ (ap (map f) (cut_clamp a b s e c W l p q)) x

  pub no_room_mapped : (O : List Word) (at cap : ℕ) → cap ≡ length O → length O < at + (e - s) → Appended O at (map f (cut a b W)) (cap + 1) O
  no_room_mapped O at cap h g =
      let i : s + (e - s) ≤ length W = omega (arith, l, p.right, q.right) in
      clamped (no_room O (map f (run s (e - s) W)) at cap h (omega (arith, g, length-map (run s (e - s) W) f, length_run s (e - s) W i)))

-- a word that is no level is kept
pub kept_other : (w : Word) → ((l : ℕ) → w ≡ word.Level l → ⊥) → Kept w
kept_other word.End h = tt
kept_other (word.Free v) h = tt
kept_other (word.Level l) h = h l refl
kept_other (word.Num v) h = tt
kept_other (word.Place k) h = tt
kept_other (word.Inner s) h = tt
kept_other word.Bad h = tt
