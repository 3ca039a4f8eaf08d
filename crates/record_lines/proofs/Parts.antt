-- A part of the lent slice that came back with a text at its beginning, or as it was: the whole slice with that text put. Assumes nothing.
use mathlib.Core.Path.{◌≡◌, refl, sym, ap, ◌∙◌}
use mathlib.Core.List.{List, ◌++◌, append_assoc}
use mathlib.Core.Bool.{true}
use Prim.Native.Nat.{ℕ, ◌+◌, ◌-◌, ◌≤◌}
use native.Mathlib.Omega.{arith}
use lib.ListN.{length, take, drop, take-append-drop, length-drop}
use lib.Seq.{length-take-le, drop-append-le, drop-drop}
use borrow.Rule.Slice.PartMut.{put_mid, post_of}
use Rattle.mem_parts.specs.Parts.{cut}
use Rattle.answer_emit.specs.Put.{put}

module _ (lo hi : ℕ) (O : List ℕ) (h : lo ≤ hi) (g : hi ≤ length O) where
  pub cut_long : length (cut lo hi O) ≡ hi - lo
  unfolding cut
  cut_long = length-take-le (hi - lo) (drop lo O) (omega (arith, length-drop lo O))

  -- what stands behind the first k bytes of the part, and behind the part, is what stands behind lo + k
  behind : (k : ℕ) → k ≤ hi - lo → drop k (cut lo hi O) ++ post_of lo (hi - lo) O ≡ drop (lo + k) O
  unfolding cut
  behind k l =
      sym (drop-append-le k (take (hi - lo) (drop lo O)) (drop (hi - lo) (drop lo O)) (omega (arith, length-take-le (hi - lo) (drop lo O) (omega (arith, length-drop lo O)))))
      ∙ ap (drop k) (take-append-drop (hi - lo) (drop lo O))
      ∙ drop-drop k lo O

  pub part_put : (t part : List ℕ) → length t ≤ hi - lo → part ≡ t ++ drop (length t) (cut lo hi O) → put_mid lo (hi - lo) O part ≡ put true t lo O
  unfolding put
  part_put t part l e =
      ap (λ (y : List ℕ). take lo O ++ (y ++ post_of lo (hi - lo) O)) e
      ∙ ap (λ (y : List ℕ). take lo O ++ y) (append_assoc t (drop (length t) (cut lo hi O)) (post_of lo (hi - lo) O) ∙ ap (λ (y : List ℕ). t ++ y) (behind (length t) l))

  pub part_same : (part : List ℕ) → part ≡ cut lo hi O → put_mid lo (hi - lo) O part ≡ O
  unfolding cut
  part_same part e =
      ap (λ (y : List ℕ). take lo O ++ (y ++ post_of lo (hi - lo) O)) e
      ∙ ap (λ (y : List ℕ). take lo O ++ y) (take-append-drop (hi - lo) (drop lo O))
      ∙ take-append-drop lo O
