-- A region of a store written: what it holds from its first byte on, and zeros up to its end. Assumes nothing.
use Rattle.std.specs.Prelude.{◌≡◌, refl, List, ◌++◌, ℕ, ◌+◌, ◌-◌, ◌≤◌, length, replicate, take, drop}
use Rattle.std.proofs.Common.{sym, ap, ap₂, ◌∙◌, append_assoc, arith, take-append-drop, length-take-le, drop-drop}
use Rattle.mem_copies.specs.Runs.{Copied, take_copied, drop_copied}
use Rattle.mem_parts.specs.Parts.{cut, Outside, Zeroed}
use Rattle.store_form.specs.Form.{region}

-- the region from a on up to e of L may be made to hold the first n bytes of S
pub record CanRegion (L : List ℕ) (a e : ℕ) (S : List ℕ) (n : ℕ) : Type 0 where
  pub room : a + n ≤ e
  pub end : e ≤ length L
  pub source : n ≤ length S

-- X is L, but the region from a on up to e holds S
pub record Regioned (L : List ℕ) (a e : ℕ) (S X : List ℕ) : Type 0 where
  pub list : X ≡ take a L ++ region (e - a) S (drop e L)
  pub long : length X ≡ length L

-- a list is what stands before a part of it, the part, and what stands behind
pub in_three : (p e : ℕ) (L : List ℕ) → p ≤ e → L ≡ take p L ++ (cut p e L ++ drop e L)
unfolding cut
in_three p e L h =
    let z : p + (e - p) ≡ e = omega arith in
    sym (ap (λ (r : List ℕ). take p L ++ (take (e - p) (drop p L) ++ r)) (ap (λ (k : ℕ). drop k L) (sym z) ∙ sym (drop-drop (e - p) p L))
    ∙ ap (λ (r : List ℕ). take p L ++ r) (take-append-drop (e - p) (drop p L))
    ∙ take-append-drop p L)

-- copied to its beginning, and zero behind
pub region_put : (L S : List ℕ) (a e n : ℕ) (Y X : List ℕ) → CanRegion L a e S n → Copied L a S n Y → Zeroed (a + n) e Y X → Regioned L a e (take n S) X
unfolding region
region_put L S a e n Y X can c z =
    let h = can.room in
    let g = can.end in
    let s = can.source in
    let long : length X ≡ length L = z.rest.long ∙ c.long in
    let first : take (a + n) X ≡ take a L ++ take n S = z.rest.before ∙ ap (take (a + n)) c.list ∙ take_copied L a S n (omega arith) s in
    let k : a + n + (e - (a + n)) ≡ e = omega arith in
    let on : (M : List ℕ) → drop e M ≡ drop (e - (a + n)) (drop (a + n) M) = λ M. ap (λ (j : ℕ). drop j M) (sym k) ∙ sym (drop-drop (e - (a + n)) (a + n) M) in
    let last : drop e X ≡ drop e L = z.rest.after ∙ on Y ∙ ap (drop (e - (a + n))) (ap (drop (a + n)) c.list ∙ drop_copied L a S n (omega arith) s) ∙ sym (on L) in
    let m : e - (a + n) ≡ e - a - length (take n S) = omega (arith, length-take-le n S s) in
    let mid : cut (a + n) e X ≡ replicate (e - a - length (take n S)) 0 = z.part ∙ ap (λ (j : ℕ). replicate j 0) m in
    record {
      list =
          in_three (a + n) e X h
          ∙ ap₂ (λ (x y : List ℕ). x ++ y) first (ap₂ (λ (x y : List ℕ). x ++ y) mid last)
          ∙ append_assoc (take a L) (take n S) (replicate (e - a - length (take n S)) 0 ++ drop e L);
      long = long;
    }
